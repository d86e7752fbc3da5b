use Rattle.std.proofs.Common.{rules, ◌≡◌, ◌∷◌, ◌++◌, [], List, map, length, sym, subst}
use Rattle.atomic_table.specs.Table.{opening}
use Rattle.journal_core.specs.Books.{Chronicle}
use Rattle.lock_moves.specs.declared.content.Content.{Content}
use Rattle.lock_moves.specs.declared.content.Content.TheVariants.{Value, Ledger}
use Rattle.lock_moves.specs.SeatSight.{view_opening}
use Rattle.lock_moves.specs.Agreement.{Agrees}
use Rattle.lock_moves.proofs.Opening.{agrees_first}
use Rattle.lock_moves.proofs.set.LockSet.open.Goals as goal

pub new-requires : goal.new-requires
new-requires g c = let b = c.args.book in
    let slots : c.in_ok-slots.slots.items ≡ map Value c.args.values.items ++ Ledger b ∷ [] = search rules in
    let about : c.of-about.result.value ≡ b = c.of-about.ensures in
    subst (λ (z : Chronicle × List (Content g.row.V.Denot)). Agrees g.V.Part.part g.V.Part.suits z.0.input z.0.limit (length z.0.history) (opening c.words_of-words.result z.1 (view_opening z.0))) (λ i. (sym about i, sym slots i))
    (agrees_first g.V.Part.part g.V.Part.suits b c.args.values.items c.words_of-words.result c.requires.parts (record { run = c.tell.ensures.run; names = c.requires.once }) (search rules))
