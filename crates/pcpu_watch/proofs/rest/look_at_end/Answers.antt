use Rattle.std.proofs.Common.{◌∙◌, ◌+◌, take, sym, subst, refl, arith}
use Rattle.pcpu_watch.specs.declared.looks.Look.{Look}
use Rattle.pcpu_watch.specs.Looks.{LookList, LooksSoFar}
use Rattle.pcpu_watch.proofs.Resting.{looks-behind, looks-within}
use Rattle.pcpu_watch.proofs.rest.look_at_end.Goals as goal

pub returns-then-opens_next-clause-looks : goal.returns-then-opens_next-clause-looks
returns-then-opens_next-clause-looks c =
    let h = c.args.book.now.history in
    let look : Look = record { entries = c.from.result + 1; moment = c.get-entry.result.at } in
    subst (λ (l : LookList). LooksSoFar (take (c.args.place + 1) h) l.items) (sym c.push.ensures)
    (looks-behind h c.args.place c.get-entry.result c.get-entry.ensures c.args.looks.now.items c.requires.looks look (let from = c.from.ensures in omega (arith, from)) refl (sym c.opens_next.ensures ∙ c.if-opens_next.true))

pub returns-else-opens_next-clause-looks : goal.returns-else-opens_next-clause-looks
returns-else-opens_next-clause-looks c =
    looks-within c.args.book.now.history c.args.place c.get-entry.result c.get-entry.ensures c.args.looks.now.items c.requires.looks (sym c.opens_next.ensures ∙ c.if-opens_next.false)
