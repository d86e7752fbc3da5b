use Rattle.std.proofs.Common.{◌≡◌, ◌++◌, ◌∷◌, [], List, sym, ap, ◌∙◌, subst}
use Rattle.sched_model.specs.declared.event.Entry.{Entry}
use Rattle.lock_moves.specs.SeatSight.{Seen, Sitting, committed_view}
use Rattle.hall.specs.Steps.{KnowsAfter, deciding_view}
use Rattle.hall.proofs.Entering.{knows-committed}
use Rattle.hall.proofs.book.add_and_put_back.Goals as goal

pub returns-clause-knows : goal.returns-clause-knows
returns-clause-knows c =
    let h : List Entry = c.args.book.history ++ c.args.entry ∷ [] in
    let old : Seen = c.args.seat.now.view in
    let v : Seen = deciding_view c.args.entry.event old in
    let after : KnowsAfter h v (committed_view h v) = knows-committed h v in
    let named : c.add_entry.new.seat.view ≡ v = ap (λ (s : Sitting). s.view) c.add_entry.ensures.seat in
    let is : c.commit.new.seat.view ≡ committed_view h v = ap (λ (s : Sitting). s.view) c.commit.ensures ∙ (λ i. committed_view (c.add_entry.ensures.history i) (named i)) in
    subst (KnowsAfter h old) (sym is) (record { some = after.some; none = after.none; book = after.book; now = after.now })
