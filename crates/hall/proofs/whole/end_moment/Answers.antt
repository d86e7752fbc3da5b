use Rattle.std.proofs.Common.{◌++◌, ◌∷◌, [], ℕ, refl, sym, subst, arith}
use mathlib.Core.Logic.{dite}
use native.Mathlib.Decide.{dec_lt}
use Rattle.sched_model.specs.declared.event.Entry.{Entry}
use Rattle.sched_model.specs.declared.event.Event.TheVariants as event
use Rattle.lock_moves.specs.Plays.{Kept, Placed}
use Rattle.lock_moves.specs.SeatSight.{Holds, Sitting}
use Rattle.hall.specs.Steps.{KnowsAfter}
use Rattle.hall.proofs.Resting.{end-next, end-now, kept-quiet, locks-quiet, placed-quiet}
use Rattle.hall.proofs.whole.end_moment.Goals as goal

pub set_now-requires-clause-all : goal.set_now-requires-clause-all
set_now-requires-clause-all c = λ k low. dite (dec_lt k 17)
    (λ part. c.requires.all k part)
    (λ last. subst (λ (j : ℕ). Holds j c.args.seat.now.view) (omega (arith, low, last)) c.requires.has.holds)

pub add_and_put_back-requires-clause-next : goal.add_and_put_back-requires-clause-next
add_and_put_back-requires-clause-next c = end-next c.args.set.now c.args.book c.args.seat.now c.requires.has c.requires.current c.args.t c.requires.now c.requires.goes c.requires.nothing c.args.next c.requires.next

pub add_and_put_back-requires-clause-kept : goal.add_and_put_back-requires-clause-kept
add_and_put_back-requires-clause-kept c =
    let e : Entry = record { at = c.args.t; event = event.End c.args.next } in
    subst (λ (x : Sitting). Kept x.view (c.args.book.history ++ e ∷ [])) (sym c.set_now.ensures)
    (kept-quiet c.args.set.now c.args.book c.args.seat.now c.requires.has c.requires.current c.args.t c.requires.now e refl)

pub add_and_put_back-requires-clause-placed : goal.add_and_put_back-requires-clause-placed
add_and_put_back-requires-clause-placed c =
    let e : Entry = record { at = c.args.t; event = event.End c.args.next } in
    subst (λ (x : Sitting). Placed x.view (c.args.book.history ++ e ∷ [])) (sym c.set_now.ensures)
    (placed-quiet c.args.set.now c.args.book c.args.seat.now c.requires.has c.requires.current c.args.t c.requires.now e refl c.args.next.0
    (end-now c.args.set.now c.args.book c.args.seat.now c.requires.has c.requires.current c.args.t c.requires.now c.args.next))

pub returns-clause-locks : goal.returns-clause-locks
returns-clause-locks c =
    let e : Entry = record { at = c.args.t; event = event.End c.args.next } in
    locks-quiet c.args.set.now c.args.book c.args.seat.now c.requires.has c.requires.current c.args.t c.requires.now e refl c.args.next.0 c.add_and_put_back.new.seat.view
    (subst (λ (x : Sitting). KnowsAfter (c.args.book.history ++ e ∷ []) x.view c.add_and_put_back.new.seat.view) c.set_now.ensures c.add_and_put_back.ensures.knows)
