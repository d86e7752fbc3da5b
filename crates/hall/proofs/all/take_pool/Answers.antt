use Rattle.std.proofs.Common.{◌≡◌, ◌∙◌, sym, subst}
use Rattle.sched_model.specs.declared.machine.Machine.{Machine}
use Rattle.hall.specs.declared.value.PartState.{PartState}
use Rattle.hall.specs.declared.value.PartState.TheVariants.{Pool}
use Rattle.lock_moves.specs.Plays.{IsPartOfSome}
use Rattle.lock_moves.specs.Sets.{IsAsKnown}
use Rattle.lock_moves.proofs.Holding.{taken_below}
use Rattle.hall.specs.Values.{part_of_value, suits_value}
use Rattle.hall.proofs.Locking.{no_tool, taken_input, taken_known}
use Rattle.hall.proofs.all.take_pool.Goals as goal

pub unreachable-requires : goal.unreachable-requires
unreachable-requires g c = no_tool c.args.place c.args.seat.now.view _ c.requires.number
    (subst (λ (x : PartState). IsPartOfSome c.args.place (part_of_value x) c.args.seat.now.view) (sym c.into_value.ensures ∙ c.in_default.is) c.lock-held.ensures.state)

pub returns-clause-below : goal.returns-clause-below
returns-clause-below g c = let t = c.lock-held.ensures.taken in taken_below t.0 c.args.place _ c.args.seat.now c.lock-held.new.seat t.1 c.requires.below

pub returns-clause-knows : goal.returns-clause-knows
returns-clause-knows g c =
    let t = c.lock-held.ensures.taken in let i = c.args.place in let old = c.args.seat.now in let new = c.lock-held.new.seat in
    let is : c.lock-held.result.value ≡ Pool c.in-Pool.slot = sym c.into_value.ensures ∙ c.in-Pool.is in
    record {
      known = subst (λ (x : PartState). IsAsKnown i (part_of_value x) new.view) is (taken_known t.0 i (part_of_value c.lock-held.result.value) old new t.1);
      suits = subst (λ (x : PartState). suits_value new.view.input new.view.now x) is
          (subst (λ (m : Machine). suits_value m new.view.now c.lock-held.result.value) (sym (taken_input t.0 i (part_of_value c.lock-held.result.value) old new t.1)) c.lock-held.ensures.suits);
    }
