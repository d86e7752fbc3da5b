use Rattle.std.proofs.Common.{◌≡◌, ◌∙◌, sym, subst}
use Rattle.sched_model.specs.declared.machine.Machine.{Machine}
use Rattle.hall.specs.declared.value.PartState.{PartState}
use Rattle.hall.specs.declared.value.PartState.TheVariants.{Tool}
use Rattle.lock_moves.specs.Plays.{IsPartOfSome}
use Rattle.lock_moves.specs.Sets.{IsAsKnown}
use Rattle.lock_moves.proofs.Holding.{taken_below}
use Rattle.hall.specs.Values.{part_of_value, suits_value}
use Rattle.hall.proofs.Locking.{no_place, taken_input, taken_known}
use Rattle.hall.proofs.all.take_tool.Goals as goal

pub unreachable-requires : goal.unreachable-requires
unreachable-requires g c = no_place c.args.seat.now.view c.in_default.field-0
    (subst (λ (x : PartState). IsPartOfSome 16 (part_of_value x) c.args.seat.now.view) (sym c.into_value.ensures ∙ c.in_default.is) c.lock-held.ensures.state)

pub returns-clause-below : goal.returns-clause-below
returns-clause-below g c = let t = c.lock-held.ensures.taken in taken_below t.0 16 _ c.args.seat.now c.lock-held.new.seat t.1 c.requires.below

pub returns-clause-knows : goal.returns-clause-knows
returns-clause-knows g c =
    let t = c.lock-held.ensures.taken in let old = c.args.seat.now in let new = c.lock-held.new.seat in
    let is : c.lock-held.result.value ≡ Tool c.in-Tool.tool = sym c.into_value.ensures ∙ c.in-Tool.is in
    record {
      known = subst (λ (x : PartState). IsAsKnown 16 (part_of_value x) new.view) is (taken_known t.0 16 (part_of_value c.lock-held.result.value) old new t.1);
      suits = subst (λ (x : PartState). suits_value new.view.input new.view.now x) is
          (subst (λ (m : Machine). suits_value m new.view.now c.lock-held.result.value) (sym (taken_input t.0 16 (part_of_value c.lock-held.result.value) old new t.1)) c.lock-held.ensures.suits);
    }
