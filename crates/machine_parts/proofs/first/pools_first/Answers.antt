use Rattle.std.proofs.Common.{◌≡◌, List, sym, subst}
use Rattle.sched_model.specs.declared.action.Action.{Action}
use Rattle.std.specs.Prelude.{Option, Some, None}
use Rattle.sched_model.specs.declared.state.State.{State}
use Rattle.sched_model.specs.Machine.{first_enabled_action}
use Rattle.composition_laws.specs.WholeFirst.{ArePoolsFirsts, first_tool_action}
use Rattle.machine_parts.proofs.Going.{state_of-is}
use Rattle.machine_parts.proofs.Firsts.{home-of-first, pools-firsts}
use Rattle.machine_parts.proofs.first.pools_first.Goals as goal

-- nothing may come where no pool has an event
pub returns-in-None-clause-none : goal.returns-in-None-clause-none
returns-in-None-clause-none c = λ w slots tool t parts are rests.
    let goes = parts.goes in
    let firsts : List (Option Action) = c.args.firsts.now in
    subst (λ (s : State). first_tool_action w.input s t ≡ None → ArePoolsFirsts w.input.config.granularity t s.pools firsts → first_enabled_action w.input s t ≡ None) (sym (state_of-is w))
    (λ none pools. c.law_whole_first.ensures.pools w.input goes.checked w.history goes.run t firsts None none pools c.in-None.ensures.none) rests (pools-firsts w slots tool parts t firsts are)

-- and else the earliest of the pools' events, which is of the pool at whose place it stands
pub returns-in-Some-clause-some : goal.returns-in-Some-clause-some
returns-in-Some-clause-some c = λ w slots tool t parts are rests.
    let goes = parts.goes in
    let firsts : List (Option Action) = c.args.firsts.now in
    let action : Action = c.in-Some.action in
    record {
      first = subst (λ (s : State). first_tool_action w.input s t ≡ None → ArePoolsFirsts w.input.config.granularity t s.pools firsts → first_enabled_action w.input s t ≡ Some action) (sym (state_of-is w))
          (λ none pools. c.law_whole_first.ensures.pools w.input goes.checked w.history goes.run t firsts (Some action) none pools c.in-Some.ensures.earliest) rests (pools-firsts w slots tool parts t firsts are);
      of_pool = home-of-first w slots tool parts t firsts are c.in-Some.place action c.in-Some.ensures.place;
    }
