-- Whether the tool may do something at t is told by what it keeps.
use Rattle.std.proofs.Common.{◌≡◌, ℕ, Bool, true, false, List, [], ◌∷◌, Option, Some, None, refl, ◌∙◌, ap}
use Rattle.std.specs.Prelude.{◌||◌, ◌&&◌, is_some, option_map, nat_le}
use Rattle.sched_base.specs.declared.Moment.{Moment}
use Rattle.sched_model.specs.declared.machine.Machine.{Machine}
use Rattle.sched_model.specs.declared.state.FreeCore.{FreeCore}
use Rattle.sched_model.specs.declared.state.State.{State}
use Rattle.sched_model.specs.declared.action.Action.TheVariants.{Stall, Xl}
use Rattle.sched_model.specs.Places.{at_place, test_at}
use Rattle.sched_model.specs.Machine.{is_action_enabled, is_free_core_ready}
use Rattle.sched_model.proofs.PlaceLemmas.{at_place-map}
use Rattle.journal_core.specs.Parts.{UnderWay, core_to, domain_to, state_under_way}
use Rattle.cpupool.specs.Tool.{tool_of, free_core_ends}
use Rattle.cpupool.specs.Steps.{is_stall_due, joining_ready, first_end_up}
use Rattle.cpupool.specs.Dues.{is_anything_due}
use Rattle.journal_core.specs.ToolActions.{joins_at, may_join, tool_may_act}
use Rattle.cpupool.proofs.WayLemmas.{command-seen}
use Rattle.cpupool.proofs.ArrivedLemmas.{core_joins}

up_first : (t : ℕ) (ends : List Moment) → first_end_up t (Some ends) ≡ (elim ends [ [] ↦ false | end ∷ rest ↦ nat_le end.0 t ])
up_first t [] = refl
up_first t (end ∷ rest) = refl

-- a core that is to join a pool
core_ready : (s : State) (t r i : ℕ) → state_under_way s ≡ Some (core_to r (Some i)) → first_end_up t (option_map free_core_ends (at_place s.free r)) ≡ test_at s.free r (is_free_core_ready t)
core_ready s t r i is =
    let found = core_joins s r i is in
    let c : FreeCore = found.0 in
    let up : Bool = elim c.stall_ends [ [] ↦ false | end ∷ rest ↦ nat_le end.0 t ] in
    let by_seen : Option FreeCore → Bool = λ o. first_end_up t (option_map free_core_ends o) in
    let by_core : Option FreeCore → Bool = λ o. elim o [ None ↦ false | Some x ↦ is_free_core_ready t x ] in
    ap by_seen found.1 ∙ up_first t c.stall_ends ∙ back (is_some c.target) up (ap is_some found.2) ∙ turned (by_core (at_place s.free r)) (is_free_core_ready t c) (ap by_core found.1)
  where
    back : (a b : Bool) → a ≡ true → b ≡ a && b
    back true b is = refl
    back false b is = cc

    turned : (a b : Bool) → a ≡ b → b ≡ a
    turned a b same = cc

joining-seen : (m : Machine) (s : State) (t : ℕ) (o : Option UnderWay) → state_under_way s ≡ o → joining_ready (tool_of m s).part t o ≡ joins_at s t o
joining-seen m s t None is = refl
joining-seen m s t (Some (core_to r None)) is = refl
joining-seen m s t (Some (core_to r (Some i))) is = ap (first_end_up t) (at_place-map free_core_ends s.free r) ∙ core_ready s t r i is
joining-seen m s t (Some (domain_to d i)) is = refl

-- the core of no pool
pub join-seen : (m : Machine) (s : State) (t : ℕ) → joining_ready (tool_of m s).part t (tool_of m s).part.under_way ≡ may_join s t
join-seen m s t = joining-seen m s t (state_under_way s) refl

-- all that the tool may do
pub act-seen : (m : Machine) (s : State) (t : ℕ) → is_anything_due (tool_of m s) t ≡ tool_may_act m s t
act-seen m s t =
    ap (λ b. is_stall_due (tool_of m s) t || b || joining_ready (tool_of m s).part t (tool_of m s).part.under_way) (command-seen m s t)
    ∙ ap (λ b. is_action_enabled m s t Stall || is_action_enabled m s t Xl || b) (join-seen m s t)
