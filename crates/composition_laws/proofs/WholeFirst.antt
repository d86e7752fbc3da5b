-- The first action of the machine is the tool's, or else the earliest of the pools' first events.
use Rattle.sched_base.specs.Numbers.{core, domain}
use Rattle.std.proofs.Common.{◌≡◌, ℕ, true, false, List, refl, arith, sym, ◌∙◌, subst, cond}
use Rattle.std.specs.Prelude.{Option, Some, None}
use Rattle.sched_model.specs.declared.action.Action.{Action}
use Rattle.sched_model.specs.declared.action.Action.TheVariants.{Stall, Xl, Moved, DomMoved}
use Rattle.sched_model.specs.declared.event.Entry.{Entry}
use Rattle.sched_model.specs.declared.machine.Machine.{Machine}
use Rattle.sched_model.specs.declared.state.Pool.{Pool}
use Rattle.sched_model.specs.declared.state.State.{State}
use Rattle.sched_model.specs.Places.{at_place}
use Rattle.sched_model.specs.CheckedMachine.{IsChecked}
use Rattle.sched_model.specs.Machine.{is_action_enabled, first_enabled_action}
use Rattle.sched_model.specs.Pool.{enabled_in}
use Rattle.sched_model.specs.Runs.{IsRun}
use Rattle.sched_laws.specs.StateLaws.{state_after}
use Rattle.sched_base.proofs.Bools.{clash}
use Rattle.journal_core.specs.Parts.{UnderWay, core_to, domain_to, state_under_way}
use Rattle.pool_laws.specs.Order.{IsNotAfter}
use Rattle.sched_model.specs.Actions.{IsOfPool}
use Rattle.pool_laws.specs.FirstEvents.{IsFirstEnabled}
use Rattle.pool_laws.proofs.ActionOrder.{not_after_itself, later_kind}
use Rattle.composition_laws.specs.Moves.{HasOneMove}
use Rattle.composition_laws.proofs.MoveLaw.{has_one_move}
use Rattle.composition_laws.specs.WholeFirst.{if_enabled, first_tool_move, first_tool_action, ArePoolsFirsts, IsEarliest, ComesEarliest}
use Rattle.composition_laws.proofs.WholeLemmas.{in_pool, not_after_both, IsFirstNow, first_now, from_pool}

-- what a choice of an action tells
pub chosen : (m : Machine) (s : State) (t : ℕ) (of found : Action) → if_enabled m s t of ≡ Some found → (is_action_enabled m s t of ≡ true) × (of ≡ found)
chosen m s t of found is = elim (is_action_enabled m s t of) as (λ b. cond b (Some of) None ≡ Some found → (b ≡ true) × (of ≡ found)) [ true ↦ λ e. (refl, cc) | false ↦ λ e. absurd (cc) ] is

not_chosen : (m : Machine) (s : State) (t : ℕ) (of : Action) → if_enabled m s t of ≡ None → is_action_enabled m s t of ≡ true → ⊥
not_chosen m s t of is on = let e : if_enabled m s t of ≡ Some of = rw on refl in cc

module _ (m : Machine) (s : State) (t : ℕ) (one : HasOneMove m s) where
  stall_first : (b : Action) → IsNotAfter Stall b
  stall_first b = record { by_kind = omega arith; then_by_subject = λ e. omega arith; then_by_index = λ e f. omega arith }

  module _ (no_stall : is_action_enabled m s t Stall ≡ false) where
    command_first : (b : Action) → is_action_enabled m s t b ≡ true → IsNotAfter Xl b
    command_first Stall on = absurd (clash (is_action_enabled m s t Stall) on no_stall)
    command_first Xl on = not_after_itself Xl
    command_first action on = later_kind Xl action (omega arith)

    module _ (no_command : is_action_enabled m s t Xl ≡ false) where
      core_first : (r : ℕ) (to : Option ℕ) → state_under_way s ≡ Some (core_to r to) → (b : Action) → is_action_enabled m s t b ≡ true → IsNotAfter (Moved (core r)) b
      core_first r to is Stall on = absurd (clash (is_action_enabled m s t Stall) on no_stall)
      core_first r to is Xl on = absurd (clash (is_action_enabled m s t Xl) on no_command)
      core_first r to is (Moved q) on =
          let w = one.core t q.0 on in
          let e : Some (core_to q.0 w.0) ≡ Some (core_to r to) = sym w.1 ∙ is in
          let same : r ≡ q.0 = cc in
          subst (λ (k : ℕ). IsNotAfter (Moved (core r)) (Moved (core k))) same (not_after_itself (Moved (core r)))
      core_first r to is action on = later_kind (Moved (core r)) action (omega arith)

      domain_first : (d i : ℕ) → state_under_way s ≡ Some (domain_to d i) → (b : Action) → is_action_enabled m s t b ≡ true → IsNotAfter (DomMoved (domain d)) b
      domain_first d i is Stall on = absurd (clash (is_action_enabled m s t Stall) on no_stall)
      domain_first d i is Xl on = absurd (clash (is_action_enabled m s t Xl) on no_command)
      domain_first d i is (Moved q) on = (let w = one.core t q.0 on in let e : Some (core_to q.0 w.0) ≡ Some (domain_to d i) = sym w.1 ∙ is in absurd (cc))
      domain_first d i is (DomMoved k) on =
          let w = one.domain t k.0 on in
          let e : Some (domain_to k.0 w.0) ≡ Some (domain_to d i) = sym w.1 ∙ is in
          let same : d ≡ k.0 = cc in
          subst (λ (n : ℕ). IsNotAfter (DomMoved (domain d)) (DomMoved (domain n))) same (not_after_itself (DomMoved (domain d)))
      domain_first d i is action on = later_kind (DomMoved (domain d)) action (omega arith)

      by_move : (way : Option UnderWay) → state_under_way s ≡ way → (found : Action) → first_tool_move m s t way ≡ Some found → IsFirstNow m s t (Some found)
      by_move None is found e = absurd (cc)
      by_move (Some (core_to r to)) is found e = (let c = chosen m s t (Moved (core r)) found e in subst (λ (a : Action). IsFirstNow m s t (Some a)) c.1 (c.0, core_first r to is))
      by_move (Some (domain_to d i)) is found e = (let c = chosen m s t (DomMoved (domain d)) found e in subst (λ (a : Action). IsFirstNow m s t (Some a)) c.1 (c.0, domain_first d i is))

      -- where the tool has nothing to do, what may come is a pool's
      no_core : first_tool_move m s t (state_under_way s) ≡ None → (q : ℕ) → is_action_enabled m s t (Moved (core q)) ≡ true → ⊥
      no_core none q on = let w = one.core t q on in not_chosen m s t (Moved (core q)) (subst (λ (o : Option UnderWay). first_tool_move m s t o ≡ None) w.1 none) on

      no_domain : first_tool_move m s t (state_under_way s) ≡ None → (k : ℕ) → is_action_enabled m s t (DomMoved (domain k)) ≡ true → ⊥
      no_domain none k on = let w = one.domain t k on in not_chosen m s t (DomMoved (domain k)) (subst (λ (o : Option UnderWay). first_tool_move m s t o ≡ None) w.1 none) on

      of_pool : first_tool_move m s t (state_under_way s) ≡ None → (b : Action) → is_action_enabled m s t b ≡ true → IsOfPool b
      of_pool none Stall on = clash (is_action_enabled m s t Stall) on no_stall
      of_pool none Xl on = clash (is_action_enabled m s t Xl) on no_command
      of_pool none (Moved q) on = no_core none q.0 on
      of_pool none (DomMoved k) on = no_domain none k.0 on
      of_pool none action on = tt

  abbrev from_move : Option Action
  from_move = first_tool_move m s t (state_under_way s)

  pub by_tool : (found : Action) → first_tool_action m s t ≡ Some found → IsFirstNow m s t (Some found)
  by_tool found is =
      elim (is_action_enabled m s t Stall) as (λ b. is_action_enabled m s t Stall ≡ b → cond b (Some Stall) (cond (is_action_enabled m s t Xl) (Some Xl) from_move) ≡ Some found → IsFirstNow m s t (Some found)) [
        | true ↦ λ on e. (let same : Stall ≡ found = cc in subst (λ (a : Action). IsFirstNow m s t (Some a)) same (on, λ b k. stall_first b))
        | false ↦ λ no_stall. elim (is_action_enabled m s t Xl) as (λ b. is_action_enabled m s t Xl ≡ b → cond b (Some Xl) from_move ≡ Some found → IsFirstNow m s t (Some found)) [
          | true ↦ λ on e. (let same : Xl ≡ found = cc in subst (λ (a : Action). IsFirstNow m s t (Some a)) same (on, command_first no_stall))
          | false ↦ λ no_command e. by_move no_stall no_command (state_under_way s) refl found e
        ] refl
      ] refl is

  pub only_pools : first_tool_action m s t ≡ None → (b : Action) → is_action_enabled m s t b ≡ true → IsOfPool b
  only_pools is =
      elim (is_action_enabled m s t Stall) as (λ b. is_action_enabled m s t Stall ≡ b → cond b (Some Stall) (cond (is_action_enabled m s t Xl) (Some Xl) from_move) ≡ None → (a : Action) → is_action_enabled m s t a ≡ true → IsOfPool a) [
        | true ↦ λ on e. absurd (cc)
        | false ↦ λ no_stall. elim (is_action_enabled m s t Xl) as (λ b. is_action_enabled m s t Xl ≡ b → cond b (Some Xl) from_move ≡ None → (a : Action) → is_action_enabled m s t a ≡ true → IsOfPool a) [
          | true ↦ λ on e. absurd (cc)
          | false ↦ λ no_command e. of_pool no_stall no_command e
        ] refl
      ] refl is

module _ (m : Machine) (checked : IsChecked m) (entries : List Entry) (run : IsRun m entries) (t : ℕ) where
  abbrev s : State
  s = state_after m entries

  abbrev g : ℕ
  g = m.config.granularity

  pub first_of_tool : (action : Action) → first_tool_action m s t ≡ Some action → first_enabled_action m s t ≡ Some action
  first_of_tool action is = first_now m checked entries run t (Some action) (by_tool m s t (has_one_move m checked entries run) action is)

  module _ (firsts : List (Option Action)) (none : first_tool_action m s t ≡ None) (has : ArePoolsFirsts g t s.pools firsts) where
    own : (b : Action) → is_action_enabled m s t b ≡ true → IsOfPool b
    own = only_pools m s t (has_one_move m checked entries run) none

    -- nothing comes where no pool has a first event
    nothing : ((i : ℕ) → at_place firsts i ≡ None) → (b : Action) → is_action_enabled m s t b ≡ false
    nothing empty b =
        elim (is_action_enabled m s t b) as (λ v. is_action_enabled m s t b ≡ v → v ≡ false) [
          | true ↦ λ on. absurd (
              let p = in_pool m s t b (own b on) on in
              let off = subst (IsFirstEnabled g t p.pool) (empty p.place) (has.pool p.place p.pool p.at) in
              clash (enabled_in g t p.pool b) p.enabled (off b (own b on)))
          | false ↦ λ off. refl
        ] refl

    -- the earliest comes after none that may come in a pool
    before : (a : Action) → ComesEarliest firsts a → (b : Action) → IsOfPool b → (j : ℕ) (pool : Pool) → enabled_in g t pool b ≡ true → IsFirstEnabled g t pool (at_place firsts j) → IsNotAfter a b
    before a first b of_pool j pool on here =
        elim (at_place firsts j) as (λ o. at_place firsts j ≡ o → IsFirstEnabled g t pool o → IsNotAfter a b) [
          | None ↦ λ is off. absurd (clash (enabled_in g t pool b) on (off b of_pool))
          | Some c ↦ λ is f. not_after_both a c b (first.first j c is) (f.first b of_pool on)
        ] refl here

    may_come : (a : Action) → ComesEarliest firsts a → is_action_enabled m s t a ≡ true
    may_come a first =
        elim (at_place s.pools first.place) as (λ o. at_place s.pools first.place ≡ o → is_action_enabled m s t a ≡ true) [
          | None ↦ λ is. absurd (let x = has.nothing first.place is in let y = first.at in cc)
          | Some pool ↦ λ is. (
              let f = subst (IsFirstEnabled g t pool) first.at (has.pool first.place pool is) in
              from_pool m checked entries run t first.place pool a is f.enabled)
        ] refl

    pub first_of_pools : (found : Option Action) → IsEarliest firsts found → first_enabled_action m s t ≡ found
    first_of_pools None empty = first_now m checked entries run t None (nothing empty)
    first_of_pools (Some a) first =
        first_now m checked entries run t (Some a)
        (may_come a first, λ b on. (let p = in_pool m s t b (own b on) on in before a first b (own b on) p.place p.pool p.enabled (has.pool p.place p.pool p.at)))
