-- What comes in the whole machine: which action is the first, and in which pool an event comes.
use Rattle.std.proofs.Common.{◌≡◌, ℕ, Bool, true, false, List, arith, inl, inr}
use Rattle.std.specs.Prelude.{Option, Some, None}
use Rattle.std.proofs.lemmas.Bool.{cases_Bool}
use Rattle.sched_model.specs.declared.action.Action.{Action}
use Rattle.sched_model.specs.declared.action.Action.TheVariants.{Stall, Xl, Moved, DomMoved}
use Rattle.sched_model.specs.declared.event.Entry.{Entry}
use Rattle.sched_model.specs.declared.machine.Machine.{Machine}
use Rattle.sched_model.specs.declared.state.Pool.{Pool}
use Rattle.sched_model.specs.declared.state.State.{State}
use Rattle.sched_model.specs.Places.{at_place, test_at}
use Rattle.sched_model.specs.Pool.{enabled_in}
use Rattle.sched_model.specs.Actions.{IsOfPool, home_pool_of_action}
use Rattle.sched_model.specs.CheckedMachine.{IsChecked}
use Rattle.sched_model.specs.Machine.{is_action_enabled, first_enabled_action, enabled_at_home}
use Rattle.sched_model.specs.Runs.{IsRun}
use Rattle.sched_laws.specs.StateLaws.{state_after}
use Rattle.sched_base.proofs.Bools.{clash}
use Rattle.sched_laws.proofs.Lists.{some-test_at}
use Rattle.pool_laws.specs.Order.{kind_place, IsNotAfter}
use Rattle.composition_laws.proofs.Candidates.{is_candidate}
use Rattle.composition_laws.proofs.FirstByOrder.{first_by_order}
use Rattle.composition_laws.proofs.Home.{pool_is_home}

-- an event may come in a pool
pub record InPool (g t : ℕ) (s : State) (action : Action) : Type 0 where
  pub place : ℕ
  pub pool : Pool
  pub at : at_place s.pools place ≡ Some pool
  pub enabled : enabled_in g t pool action ≡ true

-- what may come by the pool of its subject comes in a pool
in_its_home : (m : Machine) (s : State) (t : ℕ) (action : Action) → enabled_at_home m s t action ≡ true → InPool m.config.granularity t s action
in_its_home m s t action on = by_home (home_pool_of_action m.config.granularity s action) on
  where
    by_home : (o : Option ℕ) → elim o as (λ _. Bool) [ None ↦ false | Some i ↦ test_at s.pools i (λ pool. enabled_in m.config.granularity t pool action) ] ≡ true → InPool m.config.granularity t s action
    by_home None may = absurd (cc)
    by_home (Some i) may = (let p = some-test_at s.pools i (λ pool. enabled_in m.config.granularity t pool action) may in record { place = i; pool = p.0; at = p.1; enabled = p.2 })

-- the event of a pool that may come comes in one
pub in_pool : (m : Machine) (s : State) (t : ℕ) (action : Action) → IsOfPool action → is_action_enabled m s t action ≡ true → InPool m.config.granularity t s action
in_pool m s t Stall own on = absurd own
in_pool m s t Xl own on = absurd own
in_pool m s t (Moved r) own on = absurd own
in_pool m s t (DomMoved d) own on = absurd own
in_pool m s t action own on = in_its_home m s t action on

-- of three actions
pub not_after_both : (a b c : Action) → IsNotAfter a b → IsNotAfter b c → IsNotAfter a c
not_after_both a b c f s =
    let x = f.by_kind in
    let y = s.by_kind in
    record {
      by_kind = omega (arith, x, y);
      then_by_subject = λ e. (let p = f.then_by_subject (omega (arith, x, y, e)) in let q = s.then_by_subject (omega (arith, x, y, e)) in omega (arith, p, q));
      then_by_index = λ e k. (
          let ab : kind_place a ≡ kind_place b = omega (arith, x, y, e) in
          let bc : kind_place b ≡ kind_place c = omega (arith, x, y, e) in
          let p = f.then_by_subject ab in
          let q = s.then_by_subject bc in
          let i = f.then_by_index ab (omega (arith, p, q, k)) in
          let j = s.then_by_index bc (omega (arith, p, q, k)) in
          omega (arith, i, j));
    }

-- the action may come at t, and no action that may comes before it; none may come
abbrev pub IsFirstNow : Machine → State → ℕ → Option Action → Type 0
IsFirstNow m s t None = (action : Action) → is_action_enabled m s t action ≡ false
IsFirstNow m s t (Some action) = (is_action_enabled m s t action ≡ true) × ((other : Action) → is_action_enabled m s t other ≡ true → IsNotAfter action other)

module _ (m : Machine) (checked : IsChecked m) (entries : List Entry) (run : IsRun m entries) (t : ℕ) where
  abbrev s : State
  s = state_after m entries

  pub first_now : (found : Option Action) → IsFirstNow m s t found → first_enabled_action m s t ≡ found
  first_now None none = (first_by_order m.config (is_action_enabled m s t) None).0 (λ action there. none action)
  first_now (Some action) first =
      (first_by_order m.config (is_action_enabled m s t) (Some action)).0 (record { there = is_candidate m checked entries run t action first.0; passes = first.0; first = λ other there on. first.1 other on })

  -- where there is no first action none may come
  pub none_comes : first_enabled_action m s t ≡ None → (action : Action) → is_action_enabled m s t action ≡ true → ⊥
  none_comes none action on = clash (is_action_enabled m s t action) on ((first_by_order m.config (is_action_enabled m s t) None).1 none action (is_candidate m checked entries run t action on))

  pub none_if_none_comes : ((action : Action) → is_action_enabled m s t action ≡ true → ⊥) → first_enabled_action m s t ≡ None
  none_if_none_comes none = first_now None (λ action. elim (cases_Bool (is_action_enabled m s t action)) [ inl on ↦ absurd (none action on) | inr off ↦ off ])

  -- what a pool lets come may come
  pub from_pool : (i : ℕ) (pool : Pool) (action : Action) → at_place s.pools i ≡ Some pool → enabled_in m.config.granularity t pool action ≡ true → is_action_enabled m s t action ≡ true
  from_pool i pool action at on = (let h = (pool_is_home m checked entries run i t action).0 (record { pool = pool; at = at; enabled = on }) in h.enabled)
