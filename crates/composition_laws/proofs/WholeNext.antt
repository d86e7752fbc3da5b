-- The next moment of the machine is the least of those of its pools, of the tool, and of the core that leaves.
use Rattle.sched_base.specs.Numbers.{core, has_moment_come}
use Rattle.std.proofs.Common.{◌≡◌, ◌≤◌, ◌<◌, ℕ, zero, suc, Bool, true, false, List, ◌∷◌, refl, arith, ap, sym, ◌∙◌, subst, inl, inr}
use Rattle.std.specs.Prelude.{Option, Some, None, option_map, nat_le, ◌||◌, if◌then◌else◌}
use Rattle.std.proofs.Math.Decide.{dec_le}
use Rattle.std.proofs.lemmas.Bool.{or_right, or_cases}
use Rattle.sched_base.specs.declared.Moment.{Moment}
use Rattle.sched_model.specs.declared.action.Action.{Action}
use Rattle.sched_model.specs.declared.action.Action.TheVariants.{Stall, Xl, Moved, DomMoved}
use Rattle.sched_model.specs.declared.event.Entry.{Entry}
use Rattle.sched_model.specs.declared.machine.Machine.{Machine}
use Rattle.sched_model.specs.declared.state.Pool.{Pool}
use Rattle.sched_model.specs.declared.state.State.{State}
use Rattle.sched_model.specs.Places.{at_place, test_at}
use Rattle.sched_model.specs.Actions.{IsOfPool, home_pool_of_core}
use Rattle.sched_model.specs.CheckedMachine.{IsChecked}
use Rattle.sched_model.specs.Machine.{is_action_enabled, enabled_at_home, first_enabled_action, least_later_moment, is_free_core_ready}
use Rattle.sched_model.specs.Pool.{enabled_in}
use Rattle.sched_model.specs.Runs.{IsRun}
use Rattle.sched_laws.specs.StateLaws.{state_after}
use Rattle.sched_base.proofs.Bools.{clash, or_more}
use Rattle.sched_laws.proofs.Lists.{some-test_at, has_come-le}
use Rattle.sched_laws.proofs.PoolsLaw.{pools_keep_their_own}
use Rattle.sched_laws.proofs.Reached.{is_apart}
use Rattle.journal_core.specs.Parts.{UnderWay, core_to, domain_to, state_under_way}
use Rattle.pool_laws.specs.ReadyMoments.{ready_in}
use Rattle.pool_laws.proofs.Readiness.{ready, come_then}
use Rattle.run_laws.specs.RunLaws.{IsNextMoment as IsNext}
use Rattle.journal_core.specs.ToolActions.{joins_at, may_join, tool_may_act, IsLeastLater}
use Rattle.composition_laws.specs.Moves.{HasOneMove}
use Rattle.composition_laws.proofs.Counted.{in_all, in_all_is}
use Rattle.composition_laws.proofs.Ending.{Joining, Leaving, core_found}
use Rattle.composition_laws.proofs.Whose.{joining_answers, leaving_answers}
use Rattle.composition_laws.proofs.MoveLaw.{has_one_move}
use Rattle.composition_laws.specs.WholeNext.{ArePoolsNexts, IsSoonest, IsWholeNext, leaves_at, leaving_at, number_within}
use Rattle.composition_laws.proofs.WholeLemmas.{in_pool, none_comes, none_if_none_comes, from_pool}

-- there is one next moment alone
one_next : (m : Machine) (s : State) (t : ℕ) (a b : Option ℕ) → IsNext m s t a → IsNext m s t b → a ≡ b
one_next m s t None None f k = refl
one_next m s t None (Some n) f k = absurd (k.something (f n k.later))
one_next m s t (Some n) None f k = absurd (f.something (k n f.later))
one_next m s t (Some n) (Some j) f k =
    elim (dec_le n j) [
      | yes le ↦ elim (dec_le j n) [
        | yes ge ↦ ap (λ (x : ℕ). Some x) (omega (arith, le, ge))
        | no less ↦ absurd (f.something (k.nothing_between n f.later (omega (arith, less))))
      ]
      | no more ↦ absurd (k.something (f.nothing_between j k.later (omega (arith, more))))
    ]

module _ (m : Machine) (checked : IsChecked m) (entries : List Entry) (run : IsRun m entries)
    (stays : (t later : ℕ) (action : Action) → t ≤ later → is_action_enabled m (state_after m entries) t action ≡ true → is_action_enabled m (state_after m entries) later action ≡ true) where
  abbrev s : State
  s = state_after m entries

  abbrev g : ℕ
  g = m.config.granularity

  abbrev one : HasOneMove m s
  one = has_one_move m checked entries run

  few : in_all s ≤ 1
  few = let same = in_all_is s in let most = one.most in omega (arith, same, most)

  -- a core that leaves a pool is not free
  is_free : (t r : ℕ) → Leaving s r → test_at s.free r (is_free_core_ready t) ≡ true → ⊥
  is_free t r l on = (let f = some-test_at s.free r (is_free_core_ready t) on in let none = l.not_free in let there = f.1 in cc)

  -- a core that joins a pool leaves none
  in_none : (t r : ℕ) → Joining s r → enabled_at_home m s t (Moved (core r)) ≡ true → ⊥
  in_none t r j on = by_home (home_pool_of_core s r) ((pools_keep_their_own m checked entries run).free r j.core j.at) on
    where
      by_home : (o : Option ℕ) → o ≡ None → elim o as (λ _. Bool) [ None ↦ false | Some i ↦ test_at s.pools i (λ pool. enabled_in g t pool (Moved (core r))) ] ≡ true → ⊥
      by_home None is e = cc
      by_home (Some i) is e = cc

  -- what is on its way where the move of a core may come
  joins : (t r : ℕ) → (j : Joining s r) → test_at s.free r (is_free_core_ready t) ≡ true → may_join s t ≡ true
  joins t r j on = subst (λ (o : Option UnderWay). joins_at s t o ≡ true) (sym (joining_answers s few r j)) on

  joining_comes : (t : ℕ) (way : Option UnderWay) → joins_at s t way ≡ true → (r : ℕ) × (test_at s.free r (is_free_core_ready t) ≡ true)
  joining_comes t None on = absurd (cc)
  joining_comes t (Some (core_to r None)) on = absurd (cc)
  joining_comes t (Some (core_to r (Some i))) on = (r, on)
  joining_comes t (Some (domain_to d i)) on = absurd (cc)

  -- something may come where the tool may act
  tool_comes : (t : ℕ) → tool_may_act m s t ≡ true → (action : Action) × (is_action_enabled m s t action ≡ true)
  tool_comes t on = elim (or_cases (is_action_enabled m s t Stall || is_action_enabled m s t Xl) (may_join s t) on) [
    | inl two ↦ elim (or_cases (is_action_enabled m s t Stall) (is_action_enabled m s t Xl) two) [ inl stall ↦ (Stall, stall) | inr command ↦ (Xl, command) ]
    | inr move ↦ (let r = joining_comes t (state_under_way s) move in (Moved (core r.0), or_more (test_at s.free r.0 (is_free_core_ready t)) (enabled_at_home m s t (Moved (core r.0))) r.1))
  ]

  -- the core that leaves may go from its moment on
  core_comes : (r : ℕ) (at : Moment) → leaves_at g s r ≡ Some at → is_action_enabled m s at.0 (Moved (core r)) ≡ true
  core_comes r at is = by_home (home_pool_of_core s r) is
    where
      by_pool : (i : ℕ) (o : Option Pool) → at_place s.pools i ≡ o → elim o as (λ _. Option Moment) [ None ↦ None | Some pool ↦ ready_in g pool (Moved (core r)) ] ≡ Some at → is_action_enabled m s at.0 (Moved (core r)) ≡ true
      by_pool i None there e = absurd (cc)
      by_pool i (Some pool) there e =
          from_pool m checked entries run at.0 i pool (Moved (core r)) there (ready g at.0 pool (Moved (core r)) ∙ subst (λ (o : Option Moment). has_moment_come at.0 o ≡ true) (sym e) (come_then at))

      by_home : (o : Option ℕ) → elim o as (λ _. Option Moment) [ None ↦ None | Some i ↦ elim (at_place s.pools i) as (λ _. Option Moment) [ None ↦ None | Some pool ↦ ready_in g pool (Moved (core r)) ] ] ≡ Some at → is_action_enabled m s at.0 (Moved (core r)) ≡ true
      by_home None e = absurd (cc)
      by_home (Some i) e = by_pool i (at_place s.pools i) refl e

  leaving_comes : (way : Option UnderWay) (at : Moment) → leaving_at g s way ≡ Some at → (action : Action) × (is_action_enabled m s at.0 action ≡ true)
  leaving_comes None at is = absurd (cc)
  leaving_comes (Some (core_to r None)) at is = (Moved (core r), core_comes r at is)
  leaving_comes (Some (core_to r (Some i))) at is = absurd (cc)
  leaving_comes (Some (domain_to d i)) at is = absurd (cc)

  -- the moment of a core that may leave its pool
  leaves_at_is : (r : ℕ) (l : Leaving s r) → leaves_at g s r ≡ ready_in g l.pool (Moved (core r))
  leaves_at_is r l =
      let by_pool : Option Pool → Option Moment = λ o. elim o [ None ↦ None | Some pool ↦ ready_in g pool (Moved (core r)) ] in
      let by_home : Option ℕ → Option Moment = λ o. elim o [ None ↦ None | Some i ↦ by_pool (at_place s.pools i) ] in
      ap by_home l.is_home ∙ ap by_pool l.pool_at

  module _ (nexts : List (Option Moment)) (due : Option Moment) (still : first_enabled_action m s s.now ≡ None) (pools : ArePoolsNexts g s.pools nexts) (tool : IsLeastLater s.now (tool_may_act m s) due) where
    abbrev told : List (Option Moment)
    told = due ∷ leaving_at g s (state_under_way s) ∷ nexts

    quiet : (action : Action) → is_action_enabled m s s.now action ≡ true → ⊥
    quiet = none_comes m checked entries run s.now still

    -- at each moment that is told something may come
    due_comes : (o : Option Moment) (at : Moment) → IsLeastLater s.now (tool_may_act m s) o → o ≡ Some at → (action : Action) × (is_action_enabled m s at.0 action ≡ true)
    due_comes None at least is = absurd (cc)
    due_comes (Some x) at least is = (let same : x ≡ at = cc in subst (λ (y : Moment). (action : Action) × (is_action_enabled m s y.0 action ≡ true)) same (tool_comes x.0 least.1))

    pool_comes : (i : ℕ) (at : Moment) → at_place nexts i ≡ Some at → (action : Action) × (is_action_enabled m s at.0 action ≡ true)
    pool_comes i at is =
        elim (at_place s.pools i) as (λ o. at_place s.pools i ≡ o → (action : Action) × (is_action_enabled m s at.0 action ≡ true)) [
          | None ↦ λ there. absurd (let none = pools.nothing i there in cc)
          | Some pool ↦ λ there. (let next = pools.pool i pool there in let x = next.some at is in (x.0, from_pool m checked entries run at.0 i pool x.0 there x.2))
        ] refl

    told_comes : (i : ℕ) (at : Moment) → at_place told i ≡ Some at → (action : Action) × (is_action_enabled m s at.0 action ≡ true)
    told_comes zero at is = due_comes due at tool is
    told_comes (suc zero) at is = leaving_comes (state_under_way s) at is
    told_comes (suc (suc i)) at is = pool_comes i at is

    -- and each is later than now
    told_later : (i : ℕ) (at : Moment) → at_place told i ≡ Some at → s.now < at.0
    told_later i at is =
        elim (dec_le at.0 s.now) [
          | yes past ↦ absurd (let x = told_comes i at is in quiet x.0 (stays at.0 s.now x.0 past x.1))
          | no later ↦ omega (arith, later)
        ]

    -- where something may come at a later moment, one that is told is not after that
    abbrev Told : ℕ → Type 0
    Told t = (i : ℕ) × (at : Moment) × (at_place told i ≡ Some at) × (at.0 ≤ t)

    module _ (t : ℕ) (after_now : s.now < t) where
      by_due : (o : Option Moment) → due ≡ o → IsLeastLater s.now (tool_may_act m s) o → tool_may_act m s t ≡ true → Told t
      by_due None is least on = absurd (clash (tool_may_act m s t) on (least t after_now))
      by_due (Some at) is least on = elim (dec_le at.0 t) [ yes soon ↦ (0, at, is, soon) | no late ↦ absurd (clash (tool_may_act m s t) on (least.2 t after_now (omega (arith, late)))) ]

      by_tool : tool_may_act m s t ≡ true → Told t
      by_tool on = by_due due refl tool on

      by_leaving : (r : ℕ) → Leaving s r → enabled_at_home m s t (Moved (core r)) ≡ true → Told t
      by_leaving r l on =
          let inside : enabled_in g t l.pool (Moved (core r)) ≡ true = subst (λ (o : Option Pool). elim o as (λ _. Bool) [ None ↦ false | Some pool ↦ enabled_in g t pool (Moved (core r)) ] ≡ true) l.pool_at
          (subst (λ (o : Option ℕ). elim o as (λ _. Bool) [ None ↦ false | Some i ↦ test_at s.pools i (λ pool. enabled_in g t pool (Moved (core r))) ] ≡ true) l.is_home on) in
          let x = has_come-le t (ready_in g l.pool (Moved (core r))) (sym (ready g t l.pool (Moved (core r))) ∙ inside) in
          (1, x.0, ap (leaving_at g s) (leaving_answers s few r l) ∙ leaves_at_is r l ∙ x.1, x.2)

      by_pool : (action : Action) → IsOfPool action → is_action_enabled m s t action ≡ true → Told t
      by_pool action own on =
          let p = in_pool m s t action own on in
          let next = pools.pool p.place p.pool p.at in
          elim (at_place nexts p.place) as (λ o. at_place nexts p.place ≡ o → Told t) [
            | None ↦ λ is. absurd (clash (enabled_in g t p.pool action) p.enabled (next.none is t action own))
            | Some at ↦ λ is. (suc (suc p.place), at, is, next.least at is t action own p.enabled)
          ] refl

      by_core : (r : ℕ) → is_action_enabled m s t (Moved (core r)) ≡ true → Told t
      by_core r on =
          elim (core_found m s t r (is_apart m checked entries run) on) [
            | inl j ↦ elim (or_cases (test_at s.free r (is_free_core_ready t)) (enabled_at_home m s t (Moved (core r))) on) [
              | inl free ↦ by_tool (or_right (is_action_enabled m s t Stall || is_action_enabled m s t Xl) (may_join s t) (joins t r j free))
              | inr home ↦ absurd (in_none t r j home)
            ]
            | inr l ↦ elim (or_cases (test_at s.free r (is_free_core_ready t)) (enabled_at_home m s t (Moved (core r))) on) [
              | inl free ↦ absurd (is_free t r l free)
              | inr home ↦ by_leaving r l home
            ]
          ]

      told_soon : (action : Action) → is_action_enabled m s t action ≡ true → Told t
      told_soon Stall on = by_tool (or_more (is_action_enabled m s t Stall || is_action_enabled m s t Xl) (may_join s t) (or_more (is_action_enabled m s t Stall) (is_action_enabled m s t Xl) on))
      told_soon Xl on = by_tool (or_more (is_action_enabled m s t Stall || is_action_enabled m s t Xl) (may_join s t) (or_right (is_action_enabled m s t Stall) (is_action_enabled m s t Xl) on))
      told_soon (Moved r) on = by_core r.0 on
      told_soon (DomMoved d) on = absurd (quiet (DomMoved d) on)
      told_soon action on = by_pool action tt on

    -- so the least that is told is the next moment
    is_next : (next : Option Moment) → IsSoonest told next → IsNext m s s.now (option_map (λ (at : Moment). at.0) next)
    is_next None none = λ later after_now. none_if_none_comes m checked entries run later (λ action on. (let x = told_soon later after_now action on in let empty = none x.0 in let there = x.2 in cc))
    is_next (Some at) soonest = record {
      later = told_later soonest.place at soonest.there;
      something = λ none. (let x = told_comes soonest.place at soonest.there in none_comes m checked entries run at.0 none x.0 x.1);
      nothing_between = λ between after_now before. none_if_none_comes m checked entries run between
          (λ action on. (let x = told_soon between after_now action on in let least = soonest.least x.0 x.1 x.2 in let soon = x.3 in absurd (omega (arith, least, soon, before))));
    }

    pub whole_next : (next : Option Moment) → IsNext m s s.now (least_later_moment m s s.now) → IsSoonest told next → IsWholeNext m s next
    whole_next next is soonest =
        let same : least_later_moment m s s.now ≡ option_map (λ (at : Moment). at.0) next = one_next m s s.now (least_later_moment m s s.now) (option_map (λ (at : Moment). at.0) next) is (is_next next soonest) in
        record { moment = same; in_horizon = ap (λ (o : Option ℕ). elim o as (λ _. Option ℕ) [ None ↦ None | Some n ↦ (if nat_le n m.config.horizon.0 then Some n else None) ]) same ∙ cut next }
      where
        cut : (o : Option Moment) → elim (option_map (λ (at : Moment). at.0) o) as (λ _. Option ℕ) [ None ↦ None | Some n ↦ (if nat_le n m.config.horizon.0 then Some n else None) ] ≡ number_within m.config.horizon.0 o
        cut None = refl
        cut (Some at) = refl
