-- What a move that may come finds on its way; and the move takes one thing away.
use Rattle.sched_base.specs.Numbers.{core as core_number, domain as domain_number, one_if}
use Rattle.std.proofs.Common.{◌≡◌, ◌≤◌, ◌+◌, ◌⊎◌, ℕ, Bool, true, false, List, refl, arith, ap, subst, sym, inl, inr, ◌∙◌}
use Rattle.std.specs.Prelude.{Option, Some, None, is_some, is_none, map, not, ◌&&◌, ◌||◌}
use Rattle.std.specs.List.{list_any}
use Rattle.std.proofs.lemmas.Bool.{or_cases}
use Rattle.sched_base.specs.declared.PoolId.{PoolId}
use Rattle.sched_model.specs.declared.action.Action.{Action}
use Rattle.sched_model.specs.declared.action.Action.TheVariants.{Moved, DomMoved}
use Rattle.sched_model.specs.declared.machine.Machine.{Machine}
use Rattle.sched_model.specs.declared.state.Domain.{Domain}
use Rattle.sched_model.specs.declared.state.FreeCore.{FreeCore}
use Rattle.sched_model.specs.declared.state.Pool.{Pool}
use Rattle.sched_model.specs.declared.state.Resource.{Resource}
use Rattle.sched_model.specs.declared.state.State.{State}
use Rattle.sched_model.specs.Places.{at_place, put_at, clear_at, change_at, numbered_items, test_at}
use Rattle.sched_model.specs.Actions.{home_pool_of_action, home_pool_of_core, home_pool_of_domain, change_pool}
use Rattle.sched_model.specs.Opening.{joined_core}
use Rattle.sched_model.specs.Pool.{enabled_in, settled_pool, is_first_processor_up, is_domain_unit, is_gathering}
use Rattle.sched_model.specs.Machine.{is_action_enabled, enabled_at_home, is_free_core_ready, with_core_in, without_core_in, state_after_moved, after_dom_moved, left_by, joined_by}
use Rattle.sched_base.proofs.Bools.{and_left}
use Rattle.sched_laws.proofs.Counts.{total-change_at, total-clear_at}
use Rattle.sched_laws.specs.Counts.{total}
use Rattle.sched_laws.proofs.EachPlace.{is_empty}
use Rattle.sched_laws.proofs.Kept.{IsApart}
use Rattle.sched_laws.proofs.Lists.{some-test_at, test_at-some, some_is, is_some_at}
use Rattle.composition_laws.proofs.Totals.{total-change_at_more, total-put_at_more}
use Rattle.composition_laws.proofs.Counted.{joins, from_pool, in_all}
use Rattle.composition_laws.proofs.Inside.{core_comes, core_goes, domain_joins, domain_goes}

-- the core of no pool is to join one; the core is leaving its pool; the domain is moving
pub record Joining (s : State) (r : ℕ) : Type 0 where
  pub core : FreeCore
  pub target : ℕ
  pub at : at_place s.free r ≡ Some core
  pub aims : core.target ≡ Some target

pub record Leaving (s : State) (r : ℕ) : Type 0 where
  pub home : ℕ
  pub pool : Pool
  pub core : Resource
  pub not_free : at_place s.free r ≡ None
  pub is_home : home_pool_of_core s r ≡ Some home
  pub pool_at : at_place s.pools home ≡ Some pool
  pub core_at : at_place pool.resources r ≡ Some core
  pub leaving : core.leaving ≡ true

pub record Moving (s : State) (d : ℕ) : Type 0 where
  pub home : ℕ
  pub pool : Pool
  pub domain : Domain
  pub target : PoolId
  pub is_home : home_pool_of_domain s d ≡ Some home
  pub pool_at : at_place s.pools home ≡ Some pool
  pub domain_at : at_place pool.domains d ≡ Some domain
  pub moving : domain.moving ≡ Some target

-- an event that may come at its subject's home
abbrev AtHome : Machine → State → ℕ → Action → Type 0
AtHome m s t action = (i : ℕ) × (pool : Pool) × (home_pool_of_action m.config.granularity s action ≡ Some i) × (at_place s.pools i ≡ Some pool) × (enabled_in m.config.granularity t pool action ≡ true)

at_home : (m : Machine) (s : State) (t : ℕ) (action : Action) → enabled_at_home m s t action ≡ true → AtHome m s t action
at_home m s t action on = by_home (home_pool_of_action m.config.granularity s action) refl on
  where
    by_home : (o : Option ℕ) → home_pool_of_action m.config.granularity s action ≡ o → elim o as (λ _. Bool) [ None ↦ false | Some i ↦ test_at s.pools i (λ pool. enabled_in m.config.granularity t pool action) ] ≡ true → AtHome m s t action
    by_home None is may = absurd (cc)
    by_home (Some i) is may = let p = some-test_at s.pools i (λ pool. enabled_in m.config.granularity t pool action) may in (i, p.0, is, p.1, p.2)

-- what the move of a core finds
module _ (m : Machine) (s : State) (t r : ℕ) where
  joining : test_at s.free r (is_free_core_ready t) ≡ true → Joining s r
  joining ready =
      let c = some-test_at s.free r (is_free_core_ready t) ready in
      let core : FreeCore = c.0 in
      let to = some_is core.target (and_left (is_some core.target) _ c.2) in
      record { core = core; target = to.0; at = c.1; aims = to.1 }

  leaving : IsApart s → enabled_at_home m s t (Moved (core_number r)) ≡ true → Leaving s r
  leaving apart on =
      let h = at_home m s t (Moved (core_number r)) on in
      let pool : Pool = h.1 in
      let found = some-test_at pool.resources r (λ c. c.leaving && is_none c.cur && is_none c.saving && not c.pending && is_gathering c && is_first_processor_up t c) h.4 in
      let c : Resource = found.0 in
      let five = and_left (c.leaving && is_none c.cur && is_none c.saving && not c.pending && is_gathering c) (is_first_processor_up t c) found.2 in
      let four = and_left (c.leaving && is_none c.cur && is_none c.saving && not c.pending) (is_gathering c) five in
      let three = and_left (c.leaving && is_none c.cur && is_none c.saving) (not c.pending) four in
      let two = and_left (c.leaving && is_none c.cur) (is_none c.saving) three in
      record {
        home = h.0;
        pool = pool;
        core = c;
        not_free = is_empty (at_place s.free r) (λ x at. apart.free h.0 r (is_some_at (at_place s.free r) x at) (test_at-some s.pools h.0 (λ p. is_some (at_place p.resources r)) pool h.3 (is_some_at (at_place pool.resources r) c found.1)));
        is_home = h.2;
        pool_at = h.3;
        core_at = found.1;
        leaving = and_left c.leaving (is_none c.cur) two;
      }

  pub core_found : IsApart s → is_action_enabled m s t (Moved (core_number r)) ≡ true → Joining s r ⊎ Leaving s r
  core_found apart on = elim (or_cases (test_at s.free r (is_free_core_ready t)) (enabled_at_home m s t (Moved (core_number r))) on) [ inl ready ↦ inl (joining ready) | inr here ↦ inr (leaving apart here) ]

-- what the move of a domain finds
pub domain_found : (m : Machine) (s : State) (t d : ℕ) → is_action_enabled m s t (DomMoved (domain_number d)) ≡ true → Moving s d
domain_found m s t d on =
    let h = at_home m s t (DomMoved (domain_number d)) on in
    let pool : Pool = h.1 in
    let found = some-test_at pool.domains d (λ domain. is_some domain.moving) (and_left (test_at pool.domains d (λ domain. is_some domain.moving)) (not (list_any (λ e. is_domain_unit d e.1.cur || is_domain_unit d e.1.saving) (numbered_items 0 pool.resources))) h.4) in
    let x : Domain = found.0 in
    let to = some_is x.moving found.2 in
    record { home = h.0; pool = pool; domain = x; target = to.0; is_home = h.2; pool_at = h.3; domain_at = found.1; moving = to.1 }

-- the state after the move of each
joined_is : (t r : ℕ) (s : State) (j : Joining s r) → state_after_moved t r s ≡ with_core_in t r j.target j.core s
joined_is t r s j = rw (state_after_moved, j.at, j.aims) refl

left_is : (t r : ℕ) (s : State) (l : Leaving s r) → state_after_moved t r s ≡ without_core_in t r l.home l.core s
left_is t r s l =
    let by_core : ℕ → Option Resource → State = λ i o. elim o [ None ↦ s | Some c ↦ without_core_in t r i c s ] in
    let by_pool : ℕ → Option Pool → State = λ i o. elim o [ None ↦ s | Some pool ↦ by_core i (at_place pool.resources r) ] in
    let by_home : Option ℕ → State = λ o. elim o [ None ↦ s | Some i ↦ by_pool i (at_place s.pools i) ] in
    let by_free : Option FreeCore → State = λ o. elim o [ Some c ↦ elim c.target [ None ↦ s | Some i ↦ with_core_in t r i c s ] | None ↦ by_home (home_pool_of_core s r) ] in
    ap by_free l.not_free ∙ ap by_home l.is_home ∙ ap (by_pool l.home) l.pool_at ∙ ap (by_core l.home) l.core_at

moved_is : (g t d : ℕ) (s : State) (x : Moving s d) → after_dom_moved g t d s ≡ change_pool x.target.0 (joined_by g t d x.domain) (change_pool x.home (left_by t d) s)
moved_is g t d s x =
    let by_target : ℕ → Domain → Option PoolId → State = λ i domain o. elim o [ None ↦ s | Some j ↦ change_pool j.0 (joined_by g t d domain) (change_pool i (left_by t d) s) ] in
    let by_domain : ℕ → Option Domain → State = λ i o. elim o [ None ↦ s | Some domain ↦ by_target i domain domain.moving ] in
    let by_pool : ℕ → Option Pool → State = λ i o. elim o [ None ↦ s | Some pool ↦ by_domain i (at_place pool.domains d) ] in
    let by_home : Option ℕ → State = λ o. elim o [ None ↦ s | Some i ↦ by_pool i (at_place s.pools i) ] in
    ap by_home x.is_home ∙ ap (by_pool x.home) x.pool_at ∙ ap (by_domain x.home) x.domain_at ∙ ap (by_target x.home x.domain) x.moving

-- one thing less is on its way
joining_ends : (t r : ℕ) (s : State) (j : Joining s r) → 1 + in_all (with_core_in t r j.target j.core s) ≤ in_all s
joining_ends t r s j =
    let f : Pool → Pool = λ pool. settled_pool t (record pool { resources = put_at r (joined_core j.core.stall_ends) pool.resources }) in
    let a : total from_pool (change_at j.target f s.pools) ≤ 0 + total from_pool s.pools = total-change_at_more from_pool 0 j.target f s.pools (core_comes t r j.core.stall_ends) in
    let b : total joins (clear_at r s.free) + joins j.core ≡ total joins s.free = total-clear_at joins r j.core s.free j.at in
    let one : joins j.core ≡ 1 = ap (λ o. one_if (is_some o)) j.aims in
    omega (arith, a, b, one)

leaving_ends : (t r : ℕ) (s : State) (l : Leaving s r) → 1 + in_all (without_core_in t r l.home l.core s) ≤ in_all s
leaving_ends t r s l =
    let f : Pool → Pool = λ pool. settled_pool t (record pool { resources = clear_at r pool.resources }) in
    let x : FreeCore = record { target = None; stall_ends = map (λ p. p.stall_end) l.core.processors } in
    let a : total from_pool (change_at l.home f s.pools) + from_pool l.pool ≡ total from_pool s.pools + from_pool (f l.pool) = total-change_at from_pool l.home f s.pools l.pool l.pool_at in
    let b : 1 + from_pool (f l.pool) ≡ from_pool l.pool = core_goes t r l.core l.pool l.core_at l.leaving in
    let c : total joins (put_at r x s.free) ≤ joins x + total joins s.free = total-put_at_more joins r x s.free in
    let none : joins x ≡ 0 = refl in
    omega (arith, a, b, c, none)

moving_ends : (g t d : ℕ) (s : State) (x : Moving s d) → 1 + in_all (change_pool x.target.0 (joined_by g t d x.domain) (change_pool x.home (left_by t d) s)) ≤ in_all s
moving_ends g t d s x =
    let mid : List (Option Pool) = change_at x.home (left_by t d) s.pools in
    let a : total from_pool mid + from_pool x.pool ≡ total from_pool s.pools + from_pool (left_by t d x.pool) = total-change_at from_pool x.home (left_by t d) s.pools x.pool x.pool_at in
    let b : 1 + from_pool (left_by t d x.pool) ≡ from_pool x.pool = domain_goes t d x.domain x.pool x.domain_at (is_some_at x.domain.moving x.target x.moving) in
    let c : total from_pool (change_at x.target.0 (joined_by g t d x.domain) mid) ≤ 0 + total from_pool mid = total-change_at_more from_pool 0 x.target.0 (joined_by g t d x.domain) mid (domain_joins g t d x.domain) in
    omega (arith, a, b, c)

pub moved_ends : (m : Machine) (s : State) (t r : ℕ) → IsApart s → is_action_enabled m s t (Moved (core_number r)) ≡ true → 1 + in_all (state_after_moved t r s) ≤ in_all s
moved_ends m s t r apart on = elim (core_found m s t r apart on) [
  | inl j ↦ subst (λ (next : State). 1 + in_all next ≤ in_all s) (sym (joined_is t r s j)) (joining_ends t r s j)
  | inr l ↦ subst (λ (next : State). 1 + in_all next ≤ in_all s) (sym (left_is t r s l)) (leaving_ends t r s l)
]

pub dom_moved_ends : (m : Machine) (s : State) (t d : ℕ) → is_action_enabled m s t (DomMoved (domain_number d)) ≡ true → 1 + in_all (after_dom_moved m.config.granularity t d s) ≤ in_all s
dom_moved_ends m s t d on =
    let x = domain_found m s t d on in
    subst (λ (next : State). 1 + in_all next ≤ in_all s) (sym (moved_is m.config.granularity t d s x)) (moving_ends m.config.granularity t d s x)
