-- A domain moves to another pool: what the cores keep, and none of its units is on one.
use Rattle.sched_base.specs.Numbers.{domain as domain_number}
use Rattle.std.proofs.Common.{◌≡◌, ◌+◌, ℕ, Bool, true, false, List, refl, ap, subst, sym, ◌∙◌}
use Rattle.std.specs.Prelude.{Option, Some, None, option_map, is_some, ◌||◌}
use Rattle.std.specs.List.{list_any}
use Rattle.std.proofs.Math.Decide.{ℕ_discrete}
use Rattle.sched_model.specs.declared.action.Action.TheVariants.{DomMoved}
use Rattle.sched_model.specs.declared.machine.Machine.{Machine}
use Rattle.sched_model.specs.declared.state.State.{State}
use Rattle.sched_model.specs.declared.state.Pool.{Pool}
use Rattle.sched_model.specs.declared.state.Domain.{Domain}
use Rattle.sched_model.specs.declared.state.Resource.{Resource}
use Rattle.sched_model.specs.Places.{at_place, test_at, change_at, numbered_items}
use Rattle.sched_model.specs.Pool.{settled_pool, pool_without_domain, pool_with_domain, is_domain_unit, reconsidered_core, pool_core_set}
use Rattle.sched_model.specs.Policy.{standard_dom_params}
use Rattle.sched_model.specs.Actions.{home_pool_of_domain, change_pool}
use Rattle.sched_model.specs.Machine.{after_dom_moved, left_by, joined_by, is_null_pool}
use Rattle.sched_laws.proofs.EachPlace.{by_option, by_cond, at_place-change_each}
use Rattle.sched_base.proofs.Bools.{and_left, and_right, or_left}
use Rattle.sched_laws.proofs.Lists.{some-test_at, none_passes, at_numbered}
use Rattle.sched_laws.proofs.Opened.{with_domain-resources}
use Rattle.term_laws.proofs.Same.{cur_in}
use Rattle.term_laws.proofs.AtPlaces.{at_place-change_at, at_place-change_at_other}
use Rattle.std.proofs.lemmas.Bool.{not-true}
use Rattle.term_laws.proofs.ActsIn.{ActsIn}

-- the cores of a pool keep their units
abbrev pub CoresKeep : (Pool → Pool) → Type 0
CoresKeep f = (p : Pool) (r : ℕ) → cur_in (at_place (f p).resources r) ≡ cur_in (at_place p.resources r)

settled_keeps : (t : ℕ) → CoresKeep (settled_pool t)
settled_keeps t p r = ap cur_in (at_place-change_each 0 r (reconsidered_core t (pool_core_set p) p.scheduler) p.resources) ∙ there (at_place p.resources r)
  where
    there : (o : Option Resource) → cur_in (option_map (reconsidered_core t (pool_core_set p) p.scheduler (0 + r)) o) ≡ cur_in o
    there None = refl
    there (Some c) = by_cond (λ (y : Resource). y.cur ≡ c.cur) c.leaving _ _ (λ is. refl) (λ is. refl)

pub left_keeps : (t d : ℕ) → CoresKeep (left_by t d)
left_keeps t d p r =
    by_cond (λ (q : Pool). cur_in (at_place q.resources r) ≡ cur_in (at_place p.resources r)) (is_null_pool p.scheduler.records) (settled_pool t (pool_without_domain d p)) (pool_without_domain d p) (λ is. settled_keeps t (pool_without_domain d p) r) (λ is. refl)

pub joined_keeps : (g t d : ℕ) (domain : Domain) → CoresKeep (joined_by g t d domain)
joined_keeps g t d domain p r =
    settled_keeps t (pool_with_domain g t d (record domain { moving = None }) (standard_dom_params p.scheduler.records) p) r
    ∙ ap (λ (cores : List (Option Resource)). cur_in (at_place cores r)) (with_domain-resources g t d (record domain { moving = None }) (standard_dom_params p.scheduler.records) p)

-- each pool after the change was there before, with the units on its cores
abbrev CameFrom : State → State → Type 0
CameFrom s next = (i : ℕ) (q : Pool) → at_place next.pools i ≡ Some q → (p : Pool) × (at_place s.pools i ≡ Some p) × ((r : ℕ) → cur_in (at_place q.resources r) ≡ cur_in (at_place p.resources r))

came_same : (s : State) → CameFrom s s
came_same s i q at = (q, at, λ r. refl)

came_changed : (s mid : State) (j : ℕ) (f : Pool → Pool) → CoresKeep f → CameFrom s mid → CameFrom s (change_pool j f mid)
came_changed s mid j f keeps came i q at =
    elim (ℕ_discrete j i) [
      | yes e ↦ own (at_place mid.pools i) refl (sym (at_changed e) ∙ at)
      | no ne ↦ came i q (sym (at_place-change_at_other j i f mid.pools ne) ∙ at)
    ]
  where
    at_changed : j ≡ i → at_place (change_at j f mid.pools) i ≡ option_map f (at_place mid.pools i)
    at_changed e = subst (λ k. at_place (change_at j f mid.pools) k ≡ option_map f (at_place mid.pools k)) e (at_place-change_at j f mid.pools)

    own : (o : Option Pool) → at_place mid.pools i ≡ o → option_map f o ≡ Some q → (p : Pool) × (at_place s.pools i ≡ Some p) × ((r : ℕ) → cur_in (at_place q.resources r) ≡ cur_in (at_place p.resources r))
    own None is e = absurd (cc)
    own (Some x) is e =
        let same : f x ≡ q = cc in
        let c = came i x is in
        (c.0, c.1, λ r. subst (λ (y : Pool). cur_in (at_place y.resources r) ≡ cur_in (at_place x.resources r)) same (keeps x r) ∙ c.2 r)

pub came_moved : (g t d : ℕ) (s : State) → CameFrom s (after_dom_moved g t d s)
came_moved g t d s =
    by_option (CameFrom s) (home_pool_of_domain s d) _ _ (λ is. came_same s)
    (λ i is. by_option (CameFrom s) (at_place s.pools i) _ _ (λ is2. came_same s)
    (λ pool is2. by_option (CameFrom s) (at_place pool.domains d) _ _ (λ is3. came_same s)
    (λ domain is3. by_option (CameFrom s) domain.moving _ _ (λ is4. came_same s)
    (λ j is4. came_changed s (change_pool i (left_by t d) s) j.0 (joined_by g t d domain) (joined_keeps g t d domain) (came_changed s s i (left_by t d) (left_keeps t d) (came_same s))))))

-- the domain that moves is in its pool, and none of its units is on a core there
pub mover : (m : Machine) (s : State) (d : ℕ) (a : ActsIn m s s.now (DomMoved (domain_number d))) → (x : Domain) × (at_place a.pool.domains d ≡ Some x) × (is_some x.moving ≡ true)
mover m s d a = some-test_at a.pool.domains d (λ domain. is_some domain.moving) (and_left (test_at a.pool.domains d (λ domain. is_some domain.moving)) _ a.enabled)

pub mover_off : (m : Machine) (s : State) (d : ℕ) (a : ActsIn m s s.now (DomMoved (domain_number d))) (r : ℕ) (c : Resource) → at_place a.pool.resources r ≡ Some c → is_domain_unit d c.cur ≡ false
mover_off m s d a r c at =
    let passes : ℕ × Resource → Bool = λ e. is_domain_unit d e.1.cur || is_domain_unit d e.1.saving in
    let none = at_numbered (λ (x : Resource). (is_domain_unit d x.cur || is_domain_unit d x.saving) ≡ false) 0 a.pool.resources
    (none_passes passes (numbered_items 0 a.pool.resources) (not-true (list_any passes (numbered_items 0 a.pool.resources)) (and_right (test_at a.pool.domains d (λ domain. is_some domain.moving)) _ a.enabled))) in
    or_left (is_domain_unit d c.cur) (is_domain_unit d c.saving) (none r c at)
