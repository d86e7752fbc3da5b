-- A core or a domain that moves is in its new place, and all others stay.
use Rattle.std.proofs.Common.{◌≡◌, ◌≢◌, ◌<◌, ℕ, true, List, length, refl, arith, ap, subst, sym, ◌∙◌, ◌⊎◌, inl, inr}
use Rattle.std.specs.Prelude.{Option, Some, None, is_some, option_map, map}
use mathlib.Core.Logic.{dite}
use native.Mathlib.Decide.{ℕ_discrete}
use Rattle.sched_base.specs.declared.PoolId.{PoolId}
use Rattle.sched_model.specs.declared.machine.Machine.{Machine}
use Rattle.sched_model.specs.declared.state.Domain.{Domain}
use Rattle.sched_model.specs.declared.state.FreeCore.{FreeCore}
use Rattle.sched_model.specs.declared.state.Pool.{Pool}
use Rattle.sched_model.specs.declared.state.Resource.{Resource}
use Rattle.sched_model.specs.declared.state.State.{State}
use Rattle.sched_model.specs.Places.{at_place, put_at, clear_at, change_at}
use Rattle.sched_model.specs.Opening.{machine_core_count, joined_core}
use Rattle.sched_model.specs.Pool.{settled_pool, pool_with_domain, pool_without_domain}
use Rattle.sched_model.specs.Policy.{standard_dom_params}
use Rattle.sched_model.specs.Actions.{home_pool_of_core, home_pool_of_domain, change_pool}
use Rattle.sched_model.specs.Machine.{with_core_in, without_core_in, left_by, joined_by, is_null_pool, state_after_moved, after_dom_moved}
use Rattle.sched_laws.specs.EachPlace.{EachPlace}
use Rattle.sched_laws.proofs.EachPlace.{by_option, by_cond, at_place-put_at, at_place-put_at_other, at_place-clear_at, at_place-clear_at_other, place_below, length_set}
use Rattle.sched_laws.proofs.Opened.{with_domain-domains, with_domain-resources}
use Rattle.composition_laws.proofs.Places.{some_change_at, some_change_each, at_place-change_at, at_place-change_at_other}
use Rattle.composition_laws.proofs.Looks.{has_core_in, moving_in}
use Rattle.composition_laws.proofs.Alike.{core_of, mover_of, target_of}
use Rattle.composition_laws.proofs.Housed.{Housed, at_change, never}

-- the pools have a place for each core and each domain of the machine, and so have the free cores
pub record HasPlaces (m : Machine) (s : State) : Type 0 where
  pub free : length s.free ≡ machine_core_count m.config
  pub cores : EachPlace (λ (pool : Pool). length pool.resources ≡ machine_core_count m.config) s.pools
  pub domains : EachPlace (λ (pool : Pool). length pool.domains ≡ length m.config.domains) s.pools

core_settled : (t r : ℕ) (pool : Pool) → has_core_in (settled_pool t pool) r ≡ has_core_in pool r
core_settled t r pool = some_change_each r _ pool.resources

-- a change of a pool that leaves its cores but r, and its domains
pub record LeavesBut (r : ℕ) (f : Pool → Pool) : Type 0 where
  pub cores : (pool : Pool) (q : ℕ) → q ≢ r → has_core_in (f pool) q ≡ has_core_in pool q
  pub domains : (pool : Pool) (d : ℕ) → moving_in (f pool) d ≡ moving_in pool d

core_left : (r : ℕ) (f : Pool → Pool) → LeavesBut r f → (o : Option Pool) (q : ℕ) → q ≢ r → core_of (option_map f o) q ≡ core_of o q
core_left r f leaves None q ne = refl
core_left r f leaves (Some pool) q ne = leaves.cores pool q ne

mover_left : (r : ℕ) (f : Pool → Pool) → LeavesBut r f → (o : Option Pool) (d : ℕ) → mover_of (option_map f o) d ≡ mover_of o d
mover_left r f leaves None d = refl
mover_left r f leaves (Some pool) d = leaves.domains pool d

-- the core r moves, from the pool i or to it
housed_core : (m : Machine) (r i : ℕ) (f : Pool → Pool) (s next : State) → LeavesBut r f → next.pools ≡ change_at i f s.pools → ((q : ℕ) → q ≢ r → at_place next.free q ≡ at_place s.free q)
    → (is_some (at_place next.free r) ≡ true) ⊎ ((k : ℕ) × (core_of (at_place next.pools k) r ≡ true)) → ((j : ℕ) → target_of next r ≡ Some (Some j) → ⊥) → Housed m s → Housed m next
housed_core m r i f s next leaves pools free here aimless h =
    let at : (k : ℕ) → at_place next.pools k ≡ at_place (change_at i f s.pools) k = λ k. ap (λ (l : List (Option Pool)). at_place l k) pools in
    let there : (k : ℕ) → is_some (at_place next.pools k) ≡ is_some (at_place s.pools k) = λ k. ap is_some (at k) ∙ some_change_at i k f s.pools in
    let core : (k q : ℕ) → q ≢ r → core_of (at_place next.pools k) q ≡ core_of (at_place s.pools k) q = λ k q ne. ap (λ o. core_of o q) (at k) ∙ elim (at_change i k f s.pools) [
      | inl was ↦ ap (λ o. core_of o q) was
      | inr e ↦ ap (λ o. core_of o q) e.1 ∙ core_left r f leaves (at_place s.pools i) q ne ∙ ap (λ (n : ℕ). core_of (at_place s.pools n) q) (sym e.0)
    ] in
    let mover : (k d : ℕ) → mover_of (at_place next.pools k) d ≡ mover_of (at_place s.pools k) d = λ k d. ap (λ o. mover_of o d) (at k) ∙ elim (at_change i k f s.pools) [
      | inl was ↦ ap (λ o. mover_of o d) was
      | inr e ↦ ap (λ o. mover_of o d) e.1 ∙ mover_left r f leaves (at_place s.pools i) d ∙ ap (λ (n : ℕ). mover_of (at_place s.pools n) d) (sym e.0)
    ] in
    record {
      cores = λ q low. dite (ℕ_discrete q r)
          (λ e. subst (λ (n : ℕ). (is_some (at_place next.free n) ≡ true) ⊎ ((k : ℕ) × (core_of (at_place next.pools k) n ≡ true))) (sym e) here)
          (λ ne. elim (h.cores q low) [ inl is ↦ inl (ap is_some (free q ne) ∙ is) | inr p ↦ inr (p.0, core p.0 q ne ∙ p.1) ]);
      domains = λ d low. let p = h.domains d low in (p.0, ap is_some (mover p.0 d) ∙ p.1);
      aims = λ q j is. dite (ℕ_discrete q r)
          (λ e. absurd (aimless j (ap (target_of next) (sym e) ∙ is)))
          (λ ne. there j ∙ h.aims q j (ap (option_map (λ (c : FreeCore). c.target)) (sym (free q ne)) ∙ is));
      movers = λ k d j is. there j.0 ∙ h.movers k d j (sym (mover k d) ∙ is);
      away = λ k d j is. h.away k d j (sym (mover k d) ∙ is);
    }

-- a free core joins the pool i, which is there
housed_attached : (m : Machine) (t r i : ℕ) (c : FreeCore) (s : State) → HasPlaces m s → at_place s.free r ≡ Some c → is_some (at_place s.pools i) ≡ true → Housed m s → Housed m (with_core_in t r i c s)
housed_attached m t r i c s places is there h =
    let f : Pool → Pool = λ pool. settled_pool t (record pool { resources = put_at r (joined_core c.stall_ends) pool.resources }) in
    let low : r < machine_core_count m.config = (let b = place_below s.free r c is in let e = places.free in omega (arith, b, e)) in
    housed_core m r i f s (with_core_in t r i c s)
    (record {
      cores = λ pool q ne. core_settled t q (record pool { resources = put_at r (joined_core c.stall_ends) pool.resources }) ∙ ap is_some (at_place-put_at_other r q (joined_core c.stall_ends) pool.resources ne);
      domains = λ pool d. refl;
    })
    refl
    (λ q ne. at_place-clear_at_other r q s.free ne)
    (inr (i, ap (λ o. core_of o r) (at_place-change_at i f s.pools) ∙ joined (at_place s.pools i) refl there low))
    (λ j aim. never (Some j) (ap (option_map (λ (c : FreeCore). c.target)) (sym (at_place-clear_at r s.free)) ∙ aim))
    h
  where
    joined : (o : Option Pool) → at_place s.pools i ≡ o → is_some o ≡ true → r < machine_core_count m.config → core_of (option_map (λ (pool : Pool). settled_pool t (record pool { resources = put_at r (joined_core c.stall_ends) pool.resources })) o) r ≡ true
    joined None at is low = is
    joined (Some pool) at is low =
        core_settled t r (record pool { resources = put_at r (joined_core c.stall_ends) pool.resources })
        ∙ ap is_some (at_place-put_at r (joined_core c.stall_ends) pool.resources (let e = places.cores i pool at in omega (arith, low, e)))

-- a core of the pool i becomes free
housed_detached : (m : Machine) (t r i : ℕ) (c : Resource) (pool : Pool) (s : State) → HasPlaces m s → at_place s.pools i ≡ Some pool → at_place pool.resources r ≡ Some c → Housed m s → Housed m (without_core_in t r i c s)
housed_detached m t r i c pool s places at has h =
    let low : r < machine_core_count m.config = (let b = place_below pool.resources r c has in let e = places.cores i pool at in omega (arith, b, e)) in
    let x : FreeCore = record { target = None; stall_ends = map (λ p. p.stall_end) c.processors } in
    let put : at_place (put_at r x s.free) r ≡ Some x = at_place-put_at r x s.free (let e = places.free in omega (arith, low, e)) in
    housed_core m r i (λ p. settled_pool t (record p { resources = clear_at r p.resources })) s (without_core_in t r i c s)
    (record {
      cores = λ p q ne. core_settled t q (record p { resources = clear_at r p.resources }) ∙ ap is_some (at_place-clear_at_other r q p.resources ne);
      domains = λ p d. refl;
    })
    refl
    (λ q ne. at_place-put_at_other r q x s.free ne)
    (inl (ap is_some put))
    (λ j aim. let e : Some None ≡ Some (Some j) = ap (option_map (λ (c : FreeCore). c.target)) (sym put) ∙ aim in absurd (cc))
    h

pub housed_moved : (m : Machine) (t r : ℕ) (s : State) → HasPlaces m s → Housed m s → Housed m (state_after_moved t r s)
housed_moved m t r s places h =
    by_option (Housed m) (at_place s.free r) _ _
    (λ is. by_option (Housed m) (home_pool_of_core s r) _ _ (λ is2. h)
    (λ i is2. by_option (Housed m) (at_place s.pools i) _ _ (λ is3. h)
    (λ pool at. by_option (Housed m) (at_place pool.resources r) _ _ (λ is4. h) (λ c has. housed_detached m t r i c pool s places at has h))))
    (λ c is. by_option (Housed m) c.target _ _ (λ is2. h)
    (λ i is2. housed_attached m t r i c s places is (h.aims r i (ap (option_map (λ (x : FreeCore). x.target)) is ∙ ap (λ o. Some o) is2)) h))

-- alike but for the domain d
record AtBut (d : ℕ) (o p : Option Pool) : Type 0 where
  pub there : is_some p ≡ is_some o
  pub cores : (r : ℕ) → core_of p r ≡ core_of o r
  pub domains : (e : ℕ) → e ≢ d → mover_of p e ≡ mover_of o e

record KeepsBut (d : ℕ) (f : Pool → Pool) : Type 0 where
  pub cores : (pool : Pool) (r : ℕ) → has_core_in (f pool) r ≡ has_core_in pool r
  pub domains : (pool : Pool) (e : ℕ) → e ≢ d → moving_in (f pool) e ≡ moving_in pool e

changed_but : (d : ℕ) (f : Pool → Pool) → KeepsBut d f → (o : Option Pool) → AtBut d o (option_map f o)
changed_but d f keeps None = record { there = refl; cores = λ r. refl; domains = λ e ne. refl }
changed_but d f keeps (Some pool) = record { there = refl; cores = keeps.cores pool; domains = keeps.domains pool }

pools_but : (d i : ℕ) (f : Pool → Pool) (pools : List (Option Pool)) → KeepsBut d f → (k : ℕ) → AtBut d (at_place pools k) (at_place (change_at i f pools) k)
pools_but d i f pools keeps k = dite (ℕ_discrete k i)
    (λ e. subst (λ (j : ℕ). AtBut d (at_place pools j) (at_place (change_at i f pools) j)) (sym e) (subst (AtBut d (at_place pools i)) (sym (at_place-change_at i f pools)) (changed_but d f keeps (at_place pools i))))
    (λ ne. subst (AtBut d (at_place pools k)) (sym (at_place-change_at_other i k f pools ne)) (record { there = refl; cores = λ r. refl; domains = λ e ne2. refl }))

left_keeps : (t d : ℕ) → KeepsBut d (left_by t d)
left_keeps t d = record {
  cores = λ pool r. by_cond (λ (p : Pool). has_core_in p r ≡ has_core_in pool r) (is_null_pool pool.scheduler.records) (settled_pool t (pool_without_domain d pool)) (pool_without_domain d pool) (λ is. core_settled t r (pool_without_domain d pool)) (λ is. refl);
  domains = λ pool e ne. (
      let other : moving_in (pool_without_domain d pool) e ≡ moving_in pool e = ap (option_map (λ (x : Domain). x.moving)) (at_place-clear_at_other d e pool.domains ne) in
      by_cond (λ (p : Pool). moving_in p e ≡ moving_in pool e) (is_null_pool pool.scheduler.records) (settled_pool t (pool_without_domain d pool)) (pool_without_domain d pool) (λ is. other) (λ is. other));
}

left_gone : (t d : ℕ) (pool : Pool) → at_place (left_by t d pool).domains d ≡ None
left_gone t d pool = by_cond (λ (p : Pool). at_place p.domains d ≡ None) (is_null_pool pool.scheduler.records) (settled_pool t (pool_without_domain d pool)) (pool_without_domain d pool) (λ is. at_place-clear_at d pool.domains) (λ is. at_place-clear_at d pool.domains)

pub left_length : (t d : ℕ) (pool : Pool) → length (left_by t d pool).domains ≡ length pool.domains
left_length t d pool = by_cond (λ (p : Pool). length p.domains ≡ length pool.domains) (is_null_pool pool.scheduler.records) (settled_pool t (pool_without_domain d pool)) (pool_without_domain d pool) (λ is. length_set d None pool.domains) (λ is. length_set d None pool.domains)

module _ (g t d : ℕ) (x : Domain) where
  come_domains : (pool : Pool) → (joined_by g t d x pool).domains ≡ put_at d (record x { moving = None }) pool.domains
  come_domains pool = with_domain-domains g t d (record x { moving = None }) (standard_dom_params pool.scheduler.records) pool

  joined_keeps : KeepsBut d (joined_by g t d x)
  joined_keeps = record {
    cores = λ pool r. core_settled t r (pool_with_domain g t d (record x { moving = None }) (standard_dom_params pool.scheduler.records) pool)
        ∙ ap (λ (l : List (Option Resource)). is_some (at_place l r)) (with_domain-resources g t d (record x { moving = None }) (standard_dom_params pool.scheduler.records) pool);
    domains = λ pool e ne. ap (λ (l : List (Option Domain)). option_map (λ (y : Domain). y.moving) (at_place l e)) (come_domains pool) ∙ ap (option_map (λ (y : Domain). y.moving)) (at_place-put_at_other d e (record x { moving = None }) pool.domains ne);
  }

  come_here : (pool : Pool) → d < length pool.domains → moving_in (joined_by g t d x pool) d ≡ Some None
  come_here pool low = ap (λ (l : List (Option Domain)). option_map (λ (y : Domain). y.moving) (at_place l d)) (come_domains pool) ∙ ap (option_map (λ (y : Domain). y.moving)) (at_place-put_at d (record x { moving = None }) pool.domains low)

-- a domain goes from the pool i to the pool j, which is there
housed_dom : (m : Machine) (g t d i : ℕ) (j : PoolId) (pool : Pool) (x : Domain) (s : State) → HasPlaces m s → at_place s.pools i ≡ Some pool → at_place pool.domains d ≡ Some x → x.moving ≡ Some j → Housed m s
    → Housed m (change_pool j.0 (joined_by g t d x) (change_pool i (left_by t d) s))
housed_dom m g t d i j pool x s places at has moves h =
    let mid : List (Option Pool) = change_at i (left_by t d) s.pools in
    let last : List (Option Pool) = change_at j.0 (joined_by g t d x) mid in
    let a : (k : ℕ) → AtBut d (at_place s.pools k) (at_place mid k) = pools_but d i (left_by t d) s.pools (left_keeps t d) in
    let b : (k : ℕ) → AtBut d (at_place mid k) (at_place last k) = pools_but d j.0 (joined_by g t d x) mid (joined_keeps g t d x) in
    let there : (k : ℕ) → is_some (at_place last k) ≡ is_some (at_place s.pools k) = λ k. (b k).there ∙ (a k).there in
    let mover : (k e : ℕ) → e ≢ d → mover_of (at_place last k) e ≡ mover_of (at_place s.pools k) e = λ k e ne. (b k).domains e ne ∙ (a k).domains e ne in
    let target : is_some (at_place s.pools j.0) ≡ true = h.movers i d j (ap (λ o. mover_of o d) at ∙ ap (option_map (λ (y : Domain). y.moving)) has ∙ ap (λ o. Some o) moves) in
    let low : d < length m.config.domains = (let below = place_below pool.domains d x has in let e = places.domains i pool at in omega (arith, below, e)) in
    let came : mover_of (at_place last j.0) d ≡ Some None = ap (λ o. mover_of o d) (at_place-change_at j.0 (joined_by g t d x) mid) ∙ joins (at_place mid j.0) ((a j.0).there ∙ target) (λ q at_q. long low q at_q) in
    let before : (k e : ℕ) (z : PoolId) → mover_of (at_place last k) e ≡ Some (Some z) → mover_of (at_place s.pools k) e ≡ Some (Some z) = λ k e z is. dite (ℕ_discrete e d)
    (λ same. dite (ℕ_discrete k j.0)
    (λ here. let no : Some None ≡ Some (Some z) = sym came ∙ (λ n. mover_of (at_place last (sym here n)) (sym same n)) ∙ is in absurd (cc))
    (λ ne. let was : mover_of (at_place mid k) d ≡ Some (Some z) = ap (λ o. mover_of o d) (sym (at_place-change_at_other j.0 k (joined_by g t d x) mid ne)) ∙ ap (mover_of (at_place last k)) (sym same) ∙ is in
    elim (at_change i k (left_by t d) s.pools) [
      | inl stays ↦ ap (mover_of (at_place s.pools k)) same ∙ ap (λ o. mover_of o d) (sym stays) ∙ was
      | inr gone ↦ absurd (never (Some z) (sym (goes (at_place s.pools i)) ∙ ap (λ o. mover_of o d) (sym gone.1) ∙ was))
    ]))
    (λ ne. sym (mover k e ne) ∙ is) in
    record {
      cores = λ r small. elim (h.cores r small) [ inl is ↦ inl is | inr p ↦ inr (p.0, (b p.0).cores r ∙ (a p.0).cores r ∙ p.1) ];
      domains = λ e small. dite (ℕ_discrete e d)
          (λ is. (j.0, ap (λ (n : ℕ). is_some (mover_of (at_place last j.0) n)) is ∙ ap is_some came))
          (λ ne. let p = h.domains e small in (p.0, ap is_some (mover p.0 e ne) ∙ p.1));
      aims = λ r k is. there k ∙ h.aims r k is;
      movers = λ k e z is. there z.0 ∙ h.movers k e z (before k e z is);
      away = λ k e z is. h.away k e z (before k e z is);
    }
  where
    joins : (o : Option Pool) → is_some o ≡ true → ((q : Pool) → o ≡ Some q → d < length q.domains) → mover_of (option_map (joined_by g t d x) o) d ≡ Some None
    joins None is room = absurd (cc)
    joins (Some q) is room = come_here g t d x q (room q refl)

    goes : (o : Option Pool) → mover_of (option_map (left_by t d) o) d ≡ None
    goes None = refl
    goes (Some q) = ap (option_map (λ (y : Domain). y.moving)) (left_gone t d q)

    left_long : (o : Option Pool) (q : Pool) → at_place s.pools i ≡ o → option_map (left_by t d) o ≡ Some q → length q.domains ≡ length m.config.domains
    left_long None q at_i is = absurd (cc)
    left_long (Some p) q at_i is = let e : left_by t d p ≡ q = cc in ap (λ (y : Pool). length y.domains) (sym e) ∙ left_length t d p ∙ places.domains i p at_i

    long : d < length m.config.domains → (q : Pool) → at_place (change_at i (left_by t d) s.pools) j.0 ≡ Some q → d < length q.domains
    long low q at_q = elim (at_change i j.0 (left_by t d) s.pools) [
      | inl was ↦ (let e = places.domains j.0 q (sym was ∙ at_q) in omega (arith, low, e))
      | inr c ↦ (let e = left_long (at_place s.pools i) q refl (sym c.1 ∙ at_q) in omega (arith, low, e))
    ]

pub housed_dom_moved : (m : Machine) (g t d : ℕ) (s : State) → HasPlaces m s → Housed m s → Housed m (after_dom_moved g t d s)
housed_dom_moved m g t d s places h =
    by_option (Housed m) (home_pool_of_domain s d) _ _ (λ is. h)
    (λ i is. by_option (Housed m) (at_place s.pools i) _ _ (λ is2. h)
    (λ pool at. by_option (Housed m) (at_place pool.domains d) _ _ (λ is3. h)
    (λ x has. by_option (Housed m) x.moving _ _ (λ is4. h) (λ j moves. housed_dom m g t d i j pool x s places at has moves h))))
