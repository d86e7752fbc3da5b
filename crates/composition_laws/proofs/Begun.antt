-- At the opening each core is free or in a pool, and each domain in its pool.
use Rattle.sched_laws.proofs.Lists.{item_below}
use Rattle.std.proofs.Common.{◌≡◌, ◌<◌, ◌+◌, ℕ, zero, suc, Bool, true, false, List, [], ◌∷◌, ◌++◌, length, refl, arith, ap, subst, sym, ◌∙◌, ◌⊎◌, inl, inr, cond, replicate}
use Rattle.std.specs.Prelude.{Option, Some, None, is_some, option_map, map, slice_get, ◌==◌, ◌||◌, ◌-◌}
use Rattle.std.specs.List.{list_any}
use Rattle.std.proofs.lemmas.List.{length-replicate}
use Rattle.std.proofs.lemmas.List.Elements.{recursion_from_All}
use Rattle.sched_base.specs.Numbers.{moment}
use Rattle.sched_base.specs.declared.PoolId.{PoolId}
use Rattle.sched_base.proofs.Lists.{each_get}
use Rattle.sched_model.specs.declared.config.Config.{Config}
use Rattle.sched_model.specs.declared.config.DomConfig.{DomConfig}
use Rattle.sched_model.specs.declared.config.PoolConfig.{PoolConfig}
use Rattle.sched_model.specs.declared.machine.Machine.{Machine}
use Rattle.sched_model.specs.declared.state.Domain.{Domain}
use Rattle.sched_model.specs.declared.state.FreeCore.{FreeCore}
use Rattle.sched_model.specs.declared.state.Pool.{Pool}
use Rattle.sched_model.specs.declared.state.Resource.{Resource}
use Rattle.sched_model.specs.Places.{at_place, put_at, numbers_from}
use Rattle.sched_model.specs.State.{has_core_bit}
use Rattle.sched_model.specs.Opening.{opening, free_core_at_opening, pool_at_opening, pools_at_opening, pool_with_domains, pool_with_configured, fresh_pool, joined_core, machine_core_count, domain_at_opening}
use Rattle.sched_model.specs.CheckedMachine.{IsChecked, IsCheckedDomain}
use Rattle.sched_model.proofs.PlaceLemmas.{is_some-option_map}
use Rattle.sched_laws.proofs.EachPlace.{by_cond, is_empty, EachPlace-empty, at_place-put_at, length_set}
use Rattle.sched_laws.proofs.Opened.{read_map, read_pools, with_domains-resources, with_configured-domains}
use Rattle.composition_laws.proofs.Looks.{moving_in}
use Rattle.composition_laws.proofs.Alike.{core_of, mover_of, target_of}
use Rattle.composition_laws.proofs.Housed.{Housed, never, after_put}

at_map : {X : Type 0} (f : ℕ → Option X) (k n i : ℕ) → i < n → at_place (map f (numbers_from k n)) i ≡ f (k + i)
at_map f k zero i low = absurd (omega (arith, low))
at_map f k (suc n) zero low = let e : k + 0 ≡ k = omega arith in ap f (sym e)
at_map f k (suc n) (suc i) low = let e : suc k + i ≡ k + suc i = omega arith in at_map f (suc k) n i (omega (arith, low)) ∙ ap f e

at_pools : (config : Config) (k : ℕ) (pools : List PoolConfig) (rest : List (Option Pool)) (i : ℕ) (p : PoolConfig) → slice_get pools i ≡ Some p → at_place (pools_at_opening config k pools ++ rest) i ≡ Some (pool_at_opening config (k + i) p)
at_pools config k [] rest i p at = absurd (cc)
at_pools config k (q ∷ pools) rest zero p at = let e : k + 0 ≡ k = omega arith in let same : q ≡ p = cc in λ j. Some (pool_at_opening config (sym e j) (same j))
at_pools config k (q ∷ pools) rest (suc i) p at = let e : suc k + i ≡ k + suc i = omega arith in at_pools config (suc k) pools rest i p at ∙ ap (λ n. Some (pool_at_opening config n p)) e

any_at : {X : Type 0} (test : X → Bool) (xs : List X) → list_any test xs ≡ true → (i : ℕ) × (x : X) × (slice_get xs i ≡ Some x) × (test x ≡ true)
any_at test [] is = absurd (cc)
any_at {X} test (x ∷ xs) is = by_test (test x) refl is (λ later. any_at test xs later)
  where
    by_test : (b : Bool) → test x ≡ b → (b || list_any test xs) ≡ true → (list_any test xs ≡ true → (i : ℕ) × (y : X) × (slice_get xs i ≡ Some y) × (test y ≡ true)) → (i : ℕ) × (y : X) × (slice_get (x ∷ xs) i ≡ Some y) × (test y ≡ true)
    by_test true here is later = (0, x, refl, here)
    by_test false here is later = let r = later is in (suc r.0, r.1, r.2, r.3)

-- one domain joins
abbrev step : ℕ → ℕ → ℕ → DomConfig → Pool → Pool
step g i d joining pool = cond (joining.home.0 == i) (pool_with_configured g d joining pool) pool

step_length : (g i d : ℕ) (joining : DomConfig) (pool : Pool) → length (step g i d joining pool).domains ≡ length pool.domains
step_length g i d joining pool = by_cond (λ (p : Pool). length p.domains ≡ length pool.domains) (joining.home.0 == i) (pool_with_configured g d joining pool) pool
    (λ is. ap length (with_configured-domains g d joining pool) ∙ length_set d (Some (domain_at_opening joining)) pool.domains) (λ is. refl)

put_keeps : {X : Type 0} (i j : ℕ) (x : X) (places : List (Option X)) → is_some (at_place places j) ≡ true → is_some (at_place (put_at i x places) j) ≡ true
put_keeps i j x places is = elim (after_put i j x places) [ inl was ↦ ap is_some was ∙ is | inr new ↦ ap is_some new.1 ]

step_keeps : (g i d e : ℕ) (joining : DomConfig) (pool : Pool) → is_some (at_place pool.domains e) ≡ true → is_some (at_place (step g i d joining pool).domains e) ≡ true
step_keeps g i d e joining pool is = by_cond (λ (p : Pool). is_some (at_place p.domains e) ≡ true) (joining.home.0 == i) (pool_with_configured g d joining pool) pool
    (λ home. ap (λ (l : List (Option Domain)). is_some (at_place l e)) (with_configured-domains g d joining pool) ∙ put_keeps d e (domain_at_opening joining) pool.domains is) (λ away. is)

joined_keeps : (g i d e : ℕ) (domains : List DomConfig) (pool : Pool) → is_some (at_place pool.domains e) ≡ true → is_some (at_place (pool_with_domains g i d domains pool).domains e) ≡ true
joined_keeps g i d e [] pool is = is
joined_keeps g i d e (joining ∷ domains) pool is = joined_keeps g i (suc d) e domains (step g i d joining pool) (step_keeps g i d e joining pool is)

step_here : (g i d : ℕ) (joining : DomConfig) (pool : Pool) → joining.home.0 ≡ i → d < length pool.domains → is_some (at_place (step g i d joining pool).domains d) ≡ true
step_here g i d joining pool home low = by_cond (λ (p : Pool). is_some (at_place p.domains d) ≡ true) (joining.home.0 == i) (pool_with_configured g d joining pool) pool
    (λ is. ap (λ (l : List (Option Domain)). is_some (at_place l d)) (with_configured-domains g d joining pool) ∙ ap is_some (at_place-put_at d (domain_at_opening joining) pool.domains low)) (λ away. absurd (grind (arith, away, home)))

-- a domain stands in its home
joined_here : (g i d j : ℕ) (domains : List DomConfig) (pool : Pool) (c : DomConfig) → slice_get domains j ≡ Some c → c.home.0 ≡ i → d + j < length pool.domains → is_some (at_place (pool_with_domains g i d domains pool).domains (d + j)) ≡ true
joined_here g i d j [] pool c at home low = absurd (cc)
joined_here g i d zero (joining ∷ domains) pool c at home low =
    let e : d + 0 ≡ d = omega arith in let same : joining ≡ c = cc in
    subst (λ n. is_some (at_place (pool_with_domains g i (suc d) domains (step g i d joining pool)).domains n) ≡ true) (sym e)
    (joined_keeps g i (suc d) d domains (step g i d joining pool) (step_here g i d joining pool (ap (λ (x : DomConfig). x.home.0) same ∙ home) (omega (arith, low))))
joined_here g i d (suc j) (joining ∷ domains) pool c at home low =
    let e : suc d + j ≡ d + suc j = omega arith in
    subst (λ n. is_some (at_place (pool_with_domains g i (suc d) domains (step g i d joining pool)).domains n) ≡ true) e
    (joined_here g i (suc d) j domains (step g i d joining pool) c at home (let l = step_length g i d joining pool in omega (arith, low, l)))

-- no domain moves
step_still : (g i d e : ℕ) (joining : DomConfig) (pool : Pool) (j : PoolId) → moving_in (step g i d joining pool) e ≡ Some (Some j) → moving_in pool e ≡ Some (Some j)
step_still g i d e joining pool j = by_cond (λ (p : Pool). moving_in p e ≡ Some (Some j) → moving_in pool e ≡ Some (Some j)) (joining.home.0 == i) (pool_with_configured g d joining pool) pool
    (λ home is. elim (after_put d e (domain_at_opening joining) pool.domains) [
      | inl was ↦ ap (option_map (λ (x : Domain). x.moving)) (sym was) ∙ ap (λ (l : List (Option Domain)). option_map (λ (x : Domain). x.moving) (at_place l e)) (sym (with_configured-domains g d joining pool)) ∙ is
      | inr new ↦ (let no : Some None ≡ Some (Some j) = ap (option_map (λ (x : Domain). x.moving)) (sym new.1) ∙ ap (λ (l : List (Option Domain)). option_map (λ (x : Domain). x.moving) (at_place l e)) (sym (with_configured-domains g d joining pool)) ∙ is in absurd (cc))
    ])
    (λ away is. is)

joined_still : (g i d e : ℕ) (domains : List DomConfig) (pool : Pool) (j : PoolId) → moving_in (pool_with_domains g i d domains pool) e ≡ Some (Some j) → moving_in pool e ≡ Some (Some j)
joined_still g i d e [] pool j is = is
joined_still g i d e (joining ∷ domains) pool j is = step_still g i d e joining pool j (joined_still g i (suc d) e domains (step g i d joining pool) j is)

module _ (m : Machine) (checked : IsChecked m) where
  abbrev config : Config
  config = m.config

  abbrev bare_core : FreeCore
  bare_core = record { target = None; stall_ends = replicate config.granularity (moment 0) }

  abbrev new_core : Resource
  new_core = joined_core (replicate config.granularity (moment 0))

  opening_at : (i : ℕ) (p : PoolConfig) → slice_get config.pools i ≡ Some p → at_place (opening m).pools i ≡ Some (pool_at_opening config i p)
  opening_at i p at = let e : 0 + i ≡ i = omega arith in at_pools config 0 config.pools (replicate (16 - length config.pools) None) i p at ∙ ap (λ n. Some (pool_at_opening config n p)) e

  core_opened : (r : ℕ) → r < machine_core_count config → (is_some (at_place (opening m).free r) ≡ true) ⊎ ((i : ℕ) × (core_of (at_place (opening m).pools i) r ≡ true))
  core_opened r low = by_any (list_any (λ (pool : PoolConfig). has_core_bit pool.cores r) config.pools) refl
    where
      by_any : (b : Bool) → list_any (λ (pool : PoolConfig). has_core_bit pool.cores r) config.pools ≡ b → (is_some (at_place (opening m).free r) ≡ true) ⊎ ((i : ℕ) × (core_of (at_place (opening m).pools i) r ≡ true))
      by_any false none = let e : 0 + r ≡ r = omega arith in inl (ap is_some (at_map (free_core_at_opening config) 0 (machine_core_count config) r low ∙ (ap (free_core_at_opening config) e ∙ ap (λ b. cond b None (Some bare_core)) none)))
      by_any true some = let p = any_at (λ (pool : PoolConfig). has_core_bit pool.cores r) config.pools some in inr (
        p.0,
        ap (λ o. core_of o r) (opening_at p.0 p.1 p.2)
            ∙ ap (λ (l : List (Option Resource)). is_some (at_place l r)) (with_domains-resources config.granularity p.0 0 config.domains (record (fresh_pool config p.1.params) { resources = map (λ r. cond (has_core_bit p.1.cores r) (Some (joined_core (replicate config.granularity (moment 0)))) None) (numbers_from 0 (machine_core_count config)) }))
            ∙ ap is_some (at_map (λ q. cond (has_core_bit p.1.cores q) (Some new_core) None) 0 (machine_core_count config) r low ∙ (let e : 0 + r ≡ r = omega arith in ap (λ q. cond (has_core_bit p.1.cores q) (Some new_core) None) e))
            ∙ ap (λ b. is_some (cond b (Some new_core) None)) p.3,
      )

  domain_opened : (d : ℕ) → d < length config.domains → (i : ℕ) × (is_some (mover_of (at_place (opening m).pools i) d) ≡ true)
  domain_opened d low =
      let c = item_below config.domains d low in
      let is : IsCheckedDomain config c.0 = each_get (IsCheckedDomain config) config.domains d c.0 (recursion_from_All (IsCheckedDomain config) config.domains checked.config.domains) c.1 in
      let p = item_below config.pools c.0.home.0 is.home in
      let i : ℕ = c.0.home.0 in
      let start : Pool = record (fresh_pool config p.0.params) { resources = map (λ r. cond (has_core_bit p.0.cores r) (Some (joined_core (replicate config.granularity (moment 0)))) None) (numbers_from 0 (machine_core_count config)) } in
      let len : length start.domains ≡ length config.domains = length-replicate (length config.domains) None in
      (i, ap (λ o. is_some (mover_of o d)) (opening_at i p.0 p.1) ∙ is_some-option_map (λ (x : Domain). x.moving) (at_place (pool_at_opening config i p.0).domains d) ∙ (let e : 0 + d ≡ d = omega arith in subst (λ n. is_some (at_place (pool_with_domains config.granularity i 0 config.domains start).domains n) ≡ true) e (joined_here config.granularity i 0 d config.domains start c.0 c.1 refl (omega (arith, low, len)))))

  aimless : (r i : ℕ) → target_of (opening m) r ≡ Some (Some i) → ⊥
  aimless r i is = by_free (at_place (opening m).free r) refl is
    where
      by_free : (o : Option FreeCore) → at_place (opening m).free r ≡ o → option_map (λ (c : FreeCore). c.target) o ≡ Some (Some i) → ⊥
      by_free None at is = absurd (cc)
      by_free (Some c) at is =
          let e = read_map (free_core_at_opening config) 0 (machine_core_count config) r c at in
          by_any (list_any (λ (pool : PoolConfig). has_core_bit pool.cores (0 + r)) config.pools) e is
        where
          by_any : (b : Bool) → cond b None (Some (record { target = None; stall_ends = replicate config.granularity (moment 0) })) ≡ Some c → Some c.target ≡ Some (Some i) → ⊥
          by_any true e is = absurd (never c e)
          by_any false e is = let f : Some None ≡ Some (Some i) = ap (option_map (λ (x : FreeCore). x.target)) e ∙ is in absurd (cc)

  still : (i d : ℕ) (j : PoolId) → mover_of (at_place (opening m).pools i) d ≡ Some (Some j) → ⊥
  still i d j is = by_pool (at_place (opening m).pools i) refl is
    where
      by_pool : (o : Option Pool) → at_place (opening m).pools i ≡ o → mover_of o d ≡ Some (Some j) → ⊥
      by_pool None at is = absurd (cc)
      by_pool (Some x) at is =
          let r = read_pools config 0 (16 - length config.pools) config.pools i x at in
          let start : Pool = record (fresh_pool config r.0.params) { resources = map (λ r2. cond (has_core_bit r.0.cores r2) (Some (joined_core (replicate config.granularity (moment 0)))) None) (numbers_from 0 (machine_core_count config)) } in
          let was = joined_still config.granularity (0 + i) 0 d config.domains start j (ap (λ (p : Pool). moving_in p d) (sym r.2) ∙ is) in
          never (Some j) (sym (ap (option_map (λ (y : Domain). y.moving)) (is_empty (at_place (replicate (length config.domains) None) d) (λ y at2. EachPlace-empty {X = Domain} (λ z. ⊥) (length config.domains) d y at2))) ∙ was)

  pub housed_opening : Housed m (opening m)
  housed_opening = record {
    cores = core_opened;
    domains = domain_opened;
    aims = λ r i is. absurd (aimless r i is);
    movers = λ i d j is. absurd (still i d j is);
    away = λ i d j is. absurd (still i d j is);
  }
