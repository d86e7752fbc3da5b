-- Each core of the machine is free or in a pool, and each domain is in one: kept by every step.
use Rattle.sched_laws.proofs.Judged.{Fits, verdict_fits_next}
use Rattle.std.proofs.Common.{◌≡◌, ◌≢◌, ◌<◌, ℕ, zero, suc, true, false, not, List, [], ◌∷◌, length, refl, arith, ap, subst, sym, ◌∙◌, ◌⊎◌, inl, inr, replicate}
use Rattle.std.specs.Prelude.{Option, Some, None, Ok, Err, is_some, option_map, ◌&&◌, ◌||◌, ◌==◌, nat_le}
use Rattle.std.specs.List.{list_any}
use Rattle.std.proofs.lemmas.Bool.{not-true}
use mathlib.Core.Logic.{dite}
use native.Mathlib.Decide.{ℕ_discrete}
use Rattle.sched_base.specs.Numbers.{pool as pool_number}
use Rattle.sched_base.specs.declared.PoolId.{PoolId}
use Rattle.sched_model.specs.declared.config.PoolParams.{PoolParams}
use Rattle.sched_model.specs.declared.config.ParamChange.{ParamChange}
use Rattle.sched_model.specs.declared.config.ParamChange.TheVariants as changes
use Rattle.sched_model.specs.declared.machine.Machine.{Machine}
use Rattle.sched_model.specs.declared.plan.Plan.{Plan}
use Rattle.sched_model.specs.declared.plan.Plan.TheVariants as plan
use Rattle.sched_model.specs.declared.work.CommandLine.{CommandLine}
use Rattle.sched_model.specs.declared.state.Domain.{Domain}
use Rattle.sched_model.specs.declared.state.FreeCore.{FreeCore}
use Rattle.sched_model.specs.declared.state.Pool.{Pool}
use Rattle.sched_model.specs.declared.state.Resource.{Resource}
use Rattle.sched_model.specs.declared.state.State.{State}
use Rattle.sched_model.specs.Places.{at_place, put_at, clear_at, change_at, numbered_items, numbers_from}
use Rattle.sched_model.specs.Opening.{machine_core_count, fresh_pool}
use Rattle.sched_model.specs.Pool.{change_domain, paused_pool, unpaused_pool, changed_pool, pool_with_leaving, pool_with_moving}
use Rattle.sched_model.specs.Actions.{change_pool}
use Rattle.sched_model.specs.Commands.{carried_out, change_home, pool_with_rtds, plan_pool, cores_in, domains_in}
use Rattle.sched_model.specs.Policy.{standard_pool_params}
use Rattle.sched_model.specs.Machine.{has_move_under_way, line_verdict, settled_at, after_command}
use Rattle.sched_model.proofs.PlaceLemmas.{is_some-option_map}
use Rattle.sched_laws.specs.EachPlace.{EachPlace}
use Rattle.sched_laws.proofs.EachPlace.{by_cond, at_place-put_at_other, at_place-clear_at_other, at_place-clear_at, EachPlace-empty, is_empty}
use Rattle.sched_laws.proofs.Lists.{none_passes, at_numbered}
use Rattle.sched_base.proofs.Bools.{and_right, or_left, or_right, clash}
use Rattle.composition_laws.proofs.Places.{some_change_at, at_place-change_at, at_place-change_at_other}
use Rattle.composition_laws.proofs.Looks.{has_core_in, moving_in, looks_change_core, looks_withdrawn, looks_pause, looks_unpause, looks_set_params}
use Rattle.composition_laws.proofs.Alike.{core_of, mover_of, target_of, Alike, at_itself, alike_change, alike_change_home, alike_settled_at, looks_itself, looks_rtds}

-- each core is free or in a pool, each domain is in a pool, and what is on its way goes to a pool that is there, a domain to another than its own
pub record Housed (m : Machine) (s : State) : Type 0 where
  pub cores : (r : ℕ) → r < machine_core_count m.config → (is_some (at_place s.free r) ≡ true) ⊎ ((i : ℕ) × (core_of (at_place s.pools i) r ≡ true))
  pub domains : (d : ℕ) → d < length m.config.domains → (i : ℕ) × (is_some (mover_of (at_place s.pools i) d) ≡ true)
  pub aims : (r i : ℕ) → target_of s r ≡ Some (Some i) → is_some (at_place s.pools i) ≡ true
  pub movers : (i d : ℕ) (j : PoolId) → mover_of (at_place s.pools i) d ≡ Some (Some j) → is_some (at_place s.pools j.0) ≡ true
  pub away : (i d : ℕ) (j : PoolId) → mover_of (at_place s.pools i) d ≡ Some (Some j) → j.0 ≢ i

some_target : (o : Option FreeCore) → is_some (option_map (λ (c : FreeCore). c.target) o) ≡ is_some o
some_target None = refl
some_target (Some c) = refl

pub housed_alike : (m : Machine) (s next : State) → Alike s next → Housed m s → Housed m next
housed_alike m s next a h = record {
  cores = λ r low. elim (h.cores r low) [
    | inl free ↦ inl (sym (some_target (at_place next.free r)) ∙ ap is_some (a.free r) ∙ some_target (at_place s.free r) ∙ free)
    | inr p ↦ inr (p.0, (a.pools p.0).cores r ∙ p.1)
  ];
  domains = λ d low. let p = h.domains d low in (p.0, ap is_some ((a.pools p.0).domains d) ∙ p.1);
  aims = λ r i is. (a.pools i).there ∙ h.aims r i (sym (a.free r) ∙ is);
  movers = λ i d j is. (a.pools j.0).there ∙ h.movers i d j (sym ((a.pools i).domains d) ∙ is);
  away = λ i d j is. h.away i d j (sym ((a.pools i).domains d) ∙ is);
}

-- nothing is on its way
pub record NoMoves (s : State) : Type 0 where
  pub aims : (r i : ℕ) → target_of s r ≡ Some (Some i) → ⊥
  pub movers : (i d : ℕ) (j : PoolId) → mover_of (at_place s.pools i) d ≡ Some (Some j) → ⊥

no_target : (o : Option FreeCore) (i : ℕ) → ((c : FreeCore) → o ≡ Some c → is_some c.target ≡ false) → option_map (λ (c : FreeCore). c.target) o ≡ Some (Some i) → ⊥
no_target None i none is = absurd (cc)
no_target (Some c) i none is = let e : c.target ≡ Some i = cc in absurd (let f = none c refl in cc)

no_mover_in : (pool : Pool) (o : Option Domain) (j : PoolId) → ((x : Domain) → o ≡ Some x → is_some x.moving ≡ false) → option_map (λ (x : Domain). x.moving) o ≡ Some (Some j) → ⊥
no_mover_in pool None j none is = absurd (cc)
no_mover_in pool (Some x) j none is = let e : x.moving ≡ Some j = cc in absurd (let f = none x refl in cc)

no_mover : (o : Option Pool) (d : ℕ) (j : PoolId) → ((pool : Pool) → o ≡ Some pool → EachPlace (λ (x : Domain). is_some x.moving ≡ false) pool.domains) → mover_of o d ≡ Some (Some j) → ⊥
no_mover None d j none is = absurd (cc)
no_mover (Some pool) d j none is = no_mover_in pool (at_place pool.domains d) j (λ x at. none pool refl d x at) is

pub no_moves : (s : State) → has_move_under_way s ≡ false → NoMoves s
no_moves s none =
    let pools = or_left (list_any (λ e. list_any (λ c. c.1.leaving) (numbered_items 0 e.1.resources) || list_any (λ d. is_some d.1.moving) (numbered_items 0 e.1.domains)) (numbered_items 0 s.pools)) (list_any (λ e. is_some e.1.target) (numbered_items 0 s.free)) none in
    let free = or_right (list_any (λ e. list_any (λ c. c.1.leaving) (numbered_items 0 e.1.resources) || list_any (λ d. is_some d.1.moving) (numbered_items 0 e.1.domains)) (numbered_items 0 s.pools)) (list_any (λ e. is_some e.1.target) (numbered_items 0 s.free)) none in
    let each_free : EachPlace (λ (c : FreeCore). is_some c.target ≡ false) s.free = at_numbered (λ (c : FreeCore). is_some c.target ≡ false) 0 s.free (none_passes (λ (e : ℕ × FreeCore). is_some e.1.target) (numbered_items 0 s.free) free) in
    let each_pool : EachPlace (λ (pool : Pool). (list_any (λ (c : ℕ × Resource). c.1.leaving) (numbered_items 0 pool.resources) || list_any (λ (d : ℕ × Domain). is_some d.1.moving) (numbered_items 0 pool.domains)) ≡ false) s.pools =
    at_numbered (λ (pool : Pool). (list_any (λ (c : ℕ × Resource). c.1.leaving) (numbered_items 0 pool.resources) || list_any (λ (d : ℕ × Domain). is_some d.1.moving) (numbered_items 0 pool.domains)) ≡ false) 0 s.pools
    (none_passes (λ (e : ℕ × Pool). list_any (λ (c : ℕ × Resource). c.1.leaving) (numbered_items 0 e.1.resources) || list_any (λ (d : ℕ × Domain). is_some d.1.moving) (numbered_items 0 e.1.domains)) (numbered_items 0 s.pools) pools) in
    record {
      aims = λ r i is. no_target (at_place s.free r) i (λ c at. each_free r c at) is;
      movers = λ i d j is. no_mover (at_place s.pools i) d j
          (λ pool at. at_numbered (λ (x : Domain). is_some x.moving ≡ false) 0 pool.domains (none_passes (λ (e : ℕ × Domain). is_some e.1.moving) (numbered_items 0 pool.domains)
          (or_right (list_any (λ (c : ℕ × Resource). c.1.leaving) (numbered_items 0 pool.resources)) (list_any (λ (d : ℕ × Domain). is_some d.1.moving) (numbered_items 0 pool.domains)) (each_pool i pool at)))) is;
    }

pub empty_numbered : {X : Type 0} (n r : ℕ) (places : List (Option X)) → (length (numbered_items n places) == 0) ≡ true → at_place places r ≡ None
empty_numbered n zero [] none = refl
empty_numbered n (suc r) [] none = refl
empty_numbered n zero (None ∷ places) none = refl
empty_numbered n (suc r) (None ∷ places) none = empty_numbered (suc n) r places none
empty_numbered n r (Some x ∷ places) none = absurd (grind (arith, none))

in_empty_domain : (m : Machine) (params : PoolParams) (d : ℕ) → moving_in (fresh_pool m.config params) d ≡ None
in_empty_domain m params d = ap (option_map (λ (x : Domain). x.moving)) (is_empty (at_place (replicate (length m.config.domains) None) d) (λ x at. EachPlace-empty {X = Domain} (λ y. ⊥) (length m.config.domains) d x at))

-- what stands there after something was put at i: what was put, or what stood there
pub after_put : {X : Type 0} (i k : ℕ) (x : X) (places : List (Option X)) → (at_place (put_at i x places) k ≡ at_place places k) ⊎ ((k ≡ i) × (at_place (put_at i x places) k ≡ Some x))
after_put zero k x [] = inl refl
after_put (suc i) k x [] = inl refl
after_put zero zero x (p ∷ places) = inr (refl, refl)
after_put zero (suc k) x (p ∷ places) = inl refl
after_put (suc i) zero x (p ∷ places) = inl refl
after_put (suc i) (suc k) x (p ∷ places) = elim (after_put i k x places) [ inl was ↦ inl was | inr r ↦ inr (ap suc r.0, r.1) ]

pub there_by_core : (o : Option Pool) (r : ℕ) → core_of o r ≡ true → is_some o ≡ true
there_by_core None r is = is
there_by_core (Some pool) r is = refl

pub there_by_domain : (o : Option Pool) (d : ℕ) → is_some (mover_of o d) ≡ true → is_some o ≡ true
there_by_domain None d is = is
there_by_domain (Some pool) d is = refl

pub never : {X : Type 0} (x : X) → None ≡ Some x → ⊥
never x is = absurd (cc)

-- a pool is made where there was none
housed_created : (m : Machine) (i : ℕ) (params : PoolParams) (s next : State) → next.pools ≡ put_at i (fresh_pool m.config params) s.pools → next.free ≡ s.free → at_place s.pools i ≡ None → Housed m s → Housed m next
housed_created m i params s next pools free none h =
    let put : List (Option Pool) = put_at i (fresh_pool m.config params) s.pools in
    let other : (k : ℕ) → is_some (at_place s.pools k) ≡ true → at_place next.pools k ≡ at_place s.pools k =
    λ k is. ap (λ (l : List (Option Pool)). at_place l k) pools ∙ at_place-put_at_other i k (fresh_pool m.config params) s.pools (λ e. clash (is_some (at_place s.pools k)) is (ap is_some (ap (at_place s.pools) e ∙ none))) in
    let here : (k : ℕ) → is_some (at_place s.pools k) ≡ true → is_some (at_place next.pools k) ≡ true = λ k is. ap is_some (other k is) ∙ is in
    let moved : (k d : ℕ) (j : PoolId) → mover_of (at_place next.pools k) d ≡ Some (Some j) → mover_of (at_place s.pools k) d ≡ Some (Some j) = λ k d j is. elim (after_put i k (fresh_pool m.config params) s.pools) [
      | inl was ↦ ap (λ o. mover_of o d) (sym was) ∙ ap (λ (l : List (Option Pool)). mover_of (at_place l k) d) (sym pools) ∙ is
      | inr new ↦ absurd (never (Some j) (sym (in_empty_domain m params d) ∙ ap (λ o. mover_of o d) (sym new.1) ∙ ap (λ (l : List (Option Pool)). mover_of (at_place l k) d) (sym pools) ∙ is))
    ] in
    record {
      cores = λ r low. elim (h.cores r low) [
        | inl is ↦ inl (ap (λ (l : List (Option FreeCore)). is_some (at_place l r)) free ∙ is)
        | inr p ↦ inr (p.0, ap (λ o. core_of o r) (other p.0 (there_by_core (at_place s.pools p.0) r p.1)) ∙ p.1)
      ];
      domains = λ d low. let p = h.domains d low in (p.0, ap (λ o. is_some (mover_of o d)) (other p.0 (there_by_domain (at_place s.pools p.0) d p.1)) ∙ p.1);
      aims = λ r j is. here j (h.aims r j (ap (λ (l : List (Option FreeCore)). option_map (λ (c : FreeCore). c.target) (at_place l r)) (sym free) ∙ is));
      movers = λ k d j is. here j.0 (h.movers k d j (moved k d j is));
      away = λ k d j is. h.away k d j (moved k d j is);
    }

-- a pool without cores and domains is destroyed, where nothing is on its way
housed_destroyed : (m : Machine) (i : ℕ) (s next : State) → next.pools ≡ clear_at i s.pools → next.free ≡ s.free → ((pool : Pool) → at_place s.pools i ≡ Some pool → ((cores_in pool == 0) ≡ true) × ((domains_in pool == 0) ≡ true)) → NoMoves s → Housed m s → Housed m next
housed_destroyed m i s next pools free none still h =
    let core_away : (k r : ℕ) → core_of (at_place s.pools k) r ≡ true → k ≢ i = λ k r has e. no_core (at_place s.pools i) r (λ pool at. empty_numbered 0 r pool.resources (none pool at).0) (ap (λ (j : ℕ). core_of (at_place s.pools j) r) (sym e) ∙ has) in
    let domain_away : (k d : ℕ) → is_some (mover_of (at_place s.pools k) d) ≡ true → k ≢ i = λ k d has e. no_domain (at_place s.pools i) d (λ pool at. empty_numbered 0 d pool.domains (none pool at).1) (ap (λ (j : ℕ). is_some (mover_of (at_place s.pools j) d)) (sym e) ∙ has) in
    let other : (k : ℕ) → k ≢ i → at_place next.pools k ≡ at_place s.pools k = λ k ne. ap (λ (l : List (Option Pool)). at_place l k) pools ∙ at_place-clear_at_other i k s.pools ne in
    let stays : (k d : ℕ) (j : PoolId) → mover_of (at_place next.pools k) d ≡ Some (Some j) → ⊥ = λ k d j is. dite (ℕ_discrete k i)
    (λ e. never (Some j) (sym (ap (λ o. mover_of o d) (ap (λ (n : ℕ). at_place next.pools n) e ∙ ap (λ (l : List (Option Pool)). at_place l i) pools ∙ at_place-clear_at i s.pools)) ∙ is))
    (λ ne. still.movers k d j (ap (λ o. mover_of o d) (sym (other k ne)) ∙ is)) in
    record {
      cores = λ r low. elim (h.cores r low) [
        | inl is ↦ inl (ap (λ (l : List (Option FreeCore)). is_some (at_place l r)) free ∙ is)
        | inr p ↦ inr (p.0, ap (λ o. core_of o r) (other p.0 (core_away p.0 r p.1)) ∙ p.1)
      ];
      domains = λ d low. let p = h.domains d low in (p.0, ap (λ o. is_some (mover_of o d)) (other p.0 (domain_away p.0 d p.1)) ∙ p.1);
      aims = λ r j is. absurd (still.aims r j (ap (λ (l : List (Option FreeCore)). option_map (λ (c : FreeCore). c.target) (at_place l r)) (sym free) ∙ is));
      movers = λ k d j is. absurd (stays k d j is);
      away = λ k d j is. absurd (stays k d j is);
    }
  where
    no_core : (o : Option Pool) (r : ℕ) → ((pool : Pool) → o ≡ Some pool → at_place pool.resources r ≡ None) → core_of o r ≡ true → ⊥
    no_core None r empty is = absurd (cc)
    no_core (Some pool) r empty is = clash (has_core_in pool r) is (ap is_some (empty pool refl))

    no_domain : (o : Option Pool) (d : ℕ) → ((pool : Pool) → o ≡ Some pool → at_place pool.domains d ≡ None) → is_some (mover_of o d) ≡ true → ⊥
    no_domain None d empty is = absurd (cc)
    no_domain (Some pool) d empty is = clash (is_some (moving_in pool d)) is (ap (λ (o : Option Domain). is_some (option_map (λ (x : Domain). x.moving) o)) (empty pool refl))

target_set : (i : ℕ) (o : Option FreeCore) (j : ℕ) → option_map (λ (c : FreeCore). c.target) (option_map (λ (c : FreeCore). record c { target = Some i }) o) ≡ Some (Some j) → i ≡ j
target_set i None j is = absurd (cc)
target_set i (Some c) j is = cc

-- a free core is to join a pool that is there
housed_aimed : (m : Machine) (i r : ℕ) (s : State) → is_some (at_place s.pools i) ≡ true → Housed m s → Housed m (record s { free = change_at r (λ (c : FreeCore). record c { target = Some i }) s.free })
housed_aimed m i r s there h =
    let f : FreeCore → FreeCore = λ c. record c { target = Some i } in
    record {
      cores = λ q low. elim (h.cores q low) [ inl is ↦ inl (some_change_at r q f s.free ∙ is) | inr p ↦ inr p ];
      domains = h.domains;
      aims = λ q j is. dite (ℕ_discrete q r)
          (λ e. subst (λ (k : ℕ). is_some (at_place s.pools k) ≡ true) (target_set i (at_place s.free r) j (ap (option_map (λ (c : FreeCore). c.target)) (sym (at_place-change_at r f s.free)) ∙ ap (λ (n : ℕ). option_map (λ (c : FreeCore). c.target) (at_place (change_at r f s.free) n)) (sym e) ∙ is)) there)
          (λ ne. h.aims q j (ap (option_map (λ (c : FreeCore). c.target)) (sym (at_place-change_at_other r q f s.free ne)) ∙ is));
      movers = h.movers;
      away = h.away;
    }

-- what stands where f was applied: as before, or f of it
pub at_change : (i k : ℕ) (f : Pool → Pool) (pools : List (Option Pool)) → (at_place (change_at i f pools) k ≡ at_place pools k) ⊎ ((k ≡ i) × (at_place (change_at i f pools) k ≡ option_map f (at_place pools i)))
at_change i k f pools = dite (ℕ_discrete k i)
    (λ e. inr (e, ap (at_place (change_at i f pools)) e ∙ at_place-change_at i f pools))
    (λ ne. inl (at_place-change_at_other i k f pools ne))

-- a domain is to move to a pool that is there
movers_set : (d e : ℕ) (i : ℕ) (pool : Pool) (j : PoolId) → moving_in (pool_with_moving d i pool) e ≡ Some (Some j) → (j.0 ≡ i) ⊎ (moving_in pool e ≡ Some (Some j))
movers_set d e i pool j is =
    let f : Domain → Domain = λ x. record x { moving = Some (pool_number i) } in
    dite (ℕ_discrete e d)
    (λ same. inl (moved (at_place pool.domains d) (ap (option_map (λ (x : Domain). x.moving)) (sym (at_place-change_at d f pool.domains) ∙ ap (at_place (change_at d f pool.domains)) (sym same)) ∙ is)))
    (λ ne. inr (ap (option_map (λ (x : Domain). x.moving)) (sym (at_place-change_at_other d e f pool.domains ne)) ∙ is))
  where
    moved : (o : Option Domain) → option_map (λ (x : Domain). x.moving) (option_map (λ (x : Domain). record x { moving = Some (pool_number i) }) o) ≡ Some (Some j) → j.0 ≡ i
    moved None is = absurd (cc)
    moved (Some x) is = cc

some_moving : (d e i : ℕ) (pool : Pool) → is_some (moving_in (pool_with_moving d i pool) e) ≡ is_some (moving_in pool e)
some_moving d e i pool =
    let f : Domain → Domain = λ x. record x { moving = Some (pool_number i) } in
    is_some-option_map (λ (x : Domain). x.moving) (at_place (change_at d f pool.domains) e) ∙ some_change_at d e f pool.domains ∙ sym (is_some-option_map (λ (x : Domain). x.moving) (at_place pool.domains e))

-- a domain of the pool i is to move to another, which is there
housed_moving : (m : Machine) (d i j : ℕ) (s : State) → is_some (at_place s.pools j) ≡ true → j ≢ i → Housed m s → Housed m (change_pool i (pool_with_moving d j) s)
housed_moving m d i j s there apart h =
    let f : Pool → Pool = pool_with_moving d j in
    let here : (k : ℕ) → is_some (at_place (change_at i f s.pools) k) ≡ is_some (at_place s.pools k) = λ k. some_change_at i k f s.pools in
    record {
      cores = λ r low. elim (h.cores r low) [
        | inl is ↦ inl is
        | inr p ↦ inr (p.0, elim (at_change i p.0 f s.pools) [ inl was ↦ ap (λ o. core_of o r) was ∙ p.1 | inr e ↦ ap (λ o. core_of o r) e.1 ∙ core_moving (at_place s.pools i) r ∙ ap (λ (n : ℕ). core_of (at_place s.pools n) r) (sym e.0) ∙ p.1 ])
      ];
      domains = λ e low. let p = h.domains e low in (
        p.0,
        elim (at_change i p.0 f s.pools) [
          | inl was ↦ ap (λ o. is_some (mover_of o e)) was ∙ p.1
          | inr q ↦ ap (λ o. is_some (mover_of o e)) q.1 ∙ domain_moving (at_place s.pools i) e ∙ ap (λ (n : ℕ). is_some (mover_of (at_place s.pools n) e)) (sym q.0) ∙ p.1
        ],
      );
      aims = λ r k is. here k ∙ h.aims r k is;
      movers = λ k e t is. elim (at_change i k f s.pools) [
        | inl was ↦ here t.0 ∙ h.movers k e t (ap (λ o. mover_of o e) (sym was) ∙ is)
        | inr q ↦ here t.0 ∙ elim (mover_moving (at_place s.pools i) e t (ap (λ o. mover_of o e) (sym q.1) ∙ is)) [
          | inl to ↦ ap (λ (n : ℕ). is_some (at_place s.pools n)) to ∙ there
          | inr was ↦ h.movers i e t was
        ]
      ];
      away = λ k e t is same. elim (at_change i k f s.pools) [
        | inl was ↦ h.away k e t (ap (λ o. mover_of o e) (sym was) ∙ is) same
        | inr q ↦ elim (mover_moving (at_place s.pools i) e t (ap (λ o. mover_of o e) (sym q.1) ∙ is)) [
          | inl to ↦ apart (sym to ∙ same ∙ q.0)
          | inr was ↦ h.away i e t was (same ∙ q.0)
        ]
      ];
    }
  where
    core_moving : (o : Option Pool) (r : ℕ) → core_of (option_map (pool_with_moving d j) o) r ≡ core_of o r
    core_moving None r = refl
    core_moving (Some pool) r = (looks_withdrawn (has_core_in pool) (λ e. moving_in (change_domain d (λ x. record x { moving = Some (pool_number j) }) pool) e) d (change_domain d (λ x. record x { moving = Some (pool_number j) }) pool) (record { cores = λ q. refl; domains = λ e. refl })).cores r

    domain_moving : (o : Option Pool) (e : ℕ) → is_some (mover_of (option_map (pool_with_moving d j) o) e) ≡ is_some (mover_of o e)
    domain_moving None e = refl
    domain_moving (Some pool) e = some_moving d e j pool

    mover_moving : (o : Option Pool) (e : ℕ) (t : PoolId) → mover_of (option_map (pool_with_moving d j) o) e ≡ Some (Some t) → (t.0 ≡ j) ⊎ (mover_of o e ≡ Some (Some t))
    mover_moving None e t is = absurd (cc)
    mover_moving (Some pool) e t is = movers_set d e j pool t is

of_params : (m : Machine) (t d : ℕ) (change : ParamChange) (s : State) → Housed m s → Housed m (change_home d (changed_pool change t) s)
of_params m t d change s h = housed_alike m s (change_home d (changed_pool change t) s) (alike_change_home d (changed_pool change t) s (λ pool. looks_set_params (has_core_in pool) (moving_in pool) change t pool (looks_itself pool))) h

-- an accepted command
housed_plan : (m : Machine) (t : ℕ) (p : Plan) (s : State) → Fits s p → NoMoves s → Housed m s → Housed m (carried_out m t p s)
housed_plan m t (plan.PoolList pool answer) s meets still h = h
housed_plan m t (plan.PoolCreate i name kind answer) s meets still h = housed_created m i.0 (standard_pool_params kind) s (carried_out m t (plan.PoolCreate i name kind answer) s) refl refl meets.0 h
housed_plan m t (plan.PoolDestroy i answer) s meets still h = housed_destroyed m i.0 s (carried_out m t (plan.PoolDestroy i answer) s) refl refl meets still h
housed_plan m t (plan.PoolRename i name answer) s meets still h = housed_alike m s (carried_out m t (plan.PoolRename i name answer) s) (record { pools = λ k. at_itself (at_place s.pools k); free = λ r. refl }) h
housed_plan m t (plan.CpuAdd i core answer) s meets still h = housed_aimed m i.0 core.0 s meets h
housed_plan m t (plan.CpuRemove i core answer) s meets still h =
    housed_alike m s (carried_out m t (plan.CpuRemove i core answer) s) (alike_change i.0 (pool_with_leaving core.0) s (λ pool at. looks_change_core (has_core_in pool) (moving_in pool) core.0 _ pool (looks_itself pool))) h
housed_plan m t (plan.Migrate d i j answer) s meets still h =
    by_cond (Housed m) (i.0 == j.0) s (change_pool i.0 (pool_with_moving d.0 j.0) s) (λ is. h) (λ is. housed_moving m d.0 i.0 j.0 s meets (λ same. absurd (grind (arith, is, same))) h)
housed_plan m t (plan.Credit2Dom d weight percent answer) s meets still h = of_params m t d.0 (changes.Dom d weight percent) s h
housed_plan m t (plan.Credit2Pool i None answer) s meets still h = h
housed_plan m t (plan.Credit2Pool i (Some us) answer) s meets still h =
    housed_alike m s (carried_out m t (plan.Credit2Pool i (Some us) answer) s) (alike_change i.0 (changed_pool (changes.Rate us) t) s (λ pool at. looks_set_params (has_core_in pool) (moving_in pool) (changes.Rate us) t pool (looks_itself pool))) h
housed_plan m t (plan.RtdsDom d first count period budget extra answer) s meets still h =
    housed_alike m s (carried_out m t (plan.RtdsDom d first count period budget extra answer) s)
    (alike_change_home d.0 (pool_with_rtds t d.0 period budget extra (numbers_from first count)) s (λ pool. looks_rtds (has_core_in pool) (moving_in pool) t d.0 period budget extra (numbers_from first count) pool (looks_itself pool))) h
housed_plan m t (plan.Pause d answer) s meets still h =
    housed_alike m s (carried_out m t (plan.Pause d answer) s) (alike_change_home d.0 (paused_pool d.0) s (λ pool. looks_pause (has_core_in pool) (moving_in pool) d.0 pool (looks_itself pool))) h
housed_plan m t (plan.Unpause d answer) s meets still h =
    housed_alike m s (carried_out m t (plan.Unpause d answer) s) (alike_change_home d.0 (unpaused_pool m.config.granularity d.0) s (λ pool. looks_unpause (has_core_in pool) (moving_in pool) m.config.granularity d.0 pool (looks_itself pool))) h
housed_plan m t (plan.ArincSet i frame answer) s meets still h =
    housed_alike m s (carried_out m t (plan.ArincSet i frame answer) s) (alike_change i.0 (changed_pool (changes.Frame frame) t) s (λ pool at. looks_set_params (has_core_in pool) (moving_in pool) (changes.Frame frame) t pool (looks_itself pool))) h
housed_plan m t (plan.Pin d unit cores answer) s meets still h = of_params m t d.0 (changes.Pin d unit cores) s h

-- a line with a command, where nothing is on its way
housed_line : (m : Machine) (t : ℕ) (line : CommandLine) (s : State) → NoMoves s → Housed m s → Housed m (after_command m t line s)
housed_line m t line s still h =
    let k : ℕ = suc s.next_command in
    let next : State = record s { next_command = k } in
    let here : Housed m next = record { cores = h.cores; domains = h.domains; aims = h.aims; movers = h.movers; away = h.away } in
    let none : NoMoves next = record { aims = still.aims; movers = still.movers } in
    elim (line_verdict m s line) as (λ v. line_verdict m s line ≡ v → Housed m (elim v as (λ _. State) [ Err fault ↦ record s { next_command = suc s.next_command } | Ok p ↦ settled_at t (plan_pool s p) (carried_out m t p (record s { next_command = suc s.next_command })) ])) [
      | Err fault ↦ λ is. here
      | Ok p ↦ λ is. housed_alike m (carried_out m t p next) (settled_at t (plan_pool s p) (carried_out m t p next)) (alike_settled_at t (plan_pool s p) (carried_out m t p next)) (housed_plan m t p next (verdict_fits_next m s line k p is) none here)
    ] refl

pub housed_command : (m : Machine) (t : ℕ) (line : Option CommandLine) (s : State) → elim line [ None ↦ false | Some l ↦ nat_le l.at.0 t && not (has_move_under_way s) ] ≡ true → Housed m s
    → Housed m (elim line as (λ _. State) [ None ↦ s | Some l ↦ after_command m t l s ])
housed_command m t None s on h = h
housed_command m t (Some l) s on h = housed_line m t l s (no_moves s (not-true (has_move_under_way s) (and_right (nat_le l.at.0 t) (not (has_move_under_way s)) on))) h
