-- No core and no domain is in two pools, in every state.
use Rattle.std.proofs.Common.{◌≡◌, ◌≢◌, ℕ, suc, true, refl, subst, sym, ◌∙◌, ◌⊎◌, inl, inr}
use Rattle.std.specs.Prelude.{Option, Some, None, Ok, Err, is_some, slice_get, map, ◌==◌, ◌/◌}
use Rattle.sched_model.specs.declared.state.Domain.{Domain}
use Rattle.sched_model.specs.declared.state.Resource.{Resource}
use Rattle.sched_model.specs.declared.plan.Plan.{Plan}
use Rattle.sched_model.specs.declared.plan.Plan.TheVariants as plan
use Rattle.sched_model.specs.declared.work.CommandLine.{CommandLine}
use Rattle.sched_model.specs.declared.work.StallLine.{StallLine}
use Rattle.sched_model.specs.Places.{at_place, clear_at}
use Rattle.sched_model.specs.declared.machine.Machine.{Machine}
use Rattle.sched_model.specs.declared.state.State.{State}
use Rattle.sched_model.specs.declared.state.Pool.{Pool}
use Rattle.sched_model.specs.declared.state.FreeCore.{FreeCore}
use Rattle.sched_model.specs.Opening.{joined_core}
use Rattle.sched_model.specs.declared.action.Action.{Action}
use Rattle.sched_model.specs.Pool.{settled_pool, pool_without_domain}
use Rattle.sched_model.specs.declared.action.Action.TheVariants.{Stall, Xl, Moved, DomMoved}
use Rattle.sched_model.specs.Policy.{standard_dom_params}
use Rattle.sched_model.specs.Actions.{home_pool_of_action, home_pool_of_core, home_pool_of_domain, change_pool}
use Rattle.sched_model.specs.Commands.{carried_out, change_home, plan_pool}
use Rattle.sched_model.specs.Machine.{is_action_enabled, after, after_at_home, after_stall, after_command, state_after_moved, after_dom_moved, state_with_stall, line_verdict, settled_at, with_core_in, without_core_in, left_by, joined_by, is_null_pool}
use Rattle.sched_laws.specs.EachPlace.{EachAt}
use Rattle.sched_laws.proofs.EachPlace.{EachAt-change_at, EachAt-change_to, EachAt-put_at, read_put_at, read_clear_at, by_option, by_cond}
use Rattle.sched_laws.proofs.Lists.{some-test_at, test_at-some, some_is, is_some_at}
use Rattle.sched_laws.proofs.Kept.{IsApart, kept_change, kept_staying}
use Rattle.sched_laws.specs.StateLaws.{has_core_at, has_domain_at, MovesNothing}
use Rattle.sched_laws.proofs.Apart.{HasOnly, only_inside, only_empty, only_with_domain}

-- each pool has only these
abbrev AllOnly : (ℕ → ℕ → Type 0) → (ℕ → ℕ → Type 0) → State → Type 0
AllOnly C D s = EachAt (λ i. HasOnly (C i) (D i)) s.pools

only_itself : (s : State) → AllOnly (λ i r. has_core_at s i r ≡ true) (λ i d. has_domain_at s i d ≡ true) s
only_itself s i pool at = record {
  cores = λ r c has. test_at-some s.pools i (λ p. is_some (at_place p.resources r)) pool at (is_some_at (at_place pool.resources r) c has);
  domains = λ d x has. test_at-some s.pools i (λ p. is_some (at_place p.domains d)) pool at (is_some_at (at_place pool.domains d) x has);
}

module _ (C D : ℕ → ℕ → Type 0) (s : State) (only : AllOnly C D s) where
  core_among : (i r : ℕ) → has_core_at s i r ≡ true → C i r
  core_among i r has =
      let p = some-test_at s.pools i (λ p. is_some (at_place p.resources r)) has in
      let c = some_is (at_place p.0.resources r) p.2 in
      (only i p.0 p.1).cores r c.0 c.1

  domain_among : (i d : ℕ) → has_domain_at s i d ≡ true → D i d
  domain_among i d has =
      let p = some-test_at s.pools i (λ p. is_some (at_place p.domains d)) has in
      let x = some_is (at_place p.0.domains d) p.2 in
      (only i p.0 p.1).domains d x.0 x.1

only_map : (C D CoreAfter DomainAfter : ℕ → Type 0) (pool : Pool) → ((r : ℕ) → C r → CoreAfter r) → ((d : ℕ) → D d → DomainAfter d) → HasOnly C D pool → HasOnly CoreAfter DomainAfter pool
only_map C D CoreAfter DomainAfter pool cores domains only = record { cores = λ r c at. cores r (only.cores r c at); domains = λ d x at. domains d (only.domains d x at) }

-- the cores that are free were free before
abbrev FreeOf : State → State → Type 0
FreeOf s next = EachAt (λ r (c : FreeCore). is_some (at_place s.free r) ≡ true) next.free

free_itself : (s : State) → FreeOf s s
free_itself s r c at = is_some_at (at_place s.free r) c at

free_stalled : (g p end : ℕ) (s : State) → FreeOf s (state_with_stall g p end s)
free_stalled g p end s =
    by_option (FreeOf s) (home_pool_of_core s (p / g)) _ _
    (λ is. EachAt-change_at (λ r c. is_some (at_place s.free r) ≡ true) (p / g) _ s.free (free_itself s) (λ c at here. here))
    (λ i is. free_itself s)

free_change_home : (d : ℕ) (f : Pool → Pool) (s : State) → FreeOf s (change_home d f s)
free_change_home d f s = by_option (FreeOf s) (home_pool_of_domain s d) _ _ (λ is. free_itself s) (λ i is. free_itself s)

free_carried_out : (m : Machine) (t : ℕ) (p : Plan) (s : State) → FreeOf s (carried_out m t p s)
free_carried_out m t (plan.CpuAdd i core answer) s = EachAt-change_at (λ r c. is_some (at_place s.free r) ≡ true) core.0 _ s.free (free_itself s) (λ c at here. here)
free_carried_out m t (plan.Migrate d i j answer) s = by_cond (FreeOf s) (i.0 == j.0) s _ (λ is. free_itself s) (λ is. free_itself s)
free_carried_out m t (plan.Credit2Dom d weight cap answer) s = free_change_home d.0 _ s
free_carried_out m t (plan.Credit2Pool i None answer) s = free_itself s
free_carried_out m t (plan.RtdsDom d first count period budget extra answer) s = free_change_home d.0 _ s
free_carried_out m t (plan.Pause d answer) s = free_change_home d.0 _ s
free_carried_out m t (plan.Unpause d answer) s = free_change_home d.0 _ s
free_carried_out m t (plan.Pin d unit cores answer) s = free_change_home d.0 _ s
free_carried_out m t p s = free_itself s

free_settled_at : (t : ℕ) (home : Option ℕ) (s next : State) → FreeOf s next → FreeOf s (settled_at t home next)
free_settled_at t None s next here = here
free_settled_at t (Some i) s next here = here

free_command : (m : Machine) (t : ℕ) (line : CommandLine) (s : State) → FreeOf s (after_command m t line s)
free_command m t line s =
    elim (line_verdict m s line) as (λ v. FreeOf s (elim v as (λ _. State) [ Err fault ↦ record s { next_command = suc s.next_command } | Ok plan ↦ settled_at t (plan_pool s plan) (carried_out m t plan (record s { next_command = suc s.next_command })) ])) [
      | Err fault ↦ free_itself s
      | Ok p ↦ free_settled_at t (plan_pool s p) s (carried_out m t p (record s { next_command = suc s.next_command })) (free_carried_out m t p (record s { next_command = suc s.next_command }))
    ]

free_stall : (g t : ℕ) (line : Option StallLine) (s : State) → FreeOf s (elim line as (λ _. State) [ None ↦ s | Some l ↦ after_stall g t l s ])
free_stall g t None s = free_itself s
free_stall g t (Some l) s = free_stalled g l.cpu.0 _ s

free_at_home : (g t : ℕ) (action : Action) (s : State) → FreeOf s (after_at_home g s t action)
free_at_home g t action s = by_option (FreeOf s) (home_pool_of_action g s action) _ _ (λ is. free_itself s) (λ i is. free_itself s)

free_staying : (m : Machine) (s : State) (t : ℕ) (action : Action) → MovesNothing action → FreeOf s (after m s t action)
free_staying m s t Stall stays = free_stall m.config.granularity t (slice_get m.work.stalls s.next_stall) s
free_staying m s t Xl stays = by_option (FreeOf s) (slice_get m.work.commands s.next_command) _ _ (λ is. free_itself s) (λ line is. free_command m t line s)
free_staying m s t (Moved r) stays = absurd stays
free_staying m s t (DomMoved d) stays = absurd stays
free_staying m s t action stays = free_at_home m.config.granularity t action s

-- the pools have what they had, and what is free was free
apart_staying : (m : Machine) (s : State) (t : ℕ) (action : Action) → MovesNothing action → is_action_enabled m s t action ≡ true → IsApart s → IsApart (after m s t action)
apart_staying m s t action stays on apart =
    let C : ℕ → ℕ → Type 0 = λ i r. has_core_at s i r ≡ true in
    let D : ℕ → ℕ → Type 0 = λ i d. has_domain_at s i d ≡ true in
    let only : AllOnly C D (after m s t action) = kept_staying m (λ i. HasOnly (C i) (D i)) (λ i. only_inside (C i) (D i) m.config.granularity) (λ i config params. only_empty (C i) (D i) config params) s t action stays on (only_itself s) in
    record {
      cores = λ i j r a b. apart.cores i j r (core_among C D (after m s t action) only i r a) (core_among C D (after m s t action) only j r b);
      domains = λ i j d a b. apart.domains i j d (domain_among C D (after m s t action) only i d a) (domain_among C D (after m s t action) only j d b);
      free = λ i r a b. (let c = some_is (at_place (after m s t action).free r) a in apart.free i r (free_staying m s t action stays r c.0 c.1) (core_among C D (after m s t action) only i r b));
    }

-- a core of none joins the pool i
apart_attached : (g t r i : ℕ) (c : FreeCore) (s : State) → at_place s.free r ≡ Some c → IsApart s → IsApart (with_core_in t r i c s)
apart_attached g t r i c s is apart =
    let C : ℕ → ℕ → Type 0 = λ j q. (has_core_at s j q ≡ true) ⊎ ((j ≡ i) × (q ≡ r)) in
    let D : ℕ → ℕ → Type 0 = λ j d. has_domain_at s j d ≡ true in
    let was : AllOnly C D s = λ j pool at. only_map (λ q. has_core_at s j q ≡ true) (D j) (C j) (D j) pool (λ q has. inl has) (λ d has. has) (only_itself s j pool at) in
    let only : AllOnly C D (with_core_in t r i c s) =
    kept_change g (λ j. HasOnly (C j) (D j)) (λ j. only_inside (C j) (D j) g) i _ (record s { free = clear_at r s.free })
    (λ pool at here. (only_inside (C i) (D i) g).settles t _ (record { cores = EachAt-put_at (λ q c2. C i q) r (joined_core c.stall_ends) pool.resources here.cores (inr (refl, refl)); domains = here.domains })) was in
    let free_r : (j : ℕ) → has_core_at s j r ≡ true → ⊥ = λ j has. apart.free j r (is_some_at (at_place s.free r) c is) has in
    record {
      cores = λ j k q a b. elim (core_among C D (with_core_in t r i c s) only j q a) [
        | inl ha ↦ elim (core_among C D (with_core_in t r i c s) only k q b) [
          | inl hb ↦ apart.cores j k q ha hb
          | inr hb ↦ absurd (free_r j (subst (λ x. has_core_at s j x ≡ true) hb.1 ha))
        ]
        | inr ha ↦ elim (core_among C D (with_core_in t r i c s) only k q b) [
          | inl hb ↦ absurd (free_r k (subst (λ x. has_core_at s k x ≡ true) ha.1 hb))
          | inr hb ↦ ha.0 ∙ sym hb.0
        ]
      ];
      domains = λ j k d a b. apart.domains j k d (domain_among C D (with_core_in t r i c s) only j d a) (domain_among C D (with_core_in t r i c s) only k d b);
      free = λ j q a b. (
          let f = some_is (at_place (clear_at r s.free) q) a in
          let w = read_clear_at r q s.free f.0 f.1 in
          elim (core_among C D (with_core_in t r i c s) only j q b) [
            | inl hb ↦ apart.free j q (is_some_at (at_place s.free q) f.0 w.1) hb
            | inr hb ↦ w.0 hb.1
          ]);
    }

-- a core of the pool i becomes free
apart_detached : (g t r i : ℕ) (c : Resource) (s : State) → has_core_at s i r ≡ true → IsApart s → IsApart (without_core_in t r i c s)
apart_detached g t r i c s has apart =
    let Was : ℕ → ℕ → Type 0 = λ j q. has_core_at s j q ≡ true in
    let C : ℕ → ℕ → Type 0 = λ j q. (has_core_at s j q ≡ true) × (q ≢ r) in
    let D : ℕ → ℕ → Type 0 = λ j d. has_domain_at s j d ≡ true in
    let only : AllOnly C D (without_core_in t r i c s) =
    EachAt-change_to (λ j. HasOnly (Was j) (D j)) (λ j. HasOnly (C j) (D j)) i (λ pool. settled_pool t (record pool { resources = clear_at r pool.resources })) s.pools (only_itself s)
    (λ j pool other here. only_map (Was j) (D j) (C j) (D j) pool (λ q h. (h, λ e. other (apart.cores j i r (subst (λ x. has_core_at s j x ≡ true) e h) has))) (λ d h. h) here)
    (λ pool at here. (only_inside (C i) (D i) g).settles t _ (record {
      cores = λ q c2 at2. (let w = read_clear_at r q pool.resources c2 at2 in (here.cores q c2 w.1, w.0));
      domains = here.domains;
    })) in
    record {
      cores = λ j k q a b. apart.cores j k q (core_among C D (without_core_in t r i c s) only j q a).0 (core_among C D (without_core_in t r i c s) only k q b).0;
      domains = λ j k d a b. apart.domains j k d (domain_among C D (without_core_in t r i c s) only j d a) (domain_among C D (without_core_in t r i c s) only k d b);
      free = λ j q a b. (
          let f = some_is (at_place (without_core_in t r i c s).free q) a in
          let h = core_among C D (without_core_in t r i c s) only j q b in
          elim (read_put_at r q (record { target = None; stall_ends = map (λ p. p.stall_end) c.processors }) s.free f.0 f.1) [
            | inl was ↦ apart.free j q (is_some_at (at_place s.free q) f.0 was) h.0
            | inr e ↦ h.1 e.0
          ]);
    }

-- a domain moves from the pool i to the pool j
apart_dom_moved : (g t d i j : ℕ) (domain : Domain) (s : State) → has_domain_at s i d ≡ true → IsApart s → IsApart (change_pool j (joined_by g t d domain) (change_pool i (left_by t d) s))
apart_dom_moved g t d i j domain s has apart =
    let left : State = change_pool i (left_by t d) s in
    let next : State = change_pool j (joined_by g t d domain) left in
    let C : ℕ → ℕ → Type 0 = λ k q. has_core_at s k q ≡ true in
    let Was : ℕ → ℕ → Type 0 = λ k e. has_domain_at s k e ≡ true in
    let Gone : ℕ → ℕ → Type 0 = λ k e. (has_domain_at s k e ≡ true) × (e ≢ d) in
    let D : ℕ → ℕ → Type 0 = λ k e. ((has_domain_at s k e ≡ true) × (e ≢ d)) ⊎ ((k ≡ j) × (e ≡ d)) in
    let gone : AllOnly C Gone left =
    EachAt-change_to (λ k. HasOnly (C k) (Was k)) (λ k. HasOnly (C k) (Gone k)) i (left_by t d) s.pools (only_itself s)
    (λ k pool other here. only_map (C k) (Was k) (C k) (Gone k) pool (λ q h. h) (λ e h. (h, λ same. other (apart.domains k i d (subst (λ x. has_domain_at s k x ≡ true) same h) has))) here)
    (λ pool at here.
    let out : HasOnly (C i) (Gone i) (pool_without_domain d pool) = record { cores = here.cores; domains = λ e x at2. (let w = read_clear_at d e pool.domains x at2 in (here.domains e x w.1, w.0)) } in
    by_cond (HasOnly (C i) (Gone i)) (is_null_pool pool.scheduler.records) (settled_pool t (pool_without_domain d pool)) (pool_without_domain d pool) (λ is. (only_inside (C i) (Gone i) g).settles t _ out) (λ is. out)) in
    let only : AllOnly C D next =
    EachAt-change_to (λ k. HasOnly (C k) (Gone k)) (λ k. HasOnly (C k) (D k)) j (joined_by g t d domain) left.pools gone
    (λ k pool other here. only_map (C k) (Gone k) (C k) (D k) pool (λ q h. h) (λ e h. inl h) here)
    (λ pool at here. (only_inside (C j) (D j) g).settles t _
    (only_with_domain (C j) (D j) g t d (record domain { moving = None }) (standard_dom_params pool.scheduler.records) pool (inr (refl, refl)) (only_map (C j) (Gone j) (C j) (D j) pool (λ q h. h) (λ e h. inl h) here))) in
    record {
      cores = λ k l q a b. apart.cores k l q (core_among C D next only k q a) (core_among C D next only l q b);
      domains = λ k l e a b. elim (domain_among C D next only k e a) [
        | inl ha ↦ elim (domain_among C D next only l e b) [ inl hb ↦ apart.domains k l e ha.0 hb.0 | inr hb ↦ absurd (ha.1 hb.1) ]
        | inr ha ↦ elim (domain_among C D next only l e b) [ inl hb ↦ absurd (hb.1 ha.1) | inr hb ↦ ha.0 ∙ sym hb.0 ]
      ];
      free = λ k q a b. apart.free k q a (core_among C D next only k q b);
    }

apart_moved : (t r : ℕ) (s : State) → IsApart s → IsApart (state_after_moved t r s)
apart_moved t r s apart =
    by_option IsApart (at_place s.free r) _ _
    (λ is. by_option IsApart (home_pool_of_core s r) _ _ (λ is2. apart)
    (λ i is2. by_option IsApart (at_place s.pools i) _ _ (λ is3. apart)
    (λ pool is3. by_option IsApart (at_place pool.resources r) _ _ (λ is4. apart)
    (λ c is4. apart_detached 1 t r i c s (test_at-some s.pools i (λ p. is_some (at_place p.resources r)) pool is3 (is_some_at (at_place pool.resources r) c is4)) apart))))
    (λ c is. by_option IsApart c.target _ _ (λ is2. apart) (λ i is2. apart_attached 1 t r i c s is apart))

apart_domain_moved : (g t d : ℕ) (s : State) → IsApart s → IsApart (after_dom_moved g t d s)
apart_domain_moved g t d s apart =
    by_option IsApart (home_pool_of_domain s d) _ _ (λ is. apart)
    (λ i is. by_option IsApart (at_place s.pools i) _ _ (λ is2. apart)
    (λ pool is2. by_option IsApart (at_place pool.domains d) _ _ (λ is3. apart)
    (λ domain is3. by_option IsApart domain.moving _ _ (λ is4. apart)
    (λ j is4. apart_dom_moved g t d i j.0 domain s (test_at-some s.pools i (λ p. is_some (at_place p.domains d)) pool is2 (is_some_at (at_place pool.domains d) domain is3)) apart))))

pub apart_after : (m : Machine) (s : State) (t : ℕ) (action : Action) → is_action_enabled m s t action ≡ true → IsApart s → IsApart (after m s t action)
apart_after m s t (Moved r) on apart = apart_moved t r.0 s apart
apart_after m s t (DomMoved d) on apart = apart_domain_moved m.config.granularity t d.0 s apart
apart_after m s t action on apart = apart_staying m s t action tt on apart
