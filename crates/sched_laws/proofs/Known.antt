-- What the commands and the moves of cores and domains do to the places of the units, and the whole of what is kept.
use Rattle.std.proofs.Common.{◌≡◌, ◌≢◌, ◌<◌, ◌≤◌, ℕ, zero, suc, Bool, true, false, not, List, [], ◌∷◌, refl, arith, subst, sym, ◌∙◌, ap, cond, ◌⊎◌, inl, inr}
use Rattle.std.specs.Prelude.{Option, Some, None, is_some, is_none, length, ◌-◌, ◌&&◌, ◌||◌, ◌==◌, ◌+◌, ◌*◌, ◌/◌}
use Rattle.std.specs.List.{list_all}
use Rattle.sched_base.specs.Numbers.{moment, domain as domain_number, pool as pool_number, core}
use Rattle.sched_base.specs.declared.Moment.{Moment}
use Rattle.sched_base.specs.declared.UnitId.{UnitId}
use Rattle.sched_model.specs.declared.config.Config.{Config}
use Rattle.sched_model.specs.declared.config.DomParams.{DomParams}
use Rattle.sched_model.specs.declared.config.PoolParams.{PoolParams}
use Rattle.sched_model.specs.declared.state.Domain.{Domain}
use Rattle.sched_model.specs.declared.state.Resource.{Resource}
use Rattle.sched_model.specs.Places.{at_place, put_at, clear_at, change_at, change_each, test_at, numbers_from}
use Rattle.sched_model.specs.declared.state.Pool.{Pool}
use Rattle.sched_model.specs.State.{is_awake, may_unit_run, runnable_among, unit_runnable}
use Rattle.sched_model.specs.Opening.{joined_core, fresh_pool, machine_core_count}
use Rattle.sched_model.specs.Policy as policy
use Rattle.sched_model.specs.Pool as pools
use Rattle.sched_model.specs.declared.action.Action.{Action}
use Rattle.sched_model.specs.Pool.{enabled_in, after_in, change_domain, pending_core, unpaused_pool, changed_pool, pool_without_domain, is_domain_unit}
use Rattle.sched_model.specs.declared.action.Action.TheVariants.{Moved, DomMoved, Wake, Block, Slice, Repl, Refill, Arrive, Decide, Leave, Save}
use Rattle.sched_base.specs.Lists.{Has}
use Rattle.sched_laws.specs.EachPlace.{EachPlace}
use Rattle.sched_laws.proofs.EachPlace.{EachPlace-put_at, EachPlace-clear_at, EachPlace-empty, read_change_each, read_change_at, by_option, by_cond}
use Rattle.sched_laws.proofs.Lists.{none_passes, at_numbered, some-test_at, test_at-change_at_other, test_at-clear_at}
use Rattle.sched_base.proofs.Lists.{AllByRecursion-map, AllByRecursion-filter}
use Rattle.sched_laws.proofs.Counts.{total-change_each, total-put_at_empty, total-clear_at, total_none, times-filter_yes, times-filter_no}
use Rattle.sched_laws.specs.Counts.{total, one}
use Rattle.sched_laws.proofs.Awake.{part_past}
use Rattle.sched_laws.specs.PoolFacts.{AreSound}
use Rattle.sched_laws.specs.PoolFacts.{UnitsAreOwn, IsStaying}
use Rattle.sched_laws.proofs.Kept.{IsKept, IsFresh, passes_at}
use Rattle.std.proofs.Math.Decide.{ℕ_discrete}
use Rattle.std.proofs.lemmas.Nat.{le-div}
use Rattle.std.proofs.lemmas.Bool.{eq-eqb, not-true}
use Rattle.sched_laws.proofs.EachPlace.{read_put_at}
use Rattle.sched_laws.proofs.Lists.{test_at-put_at_other, test_at-change_at_false, test_at-change_at_more, test_at-clear_at_false}
use Rattle.sched_laws.proofs.OwnUnits.{units_are_own, moving_not_staying}
use Rattle.sched_laws.proofs.Sound.{cores_are_sound, some_if_all, none_is}
use Rattle.sched_laws.proofs.OnePlace.{off_is, on_is, both_of, one_settled, one_change_core, one_change_processor, one_scheduler, one_marked, one_queue_unit, one_less, one_after_wake, one_after_block, one_after_arrive, one_after_leave, one_after_save, one_after_replenish, one_after_decide}
use Rattle.sched_laws.specs.PoolFacts.{core_places, CurRuns, OneBut, OnePlace}
use Rattle.sched_base.proofs.Bools.{and_left, and_right, or_left, or_more}
use Rattle.sched_laws.specs.PoolFacts.{IsKnownPool}

member_numbers : (k count n : ℕ) → k ≤ n → n < k + count → Has n (numbers_from k count)
member_numbers k zero n low high = absurd (omega (arith, low, high))
member_numbers k (suc count) n low high =
    elim (ℕ_discrete n k) [ yes e ↦ inl e | no e ↦ inr (member_numbers (suc k) count n (omega (arith, low, e)) (omega (arith, high))) ]

-- a unit with a vCPU that is awake is one of the domain's
unit_within : (g : ℕ) → 0 < g → (d : Domain) (n : ℕ) → unit_runnable g d n ≡ true → n < pools.domain_unit_count g d
unit_within g some d n runs =
    let within = part_past is_awake g (n * g) d.vcpus (and_right (not d.paused && is_none d.moving) _ runs) in
    le-div (suc n) (length d.vcpus + g - 1) g some (let e : suc n * g ≡ n * g + g = grind arith in omega (arith, e, within))

is_domain : (a d : ℕ) → a ≡ d → not (a == d) ≡ false
is_domain a d e = grind arith

is_other : (a d : ℕ) → a ≢ d → not (a == d) ≡ true
is_other a d e = grind arith

module _ (g : ℕ) (some : 0 < g) where
  abbrev One0 : Pool → Type 0
  One0 = OnePlace g

  abbrev Nobody : UnitId → Type 0
  Nobody u = ⊥

  one_acts : (t : ℕ) (pool : Pool) (action : Action) → enabled_in g t pool action ≡ true → IsKnownPool g pool → One0 (after_in g t pool action)
  one_acts t pool (Wake v) on known = one_after_wake g some t v pool known.one
  one_acts t pool (Block p) on known = by_option One0 (pools.running_guest g pool p.0) _ _ (λ is. known.one) (λ v is. one_after_block g some t p.0 v pool is known.sound known.one)
  one_acts t pool (Slice r) on known = one_change_core g some Nobody r.0 _ pool (λ c. (refl, refl, λ e. refl)) known.one
  one_acts t pool (Repl u) on known = one_after_replenish g some t u pool known.one
  one_acts t pool (Refill d) on known = one_scheduler g some Nobody _ pool refl known.one
  one_acts t pool (Arrive p) on known = one_after_arrive g some t p.0 pool known.one
  one_acts t pool (Decide r) on known = by_option One0 (at_place pool.resources r.0) _ _ (λ is. known.one)
      (λ c is.
      let may = passes_at pool.resources r.0 (λ (x : Resource). list_all pools.is_held_back x.processors && pools.is_gathering x && pools.is_first_processor_up t x) c is on in
      let all : list_all pools.is_held_back c.processors ≡ true = and_left _ _ (and_left (list_all pools.is_held_back c.processors && pools.is_gathering c) (pools.is_first_processor_up t c) may) in
      let open_c : pools.is_gathering c ≡ true = and_right (list_all pools.is_held_back c.processors) _ (and_left (list_all pools.is_held_back c.processors && pools.is_gathering c) (pools.is_first_processor_up t c) may) in
      let any = some_if_all t c.processors (and_right (list_all pools.is_held_back c.processors && pools.is_gathering c) (pools.is_first_processor_up t c) may) all in
      one_after_decide g t r.0 c pool is ((known.sound r.0 c is).gathers open_c any).1 known.one)
  one_acts t pool (Leave p) on known = by_option One0 (at_place pool.resources (p.0 / g)) _ _ (λ is. known.one) (λ c is. one_after_leave g some t p.0 c pool known.one)
  one_acts t pool (Save r) on known = by_option One0 (at_place pool.resources r.0) _ _ (λ is. known.one) (λ c is. by_option One0 c.saving _ _ (λ is2. known.one) (λ u is2. one_after_save g some r.0 u c pool is is2 known.one))
  one_acts t pool action on known = known.one

  -- a domain whose units run no more: they leave the queue, and the cores that run one are pending
  one_withdrawn : (d : ℕ) (f : Domain → Domain) (pool : Pool) → ((x : Domain) (n : ℕ) → unit_runnable g (f x) n ≡ false) → One0 pool → One0 (pools.withdrawn_pool d (change_domain d f pool))
  one_withdrawn d f pool stops one =
      let queue : List UnitId = pool.scheduler.queue in
      let keep : UnitId → Bool = λ u. not (u.dom.0 == d) in
      let h : ℕ → Resource → Resource = λ r c. cond (is_domain_unit d c.cur) (pending_core c) c in
      let same : (u : UnitId) → total (core_places u) (change_each 0 h pool.resources) ≡ total (core_places u) pool.resources =
      λ u. total-change_each (core_places u) 0 h pool.resources (λ r c. by_cond (λ (x : Resource). core_places u x ≡ core_places u c) (is_domain_unit d c.cur) (pending_core c) c (λ is. refl) (λ is. refl)) in
      let other : (u : UnitId) → u.dom.0 ≢ d → runnable_among g (change_at d f pool.domains) u ≡ may_unit_run g pool u = λ u e. test_at-change_at_other d u.dom.0 f (λ x. unit_runnable g x u.n) pool.domains e in
      let none : (u : UnitId) → u.dom.0 ≡ d → runnable_among g (change_at d f pool.domains) u ≡ false = λ u e.
      subst (λ (k : ℕ). test_at (change_at d f pool.domains) k (λ x. unit_runnable g x u.n) ≡ false) (sym e) (test_at-change_at_false d f (λ x. unit_runnable g x u.n) pool.domains (λ x. stops x u.n)) in
      record {
        most = λ u. (let m = one.most u in let e = same u in elim (ℕ_discrete u.dom.0 d) [
          | yes is ↦ (let z = times-filter_no u keep queue (is_domain u.dom.0 d is) in omega (arith, m, e, z))
          | no not_is ↦ (let z = times-filter_yes u keep queue (is_other u.dom.0 d not_is) in omega (arith, m, e, z))
        ]);
        runs = λ u runs. elim (ℕ_discrete u.dom.0 d) [
          | yes is ↦ absurd (let e = none u is in cc)
          | no not_is ↦ elim (one.runs u (sym (other u not_is) ∙ runs)) [
            | inl has ↦ inl (let e = same u in let z = times-filter_yes u keep queue (is_other u.dom.0 d not_is) in omega (arith, has, e, z))
            | inr nobody ↦ absurd nobody
          ]
        ];
        waits = AllByRecursion-filter (λ u. may_unit_run g pool u ≡ true) (λ u. runnable_among g (change_at d f pool.domains) u ≡ true) keep
            (λ u passes runs. elim (ℕ_discrete u.dom.0 d) [ yes is ↦ absurd (let e = is_domain u.dom.0 d is in cc) | no not_is ↦ other u not_is ∙ runs ]) queue one.waits;
        cur = EachAt-change_to0 (λ c. CurRuns g pool.domains c) (λ c. CurRuns g (change_at d f pool.domains) c) h pool.resources one.cur
            (λ r c here u. by_cond (λ (x : Resource). x.cur ≡ Some u → (runnable_among g (change_at d f pool.domains) u ≡ true) ⊎ (x.pending ≡ true)) (is_domain_unit d c.cur) (pending_core c) c
            (λ is e. inr refl)
            (λ is e. elim (here u e) [
              | inl runs ↦ inl (other u (λ same_d. (let of : is_domain_unit d c.cur ≡ true = rw e (eq-eqb u.dom.0 d same_d) in cc)) ∙ runs)
              | inr pending ↦ inr pending
            ]));
      }
    where
      EachAt-change_to0 : (P Q : Resource → Type 0) (h : ℕ → Resource → Resource) (cores : List (Option Resource)) → EachPlace P cores → ((r : ℕ) (c : Resource) → P c → Q (h r c)) → EachPlace Q (change_each 0 h cores)
      EachAt-change_to0 P Q h cores each to j y at = (let r = read_change_each j h cores y at in subst Q r.2 (to j r.0 (each j r.0 r.1)))

  -- the domain's units that are runnable and off join the queue
  one_queue_units : (d : ℕ) (ns : List ℕ) (pool : Pool) → OneBut g (λ w. (w.dom.0 ≡ d) × Has w.n ns) pool → One0 (pools.pool_with_queued_units g d ns pool)
  one_queue_units d [] pool one = record { most = one.most; runs = λ u runs. elim (one.runs u runs) [ inl has ↦ inl has | inr rest ↦ absurd rest.1 ]; waits = one.waits; cur = one.cur }
  one_queue_units d (n ∷ ns) pool one =
      let u : UnitId = record { dom = domain_number d; n = n } in
      let Rest : UnitId → Type 0 = λ w. (w.dom.0 ≡ d) × Has w.n ns in
      let split : OneBut g (λ w. (w ≡ u) ⊎ Rest w) pool = record {
        most = one.most;
        runs = λ w runs. elim (one.runs w runs) [
          | inl has ↦ inl has
          | inr rest ↦ elim rest.1 [ inl e ↦ inr (inl (is_unit_of w d n rest.0 e)) | inr later ↦ inr (inr (rest.0, later)) ]
        ];
        waits = one.waits;
        cur = one.cur;
      } in
      one_queue_units d ns _ (by_cond (OneBut g Rest) (may_unit_run g pool u && pools.is_unit_off pool u) _ _
      (λ is. one_queue_unit g some Rest u pool (off_is pool u (and_right (may_unit_run g pool u) _ is)) (and_left _ _ is) split)
      (λ is. one_less g some Rest u pool (λ runs. on_is pool u (off_of (may_unit_run g pool u) (pools.is_unit_off pool u) is runs)) split))
    where
      is_unit_of : (w : UnitId) (d n : ℕ) → w.dom.0 ≡ d → w.n ≡ n → ◌≡◌ {A = UnitId} w (record { dom = domain_number d; n = n })
      is_unit_of w d n dom e = (let a : ◌≡◌ {A = UnitId} w (record { dom = domain_number d; n = w.n }) = ap (λ (k : ℕ). record { dom = domain_number k; n = w.n }) dom in let b : ◌≡◌ {A = UnitId} (record { dom = domain_number d; n = w.n }) (record { dom = domain_number d; n = n }) = ap (λ (k : ℕ). record { dom = domain_number d; n = k }) e in a ∙ b)

      off_of : (a b : Bool) → (a && b) ≡ false → a ≡ true → b ≡ false
      off_of true b e is = e
      off_of false b e is = absurd (cc)

  -- the domain may run again: its units that may run wait
  one_unpaused : (d : ℕ) (domain : Domain) (pool : Pool) → at_place pool.domains d ≡ Some domain → One0 pool
      → OneBut g (λ w. (w.dom.0 ≡ d) × Has w.n (numbers_from 0 (pools.domain_unit_count g domain))) (change_domain d (λ x. record x { paused = false }) pool)
  one_unpaused d domain pool at one =
      let f : Domain → Domain = λ x. record x { paused = false } in
      let more : (u : UnitId) → may_unit_run g pool u ≡ true → runnable_among g (change_at d f pool.domains) u ≡ true =
      λ u runs. test_at-change_at_more d u.dom.0 f (λ x. unit_runnable g x u.n) pool.domains (λ x here. without_pause x.paused _ _ here) runs in
      record {
        most = one.most;
        runs = λ u runs. elim (ℕ_discrete u.dom.0 d) [
          | yes is ↦ inr (
            is,
            (
                let found = some-test_at (change_at d f pool.domains) u.dom.0 (λ x. unit_runnable g x u.n) runs in
                elim (read_change_at d u.dom.0 f pool.domains found.0 found.1) [
                  | inl was ↦ absurd (was.0 is)
                  | inr r ↦
                      let same : domain ≡ r.0 = cc in
                      let runs_now : unit_runnable g (f r.0) u.n ≡ true = subst (λ (x : Domain). unit_runnable g x u.n ≡ true) (sym r.3) found.2 in
                      let within : u.n < pools.domain_unit_count g (f r.0) = unit_within g some (f r.0) u.n runs_now in
                      member_numbers 0 (pools.domain_unit_count g domain) u.n (omega arith) (subst (λ (x : Domain). u.n < 0 + pools.domain_unit_count g x) (sym same) (omega (arith, within)))
                ]),
          )
          | no not_is ↦ elim (one.runs u (sym (test_at-change_at_other d u.dom.0 f (λ x. unit_runnable g x u.n) pool.domains not_is) ∙ runs)) [ inl has ↦ inl has | inr nobody ↦ absurd nobody ]
        ];
        waits = AllByRecursion-map (λ u. may_unit_run g pool u ≡ true) (λ u. runnable_among g (change_at d f pool.domains) u ≡ true) more pool.scheduler.queue one.waits;
        cur = λ r c at2 u is. elim (one.cur r c at2 u is) [ inl runs ↦ inl (more u runs) | inr pending ↦ inr pending ];
      }
    where
      without_pause : (p m a : Bool) → (not p && m && a) ≡ true → (not false && m && a) ≡ true
      without_pause true m a is = absurd (cc)
      without_pause false m a is = is

  one_unpause : (d : ℕ) (pool : Pool) → One0 pool → One0 (unpaused_pool g d pool)
  one_unpause d pool one =
      by_option One0 (at_place pool.domains d) _ _ (λ is. one)
      (λ domain is. by_cond One0 domain.paused _ _ (λ is2. one_queue_units d (numbers_from 0 (pools.domain_unit_count g domain)) _ (one_unpaused d domain pool is one)) (λ is2. one))

  -- a domain joins: it had no unit here
  one_joined : (t d : ℕ) (domain : Domain) (params : DomParams) (pool : Pool) → at_place pool.domains d ≡ None → One0 pool
      → OneBut g (λ w. (w.dom.0 ≡ d) × Has w.n (numbers_from 0 (pools.domain_unit_count g domain))) (record pool { domains = put_at d domain pool.domains; scheduler = policy.joined_scheduler d (pools.domain_unit_count g domain) params t pool.scheduler })
  one_joined t d domain params pool none one =
      let more : (u : UnitId) → may_unit_run g pool u ≡ true → runnable_among g (put_at d domain pool.domains) u ≡ true =
      λ u runs. elim (ℕ_discrete u.dom.0 d) [
        | yes is ↦ absurd (let found = some-test_at pool.domains u.dom.0 (λ x. unit_runnable g x u.n) runs in let at2 : at_place pool.domains d ≡ Some found.0 = subst (λ (k : ℕ). at_place pool.domains k ≡ Some found.0) is found.1 in cc)
        | no not_is ↦ test_at-put_at_other d u.dom.0 domain (λ x. unit_runnable g x u.n) pool.domains not_is ∙ runs
      ] in
      record {
        most = one.most;
        runs = λ u runs. elim (ℕ_discrete u.dom.0 d) [
          | yes is ↦ inr (
            is,
            (
                let found = some-test_at (put_at d domain pool.domains) u.dom.0 (λ x. unit_runnable g x u.n) runs in
                elim (read_put_at d u.dom.0 domain pool.domains found.0 found.1) [
                  | inl was ↦ absurd (let at2 : at_place pool.domains d ≡ Some found.0 = subst (λ (k : ℕ). at_place pool.domains k ≡ Some found.0) is was in cc)
                  | inr r ↦
                      let within : u.n < pools.domain_unit_count g domain = unit_within g some domain u.n (subst (λ (x : Domain). unit_runnable g x u.n ≡ true) (sym r.1) found.2) in
                      member_numbers 0 (pools.domain_unit_count g domain) u.n (omega arith) (omega (arith, within))
                ]),
          )
          | no not_is ↦ elim (one.runs u (sym (test_at-put_at_other d u.dom.0 domain (λ x. unit_runnable g x u.n) pool.domains not_is) ∙ runs)) [ inl has ↦ inl has | inr nobody ↦ absurd nobody ]
        ];
        waits = AllByRecursion-map (λ u. may_unit_run g pool u ≡ true) (λ u. runnable_among g (put_at d domain pool.domains) u ≡ true) more pool.scheduler.queue one.waits;
        cur = λ r c at2 u is. elim (one.cur r c at2 u is) [ inl runs ↦ inl (more u runs) | inr pending ↦ inr pending ];
      }

  -- a domain goes: none of its units waits or is on a core
  one_without : (t d : ℕ) (pool : Pool) → enabled_in g t pool (DomMoved (domain_number d)) ≡ true → UnitsAreOwn pool → One0 pool → One0 (pool_without_domain d pool)
  one_without t d pool on own one =
      let moving = and_left (test_at pool.domains d (λ x. is_some x.moving)) _ on in
      let none = at_numbered (λ (c : Resource). (is_domain_unit d c.cur || is_domain_unit d c.saving) ≡ false) 0 pool.resources (none_passes _ _ (not-true _ (and_right (test_at pool.domains d (λ x. is_some x.moving)) _ on))) in
      let same : (u : UnitId) → u.dom.0 ≢ d → runnable_among g (clear_at d pool.domains) u ≡ may_unit_run g pool u = λ u e. test_at-clear_at d u.dom.0 (λ x. unit_runnable g x u.n) pool.domains e in
      record {
        most = one.most;
        runs = λ u runs. elim (ℕ_discrete u.dom.0 d) [
          | yes is ↦ absurd (let gone : test_at (clear_at d pool.domains) u.dom.0 (λ x. unit_runnable g x u.n) ≡ false = subst (λ (k : ℕ). test_at (clear_at d pool.domains) k (λ x. unit_runnable g x u.n) ≡ false) (sym is) (test_at-clear_at_false d (λ x. unit_runnable g x u.n) pool.domains) in cc)
          | no not_is ↦ one.runs u (sym (same u not_is) ∙ runs)
        ];
        waits = AllByRecursion-map (λ u. IsStaying pool.domains u × (may_unit_run g pool u ≡ true)) (λ u. runnable_among g (clear_at d pool.domains) u ≡ true)
            (λ u both. same u (moving_not_staying d pool.domains u moving both.0) ∙ both.1) pool.scheduler.queue (both_of (IsStaying pool.domains) (λ u. may_unit_run g pool u ≡ true) pool.scheduler.queue own.queue one.waits);
        cur = λ r c at u is. elim (one.cur r c at u is) [
          | inl runs ↦ inl (same u (λ e. (let of : is_domain_unit d c.cur ≡ true = rw is (eq-eqb u.dom.0 d e) in let no_cur : is_domain_unit d c.cur ≡ false = or_left (is_domain_unit d c.cur) (is_domain_unit d c.saving) (none r c at) in cc)) ∙ runs)
          | inr pending ↦ inr pending
        ];
      }

  one_core_comes : (r : ℕ) (ends : List Moment) (pool : Pool) → at_place pool.resources r ≡ None → One0 pool → One0 (record pool { resources = put_at r (joined_core ends) pool.resources })
  one_core_comes r ends pool none one =
      let same : (u : UnitId) → total (core_places u) (put_at r (joined_core ends) pool.resources) ≡ total (core_places u) pool.resources = λ u. total-put_at_empty (core_places u) r (joined_core ends) pool.resources none refl in
      record {
        most = λ u. (let m = one.most u in let e = same u in omega (arith, m, e));
        runs = λ u runs. elim (one.runs u runs) [ inl has ↦ inl (let e = same u in omega (arith, has, e)) | inr nobody ↦ inr nobody ];
        waits = one.waits;
        cur = EachPlace-put_at (CurRuns g pool.domains) r (joined_core ends) pool.resources one.cur (λ u is. absurd (cc));
      }

  one_core_goes : (t r : ℕ) (pool : Pool) → enabled_in g t pool (Moved (core r)) ≡ true → One0 pool → One0 (record pool { resources = clear_at r pool.resources })
  one_core_goes t r pool on one =
      let found = some-test_at pool.resources r (λ c. c.leaving && is_none c.cur && is_none c.saving && not c.pending && pools.is_gathering c && pools.is_first_processor_up t c) on in
      let c : Resource = found.0 in
      let three : (c.leaving && is_none c.cur && is_none c.saving) ≡ true = and_left _ _ (and_left (c.leaving && is_none c.cur && is_none c.saving && not c.pending) _ (and_left (c.leaving && is_none c.cur && is_none c.saving && not c.pending && pools.is_gathering c) _ found.2)) in
      let no_cur : c.cur ≡ None = none_is c.cur (and_right c.leaving _ (and_left (c.leaving && is_none c.cur) _ three)) in
      let no_saving : c.saving ≡ None = none_is c.saving (and_right (c.leaving && is_none c.cur) _ three) in
      let same : (u : UnitId) → total (core_places u) (clear_at r pool.resources) ≡ total (core_places u) pool.resources = λ u. (
      let a = total-clear_at (core_places u) r c pool.resources found.1 in let z : core_places u c ≡ 0 = rw (no_cur, no_saving) refl in omega (arith, a, z)) in
      record {
        most = λ u. (let m = one.most u in let e = same u in omega (arith, m, e));
        runs = λ u runs. elim (one.runs u runs) [ inl has ↦ inl (let e = same u in omega (arith, has, e)) | inr nobody ↦ inr nobody ];
        waits = one.waits;
        cur = EachPlace-clear_at (CurRuns g pool.domains) r pool.resources one.cur;
      }

  -- a pool without domains
  one_opened : (config : Config) (params : PoolParams) (cores : List (Option Resource)) → EachPlace IsFresh cores → One0 (record (fresh_pool config params) { resources = cores })
  one_opened config params cores fresh =
      let none : (u : UnitId) → total (core_places u) cores ≡ 0 = λ u. total_none (core_places u) cores (λ r c at. (let f = fresh r c at in subst (λ (x : Resource). core_places u x ≡ 0) (sym f.1) refl)) in
      record {
        most = λ u. (let z = none u in omega (arith, z));
        runs = λ u runs. absurd (
            let found = some-test_at (fresh_pool config params).domains u.dom.0 (λ x. unit_runnable g x u.n) runs in
            EachPlace-empty {X = Domain} (λ x. ⊥) (length config.domains) u.dom.0 found.0 found.1);
        waits = tt;
        cur = λ r c at u is. absurd (let f = fresh r c at in let e : c.cur ≡ None = subst (λ (x : Resource). x.cur ≡ None) (sym f.1) refl in cc);
      }

  pub known_pools : IsKept g (IsKnownPool g)
  known_pools =
      let own : IsKept g UnitsAreOwn = units_are_own g in
      let sound : IsKept g (AreSound g) = cores_are_sound g some in
      record {
        inside = record {
          settles = λ t pool k. record { own = own.inside.settles t pool k.own; sound = sound.inside.settles t pool k.sound; one = one_settled g some Nobody t pool k.one };
          stalls = λ p end pool k. record { own = own.inside.stalls p end pool k.own; sound = sound.inside.stalls p end pool k.sound; one = one_change_processor g some Nobody p (λ q. record q { stall_end = moment end }) pool k.one };
          acts = λ t pool action on k. record { own = own.inside.acts t pool action on k.own; sound = sound.inside.acts t pool action on k.sound; one = one_acts t pool action on k };
          leaves = λ r pool k. record { own = own.inside.leaves r pool k.own; sound = sound.inside.leaves r pool k.sound; one = one_change_core g some Nobody r (λ c. record c { leaving = true; pending = c.pending || is_some c.cur }) pool (λ c. (refl, refl, λ e. or_more c.pending _ e)) k.one };
          moves = λ d i pool k. record { own = own.inside.moves d i pool k.own; sound = sound.inside.moves d i pool k.sound; one = one_withdrawn d (λ x. record x { moving = Some (pool_number i) }) pool (λ x n. moving_stops x.paused _) k.one };
          pauses = λ d pool k. record { own = own.inside.pauses d pool k.own; sound = sound.inside.pauses d pool k.sound; one = by_cond One0 (test_at pool.domains d (λ x. x.paused)) _ _ (λ is. k.one) (λ is. one_withdrawn d (λ x. record x { paused = true }) pool (λ x n. refl) k.one) };
          unpauses = λ d pool k. record { own = own.inside.unpauses d pool k.own; sound = sound.inside.unpauses d pool k.sound; one = one_unpause d pool k.one };
          changes = λ change t pool k. record { own = own.inside.changes change t pool k.own; sound = sound.inside.changes change t pool k.sound; one = one_marked g some Nobody change t _ (one_scheduler g some Nobody (policy.changed_scheduler change t pool.scheduler) pool refl k.one) };
        };
        core_comes = λ r ends pool none k. record { own = own.core_comes r ends pool none k.own; sound = sound.core_comes r ends pool none k.sound; one = one_core_comes r ends pool none k.one };
        core_goes = λ t r pool on k. record { own = own.core_goes t r pool on k.own; sound = sound.core_goes t r pool on k.sound; one = one_core_goes t r pool on k.one };
        domain_comes = λ t d domain params pool stays none k. record {
          own = own.domain_comes t d domain params pool stays none k.own;
          sound = sound.domain_comes t d domain params pool stays none k.sound;
          one = one_queue_units d (numbers_from 0 (pools.domain_unit_count g domain)) _ (one_joined t d domain params pool none k.one);
        };
        domain_goes = λ t d pool on k. record { own = own.domain_goes t d pool on k.own; sound = sound.domain_goes t d pool on k.sound; one = one_without t d pool on k.own k.one };
        empty = λ config params. record { own = own.empty config params; sound = sound.empty config params; one = one_opened config params _ (EachPlace-empty IsFresh (machine_core_count config)) };
        opens = λ config params cores whole fresh. record { own = own.opens config params cores whole fresh; sound = sound.opens config params cores whole fresh; one = one_opened config params cores fresh };
      }
    where
      moving_stops : (p a : Bool) → (not p && false && a) ≡ false
      moving_stops true a = refl
      moving_stops false a = refl
