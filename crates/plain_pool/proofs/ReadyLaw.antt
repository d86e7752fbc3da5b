-- The moments of a pool's parts are those from which on its actions may come.
use Rattle.std.proofs.Common.{◌≡◌, ◌<◌, ◌+◌, ◌*◌, ◌/◌, ◌%◌, ◌∙◌, ◌⊎◌, ℕ, Bool, true, false, List, refl, sym, ap, inl, inr, arith}
use Rattle.std.specs.Prelude.{◌&&◌, ◌||◌, not, Option, Some, None, is_some, option_map, slice_get, if◌then◌else◌}
use Rattle.std.specs.List.{list_any}
use Rattle.std.proofs.lemmas.Nat.{div-mul-add, mod-mul-add}
use Rattle.std.proofs.lemmas.Option.{slice_get_within}
use Rattle.sched_base.specs.Numbers.{core, domain, moment, processor}
use Rattle.sched_base.specs.declared.Moment.{Moment}
use Rattle.sched_base.specs.declared.UnitId.{UnitId}
use Rattle.sched_base.specs.declared.VcpuId.{VcpuId}
use Rattle.sched_model.specs.declared.action.Action.{Action}
use Rattle.sched_model.specs.declared.action.Action.TheVariants.{Stall, Xl, Moved, DomMoved, Wake, Block, Slice, Repl, Refill, Arrive, Decide, Leave, Save}
use Rattle.sched_model.specs.declared.state.Credit2Domain.{Credit2Domain}
use Rattle.sched_model.specs.declared.state.Doing.TheVariants.{Guest, Idle, Held}
use Rattle.sched_model.specs.declared.state.Domain.{Domain}
use Rattle.sched_model.specs.declared.state.Pool.{Pool}
use Rattle.sched_model.specs.declared.state.Processor.{Processor}
use Rattle.sched_model.specs.declared.state.Records.{Records}
use Rattle.sched_model.specs.declared.state.Records.TheVariants.{Credit2Pool, RtdsPool, ArincPool, NullPool}
use Rattle.sched_model.specs.declared.state.Resource.{Resource}
use Rattle.sched_model.specs.declared.state.RtdsUnit.{RtdsUnit}
use Rattle.sched_model.specs.declared.state.Vcpu.{Vcpu}
use Rattle.sched_model.specs.Places.{at_place, numbered_items}
use Rattle.sched_model.specs.Policy.{next_refill_moment, unit_rtds_record}
use Rattle.sched_model.specs.Pool.{done_moment, is_held_back, is_domain_unit, is_gathering, pool_processor, pool_vcpu}
use Rattle.pool_laws.specs.ReadyMoments.{deadline_of, end_of, end_where, may_gather, later_of, lowest_stall_end, may_core_move, guarded_moment, ready_in, sibling_end, slice_moment, work_end}
use Rattle.plain_pool.specs.Ready.{AreWhole, IsLeastWith, IsReadyIn, block_moment, decide_moment, is_to_decide, work_done_moment, dom_moved_moment, due_moment, is_waiting_or_on, least_of_cores, least_of_domains, least_of_scheduler, move_moment, moved_moment, refill_end, repl_end, save_moment, is_to_save, running_work_moment}
use Rattle.plain_pool.proofs.Leasts.{IsAt, least_same}
use Rattle.plain_pool.proofs.ReadyParts.{OfCore, OfDomain, OfParts, OfProcessor, OfScheduler, OfTimers, parts_least}

-- a moment that comes of something there, where nothing gives none
found : {X : Type 0} (f : Option X → Option Moment) (o : Option X) (at : ℕ) → f None ≡ None → IsAt (f o) at → (x : X) × (o ≡ Some x) × IsAt (f (Some x)) at
found f None at none is = absurd (cc)
found f (Some x) at none is = (x, refl, is)

-- under a condition alone there is no moment, and none is later than none
never_if : (b : Bool) → guarded_moment b None ≡ None
never_if true = refl
never_if false = refl

later_none : (a : Option Moment) → later_of a None ≡ None
later_none None = refl
later_none (Some m) = refl

none_if_later : (b : Bool) (end : Moment) → later_of (guarded_moment b None) (Some end) ≡ None
none_if_later b end = ap (λ (o : Option Moment). later_of o (Some end)) (never_if b)

-- a held processor leaves, and another arrives
both_ways : (held closed gather : Bool) (o : Option Moment) (at : ℕ) → IsAt (if held then guarded_moment closed o else guarded_moment gather o) at
    → IsAt (guarded_moment gather (guarded_moment (not held) o)) at ⊎ IsAt (guarded_moment closed (guarded_moment held o)) at
both_ways true closed gather o at is = inr is
both_ways false closed gather o at is = inl is

arriving : (held closed gather : Bool) (o : Option Moment) (at : ℕ) → IsAt (guarded_moment gather (guarded_moment (not held) o)) at → IsAt (if held then guarded_moment closed o else guarded_moment gather o) at
arriving true closed true o at is = absurd (cc)
arriving true closed false o at is = absurd (cc)
arriving false closed gather o at is = is

leaving : (held closed gather : Bool) (o : Option Moment) (at : ℕ) → IsAt (guarded_moment closed (guarded_moment held o)) at → IsAt (if held then guarded_moment closed o else guarded_moment gather o) at
leaving true closed gather o at is = is
leaving false true gather o at is = absurd (cc)
leaving false false gather o at is = absurd (cc)

-- a processor of the pool stands at its place in its core
record Stands (g : ℕ) (pool : Pool) (p : ℕ) (q : Processor) : Type 0 where
  pub whole : Resource
  pub there : at_place pool.resources (p / g) ≡ Some whole
  pub got : slice_get whole.processors (p % g) ≡ Some q

-- where a processor of this number is there
standing : (g : ℕ) (pool : Pool) (p : ℕ) (q : Processor) → pool_processor g pool p ≡ Some q → Stands g pool p q
standing g pool p q is = by (at_place pool.resources (p / g)) refl is
  where
    by : (o : Option Resource) → at_place pool.resources (p / g) ≡ o → elim o as (λ _. Option Processor) [ None ↦ None | Some c ↦ slice_get c.processors (p % g) ] ≡ Some q → Stands g pool p q
    by None there e = absurd (cc)
    by (Some c) there e = record { whole = c; there = there; got = e }

module _ (g : ℕ) (pool : Pool) (p : ℕ) (c : Resource) (q : Processor) (there : at_place pool.resources (p / g) ≡ Some c) (got : slice_get c.processors (p % g) ≡ Some q) where
  processor_is : pool_processor g pool p ≡ Some q
  processor_is = ap (λ (o : Option Resource). elim o as (λ _. Option Processor) [ None ↦ None | Some d ↦ slice_get d.processors (p % g) ]) there ∙ got

  -- from when on it may arrive or leave
  sibling_is : (a : Resource → Bool) (b : Processor → Bool) → sibling_end g pool p a b ≡ guarded_moment (a c) (guarded_moment (b q) (Some q.stall_end))
  sibling_is a b =
      let of_core : Option Resource → Option Moment = λ o. elim o as (λ _. Option Moment) [
        | None ↦ None
        | Some d ↦ guarded_moment (a d) (elim (pool_processor g pool p) as (λ _. Option Moment) [ None ↦ None | Some x ↦ guarded_moment (b x) (Some x.stall_end) ])
      ] in
      let of_processor : Option Processor → Option Moment = λ o. guarded_moment (a c) (elim o as (λ _. Option Moment) [ None ↦ None | Some x ↦ guarded_moment (b x) (Some x.stall_end) ]) in
      ap of_core there ∙ ap of_processor processor_is

  -- and may block
  blocking_is : later_of (work_end g pool p) (end_of (pool_processor g pool p)) ≡ block_moment pool q
  unfolding block_moment running_work_moment work_done_moment
  blocking_is =
      let of_processor : Option Processor → Option Moment = λ o. later_of
      (elim (elim o as (λ _. Option VcpuId) [ None ↦ None | Some x ↦ elim x.doing as (λ _. Option VcpuId) [ Guest v ↦ Some v | Idle ↦ None | Held ↦ None ] ]) as (λ _. Option Moment) [
        | None ↦ None
        | Some v ↦ elim (pool_vcpu pool v) as (λ _. Option Moment) [ None ↦ None | Some x ↦ done_moment x ]
      ])
      (end_of o) in
      ap of_processor processor_is

  -- what may come of it by the pool's law
  moves : (at : ℕ) → IsAt (move_moment c q) at → IsReadyIn g pool at
  unfolding move_moment
  moves at is = elim (both_ways (is_held_back q) (not (is_gathering c)) (may_gather c) (Some q.stall_end) at is) [
    | inl arrives ↦ record { action = Arrive (processor p); ready = sibling_is may_gather (λ x. not (is_held_back x)) ∙ arrives }
    | inr leaves ↦ record { action = Leave (processor p); ready = sibling_is (λ x. not (is_gathering x)) is_held_back ∙ leaves }
  ]

  arrives : (at : ℕ) → IsAt (sibling_end g pool p may_gather (λ x. not (is_held_back x))) at → IsAt (move_moment c q) at
  unfolding move_moment
  arrives at is = arriving (is_held_back q) (not (is_gathering c)) (may_gather c) (Some q.stall_end) at (sym (sibling_is may_gather (λ x. not (is_held_back x))) ∙ is)

  leaves : (at : ℕ) → IsAt (sibling_end g pool p (λ x. not (is_gathering x)) is_held_back) at → IsAt (move_moment c q) at
  unfolding move_moment
  leaves at is = leaving (is_held_back q) (not (is_gathering c)) (may_gather c) (Some q.stall_end) at (sym (sibling_is (λ x. not (is_gathering x)) is_held_back) ∙ is)

  of_processor : (at : ℕ) → OfProcessor pool c q at → IsReadyIn g pool at
  of_processor at (inl is) = moves at is
  of_processor at (inr is) = record { action = Block (processor p); ready = blocking_is ∙ is }

-- a moment of the parts is one of an action
module _ (g : ℕ) (pool : Pool) (at : ℕ) where
  of_core : (whole : AreWhole g pool) (r : ℕ) (c : Resource) → at_place pool.resources r ≡ Some c → OfCore pool c at → IsReadyIn g pool at
  unfolding due_moment decide_moment save_moment moved_moment
  of_core whole r c there (inl (inl (inl (inl h)))) =
      let inside : h.place < g = (let a = slice_get_within c.processors h.place h.item h.there in let b = whole r c there in omega (arith, a, b)) in
      let p : ℕ = r * g + h.place in
      let of_core : p / g ≡ r = div-mul-add r g h.place inside in
      let of_place : p % g ≡ h.place = mod-mul-add r g h.place inside in
      of_processor g pool p c h.item (ap (at_place pool.resources) of_core ∙ there) (ap (slice_get c.processors) of_place ∙ h.there) at h.has
  of_core whole r c there (inl (inl (inl (inr is)))) = record { action = Slice (core r); ready = ap slice_moment there ∙ is }
  of_core whole r c there (inl (inl (inr is))) = record { action = Decide (core r); ready = ap (end_where is_to_decide) there ∙ is }
  of_core whole r c there (inl (inr is)) = record { action = Save (core r); ready = ap (end_where is_to_save) there ∙ is }
  of_core whole r c there (inr is) = record { action = Moved (core r); ready = ap (end_where may_core_move) there ∙ is }

  -- from when on the vCPU may wake, where these are the domain and the vCPU
  abbrev wake_of : ℕ → Option Domain → Option Moment
  wake_of n o = elim (elim o as (λ _. Option Vcpu) [ None ↦ None | Some x ↦ slice_get x.vcpus n ]) as (λ _. Option Moment) [ None ↦ None | Some v ↦ v.asleep_until ]

  abbrev asleep_of : Option Vcpu → Option Moment
  asleep_of o = elim o as (λ _. Option Moment) [ None ↦ None | Some v ↦ v.asleep_until ]

  abbrev dom_move_of : ℕ → Option Domain → Option Moment
  dom_move_of d o =
      guarded_moment (elim o as (λ _. Bool) [ None ↦ false | Some x ↦ is_some x.moving ] && not (list_any (λ (e : ℕ × Resource). is_domain_unit d e.1.cur || is_domain_unit d e.1.saving) (numbered_items 0 pool.resources))) (Some (moment 0))

  of_domain : (d : ℕ) (x : Domain) → at_place pool.domains d ≡ Some x → OfDomain pool d x at → IsReadyIn g pool at
  unfolding dom_moved_moment
  of_domain d x there (inl h) =
      record { action = Wake (record { dom = domain d; n = h.place }); ready = ap (wake_of h.place) there ∙ ap asleep_of h.there ∙ h.has }
  of_domain d x there (inr is) = record { action = DomMoved (domain d); ready = ap (dom_move_of d) there ∙ is }

  -- from when on a timer may come, where these are the records, or the record
  abbrev refill_of : Moment → Option Credit2Domain → Option Moment
  refill_of end o = later_of (elim o as (λ _. Option Moment) [ None ↦ None | Some x ↦ option_map moment x.refill ]) (Some end)

  abbrev repl_of : Moment → UnitId → Option RtdsUnit → Option Moment
  repl_of end u o = later_of (guarded_moment (is_waiting_or_on pool u) (elim o as (λ _. Option Moment) [ None ↦ None | Some x ↦ Some (moment x.deadline) ])) (Some end)

  abbrev repl_among : Moment → UnitId → Option (List RtdsUnit) → Option Moment
  repl_among end u o = repl_of end u (elim o as (λ _. Option RtdsUnit) [ None ↦ None | Some units ↦ slice_get units u.n ])

  refills : (d : ℕ) (end : Moment) (records : Records) → lowest_stall_end pool ≡ Some end → pool.scheduler.records ≡ records → IsAt (later_of (next_refill_moment records d) (Some end)) at → IsReadyIn g pool at
  refills d end records low own is = record {
    action = Refill (domain d);
    ready = ap (λ (rs : Records). later_of (next_refill_moment rs d) (lowest_stall_end pool)) own ∙ ap (λ (o : Option Moment). later_of (next_refill_moment records d) o) low ∙ is;
  }

  replenishes : (u : UnitId) (end : Moment) (records : Records) → lowest_stall_end pool ≡ Some end → pool.scheduler.records ≡ records → IsAt (repl_of end u (unit_rtds_record records u)) at → IsReadyIn g pool at
  replenishes u end records low own is = record {
    action = Repl u;
    ready = ap (λ (o : Option Moment). later_of (deadline_of pool u) o) low ∙ ap (λ (rs : Records). repl_of end u (unit_rtds_record rs u)) own ∙ is;
  }

  of_timers : (end : Moment) (records : Records) → lowest_stall_end pool ≡ Some end → pool.scheduler.records ≡ records → OfTimers pool end records at → IsReadyIn g pool at
  unfolding refill_end repl_end
  of_timers end (Credit2Pool records) low own h = refills h.place end (Credit2Pool records) low own (ap (refill_of end) h.there ∙ h.has)
  of_timers end (RtdsPool domains) low own h =
      let u : UnitId = record { dom = domain h.place; n = h.has.place } in
      replenishes u end (RtdsPool domains) low own (ap (repl_among end u) h.there ∙ ap (repl_of end u) h.has.there ∙ h.has.has)
  of_timers end (ArincPool records) low own h = absurd h
  of_timers end (NullPool kept) low own h = absurd h

  of_scheduler : (o : Option Moment) → lowest_stall_end pool ≡ o → OfScheduler pool o at → IsReadyIn g pool at
  of_scheduler None low h = absurd h
  of_scheduler (Some end) low h = of_timers end pool.scheduler.records low refl h

  of_parts : AreWhole g pool → OfParts pool at → IsReadyIn g pool at
  of_parts whole (inl (inl h)) = of_core whole h.place h.item h.there h.has
  of_parts whole (inl (inr h)) = of_domain h.place h.item h.there h.has
  of_parts whole (inr h) = of_scheduler (lowest_stall_end pool) refl h

  -- and a moment of an action is one of the parts: of a processor
  in_processor : (p : ℕ) (q : Processor) → Stands g pool p q → ((c : Resource) → at_place pool.resources (p / g) ≡ Some c → slice_get c.processors (p % g) ≡ Some q → OfProcessor pool c q at) → OfParts pool at
  in_processor p q stands has =
      inl (inl (record { place = p / g; item = stands.whole; there = stands.there; has = inl (inl (inl (inl (record { place = p % g; item = q; there = stands.got; has = has stands.whole stands.there stands.got })))) }))

  abbrev sibling_of : (Resource → Bool) → (Processor → Bool) → Option Resource → Option Processor → Option Moment
  sibling_of a b o k =
      elim o as (λ _. Option Moment) [
        | None ↦ None
        | Some c ↦ guarded_moment (a c) (elim k as (λ _. Option Moment) [ None ↦ None | Some q ↦ guarded_moment (b q) (Some q.stall_end) ])
      ]

  no_sibling : (a : Resource → Bool) (b : Processor → Bool) (o : Option Resource) → sibling_of a b o None ≡ None
  no_sibling a b None = refl
  no_sibling a b (Some c) = never_if (a c)

  sibling_stands : (p : ℕ) (a : Resource → Bool) (b : Processor → Bool) → IsAt (sibling_end g pool p a b) at → (q : Processor) × Stands g pool p q
  sibling_stands p a b is =
      let q = found (sibling_of a b (at_place pool.resources (p / g))) (pool_processor g pool p) at (no_sibling a b (at_place pool.resources (p / g))) is in
      (q.0, standing g pool p q.0 q.1)

  blocker_stands : (p : ℕ) → IsAt (later_of (work_end g pool p) (end_of (pool_processor g pool p))) at → (q : Processor) × Stands g pool p q
  blocker_stands p is =
      let q = found (λ (o : Option Processor). later_of (work_end g pool p) (end_of o)) (pool_processor g pool p) at (later_none (work_end g pool p)) is in
      (q.0, standing g pool p q.0 q.1)

  in_arrive : (p : ℕ) → IsAt (sibling_end g pool p may_gather (λ x. not (is_held_back x))) at → OfParts pool at
  in_arrive p is = (let q = sibling_stands p may_gather (λ x. not (is_held_back x)) is in in_processor p q.0 q.1 (λ c there got. inl (arrives g pool p c q.0 there got at is)))

  in_leave : (p : ℕ) → IsAt (sibling_end g pool p (λ x. not (is_gathering x)) is_held_back) at → OfParts pool at
  in_leave p is = (let q = sibling_stands p (λ x. not (is_gathering x)) is_held_back is in in_processor p q.0 q.1 (λ c there got. inl (leaves g pool p c q.0 there got at is)))

  in_block : (p : ℕ) → IsAt (later_of (work_end g pool p) (end_of (pool_processor g pool p))) at → OfParts pool at
  in_block p is = (let q = blocker_stands p is in in_processor p q.0 q.1 (λ c there got. inr (sym (blocking_is g pool p c q.0 there got) ∙ is)))

  -- of a core
  in_core : (r : ℕ) (c : Resource) → at_place pool.resources r ≡ Some c → OfCore pool c at → OfParts pool at
  in_core r c there has = inl (inl (record { place = r; item = c; there = there; has = has }))

  in_slice : (r : ℕ) → IsAt (slice_moment (at_place pool.resources r)) at → OfParts pool at
  unfolding due_moment
  in_slice r is = (let c = found slice_moment (at_place pool.resources r) at refl is in in_core r c.0 c.1 (inl (inl (inl (inr c.2)))))

  in_decide : (r : ℕ) → IsAt (end_where is_to_decide (at_place pool.resources r)) at → OfParts pool at
  unfolding decide_moment
  in_decide r is = (let c = found (end_where is_to_decide) (at_place pool.resources r) at refl is in in_core r c.0 c.1 (inl (inl (inr c.2))))

  in_save : (r : ℕ) → IsAt (end_where is_to_save (at_place pool.resources r)) at → OfParts pool at
  unfolding save_moment
  in_save r is = (let c = found (end_where is_to_save) (at_place pool.resources r) at refl is in in_core r c.0 c.1 (inl (inr c.2)))

  in_moved : (r : ℕ) → IsAt (end_where may_core_move (at_place pool.resources r)) at → OfParts pool at
  unfolding moved_moment
  in_moved r is = (let c = found (end_where may_core_move) (at_place pool.resources r) at refl is in in_core r c.0 c.1 (inr c.2))

  -- of a domain
  in_domain : (d : ℕ) (x : Domain) → at_place pool.domains d ≡ Some x → OfDomain pool d x at → OfParts pool at
  in_domain d x there has = inl (inr (record { place = d; item = x; there = there; has = has }))

  in_wake : (d n : ℕ) → IsAt (wake_of n (at_place pool.domains d)) at → OfParts pool at
  in_wake d n is =
      let x = found (wake_of n) (at_place pool.domains d) at refl is in
      let v = found asleep_of (slice_get x.0.vcpus n) at refl x.2 in
      in_domain d x.0 x.1 (inl (record { place = n; item = v.0; there = v.1; has = v.2 }))

  in_dom_moved : (d : ℕ) → IsAt (dom_move_of d (at_place pool.domains d)) at → OfParts pool at
  unfolding dom_moved_moment
  in_dom_moved d is = (let x = found (dom_move_of d) (at_place pool.domains d) at refl is in in_domain d x.0 x.1 (inr x.2))

  -- of a timer
  in_repl_with : (u : UnitId) (end : Moment) (records : Records) → IsAt (repl_of end u (unit_rtds_record records u)) at → OfTimers pool end records at
  unfolding repl_end
  in_repl_with u end (RtdsPool domains) is =
      let units = found (repl_among end u) (at_place domains u.dom.0) at (none_if_later (is_waiting_or_on pool u) end) is in
      let x = found (repl_of end u) (slice_get units.0 u.n) at (none_if_later (is_waiting_or_on pool u) end) units.2 in
      record { place = u.dom.0; item = units.0; there = units.1; has = record { place = u.n; item = x.0; there = x.1; has = x.2 } }
  in_repl_with u end (Credit2Pool records) is = absurd (let none = none_if_later (is_waiting_or_on pool u) end in cc)
  in_repl_with u end (ArincPool records) is = absurd (let none = none_if_later (is_waiting_or_on pool u) end in cc)
  in_repl_with u end (NullPool kept) is = absurd (let none = none_if_later (is_waiting_or_on pool u) end in cc)

  in_refill_with : (d : ℕ) (end : Moment) (records : Records) → IsAt (later_of (next_refill_moment records d) (Some end)) at → OfTimers pool end records at
  unfolding refill_end
  in_refill_with d end (Credit2Pool records) is = (let x = found (refill_of end) (at_place records.domains d) at refl is in record { place = d; item = x.0; there = x.1; has = x.2 })
  in_refill_with d end (RtdsPool domains) is = absurd (cc)
  in_refill_with d end (ArincPool records) is = absurd (cc)
  in_refill_with d end (NullPool kept) is = absurd (cc)

  in_repl : (u : UnitId) (o : Option Moment) → IsAt (later_of (deadline_of pool u) o) at → OfScheduler pool o at
  in_repl u None is = absurd (let none = later_none (deadline_of pool u) in cc)
  in_repl u (Some end) is = in_repl_with u end pool.scheduler.records is

  in_refill : (d : ℕ) (o : Option Moment) → IsAt (later_of (next_refill_moment pool.scheduler.records d) o) at → OfScheduler pool o at
  in_refill d None is = absurd (let none = later_none (next_refill_moment pool.scheduler.records d) in cc)
  in_refill d (Some end) is = in_refill_with d end pool.scheduler.records is

  in_parts : (action : Action) → IsAt (ready_in g pool action) at → OfParts pool at
  in_parts Stall is = absurd (cc)
  in_parts Xl is = absurd (cc)
  in_parts (Moved r) is = in_moved r.0 is
  in_parts (DomMoved d) is = in_dom_moved d.0 is
  in_parts (Wake v) is = in_wake v.dom.0 v.n is
  in_parts (Block p) is = in_block p.0 is
  in_parts (Slice r) is = in_slice r.0 is
  in_parts (Repl u) is = inr (in_repl u (lowest_stall_end pool) is)
  in_parts (Refill d) is = inr (in_refill d.0 (lowest_stall_end pool) is)
  in_parts (Arrive p) is = in_arrive p.0 is
  in_parts (Decide r) is = in_decide r.0 is
  in_parts (Leave p) is = in_leave p.0 is
  in_parts (Save r) is = in_save r.0 is

-- the least so far and of the whole pool
pub ready_least : (g : ℕ) (pool : Pool) (best : ℕ) → AreWhole g pool
    → IsLeastWith best (IsReadyIn g pool) (least_of_scheduler pool (least_of_domains pool (least_of_cores pool best (numbered_items 0 pool.resources)) (numbered_items 0 pool.domains)))
ready_least g pool best whole = least_same (IsReadyIn g pool) (λ at h. of_parts g pool at whole h) (λ at h. in_parts g pool at h.action h.ready) (parts_least pool best)
