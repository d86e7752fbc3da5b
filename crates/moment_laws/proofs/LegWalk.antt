-- What each step but a decision keeps of a pool whose cores' open legs are given: each core with a unit has a leg, and the unit was charged since the leg began.
use Rattle.std.proofs.Common.{◌≡◌, ◌≢◌, ◌≤◌, ◌<◌, ◌-◌, ℕ, zero, suc, Bool, List, refl, arith, ap, subst, sym, ◌∙◌, inl, inr}
use Rattle.std.specs.Prelude.{Option, Some, None, slice_get, replicate, unwrap_or, pos, ◌-ℤ◌}
use Rattle.std.proofs.lemmas.Int.{ints}
use Rattle.sched_base.specs.Numbers.{span, domain as domain_number, pool as pool_number, core}
use Rattle.sched_base.specs.Credit2Numbers.{start_credit}
use Rattle.sched_base.specs.declared.Moment.{Moment}
use Rattle.sched_base.specs.declared.Span.{Span}
use Rattle.sched_base.specs.declared.UnitId.{UnitId}
use Rattle.sched_model.specs.declared.config.DomParams.{DomParams}
use Rattle.sched_model.specs.declared.config.DomParams.TheVariants as dom_params
use Rattle.sched_model.specs.declared.config.ParamChange.{ParamChange}
use Rattle.sched_model.specs.declared.config.ParamChange.TheVariants as changes
use Rattle.sched_model.specs.declared.state.Domain.{Domain}
use Rattle.sched_model.specs.declared.state.Resource.{Resource}
use Rattle.sched_model.specs.declared.state.Pool.{Pool}
use Rattle.sched_model.specs.declared.state.RtdsUnit.{RtdsUnit}
use Rattle.sched_model.specs.declared.state.Credit2Unit.{Credit2Unit}
use Rattle.sched_model.specs.declared.state.Credit2Domain.{Credit2Domain}
use Rattle.sched_model.specs.declared.state.Records.{Records}
use Rattle.sched_model.specs.declared.state.Records.TheVariants.{Credit2Pool, RtdsPool, ArincPool, NullPool}
use Rattle.sched_model.specs.declared.action.Action.TheVariants.{Decide}
use Rattle.sched_model.specs.Places.{at_place, put_at, clear_at, numbers_from}
use Rattle.sched_model.specs.Opening.{joined_core}
use Rattle.sched_model.specs.EligibleUnits.{rtds_unit_at}
use Rattle.sched_model.specs.Rtds as rtds
use Rattle.sched_model.specs.Credit2 as credit2
use Rattle.sched_model.specs.Policy as policy
use Rattle.sched_model.specs.Policy.{unit_rtds_record, changed_records, joined_records, parted_records}
use Rattle.sched_model.specs.Commands.{pool_with_rtds_unit}
use Rattle.sched_model.specs.Pool as pools
use Rattle.sched_model.specs.Pool.{change_core, change_domain, pool_with_moving, changed_pool, pool_without_domain, pool_with_domain}
use Rattle.sched_laws.specs.EachPlace.{EachAt}
use Rattle.sched_laws.proofs.Events.{LikePlaces, like_was, like_map, like_change_at, like_of_domain, capped, KeepsCore, KeptByCommands, KeptByParts, commands_of, kept_withdrawn, kept_marked, kept_queue_units}
use Rattle.sched_laws.proofs.EachPlace.{EachAt-put_at, EachAt-clear_at, read_put_at, read_clear_at, by_option}
use Rattle.moment_laws.specs.Stretches.{Legs, cores}
use Rattle.moment_laws.proofs.LegCharges.{Lasts, lasts_later, EachItem, RtdsUnitKept, RtdsKept, rtds_change, UnitKept, DomainKept, Credit2Kept, c_refilled, c_set_domain}
use Rattle.sched_laws.proofs.Events.{SameCur, Stays}

-- the unit is a core's own, and the core's leg began at b
abbrev pub OnSince : Legs → List (Option Resource) → ℕ → ℕ → ℕ → Type 0
OnSince legs cores d n b = (r : ℕ) × (c : Resource) × (at_place cores r ≡ Some c) × (c.cur ≡ Some (record { dom = domain_number d; n = n })) × (at_place legs r ≡ Some b)

-- each core with a unit has a leg
abbrev pub HaveLegs : Legs → List (Option Resource) → Type 0
HaveLegs legs cores = (r : ℕ) (c : Resource) (u : UnitId) → at_place cores r ≡ Some c → c.cur ≡ Some u → (b : ℕ) × (at_place legs r ≡ Some b)

-- the units of which On says when their legs began
abbrev pub Charged : (ℕ → ℕ → ℕ → Type 0) → ℕ → Records → Type 0
Charged On t (Credit2Pool records) = Credit2Kept On t records
Charged On t (RtdsPool domains) = RtdsKept On t domains
Charged On t any = Unit {0}

pub charged_less : (On On2 : ℕ → ℕ → ℕ → Type 0) (t : ℕ) (records : Records) → ((d n b : ℕ) → On2 d n b → On d n b) → Charged On t records → Charged On2 t records
charged_less On On2 t (Credit2Pool records) less kept = λ d x at n y get. (let k = kept d x at n y get in record { lasts = λ b on. k.lasts b (less d n b on); within = k.within })
charged_less On On2 t (RtdsPool domains) less kept = λ d units at n y get b on. kept d units at n y get b (less d n b on)
charged_less On On2 t any less kept = tt

pub charged_later : (On : ℕ → ℕ → ℕ → Type 0) (t next : ℕ) (records : Records) → t ≤ next → Charged On t records → Charged On next records
charged_later On t next (Credit2Pool records) past kept = λ d x at n y get. (let k = kept d x at n y get in record { lasts = λ b on. lasts_later b t next y.burned y.held past (k.lasts b on); within = k.within })
charged_later On t next (RtdsPool domains) past kept = λ d units at n y get b on. lasts_later b t next y.burned (pos y.left -ℤ pos 1) past (kept d units at n y get b on)
charged_later On t next any past kept = tt

had_like : (old new : List (Option Resource)) → LikePlaces SameCur old new → Stays new old
had_like old new like r d u at own = (let was = like_was SameCur old new r d like at in (was.0, was.1, sym was.2 ∙ own))

had_come : (r : ℕ) (ends : List Moment) (cores : List (Option Resource)) → Stays (put_at r (joined_core ends) cores) cores
had_come r ends cores k c u at own = elim (read_put_at r k (joined_core ends) cores c at) [
  | inl was ↦ (c, was, own)
  | inr x ↦ absurd (let e : None ≡ Some u = ap (λ (z : Resource). z.cur) x.1 ∙ own in cc)
]

had_gone : (r : ℕ) (cores : List (Option Resource)) → Stays (clear_at r cores) cores
had_gone r cores k c u at own = (c, (read_clear_at r k cores c at).1, own)

-- which facts of the state's records are used: an RTDS unit's budgets are some, and a Credit2 unit that does not run holds nothing
abbrev pub Sound : Records → Type 0
Sound (Credit2Pool records) = EachAt (λ d (x : Credit2Domain). (n : ℕ) (y : Credit2Unit) → slice_get x.units n ≡ Some y → y.burned ≡ None → y.held ≡ pos 0) records.domains
Sound (RtdsPool domains) = EachAt (λ d (units : List RtdsUnit). (n : ℕ) (y : RtdsUnit) → slice_get units n ≡ Some y → 0 < y.next_budget) domains
Sound any = Unit {0}

module _ (g t : ℕ) (legs : Legs) where
  pub record IsLegged (pool : Pool) : Type 0 where
    pub have : HaveLegs legs pool.resources
    pub charged : Charged (OnSince legs pool.resources) t pool.scheduler.records

  -- cores that have no other units
  w_had : (pool : Pool) (cores : List (Option Resource)) → Stays cores pool.resources → IsLegged pool → IsLegged (record pool { resources = cores })
  w_had pool cores had w = record {
    have = λ r c u at own. (let x = had r c u at own in w.have r x.0 u x.1 x.2);
    charged = charged_less (OnSince legs pool.resources) (OnSince legs cores) t pool.scheduler.records
        (λ d n b on. (let x = had on.0 on.1 (record { dom = domain_number d; n = n }) on.2 on.3 in (on.0, x.0, x.1, x.2, on.4))) w.charged;
  }

  -- what is not seen
  w_same : (pool next : Pool) → next.resources ≡ pool.resources → next.scheduler.records ≡ pool.scheduler.records → IsLegged pool → IsLegged next
  w_same pool next cores records w = record {
    have = subst (HaveLegs legs) (sym cores) w.have;
    charged = subst (λ (x : List (Option Resource)). Charged (OnSince legs x) t next.scheduler.records) (sym cores) (subst (Charged (OnSince legs pool.resources) t) (sym records) w.charged);
  }

  w_records : (pool next : Pool) → next.resources ≡ pool.resources → Charged (OnSince legs pool.resources) t next.scheduler.records → IsLegged pool → IsLegged next
  w_records pool next cores charged w = record {
    have = subst (HaveLegs legs) (sym cores) w.have;
    charged = subst (λ (x : List (Option Resource)). Charged (OnSince legs x) t next.scheduler.records) (sym cores) charged;
  }

  w_like : (cores : List (Option Resource)) (pool : Pool) → LikePlaces SameCur pool.resources cores → IsLegged pool → IsLegged (record pool { resources = cores })
  w_like cores pool like w = w_had pool cores (had_like pool.resources cores like) w

  w_change_core : (r : ℕ) (f : Resource → Resource) (pool : Pool) → ((c : Resource) → SameCur c (f c)) → IsLegged pool → IsLegged (change_core r f pool)
  w_change_core r f pool same w = w_like _ pool (like_change_at SameCur r f pool.resources (λ c. refl) (λ c at. same c)) w

  -- the records
  module _ (On : ℕ → ℕ → ℕ → Type 0) where
    r_replenish : (records : Records) (u : UnitId) → Sound records → Charged On t records → Charged On t (policy.records_after_replenish records t u)
    r_replenish (Credit2Pool records) u sound kept = kept
    r_replenish (RtdsPool domains) u sound kept = rtds_change On t u (rtds.unit_after_replenish t) domains (λ x at old b on. by_burned x b (some x at) x.burned refl (old b on)) kept
      where
        some : (x : RtdsUnit) → rtds_unit_at domains u ≡ Some x → 0 < x.next_budget
        some x at = by_option (λ (o : Option RtdsUnit). o ≡ Some x → 0 < x.next_budget) (at_place domains u.dom.0) _ _ (λ none e. absurd (cc)) (λ units at_d e. sound u.dom.0 units at_d u.n x e) at

        by_burned : (x : RtdsUnit) (b : ℕ) → 0 < x.next_budget → (o : Option ℕ) → x.burned ≡ o → Lasts b t o (pos x.left -ℤ pos 1)
            → Lasts b t (rtds.renewed_unit t (elim o as (λ _. RtdsUnit) [ None ↦ x | Some from ↦ rtds.unit_after_span (t - from) (record x { burned = Some t }) ])).burned (pos (rtds.renewed_unit t (elim o as (λ _. RtdsUnit) [ None ↦ x | Some from ↦ rtds.unit_after_span (t - from) (record x { burned = Some t }) ])).left -ℤ pos 1)
        by_burned x b low None is lasts = absurd (let e = lasts.is in cc)
        by_burned x b low (Some from) is lasts = record { from = t; is = refl; since = (let s = lasts.since in let p = lasts.past in omega (arith, s, p)); past = omega arith; most = (let s = lasts.since in let p = lasts.past in omega (arith, ints, s, p, low)) }
    r_replenish (ArincPool records) u sound kept = tt
    r_replenish (NullPool places) u sound kept = tt

    r_refill : (records : Records) (d : ℕ) → Charged On t records → Charged On t (policy.records_after_refill records t d)
    r_refill (Credit2Pool records) d kept = c_refilled On t d records kept
    r_refill (RtdsPool domains) d kept = kept
    r_refill any d kept = tt

    r_parted : (records : Records) (d : ℕ) → Charged On t records → Charged On t (parted_records records d)
    r_parted (Credit2Pool records) d kept = EachAt-clear_at (λ d. DomainKept (On d) t) d records.domains kept
    r_parted (RtdsPool domains) d kept = EachAt-clear_at (λ d (units : List RtdsUnit). EachItem (RtdsUnitKept On t d) units) d domains kept
    r_parted any d kept = tt

    -- the same for every unit of a domain that joins
    replicated : {X : Type 0} (P : ℕ → X → Type 0) (count : ℕ) (x : X) → ((n : ℕ) → P n x) → EachItem P (replicate count x)
    replicated {X} P count x all n y at = subst (P n) (same count n y at) (all n)
      where
        same : (count n : ℕ) (y : X) → slice_get (replicate count x) n ≡ Some y → x ≡ y
        same zero n y at = absurd (cc)
        same (suc count) zero y at = cc
        same (suc count) (suc n) y at = same count n y at

    r_joined : (records : Records) (params : DomParams) (d count : ℕ) → ((n b : ℕ) → On d n b → ⊥) → Charged On t records → Charged On t (joined_records records params d count t)
    r_joined (Credit2Pool records) (dom_params.Credit2 weight percent) d count off kept =
        let x : Credit2Domain = credit2.fresh_credit2_domain weight percent count t in
        let y : Credit2Unit = record { credit = pos start_credit; residual = 0; held = pos 0; burned = None } in
        EachAt-put_at (λ d. DomainKept (On d) t) d x records.domains kept (replicated (λ n (z : Credit2Unit). UnitKept (On d n) t _ z) count y (λ n. record { lasts = λ b on. absurd (off n b on); within = omega (arith, ints) }))
    r_joined (Credit2Pool records) params d count off kept = kept
    r_joined (RtdsPool domains) (dom_params.Rtds period budget extra) d count off kept =
        EachAt-put_at (λ d (units : List RtdsUnit). EachItem (RtdsUnitKept On t d) units) d (rtds.fresh_rtds_units period.0 budget.0 extra count t) domains kept (replicated (RtdsUnitKept On t d) count _ (λ n b on. absurd (off n b on)))
    r_joined (RtdsPool domains) params d count off kept = kept
    r_joined records params d count off kept = tt

    r_unit : (records : Records) (u : UnitId) (period budget : Span) (extra : Bool) → Charged On t records → Charged On t (changed_records records (changes.«Unit» u period budget extra) t)
    r_unit (Credit2Pool records) u period budget extra kept = kept
    r_unit (RtdsPool domains) u period budget extra kept = rtds_change On t u _ domains (λ x at old b on. old b on) kept
    r_unit any u period budget extra kept = tt

    r_changed : (records : Records) (change : ParamChange) → Sound records → Charged On t records → Charged On t (changed_records records change t)
    r_changed (Credit2Pool records) (changes.Dom d weight percent) sound kept = c_set_domain On t d.0 weight percent records (sound d.0) kept
    r_changed (Credit2Pool records) change sound kept = kept
    r_changed (RtdsPool domains) (changes.«Unit» u period budget extra) sound kept = r_unit (RtdsPool domains) u period budget extra kept
    r_changed (RtdsPool domains) change sound kept = kept
    r_changed records (changes.Frame frame) sound kept = tt
    r_changed records change sound kept = tt

  -- every event but a decision
  pub w_parts : KeptByParts g t (λ pool action. ((r : ℕ) → action ≡ Decide (core r) → ⊥) × Sound pool.scheduler.records) IsLegged
  w_parts = record {
    cores = λ cores pool like. w_like cores pool (like_map KeepsCore SameCur pool.resources cores (λ c d keeps. keeps.cur) like);
    domains = λ d f pool count moving. w_same pool (change_domain d f pool) refl refl;
    queues = λ u pool runs. w_same pool (pools.queue_unit u pool) refl refl;
    dequeues = λ d pool. w_same pool (record pool { scheduler = policy.scheduler_without_queued d pool.scheduler }) refl refl;
    decides = λ r c pool at on. absurd (on.0 r refl);
    saves = λ r c u pool at is on. w_change_core r pools.saved_core pool (λ x. refl);
    replenishes = λ u pool on w. w_records pool (pools.with_records (policy.records_after_replenish pool.scheduler.records t u) pool) refl (r_replenish (OnSince legs pool.resources) pool.scheduler.records u on.1 w.charged) w;
    dues = λ r u x old pool on is. w_change_core r (pools.due_within t x.budget) pool (λ c. refl);
    refills = λ d pool on w. w_records pool (pools.with_records (policy.records_after_refill pool.scheduler.records t d) pool) refl (r_refill (OnSince legs pool.resources) pool.scheduler.records d w.charged) w;
  }

  pub w_commands : KeptByCommands g IsLegged
  w_commands = commands_of w_parts

  -- the commands
  pub w_set_moving : (d i : ℕ) (pool : Pool) → IsLegged pool → IsLegged (pool_with_moving d i pool)
  w_set_moving d i pool w =
      let next : Pool = change_domain d (λ x. record x { moving = Some (pool_number i) }) pool in
      kept_withdrawn w_commands d next (w_same pool next refl refl w)

  pub w_set_params : (change : ParamChange) (pool : Pool) → Sound pool.scheduler.records → IsLegged pool → IsLegged (changed_pool change t pool)
  w_set_params change pool sound w =
      let next : Pool = record pool { scheduler = policy.changed_scheduler change t pool.scheduler } in
      kept_marked w_commands t (λ d now. w_like _ now (like_of_domain SameCur d (capped t) now.resources (λ c. refl) (λ c. refl))) change next (w_records pool next refl (r_changed (OnSince legs pool.resources) pool.scheduler.records change sound w.charged) w)

  pub w_set_rtds_unit : (period budget : Option Span) (extra : Option Bool) (u : UnitId) (pool : Pool) → IsLegged pool → IsLegged (pool_with_rtds_unit t period budget extra u pool)
  w_set_rtds_unit period budget extra u pool w =
      by_option IsLegged (unit_rtds_record pool.scheduler.records u) _ _ (λ is. w)
      (λ x is. (
      let change : ParamChange = changes.«Unit» u (unwrap_or period (span x.next_period)) (unwrap_or budget (span x.next_budget)) (unwrap_or extra x.next_extra) in
      w_records pool (record pool { scheduler = policy.changed_scheduler change t pool.scheduler }) refl
      (r_unit (OnSince legs pool.resources) pool.scheduler.records u (unwrap_or period (span x.next_period)) (unwrap_or budget (span x.next_budget)) (unwrap_or extra x.next_extra) w.charged) w))

  pub w_with_domain : (d : ℕ) (domain : Domain) (params : DomParams) (pool : Pool) → ((r : ℕ) (c : Resource) (u : UnitId) → at_place pool.resources r ≡ Some c → c.cur ≡ Some u → u.dom.0 ≢ d) → IsLegged pool → IsLegged (pool_with_domain g t d domain params pool)
  w_with_domain d domain params pool other w =
      let count : ℕ = pools.domain_unit_count g domain in
      let next : Pool = record pool { domains = put_at d domain pool.domains; scheduler = policy.joined_scheduler d count params t pool.scheduler } in
      kept_queue_units w_commands d (numbers_from 0 count) next
      (w_records pool next refl (r_joined (OnSince legs pool.resources) pool.scheduler.records params d count (λ n b on. other on.0 on.1 (record { dom = domain_number d; n = n }) on.2 on.3 refl) w.charged) w)

  pub w_without_domain : (d : ℕ) (pool : Pool) → IsLegged pool → IsLegged (pool_without_domain d pool)
  w_without_domain d pool w = w_records pool (pool_without_domain d pool) refl (r_parted (OnSince legs pool.resources) pool.scheduler.records d w.charged) w

  pub w_core_comes : (r : ℕ) (ends : List Moment) (pool : Pool) → IsLegged pool → IsLegged (record pool { resources = put_at r (joined_core ends) pool.resources })
  w_core_comes r ends pool w = w_had pool (put_at r (joined_core ends) pool.resources) (had_come r ends pool.resources) w

  pub w_core_goes : (r : ℕ) (pool : Pool) → IsLegged pool → IsLegged (record pool { resources = clear_at r pool.resources })
  w_core_goes r pool w = w_had pool (clear_at r pool.resources) (had_gone r pool.resources) w

  -- a pool whose cores have no units
  pub w_idle : (pool : Pool) → ((r : ℕ) (c : Resource) → at_place pool.resources r ≡ Some c → c.cur ≡ None) → Charged (λ d n b. ⊥) t pool.scheduler.records → IsLegged pool
  w_idle pool idle charged = record {
    have = λ r c u at own. absurd (let e : None ≡ Some u = sym (idle r c at) ∙ own in cc);
    charged = charged_less (λ d n b. ⊥) (OnSince legs pool.resources) t pool.scheduler.records (λ d n b on. (let e : None ≡ Some (record { dom = domain_number d; n = n }) = sym (idle on.0 on.1 on.2) ∙ on.3 in absurd (cc))) charged;
  }
