-- What the plan of an accepted command changes is in the pool of its place, and its values are in range.
use Rattle.std.proofs.Common.{◌≡◌, ◌∙◌, ◌≤◌, ◌<◌, ◌+◌, ℕ, zero, suc, true, List, [], ◌∷◌, length, refl, sym, ap, subst, arith, ◌⊎◌, inl, inr}
use Rattle.std.specs.Prelude.{Option, Some, None, is_some, option_map, slice_get}
use Rattle.std.specs.Option.{ForSome}
use Rattle.sched_base.specs.declared.Span.{Span}
use Rattle.sched_model.specs.declared.config.ParamChange.TheVariants as changes
use Rattle.sched_model.specs.declared.config.SchedKind.{SchedKind}
use Rattle.sched_model.specs.declared.config.SchedKind.TheVariants as kinds
use Rattle.sched_model.specs.declared.machine.Machine.{Machine}
use Rattle.sched_model.specs.declared.plan.Plan.{Plan}
use Rattle.sched_model.specs.declared.plan.Plan.TheVariants as plan
use Rattle.sched_model.specs.declared.state.Domain.{Domain}
use Rattle.sched_model.specs.declared.state.Records.{Records}
use Rattle.sched_model.specs.declared.state.Records.TheVariants.{Credit2Pool, RtdsPool, ArincPool, NullPool}
use Rattle.sched_model.specs.declared.state.RtdsUnit.{RtdsUnit}
use Rattle.sched_model.specs.declared.state.Pool.{Pool}
use Rattle.sched_model.specs.declared.state.State.{State}
use Rattle.sched_model.specs.Actions.{home_pool_of_domain}
use Rattle.sched_model.specs.Commands.{plan_pool, rtds_units}
use Rattle.sched_model.specs.Places.{at_place}
use Rattle.sched_model.specs.Policy.{records_kind, unit_rtds_record}
use Rattle.sched_model.specs.Pool.{domain_unit_count}
use Rattle.sched_base.specs.declared.Cores.{Cores}
use Rattle.sched_base.specs.declared.DomId.{DomId}
use Rattle.sched_laws.proofs.EachPlace.{place_below}
use Rattle.sched_laws.proofs.Fits.{RtdsFits}
use Rattle.sched_laws.proofs.Judged.{Fits, verdict_fits}
use Rattle.sched_laws.proofs.Lists.{item_below, some_is, some_same}
use Rattle.state_ranges.specs.Records.{IsRecorded}
use Rattle.sched_base.specs.Units.{unit_id}
use Rattle.pool_core.specs.Params.{AreGiven}
use Rattle.sched_model.specs.declared.state.Scheduler.{Scheduler}
use Rattle.sched_ops.specs.Conditions.{IsChange, has_joined_domain}
use Rattle.sched_laws.specs.RecordRanges.{IsCap, IsWeight}
use Rattle.sched_ops.specs.Seen.{units_of}
use Rattle.unit_state.specs.Seen.{units_at}
use Rattle.policy_laws.specs.Holds.{Holds}
use Rattle.pool_core.specs.Seen.{Seen}
use Rattle.machine_parts.specs.Told.{Told}
use Rattle.machine_parts.specs.Places.{GoesOn, SlotSuits, StandsAt, state_of}
use Rattle.machine_parts.proofs.Going.{range-of}
use Rattle.machine_parts.proofs.Standing.{pool_at, stands-there}
use Rattle.composition_laws.specs.Plans.{Finds, FindsDomain, FindsPool, IsThere}
use Rattle.composition_laws.proofs.Judged.{plan_finds}
use Rattle.tool_actions.specs.CarriedPlans.{IsAccepted, KeepsPools, Takes, TakesChange, TakesUnits}
use Rattle.tool_actions.proofs.Judgement.{recorded}

-- the pool that a plan names, or the home of its domain, is there
there : (s : State) (i : ℕ) → IsThere s i → (pool : Pool) × (at_place s.pools i ≡ Some pool)
there s i is = some_is (at_place s.pools i) is

of_pool : (s : State) (k i : ℕ) → (pool : Pool) × (at_place s.pools k ≡ Some pool) → Some k ≡ Some i → (pool : Pool) × (at_place s.pools i ≡ Some pool)
of_pool s k i found is = (found.0, subst (λ n. at_place s.pools n ≡ Some found.0) (some_same is) found.1)

of_domain : (s : State) (d i : ℕ) (P : Pool → Domain → Type 0) → FindsDomain s d P → home_pool_of_domain s d ≡ Some i → (pool : Pool) × (at_place s.pools i ≡ Some pool)
of_domain s d i P finds home = of_pool s finds.home i (finds.pool, finds.at) (sym finds.is_home ∙ home)

pool-found : (m : Machine) (s : State) (p : Plan) (i : ℕ) → Finds m s p → plan_pool s p ≡ Some i → KeepsPools p → (pool : Pool) × (at_place s.pools i ≡ Some pool)
pool-found m s (plan.PoolList None answer) i finds home keeps = absurd (cc)
pool-found m s (plan.PoolList (Some k) answer) i finds home keeps = of_pool s k.0 i (there s k.0 (finds k refl)) home
pool-found m s (plan.PoolCreate k name kind answer) i finds home keeps = absurd keeps
pool-found m s (plan.PoolDestroy k answer) i finds home keeps = absurd keeps
pool-found m s (plan.PoolRename k name answer) i finds home keeps = of_pool s k.0 i (there s k.0 finds) home
pool-found m s (plan.CpuAdd k core answer) i finds home keeps = of_pool s k.0 i (there s k.0 finds.0) home
pool-found m s (plan.CpuRemove k core answer) i finds home keeps = of_pool s k.0 i (finds.pool, finds.at) home
pool-found m s (plan.Migrate d k j answer) i finds home keeps = of_pool s k.0 i (finds.1.pool, finds.1.at) home
pool-found m s (plan.Credit2Dom d weight cap answer) i finds home keeps = of_domain s d.0 i _ finds home
pool-found m s (plan.Credit2Pool k limit answer) i finds home keeps = of_pool s k.0 i (finds.pool, finds.at) home
pool-found m s (plan.RtdsDom d first count period budget extra answer) i finds home keeps = of_domain s d.0 i _ finds home
pool-found m s (plan.Pause d answer) i finds home keeps = of_domain s d.0 i _ finds home
pool-found m s (plan.Unpause d answer) i finds home keeps = of_domain s d.0 i _ finds home
pool-found m s (plan.ArincSet k frame answer) i finds home keeps = of_pool s k.0 i (finds.pool, finds.at) home
pool-found m s (plan.Pin d unit cores answer) i finds home keeps = of_domain s d.0 i _ finds home

-- what the plan of an accepted command finds
pub accepted-finds : (w : Told) → GoesOn w → (p : Plan) → IsAccepted w p → Finds w.input (state_of w) p
accepted-finds w goes p accepted = plan_finds w.input goes.checked (state_of w) accepted.line p accepted.accepted

-- the pool of the plan is one of the 16
pub home-low : (w : Told) → GoesOn w → (p : Plan) (i : ℕ) → IsAccepted w p → plan_pool (state_of w) p ≡ Some i → KeepsPools p → i < 16
home-low w goes p i accepted home keeps =
    let found = pool-found w.input (state_of w) p i (accepted-finds w goes p accepted) home keeps in
    let below = place_below (state_of w).pools i found.0 found.1 in
    let places = (range-of w goes).pool_places in
    omega (arith, below, places)

-- there is a pool at the place of its number
pub slot-there : (w : Told) → GoesOn w → (p : Plan) (i : ℕ) (slot : Option Seen) → IsAccepted w p → plan_pool (state_of w) p ≡ Some i → KeepsPools p → StandsAt w i slot → is_some slot ≡ true
slot-there w goes p i slot accepted home keeps stands =
    let found = pool-found w.input (state_of w) p i (accepted-finds w goes p accepted) home keeps in
    of_slot slot (sym (stands-there w i slot stands) ∙ found.1)
  where
    of_slot : (o : Option Seen) → pool_at o ≡ Some (pool-found w.input (state_of w) p i (accepted-finds w goes p accepted) home keeps).0 → is_some o ≡ true
    of_slot None is = absurd (cc)
    of_slot (Some seen) is = refl

-- a domain of the pool has joined its scheduler, which knows its units
some-there : {X Y : Type 0} (f : X → ℕ) (g : Y → ℕ) (o : Option X) (y : Y) → option_map f o ≡ option_map g (Some y) → (x : X) × (o ≡ Some x) × (f x ≡ g y)
some-there f g None y is = absurd (cc)
some-there f g (Some x) y is = (x, refl, cc)

-- the change of a pin is one that each scheduler has
pin-change : (kind : SchedKind) (scheduler : Scheduler) (d : DomId) (unit : Option ℕ) (cores : Cores) → has_joined_domain scheduler d.0 ≡ true → ForSome unit (λ (n : ℕ). n < units_of scheduler d.0) → IsChange kind scheduler (changes.Pin d unit cores)
pin-change kinds.Credit2 scheduler d unit cores joined low = (joined, low)
pin-change kinds.Rtds scheduler d unit cores joined low = (joined, low)
pin-change kinds.Arinc653 scheduler d unit cores joined low = (joined, low)
pin-change kinds.Null scheduler d unit cores joined low = (joined, low)

-- an RTDS unit of the domain has a record, so some units are changed where some are named
unit-there : (records : Records) (d count n : ℕ) → records_kind records ≡ kinds.Rtds → IsRecorded records d count → n < count → (x : RtdsUnit) × (unit_rtds_record records (unit_id d n) ≡ Some x)
unit-there (Credit2Pool records) d count n kind kept low = absurd (cc)
unit-there (RtdsPool domains) d count n kind kept low =
    let item = item_below kept.records n (let same = kept.units in omega (arith, low, same)) in
    (item.0, ap (λ (o : Option (List RtdsUnit)). elim o as (λ _. Option RtdsUnit) [ None ↦ None | Some units ↦ slice_get units n ]) kept.at ∙ item.1)
unit-there (ArincPool records) d count n kind kept low = absurd (cc)
unit-there (NullPool cores) d count n kind kept low = absurd (cc)

some-units : (pool : Pool) (d first count : ℕ) (x : RtdsUnit) → unit_rtds_record pool.scheduler.records (unit_id d first) ≡ Some x → 0 < count → rtds_units pool d first count ≡ [] → ⊥
some-units pool d first zero x is some none = omega (arith, some)
some-units pool d first (suc count) x is some none =
    let there : rtds_units pool d first (suc count) ≡ x ∷ rtds_units pool d (suc first) count =
    ap (λ (o : Option RtdsUnit). elim o as (λ _. List RtdsUnit) [ None ↦ [] | Some y ↦ y ∷ rtds_units pool d (suc first) count ]) is in
    cc

module _ (w : Told) (goes : GoesOn w) (i : ℕ) (seen : Seen) (stands : StandsAt w i (Some seen)) (holds : Holds seen.granularity seen.latest seen.pool) where
  abbrev m : Machine
  m = w.input

  abbrev s : State
  s = state_of w

  here : at_place s.pools i ≡ Some seen.pool
  here = stands-there w i (Some seen) stands

  suits : SlotSuits m s.now seen
  suits = stands.suits seen refl

  -- the pool that was found is this one
  same-pool : (pool : Pool) (k : ℕ) → at_place s.pools k ≡ Some pool → k ≡ i → pool ≡ seen.pool
  same-pool pool k at is = some_same (sym at ∙ ap (at_place s.pools) is ∙ here)

  module _ (d : ℕ) (domain : Domain) (has : at_place seen.pool.domains d ≡ Some domain) where
    known : (x : List Cores) × (at_place seen.pool.scheduler.affinity d ≡ Some x) × (length x ≡ domain_unit_count seen.granularity domain)
    known = some-there length (domain_unit_count seen.granularity) (at_place seen.pool.scheduler.affinity d) domain (holds.members.units d ∙ ap (option_map (domain_unit_count seen.granularity)) has)

    joined : has_joined_domain seen.pool.scheduler d ≡ true
    joined = ap (λ (o : Option (List Cores)). is_some o) (known.1)

    units-known : units_of seen.pool.scheduler d ≡ domain_unit_count seen.granularity domain
    units-known = ap (λ (o : Option (List Cores)). elim o as (λ _. ℕ) [ None ↦ 0 | Some x ↦ length x ]) (known.1) ∙ known.2

  -- a domain of the plan is in this pool
  record Found (d : ℕ) (P : Pool → Domain → Type 0) : Type 0 where
    pub domain : Domain
    pub has : at_place seen.pool.domains d ≡ Some domain
    pub meets : P seen.pool domain

  found : (d : ℕ) (P : Pool → Domain → Type 0) → FindsDomain s d P → home_pool_of_domain s d ≡ Some i → Found d P
  found d P finds home =
      let same : finds.pool ≡ seen.pool = same-pool finds.pool finds.home finds.at (some_same (sym finds.is_home ∙ home)) in
      record {
        domain = finds.domain;
        has = subst (λ (pool : Pool). at_place pool.domains d ≡ Some finds.domain) same finds.has;
        meets = subst (λ (pool : Pool). P pool finds.domain) same finds.meets;
      }

  met : (k : ℕ) (P : Pool → Type 0) → FindsPool s k P → Some k ≡ Some i → P seen.pool
  met k P finds home = subst P (same-pool finds.pool k finds.at (some_same home)) finds.meets

  takes-dom : (d : DomId) (weight cap : Option ℕ) → FindsDomain s d.0 (λ pool domain. (records_kind pool.scheduler.records ≡ kinds.Credit2) × ForSome weight IsWeight × ForSome cap IsCap) → home_pool_of_domain s d.0 ≡ Some i → TakesChange seen (changes.Dom d weight cap)
  takes-dom d weight cap finds home =
      let f = found d.0 _ finds home in
      subst (λ (kind : SchedKind). IsChange kind seen.pool.scheduler (changes.Dom d weight cap)) (sym f.meets.0) (joined d.0 f.domain f.has, f.meets.1, f.meets.2)

  takes-pin : (d : DomId) (unit : Option ℕ) (cores : Cores) → FindsDomain s d.0 (λ pool domain. ForSome unit (λ (n : ℕ). n < domain_unit_count m.config.granularity domain)) → home_pool_of_domain s d.0 ≡ Some i → TakesChange seen (changes.Pin d unit cores)
  takes-pin d unit cores finds home =
      let f = found d.0 _ finds home in
      pin-change (records_kind seen.pool.scheduler.records) seen.pool.scheduler d unit cores (joined d.0 f.domain f.has)
      (λ n is. (let low = f.meets n is in let count = units-known d.0 f.domain f.has ∙ ap (λ g. domain_unit_count g f.domain) suits.granularity in omega (arith, low, count)))

  takes-rate : (k : ℕ) (limit : Option ℕ) → FindsPool s k (λ pool. (records_kind pool.scheduler.records ≡ kinds.Credit2) × ForSome limit (λ (us : ℕ). us ≤ 500000)) → Some k ≡ Some i → ForSome limit (λ (us : ℕ). TakesChange seen (changes.Rate us))
  takes-rate k limit finds home = λ us is.
      let meets = met k _ finds home in
      subst (λ (kind : SchedKind). IsChange kind seen.pool.scheduler (changes.Rate us)) (sym meets.0) (meets.1 us is)

  takes-units : (d first count : ℕ) (period budget : Option Span) (P : Pool → Domain → Type 0)
      → FindsDomain s d (λ pool domain. (records_kind pool.scheduler.records ≡ kinds.Rtds) × (first + count ≤ domain_unit_count m.config.granularity domain) × P pool domain) → home_pool_of_domain s d ≡ Some i
      → (RtdsFits period budget ⊎ (rtds_units seen.pool d first count ≡ [])) → TakesUnits seen d first count (AreGiven period budget)
  takes-units d first count period budget P finds home fits =
      let f = found d _ finds home in
      let low : first + count ≤ domain_unit_count m.config.granularity f.domain = f.meets.1 in
      record {
        units = subst (λ n. first + count ≤ n) (sym (ap (units_at seen.granularity) f.has ∙ ap (λ g. domain_unit_count g f.domain) suits.granularity)) low;
        given = λ some. elim fits as (λ _. AreGiven period budget) [
          | inl in_range ↦ record { long = in_range.0; share = in_range.1 }
          | inr none ↦
              let kept = (recorded w goes i seen.pool here).recorded d f.domain f.has in
              let unit = unit-there seen.pool.scheduler.records d (domain_unit_count m.config.granularity f.domain) first f.meets.0 kept (omega (arith, low, some)) in
              absurd (some-units seen.pool d first count unit.0 unit.1 some none)
        ];
      }

  plan-takes : (p : Plan) → Finds m s p → Fits s p → plan_pool s p ≡ Some i → Takes seen p
  plan-takes (plan.Credit2Dom d weight cap answer) finds fits home = takes-dom d weight cap finds home
  plan-takes (plan.Credit2Pool k limit answer) finds fits home = takes-rate k.0 limit finds home
  plan-takes (plan.RtdsDom d first count period budget extra answer) finds fits home = takes-units d.0 first count period budget _ finds home (fits i seen.pool home here)
  plan-takes (plan.ArincSet k frame answer) finds fits home = (let meets = met k.0 _ finds home in subst (λ (kind : SchedKind). IsChange kind seen.pool.scheduler (changes.Frame frame)) (sym meets.0) meets.1)
  plan-takes (plan.Pin d unit cores answer) finds fits home = takes-pin d unit cores finds home
  plan-takes p finds fits home = tt

  pub takes-plan : (p : Plan) → IsAccepted w p → plan_pool s p ≡ Some i → Takes seen p
  takes-plan p accepted home = plan-takes p (accepted-finds w goes p accepted) (verdict_fits m s accepted.line p accepted.accepted) home
