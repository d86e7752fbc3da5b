-- What the checks of an accepted command have found, and what its plan promises of the pools.
use Rattle.std.proofs.Common.{◌≡◌, ◌<◌, ◌≤◌, ◌+◌, ◌%◌, ℕ, suc, Bool, true, false, not, List, [], ◌∷◌, refl, arith, subst, sym, ◌⊎◌, inl, inr}
use Rattle.std.specs.Prelude.{nat_le, sum_by, is_some, option_map, length, ◌||◌, Option, Some, None, Result, Ok, Err, ◌&&◌, ◌==◌, nat_lt, ◌/◌, unwrap_or, ◌*◌}
use Rattle.sched_model.specs.declared.config.SchedKind.{SchedKind}
use Rattle.sched_model.specs.declared.command.Command.{Command}
use Rattle.sched_model.specs.declared.command.Command.TheVariants as command
use Rattle.sched_model.specs.declared.command.ArincEntry.{ArincEntry}
use Rattle.sched_model.specs.declared.command.Which.{Which}
use Rattle.sched_model.specs.declared.event.Refusal.{Refusal}
use Rattle.sched_model.specs.declared.event.Refusal.TheVariants as refusal
use Rattle.sched_model.specs.declared.event.Reply.TheVariants as answers
use Rattle.sched_base.specs.Numbers.{span, pool as pool_number}
use Rattle.sched_model.specs.declared.config.FrameEntry.{FrameEntry}
use Rattle.sched_model.specs.declared.work.CommandLine.{CommandLine}
use Rattle.sched_model.specs.Machine.{line_verdict}
use Rattle.sched_model.specs.declared.plan.Plan.{Plan}
use Rattle.sched_model.specs.declared.plan.Plan.TheVariants as plan
use Rattle.sched_model.specs.declared.event.Param.TheVariants as param
use Rattle.sched_model.specs.declared.config.ParamChange.TheVariants as changes
use Rattle.sched_model.specs.declared.state.Domain.{Domain}
use Rattle.sched_model.specs.Places.{at_place, first_empty}
use Rattle.sched_model.specs.declared.machine.Machine.{Machine}
use Rattle.sched_model.specs.declared.state.State.{State}
use Rattle.sched_model.specs.declared.state.Pool.{Pool}
use Rattle.sched_model.specs.Actions.{home_pool_of_core, home_pool_of_domain}
use Rattle.sched_model.specs.declared.config.SchedKind.TheVariants as kinds
use Rattle.sched_model.specs.Policy.{records_kind}
use Rattle.sched_model.specs.Pool.{domain_unit_count}
use Rattle.sched_model.specs.Commands.{in_range, is_same_kind, name_fault, last_core_fault, rtds_fault, rtds_units, cpu_refusal, elsewhere_refusal, has_vcpu, judged_command, meant_pool, meant_domain, with_pool, answer_for_domain, demand, demand_range, refused_by, judge_frame, judged_frame_entries, cores_in, domains_in, judge_rtds, demand_kind}
use Rattle.sched_laws.proofs.EachPlace.{by_option}
use Rattle.sched_base.proofs.Bools.{and_left, and_right}
use Rattle.std.proofs.lemmas.Bool.{ltb-true, or_cases}
use Rattle.std.specs.Option.{IfSome}
use Rattle.std.specs.Result.{IfOk}
use Rattle.sched_base.specs.declared.Span.{Span}
use Rattle.sched_model.specs.declared.command.Syntax.{Syntax}
use Rattle.sched_model.specs.CheckedMachine.{IsChecked, IsGranularity, IsWithin, most_span}
use Rattle.sched_model.specs.Opening.{machine_core_count}
use Rattle.sched_laws.proofs.Granularity.{by_granularity}
use Rattle.sched_laws.proofs.Lists.{is_some_at}
use Rattle.sched_laws.proofs.Fits.{ChangeFits, RtdsFits}
use Rattle.sched_model.specs.declared.state.RtdsUnit.{RtdsUnit}
use Rattle.sched_laws.specs.Finds.{IsThere, FindsPool, FindsDomain}

abbrev IsEmpty : Pool → Type 0
IsEmpty pool = ((cores_in pool == 0) ≡ true) × ((domains_in pool == 0) ≡ true)

-- the units of a domain that a command names: all, or that of one vCPU
abbrev pub AreUnits : ℕ → Domain → ℕ → ℕ → Type 0
AreUnits g domain first count = ((first ≡ 0) × (count ≡ domain_unit_count g domain)) ⊎ ((v : ℕ) × (v < length domain.vcpus) × (first ≡ v / g) × (count ≡ 1))

abbrev pub microseconds : Option ℕ → Option Span
microseconds given = option_map (λ us. span (us * 1000)) given

-- the parameters were given in microseconds, and are in range
pub record AreTerms (period budget : Option Span) (units : List RtdsUnit) : Type 0 where
  pub given_period : Option ℕ
  pub given_budget : Option ℕ
  pub period_is : period ≡ microseconds given_period
  pub budget_is : budget ≡ microseconds given_budget
  pub good : rtds_fault given_period given_budget units ≡ None

-- what is found of the plan of an accepted command
abbrev pub Passed : Machine → State → Command → Plan → Type 0
Passed m s c (plan.PoolList pool answer) = IfSome pool (λ i. IsThere s i.0)
Passed m s c (plan.PoolCreate i name kind answer) =
    ((at_place s.pools i.0 ≡ None) × (i.0 < length s.pools)) × (given : Option SchedKind) × (c ≡ command.PoolCreate name given) × (kind ≡ unwrap_or given kinds.Credit2)
Passed m s c (plan.PoolDestroy i answer) = FindsPool s i.0 IsEmpty
Passed m s c (plan.PoolRename i name answer) = IsThere s i.0
Passed m s c (plan.CpuAdd i core answer) =
    FindsPool s i.0 (λ pool. not (is_same_kind kinds.Arinc653 (records_kind pool.scheduler.records) && nat_lt 0 (cores_in pool)) ≡ true) × (home_pool_of_core s core.0 ≡ None) × (IsChecked m → core.0 < machine_core_count m.config)
Passed m s c (plan.CpuRemove i core answer) = FindsPool s i.0 (λ pool. is_some (at_place pool.resources core.0) ≡ true)
Passed m s c (plan.Migrate d i j answer) = (home_pool_of_domain s d.0 ≡ Some i.0) × FindsPool s i.0 (λ pool. is_some (at_place pool.domains d.0) ≡ true) × IsThere s j.0
Passed m s c (plan.Credit2Dom d weight percent answer) =
    FindsDomain s d.0 (λ pool domain. (records_kind pool.scheduler.records ≡ kinds.Credit2) × ChangeFits (changes.Dom d weight percent)) × (which : Which) × (c ≡ command.Credit2Dom which weight percent)
Passed m s c (plan.Credit2Pool i limit answer) = FindsPool s i.0 (λ pool. (records_kind pool.scheduler.records ≡ kinds.Credit2) × IfSome limit (λ (us : ℕ). us ≤ 500000))
Passed m s c (plan.RtdsDom d first count period budget extra answer) =
    FindsDomain s d.0 (λ pool domain. (records_kind pool.scheduler.records ≡ kinds.Rtds) × AreUnits m.config.granularity domain first count × AreTerms period budget (rtds_units pool d.0 first count))
Passed m s c (plan.Pause d answer) = FindsDomain s d.0 (λ pool domain. Unit {0})
Passed m s c (plan.Unpause d answer) = FindsDomain s d.0 (λ pool domain. Unit {0})
Passed m s c (plan.ArincSet i frame answer) = FindsPool s i.0 (λ pool. (records_kind pool.scheduler.records ≡ kinds.Arinc653) × ChangeFits (changes.Frame frame))
Passed m s c (plan.Pin d unit cores answer) = FindsDomain s d.0 (λ pool domain. IfSome unit (λ (n : ℕ). (v : ℕ) × (n ≡ v / m.config.granularity) × (v < length domain.vcpus)))

-- what a plan promises of the pools
abbrev pub Fits : State → Plan → Type 0
Fits s (plan.PoolCreate i name kind answer) = (at_place s.pools i.0 ≡ None) × (i.0 < length s.pools)
Fits s (plan.PoolDestroy i answer) = (pool : Pool) → at_place s.pools i.0 ≡ Some pool → IsEmpty pool
Fits s (plan.CpuAdd i core answer) = IsThere s i.0
Fits s (plan.Migrate d i j answer) = IsThere s j.0
Fits s (plan.Credit2Dom d weight percent answer) =
    ChangeFits (changes.Dom d weight percent) × ((j : ℕ) (pool : Pool) → home_pool_of_domain s d.0 ≡ Some j → at_place s.pools j ≡ Some pool → records_kind pool.scheduler.records ≡ kinds.Credit2)
Fits s (plan.Credit2Pool i limit answer) = IfSome limit (λ (us : ℕ). us ≤ 500000)
Fits s (plan.RtdsDom d first count period budget extra answer) = (j : ℕ) (pool : Pool) → home_pool_of_domain s d.0 ≡ Some j → at_place s.pools j ≡ Some pool → RtdsFits period budget ⊎ (rtds_units pool d.0 first count ≡ [])
Fits s (plan.ArincSet i frame answer) = ChangeFits (changes.Frame frame)
Fits s _ = Unit {0}

-- what is found of a pool or of a domain's pool holds of it by its number
at_pool : {P : Pool → Type 0} (s : State) (i : ℕ) → FindsPool s i P → (pool : Pool) → at_place s.pools i ≡ Some pool → P pool
at_pool {P} s i found pool at = (let at2 = found.at in let e : found.pool ≡ pool = cc in subst P e found.meets)

at_home : {P : Pool → Domain → Type 0} (s : State) (d : ℕ) (found : FindsDomain s d P) (j : ℕ) (pool : Pool) → home_pool_of_domain s d ≡ Some j → at_place s.pools j ≡ Some pool → P pool found.domain
at_home {P} s d found j pool home at =
    let home2 = found.is_home in
    let e : j ≡ found.home = cc in
    at_pool {P = λ q. P q found.domain} s found.home (record { pool = found.pool; at = found.at; meets = found.meets }) pool (subst (λ k. at_place s.pools k ≡ Some pool) e at)

pub is_le : (a b : ℕ) → nat_le a b ≡ true → a ≤ b
is_le a b is = grind arith

pub is_within : (low high n : ℕ) → in_range low high n ≡ true → IsWithin low high n
is_within low high n is = record { least = is_le low n (and_left (nat_le low n) (nat_le n high) is); most = is_le n high (and_right (nat_le low n) (nat_le n high) is) }

kind_is : (a b : SchedKind) → is_same_kind a b ≡ true → b ≡ a
kind_is kinds.Credit2 kinds.Credit2 is = refl
kind_is kinds.Rtds kinds.Rtds is = refl
kind_is kinds.Arinc653 kinds.Arinc653 is = refl
kind_is kinds.Null kinds.Null is = refl
kind_is a b is = absurd (cc)

-- the first empty place
first_empty_is : {X : Type 0} (n i : ℕ) (places : List (Option X)) → first_empty n places ≡ Some i → (k : ℕ) × (i ≡ n + k) × (at_place places k ≡ None) × (k < length places)
first_empty_is n i [] found = absurd (cc)
first_empty_is n i (None ∷ places) found = (0, (let e : n ≡ i = cc in omega arith), refl, omega arith)
first_empty_is n i (Some x ∷ places) found = (let r = first_empty_is (suc n) i places found in (suc r.0, omega arith, r.2, omega arith))

-- a processor's core
core_below : (g processors p : ℕ) → IsGranularity g → processors % g ≡ 0 → p < processors → p / g < processors / g
core_below g processors p is whole low = by_granularity (λ n. processors % n ≡ 0 → p / n < processors / n) g is (λ whole2. omega (arith, low, whole2)) (λ whole2. omega (arith, low, whole2)) (λ whole2. omega (arith, low, whole2)) whole

at_most : (low high : ℕ) (n : Option ℕ) → IfSome n (IsWithin low high) → IfSome n (λ (k : ℕ). k ≤ high)
at_most low high None within = tt
at_most low high (Some n) within = within.most

pub rate_fits : (us : ℕ) → (us == 0 || in_range 100 500000 us) ≡ true → us ≤ 500000
rate_fits us is = elim (or_cases (us == 0) (in_range 100 500000 us) is) [ inl none ↦ (let e : us ≡ 0 = grind (arith, none) in omega (arith, e)) | inr some ↦ (is_within 100 500000 us some).most ]

-- the parameters in range, in nanoseconds
rtds_given : (period budget : Option ℕ) (p b : ℕ) → IsWithin 10 1000000000 (unwrap_or period p) → IsWithin 10 (unwrap_or period p) (unwrap_or budget b) → RtdsFits (microseconds period) (microseconds budget)
rtds_given None None p b within within2 = (tt, tt)
rtds_given None (Some us) p b within within2 = (tt, record { least = (let l = within2.least in omega (arith, l)); most = (let l = within2.most in let h = within.most in omega (arith, l, h)) })
rtds_given (Some us) None p b within within2 = (record { least = (let l = within.least in omega (arith, l)); most = (let l = within.most in omega (arith, l)) }, tt)
rtds_given (Some us) (Some ub) p b within within2 = (
  record { least = (let l = within.least in omega (arith, l)); most = (let l = within.most in omega (arith, l)) },
  record { least = (let l = within2.least in omega (arith, l)); most = (let l = within2.most in let h = within.most in omega (arith, l, h)) },
)

rtds_good : (period budget : Option ℕ) (units : List RtdsUnit) → rtds_fault period budget units ≡ None → RtdsFits (microseconds period) (microseconds budget) ⊎ (units ≡ [])
rtds_good period budget [] none = inr refl
rtds_good period budget (x ∷ units) none =
    let p : ℕ = unwrap_or period (x.next_period / 1000) in
    let b : ℕ = unwrap_or budget (x.next_budget / 1000) in
    elim (in_range 10 1000000000 p) as (λ r. in_range 10 1000000000 p ≡ r
    → elim r as (λ _. Option Refusal) [ false ↦ Some (refusal.Range param.Period p) | true ↦ elim (in_range 10 p b) [ false ↦ Some (refusal.Range param.Budget b) | true ↦ rtds_fault period budget units ] ] ≡ None
    → RtdsFits (microseconds period) (microseconds budget) ⊎ (x ∷ units ≡ [])) [
      | false ↦ λ is h. absurd (cc)
      | true ↦ λ is h. elim (in_range 10 p b) as (λ r. in_range 10 p b ≡ r → elim r as (λ _. Option Refusal) [ false ↦ Some (refusal.Range param.Budget b) | true ↦ rtds_fault period budget units ] ≡ None
          → RtdsFits (microseconds period) (microseconds budget) ⊎ (x ∷ units ≡ [])) [
            | false ↦ λ is2 h2. absurd (cc)
            | true ↦ λ is2 h2. inl (rtds_given period budget (x.next_period / 1000) (x.next_budget / 1000) (is_within 10 1000000000 p is) (is_within 10 p b is2))
          ] refl h
    ] refl none

rtds_fits : (p b : Option Span) (period budget : Option ℕ) (units : List RtdsUnit) → p ≡ microseconds period → b ≡ microseconds budget → rtds_fault period budget units ≡ None → RtdsFits p b ⊎ (units ≡ [])
rtds_fits p b period budget units is is2 none = rw (is, is2) (rtds_good period budget units none)

-- the steps of a verdict
pub by_demand : {X : Type 0} (Q : Result X Refusal → Type 0) (test : Bool) (fault : Refusal) (next : Result X Refusal) → Q (Err fault) → (test ≡ true → Q next) → Q (demand test fault next)
by_demand Q true fault next refused goes = goes refl
by_demand Q false fault next refused goes = refused

pub by_range : (Q : Result Plan Refusal → Type 0) (n : Option ℕ) (low high : ℕ) (fault : Refusal) (next : Result Plan Refusal) → Q (Err fault) → (IfSome n (IsWithin low high) → Q next) → Q (demand_range n low high fault next)
by_range Q None low high fault next refused goes = goes tt
by_range Q (Some n) low high fault next refused goes = by_demand Q (in_range low high n) fault next refused (λ is. goes (is_within low high n is))

pub by_pool : (Q : Result Plan Refusal → Type 0) (s : State) (which : Which) (next : ℕ → Pool → Result Plan Refusal) → Q (Err refusal.NoPool)
    → ((i : ℕ) (pool : Pool) → at_place s.pools i ≡ Some pool → Q (next i pool)) → Q (with_pool s which next)
by_pool Q s which next refused goes = by_option Q (meant_pool s which) _ _ (λ is. refused) (λ i is. by_option Q (at_place s.pools i) _ _ (λ is2. refused) (λ pool is2. goes i pool is2))

pub by_domain : (Q : Result Plan Refusal → Type 0) (m : Machine) (s : State) (which : Which) (next : ℕ → ℕ → Pool → Domain → Result Plan Refusal) → Q (Err refusal.NoDomain)
    → ((d i : ℕ) (pool : Pool) (domain : Domain) → meant_domain m which ≡ Some d → home_pool_of_domain s d ≡ Some i → at_place s.pools i ≡ Some pool → at_place pool.domains d ≡ Some domain → Q (next d i pool domain))
    → Q (answer_for_domain m s which next)
by_domain Q m s which next refused goes =
    by_option Q (meant_domain m which) _ _ (λ is. refused)
    (λ d is. by_option Q (home_pool_of_domain s d) _ _ (λ is2. refused)
    (λ i is2. by_option Q (at_place s.pools i) _ _ (λ is3. refused)
    (λ pool is3. by_option Q (at_place pool.domains d) _ _ (λ is4. refused) (λ domain is4. goes d i pool domain is is2 is3 is4))))

module _ (m : Machine) (s : State) (asked : Command) where
  abbrev F : Result Plan Refusal → Type 0
  F r = IfOk r (Passed m s asked)

  on_demand : (test : Bool) (fault : Refusal) (next : Result Plan Refusal) → (test ≡ true → F next) → F (demand test fault next)
  on_demand test fault next = by_demand F test fault next tt

  on_refused : (fault : Option Refusal) (next : Result Plan Refusal) → (fault ≡ None → F next) → F (refused_by fault next)
  on_refused None next goes = goes refl
  on_refused (Some fault) next goes = tt

  on_kind : (kind : SchedKind) (i : ℕ) (pool : Pool) (next : Result Plan Refusal) → (records_kind pool.scheduler.records ≡ kind → F next) → F (demand_kind kind i pool next)
  on_kind kind i pool next goes = on_demand (is_same_kind kind (records_kind pool.scheduler.records)) _ next (λ is. goes (kind_is kind (records_kind pool.scheduler.records) is))

  on_pool : (which : Which) (next : ℕ → Pool → Result Plan Refusal) → ((i : ℕ) (pool : Pool) → at_place s.pools i ≡ Some pool → F (next i pool)) → F (with_pool s which next)
  on_pool which next = by_pool F s which next tt

  -- the domain as it was found
  abbrev Found : ℕ → Pool → Domain → Type 1
  Found d pool domain = (P : Pool → Domain → Type 0) → P pool domain → FindsDomain s d P

  on_domain : (which : Which) (next : ℕ → ℕ → Pool → Domain → Result Plan Refusal) → ((d i : ℕ) (pool : Pool) (domain : Domain) → Found d pool domain → F (next d i pool domain)) → F (answer_for_domain m s which next)
  on_domain which next goes =
      by_domain F m s which next tt (λ d i pool domain named home at has. goes d i pool domain (λ P meets. record { home = i; pool = pool; domain = domain; is_home = home; at = at; has = has; meets = meets }))

  there : (i : ℕ) (pool : Pool) → at_place s.pools i ≡ Some pool → IsThere s i
  there i pool at = is_some_at (at_place s.pools i) pool at

  homeless : (cpu : ℕ) (o : Option ℕ) → option_map (λ home. refusal.CpuTaken cpu (pool_number home)) o ≡ None → o ≡ None
  homeless cpu None none = refl
  homeless cpu (Some i) none = absurd (cc)

  on_created : (name : List ℕ) (kind : Option SchedKind) → asked ≡ command.PoolCreate name kind → (i : Option ℕ) → first_empty 0 s.pools ≡ i
      → F (elim i as (λ _. Result Plan Refusal) [ None ↦ Err refusal.PoolsFull | Some n ↦ Ok (plan.PoolCreate (pool_number n) name (unwrap_or kind kinds.Credit2) answers.Done) ])
  on_created name kind asks None is = tt
  on_created name kind asks (Some n) is =
      let r = first_empty_is 0 n s.pools is in
      let e : n ≡ r.0 = (let e2 = r.1 in omega (arith, e2)) in
      (subst (λ k. (at_place s.pools k ≡ None) × (k < length s.pools)) (sym e) (r.2, r.3), kind, asks, refl)

  on_frame : (i major : ℕ) (pool : Pool) (entries : List ArincEntry) → at_place s.pools i ≡ Some pool → records_kind pool.scheduler.records ≡ kinds.Arinc653 → IsWithin 1 most_span major → F (judge_frame m i major entries)
  on_frame i major pool entries at kind within = framed (judged_frame_entries m entries)
    where
      framed : (r : Result (List FrameEntry) Refusal) → F (elim r as (λ _. Result Plan Refusal) [
        | Err fault ↦ Err fault
        | Ok frame ↦ demand (nat_le (sum_by (λ e. e.run.0) frame) major) (refusal.FrameLong (sum_by (λ e. e.run.0) frame) major) (Ok (plan.ArincSet (pool_number i) (record { major = span major; entries = frame }) answers.Done))
      ])
      framed (Err fault) = tt
      framed (Ok frame) = on_demand (nat_le (sum_by (λ (e : FrameEntry). e.run.0) frame) major) _ _ (λ is. record { pool = pool; at = at; meets = (kind, (is_le (sum_by (λ (e : FrameEntry). e.run.0) frame) major is, within)) })

  on_rtds : (d : ℕ) (pool : Pool) (domain : Domain) (first count : ℕ) (period budget : Option ℕ) (extra : Option Bool) → Found d pool domain → records_kind pool.scheduler.records ≡ kinds.Rtds → AreUnits m.config.granularity domain first count
      → F (judge_rtds pool d first count period budget extra)
  on_rtds d pool domain first count period budget extra found kind units =
      on_refused (rtds_fault period budget (rtds_units pool d first count)) _ (λ none. found _ (kind, units, record { given_period = period; given_budget = budget; period_is = refl; budget_is = refl; good = none }))

  pinned : (domain : Domain) (vcpu : Option ℕ) → has_vcpu domain vcpu ≡ true → IfSome (option_map (λ v. v / m.config.granularity) vcpu) (λ (n : ℕ). (v : ℕ) × (n ≡ v / m.config.granularity) × (v < length domain.vcpus))
  pinned domain None is = tt
  pinned domain (Some v) is = (v, refl, ltb-true v (length domain.vcpus) is)

  judged : (c : Command) → asked ≡ c → F (judged_command m s c)
  judged (command.PoolList None) asks = tt
  judged (command.PoolList (Some which)) asks = on_pool which _ (λ i pool at. there i pool at)
  judged (command.PoolCreate name kind) asks = on_refused (name_fault s name (λ i. true)) _ (λ free. on_created name kind asks (first_empty 0 s.pools) refl)
  judged (command.PoolDestroy which) asks =
      on_pool which _ (λ i pool at. on_demand (not (i == 0)) _ _ (λ is. on_demand (cores_in pool == 0 && domains_in pool == 0) _ _
      (λ is2. record { pool = pool; at = at; meets = (and_left (cores_in pool == 0) (domains_in pool == 0) is2, and_right (cores_in pool == 0) (domains_in pool == 0) is2) })))
  judged (command.PoolRename which name) asks = on_pool which _ (λ i pool at. on_refused (name_fault s name (λ other. not (other == i))) _ (λ free. there i pool at))
  judged (command.CpuAdd which cpu) asks =
      on_pool which _ (λ i pool at. on_demand (nat_lt cpu m.config.processors) _ _
      (λ is. on_refused (option_map (λ home. refusal.CpuTaken cpu (pool_number home)) (home_pool_of_core s (cpu / m.config.granularity))) _
      (λ none. on_demand (not (is_same_kind kinds.Arinc653 (records_kind pool.scheduler.records) && nat_lt 0 (cores_in pool))) _ _
      (λ is2. (
        record { pool = pool; at = at; meets = is2 },
        homeless cpu (home_pool_of_core s (cpu / m.config.granularity)) none,
        λ checked. core_below m.config.granularity m.config.processors cpu checked.config.granularity checked.config.whole_cores (ltb-true cpu m.config.processors is),
      )))))
  judged (command.CpuRemove which cpu) asks =
      on_pool which _ (λ i pool at. on_demand (nat_lt cpu m.config.processors) _ _ (λ is. on_demand (is_some (at_place pool.resources (cpu / m.config.granularity))) _ _
      (λ is2. on_refused (last_core_fault i pool) _ (λ others. record { pool = pool; at = at; meets = is2 }))))
  judged (command.Migrate which target) asks =
      by_domain F m s which _ tt (λ d i pool domain named home at has. on_pool target _ (λ j new at2. on_demand (nat_lt 0 (cores_in new)) _ _
      (λ is. (home, record { pool = pool; at = at; meets = is_some_at (at_place pool.domains d) domain has }, there j new at2))))
  judged (command.Credit2Dom which weight percent) asks =
      on_domain which _ (λ d i pool domain found. on_kind kinds.Credit2 i pool _ (λ kind. by_range F weight 1 65535 _ _ tt (λ weighs. by_range F percent 0 6400 _ _ tt
      (λ caps. (found _ (kind, (weighs, at_most 0 6400 percent caps)), which, asks)))))
  judged (command.Credit2Pool which None) asks = on_pool which _ (λ i pool at. on_kind kinds.Credit2 i pool _ (λ kind. record { pool = pool; at = at; meets = (kind, tt) }))
  judged (command.Credit2Pool which (Some us)) asks =
      on_pool which _ (λ i pool at. on_kind kinds.Credit2 i pool _ (λ kind. on_demand (us == 0 || in_range 100 500000 us) _ _ (λ is. record { pool = pool; at = at; meets = (kind, rate_fits us is) })))
  judged (command.RtdsDom which None period budget extra) asks =
      on_domain which _ (λ d i pool domain found. on_kind kinds.Rtds i pool _ (λ kind. on_rtds d pool domain 0 (domain_unit_count m.config.granularity domain) period budget extra found kind (inl (refl, refl))))
  judged (command.RtdsDom which (Some v) period budget extra) asks =
      on_domain which _ (λ d i pool domain found. on_kind kinds.Rtds i pool _ (λ kind. on_demand (nat_lt v (length domain.vcpus)) _ _
      (λ is. on_rtds d pool domain (v / m.config.granularity) 1 period budget extra found kind (inr (v, ltb-true v (length domain.vcpus) is, refl, refl)))))
  judged (command.Pause which) asks = on_domain which _ (λ d i pool domain found. found _ tt)
  judged (command.Unpause which) asks = on_domain which _ (λ d i pool domain found. found _ tt)
  judged (command.ArincSet which major entries) asks =
      on_pool which _ (λ i pool at. on_kind kinds.Arinc653 i pool _ (λ kind. on_demand (in_range 1 most_span major) _ _ (λ is. on_frame i major pool entries at kind (is_within 1 most_span major is))))
  judged (command.Pin which vcpu cpus) asks =
      on_domain which _ (λ d i pool domain found. on_demand (has_vcpu domain vcpu) _ _ (λ is. on_refused (cpu_refusal m.config.processors cpus) _ (λ low. on_refused (elsewhere_refusal m.config pool cpus) _
      (λ here. found _ (pinned domain vcpu is)))))

-- what is found of the plan of a line
pub verdict_passed : (m : Machine) (s : State) (line : CommandLine) (p : Plan) → line_verdict m s line ≡ Ok p → (c : Command) × (line.command ≡ Ok c) × Passed m s c p × (judged_command m s c ≡ Ok p)
verdict_passed m s line p is = from line.command refl is
  where
    from : (r : Result Command Syntax) → line.command ≡ r → elim r as (λ _. Result Plan Refusal) [ Err fault ↦ Err (refusal.Syntax fault.place) | Ok c ↦ judged_command m s c ] ≡ Ok p → (c : Command) × (line.command ≡ Ok c) × Passed m s c p × (judged_command m s c ≡ Ok p)
    from (Err fault) of_line says = absurd (cc)
    from (Ok c) of_line says = (c, of_line, subst (λ r. IfOk r (Passed m s c)) says (judged m s c c refl), says)

passed_fits : (m : Machine) (s : State) (c : Command) (k : ℕ) (p : Plan) → Passed m s c p → Fits (record s { next_command = k }) p
passed_fits m s c k (plan.PoolCreate i name kind answer) passed = passed.0
passed_fits m s c k (plan.PoolDestroy i answer) passed = at_pool s i.0 passed
passed_fits m s c k (plan.CpuAdd i core answer) passed = is_some_at (at_place s.pools i.0) passed.0.pool passed.0.at
passed_fits m s c k (plan.Migrate d i j answer) passed = passed.2
passed_fits m s c k (plan.Credit2Dom d weight percent answer) passed = (passed.0.meets.1, λ j pool home at. (at_home s d.0 passed.0 j pool home at).0)
passed_fits m s c k (plan.Credit2Pool i limit answer) passed = passed.meets.1
passed_fits m s c k (plan.RtdsDom d first count period budget extra answer) passed = λ j pool home at.
    let terms = (at_home s d.0 passed j pool home at).2 in
    rtds_fits period budget terms.given_period terms.given_budget (rtds_units pool d.0 first count) terms.period_is terms.budget_is terms.good
passed_fits m s c k (plan.ArincSet i frame answer) passed = passed.meets.1
passed_fits m s c k p passed = tt

-- what is promised of an accepted line with a command, also once the next command is counted
pub verdict_fits_next : (m : Machine) (s : State) (line : CommandLine) (k : ℕ) (p : Plan) → line_verdict m s line ≡ Ok p → Fits (record s { next_command = k }) p
verdict_fits_next m s line k p is = (let passed = verdict_passed m s line p is in passed_fits m s passed.0 k p passed.2)

pub verdict_fits : (m : Machine) (s : State) (line : CommandLine) (p : Plan) → line_verdict m s line ≡ Ok p → Fits s p
verdict_fits m s line p is = verdict_fits_next m s line s.next_command p is
