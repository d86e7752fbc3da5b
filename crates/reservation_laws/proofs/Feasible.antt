-- Where nobody sleeps and the budgets fit one processor, there is room for all that the units may claim.
use Rattle.std.proofs.Common.{◌≡◌, ◌≤◌, ◌<◌, ◌+◌, ◌-◌, ◌*◌, ◌/◌, ℕ, zero, suc, Bool, true, false, not, List, [], ◌∷◌, ◌++◌, refl, arith, cond, subst, sym, ◌∙◌, ap, length, inl, inr}
use Rattle.std.specs.Prelude.{Option, Some, None, drop, map, replicate, slice_get, sum_by, take, ◌==◌, ◌||◌}
use Rattle.std.specs.List.{All, AllByRecursion, list_any}
use Rattle.std.proofs.lemmas.Bool.{cases_Bool}
use Rattle.std.proofs.lemmas.List.{map-append}
use Rattle.std.proofs.lemmas.List.Elements.{All-from_recursion, recursion_from_All}
use Rattle.std.proofs.lemmas.List.Sums.{sum_by-cons}
use Rattle.std.proofs.lemmas.Nat.{le-div}
use Rattle.std.proofs.Math.Decide.{dec_le}
use Rattle.std.proofs.Math.Nat.{div-eq_of_lt}
use Rattle.sched_base.specs.declared.Span.{Span}
use Rattle.sched_base.specs.declared.UnitId.{UnitId}
use Rattle.sched_base.proofs.Bools.{clash}
use Rattle.sched_base.proofs.Lists.{AllByRecursion-map, each_get}
use Rattle.sched_model.specs.declared.config.DomConfig.{DomConfig}
use Rattle.sched_model.specs.declared.config.DomParams.{DomParams}
use Rattle.sched_model.specs.declared.config.DomParams.TheVariants as dom_params
use Rattle.sched_model.specs.declared.config.SchedKind.{SchedKind}
use Rattle.sched_model.specs.declared.config.SchedKind.TheVariants as kinds
use Rattle.sched_model.specs.declared.event.Entry.{Entry}
use Rattle.sched_model.specs.declared.machine.Machine.{Machine}
use Rattle.sched_model.specs.declared.state.RtdsUnit.{RtdsUnit}
use Rattle.sched_model.specs.Actions.{configured_units, home_pool_of_domain}
use Rattle.sched_model.specs.CheckedMachine.{DomParamsPass, IsChecked, IsCheckedDomain}
use Rattle.sched_model.specs.Opening.{opening}
use Rattle.sched_model.specs.Places.{at_place, numbers_from}
use Rattle.sched_model.specs.Runs.{IsRun}
use Rattle.std.specs.Prelude.{is_some}
use Rattle.sched_laws.specs.StateLaws.{state_after}
use Rattle.sched_laws.proofs.EachPlace.{found_at}
use Rattle.sched_laws.proofs.Lists.{item_below, some_is}
use Rattle.sched_laws.proofs.SiblingsLaw.{some_processor}
use Rattle.term_laws.specs.RtdsTerm.{legs, rtds_in, terms}
use Rattle.service_laws.specs.Demand.{Job, asked_by, demand, opened}
use Rattle.service_laws.proofs.DemandSums.{opens}
use Rattle.service_laws.proofs.Passing.{NextMomentLaw}
use Rattle.undisturbed_laws.specs.Undisturbed.{IsAtHome}
use Rattle.undisturbed_laws.proofs.Opened.{configured_opening}
use Rattle.undisturbed_laws.proofs.Runs.{pool_as_configured}
use Rattle.reservation_laws.specs.Reservations.{GetsBudget, IsFeasibleRtds, NeverSleeps, reservation, reservations}
use Rattle.reservation_laws.specs.Sleepers.{HasRoom, IsCalmRtds, claim, claims, domain_claims, may_sleep}
use Rattle.reservation_laws.proofs.Asks.{asked_in}
use Rattle.service_laws.proofs.DemandSums.{one_more}
use Rattle.reservation_laws.proofs.Follows.{first_vcpu}
use Rattle.reservation_laws.proofs.Reserved.{gets_budget, gets_none, is_low}

demand_both : (until : ℕ) (xs ys : List Job) → demand until (xs ++ ys) ≡ demand until xs + demand until ys
demand_both until [] ys = omega arith
demand_both until (x ∷ xs) ys = (let r = demand_both until xs ys in omega (arith, r))

none_of : (b q : ℕ) → q ≡ 0 → b * q ≡ 0
none_of b q none = ap (λ n. b * n) none ∙ grind arith

-- the budgets of the whole periods of a span
opened_asks : (span b t : ℕ) → 0 < t → b * (span / t) ≤ asked_by span (opened (b, t))
opened_asks span b t some =
    elim (dec_le t span) [
      | yes by ↦ (
          let a : asked_by span (opened (b, t)) ≡ b + b * ((span - t) / t) = asked_in span (opened (b, t)) by in
          let split : span ≡ span - t + t = omega (arith, by) in
          let q : span / t ≡ (span - t) / t + 1 = ap (λ n. n / t) split ∙ one_more (span - t) t some in
          let more : b * (span / t) ≡ b * ((span - t) / t) + b = ap (λ n. b * n) q ∙ grind arith in
          omega (arith, a, more))
      | no beyond ↦ (let none = none_of b (span / t) (div-eq_of_lt (omega (arith, beyond))) in omega (arith, none))
    ]

plain_claim : (params : DomParams) (span : ℕ) → DomParamsPass kinds.Rtds params → claim params false span ≤ asked_by span (opened (reservation params))
plain_claim (dom_params.Credit2 weight cap) span passed = absurd passed
plain_claim (dom_params.Rtds period budget extra) span passed =
    let low = passed.0.least in
    let a = opened_asks span budget.0 period.0 (omega (arith, low)) in
    omega (arith, a)
plain_claim dom_params.Arinc653 span passed = absurd passed
plain_claim dom_params.Null span passed = absurd passed

-- a part of a list that begins with what passes a test
part_first : {X : Type 0} (test : X → Bool) (a b : ℕ) (xs : List X) (x : X) → 0 < a → slice_get xs b ≡ Some x → test x ≡ true → list_any test (take a (drop b xs)) ≡ true
part_first test zero b xs x some at is = absurd (omega (arith, some))
part_first test (suc a) b [] x some at is = absurd (cc)
part_first test (suc a) zero (y ∷ xs) x some at is = (let same : y ≡ x = cc in ap (λ p. p || list_any test (take a xs)) (ap test same ∙ is))
part_first test (suc a) (suc b) (y ∷ xs) x some at is = part_first test (suc a) b xs x some at is

module _ (g : ℕ) (some : 0 < g) where
  -- each unit of a domain whose guests never sleep
  awake_unit : (c : DomConfig) → NeverSleeps c → (k : ℕ) → k < configured_units g c → may_sleep g c k ≡ false
  awake_unit c never k low =
      let inside : k * g < length c.guests = first_vcpu k g (length c.guests) some low in
      let script = item_below c.guests (k * g) inside in
      let empty : script.0 ≡ [] = each_get (λ (y : List Span). y ≡ []) c.guests (k * g) script.0 (recursion_from_All (λ (y : List Span). y ≡ []) c.guests never) script.1 in
      let test : (length script.0 == 0) ≡ true = ap (λ (y : List Span). length y == 0) empty in
      ap not (part_first (λ (y : List Span). length y == 0) g (k * g) c.guests script.0 some script.1 test)

  domain_fits : (c : DomConfig) (span n count : ℕ) → DomParamsPass kinds.Rtds c.params → ((k : ℕ) → k < n + count → may_sleep g c k ≡ false)
      → sum_by (λ k. claim c.params (may_sleep g c k) span) (numbers_from n count) ≤ demand span (map opened (replicate count (reservation c.params)))
  domain_fits c span n zero passed awake = omega arith
  domain_fits c span n (suc count) passed awake =
      let rest = domain_fits c span (suc n) count passed (λ k low. awake k (omega (arith, low))) in
      let here = plain_claim c.params span passed in
      let wakes : claim c.params (may_sleep g c n) span ≡ claim c.params false span = ap (λ s. claim c.params s span) (awake n (omega arith)) in
      let more = sum_by-cons (λ k. claim c.params (may_sleep g c k) span) n (numbers_from (suc n) count) in
      omega (arith, rest, here, wakes, more)

  is_home : (n i : ℕ) → (n == i) ≡ true → n ≡ i
  is_home n i is = grind (arith, is)

  claims_fit : (i : ℕ) (configs : List DomConfig) (span : ℕ) → AllByRecursion (λ (c : DomConfig). c.home.0 ≡ i → DomParamsPass kinds.Rtds c.params) configs → AllByRecursion (λ (c : DomConfig). c.home.0 ≡ i → NeverSleeps c) configs
      → claims g i configs span ≤ demand span (map opened (reservations g i configs))
  claims_fit i [] span pass awake = omega arith
  claims_fit i (c ∷ configs) span pass awake = go (claims_fit i configs span pass.1 awake.1) (c.home.0 == i) refl
    where
      go : claims g i configs span ≤ demand span (map opened (reservations g i configs)) → (b : Bool) → (c.home.0 == i) ≡ b
          → cond b (domain_claims g c span) 0 + claims g i configs span ≤ demand span (map opened (cond b (replicate (configured_units g c) (reservation c.params)) [] ++ reservations g i configs))
      go rest true home =
          let count : ℕ = configured_units g c in
          let here = domain_fits c span 0 count (pass.0 (is_home c.home.0 i home)) (λ k low. awake_unit c (awake.0 (is_home c.home.0 i home)) k (omega (arith, low))) in
          let both : demand span (map opened (replicate count (reservation c.params) ++ reservations g i configs)) ≡ demand span (map opened (replicate count (reservation c.params))) + demand span (map opened (reservations g i configs)) =
          ap (demand span) (map-append opened (replicate count (reservation c.params)) (reservations g i configs)) ∙ demand_both span (map opened (replicate count (reservation c.params))) (map opened (reservations g i configs)) in
          omega (arith, here, both, rest)
      go rest false home = omega (arith, rest)

  -- periods are above 0
  each_same : {X : Type 0} (P : X → Type 0) (n : ℕ) (x : X) → P x → AllByRecursion P (replicate n x)
  each_same P zero x here = tt
  each_same P (suc n) x here = (here, each_same P n x here)

  both_each : {X : Type 0} (P : X → Type 0) (xs ys : List X) → AllByRecursion P xs → AllByRecursion P ys → AllByRecursion P (xs ++ ys)
  both_each P [] ys a b = b
  both_each P (x ∷ xs) ys a b = (a.0, both_each P xs ys a.1 b)

  some_period : (params : DomParams) → DomParamsPass kinds.Rtds params → 0 < (reservation params).1
  some_period (dom_params.Credit2 weight cap) passed = absurd passed
  some_period (dom_params.Rtds period budget extra) passed = (let low = passed.0.least in omega (arith, low))
  some_period dom_params.Arinc653 passed = absurd passed
  some_period dom_params.Null passed = absurd passed

  periods : (i : ℕ) (configs : List DomConfig) → AllByRecursion (λ (c : DomConfig). c.home.0 ≡ i → DomParamsPass kinds.Rtds c.params) configs → AllByRecursion (λ (f : ℕ × ℕ). 0 < f.1) (reservations g i configs)
  periods i [] pass = tt
  periods i (c ∷ configs) pass = go (periods i configs pass.1) (c.home.0 == i) refl
    where
      go : AllByRecursion (λ (f : ℕ × ℕ). 0 < f.1) (reservations g i configs) → (b : Bool) → (c.home.0 == i) ≡ b → AllByRecursion (λ (f : ℕ × ℕ). 0 < f.1) (cond b (replicate (configured_units g c) (reservation c.params)) [] ++ reservations g i configs)
      go rest true home = both_each (λ (f : ℕ × ℕ). 0 < f.1) (replicate (configured_units g c) (reservation c.params)) (reservations g i configs) (each_same (λ (f : ℕ × ℕ). 0 < f.1) (configured_units g c) (reservation c.params) (some_period c.params (pass.0 (is_home c.home.0 i home)))) rest
      go rest false home = rest

module _ (m : Machine) (checked : IsChecked m) (law : NextMomentLaw m) (i : ℕ) (feasible : IsFeasibleRtds m i) where
  g_some : 0 < m.config.granularity
  g_some = some_processor m.config.granularity checked.config.granularity

  pass : AllByRecursion (λ (c : DomConfig). c.home.0 ≡ i → DomParamsPass kinds.Rtds c.params) m.config.domains
  pass =
      AllByRecursion-map (IsCheckedDomain m.config) (λ (c : DomConfig). c.home.0 ≡ i → DomParamsPass kinds.Rtds c.params)
      (λ c good home. subst (λ (k : SchedKind). DomParamsPass k c.params) feasible.kind (good.home_pool feasible.pool (subst (λ (n : ℕ). slice_get m.config.pools n ≡ Some feasible.pool) (sym home) feasible.has.there)).1)
      m.config.domains (recursion_from_All (IsCheckedDomain m.config) m.config.domains checked.config.domains)

  rtds : IsCalmRtds m i
  rtds = record { undisturbed = feasible.undisturbed; r = feasible.r; pool = feasible.pool; has = feasible.has; kind = feasible.kind }

  room : (span : ℕ) → claims m.config.granularity i m.config.domains span ≤ span
  room span =
      let a = claims_fit m.config.granularity g_some i m.config.domains span pass (recursion_from_All (λ (c : DomConfig). c.home.0 ≡ i → NeverSleeps c) m.config.domains feasible.awake) in
      let b = opens (reservations m.config.granularity i m.config.domains) (periods m.config.granularity g_some i m.config.domains pass) feasible.fits span (omega arith) in
      omega (arith, a, b)

  has_room : (u : UnitId) (c : DomConfig) → slice_get m.config.domains u.dom.0 ≡ Some c → may_sleep m.config.granularity c u.n ≡ false → HasRoom m i u
  has_room u c there wakes = record { config = c; there = there; wakes = wakes; room = λ span low. room span }

  -- the domain of a unit of the pool
  home_of : (u : UnitId) → home_pool_of_domain (opening m) u.dom.0 ≡ Some i → IsAtHome m i u.dom.0
  home_of u is =
      let at = found_at i (λ p. is_some (at_place p.domains u.dom.0)) (opening m).pools is in
      let x = some_is (at_place at.0.domains u.dom.0) at.2 in
      let here = configured_opening m checked in
      let c = here.others i at.0 at.1 in
      (pool_as_configured m (opening m) here i at.0 at.1 c.0 c.1).domains.others u.dom.0 x.0 x.1

  never_of : (c : DomConfig) (d : ℕ) → slice_get m.config.domains d ≡ Some c → c.home.0 ≡ i → NeverSleeps c
  never_of c d there home = each_get (λ (e : DomConfig). e.home.0 ≡ i → NeverSleeps e) m.config.domains d c (recursion_from_All (λ (e : DomConfig). e.home.0 ≡ i → NeverSleeps e) m.config.domains feasible.awake) there home

  pub gets_each_budget : (entries : List Entry) → IsRun m entries → (u : UnitId) → home_pool_of_domain (opening m) u.dom.0 ≡ Some i → All (GetsBudget (state_after m entries).now (legs (state_after m entries) u entries)) (terms m u entries)
  gets_each_budget entries run u is =
      let home = home_of u is in
      let c : DomConfig = home.0 in
      elim (cases_Bool (may_sleep m.config.granularity c u.n)) [
        | inr wakes ↦ gets_budget m checked law i rtds u (has_room u c home.1.there wakes) entries run is
        | inl sleeps ↦ none_there c home.1.there home.1.home sleeps
      ]
    where
      -- the unit has no vCPU, and so no record; its domain's first unit has
      none_there : (c : DomConfig) → slice_get m.config.domains u.dom.0 ≡ Some c → c.home.0 ≡ i → may_sleep m.config.granularity c u.n ≡ true → All (GetsBudget (state_after m entries).now (legs (state_after m entries) u entries)) (terms m u entries)
      none_there c there at_home sleeps =
          let g : ℕ = m.config.granularity in
          let never = never_of c u.dom.0 there at_home in
          let good = each_get (IsCheckedDomain m.config) m.config.domains u.dom.0 c (recursion_from_All (IsCheckedDomain m.config) m.config.domains checked.config.domains) there in
          let guests = good.some_guest in
          let p = g_some in
          let one : 1 ≤ configured_units g c = le-div 1 (length c.guests + g - 1) g p (omega (arith, guests)) in
          let w : UnitId = record { dom = u.dom; n = 0 } in
          let has : HasRoom m i w = has_room w c there (awake_unit g p c never 0 one) in
          let none : rtds_in (opening m) u ≡ None = go c there never sleeps has (rtds_in (opening m) u) refl in
          All-from_recursion (GetsBudget (state_after m entries).now (legs (state_after m entries) u entries)) (terms m u entries) (gets_none m checked law i rtds w has entries run u is none)
        where
          go : (c : DomConfig) → slice_get m.config.domains u.dom.0 ≡ Some c → NeverSleeps c → may_sleep m.config.granularity c u.n ≡ true → HasRoom m i (record { dom = u.dom; n = 0 }) → (o : Option RtdsUnit) → rtds_in (opening m) u ≡ o → o ≡ None
          go c there never sleeps has None at = refl
          go c there never sleeps has (Some x) at =
              let low = is_low m checked law i rtds (record { dom = u.dom; n = 0 }) has u is x at c there in
              absurd (clash (may_sleep m.config.granularity c u.n) sleeps (awake_unit m.config.granularity g_some c never u.n low))
