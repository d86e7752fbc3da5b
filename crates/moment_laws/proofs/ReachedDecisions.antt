-- In the states of runs the decisions of stretches are good ones, and what is left to the machine is bounded: from what the laws of states say, and three
-- facts of the cores' own units.
use Rattle.sched_base.specs.Numbers.{core as core_number}
use Rattle.std.proofs.Common.{◌≡◌, ◌≤◌, ◌<◌, ◌+◌, ◌-◌, ◌*◌, ◌/◌, ℕ, suc, Bool, true, false, List, [], ◌∷◌, refl, arith, ap, cond, subst, sym, ◌∙◌, length, inl, inr}
use Rattle.std.specs.Prelude.{Option, Some, None, is_some, slice_get, unwrap_or, nat_lt, int_lt, pos, ◌==◌}
use Rattle.sched_base.specs.RtdsNumbers.{burned_left, burned_level}
use Rattle.sched_base.specs.Credit2Numbers.{budget_quota, cap_budget}
use Rattle.sched_model.specs.Opening.{machine_core_count}
use Rattle.state_ranges.specs.Fits.{UnitFits}
use Rattle.state_ranges.proofs.RecordRanges.{RecordsFit}
use Rattle.state_ranges.proofs.RangesLaw.{fits_in_runs}
use Rattle.std.proofs.lemmas.List.Elements.{recursion_from_All}
use Rattle.std.proofs.lemmas.Option.{slice_get_cases}
use Rattle.std.proofs.lemmas.Nat.{le-div}
use Rattle.sched_base.specs.declared.UnitId.{UnitId}
use Rattle.sched_base.specs.declared.Cores.{Cores}
use Rattle.sched_model.specs.declared.event.Event.{Event}
use Rattle.sched_model.specs.declared.event.Event.TheVariants as event
use Rattle.sched_model.specs.declared.event.Entry.{Entry}
use Rattle.sched_model.specs.declared.action.Action.TheVariants.{Decide}
use Rattle.sched_model.specs.declared.machine.Machine.{Machine}
use Rattle.sched_model.specs.declared.state.State.{State}
use Rattle.sched_model.specs.declared.state.Pool.{Pool}
use Rattle.sched_model.specs.declared.state.Domain.{Domain}
use Rattle.sched_model.specs.declared.state.Resource.{Resource}
use Rattle.sched_model.specs.declared.state.Records.{Records}
use Rattle.sched_model.specs.declared.state.Records.TheVariants.{Credit2Pool, RtdsPool, ArincPool, NullPool}
use Rattle.sched_model.specs.declared.state.RtdsUnit.{RtdsUnit}
use Rattle.sched_model.specs.declared.state.ArincRecords.{ArincRecords}
use Rattle.sched_model.specs.declared.config.DomConfig.{DomConfig}
use Rattle.std.specs.Option.{IfSome}
use Rattle.std.proofs.lemmas.Bool.{false_from_ne_true, eqb-true}
use Rattle.sched_model.specs.declared.state.Credit2Records.{Credit2Records}
use Rattle.sched_model.specs.declared.state.Credit2Domain.{Credit2Domain}
use Rattle.sched_model.specs.declared.state.Credit2Unit.{Credit2Unit}
use Rattle.sched_model.specs.Places.{at_place, has_listed_unit, same_unit, test_at}
use Rattle.sched_model.specs.Opening.{absent_pool}
use Rattle.sched_model.specs.EligibleUnits.{Decision, is_unit_allowed, rtds_unit_at}
use Rattle.sched_model.specs.Rtds.{unit_burned_to}
use Rattle.sched_model.specs.Policy.{decision_of}
use Rattle.sched_model.specs.Pool.{pool_core_set, core_ask, decision_at, domain_unit_count}
use Rattle.sched_model.specs.Actions.{home_pool_of_core, units_from}
use Rattle.sched_model.specs.Machine.{event_of, home_pool}
use Rattle.sched_model.specs.Runs.{IsRun, IsNextEvent, event_action, run_start}
use Rattle.sched_model.specs.CheckedMachine.{IsChecked}
use Rattle.sched_laws.specs.StateLaws.{state_after}
use Rattle.sched_base.proofs.Bools.{and_left, and_right}
use Rattle.sched_base.proofs.Lists.{each_get}
use Rattle.sched_laws.proofs.Choices.{at_unit}
use Rattle.sched_laws.proofs.Counts.{times_some, total_at, total_two, same_unit_refl}
use Rattle.sched_laws.specs.Counts.{total, times, one_at}
use Rattle.sched_laws.proofs.Lists.{some-test_at, some_is, is_some_at, test_at-some}
use Rattle.sched_laws.proofs.NullKept.{KeptFits, kept_of}
use Rattle.sched_laws.proofs.OwnUnits.{there_if_staying}
use Rattle.sched_laws.specs.PoolFacts.{IsStaying}
use Rattle.sched_laws.specs.PoolFacts.{OnePlace, core_places}
use Rattle.sched_laws.proofs.Reached.{one_place, null_fits, units_are_own, core_is_whole, is_apart}
use Rattle.sched_laws.proofs.SiblingsLaw.{some_processor}
use Rattle.sched_laws.proofs.StillWaits.{core_home, split_run}
use Rattle.state_ranges.specs.Ranges.{IsUnitOf, PoolInRange}
use Rattle.state_ranges.proofs.Done.{in_range}
use Rattle.state_ranges.proofs.Queue.{unit_is_there}
use Rattle.state_ranges.specs.Records.{HasCredit2Record, HasRtdsRecords, IsRecorded}
use Rattle.state_ranges.proofs.RecordsLaw.{has_records}
use Rattle.moment_laws.specs.Stretches.{Legs, units, open_legs, is_in_stretch, has_no_older_leg}
use Rattle.moment_laws.specs.Turns.{how_many, ahead, IsBounded}
use Rattle.moment_laws.specs.GoodDecisions.{DecidesWell, decision, Standing, DecidesWellNext}
use Rattle.moment_laws.specs.Credit2Turns.{Face, faces, unit_total, HasUnit, IsFresh}
use Rattle.moment_laws.proofs.Credit2Faces.{above_most, credit_at}
use Rattle.moment_laws.proofs.Credit2Decision.{credit2_well}
use Rattle.moment_laws.proofs.OwnDomains.{has_own_rtds, has_own_credit2}
use Rattle.moment_laws.proofs.RtdsKeys.{Key, key, keys, key_at, before_most}
use Rattle.moment_laws.proofs.AllowedAlone.{allowed_alone}
use Rattle.moment_laws.proofs.RecordCounts.{counted_units, read_keys, read_faces}
use Rattle.moment_laws.proofs.ArincDecision.{arinc_well}
use Rattle.moment_laws.proofs.NullDecision.{null_well}
use Rattle.moment_laws.proofs.RtdsDecision.{rtds_well}
use Rattle.moment_laws.proofs.RtdsKeys as rtds_keys
use Rattle.moment_laws.proofs.Credit2Faces as credit2_faces

-- a pool of the state that the entries lead to
pub record PoolOf (m : Machine) (before : List Entry) (pool : Pool) : Type 0 where
  pub run : IsRun m before
  pub i : ℕ
  pub at : at_place (state_after m before).pools i ≡ Some pool

-- what more is needed of the states of runs
pub record StretchFacts (m : Machine) : Type 0 where
  -- an ARINC 653 pool has one core at most
  pub one_core : (before : List Entry) (pool : Pool) → PoolOf m before pool → (arinc : ArincRecords) → pool.scheduler.records ≡ ArincPool arinc → (q r : ℕ) (x c : Resource) → at_place pool.resources q ≡ Some x → at_place pool.resources r ≡ Some c → q ≡ r
  -- a core without a leg of an earlier moment: its own unit was charged at this moment, and has some budget left, or holds what it took at this moment
  pub rtds_left : (before : List Entry) (pool : Pool) → PoolOf m before pool → (xs : List (Option (List RtdsUnit))) → pool.scheduler.records ≡ RtdsPool xs → (r : ℕ) (c : Resource) → at_place pool.resources r ≡ Some c → has_no_older_leg (state_after m before).now (open_legs m before) r ≡ true
      → (u : UnitId) (x : RtdsUnit) → c.cur ≡ Some u → rtds_unit_at xs u ≡ Some x → (x.burned ≡ Some (state_after m before).now) × (0 < x.left)
  pub credit2_holds : (before : List Entry) (pool : Pool) → PoolOf m before pool → (rs : Credit2Records) → pool.scheduler.records ≡ Credit2Pool rs → (r : ℕ) (c : Resource) → at_place pool.resources r ≡ Some c → has_no_older_leg (state_after m before).now (open_legs m before) r ≡ true
      → (u : UnitId) (d : Credit2Domain) (x : Credit2Unit) → c.cur ≡ Some u → at_place rs.domains u.dom.0 ≡ Some d → slice_get d.units u.n ≡ Some x
      → (x.burned ≡ Some (state_after m before).now) × (int_lt x.held (pos 0) ≡ false) × (int_lt (pos (budget_quota (cap_budget d.cap) (length d.units))) x.held ≡ false)

-- a unit with some budget left that is charged for no span keeps its key
left_kept : (t left budget : ℕ) (extra : Bool) → 0 < left → burned_left left budget extra (t - t) ≡ left
left_kept t left budget extra low = (let e : t - t ≡ 0 = omega arith in let a : nat_lt 0 left ≡ true = grind arith in ap (burned_left left budget extra) e ∙ ap (λ b. cond b (left - 0) (cond extra budget 0)) a ∙ omega arith)

level_kept : (t level left : ℕ) (extra : Bool) → 0 < left → burned_level level left extra (t - t) ≡ level
level_kept t level left extra low = (let e : t - t ≡ 0 = omega arith in let a : nat_lt 0 left ≡ true = grind arith in ap (burned_level level left extra) e ∙ ap (λ b. cond b level (cond extra (level + 1) level)) a)

key_kept : (t : ℕ) (x : RtdsUnit) → x.burned ≡ Some t → 0 < x.left → key (unit_burned_to t x) ≡ key x
key_kept t x now left =
    ap (λ (o : Option ℕ). key (elim o as (λ _. RtdsUnit) [ None ↦ x | Some from ↦ record x { left = burned_left x.left x.budget x.extra (t - from); level = burned_level x.level x.left x.extra (t - from); burned = Some t } ])) now
    ∙ ap (λ (n : ℕ). (burned_level x.level x.left x.extra (t - t), x.deadline, n)) (left_kept t x.left x.budget x.extra left) ∙ ap (λ (n : ℕ). (n, x.deadline, x.left)) (level_kept t x.level x.left x.extra left)

-- what a decision needs, whatever its scheduler
record DecisionFacts (m : Machine) (t : ℕ) (pool : Pool) (r : ℕ) (c : Resource) : Type 0 where
  standing : Standing m pool r c
  allowed : (arinc : ArincRecords) → pool.scheduler.records ≡ ArincPool arinc → (u : UnitId) → is_unit_allowed pool.scheduler (pool_core_set pool) r u ≡ true
  kept : (kept : List (Option UnitId)) → pool.scheduler.records ≡ NullPool kept → KeptFits kept pool.resources
  rtds_count : (xs : List (Option (List RtdsUnit))) → pool.scheduler.records ≡ RtdsPool xs → total (λ (ks : List Key). how_many (λ k. true) ks) (keys xs) ≤ units m
  rtds_still : (xs : List (Option (List RtdsUnit))) → pool.scheduler.records ≡ RtdsPool xs → (u : UnitId) (x : RtdsUnit) → c.cur ≡ Some u → rtds_unit_at xs u ≡ Some x → key (unit_burned_to t x) ≡ key x
  credit2_count : (rs : Credit2Records) → pool.scheduler.records ≡ Credit2Pool rs → unit_total (faces rs.domains) ≤ units m
  credit2_fresh : (rs : Credit2Records) → pool.scheduler.records ≡ Credit2Pool rs → (u : UnitId) (d : Credit2Domain) (x : Credit2Unit) → c.cur ≡ Some u → at_place rs.domains u.dom.0 ≡ Some d → slice_get d.units u.n ≡ Some x → IsFresh t d x
  has_cur : (rs : Credit2Records) → pool.scheduler.records ≡ Credit2Pool rs → (k : ℕ) (x : Resource) (u : UnitId) → at_place pool.resources k ≡ Some x → x.cur ≡ Some u → HasUnit rs u
  has_waiting : (rs : Credit2Records) → pool.scheduler.records ≡ Credit2Pool rs → (u : UnitId) → has_listed_unit pool.scheduler.queue u ≡ true → HasUnit rs u
  no_reset : (decision m t pool r c).reset ≡ 0

decides_by : (m : Machine) (t : ℕ) (queue : List UnitId) (affinity : List (Option (List Cores))) (records : Records) (domains : List (Option Domain)) (resources : List (Option Resource)) (r : ℕ) (c : Resource)
    → DecisionFacts m t (record { scheduler = record { queue = queue; affinity = affinity; records = records }; domains = domains; resources = resources }) r c
    → DecidesWell m t (record { scheduler = record { queue = queue; affinity = affinity; records = records }; domains = domains; resources = resources }) r c
decides_by m t queue affinity (Credit2Pool rs) domains resources r c facts =
    credit2_well m t queue affinity rs domains resources r c facts.standing (record {
      fresh = facts.credit2_fresh rs refl;
      own_has = λ u cur. facts.has_cur rs refl r c u facts.standing.at cur;
      waiting_has = λ u waits. facts.has_waiting rs refl u waits;
      other_has = λ k x u other at cur. facts.has_cur rs refl k x u at cur;
      count = facts.credit2_count rs refl;
      no_reset = facts.no_reset;
    })
decides_by m t queue affinity (RtdsPool xs) domains resources r c facts = rtds_well m t queue affinity xs domains resources r c facts.standing (facts.rtds_still xs refl) (facts.rtds_count xs refl)
decides_by m t queue affinity (ArincPool arinc) domains resources r c facts = arinc_well m t queue affinity arinc domains resources r c facts.standing (facts.allowed arinc refl)
decides_by m t queue affinity (NullPool kept) domains resources r c facts = null_well m t queue affinity kept domains resources r c facts.standing (facts.kept kept refl)

times_most : (u : UnitId) (xs : List UnitId) → times u xs ≤ length xs
times_most u [] = grind arith
times_most u (x ∷ xs) = (let r = times_most u xs in let o = one_low (same_unit u x) in grind (arith, r, o))
  where
    one_low : (b : Bool) → cond b 1 0 ≤ 1
    one_low true = omega arith
    one_low false = omega arith

one_own : (u : UnitId) (o : Option UnitId) → o ≡ Some u → one_at u o ≡ 1
one_own u o is = ap (one_at u) is ∙ ap (λ b. cond b 1 0) (same_unit_refl u)

module _ (m : Machine) (checked : IsChecked m) (before : List Entry) (pool : Pool) (of : PoolOf m before pool) where
  abbrev s : State
  s = state_after m before

  abbrev g : ℕ
  g = m.config.granularity

  some : 0 < g
  some = some_processor m.config.granularity checked.config.granularity

  ranges : PoolInRange m s.now pool
  ranges = (in_range m checked before of.run).pools of.i pool of.at

  one : OnePlace g pool
  one = one_place m checked before of.run of.i pool of.at

  counted : (u : UnitId) → IsUnitOf m u → 1 ≤ units m
  counted u is = (let a = unit_is_there m some u is in let b = times_most u (units_from m.config.granularity 0 m.config.domains) in omega (arith, a, b))

  pub cur_unit : (k : ℕ) (x : Resource) (u : UnitId) → at_place pool.resources k ≡ Some x → x.cur ≡ Some u → IsUnitOf m u
  cur_unit k x u at cur = subst (λ (o : Option UnitId). IfSome o (IsUnitOf m)) cur (ranges.cores k x at).cur

  pub waiting_unit : (u : UnitId) → has_listed_unit pool.scheduler.queue u ≡ true → IsUnitOf m u
  waiting_unit u waits = at_unit (IsUnitOf m) u pool.scheduler.queue waits (recursion_from_All (IsUnitOf m) pool.scheduler.queue ranges.queue)

  -- a unit on a core waits nowhere
  on_core : (k : ℕ) (x : Resource) (u : UnitId) → at_place pool.resources k ≡ Some x → x.cur ≡ Some u → has_listed_unit pool.scheduler.queue u ≡ false
  on_core k x u at cur = false_from_ne_true _ (λ waits. (
      let a = times_some u pool.scheduler.queue waits in
      let b = total_at (core_places u) k x pool.resources at in
      let d = one_own u x.cur cur in
      let most = one.most u in
      omega (arith, a, b, d, most)))

  pub stands : (r : ℕ) (c : Resource) → at_place pool.resources r ≡ Some c → Standing m pool r c
  stands r c at = record {
    at = at;
    waits = one.waits;
    own = λ u cur. (on_core r c u at cur, counted u (cur_unit r c u at cur));
    others = λ k x u other at_k cur. (
      on_core k x u at_k cur,
      λ own. (
          let a = total_two (core_places u) k r x c pool.resources other at_k at in
          let d = one_own u x.cur cur in
          let e = one_own u c.cur own in
          let most = one.most u in
          omega (arith, a, d, e, most)),
    );
    counted = λ u waits. counted u (waiting_unit u waits);
  }

  -- a unit of a domain of the pool has a record
  pub has_record : (rs : Credit2Records) → pool.scheduler.records ≡ Credit2Pool rs → (u : UnitId) → IsUnitOf m u → test_at pool.domains u.dom.0 (λ d. true) ≡ true → HasUnit rs u
  has_record rs is u unit there =
      let d = some-test_at pool.domains u.dom.0 (λ d. true) there in
      let recorded = (has_records m checked before of.run of.i pool of.at).recorded u.dom.0 d.0 d.1 in
      let has : HasCredit2Record rs u.dom.0 (domain_unit_count g d.0) = subst (λ (y : Records). IsRecorded y u.dom.0 (domain_unit_count g d.0)) is recorded in
      let range = ranges.domains u.dom.0 d.0 d.1 in
      let same : range.config ≡ unit.config = (let a = range.at in let b = unit.at in cc) in
      let guests : length range.config.guests ≡ length unit.config.guests = ap (λ (x : DomConfig). length x.guests) same in
      let count = range.count in
      let within = unit.inside in
      let spread : suc u.n * g ≡ u.n * g + g = grind arith in
      let low : suc u.n ≤ domain_unit_count g d.0 = le-div (suc u.n) (length d.0.vcpus + g - 1) g some (omega (arith, within, spread, guests, count)) in
      let size = has.units in
      elim (slice_get_cases has.domain.units u.n).1 [
        | inl x ↦ record { domain = has.domain; at = has.at; record_of = x.0; get = x.2 }
        | inr past ↦ absurd (let p = past.0 in omega (arith, p, low, size))
      ]

  pub cur_there : (k : ℕ) (x : Resource) (u : UnitId) → at_place pool.resources k ≡ Some x → x.cur ≡ Some u → test_at pool.domains u.dom.0 (λ d. true) ≡ true
  cur_there k x u at cur = subst (λ (o : Option UnitId). IfSome o (λ w. test_at pool.domains w.dom.0 (λ d. true) ≡ true)) cur ((units_are_own m checked before of.run of.i pool of.at).cores k x at).cur

  pub waiting_there : (u : UnitId) → has_listed_unit pool.scheduler.queue u ≡ true → test_at pool.domains u.dom.0 (λ d. true) ≡ true
  waiting_there u waits = there_if_staying pool.domains u (at_unit (IsStaying pool.domains) u pool.scheduler.queue waits (units_are_own m checked before of.run of.i pool of.at).queue)

  -- the pool's domain has as many units as that of the file
  units_of_file : (d : ℕ) (domain : Domain) → at_place pool.domains d ≡ Some domain → (config : DomConfig) × (slice_get m.config.domains d ≡ Some config) × (domain_unit_count g domain ≡ (length config.guests + g - 1) / g)
  units_of_file d domain at = (let range = ranges.domains d domain at in (range.config, range.at, ap (λ n. (n + g - 1) / g) range.count))

  -- what is left of each charge is below the weight
  residual_low : (rs : Credit2Records) → pool.scheduler.records ≡ Credit2Pool rs → (d n : ℕ) (x : Credit2Domain) (y : Credit2Unit) → at_place rs.domains d ≡ Some x → slice_get x.units n ≡ Some y → y.residual < x.weight
  residual_low rs is d n x y at get =
      let fits : RecordsFit (length m.config.domains) (machine_core_count m.config) s.now (Credit2Pool rs) = subst (RecordsFit (length m.config.domains) (machine_core_count m.config) s.now) is ((fits_in_runs m checked before of.run).pools of.i pool of.at).fits.records in
      (each_get (UnitFits s.now x.weight) x.units n y (fits.domains d x at).units get).residual

  domain_of : (d : ℕ) → is_some (at_place pool.domains d) ≡ true → (domain : Domain) × (at_place pool.domains d ≡ Some domain)
  domain_of d there = some_is (at_place pool.domains d) there

  rtds_count : (xs : List (Option (List RtdsUnit))) → pool.scheduler.records ≡ RtdsPool xs → total (λ (ks : List Key). how_many (λ k. true) ks) (keys xs) ≤ units m
  rtds_count xs is = counted_units g 0 (λ (ks : List Key). how_many (λ k. true) ks) m.config.domains (keys xs) (λ d ks at. (
      let read = read_keys xs d ks at in
      let own = domain_of d (has_own_rtds m checked before of.run of.i pool of.at xs is d read.0 read.1) in
      let recorded : HasRtdsRecords xs d (domain_unit_count g own.0) = subst (λ (y : Records). IsRecorded y d (domain_unit_count g own.0)) is ((has_records m checked before of.run of.i pool of.at).recorded d own.0 own.1) in
      let same : recorded.records ≡ read.0 = (let a = recorded.at in let b = read.1 in cc) in
      let size : length recorded.records ≡ length read.0 = ap length same in
      let count = recorded.units in
      let file = units_of_file d own.0 own.1 in
      let few = read.2 in
      let most = file.2 in
      (file.0, file.1, omega (arith, few, size, count, most))))

  credit2_count : (rs : Credit2Records) → pool.scheduler.records ≡ Credit2Pool rs → unit_total (faces rs.domains) ≤ units m
  credit2_count rs is = counted_units g 0 (λ (f : Face). how_many (λ c. true) f.2) m.config.domains (faces rs.domains) (λ d f at. (
      let read = read_faces rs.domains d f at in
      let own = domain_of d (has_own_credit2 m checked before of.run of.i pool of.at rs is d read.0 read.1) in
      let recorded : HasCredit2Record rs d (domain_unit_count g own.0) = subst (λ (y : Records). IsRecorded y d (domain_unit_count g own.0)) is ((has_records m checked before of.run of.i pool of.at).recorded d own.0 own.1) in
      let same : recorded.domain ≡ read.0 = (let a = recorded.at in let b = read.1 in cc) in
      let size : length recorded.domain.units ≡ length read.0.units = ap (λ (x : Credit2Domain). length x.units) same in
      let count = recorded.units in
      let file = units_of_file d own.0 own.1 in
      let few = read.2 in
      let most = file.2 in
      (file.0, file.1, omega (arith, few, size, count, most))))

  few_by : (R : Records) → pool.scheduler.records ≡ R → (u : UnitId) → ahead R u ≤ units m
  few_by (Credit2Pool rs) is u = (let a = credit2_faces.ahead_is rs u in let b = above_most (credit_at (faces rs.domains) u) (faces rs.domains) in let d = credit2_count rs is in omega (arith, a, b, d))
  few_by (RtdsPool xs) is u = (let a = rtds_keys.ahead_is xs u in let b = before_most (key_at (keys xs) u) (keys xs) in let d = rtds_count xs is in omega (arith, a, b, d))
  few_by records is u = omega arith

  pub bounded : IsBounded m pool
  bounded = record { few = few_by pool.scheduler.records refl; whole = λ r c at. core_is_whole m checked before of.run of.i pool of.at r c at }

  module _ (facts : StretchFacts m) where
    decision_facts : (r : ℕ) (c : Resource) → at_place pool.resources r ≡ Some c → has_no_older_leg s.now (open_legs m before) r ≡ true → (decision m s.now pool r c).reset ≡ 0 → DecisionFacts m s.now pool r c
    decision_facts r c at legs reset = record {
      standing = stands r c at;
      allowed = λ arinc is. allowed_alone pool.scheduler pool.resources r c at (λ q x at_q. facts.one_core before pool of arinc is q r x c at_q at);
      kept = λ kept is. null_fits m checked before of.run of.i pool of.at kept (ap kept_of is);
      rtds_count = rtds_count;
      rtds_still = λ xs is u x cur has. (let p = facts.rtds_left before pool of xs is r c at legs u x cur has in key_kept s.now x p.0 p.1);
      credit2_count = credit2_count;
      credit2_fresh = λ rs is u d x cur at_d get. (let p = facts.credit2_holds before pool of rs is r c at legs u d x cur at_d get in record { burned = p.0; residual = residual_low rs is u.dom.0 u.n d x at_d get; held = p.1; most = p.2 });
      has_cur = λ rs is k x u at_k cur. has_record rs is u (cur_unit k x u at_k cur) (cur_there k x u at_k cur);
      has_waiting = λ rs is u waits. has_record rs is u (waiting_unit u waits) (waiting_there u waits);
      no_reset = reset;
    }

    pub decides_well : (r : ℕ) (c : Resource) → at_place pool.resources r ≡ Some c → has_no_older_leg s.now (open_legs m before) r ≡ true → (decision m s.now pool r c).reset ≡ 0 → DecidesWell m s.now pool r c
    decides_well r c at legs reset = decides_by m s.now pool.scheduler.queue pool.scheduler.affinity pool.scheduler.records pool.domains pool.resources r c (decision_facts r c at legs reset)

-- the resets that a decision prints
abbrev pub reset_of : Event → ℕ
reset_of (event.Decide core unit due late reset) = reset
reset_of _ = 0

-- what the event of a decision in a stretch says
decide_event : (t : ℕ) (legs : Legs) (r : ℕ) (e : Event) → is_in_stretch t legs e ≡ true → event_action e ≡ Some (Decide (core_number r)) → (has_no_older_leg t legs r ≡ true) × (reset_of e ≡ 0)
decide_event t legs r (event.Decide core unit due late reset) on is =
    let same : core.0 ≡ r = (let e : Decide (core_number core.0) ≡ Decide (core_number r) = cc in cc) in
    (subst (λ k. has_no_older_leg t legs k ≡ true) same (and_right (reset == 0) _ on), eqb-true reset 0 (and_left (reset == 0) _ on))
decide_event t legs r e on is = absurd (cc)

-- the resets that a decision prints are those that it makes
pub printed_reset : (m : Machine) (s : State) (e : Event) (i : ℕ) (pool : Pool) (r : ℕ) (c : Resource) → e ≡ event_of m s s.now (Decide (core_number r)) → home_pool_of_core s r ≡ Some i → at_place s.pools i ≡ Some pool → at_place pool.resources r ≡ Some c → reset_of e ≡ (decision m s.now pool r c).reset
printed_reset m s e i pool r c is home at has =
    let home_is : home_pool m s (Decide (core_number r)) ≡ pool = ap (λ (o : Option ℕ). elim o as (λ _. Pool) [ None ↦ absent_pool m.config | Some j ↦ unwrap_or (at_place s.pools j) (absent_pool m.config) ]) home ∙ ap (λ (o : Option Pool). unwrap_or o (absent_pool m.config)) at in
    let asks : decision_at m.config.granularity s.now pool r ≡ decision m s.now pool r c =
    ap (λ (o : Option Resource). elim o as (λ _. Decision) [ None ↦ record { unit = None; due = None; reset = 0; records = pool.scheduler.records } | Some x ↦ decision_of (core_ask m.config.granularity s.now pool r x) pool.scheduler ]) has in
    ap reset_of is ∙ ap (λ (p : Pool). (decision_at m.config.granularity s.now p r).reset) home_is ∙ ap (λ (d : Decision). d.reset) asks

pub decides_well_next : (m : Machine) → IsChecked m → StretchFacts m → DecidesWellNext m
decides_well_next m checked facts before e run goes_on i r pool c is at has =
    let s : State = state_after m before in
    let parts = split_run m (run_start m) before (e ∷ []) run in
    let of : PoolOf m before pool = record { run = parts.0; i = i; at = at } in
    let next = parts.1.0 in
    let said = decide_event e.at.0 (open_legs m before) r e.event goes_on is in
    let now : e.at.0 ≡ s.now = next.moment in
    let there : is_some (at_place pool.resources r) ≡ true = is_some_at (at_place pool.resources r) c has in
    let home : home_pool_of_core s r ≡ Some i = core_home s i r (is_apart m checked before parts.0) (test_at-some s.pools i (λ x. is_some (at_place x.resources r)) pool at there) in
    let event_is : IsNextEvent m s e.event (Some (Decide (core_number r))) = subst (IsNextEvent m s e.event) is next.event in
    let reset = sym (printed_reset m s e.event i pool r c event_is.1 home at has) ∙ said.1 in
    decides_well m checked before pool of facts r c has (subst (λ t. has_no_older_leg t (open_legs m before) r ≡ true) now said.0) reset
