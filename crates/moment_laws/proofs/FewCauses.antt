-- What is to come of a state is at most one for each core, vCPU, unit and domain, and one for what is on its way; so the causes of a moment are few.
use Rattle.std.proofs.Common.{◌≡◌, ◌≤◌, ◌+◌, ◌-◌, ◌/◌, ℕ, suc, true, false, List, [], ◌∷◌, ◌++◌, refl, arith, ap, subst, sym, ◌∙◌, inl, inr, length, cond}
use Rattle.std.specs.Prelude.{Option, Some, None, is_some, slice_get, map}
use Rattle.std.proofs.lemmas.List.{length-append}
use Rattle.std.proofs.lemmas.List.Sums.{sum_by-cons}
use Rattle.std.proofs.lemmas.Bool.{cases_Bool}
use Rattle.sched_base.specs.Numbers.{domain as domain_number, one_if}
use Rattle.sched_base.specs.declared.VcpuId.{VcpuId}
use Rattle.sched_model.specs.declared.config.DomConfig.{DomConfig}
use Rattle.sched_model.specs.declared.event.Entry.{Entry}
use Rattle.sched_model.specs.declared.machine.Machine.{Machine}
use Rattle.sched_model.specs.declared.state.Credit2Domain.{Credit2Domain}
use Rattle.sched_model.specs.declared.state.Domain.{Domain}
use Rattle.sched_model.specs.declared.state.Pool.{Pool}
use Rattle.sched_model.specs.declared.state.Records.{Records}
use Rattle.sched_model.specs.declared.state.Records.TheVariants.{Credit2Pool, RtdsPool}
use Rattle.sched_model.specs.declared.state.Resource.{Resource}
use Rattle.sched_model.specs.declared.state.RtdsUnit.{RtdsUnit}
use Rattle.sched_model.specs.declared.state.State.{State}
use Rattle.sched_model.specs.CheckedMachine.{IsChecked}
use Rattle.sched_model.specs.Places.{at_place, numbers_from}
use Rattle.sched_model.specs.Actions.{vcpus_from, units_from}
use Rattle.sched_model.specs.Pool.{domain_unit_count}
use Rattle.sched_model.specs.Runs.{IsRun, run_start}
use Rattle.sched_laws.specs.StateLaws.{state_after}
use Rattle.sched_laws.specs.Counts.{total, over, total_over}
use Rattle.sched_laws.proofs.Kept.{IsApart}
use Rattle.sched_laws.proofs.Lists.{some_is, test_at-some}
use Rattle.sched_laws.proofs.Opened.{length_map_numbers, units_from-more}
use Rattle.sched_laws.proofs.Reached.{is_apart}
use Rattle.sched_laws.proofs.StillWaits.{split_run}
use Rattle.state_ranges.specs.Ranges.{PoolInRange, RecordsInRange}
use Rattle.state_ranges.proofs.Done.{in_range}
use Rattle.state_ranges.specs.Records.{HasRtdsRecords, IsRecorded}
use Rattle.state_ranges.proofs.RecordsLaw.{has_records}
use Rattle.moment_laws.specs.Stretches.{cores, units}
use Rattle.moment_laws.specs.Turns.{how_many}
use Rattle.moment_laws.proofs.Sums.{many_is, total_at_most, how_many_most}
use Rattle.sched_base.proofs.Bools.{one_if_most}
use Rattle.moment_laws.proofs.OwnDomains.{has_own_rtds, has_own_credit2}
use Rattle.moment_laws.specs.Moments.{vcpus, domains, is_line, causes, lines, are_at, most_causes}
use Rattle.moment_laws.proofs.MomentParts.{causes_are}
use Rattle.moment_laws.proofs.DueEvents.{of_pool, of_core, of_domain, of_credit2, of_rtds, of_records, is_overdue, is_ripe, is_deadline_due, is_refill_due}
use Rattle.moment_laws.proofs.DueInStates.{of_pools}
use Rattle.moment_laws.proofs.DueInMoments.{to_come, moment_lowers}
use Rattle.moment_laws.proofs.NumberedSums.{over_none, over_sum, over_list, total_numbers, total_swapped, total_less, total_most, total_sum, place_some, place_none}
use Rattle.sched_laws.proofs.Counts.{total_over_le}
use Rattle.composition_laws.specs.Moves.{HasOneMove}
use Rattle.composition_laws.proofs.Counted.{in_all_is}
use Rattle.composition_laws.proofs.MoveLaw.{has_one_move}
use Rattle.sched_model.specs.Actions.{configured_units}

-- what is to come of the domain d in the records
abbrev of_record : ℕ → Records → ℕ → ℕ
of_record t (Credit2Pool records) d = over (of_credit2 t) (at_place records.domains d)
of_record t (RtdsPool domains) d = over (of_rtds t) (at_place domains d)
of_record t any d = 0

-- what is to come of the domain d in the pool
abbrev of_dom : ℕ → ℕ → Pool → ℕ
of_dom t d pool = over (of_domain t) (at_place pool.domains d) + of_record t pool.scheduler.records d

-- the core r of the pool
abbrev of_res : ℕ → ℕ → Pool → ℕ
of_res t r pool = over (of_core t) (at_place pool.resources r)

-- a domain of the file: its vCPUs, and itself
abbrev guests_of : DomConfig → ℕ
guests_of config = length config.guests

abbrev itself : DomConfig → ℕ
itself config = 1

abbrev limit : Machine → ℕ → ℕ
limit m d = (over guests_of (slice_get m.config.domains d) + over (configured_units m.config.granularity) (slice_get m.config.domains d)) + over itself (slice_get m.config.domains d)

vcpus_length : (k : ℕ) (config : DomConfig) (configs : List DomConfig) → length (vcpus_from k (config ∷ configs)) ≡ length config.guests + length (vcpus_from (suc k) configs)
vcpus_length k config configs =
    let here : List VcpuId = map (λ n. record { dom = domain_number k; n = n }) (numbers_from 0 (length config.guests)) in
    let a = length-append here (vcpus_from (suc k) configs) in
    let b = length_map_numbers {X = VcpuId} (λ n. record { dom = domain_number k; n = n }) 0 (length config.guests) in
    omega (arith, a, b)

limits : (m : Machine) → total_over (domains m) (limit m) ≡ (vcpus m + units m) + domains m
limits m =
    let n : ℕ = domains m in
    let configs : List DomConfig = m.config.domains in
    let g : ℕ = m.config.granularity in
    let a = over_list guests_of vcpus_from_length (λ k. refl) (λ k x xs. vcpus_length k x xs) 0 configs in
    let b = over_list (configured_units g) (units_from_length g) (λ k. refl) (λ k x xs. units_from-more g k x xs) 0 configs in
    let c = over_list itself (λ k xs. length xs) (λ k. refl) (λ k x xs. grind arith) 0 configs in
    let d = over_sum n (λ d. over guests_of (slice_get configs d)) (λ d. over (configured_units g) (slice_get configs d)) in
    let e = over_sum n (λ d. over guests_of (slice_get configs d) + over (configured_units g) (slice_get configs d)) (λ d. over itself (slice_get configs d)) in
    e ∙ ap (λ k. k + total_over n (λ d. over itself (slice_get configs d))) d ∙ ap (λ k. (k + total_over n (λ d. over (configured_units g) (slice_get configs d))) + total_over n (λ d. over itself (slice_get configs d))) a
    ∙ ap (λ k. (vcpus m + k) + total_over n (λ d. over itself (slice_get configs d))) b ∙ ap (λ k. (vcpus m + units m) + k) c
  where
    vcpus_from_length : ℕ → List DomConfig → ℕ
    vcpus_from_length k xs = length (vcpus_from k xs)

    units_from_length : ℕ → ℕ → List DomConfig → ℕ
    units_from_length g k xs = length (units_from g k xs)

module _ (m : Machine) (checked : IsChecked m) (before : List Entry) (run : IsRun m before) (t : ℕ) where
  abbrev s : State
  s = state_after m before

  apart : IsApart s
  apart = is_apart m checked before run

  -- one pool, by the numbers of its cores and domains
  module _ (i : ℕ) (pool : Pool) (at : at_place s.pools i ≡ Some pool) where
    ranges : PoolInRange m s.now pool
    ranges = (in_range m checked before run).pools i pool at

    cores_numbered : total (of_core t) pool.resources ≡ total_over (cores m) (λ r. of_res t r pool)
    cores_numbered = total_numbers (of_core t) pool.resources ∙ ap (λ n. total_over n (λ r. of_res t r pool)) ranges.core_places

    records_by : (records : Records) → RecordsInRange m s.now records → of_records t records ≡ total_over (domains m) (of_record t records)
    records_by (Credit2Pool rs) range = total_numbers (of_credit2 t) rs.domains ∙ ap (λ n. total_over n (λ d. over (of_credit2 t) (at_place rs.domains d))) range.0
    records_by (RtdsPool xs) range = total_numbers (of_rtds t) xs ∙ ap (λ n. total_over n (λ d. over (of_rtds t) (at_place xs d))) range.0
    records_by records range = sym (over_none (domains m))

    pool_numbered : of_pool t pool ≡ total_over (cores m) (λ r. of_res t r pool) + total_over (domains m) (λ d. of_dom t d pool)
    pool_numbered =
        let a = cores_numbered in
        let b : total (of_domain t) pool.domains ≡ total_over (domains m) (λ d. over (of_domain t) (at_place pool.domains d)) = total_numbers (of_domain t) pool.domains ∙ ap (λ n. total_over n (λ d. over (of_domain t) (at_place pool.domains d))) ranges.domain_places in
        let c = records_by pool.scheduler.records ranges.records in
        let d = over_sum (domains m) (λ d. over (of_domain t) (at_place pool.domains d)) (of_record t pool.scheduler.records) in
        omega (arith, a, b, c, d)

    -- a domain that the pool does not have has no record
    no_record : (records : Records) → pool.scheduler.records ≡ records → (d : ℕ) → is_some (at_place pool.domains d) ≡ false → of_record t records d ≡ 0
    no_record (Credit2Pool rs) is d none = by_place (at_place rs.domains d) refl
      where
        by_place : (o : Option Credit2Domain) → at_place rs.domains d ≡ o → over (of_credit2 t) o ≡ 0
        by_place None at2 = refl
        by_place (Some x) at2 = absurd (let own = has_own_credit2 m checked before run i pool at rs is d x at2 in cc)
    no_record (RtdsPool xs) is d none = by_place (at_place xs d) refl
      where
        by_place : (o : Option (List RtdsUnit)) → at_place xs d ≡ o → over (of_rtds t) o ≡ 0
        by_place None at2 = refl
        by_place (Some x) at2 = absurd (let own = has_own_rtds m checked before run i pool at xs is d x at2 in cc)
    no_record records is d none = refl

    few_records : (records : Records) → pool.scheduler.records ≡ records → (d : ℕ) (x : Domain) → at_place pool.domains d ≡ Some x → of_record t records d ≤ domain_unit_count m.config.granularity x + 1
    few_records (Credit2Pool rs) is d x has = by_place (at_place rs.domains d)
      where
        by_place : (o : Option Credit2Domain) → over (of_credit2 t) o ≤ domain_unit_count m.config.granularity x + 1
        by_place None = omega arith
        by_place (Some y) = (let a = one_if_most (is_refill_due t y.refill) in omega (arith, a))
    few_records (RtdsPool xs) is d x has =
        let recorded : HasRtdsRecords xs d (domain_unit_count m.config.granularity x) = subst (λ (y : Records). IsRecorded y d (domain_unit_count m.config.granularity x)) is ((has_records m checked before run i pool at).recorded d x has) in
        let a = how_many_most (is_deadline_due t) recorded.records in
        let b : over (of_rtds t) (at_place xs d) ≡ of_rtds t recorded.records = ap (over (of_rtds t)) recorded.at in
        let count = recorded.units in
        omega (arith, a, b, count)
    few_records records is d x has = omega arith

    dom_there : (d : ℕ) → 1 ≤ of_dom t d pool → is_some (at_place pool.domains d) ≡ true
    dom_there d some = elim (cases_Bool (is_some (at_place pool.domains d))) [
      | inl is ↦ is
      | inr none ↦ absurd (
          let a = place_none (of_domain t) (at_place pool.domains d) none in
          let b = no_record pool.scheduler.records refl d none in
          omega (arith, some, a, b))
    ]

    dom_few : (d : ℕ) → of_dom t d pool ≤ limit m d
    dom_few d = elim (cases_Bool (is_some (at_place pool.domains d))) [
      | inl is ↦ (
          let x = some_is (at_place pool.domains d) is in
          let range = ranges.domains d x.0 x.1 in
          let a = how_many_most (is_ripe t) x.0.vcpus in
          let here : over (of_domain t) (at_place pool.domains d) ≡ of_domain t x.0 = ap (over (of_domain t)) x.1 in
          let records = few_records pool.scheduler.records refl d x.0 x.1 in
          let count = range.count in
          let same : domain_unit_count m.config.granularity x.0 ≡ configured_units m.config.granularity range.config = ap (λ n. (n + m.config.granularity - 1) / m.config.granularity) count in
          let p = ap (over guests_of) range.at in
          let q = ap (over (configured_units m.config.granularity)) range.at in
          let r = ap (over itself) range.at in
          omega (arith, a, here, records, count, same, p, q, r))
      | inr none ↦ (
          let a = place_none (of_domain t) (at_place pool.domains d) none in
          let b = no_record pool.scheduler.records refl d none in
          omega (arith, a, b))
    ]

  core_once : (r : ℕ) → total (of_res t r) s.pools ≤ 1
  core_once r =
      total_most 1 (of_res t r) s.pools (λ i pool at. by_place (at_place pool.resources r))
      (λ i j x y at_i at_j p q. apart.cores i j r (test_at-some s.pools i (λ pool. is_some (at_place pool.resources r)) x at_i (place_some (of_core t) (at_place x.resources r) p))
      (test_at-some s.pools j (λ pool. is_some (at_place pool.resources r)) y at_j (place_some (of_core t) (at_place y.resources r) q)))
    where
      by_place : (o : Option Resource) → over (of_core t) o ≤ 1
      by_place None = omega arith
      by_place (Some c) = one_if_most (is_overdue t c)

  domain_once : (d : ℕ) → total (of_dom t d) s.pools ≤ limit m d
  domain_once d =
      total_most (limit m d) (of_dom t d) s.pools (λ i pool at. dom_few i pool at d)
      (λ i j x y at_i at_j p q. apart.domains i j d (test_at-some s.pools i (λ pool. is_some (at_place pool.domains d)) x at_i (dom_there i x at_i d p))
      (test_at-some s.pools j (λ pool. is_some (at_place pool.domains d)) y at_j (dom_there j y at_j d q)))

  pools_few : of_pools t s ≤ cores m + ((vcpus m + units m) + domains m)
  pools_few =
      let by_numbers : Pool → ℕ = λ pool. total_over (cores m) (λ r. of_res t r pool) + total_over (domains m) (λ d. of_dom t d pool) in
      let a = total_less (of_pool t) by_numbers s.pools (λ i pool at. (let e = pool_numbered i pool at in omega (arith, e))) in
      let b = total_sum (λ pool. total_over (cores m) (λ r. of_res t r pool)) (λ pool. total_over (domains m) (λ d. of_dom t d pool)) s.pools in
      let c = total_swapped (cores m) (λ pool r. of_res t r pool) s.pools in
      let d = total_swapped (domains m) (λ pool d. of_dom t d pool) s.pools in
      let e = total_at_most (cores m) 1 (λ r. total (of_res t r) s.pools) (λ r low. core_once r) in
      let f = many_is (cores m) 1 in
      let h = total_over_le (domains m) (λ d. total (of_dom t d) s.pools) (limit m) (λ d low. domain_once d) in
      let k = limits m in
      omega (arith, a, b, c, d, e, f, h, k)

  pub few_to_come : to_come t s ≤ (cores m + ((vcpus m + units m) + domains m)) + 1
  few_to_come =
      let a = pools_few in
      let one : HasOneMove m s = has_one_move m checked before run in
      let b = one.most in
      let c = in_all_is s in
      omega (arith, a, b, c)

lines_are : (entries : List Entry) → lines entries ≡ how_many (λ (e : Entry). is_line e.event) entries
lines_are [] = refl
lines_are (e ∷ entries) = sum_by-cons (λ (x : Entry). cond (is_line x.event) 1 0) e entries ∙ ap (λ k. one_if (is_line e.event) + k) (lines_are entries)

pub causes_few : (m : Machine) → IsChecked m → (before moment : List Entry) (t : ℕ) → IsRun m (before ++ moment) → are_at t moment ≡ true → causes moment ≤ most_causes m (lines moment)
causes_few m checked before moment t run at =
    let a = moment_lowers m checked t moment before run at in
    let b = few_to_come m checked before (split_run m (run_start m) before moment run).0 t in
    let c = causes_are moment in
    let d = lines_are moment in
    omega (arith, a, b, c, d)
