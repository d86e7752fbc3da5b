-- What may come in a state of a run is a candidate.
use Rattle.std.proofs.lemmas.Option.{slice_get_within}
use Rattle.sched_base.specs.Numbers.{core, domain, processor}
use Rattle.std.proofs.Common.{◌≡◌, ◌<◌, ◌+◌, ◌-◌, ◌*◌, ◌/◌, ℕ, zero, suc, Bool, true, false, List, [], ◌∷◌, ◌++◌, refl, subst, arith, length, inl, inr}
use Rattle.std.specs.Prelude.{Some, Contains, map, slice_get}
use Rattle.std.proofs.lemmas.List.Elements.{recursion_from_All}
use Rattle.std.proofs.lemmas.Bool.{or_cases}
use Rattle.sched_base.specs.declared.UnitId.{UnitId}
use Rattle.sched_base.specs.declared.VcpuId.{VcpuId}
use Rattle.sched_model.specs.declared.action.Action.{Action}
use Rattle.sched_model.specs.declared.action.Action.TheVariants.{Stall, Xl, Moved, DomMoved, Wake, Block, Slice, Repl, Refill, Arrive, Decide, Leave, Save}
use Rattle.sched_model.specs.declared.config.Config.{Config}
use Rattle.sched_model.specs.declared.config.DomConfig.{DomConfig}
use Rattle.sched_model.specs.declared.event.Entry.{Entry}
use Rattle.sched_model.specs.declared.machine.Machine.{Machine}
use Rattle.sched_model.specs.declared.state.Domain.{Domain}
use Rattle.sched_model.specs.declared.state.Resource.{Resource}
use Rattle.sched_model.specs.declared.state.Records.{Records}
use Rattle.sched_model.specs.declared.state.Records.TheVariants.{Credit2Pool}
use Rattle.sched_model.specs.declared.state.Pool.{Pool}
use Rattle.sched_model.specs.declared.state.State.{State}
use Rattle.sched_model.specs.Places.{at_place, numbers_from, test_at}
use Rattle.sched_model.specs.Opening.{machine_core_count}
use Rattle.sched_model.specs.Pool.{enabled_in}
use Rattle.sched_model.specs.Actions.{candidates, home_pool_of_action, vcpus_from, units_from}
use Rattle.sched_model.specs.CheckedMachine.{IsChecked}
use Rattle.sched_model.specs.Machine.{is_action_enabled, enabled_at_home, is_free_core_ready}
use Rattle.sched_model.specs.Runs.{IsRun}
use Rattle.sched_laws.specs.StateLaws.{state_after}
use Rattle.sched_laws.proofs.Choices.{at_unit}
use Rattle.sched_laws.specs.PoolFacts.{IfUnit}
use Rattle.sched_laws.proofs.EachPlace.{by_option, place_below}
use Rattle.sched_laws.proofs.Lists.{some-test_at}
use Rattle.state_ranges.specs.Ranges.{IsUnitOf, PoolInRange, RecordsInRange, StateInRange}
use Rattle.state_ranges.proofs.Done.{in_range}
use Rattle.composition_laws.proofs.Members.{Has, Has-left, Has-right, Has-map, Has-numbers, Contains-from_has}
use Rattle.composition_laws.proofs.Stretches.{vcpu_at, unit_at}
use Rattle.composition_laws.proofs.Subjects.{HasRecord, HasSubject, has_subject}
use Rattle.sched_laws.proofs.Granularity.{by_granularity}

-- the vCPUs and the units of the domains of a file
Has-vcpus : (k d : ℕ) (domains : List DomConfig) (x : DomConfig) (v : VcpuId) → slice_get domains k ≡ Some x → v.dom.0 ≡ d + k → v.n < length x.guests → Has v (vcpus_from d domains)
Has-vcpus k d [] x v at here low = absurd (cc)
Has-vcpus zero d (y ∷ domains) x v at here low =
    let is : vcpu_at d v.n ≡ v = grind (arith, here) in
    let same : x ≡ y = cc in
    let inside : v.n < length y.guests = subst (λ (z : DomConfig). v.n < length z.guests) same low in
    let ns : List ℕ = numbers_from 0 (length y.guests) in
    Has-left v (map (vcpu_at d) ns) (vcpus_from (suc d) domains)
    (subst (λ (w : VcpuId). Has w (map (vcpu_at d) ns)) is (Has-map (vcpu_at d) v.n ns (Has-numbers v.n 0 (length y.guests) (omega arith) (omega (arith, inside)))))
Has-vcpus (suc k) d (y ∷ domains) x v at here low =
    Has-right v (map (vcpu_at d) (numbers_from 0 (length y.guests))) (vcpus_from (suc d) domains) (Has-vcpus k (suc d) domains x v at (omega (arith, here)) low)

Has-units : (g k d : ℕ) (domains : List DomConfig) (x : DomConfig) (u : UnitId) → slice_get domains k ≡ Some x → u.dom.0 ≡ d + k → u.n < (length x.guests + g - 1) / g → Has u (units_from g d domains)
Has-units g k d [] x u at here low = absurd (cc)
Has-units g zero d (y ∷ domains) x u at here low =
    let is : unit_at d u.n ≡ u = grind (arith, here) in
    let same : x ≡ y = cc in
    let inside : u.n < (length y.guests + g - 1) / g = subst (λ (z : DomConfig). u.n < (length z.guests + g - 1) / g) same low in
    let ns : List ℕ = numbers_from 0 ((length y.guests + g - 1) / g) in
    Has-left u (map (unit_at d) ns) (units_from g (suc d) domains)
    (subst (λ (w : UnitId). Has w (map (unit_at d) ns)) is (Has-map (unit_at d) u.n ns (Has-numbers u.n 0 ((length y.guests + g - 1) / g) (omega arith) (omega (arith, inside)))))
Has-units g (suc k) d (y ∷ domains) x u at here low =
    Has-right u (map (unit_at d) (numbers_from 0 ((length y.guests + g - 1) / g))) (units_from g (suc d) domains) (Has-units g k (suc d) domains x u at (omega (arith, here)) low)

-- where each kind stands among the candidates: those up to a kind, and the way from them to all
module _ (config : Config) where
  abbrev to_moved : List Action
  to_moved = map (λ n. Moved (core n)) (numbers_from 0 (machine_core_count config))

  abbrev to_dom_moved : List Action
  to_dom_moved = to_moved ++ map (λ n. DomMoved (domain n)) (numbers_from 0 (length config.domains))

  abbrev to_wake : List Action
  to_wake = to_dom_moved ++ map Wake (vcpus_from 0 config.domains)

  abbrev to_block : List Action
  to_block = to_wake ++ map (λ n. Block (processor n)) (numbers_from 0 config.processors)

  abbrev to_slice : List Action
  to_slice = to_block ++ map (λ n. Slice (core n)) (numbers_from 0 (machine_core_count config))

  abbrev to_repl : List Action
  to_repl = to_slice ++ map Repl (units_from config.granularity 0 config.domains)

  abbrev to_refill : List Action
  to_refill = to_repl ++ map (λ n. Refill (domain n)) (numbers_from 0 (length config.domains))

  abbrev to_arrive : List Action
  to_arrive = to_refill ++ map (λ n. Arrive (processor n)) (numbers_from 0 config.processors)

  abbrev to_decide : List Action
  to_decide = to_arrive ++ map (λ n. Decide (core n)) (numbers_from 0 (machine_core_count config))

  abbrev to_leave : List Action
  to_leave = to_decide ++ map (λ n. Leave (processor n)) (numbers_from 0 config.processors)

  abbrev to_save : List Action
  to_save = to_leave ++ map (λ n. Save (core n)) (numbers_from 0 (machine_core_count config))

  module _ (a : Action) where
    from_save : Has a to_save → Has a (candidates config)
    from_save h = inr (inr h)

    from_leave : Has a to_leave → Has a (candidates config)
    from_leave h = from_save (Has-left a to_leave (map (λ n. Save (core n)) (numbers_from 0 (machine_core_count config))) h)

    from_decide : Has a to_decide → Has a (candidates config)
    from_decide h = from_leave (Has-left a to_decide (map (λ n. Leave (processor n)) (numbers_from 0 config.processors)) h)

    from_arrive : Has a to_arrive → Has a (candidates config)
    from_arrive h = from_decide (Has-left a to_arrive (map (λ n. Decide (core n)) (numbers_from 0 (machine_core_count config))) h)

    from_refill : Has a to_refill → Has a (candidates config)
    from_refill h = from_arrive (Has-left a to_refill (map (λ n. Arrive (processor n)) (numbers_from 0 config.processors)) h)

    from_repl : Has a to_repl → Has a (candidates config)
    from_repl h = from_refill (Has-left a to_repl (map (λ n. Refill (domain n)) (numbers_from 0 (length config.domains))) h)

    from_slice : Has a to_slice → Has a (candidates config)
    from_slice h = from_repl (Has-left a to_slice (map Repl (units_from config.granularity 0 config.domains)) h)

    from_block : Has a to_block → Has a (candidates config)
    from_block h = from_slice (Has-left a to_block (map (λ n. Slice (core n)) (numbers_from 0 (machine_core_count config))) h)

    from_wake : Has a to_wake → Has a (candidates config)
    from_wake h = from_block (Has-left a to_wake (map (λ n. Block (processor n)) (numbers_from 0 config.processors)) h)

    from_dom_moved : Has a to_dom_moved → Has a (candidates config)
    from_dom_moved h = from_wake (Has-left a to_dom_moved (map Wake (vcpus_from 0 config.domains)) h)

    from_moved : Has a to_moved → Has a (candidates config)
    from_moved h = from_dom_moved (Has-left a to_moved (map (λ n. DomMoved (domain n)) (numbers_from 0 (length config.domains))) h)

    among_moved : Has a (map (λ n. Moved (core n)) (numbers_from 0 (machine_core_count config))) → Has a (candidates config)
    among_moved h = from_moved h

    among_dom_moved : Has a (map (λ n. DomMoved (domain n)) (numbers_from 0 (length config.domains))) → Has a (candidates config)
    among_dom_moved h = from_dom_moved (Has-right a to_moved (map (λ n. DomMoved (domain n)) (numbers_from 0 (length config.domains))) h)

    among_wake : Has a (map Wake (vcpus_from 0 config.domains)) → Has a (candidates config)
    among_wake h = from_wake (Has-right a to_dom_moved (map Wake (vcpus_from 0 config.domains)) h)

    among_block : Has a (map (λ n. Block (processor n)) (numbers_from 0 config.processors)) → Has a (candidates config)
    among_block h = from_block (Has-right a to_wake (map (λ n. Block (processor n)) (numbers_from 0 config.processors)) h)

    among_slice : Has a (map (λ n. Slice (core n)) (numbers_from 0 (machine_core_count config))) → Has a (candidates config)
    among_slice h = from_slice (Has-right a to_block (map (λ n. Slice (core n)) (numbers_from 0 (machine_core_count config))) h)

    among_repl : Has a (map Repl (units_from config.granularity 0 config.domains)) → Has a (candidates config)
    among_repl h = from_repl (Has-right a to_slice (map Repl (units_from config.granularity 0 config.domains)) h)

    among_refill : Has a (map (λ n. Refill (domain n)) (numbers_from 0 (length config.domains))) → Has a (candidates config)
    among_refill h = from_refill (Has-right a to_repl (map (λ n. Refill (domain n)) (numbers_from 0 (length config.domains))) h)

    among_arrive : Has a (map (λ n. Arrive (processor n)) (numbers_from 0 config.processors)) → Has a (candidates config)
    among_arrive h = from_arrive (Has-right a to_refill (map (λ n. Arrive (processor n)) (numbers_from 0 config.processors)) h)

    among_decide : Has a (map (λ n. Decide (core n)) (numbers_from 0 (machine_core_count config))) → Has a (candidates config)
    among_decide h = from_decide (Has-right a to_arrive (map (λ n. Decide (core n)) (numbers_from 0 (machine_core_count config))) h)

    among_leave : Has a (map (λ n. Leave (processor n)) (numbers_from 0 config.processors)) → Has a (candidates config)
    among_leave h = from_leave (Has-right a to_decide (map (λ n. Leave (processor n)) (numbers_from 0 config.processors)) h)

    among_save : Has a (map (λ n. Save (core n)) (numbers_from 0 (machine_core_count config))) → Has a (candidates config)
    among_save h = from_save (Has-right a to_leave (map (λ n. Save (core n)) (numbers_from 0 (machine_core_count config))) h)

-- a record that is there is of a domain of the file
recorded_inside : (m : Machine) (t d : ℕ) (records : Records) → RecordsInRange m t records → HasRecord records d → d < length m.config.domains
recorded_inside m t d (Credit2Pool records) range has = (let low = place_below records.domains d has.0 has.1 in let whole = range.0 in omega (arith, low, whole))
recorded_inside m t d records range has = absurd has

module _ (m : Machine) (checked : IsChecked m) where
  abbrev g : ℕ
  g = m.config.granularity

  abbrev config : Config
  config = m.config

  abbrev There : Action → Type 0
  There action = Has action (candidates m.config)

  processor_inside : (p : ℕ) → p / g < machine_core_count m.config → p < m.config.processors
  processor_inside p low =
      by_granularity (λ (n : ℕ). p / n < m.config.processors / n → p < m.config.processors) m.config.granularity checked.config.granularity (λ l. omega (arith, l)) (λ l. omega (arith, l)) (λ l. omega (arith, l)) low

  of_number : (of : ℕ → Action) (n count : ℕ) → n < count → Has (of n) (map of (numbers_from 0 count))
  of_number of n count low = Has-map of n (numbers_from 0 count) (Has-numbers n 0 count (omega arith) (omega (arith, low)))

  unit_there : (u : UnitId) → IsUnitOf m u → There (Repl u)
  unit_there u is =
      let low : u.n < (length is.config.guests + g - 1) / g =
      by_granularity (λ (n : ℕ). u.n * n < length is.config.guests → u.n < (length is.config.guests + n - 1) / n) m.config.granularity checked.config.granularity (λ l. omega (arith, l)) (λ l. omega (arith, l)) (λ l. omega (arith, l)) is.inside in
      among_repl config (Repl u) (Has-map Repl u (units_from g 0 m.config.domains) (Has-units g u.dom.0 0 m.config.domains is.config u is.at (omega arith) low))

  module _ (s : State) (range : StateInRange m s) where
    module _ (t : ℕ) (pool : Pool) (fits : PoolInRange m s.now pool) where
      core_inside : (r : ℕ) (c : Resource) → at_place pool.resources r ≡ Some c → r < machine_core_count m.config
      core_inside r c at = (let low = place_below pool.resources r c at in let whole = fits.core_places in omega (arith, low, whole))

      domain_inside : (d : ℕ) (x : Domain) → at_place pool.domains d ≡ Some x → d < length m.config.domains
      domain_inside d x at = (let low = place_below pool.domains d x at in let whole = fits.domain_places in omega (arith, low, whole))

      in_pool : (action : Action) → HasSubject g t pool action → There action
      in_pool (Moved r) has = among_moved config (Moved r) (of_number (λ n. Moved (core n)) r.0 (machine_core_count m.config) (core_inside r.0 has.0 has.1))
      in_pool (DomMoved d) has = among_dom_moved config (DomMoved d) (of_number (λ n. DomMoved (domain n)) d.0 (length m.config.domains) (domain_inside d.0 has.0 has.1))
      in_pool (Wake v) has =
          let here = fits.domains v.dom.0 has.0 has.1 in
          let low = slice_get_within has.0.vcpus v.n has.2 has.3 in
          let whole = here.count in
          among_wake config (Wake v) (Has-map Wake v (vcpus_from 0 m.config.domains) (Has-vcpus v.dom.0 0 m.config.domains here.config v here.at (omega arith) (omega (arith, low, whole))))
      in_pool (Block p) has = among_block config (Block p) (of_number (λ n. Block (processor n)) p.0 m.config.processors (processor_inside p.0 (core_inside (p.0 / g) has.0 has.1)))
      in_pool (Slice r) has = among_slice config (Slice r) (of_number (λ n. Slice (core n)) r.0 (machine_core_count m.config) (core_inside r.0 has.0 has.1))
      in_pool (Repl u) (inl waits) = unit_there u (at_unit (IsUnitOf m) u pool.scheduler.queue waits (recursion_from_All (IsUnitOf m) pool.scheduler.queue fits.queue))
      in_pool (Repl u) (inr runs) = unit_there u (subst (IfUnit (IsUnitOf m)) runs.3 (fits.cores runs.0 runs.1 runs.2).cur)
      in_pool (Refill d) has = among_refill config (Refill d) (of_number (λ n. Refill (domain n)) d.0 (length m.config.domains) (recorded_inside m s.now d.0 pool.scheduler.records fits.records has))
      in_pool (Arrive p) has = among_arrive config (Arrive p) (of_number (λ n. Arrive (processor n)) p.0 m.config.processors (processor_inside p.0 (core_inside (p.0 / g) has.0 has.1)))
      in_pool (Decide r) has = among_decide config (Decide r) (of_number (λ n. Decide (core n)) r.0 (machine_core_count m.config) (core_inside r.0 has.0 has.1))
      in_pool (Leave p) has = among_leave config (Leave p) (of_number (λ n. Leave (processor n)) p.0 m.config.processors (processor_inside p.0 (core_inside (p.0 / g) has.0 has.1)))
      in_pool (Save r) has = among_save config (Save r) (of_number (λ n. Save (core n)) r.0 (machine_core_count m.config) (core_inside r.0 has.0 has.1))
      in_pool action has = absurd has

    at_home : (t : ℕ) (action : Action) → enabled_at_home m s t action ≡ true → There action
    at_home t action on =
        by_option (λ (b : Bool). b ≡ true → There action) (home_pool_of_action g s action) false (λ (i : ℕ). test_at s.pools i (λ pool. enabled_in g t pool action))
        (λ is e. absurd (cc))
        (λ i is e. (let f = some-test_at s.pools i (λ pool. enabled_in g t pool action) e in in_pool t f.0 (range.pools i f.0 f.1) action (has_subject g t f.0 action f.2))) on

    free_there : (t r : ℕ) → test_at s.free r (is_free_core_ready t) ≡ true → There (Moved (core r))
    free_there t r on =
        let f = some-test_at s.free r (is_free_core_ready t) on in
        let low = place_below s.free r f.0 f.1 in
        let whole = range.free_places in
        among_moved config (Moved (core r)) (of_number (λ n. Moved (core n)) r (machine_core_count m.config) (omega (arith, low, whole)))

    there : (t : ℕ) (action : Action) → is_action_enabled m s t action ≡ true → There action
    there t Stall on = inl refl
    there t Xl on = inr (inl refl)
    there t (Moved r) on = elim (or_cases (test_at s.free r.0 (is_free_core_ready t)) (enabled_at_home m s t (Moved r)) on) [ inl free ↦ free_there t r.0 free | inr home ↦ at_home t (Moved r) home ]
    there t action on = at_home t action on

  pub is_candidate : (entries : List Entry) → IsRun m entries → (t : ℕ) (action : Action) → is_action_enabled m (state_after m entries) t action ≡ true → Contains (candidates m.config) action
  is_candidate entries run t action on = Contains-from_has action (candidates m.config) (there (state_after m entries) (in_range m checked entries run) t action on)
