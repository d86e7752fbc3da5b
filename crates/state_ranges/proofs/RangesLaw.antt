-- The law of ranges, from what is kept.
use Rattle.sched_laws.proofs.Judged.{is_le}
use Rattle.std.proofs.Common.{◌≡◌, ◌≤◌, ◌+◌, ◌/◌, ◌%◌, ℕ, zero, suc, true, List, [], ◌∷◌, arith, subst, sym, ◌∙◌, ap, cond, length, ◌<◌}
use Rattle.std.specs.Prelude.{Option, Some, None, slice_get, map, max, replicate, nat_le}
use Rattle.std.specs.List.{AllByRecursion, list_any}
use Rattle.std.proofs.lemmas.List.{length-replicate, length-map}
use Rattle.std.proofs.lemmas.List.Elements.{recursion_from_All}
use Rattle.sched_base.specs.Numbers.{moment, domain as domain_number}
use Rattle.sched_base.specs.declared.Moment.{Moment}
use Rattle.sched_base.specs.declared.Span.{Span}
use Rattle.sched_base.proofs.Lists.{each_get}
use Rattle.sched_model.specs.declared.event.Event.{Event}
use Rattle.sched_model.specs.declared.event.Entry.{Entry}
use Rattle.sched_model.specs.declared.machine.Machine.{Machine}
use Rattle.sched_model.specs.declared.config.PoolConfig.{PoolConfig}
use Rattle.sched_model.specs.declared.config.DomConfig.{DomConfig}
use Rattle.sched_model.specs.declared.config.SchedKind.{SchedKind}
use Rattle.sched_model.specs.declared.config.SchedKind.TheVariants as kinds
use Rattle.sched_model.specs.declared.config.DomParams.{DomParams}
use Rattle.sched_model.specs.declared.config.DomParams.TheVariants as dom_params
use Rattle.sched_model.specs.declared.config.ParamChange.TheVariants as changes
use Rattle.sched_model.specs.declared.work.StallLine.{StallLine}
use Rattle.sched_model.specs.declared.action.Action.{Action}
use Rattle.sched_model.specs.declared.state.State.{State}
use Rattle.sched_model.specs.declared.state.Pool.{Pool}
use Rattle.sched_model.specs.declared.state.FreeCore.{FreeCore}
use Rattle.sched_model.specs.declared.state.Domain.{Domain}
use Rattle.sched_model.specs.declared.state.Vcpu.{Vcpu}
use Rattle.sched_model.specs.declared.state.Processor.{Processor}
use Rattle.sched_model.specs.declared.state.Resource.{Resource}
use Rattle.sched_model.specs.Places.{at_place}
use Rattle.sched_model.specs.State.{has_core_bit}
use Rattle.sched_model.specs.Opening.{opening, pool_at_opening, free_core_at_opening, joined_core, vcpu_at_opening, machine_core_count, domain_at_opening}
use Rattle.sched_model.specs.CheckedMachine.{IsChecked, IsCheckedPool, IsCheckedDomain, IsCheckedScript, IsCheckedStall, DomParamsPass, most_span}
use Rattle.sched_model.specs.Actions.{home_pool_of_core}
use Rattle.sched_model.specs.Machine.{is_action_enabled, after, next_in_horizon, least_later_moment, later_stall_end}
use Rattle.sched_model.specs.Runs.{Reached, event_action, named_next_moment, after_quiet, after_event, IsNextEvent, IsRunFrom, IsRun, run_start, after_entry, after_entries}
use Rattle.sched_laws.specs.EachPlace.{EachPlace}
use Rattle.sched_laws.specs.StateLaws.{state_after}
use Rattle.sched_laws.proofs.EachPlace.{EachPlace-empty, by_option, by_cond}
use Rattle.sched_laws.proofs.Kept.{IsApart}
use Rattle.sched_laws.proofs.ApartKept.{apart_after}
use Rattle.sched_laws.proofs.Opened.{read_map, read_pools, apart_opening, length_map_numbers, kept_opening, opened_keeps}
use Rattle.sched_laws.proofs.Steps.{FreeFits, step_after}
use Rattle.sched_laws.proofs.Free.{free_after}
use Rattle.sched_laws.proofs.Ready.{next_later}
use Rattle.state_ranges.proofs.Vcpus.{VcpuFits, vcpu_fresh, vcpu_later}
use Rattle.state_ranges.proofs.RecordRanges.{ParamsInRange, opened_fits, later_fits}
use Rattle.state_ranges.proofs.RangesWalk.{DomFits, NearEnd, NearProcessor, CoreFits, PoolFits, EndsFit, r_set_params, r_with_domain, fresh_core_fits}
use Rattle.sched_laws.proofs.SiblingsLaw.{some_processor}
use Rattle.sched_laws.proofs.Known.{known_pools}
use Rattle.sched_laws.specs.PoolFacts.{IsKnownPool}
use Rattle.state_ranges.proofs.BudgetWalk.{WholePool, CreditFits, whole_steps, n_later, n_fresh, n_set_params, n_with_domain}

-- what is kept of every state
pub record StateFits (m : Machine) (s : State) : Type 0 where
  pub apart : IsApart s
  pub now : s.now ≤ m.config.horizon.0
  pub pools : EachPlace (WholePool m s.now) s.pools
  pub free : FreeFits (EndsFit m s.now) s

pub max_low : (a b n : ℕ) → a ≤ n → b ≤ n → max a b ≤ n
max_low a b n x y = grind (arith, x, y)

-- the end of a stall is near, where the ends of all stalls are
stall_end_low : (m : Machine) (s : State) (p end : ℕ) → NearEnd s.now end → StateFits m s → NearEnd s.now (later_stall_end m.config.granularity s p end)
stall_end_low m s p end near fits =
    let g : ℕ = m.config.granularity in
    let Q : ℕ → Type 0 = NearEnd s.now in
    by_option Q (home_pool_of_core s (p / g)) _ _
    (λ none. by_option Q (at_place s.free (p / g)) _ _ (λ none2. near)
    (λ c at. by_option Q (slice_get c.stall_ends (p % g)) _ _ (λ none3. near) (λ old has. max_low old.0 end (s.now + most_span) (each_get (λ (e : Moment). NearEnd s.now e.0) c.stall_ends (p % g) old (fits.free (p / g) c at).near has) near)))
    (λ i is. by_option Q (at_place s.pools i) _ _ (λ none. near)
    (λ pool at. by_option Q (at_place pool.resources (p / g)) _ _ (λ none. near)
    (λ c has. by_option Q (slice_get c.processors (p % g)) _ _ (λ none. near)
    (λ q is_q. max_low q.stall_end.0 end (s.now + most_span) (each_get (NearProcessor s.now) c.processors (p % g) q ((fits.pools i pool at).fits.cores (p / g) c has).stalls is_q) near))))

fits_after : (m : Machine) → IsChecked m → (s : State) (action : Action) → is_action_enabled m s s.now action ≡ true → StateFits m s → StateFits m (after m s s.now action)
fits_after m checked s action on fits =
    let steps = whole_steps m checked (some_processor m.config.granularity checked.config.granularity) s.now in
    let ends = λ (l : StallLine) (is : slice_get m.work.stalls s.next_stall ≡ Some l). stall_end_low m s l.cpu.0 (s.now + l.span.0)
    (let line = each_get (IsCheckedStall m.config) m.work.stalls s.next_stall l (recursion_from_All (IsCheckedStall m.config) m.work.stalls checked.work.stalls) is in let h = line.span.most in omega (arith, h)) fits in
    let free = free_after steps s action fits.free ends fits.pools in
    record {
      apart = apart_after m s s.now action on fits.apart;
      now = (let e = free.0 in let l = fits.now in omega (arith, e, l));
      pools = subst (λ k. EachPlace (WholePool m k) (after m s s.now action).pools) (sym free.0) (step_after steps s action tt fits.apart fits.free ends on fits.pools);
      free = subst (λ k. FreeFits (EndsFit m k) (after m s s.now action)) (sym free.0) free.1;
    }

near_later : (t next : ℕ) (ends : List Moment) → t ≤ next → AllByRecursion (λ (e : Moment). NearEnd t e.0) ends → AllByRecursion (λ (e : Moment). NearEnd next e.0) ends
near_later t next [] past near = tt
near_later t next (e ∷ ends) past near = ((let l = near.0 in omega (arith, l, past)), near_later t next ends past near.1)

processors_later : (t next : ℕ) (ps : List Processor) → t ≤ next → AllByRecursion (NearProcessor t) ps → AllByRecursion (NearProcessor next) ps
processors_later t next [] past near = tt
processors_later t next (p ∷ ps) past near = ((let l = near.0 in omega (arith, l, past)), processors_later t next ps past near.1)

pool_later : (m : Machine) (t next : ℕ) (pool : Pool) → t ≤ next → PoolFits m t pool → PoolFits m next pool
pool_later m t next pool past fits = record {
  domain_places = fits.domain_places;
  core_places = fits.core_places;
  affinity_places = fits.affinity_places;
  queue = fits.queue;
  domains = λ d x at. (let here : DomFits m t d x = fits.domains d x at in record { config = here.config; at = here.at; count = here.count; vcpus = λ n y script has guest. vcpu_later t next script y past (here.vcpus n y script has guest) });
  cores = λ r c at. (
      let here : CoreFits m t c = fits.cores r c at in
      record { cur = here.cur; saving = here.saving; since = (let l = here.since in omega (arith, l, past)); due = λ a e. (let l = here.due a e in omega (arith, l, past)); count = here.count; stalls = processors_later t next c.processors past here.stalls });
  records = later_fits (length m.config.domains) (machine_core_count m.config) t next pool.scheduler.records past fits.records;
}

whole_later : (m : Machine) (t next : ℕ) (pool : Pool) → t ≤ next → WholePool m t pool → WholePool m next pool
whole_later m t next pool past whole = record { known = whole.known; fits = pool_later m t next pool past whole.fits; credit = n_later m t next pool.scheduler.records pool.resources past whole.credit }

fits_later : (m : Machine) (s : State) (next : ℕ) → s.now ≤ next → next ≤ m.config.horizon.0 → StateFits m s → StateFits m (record s { now = next })
fits_later m s next past within fits = record {
  apart = record { cores = fits.apart.cores; domains = fits.apart.domains; free = fits.apart.free };
  now = within;
  pools = λ i pool at. whole_later m s.now next pool past (fits.pools i pool at);
  free = λ r c at. (let here : EndsFit m s.now c.stall_ends = fits.free r c at in record { count = here.count; near = near_later s.now next c.stall_ends past here.near });
}

next_within : (m : Machine) (s : State) (next : ℕ) → next_in_horizon m s ≡ Some next → next ≤ m.config.horizon.0
next_within m s next is =
    by_option (λ (o : Option ℕ). o ≡ Some next → next ≤ m.config.horizon.0) (least_later_moment m s s.now) None (λ k. cond (nat_le k m.config.horizon.0) (Some k) None)
    (λ none e. absurd (cc))
    (λ k found. by_cond (λ (o : Option ℕ). o ≡ Some next → next ≤ m.config.horizon.0) (nat_le k m.config.horizon.0) (Some k) None (λ low e. (let same : k ≡ next = cc in subst (λ x. x ≤ m.config.horizon.0) same (is_le k m.config.horizon.0 low))) (λ high e. absurd (cc))) is

fits_event : (m : Machine) → IsChecked m → (e : Event) (action : Option Action) (from : Reached) → IsNextEvent m from.state e action → StateFits m from.state → StateFits m (after_event m e action from).state
fits_event m checked e None from next fits = fits_quiet (named_next_moment e) next.1
  where
    fits_quiet : (end : Option ℕ) → next_in_horizon m from.state ≡ end → StateFits m (after_quiet end from).state
    fits_quiet None is = fits
    fits_quiet (Some later) is = fits_later m from.state later (next_later m from.state later is) (next_within m from.state later is) fits
fits_event m checked e (Some action) from next fits = fits_after m checked from.state action next.0 fits

fits_from : (m : Machine) → IsChecked m → (from : Reached) (entries : List Entry) → IsRunFrom m from entries → StateFits m from.state → StateFits m (after_entries m from entries).state
fits_from m checked from [] run fits = fits
fits_from m checked from (entry ∷ entries) run fits = fits_from m checked (after_entry m from entry) entries run.1 (fits_event m checked entry.event (event_action entry.event) from run.0.event fits)

-- the opening
pub params_pass : (kind : SchedKind) (params : DomParams) → DomParamsPass kind params → ParamsInRange params
params_pass kinds.Credit2 (dom_params.Credit2 weight percent) passed = passed
params_pass kinds.Rtds (dom_params.Rtds period budget extra) passed = (passed.0, record { least = passed.1.least; most = (let a = passed.0.most in let b = passed.1.most in omega (arith, a, b)) })
params_pass kind dom_params.Arinc653 passed = tt
params_pass kind dom_params.Null passed = tt
params_pass kind params passed = absurd passed

module _ (m : Machine) (checked : IsChecked m) where
  joining_fits : (d : ℕ) (joining : DomConfig) → slice_get m.config.domains d ≡ Some joining → DomFits m 0 d (domain_at_opening joining)
  joining_fits d joining at =
      let domain = each_get (IsCheckedDomain m.config) m.config.domains d joining (recursion_from_All (IsCheckedDomain m.config) m.config.domains checked.config.domains) at in
      record {
        config = joining;
        at = at;
        count = length-map joining.guests _;
        vcpus = λ n y script has guest. fresh_at joining.guests (recursion_from_All IsCheckedScript joining.guests domain.scripts) n y script has guest;
      }
    where
      fresh_at : (guests : List (List Span)) → AllByRecursion IsCheckedScript guests → (n : ℕ) (y : Vcpu) (script : List Span) → slice_get (map vcpu_at_opening guests) n ≡ Some y → slice_get guests n ≡ Some script → VcpuFits 0 script y
      fresh_at [] each n y script has guest = absurd (cc)
      fresh_at (x ∷ guests) each zero y script has guest = (
          let same : x ≡ script = cc in
          let fresh : ◌≡◌ {A = Vcpu} (vcpu_at_opening x) y = cc in
          subst (VcpuFits 0 script) (ap vcpu_at_opening (sym same) ∙ fresh) (vcpu_fresh script (subst IsCheckedScript same each.0)))
      fresh_at (x ∷ guests) each (suc n) y script has guest = fresh_at guests each.1 n y script has guest

  opened_ends : (g : ℕ) → EndsFit m 0 (replicate m.config.granularity (moment 0))
  opened_ends g = record { count = length-replicate m.config.granularity (moment 0); near = near m.config.granularity }
    where
      near : (n : ℕ) → AllByRecursion (λ (e : Moment). NearEnd 0 e.0) (replicate n (moment 0))
      near zero = tt
      near (suc n) = (omega arith, near n)

  opening_pool_fits : (i : ℕ) (p : PoolConfig) → slice_get m.config.pools i ≡ Some p → PoolFits m 0 (pool_at_opening m.config i p)
  opening_pool_fits i p is =
      let pool = each_get (IsCheckedPool m.config) m.config.pools i p (recursion_from_All (IsCheckedPool m.config) m.config.pools checked.config.pools) is in
      opened_keeps m checked i p is (PoolFits m 0)
      (λ d joining pool at domain passed. r_with_domain m checked 0 d (domain_at_opening joining) joining.params pool (params_pass p.kind joining.params passed) (joining_fits d joining at))
      (λ d n cores pool. r_set_params m checked 0 (changes.Pin (domain_number d) (Some n) cores) pool tt) _
      (record {
        domain_places = length-replicate (length m.config.domains) None;
        core_places = length_map_numbers _ 0 (machine_core_count m.config);
        affinity_places = length-replicate (length m.config.domains) None;
        queue = tt;
        domains = λ d x at. absurd (EachPlace-empty {X = Domain} (λ y. ⊥) (length m.config.domains) d x at);
        cores = λ r c at. (
            let e = read_map (λ r2. cond (has_core_bit p.cores r2) (Some (joined_core (replicate m.config.granularity (moment 0)))) None) 0 (machine_core_count m.config) r c at in
            by_cond (λ (o : Option Resource). o ≡ Some c → CoreFits m 0 c) (has_core_bit p.cores (0 + r)) (Some (joined_core (replicate m.config.granularity (moment 0)))) None
            (λ yes_ h. (let f : ◌≡◌ {A = Resource} (joined_core (replicate m.config.granularity (moment 0))) c = cc in subst (CoreFits m 0) f (fresh_core_fits m checked 0 (replicate m.config.granularity (moment 0)) (opened_ends 0))))
            (λ no_ h. absurd (cc)) e);
        records = opened_fits m.config (length m.config.domains) (machine_core_count m.config) p.kind p.params pool.params;
      })

  -- what runs at the opening, and the budgets
  some : 0 < m.config.granularity
  some = some_processor m.config.granularity checked.config.granularity

  abbrev Credits : Pool → Type 0
  Credits pool = CreditFits m 0 pool.scheduler.records pool.resources

  opening_pool_credit : (i : ℕ) (p : PoolConfig) → slice_get m.config.pools i ≡ Some p → Credits (pool_at_opening m.config i p)
  opening_pool_credit i p is =
      opened_keeps m checked i p is Credits
      (λ d joining pool at domain passed. n_with_domain m some 0 d (domain_at_opening joining) joining.params pool (params_pass p.kind joining.params passed) (joining_fits d joining at))
      (λ d n cores pool. n_set_params m some 0 (changes.Pin (domain_number d) (Some n) cores) pool tt) _
      (n_fresh m 0 p.params (length m.config.domains) (machine_core_count m.config) _)

  opening_fits : StateFits m (opening m)
  opening_fits = record {
    apart = apart_opening m checked;
    now = omega arith;
    pools = λ i pool at. (
        let r = read_pools m.config 0 _ m.config.pools i pool at in
        let e : 0 + i ≡ i = omega arith in
        record {
          known = kept_opening m (IsKnownPool m.config.granularity) (known_pools m.config.granularity some) i pool at;
          fits = subst (PoolFits m 0) (sym (subst (λ k. pool ≡ pool_at_opening m.config k r.0) e r.2)) (opening_pool_fits i r.0 r.1);
          credit = subst Credits (sym (subst (λ k. pool ≡ pool_at_opening m.config k r.0) e r.2)) (opening_pool_credit i r.0 r.1);
        });
    free = λ r c at. (
        let e = read_map (free_core_at_opening m.config) 0 (machine_core_count m.config) r c at in
        by_cond (λ (o : Option FreeCore). o ≡ Some c → EndsFit m 0 c.stall_ends) (list_any (λ pool. has_core_bit pool.cores (0 + r)) m.config.pools) None (Some (record { target = None; stall_ends = replicate m.config.granularity (moment 0) }))
        (λ is h. absurd (cc)) (λ is h. (let s : ◌≡◌ {A = FreeCore} (record { target = None; stall_ends = replicate m.config.granularity (moment 0) }) c = cc in subst (λ (x : FreeCore). EndsFit m 0 x.stall_ends) s (opened_ends 0))) e);
  }

  pub fits_in_runs : (entries : List Entry) → IsRun m entries → StateFits m (state_after m entries)
  fits_in_runs entries run = fits_from m checked (run_start m) entries run opening_fits
