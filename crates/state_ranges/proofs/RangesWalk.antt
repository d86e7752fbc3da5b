-- What each step of a pool keeps of the ranges of its numbers.
use Rattle.std.proofs.Common.{◌≡◌, ◌≤◌, ◌+◌, ◌*◌, ◌/◌, ◌%◌, ℕ, Bool, true, false, not, List, [], ◌∷◌, refl, arith, subst, sym, ◌∙◌, ap, inl, inr, length}
use Rattle.std.specs.Prelude.{Option, Some, None, is_none, option_map, unwrap_or, slice_get, map, min, ◌&&◌, ◌==◌}
use Rattle.std.specs.List.{AllByRecursion}
use Rattle.std.proofs.lemmas.List.{length-replicate, length-map}
use Rattle.std.proofs.lemmas.List.Elements.{recursion_from_All}
use Rattle.sched_base.specs.Numbers.{moment, span, pool as pool_number, processor, has_moment_come}
use Rattle.sched_base.specs.declared.Moment.{Moment}
use Rattle.sched_base.specs.declared.Span.{Span}
use Rattle.sched_base.specs.declared.UnitId.{UnitId}
use Rattle.sched_base.specs.declared.VcpuId.{VcpuId}
use Rattle.sched_base.specs.declared.Cores.{Cores}
use Rattle.sched_model.specs.declared.machine.Machine.{Machine}
use Rattle.sched_model.specs.declared.config.DomConfig.{DomConfig}
use Rattle.sched_model.specs.declared.config.DomParams.{DomParams}
use Rattle.sched_model.specs.declared.config.ParamChange.{ParamChange}
use Rattle.sched_model.specs.declared.config.ParamChange.TheVariants as changes
use Rattle.sched_model.specs.declared.ask.Ask.{Ask}
use Rattle.sched_model.specs.declared.action.Action.TheVariants.{Wake, Block}
use Rattle.sched_model.specs.declared.state.Vcpu.{Vcpu}
use Rattle.sched_model.specs.declared.state.Domain.{Domain}
use Rattle.sched_model.specs.declared.state.Doing.TheVariants.{Guest, Idle, Held}
use Rattle.sched_model.specs.declared.state.Processor.{Processor}
use Rattle.sched_model.specs.declared.state.Resource.{Resource}
use Rattle.sched_model.specs.declared.state.Scheduler.{Scheduler}
use Rattle.sched_model.specs.declared.state.Pool.{Pool}
use Rattle.sched_model.specs.Places.{at_place, put_at, clear_at, change_at, change_item, numbers_from, same_unit}
use Rattle.sched_model.specs.State.{is_awake, may_unit_run, unit_runnable}
use Rattle.sched_model.specs.Opening.{joined_core, machine_core_count}
use Rattle.sched_model.specs.EligibleUnits.{Decision}
use Rattle.sched_model.specs.CheckedMachine.{IsChecked, IsCheckedDomain, IsCheckedScript, most_span}
use Rattle.sched_model.specs.Commands.{pool_with_rtds_unit}
use Rattle.sched_model.specs.Policy as policy
use Rattle.sched_model.specs.Policy.{decision_of, unit_rtds_record, standard_dom_params, changed_affinity}
use Rattle.sched_model.specs.Pool as pools
use Rattle.sched_model.specs.Pool.{enabled_in, change_core, change_processor, change_vcpu, change_domain, change_cores_of, with_doing as does, started_on, decided_core, same_choice, core_ask, changed_pool, pool_without_domain, pool_with_domain, pool_vcpu, running_guest, vcpu_to_run, vcpu_among}
use Rattle.sched_laws.specs.EachPlace.{EachAt, EachPlace}
use Rattle.sched_base.proofs.Bools.{and_left, and_right}
use Rattle.sched_base.proofs.Lists.{each_get, AllByRecursion-push, AllByRecursion-filter}
use Rattle.sched_laws.proofs.EachPlace.{EachAt-change_at, EachAt-put_at, EachAt-clear_at, EachPlace-change_at, EachPlace-put_at, EachPlace-clear_at, EachPlace-empty, by_option, by_test, by_cond, length_set}
use Rattle.sched_laws.proofs.Lists.{some-test_at, length_change_item}
use Rattle.sched_laws.proofs.Choices.{decision_has}
use Rattle.sched_laws.specs.PoolFacts.{IfUnit}
use Rattle.sched_laws.proofs.Awake.{part_past}
use Rattle.sched_laws.proofs.Sound.{read_change_item, none_is}
use Rattle.sched_laws.proofs.Fits.{ChangeFits, RtdsFits}
use Rattle.sched_laws.proofs.Events.{LikePlaces, EachAt-like, capped, like_of_domain, IsMarked, Enabled, KeptByCommands, KeptBySteps, kept_settled, kept_by_event, kept_opened, kept_set_leaving, kept_withdrawn, kept_pause, kept_unpause, kept_marked, kept_queue_units, kept_pending}
use Rattle.sched_laws.proofs.Steps.{IsKeptAt}
use Rattle.state_ranges.specs.Ranges.{IsUnitOf}
use Rattle.state_ranges.proofs.Vcpus.{VcpuFits, vcpu_woken, vcpu_slept, vcpu_stopped, vcpu_started}
use Rattle.sched_laws.proofs.Lists.{AllByRecursion-change_item}
use Rattle.state_ranges.proofs.RecordRanges.{RecordsFit, DecisionFits, ParamsInRange, decision_fits, replenish_fits, refill_fits, parted_fits, joined_fits, changed_fits, unit_fits, default_fits, fresh_fits}

-- the domain d of the file, with all its vCPUs
pub record DomFits (m : Machine) (t d : ℕ) (x : Domain) : Type 0 where
  pub config : DomConfig
  pub at : slice_get m.config.domains d ≡ Some config
  pub count : length x.vcpus ≡ length config.guests
  pub vcpus : (n : ℕ) (y : Vcpu) (script : List Span) → slice_get x.vcpus n ≡ Some y → slice_get config.guests n ≡ Some script → VcpuFits t script y

-- the end of a stall is near
abbrev pub NearEnd : ℕ → ℕ → Type 0
NearEnd t end = end ≤ t + most_span

abbrev pub NearProcessor : ℕ → Processor → Type 0
NearProcessor t p = p.stall_end.0 ≤ t + most_span

pub record CoreFits (m : Machine) (t : ℕ) (c : Resource) : Type 0 where
  pub cur : IfUnit (IsUnitOf m) c.cur
  pub saving : IfUnit (IsUnitOf m) c.saving
  pub since : c.since.0 ≤ t
  pub due : (a : Moment) → c.due ≡ Some a → a.0 ≤ t + most_span
  pub count : length c.processors ≡ m.config.granularity
  pub stalls : AllByRecursion (NearProcessor t) c.processors

pub record PoolFits (m : Machine) (t : ℕ) (pool : Pool) : Type 0 where
  pub domain_places : length pool.domains ≡ length m.config.domains
  pub core_places : length pool.resources ≡ machine_core_count m.config
  pub affinity_places : length pool.scheduler.affinity ≡ length m.config.domains
  pub queue : AllByRecursion (IsUnitOf m) pool.scheduler.queue
  pub domains : EachAt (DomFits m t) pool.domains
  pub cores : EachPlace (CoreFits m t) pool.resources
  pub records : RecordsFit (length m.config.domains) (machine_core_count m.config) t pool.scheduler.records

-- the ends of a free core's stalls
pub record EndsFit (m : Machine) (t : ℕ) (ends : List Moment) : Type 0 where
  pub count : length ends ≡ m.config.granularity
  pub near : AllByRecursion (λ (e : Moment). NearEnd t e.0) ends

-- the vCPU that a processor takes is awake
taken_is_awake : (g : ℕ) (pool : Pool) (c : Resource) (i : ℕ) (w : VcpuId) → vcpu_to_run g pool c i ≡ Some w → (x : Vcpu) → pool_vcpu pool w ≡ Some x → x.asleep_until ≡ None
taken_is_awake g pool c i w is x has =
    by_option (λ (o : Option VcpuId). o ≡ Some w → x.asleep_until ≡ None) c.cur _ _ (λ none e. absurd (cc))
    (λ u own.
    let v : VcpuId = record { dom = u.dom; n = u.n * g + i } in
    by_option (λ (o : Option VcpuId). o ≡ Some w → x.asleep_until ≡ None) (pool_vcpu pool v) _ _ (λ none e. absurd (cc))
    (λ y at. by_cond (λ (o : Option VcpuId). o ≡ Some w → x.asleep_until ≡ None) (may_unit_run g pool u && is_awake y) (Some v) None
    (λ may e. (
    let same : v ≡ w = cc in
    let there : pool_vcpu pool w ≡ Some y = subst (λ (k : VcpuId). pool_vcpu pool k ≡ Some y) same at in
    let e2 : y ≡ x = cc in
    subst (λ (k : Vcpu). k.asleep_until ≡ None) e2 (none_is y.asleep_until (and_right (may_unit_run g pool u) (is_awake y) may))))
    (λ may e. absurd (cc)))) is

module _ (m : Machine) (checked : IsChecked m) (t : ℕ) where
  abbrev pub R : Pool → Type 0
  R pool = PoolFits m t pool

  -- the scripts of a domain of the file
  script_checked : (d n : ℕ) (config : DomConfig) (script : List Span) → slice_get m.config.domains d ≡ Some config → slice_get config.guests n ≡ Some script → IsCheckedScript script
  script_checked d n config script at guest =
      let domain = each_get (IsCheckedDomain m.config) m.config.domains d config (recursion_from_All (IsCheckedDomain m.config) m.config.domains checked.config.domains) at in
      each_get IsCheckedScript config.guests n script (recursion_from_All IsCheckedScript config.guests domain.scripts) guest

  -- what changes one part of a pool
  r_cores : (cores : List (Option Resource)) (pool : Pool) → length cores ≡ length pool.resources → EachPlace (CoreFits m t) cores → R pool → R (record pool { resources = cores })
  r_cores cores pool same each fits = record {
    domain_places = fits.domain_places;
    core_places = same ∙ fits.core_places;
    affinity_places = fits.affinity_places;
    queue = fits.queue;
    domains = fits.domains;
    cores = each;
    records = fits.records;
  }

  r_domains : (domains : List (Option Domain)) (pool : Pool) → length domains ≡ length pool.domains → EachAt (DomFits m t) domains → R pool → R (record pool { domains = domains })
  r_domains domains pool same each fits = record {
    domain_places = same ∙ fits.domain_places;
    core_places = fits.core_places;
    affinity_places = fits.affinity_places;
    queue = fits.queue;
    domains = each;
    cores = fits.cores;
    records = fits.records;
  }

  r_scheduler : (scheduler : Scheduler) (pool : Pool) → length scheduler.affinity ≡ length pool.scheduler.affinity → AllByRecursion (IsUnitOf m) scheduler.queue
      → RecordsFit (length m.config.domains) (machine_core_count m.config) t scheduler.records → R pool → R (record pool { scheduler = scheduler })
  r_scheduler scheduler pool same queue records fits = record {
    domain_places = fits.domain_places;
    core_places = fits.core_places;
    affinity_places = same ∙ fits.affinity_places;
    queue = queue;
    domains = fits.domains;
    cores = fits.cores;
    records = records;
  }

  r_change_core : (r : ℕ) (f : Resource → Resource) (pool : Pool) → ((c : Resource) → CoreFits m t c → CoreFits m t (f c)) → R pool → R (change_core r f pool)
  r_change_core r f pool keeps fits = r_cores (change_at r f pool.resources) pool (length_set r _ pool.resources) (EachPlace-change_at (CoreFits m t) r f pool.resources fits.cores (λ c at. keeps c)) fits

  -- a core of which only marks change
  marked_core : (c d : Resource) → IsMarked c d → CoreFits m t c → CoreFits m t d
  marked_core c d marked fits = record {
    cur = subst (IfUnit (IsUnitOf m)) (sym marked.keeps.cur) fits.cur;
    saving = subst (IfUnit (IsUnitOf m)) (sym marked.keeps.saving) fits.saving;
    since = subst (λ (a : Moment). a.0 ≤ t) (sym marked.keeps.since) fits.since;
    due = λ a e. fits.due a (sym marked.keeps.due ∙ e);
    count = marked.keeps.count ∙ fits.count;
    stalls = subst (AllByRecursion (NearProcessor t)) (sym marked.processors) fits.stalls;
  }

  r_change_processor : (p : ℕ) (f : Processor → Processor) (pool : Pool) → ((q : Processor) → NearProcessor t q → NearProcessor t (f q)) → R pool → R (change_processor m.config.granularity p f pool)
  r_change_processor p f pool keeps fits =
      r_change_core (p / m.config.granularity) (λ c. record c { processors = change_item (p % m.config.granularity) f c.processors }) pool
      (λ c here. record {
        cur = here.cur;
        saving = here.saving;
        since = here.since;
        due = here.due;
        count = length_change_item (p % m.config.granularity) f c.processors ∙ here.count;
        stalls = AllByRecursion-change_item (NearProcessor t) (p % m.config.granularity) f c.processors (λ q at. keeps q) here.stalls;
      }) fits

  r_change_vcpu : (v : VcpuId) (f : Vcpu → Vcpu) (pool : Pool) → ((x : Vcpu) (script : List Span) → pool_vcpu pool v ≡ Some x → IsCheckedScript script → VcpuFits t script x → VcpuFits t script (f x)) → R pool → R (change_vcpu v f pool)
  r_change_vcpu v f pool keeps fits =
      r_domains (change_at v.dom.0 (λ d. record d { vcpus = change_item v.n f d.vcpus }) pool.domains) pool (length_set v.dom.0 _ pool.domains)
      (EachAt-change_at (DomFits m t) v.dom.0 (λ d. record d { vcpus = change_item v.n f d.vcpus }) pool.domains fits.domains
      (λ x at here. record {
        config = here.config;
        at = here.at;
        count = length_change_item v.n f x.vcpus ∙ here.count;
        vcpus = λ n y script has guest. elim (read_change_item v.n n f x.vcpus y has) [
          | inl was ↦ here.vcpus n y script was.1 guest
          | inr r ↦ (
              let old : slice_get x.vcpus n ≡ Some r.0 = subst (λ k. slice_get x.vcpus k ≡ Some r.0) (sym r.2) r.1 in
              subst (VcpuFits t script) r.3 (keeps r.0 script (rw (pool_vcpu, vcpu_among, at) r.1) (script_checked v.dom.0 n here.config script here.at guest) (here.vcpus n r.0 script old guest)))
        ];
      })) fits

  r_change_domain : (d : ℕ) (f : Domain → Domain) (pool : Pool) → ((x : Domain) → (f x).vcpus ≡ x.vcpus) → R pool → R (change_domain d f pool)
  r_change_domain d f pool same fits =
      r_domains (change_at d f pool.domains) pool (length_set d _ pool.domains) (EachAt-change_at (DomFits m t) d f pool.domains fits.domains (λ x at here. dom_kept d x (f x) (same x) here)) fits
    where
      dom_kept : (d : ℕ) (x y : Domain) → y.vcpus ≡ x.vcpus → DomFits m t d x → DomFits m t d y
      dom_kept d x y same here = record {
        config = here.config;
        at = here.at;
        count = ap length same ∙ here.count;
        vcpus = λ n z script has guest. here.vcpus n z script (subst (λ (xs : List Vcpu). slice_get xs n ≡ Some z) same has) guest;
      }

  -- a runnable unit is one of a domain of the file
  runs_is_unit : (pool : Pool) (u : UnitId) → may_unit_run m.config.granularity pool u ≡ true → R pool → IsUnitOf m u
  runs_is_unit pool u runs fits =
      let found = some-test_at pool.domains u.dom.0 (λ d. unit_runnable m.config.granularity d u.n) runs in
      let domain : DomFits m t u.dom.0 found.0 = fits.domains u.dom.0 found.0 found.1 in
      let within = part_past is_awake m.config.granularity (u.n * m.config.granularity) found.0.vcpus (and_right (not found.0.paused && is_none found.0.moving) _ found.2) in
      let same = domain.count in
      record { config = domain.config; at = domain.at; inside = omega (arith, within, same) }

  r_queue_unit : (u : UnitId) (pool : Pool) → IsUnitOf m u → R pool → R (pools.queue_unit u pool)
  r_queue_unit u pool is fits = r_scheduler (policy.scheduler_with_queued u pool.scheduler) pool refl (AllByRecursion-push (IsUnitOf m) pool.scheduler.queue u fits.queue is) fits.records fits

  r_started_on : (p : ℕ) (v : VcpuId) (pool : Pool) → ((x : Vcpu) → pool_vcpu pool v ≡ Some x → x.asleep_until ≡ None) → R pool → R (started_on m.config.granularity t p v pool)
  r_started_on p v pool awake fits =
      r_change_processor p (does (Guest v)) (change_vcpu v (λ x. record x { started = Some (moment t) }) pool) (λ q near. near)
      (r_change_vcpu v (λ x. record x { started = Some (moment t) }) pool (λ x script has ok. vcpu_started t script x (awake x has)) fits)

  r_commands : KeptByCommands m.config.granularity R
  r_commands = record {
    marks = λ cores pool like fits. r_cores cores pool like.count (EachAt-like IsMarked (λ r. CoreFits m t) pool.resources cores like (λ r. marked_core) fits.cores) fits;
    queues = λ u pool runs fits. r_queue_unit u pool (runs_is_unit pool u runs fits) fits;
    dequeues = λ d pool fits. r_scheduler (policy.scheduler_without_queued d pool.scheduler) pool refl (AllByRecursion-filter (IsUnitOf m) (IsUnitOf m) (λ u. not (u.dom.0 == d)) (λ u passes ok. ok) pool.scheduler.queue fits.queue) fits.records fits;
    pausing = λ d paused pool. r_change_domain d (λ x. record x { paused = paused }) pool (λ x. refl);
  }

  -- the events
  r_wakes : (v : VcpuId) (pool : Pool) → enabled_in m.config.granularity t pool (Wake v) ≡ true → R pool → R (change_vcpu v pools.woken_vcpu pool)
  r_wakes v pool on fits = r_change_vcpu v pools.woken_vcpu pool (λ x script has ok. vcpu_woken t script x ok (subst (λ (o : Option Vcpu). elim o as (λ _. Bool) [ None ↦ false | Some y ↦ has_moment_come t y.asleep_until ] ≡ true) has on)) fits

  r_blocks : (q : ℕ) (v : VcpuId) (pool : Pool) → running_guest m.config.granularity pool q ≡ Some v → enabled_in m.config.granularity t pool (Block (processor q)) ≡ true → R pool → R (change_processor m.config.granularity q (does Idle) (change_vcpu v (pools.put_to_sleep t) pool))
  r_blocks q v pool is on fits =
      let first = and_left (elim (running_guest m.config.granularity pool q) as (λ _. Bool) [ None ↦ false | Some w ↦ elim (pool_vcpu pool w) as (λ _. Bool) [ None ↦ false | Some x ↦ has_moment_come t (pools.done_moment x) ] ]) _ on in
      r_change_processor q (does Idle) (change_vcpu v (pools.put_to_sleep t) pool) (λ p near. near)
      (r_change_vcpu v (pools.put_to_sleep t) pool (λ x script has ok. vcpu_slept t script x ok (rw (is, has) at first)) fits)

  r_after_arrive : (q : ℕ) (pool : Pool) → R pool → R (pools.after_arrive m.config.granularity t q pool)
  r_after_arrive q pool fits =
      by_option (λ (next : Pool). R (change_processor m.config.granularity q (does Held) next)) (running_guest m.config.granularity pool q) _ _
      (λ is. r_change_processor q (does Held) pool (λ p near. near) fits)
      (λ v is. r_change_processor q (does Held) (change_vcpu v (pools.stopped_vcpu t) pool) (λ p near. near) (r_change_vcpu v (pools.stopped_vcpu t) pool (λ x script has ok. vcpu_stopped t script x) fits))

  r_after_leave : (q : ℕ) (c : Resource) (pool : Pool) → R pool → R (pools.after_leave m.config.granularity t q c pool)
  r_after_leave q c pool fits =
      by_option (λ (next : Pool). R (change_core (q / m.config.granularity) pools.reopened_core next)) (vcpu_to_run m.config.granularity pool c (q % m.config.granularity)) _ _
      (λ is. kept_opened r_commands (q / m.config.granularity) (change_processor m.config.granularity q (does Idle) pool) (r_change_processor q (does Idle) pool (λ p near. near) fits))
      (λ v is. kept_opened r_commands (q / m.config.granularity) (started_on m.config.granularity t q v pool) (r_started_on q v pool (taken_is_awake m.config.granularity pool c (q % m.config.granularity) v is) fits))

  r_after_decide : (r : ℕ) (c : Resource) (pool : Pool) → at_place pool.resources r ≡ Some c → R pool → R (pools.after_decide m.config.granularity t r c pool)
  r_after_decide r c pool at fits =
      let ask : Ask = core_ask m.config.granularity t pool r c in
      let decision : Decision = decision_of ask pool.scheduler in
      let here : CoreFits m t c = fits.cores r c at in
      let good : DecisionFits (length m.config.domains) (machine_core_count m.config) t decision = decision_fits (length m.config.domains) (machine_core_count m.config) pool.scheduler.records ask pool.scheduler refl fits.records in
      let unit : IfUnit (IsUnitOf m) decision.unit = decision_has (IsUnitOf m) ask pool.scheduler fits.queue (λ u own runs. subst (IfUnit (IsUnitOf m)) own here.cur) in
      let decided_fits : CoreFits m t (decided_core t decision c) = by_test (CoreFits m t) (same_choice decision.unit c.cur) _ _
      (λ is. record { cur = here.cur; saving = here.saving; since = here.since; due = good.due; count = here.count; stalls = here.stalls })
      (λ is. record { cur = unit; saving = here.cur; since = omega arith; due = good.due; count = here.count; stalls = here.stalls }) in
      record {
        domain_places = fits.domain_places;
        core_places = length_set r _ pool.resources ∙ fits.core_places;
        affinity_places = fits.affinity_places;
        queue = by_option (AllByRecursion (IsUnitOf m)) decision.unit _ _ (λ is. fits.queue) (λ u is. AllByRecursion-filter (IsUnitOf m) (IsUnitOf m) (λ w. not (same_unit u w)) (λ w passes ok. ok) pool.scheduler.queue fits.queue);
        domains = fits.domains;
        cores = EachPlace-put_at (CoreFits m t) r (decided_core t decision c) pool.resources fits.cores decided_fits;
        records = good.records;
      }

  due_less : (budget : ℕ) (o : Option Moment) (a : Moment) → option_map (λ (due : Moment). moment (min (t + budget) due.0)) o ≡ Some a → (b : Moment) × (o ≡ Some b) × (a.0 ≤ b.0)
  due_less budget None a e = absurd (cc)
  due_less budget (Some b) a e = (let f : ◌≡◌ {A = Moment} (moment (min (t + budget) b.0)) a = cc in (b, refl, subst (λ (x : Moment). x.0 ≤ b.0) f (min_below (t + budget) b.0)))
    where
      min_below : (k n : ℕ) → min k n ≤ n
      min_below k n = grind arith

  r_steps : KeptBySteps m.config.granularity t (Enabled m.config.granularity t) R
  r_steps = record {
    pends = kept_pending r_commands;
    queues = r_commands.queues;
    wakes = r_wakes;
    joins = λ v r q pool is is2 idle awake. r_started_on (r * m.config.granularity + v.n % m.config.granularity) v pool awake;
    blocks = r_blocks;
    arrives = λ q pool on. r_after_arrive q pool;
    decides = λ r c pool at on. r_after_decide r c pool at;
    leaves = λ q c pool at on. r_after_leave q c pool;
    saves = λ r c u pool at is on. r_change_core r pools.saved_core pool (λ x old. record { cur = old.cur; saving = tt; since = old.since; due = old.due; count = old.count; stalls = old.stalls });
    replenishes = λ u pool on fits. r_scheduler (record pool.scheduler { records = policy.records_after_replenish pool.scheduler.records t u }) pool refl fits.queue
        (replenish_fits (length m.config.domains) (machine_core_count m.config) t pool.scheduler.records u (and_right _ (policy.is_replenish_due pool.scheduler.records t u) (and_left _ (pools.is_lowest_processor_up t pool) on)) fits.records) fits;
    dues = λ r u x old pool on is. r_change_core r (pools.due_within t x.budget) pool
        (λ c here. record { cur = here.cur; saving = here.saving; since = here.since; due = λ a e. (let b = due_less x.budget c.due a e in let l = here.due b.0 b.1 in let k = b.2 in omega (arith, l, k)); count = here.count; stalls = here.stalls });
    refills = λ d pool on fits. r_scheduler (record pool.scheduler { records = policy.records_after_refill pool.scheduler.records t d }) pool refl fits.queue
        (refill_fits (length m.config.domains) (machine_core_count m.config) t pool.scheduler.records d (and_left (has_moment_come t (policy.next_refill_moment pool.scheduler.records d)) (pools.is_lowest_processor_up t pool) on) fits.records) fits;
  }

  affinity_kept : (change : ParamChange) (affinity : List (Option (List Cores))) → length (changed_affinity change affinity) ≡ length affinity
  affinity_kept (changes.Pin d unit cores) affinity = length_set d.0 _ affinity
  affinity_kept change affinity = refl

  r_caps : (d : ℕ) (pool : Pool) → R pool → R (change_cores_of d (capped t) pool)
  r_caps d pool fits =
      let Fits : Resource → Resource → Type 0 = λ c e. CoreFits m t c → CoreFits m t e in
      let like : LikePlaces Fits pool.resources (change_cores_of d (capped t) pool).resources =
      like_of_domain Fits d (capped t) pool.resources (λ c old. old)
      (λ c old. record { cur = old.cur; saving = old.saving; since = old.since; due = λ a e. (let f : ◌≡◌ {A = Moment} (moment t) a = cc in subst (λ (b : Moment). b.0 ≤ t + most_span) f (omega arith)); count = old.count; stalls = old.stalls }) in
      r_cores _ pool like.count (EachAt-like Fits (λ r. CoreFits m t) pool.resources _ like (λ r c e to. to) fits.cores) fits

  pub r_set_params : (change : ParamChange) (pool : Pool) → ChangeFits change → R pool → R (changed_pool change t pool)
  r_set_params change pool good fits =
      kept_marked r_commands t r_caps change (record pool { scheduler = policy.changed_scheduler change t pool.scheduler })
      (r_scheduler (policy.changed_scheduler change t pool.scheduler) pool (affinity_kept change pool.scheduler.affinity) fits.queue (changed_fits (length m.config.domains) (machine_core_count m.config) t pool.scheduler.records change good fits.records) fits)

  r_set_rtds_unit : (period budget : Option Span) (extra : Option Bool) (u : UnitId) (pool : Pool) → RtdsFits period budget → R pool → R (pool_with_rtds_unit t period budget extra u pool)
  r_set_rtds_unit period budget extra u pool good fits =
      by_option R (unit_rtds_record pool.scheduler.records u) _ _ (λ is. fits)
      (λ x is. r_scheduler (policy.changed_scheduler (changes.«Unit» u (unwrap_or period (span x.next_period)) (unwrap_or budget (span x.next_budget)) (unwrap_or extra x.next_extra)) t pool.scheduler) pool refl fits.queue
      (unit_fits (length m.config.domains) (machine_core_count m.config) t pool.scheduler.records u x period budget (unwrap_or extra x.next_extra) is good.0 good.1 fits.records) fits)

  pub r_with_domain : (d : ℕ) (domain : Domain) (params : DomParams) (pool : Pool) → ParamsInRange params → DomFits m t d domain → R pool → R (pool_with_domain m.config.granularity t d domain params pool)
  r_with_domain d domain params pool good comes fits =
      let count : ℕ = pools.domain_unit_count m.config.granularity domain in
      kept_queue_units r_commands d (numbers_from 0 count) (record pool { domains = put_at d domain pool.domains; scheduler = policy.joined_scheduler d count params t pool.scheduler })
      (r_scheduler (policy.joined_scheduler d count params t pool.scheduler) (record pool { domains = put_at d domain pool.domains }) (length_set d _ pool.scheduler.affinity) fits.queue
      (joined_fits (length m.config.domains) (machine_core_count m.config) t pool.scheduler.records params d count good fits.records)
      (r_domains (put_at d domain pool.domains) pool (length_set d _ pool.domains) (EachAt-put_at (DomFits m t) d domain pool.domains fits.domains comes) fits))

  r_without_domain : (d : ℕ) (pool : Pool) → R pool → R (pool_without_domain d pool)
  r_without_domain d pool fits =
      r_scheduler (policy.parted_scheduler d pool.scheduler) (record pool { domains = clear_at d pool.domains }) (length_set d None pool.scheduler.affinity) fits.queue
      (parted_fits (length m.config.domains) (machine_core_count m.config) t pool.scheduler.records d fits.records)
      (r_domains (clear_at d pool.domains) pool (length_set d None pool.domains) (EachAt-clear_at (DomFits m t) d pool.domains fits.domains) fits)

  -- a core that joins
  pub fresh_core_fits : (ends : List Moment) → EndsFit m t ends → CoreFits m t (joined_core ends)
  fresh_core_fits ends good = record {
    cur = tt;
    saving = tt;
    since = omega arith;
    due = λ a e. absurd (cc);
    count = length-map ends _ ∙ good.count;
    stalls = near_fresh ends good.near;
  }
    where
      near_fresh : (ends : List Moment) → AllByRecursion (λ (e : Moment). NearEnd t e.0) ends → AllByRecursion (NearProcessor t) (joined_core ends).processors
      near_fresh [] near = tt
      near_fresh (e ∷ ends) near = (near.0, near_fresh ends near.1)

  -- the ends of a core that goes
  ends_of : (ps : List Processor) → AllByRecursion (NearProcessor t) ps → AllByRecursion (λ (e : Moment). NearEnd t e.0) (map (λ (p : Processor). p.stall_end) ps)
  ends_of [] near = tt
  ends_of (p ∷ ps) near = (near.0, ends_of ps near.1)

  pub range_steps : IsKeptAt m t (NearEnd t) (EndsFit m t) (DomFits m t) (PoolFits m t) (PoolFits m t)
  range_steps = record {
    stays = λ pool fits. fits;
    weakens = λ pool fits. fits;
    settles = kept_settled r_commands t;
    stalls = λ p end pool near fits. r_change_processor p (λ q. record q { stall_end = moment end }) pool (λ q old. near) fits;
    acts = λ pool action of. kept_by_event r_steps pool action;
    leaves = kept_set_leaving r_commands;
    moves = λ d i pool fits. kept_withdrawn r_commands d (change_domain d (λ x. record x { moving = Some (pool_number i) }) pool) (r_change_domain d (λ x. record x { moving = Some (pool_number i) }) pool (λ x. refl) fits);
    pauses = kept_pause r_commands;
    unpauses = kept_unpause r_commands;
    changes = r_set_params;
    rtds = r_set_rtds_unit;
    core_comes = λ r ends pool none good fits. r_cores (put_at r (joined_core ends) pool.resources) pool (length_set r _ pool.resources) (EachPlace-put_at (CoreFits m t) r (joined_core ends) pool.resources fits.cores (fresh_core_fits ends good)) fits;
    ends_stall = λ k end ends near good. record { count = length_change_item k (λ old. moment end) ends ∙ good.count; near = AllByRecursion-change_item (λ (e : Moment). NearEnd t e.0) k (λ old. moment end) ends (λ e at old. near) good.near };
    ends_go = λ r c pool at fits. (let here : CoreFits m t c = fits.cores r c at in record { count = length-map c.processors _ ∙ here.count; near = ends_of c.processors here.stalls });
    core_goes = λ r pool on fits. r_cores (clear_at r pool.resources) pool (length_set r None pool.resources) (EachPlace-clear_at (CoreFits m t) r pool.resources fits.cores) fits;
    domain_is = λ d domain pool at fits. (let here : DomFits m t d domain = fits.domains d domain at in record { config = here.config; at = here.at; count = here.count; vcpus = here.vcpus });
    domain_comes = λ d domain pool stays none comes fits. r_with_domain d domain (standard_dom_params pool.scheduler.records) pool (default_fits pool.scheduler.records) comes fits;
    domain_goes = λ d pool on fits. r_without_domain d pool fits;
    domain_leaves = λ d pool null on fits. r_without_domain d pool fits;
    empty = λ kind. record {
      domain_places = length-replicate (length m.config.domains) None;
      core_places = length-replicate (machine_core_count m.config) None;
      affinity_places = length-replicate (length m.config.domains) None;
      queue = tt;
      domains = λ d x at. absurd (EachPlace-empty {X = Domain} (λ y. ⊥) (length m.config.domains) d x at);
      cores = EachPlace-empty (CoreFits m t) (machine_core_count m.config);
      records = fresh_fits (length m.config.domains) (machine_core_count m.config) t kind;
    };
  }
