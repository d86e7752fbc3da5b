-- In every state of a run each core has all its processors, and one that is neither leaving nor pending keeps nobody waiting until its due.
use Rattle.std.proofs.Common.{◌≡◌, ◌≤◌, ℕ, Bool, true, false, List, [], ◌∷◌, refl, arith, subst, sym, ◌∙◌, ap, cond, ◌⊎◌, inl, inr}
use Rattle.std.specs.Prelude.{Option, Some, None, is_some, length, replicate, map, filter, min, ◌&&◌, ◌+◌, nat_le, nat_lt, unwrap_or}
use Rattle.std.specs.List.{list_any, AllByRecursion}
use Rattle.std.proofs.lemmas.List.{length-replicate}
use Rattle.sched_base.specs.Numbers.{moment, domain as domain_number, pool as pool_number, span}
use Rattle.sched_base.specs.declared.Moment.{Moment}
use Rattle.sched_model.specs.declared.config.DomConfig.{DomConfig}
use Rattle.sched_model.specs.declared.event.Event.{Event}
use Rattle.sched_model.specs.declared.event.Entry.{Entry}
use Rattle.sched_model.specs.declared.state.Resource.{Resource}
use Rattle.sched_model.specs.Places.{at_place, put_at, numbers_from, least_number}
use Rattle.sched_model.specs.declared.machine.Machine.{Machine}
use Rattle.sched_model.specs.declared.state.State.{State}
use Rattle.sched_model.specs.declared.state.Pool.{Pool}
use Rattle.sched_model.specs.declared.state.FreeCore.{FreeCore}
use Rattle.sched_model.specs.State.{has_core_bit, may_unit_run}
use Rattle.sched_model.specs.Opening.{pool_at_opening, fresh_pool, pool_with_pins, opening, free_core_at_opening, pool_with_domains, pool_with_configured, joined_core, machine_core_count, domain_at_opening}
use Rattle.sched_model.specs.declared.action.Action.{Action}
use Rattle.sched_model.specs.Pool.{pool_core_set}
use Rattle.sched_model.specs.Commands.{pool_with_rtds_unit}
use Rattle.sched_model.specs.Machine.{is_action_enabled, first_enabled_action, moments, least_later_moment, next_in_horizon, after}
use Rattle.sched_model.specs.Runs.{Reached, event_action, named_next_moment, after_quiet, after_event, IsNextEvent, IsRunFrom, IsRun, run_start, after_entry, after_entries}
use Rattle.sched_model.specs.CheckedMachine.{IsChecked}
use Rattle.std.proofs.lemmas.List.{length-map}
use Rattle.sched_laws.specs.EachPlace.{EachPlace}
use Rattle.sched_laws.proofs.EachPlace.{EachPlace-empty, by_option, by_cond}
use Rattle.std.proofs.Math.Decide.{dec_le}
use Rattle.sched_laws.proofs.Kept.{IsApart}
use Rattle.sched_laws.proofs.ApartKept.{apart_after}
use Rattle.sched_laws.proofs.OwnUnits.{units_are_own}
use Rattle.sched_laws.specs.PoolFacts.{UnitsAreOwn}
use Rattle.sched_laws.proofs.Opened.{length_map_numbers, kept_opening, apart_opening, with_domains-resources, read_map, read_pools, pins_keep, domains_keep}
use Rattle.std.proofs.lemmas.List.Elements.{recursion_from_All}
use Rattle.sched_base.specs.declared.UnitId.{UnitId}
use Rattle.sched_base.specs.declared.Cores.{Cores}
use Rattle.sched_model.specs.declared.config.Config.{Config}
use Rattle.sched_model.specs.declared.config.PoolConfig.{PoolConfig}
use Rattle.sched_model.specs.declared.config.SchedKind.{SchedKind}
use Rattle.sched_model.specs.declared.config.SchedKind.TheVariants as kinds
use Rattle.sched_model.specs.declared.config.PoolParams.{PoolParams}
use Rattle.sched_model.specs.declared.config.PoolParams.TheVariants as pool_params
use Rattle.sched_model.specs.declared.config.ParamChange.TheVariants as changes
use Rattle.sched_model.specs.declared.state.ArincRecords.{ArincRecords}
use Rattle.sched_model.specs.declared.state.Domain.{Domain}
use Rattle.sched_model.specs.CheckedMachine.{IsCheckedPool, PoolParamsPass}
use Rattle.sched_model.specs.Policy.{standard_pool_params, empty_records, joined_scheduler, unit_rtds_record, standard_dom_params}
use Rattle.sched_model.specs.Pool.{change_domain, pool_with_queued_units, pool_with_queued_if_off, queue_unit, pool_with_domain, is_unit_off, domain_unit_count}
use Rattle.sched_laws.proofs.Window.{FitsMajor}
use Rattle.sched_laws.proofs.Due.{FrameFits, SameWindows, arinc_of, same_changed, same_joined, PoolFits, not_yet, d_parts, d_commands, d_set_params, d_with_domain, d_core_comes, d_core_goes, d_without_domain, d_later, d_set_rtds_unit}
use Rattle.sched_laws.proofs.Calm.{IsCalm, calm_settled, calm_change_processor, calm_later, calm_without_domain}
use Rattle.sched_laws.proofs.Events.{kept_settled, kept_processor, kept_by_parts, kept_set_leaving, kept_withdrawn, kept_pause, kept_unpause}
use Rattle.sched_laws.proofs.Steps.{IsKeptAt, FreeFits, step_after}
use Rattle.sched_base.proofs.Bools.{and_left}
use Rattle.sched_laws.proofs.Lists.{length_change_item}
use Rattle.sched_laws.proofs.Free.{free_after}
use Rattle.sched_base.specs.declared.Span.{Span}
use Rattle.sched_base.proofs.Lists.{each_get}

-- a pool without a frame, as each new one is
default_frame : (kind : SchedKind) (domains cores : ℕ) → FrameFits (empty_records (standard_pool_params kind) domains cores)
default_frame kinds.Arinc653 domains cores arinc frame is has =
    let e : ◌≡◌ {A = ArincRecords} (record { frame = None; installed = 0 }) arinc = cc in
    absurd (let f : None ≡ Some frame = ap (λ (a : ArincRecords). a.frame) e ∙ has in cc)
default_frame other domains cores arinc frame is has = absurd (cc)

-- the frame of a pool of the file
opened_frame : (config : Config) (kind : SchedKind) (params : PoolParams) (domains cores : ℕ) → PoolParamsPass config kind params → FrameFits (empty_records params domains cores)
opened_frame config kind (pool_params.Arinc653 None) domains cores passed arinc frame is has =
    let e : ◌≡◌ {A = ArincRecords} (record { frame = None; installed = 0 }) arinc = cc in
    absurd (let f : None ≡ Some frame = ap (λ (a : ArincRecords). a.frame) e ∙ has in cc)
opened_frame config kinds.Arinc653 (pool_params.Arinc653 (Some x)) domains cores passed arinc frame is has =
    let e : ◌≡◌ {A = ArincRecords} (record { frame = Some x; installed = 0 }) arinc = cc in
    let f : Some x ≡ Some frame = ap (λ (a : ArincRecords). a.frame) e ∙ has in
    let g : x ≡ frame = cc in
    subst FitsMajor g passed.fits
opened_frame config other (pool_params.Arinc653 (Some x)) domains cores passed arinc frame is has = absurd passed
opened_frame config kind other domains cores passed arinc frame is has = absurd (cc)

-- the domains of the file that join a pool leave its windows
with_pins-windows : (d n : ℕ) (pins : List Cores) (pool : Pool) → SameWindows pool.scheduler.records (pool_with_pins d n pins pool).scheduler.records
with_pins-windows d n pins pool =
    pins_keep (λ p. SameWindows pool.scheduler.records p.scheduler.records) (λ e k cores p same. same_changed p.scheduler.records (changes.Pin (domain_number e) (Some k) cores) 0 tt ∙ same) d n pins pool refl

queue_units-windows : (g d : ℕ) (units : List ℕ) (pool : Pool) → SameWindows pool.scheduler.records (pool_with_queued_units g d units pool).scheduler.records
queue_units-windows g d [] pool = refl
queue_units-windows g d (n ∷ ns) pool =
    let u : UnitId = record { dom = domain_number d; n = n } in
    queue_units-windows g d ns (pool_with_queued_if_off g u pool) ∙ by_cond (λ (p : Pool). SameWindows pool.scheduler.records p.scheduler.records) (may_unit_run g pool u && is_unit_off pool u) (queue_unit u pool) pool (λ is. refl) (λ is. refl)

with_configured-windows : (g d : ℕ) (joining : DomConfig) (pool : Pool) → SameWindows pool.scheduler.records (pool_with_configured g d joining pool).scheduler.records
with_configured-windows g d joining pool =
    let x : Domain = domain_at_opening joining in
    with_pins-windows d 0 joining.pins (pool_with_domain g 0 d x joining.params pool)
    ∙ queue_units-windows g d (numbers_from 0 (domain_unit_count g x)) (record pool { domains = put_at d x pool.domains; scheduler = joined_scheduler d (domain_unit_count g x) joining.params 0 pool.scheduler })
    ∙ same_joined pool.scheduler.records joining.params d (domain_unit_count g x) 0

with_domains-windows : (g i d : ℕ) (domains : List DomConfig) (pool : Pool) → SameWindows pool.scheduler.records (pool_with_domains g i d domains pool).scheduler.records
with_domains-windows g i d domains pool =
    domains_keep g i (λ p. SameWindows pool.scheduler.records p.scheduler.records) d domains (λ k joining p at home same. with_configured-windows g (d + k) joining p ∙ same) pool refl

own_set_rtds_unit : (g t : ℕ) (period budget : Option Span) (extra : Option Bool) (u : UnitId) (pool : Pool) → UnitsAreOwn pool → UnitsAreOwn (pool_with_rtds_unit t period budget extra u pool)
own_set_rtds_unit g t period budget extra u pool own =
    by_option UnitsAreOwn (unit_rtds_record pool.scheduler.records u) _ _ (λ is. own)
    (λ x is. (units_are_own g).inside.changes (changes.«Unit» u (unwrap_or period (span x.next_period)) (unwrap_or budget (span x.next_budget)) (unwrap_or extra x.next_extra)) t pool own)

-- all that is needed of the ends of a free core: there is one for each processor
abbrev pub NoEnd : ℕ → Type 0
NoEnd end = Unit {0}

abbrev pub NoDomain : ℕ → Domain → Type 0
NoDomain d domain = Unit {0}

abbrev pub Whole : ℕ → List Moment → Type 0
Whole g ends = length ends ≡ g

pub record PoolIsFit (m : Machine) (t : ℕ) (pool : Pool) : Type 0 where
  pub own : UnitsAreOwn pool
  pub fits : PoolFits (machine_core_count m.config) m.config.granularity t pool.scheduler.records pool.resources

pub record PoolIsReady (m : Machine) (t : ℕ) (pool : Pool) : Type 0 where
  pub fit : PoolIsFit m t pool
  pub calms : IsCalm t pool

module _ (m : Machine) (t : ℕ) where
  pub ready_steps : IsKeptAt m t NoEnd (Whole m.config.granularity) NoDomain (PoolIsReady m t) (PoolIsFit m t)
  ready_steps =
      let own = units_are_own m.config.granularity in
      let n : ℕ = machine_core_count m.config in
      let g : ℕ = m.config.granularity in
      record {
        stays = λ pool r. r;
        weakens = λ pool r. r.fit;
        settles = λ pool f. record { fit = record { own = own.inside.settles t pool f.own; fits = kept_settled (d_commands n g t) t pool f.fits }; calms = calm_settled t pool };
        stalls = λ p end pool fits r. record { fit = record { own = own.inside.stalls p end pool r.fit.own; fits = kept_processor (d_parts n g t) p (λ q. record q { stall_end = moment end }) pool r.fit.fits }; calms = calm_change_processor g t p (λ q. record q { stall_end = moment end }) pool r.calms };
        acts = λ pool action of on r. record { own = own.inside.acts t pool action on r.fit.own; fits = kept_by_parts (d_parts n g t) pool action tt r.fit.fits };
        leaves = λ r pool f. record { own = own.inside.leaves r pool f.own; fits = kept_set_leaving (d_commands n g t) r pool f.fits };
        moves = λ d i pool f. record { own = own.inside.moves d i pool f.own; fits = kept_withdrawn (d_commands n g t) d (change_domain d (λ x. record x { moving = Some (pool_number i) }) pool) f.fits };
        pauses = λ d pool f. record { own = own.inside.pauses d pool f.own; fits = kept_pause (d_commands n g t) d pool f.fits };
        unpauses = λ d pool f. record { own = own.inside.unpauses d pool f.own; fits = kept_unpause (d_commands n g t) d pool f.fits };
        changes = λ change pool good r. record { own = own.inside.changes change t pool r.fit.own; fits = d_set_params n g t change pool good r.fit.fits };
        core_comes = λ r ends pool none whole q. record { own = own.core_comes r ends pool none q.fit.own; fits = d_core_comes n g t r ends pool whole q.fit.fits };
        rtds = λ period budget extra u pool good f. record { own = own_set_rtds_unit m.config.granularity t period budget extra u pool f.own; fits = d_set_rtds_unit n g t period budget extra u pool f.fits };
        ends_stall = λ k end ends fits whole. length_change_item k (λ old. moment end) ends ∙ whole;
        ends_go = λ r c pool at q. length-map c.processors _ ∙ (q.fit.fits.cores r c at).processors;
        domain_is = λ d domain pool at q. tt;
        core_goes = λ r pool on q. record { own = own.core_goes t r pool on q.fit.own; fits = d_core_goes n g t r pool q.fit.fits };
        domain_comes = λ d domain pool stays none comes f. record { own = own.domain_comes t d domain (standard_dom_params pool.scheduler.records) pool stays none f.own; fits = d_with_domain n g t d domain (standard_dom_params pool.scheduler.records) pool f.fits };
        domain_goes = λ d pool on r. record { own = own.domain_goes t d pool on r.fit.own; fits = d_without_domain n g t d pool r.fit.fits };
        domain_leaves = λ d pool null on r. record { fit = record { own = own.domain_goes t d pool on r.fit.own; fits = d_without_domain n g t d pool r.fit.fits }; calms = calm_without_domain g t d pool null on r.fit.own r.calms };
        empty = λ kind. record {
          fit = record { own = own.empty m.config (standard_pool_params kind); fits = record { frame = default_frame kind (length m.config.domains) (machine_core_count m.config); count = length-replicate (machine_core_count m.config) None; cores = EachPlace-empty _ (machine_core_count m.config) } };
          calms = λ r c at. absurd (EachPlace-empty {X = Resource} (λ x. ⊥) (machine_core_count m.config) r c at);
        };
      }

-- what is known of every state
pub record IsReady (m : Machine) (s : State) : Type 0 where
  pub apart : IsApart s
  pub pools : EachPlace (PoolIsReady m s.now) s.pools
  pub free : FreeFits (Whole m.config.granularity) s

ready_after : (m : Machine) (s : State) (action : Action) → is_action_enabled m s s.now action ≡ true → IsReady m s → IsReady m (after m s s.now action)
ready_after m s action on ready =
    let free = free_after (ready_steps m s.now) s action ready.free (λ l is. tt) ready.pools in
    record {
      apart = apart_after m s s.now action on ready.apart;
      pools = subst (λ k. EachPlace (PoolIsReady m k) (after m s s.now action).pools) (sym free.0) (step_after (ready_steps m s.now) s action tt ready.apart ready.free (λ l is. tt) on ready.pools);
      free = free.1;
    }

pub ready_later : (m : Machine) (s : State) (next : ℕ) → s.now ≤ next → IsReady m s → IsReady m (record s { now = next })
ready_later m s next past ready = record {
  apart = record { cores = ready.apart.cores; domains = ready.apart.domains; free = ready.apart.free };
  free = ready.free;
  pools = λ i pool at. (
      let here : PoolIsReady m s.now pool = ready.pools i pool at in
      record {
        fit = record { own = here.fit.own; fits = d_later (machine_core_count m.config) m.config.granularity s.now next past pool.scheduler.records pool.resources here.fit.fits };
        calms = λ r c has stays decided low.
            calm_later s.now next (pool_core_set pool) pool.scheduler r c ((here.fit.fits.cores r c has).due stays decided next past low) (here.calms r c has stays decided (not_yet next s.now c.due past low));
      });
}

-- the next moment is a later one
min_is : (a b : ℕ) → (min a b ≡ a) ⊎ (min a b ≡ b)
min_is a b = elim (dec_le a b) [ yes le ↦ inl (omega (arith, le)) | no gt ↦ inr (omega (arith, gt)) ]

least_is : (P : ℕ → Type 0) (ns : List ℕ) (n : ℕ) → AllByRecursion P ns → least_number ns ≡ Some n → P n
least_is P [] n each is = absurd (cc)
least_is P (k ∷ ns) n each is =
    elim (least_number ns) as (λ o. least_number ns ≡ o → elim o as (λ _. Option ℕ) [ None ↦ Some k | Some j ↦ Some (min k j) ] ≡ Some n → P n) [
      | None ↦ λ e h. (let same : k ≡ n = cc in subst P same each.0)
      | Some j ↦ λ e h. (let p = least_is P ns j each.1 e in let same : min k j ≡ n = cc in subst P same (min_has k j each.0 p))
    ] refl is
  where
    min_has : (a b : ℕ) → P a → P b → P (min a b)
    min_has a b x y = elim (min_is a b) [ inl e ↦ subst P (sym e) x | inr e ↦ subst P (sym e) y ]

later_each : (t : ℕ) (test : ℕ → Bool) (ns : List ℕ) → AllByRecursion (λ n. t ≤ n) (filter (λ n. nat_lt t n && test n) ns)
later_each t test [] = tt
later_each t test (n ∷ ns) =
    elim (nat_lt t n && test n) as (λ b. (nat_lt t n && test n) ≡ b → AllByRecursion (λ k. t ≤ k) (cond b (n ∷ filter (λ k. nat_lt t k && test k) ns) (filter (λ k. nat_lt t k && test k) ns))) [
      | true ↦ λ is. (lt_le t n (and_left (nat_lt t n) (test n) is), later_each t test ns)
      | false ↦ λ is. later_each t test ns
    ] refl
  where
    lt_le : (a b : ℕ) → nat_lt a b ≡ true → a ≤ b
    lt_le a b is = grind arith

pub next_later : (m : Machine) (s : State) (next : ℕ) → next_in_horizon m s ≡ Some next → s.now ≤ next
next_later m s next is =
    by_option (λ (o : Option ℕ). o ≡ Some next → s.now ≤ next) (least_later_moment m s s.now) None (λ k. cond (nat_le k m.config.horizon.0) (Some k) None)
    (λ none e. absurd (cc))
    (λ k found. by_cond (λ (o : Option ℕ). o ≡ Some next → s.now ≤ next) (nat_le k m.config.horizon.0) (Some k) None
    (λ within e. (let same : k ≡ next = cc in subst (λ x. s.now ≤ x) same (least_is (λ n. s.now ≤ n) _ k (later_each s.now (λ later. is_some (first_enabled_action m s later)) (moments m s)) found))) (λ past e. absurd (cc))) is

ready_event : (m : Machine) (e : Event) (action : Option Action) (from : Reached) → IsNextEvent m from.state e action → IsReady m from.state → IsReady m (after_event m e action from).state
ready_event m e None from next ready = ready_quiet (named_next_moment e) next.1
  where
    ready_quiet : (end : Option ℕ) → next_in_horizon m from.state ≡ end → IsReady m (after_quiet end from).state
    ready_quiet None is = ready
    ready_quiet (Some later) is = ready_later m from.state later (next_later m from.state later is) ready
ready_event m e (Some action) from next ready = ready_after m from.state action next.0 ready

ready_from : (m : Machine) (from : Reached) (entries : List Entry) → IsRunFrom m from entries → IsReady m from.state → IsReady m (after_entries m from entries).state
ready_from m from [] run ready = ready
ready_from m from (entry ∷ entries) run ready = ready_from m (after_entry m from entry) entries run.1 (ready_event m entry.event (event_action entry.event) from run.0.event ready)

-- at the opening all cores are fresh
opening_frame : (config : Config) (p : PoolConfig) (i : ℕ) (pool : Pool) → pool ≡ pool_at_opening config i p → PoolParamsPass config p.kind p.params → FrameFits pool.scheduler.records
opening_frame config p i pool is passed arinc frame at has =
    let same = with_domains-windows config.granularity i 0 config.domains (record (fresh_pool config p.params) { resources = map (λ r. cond (has_core_bit p.cores r) (Some (joined_core (replicate config.granularity (moment 0)))) None) (numbers_from 0 (machine_core_count config)) }) in
    opened_frame config p.kind p.params (length config.domains) (machine_core_count config) passed arinc frame (sym same ∙ sym (ap (λ (x : Pool). arinc_of x.scheduler.records) is) ∙ at) has

ready_opening : (m : Machine) → IsChecked m → IsReady m (opening m)
ready_opening m checked = record {
  apart = apart_opening m checked;
  pools = λ i pool at. (
      let own : UnitsAreOwn pool = kept_opening m UnitsAreOwn (units_are_own m.config.granularity) i pool at in
      let r = read_pools m.config 0 _ m.config.pools i pool at in
      let cores : List (Option Resource) = map (λ r2. cond (has_core_bit r.0.cores r2) (Some (joined_core (replicate m.config.granularity (moment 0)))) None) (numbers_from 0 (machine_core_count m.config)) in
      let same : pool.resources ≡ cores = ap (λ (x : Pool). x.resources) r.2 ∙ with_domains-resources m.config.granularity (0 + i) 0 m.config.domains _ in
      let fresh : (n : ℕ) (c : Resource) → at_place pool.resources n ≡ Some c → joined_core (replicate m.config.granularity (moment 0)) ≡ c = λ n c has. (
      let e = read_map (λ r2. cond (has_core_bit r.0.cores r2) (Some (joined_core (replicate m.config.granularity (moment 0)))) None) 0 (machine_core_count m.config) n c (subst (λ (places : List (Option Resource)). at_place places n ≡ Some c) same has) in
      by_cond (λ (o : Option Resource). o ≡ Some c → joined_core (replicate m.config.granularity (moment 0)) ≡ c) (has_core_bit r.0.cores (0 + n)) (Some (joined_core (replicate m.config.granularity (moment 0)))) None (λ is h. cc) (λ is h. absurd (cc)) e) in
      record {
        fit = record {
          own = own;
          fits = record {
            frame = opening_frame m.config r.0 (0 + i) pool r.2 (each_get (IsCheckedPool m.config) m.config.pools i r.0 (recursion_from_All (IsCheckedPool m.config) m.config.pools checked.config.pools) r.1).params;
            count = ap length same ∙ length_map_numbers _ 0 (machine_core_count m.config);
            cores = λ n c has. record {
              processors = ap (λ (x : Resource). length x.processors) (sym (fresh n c has)) ∙ length-map (replicate m.config.granularity (moment 0)) _ ∙ length-replicate m.config.granularity (moment 0);
              due = λ stays decided later past low. absurd (let e : true ≡ false = ap (λ (x : Resource). x.pending) (fresh n c has) ∙ decided in cc);
            };
          };
        };
        calms = λ n c has stays decided low. absurd (let e : true ≡ false = ap (λ (x : Resource). x.pending) (fresh n c has) ∙ decided in cc);
      });
  free = λ r c at. (
      let e = read_map (free_core_at_opening m.config) 0 (machine_core_count m.config) r c at in
      by_cond (λ (o : Option FreeCore). o ≡ Some c → length c.stall_ends ≡ m.config.granularity) (list_any (λ pool. has_core_bit pool.cores (0 + r)) m.config.pools) None (Some (record { target = None; stall_ends = replicate m.config.granularity (moment 0) }))
      (λ is h. absurd (cc)) (λ is h. (let s : ◌≡◌ {A = FreeCore} (record { target = None; stall_ends = replicate m.config.granularity (moment 0) }) c = cc in ap (λ (x : FreeCore). length x.stall_ends) (sym s) ∙ length-replicate m.config.granularity (moment 0))) e);
}

pub ready_in_runs : (m : Machine) → IsChecked m → (entries : List Entry) → IsRun m entries → IsReady m (after_entries m (run_start m) entries).state
ready_in_runs m checked entries run = ready_from m (run_start m) entries run (ready_opening m checked)
