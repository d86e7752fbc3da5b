-- The numbers of what is answered to a command.
use Rattle.sched_laws.proofs.Judged.{by_demand, by_range, by_pool, by_domain}
use Rattle.std.proofs.Common.{◌≡◌, ◌<◌, ◌≤◌, ◌*◌, ◌/◌, ◌^◌, ℕ, zero, suc, Bool, true, false, not, List, [], ◌∷◌, refl, arith, length}
use Rattle.std.specs.Prelude.{Option, Some, None, Result, Ok, Err, is_some, is_none, option_map, unwrap_or, slice_get, sum_by, max, nat_le, nat_lt, bytes_eq, ◌&&◌, ◌||◌, ◌==◌}
use Rattle.std.specs.List.{AllByRecursion}
use Rattle.std.specs.Option.{IfSome}
use Rattle.std.specs.Result.{IfOk, IfErr}
use Rattle.std.proofs.lemmas.List.Elements.{recursion_from_All}
use Rattle.std.proofs.lemmas.List.Sums.{sum_by-cons}
use Rattle.sched_base.specs.Numbers.{span, pool as pool_number, domain as domain_number}
use Rattle.sched_base.specs.declared.UnitId.{UnitId}
use Rattle.sched_base.proofs.Lists.{each_get}
use Rattle.sched_model.specs.declared.machine.Machine.{Machine}
use Rattle.sched_model.specs.declared.command.Command.{Command}
use Rattle.sched_model.specs.declared.command.Command.TheVariants as command
use Rattle.sched_model.specs.declared.command.ArincEntry.{ArincEntry}
use Rattle.sched_model.specs.declared.command.Syntax.{Syntax}
use Rattle.sched_model.specs.declared.config.SchedKind.{SchedKind}
use Rattle.sched_model.specs.declared.config.SchedKind.TheVariants as kinds
use Rattle.sched_model.specs.declared.config.FrameEntry.{FrameEntry}
use Rattle.sched_model.specs.declared.event.Refusal.{Refusal}
use Rattle.sched_model.specs.declared.event.Refusal.TheVariants as refusal
use Rattle.sched_model.specs.declared.event.Reply.{Reply}
use Rattle.sched_model.specs.declared.event.Reply.TheVariants as reply
use Rattle.sched_model.specs.declared.event.Param.TheVariants as param
use Rattle.sched_model.specs.declared.plan.Plan.{Plan}
use Rattle.sched_model.specs.declared.plan.Plan.TheVariants as plan
use Rattle.sched_model.specs.declared.state.State.{State}
use Rattle.sched_model.specs.declared.state.Pool.{Pool}
use Rattle.sched_model.specs.declared.state.Domain.{Domain}
use Rattle.sched_model.specs.declared.state.RtdsUnit.{RtdsUnit}
use Rattle.sched_model.specs.declared.state.Credit2Domain.{Credit2Domain}
use Rattle.sched_model.specs.declared.state.Records.{Records}
use Rattle.sched_model.specs.declared.state.Records.TheVariants.{Credit2Pool, RtdsPool, ArincPool, NullPool}
use Rattle.sched_model.specs.declared.work.CommandLine.{CommandLine}
use Rattle.sched_model.specs.Places.{at_place, first_place, first_empty, numbered_items}
use Rattle.sched_model.specs.Opening.{machine_core_count}
use Rattle.sched_model.specs.CheckedMachine.{IsChecked, IsCheckedCommand, IsCheckedEntry, IsCheckedRange, IsGivenNumber, IsNumber, most_span}
use Rattle.sched_model.specs.Actions.{home_pool_of_core}
use Rattle.sched_model.specs.Policy.{records_kind, pool_rate_limit, unit_rtds_record, domain_credit2_record}
use Rattle.sched_model.specs.Pool.{domain_unit_count}
use Rattle.sched_model.specs.Machine.{line_verdict, answer_of}
use Rattle.sched_model.specs.Commands.{in_range, is_same_kind, name_fault, pool_named, last_core_fault, rtds_fault, rtds_units, cpu_refusal, elsewhere_refusal, has_vcpu, judged_command, meant_domain, demand, refused_by, judge_frame, judged_frame_entry, judged_frame_entries, cores_in, domains_in, judge_rtds, plan_reply}
use Rattle.sched_laws.proofs.EachPlace.{by_option, by_cond, found_at, place_below}
use Rattle.state_ranges.specs.Ranges.{RecordsInRange}
use Rattle.state_ranges.proofs.Rtds.{fit_unit}
use Rattle.state_ranges.specs.Fits.{RtdsFits}
use Rattle.state_ranges.proofs.RecordRanges.{RecordsFit}
use Rattle.sched_print.specs.Ranges.{IsPrintableReply, IsPrintableRefusal}
use Rattle.text_laws.proofs.Numbers.{Known, numbered_few, times_few, cores_few, domain_low, pool_low, home_low}

-- the numbers of a plan's reply, or of a refusal, are in their ranges
abbrev pub Says : Result Plan Refusal → Type 0
Says (Ok p) = IsPrintableReply (plan_reply p)
Says (Err fault) = IsPrintableRefusal fault

abbrev pub SaysAnswer : Result Reply Refusal → Type 0
SaysAnswer (Ok answer) = IsPrintableReply answer
SaysAnswer (Err fault) = IsPrintableRefusal fault

by_refused : (fault : Option Refusal) (next : Result Plan Refusal) → IfSome fault IsPrintableRefusal → Says next → Says (refused_by fault next)
by_refused None next refused goes = goes
by_refused (Some fault) next refused goes = refused

-- a number that is given
typed : (n : ℕ) → IsNumber n → n < 2 ^ 63
typed n low = omega (arith, low)

given : (n : Option ℕ) (other : ℕ) → IsGivenNumber n → other ≤ most_span → unwrap_or n other < 2 ^ 63
given None other low small = omega (arith, small)
given (Some n) other low small = typed n low

-- the entries of a frame
abbrev EntrySays : Result FrameEntry Refusal → Type 0
EntrySays (Ok e) = e.run.0 ≤ 1000000000000000
EntrySays (Err fault) = IsPrintableRefusal fault

abbrev FrameSays : ℕ → Result (List FrameEntry) Refusal → Type 0
FrameSays n (Ok frame) = sum_by (λ (e : FrameEntry). e.run.0) frame ≤ n * 1000000000000000
FrameSays n (Err fault) = IsPrintableRefusal fault

entry_says : (m : Machine) (e : ArincEntry) → IsCheckedEntry e → EntrySays (judged_frame_entry m e)
entry_says m e good =
    let run = good.run in
    by_option EntrySays (meant_domain m e.dom) _ _ (λ is. tt)
    (λ d is. by_option EntrySays (slice_get m.config.domains d) _ _ (λ is2. tt)
    (λ domain is2. by_demand EntrySays (nat_lt (e.unit * m.config.granularity) (length domain.guests)) _ _ tt
    (λ is. by_demand EntrySays (nat_le 1 e.run) _ _ (typed e.run run) (λ is. omega (arith, run)))))

frame_says : (m : Machine) (entries : List ArincEntry) → AllByRecursion IsCheckedEntry entries → FrameSays (length entries) (judged_frame_entries m entries)
frame_says m [] good = omega arith
frame_says m (e ∷ entries) good = joins (judged_frame_entry m e) (judged_frame_entries m entries) (entry_says m e good.0) (frame_says m entries good.1)
  where
    joins : (first : Result FrameEntry Refusal) (rest : Result (List FrameEntry) Refusal) → EntrySays first → FrameSays (length entries) rest
        → FrameSays (suc (length entries)) (elim first as (λ _. Result (List FrameEntry) Refusal) [ Err fault ↦ Err fault | Ok entry ↦ elim rest as (λ _. Result (List FrameEntry) Refusal) [ Err fault ↦ Err fault | Ok frame ↦ Ok (entry ∷ frame) ] ])
    joins (Err fault) rest a b = a
    joins (Ok entry) (Err fault) a b = b
    joins (Ok entry) (Ok frame) a b = (let sum = sum_by-cons (λ (x : FrameEntry). x.run.0) entry frame in omega (arith, a, b, sum))

judged_frame : (m : Machine) (i major : ℕ) (entries : List ArincEntry) → IsNumber major → length entries ≤ 64 → AllByRecursion IsCheckedEntry entries → Says (judge_frame m i major entries)
judged_frame m i major entries low few good = says (judged_frame_entries m entries) (frame_says m entries good)
  where
    says : (r : Result (List FrameEntry) Refusal) → FrameSays (length entries) r → Says (elim r as (λ _. Result Plan Refusal) [
      | Err fault ↦ Err fault
      | Ok frame ↦ demand (nat_le (sum_by (λ e. e.run.0) frame) major) (refusal.FrameLong (sum_by (λ e. e.run.0) frame) major) (Ok (plan.ArincSet (pool_number i) (record { major = span major; entries = frame }) reply.Done))
    ])
    says (Err fault) sum = sum
    says (Ok frame) sum = by_demand Says (nat_le (sum_by (λ (e : FrameEntry). e.run.0) frame) major) _ _ (omega (arith, sum, few), typed major low) (λ is. tt)

-- the records of a domain's RTDS units
pub record_fits : (domains cores t : ℕ) (records : Records) (u : UnitId) (x : RtdsUnit) → RecordsFit domains cores t records → unit_rtds_record records u ≡ Some x → RtdsFits t x
record_fits domains cores t (Credit2Pool records) u x fits is = absurd (cc)
record_fits domains cores t (RtdsPool units) u x fits is = fit_unit t units u x is fits.units
record_fits domains cores t (ArincPool records) u x fits is = absurd (cc)
record_fits domains cores t (NullPool kept) u x fits is = absurd (cc)

units_fit : (domains cores t : ℕ) (pool : Pool) (d first count : ℕ) → RecordsFit domains cores t pool.scheduler.records → AllByRecursion (RtdsFits t) (rtds_units pool d first count)
units_fit domains cores t pool d first zero fits = tt
units_fit domains cores t pool d first (suc count) fits =
    by_option (AllByRecursion (RtdsFits t)) (unit_rtds_record pool.scheduler.records (record { dom = domain_number d; n = first })) _ _ (λ is. tt)
    (λ x is. (record_fits domains cores t pool.scheduler.records (record { dom = domain_number d; n = first }) x fits is, units_fit domains cores t pool d (suc first) count fits))

fault_says : (t : ℕ) (period budget : Option ℕ) (units : List RtdsUnit) → IsGivenNumber period → IsGivenNumber budget → AllByRecursion (RtdsFits t) units → IfSome (rtds_fault period budget units) IsPrintableRefusal
fault_says t period budget [] low small fits = tt
fault_says t period budget (x ∷ units) low small fits =
    let Q : Option Refusal → Type 0 = λ o. IfSome o IsPrintableRefusal in
    let p : ℕ = unwrap_or period (x.next_period / 1000) in
    let b : ℕ = unwrap_or budget (x.next_budget / 1000) in
    let most = fits.0.next_period.most in
    let most2 = fits.0.next_budget.most in
    goes (in_range 10 1000000000 p) (in_range 10 p b) p b (rtds_fault period budget units) (given period (x.next_period / 1000) low (omega (arith, most))) (given budget (x.next_budget / 1000) small (omega (arith, most2))) (fault_says t period budget units low small fits.1)
  where
    goes : (first second : Bool) (p b : ℕ) (rest : Option Refusal) → p < 2 ^ 63 → b < 2 ^ 63 → IfSome rest IsPrintableRefusal
        → IfSome (elim first as (λ _. Option Refusal) [ false ↦ Some (refusal.Range param.Period p) | true ↦ elim second as (λ _. Option Refusal) [ false ↦ Some (refusal.Range param.Budget b) | true ↦ rest ] ]) IsPrintableRefusal
    goes false second p b rest low small others = low
    goes true false p b rest low small others = small
    goes true true p b rest low small others = others

judged_rtds : (domains cores t : ℕ) (pool : Pool) (d first count : ℕ) (period budget : Option ℕ) (extra : Option Bool) → IsGivenNumber period → IsGivenNumber budget → RecordsFit domains cores t pool.scheduler.records → Says (judge_rtds pool d first count period budget extra)
judged_rtds domains cores t pool d first count period budget extra low small fits =
    by_refused (rtds_fault period budget (rtds_units pool d first count)) _ (fault_says t period budget (rtds_units pool d first count) low small (units_fit domains cores t pool d first count fits))
    (by_option IsPrintableReply (slice_get (rtds_units pool d first 1) 0) _ _ (λ is. tt)
    (λ x is.
    let here = each_get (RtdsFits t) (rtds_units pool d first 1) 0 x (units_fit domains cores t pool d first 1 fits) is in
    let most = here.next_period.most in
    let most2 = here.next_budget.most in
    by_cond IsPrintableReply (is_none period && is_none budget && is_none extra) _ _ (λ asks. (omega (arith, most), omega (arith, most2))) (λ asks. tt)))

-- processors of a pin
cpus_say : (processors : ℕ) (ranges : List (ℕ × ℕ)) → processors ≤ 64 → AllByRecursion IsCheckedRange ranges → IfSome (cpu_refusal processors ranges) IsPrintableRefusal
cpus_say processors [] few good = tt
cpus_say processors (e ∷ ranges) few good = goes (nat_lt e.1 processors) (cpu_refusal processors ranges) (cpus_say processors ranges few good.1)
  where
    least : max e.0 processors < 2 ^ 63
    least = (let ordered = good.0.0 in let low = good.0.1 in omega (arith, ordered, low, few))

    goes : (test : Bool) (rest : Option Refusal) → IfSome rest IsPrintableRefusal → IfSome (elim test as (λ _. Option Refusal) [ true ↦ rest | false ↦ Some (refusal.NoCpu (max e.0 processors)) ]) IsPrintableRefusal
    goes true rest others = others
    goes false rest others = least

elsewhere_says : (m : Machine) (pool : Pool) (ranges : List (ℕ × ℕ)) → AllByRecursion IsCheckedRange ranges → IfSome (elsewhere_refusal m.config pool ranges) IsPrintableRefusal
elsewhere_says m pool [] good = tt
elsewhere_says m pool (e ∷ ranges) good =
    let ordered = good.0.0 in
    let low = good.0.1 in
    by_cond (λ (o : Option Refusal). IfSome o IsPrintableRefusal) _ (Some (refusal.CpuElsewhere e.0)) None (λ none. omega (arith, ordered, low)) (λ some. tt)

weights_say : (m : Machine) (t : ℕ) (records : Records) (d : ℕ) (x : Credit2Domain) → RecordsInRange m t records → domain_credit2_record records d ≡ Some x → IsPrintableReply (reply.Weight x.weight x.cap)
weights_say m t (Credit2Pool records) d x range is = (let here = range.2 d x is in let a = here.weight.most in let b = here.cap in (omega (arith, a), omega (arith, b)))
weights_say m t (RtdsPool units) d x range is = absurd (cc)
weights_say m t (ArincPool records) d x range is = absurd (cc)
weights_say m t (NullPool kept) d x range is = absurd (cc)

rate_says : (m : Machine) (t : ℕ) (records : Records) → RecordsInRange m t records → pool_rate_limit records < 2 ^ 63
rate_says m t (Credit2Pool records) range = (let a = range.1 in omega (arith, a))
rate_says m t (RtdsPool units) range = omega arith
rate_says m t (ArincPool records) range = omega arith
rate_says m t (NullPool kept) range = omega arith

module _ (m : Machine) (checked : IsChecked m) (s : State) (known : Known m s) where
  low : (i : ℕ) (pool : Pool) → at_place s.pools i ≡ Some pool → i < 16
  low i pool at = pool_low m checked s known i pool at

  cores_low : (i : ℕ) (pool : Pool) → at_place s.pools i ≡ Some pool → cores_in pool * m.config.granularity < 2 ^ 63
  cores_low i pool at =
      let few = numbered_few 0 pool.resources in
      let places = (known.range.pools i pool at).core_places in
      let most = cores_few m checked in
      let times = times_few m checked (cores_in pool) (omega (arith, few, places, most)) in
      omega (arith, times)

  domains_low : (i : ℕ) (pool : Pool) → at_place s.pools i ≡ Some pool → domains_in pool < 2 ^ 63
  domains_low i pool at =
      let few = numbered_few 0 pool.domains in
      let places = (known.range.pools i pool at).domain_places in
      let most = checked.config.few_domains in
      omega (arith, few, places, most)

  pools_low : length (numbered_items 0 s.pools) < 2 ^ 63
  pools_low = (let few = numbered_few 0 s.pools in let places = known.range.pool_places in omega (arith, few, places))

  free_low : length (numbered_items 0 s.free) * m.config.granularity < 2 ^ 63
  free_low =
      let few = numbered_few 0 s.free in
      let places = known.range.free_places in
      let most = cores_few m checked in
      let times = times_few m checked (length (numbered_items 0 s.free)) (omega (arith, few, places, most)) in
      omega (arith, times)

  name_says : (name : List ℕ) (counts : ℕ → Bool) → IfSome (name_fault s name counts) IsPrintableRefusal
  name_says name counts =
      by_option (λ (o : Option Refusal). IfSome o IsPrintableRefusal) (pool_named s name) _ _ (λ is. tt)
      (λ i is. by_cond (λ (o : Option Refusal). IfSome o IsPrintableRefusal) (counts i) _ _
      (λ taken. (let f = found_at i (bytes_eq name) s.names is in let b = place_below s.names i f.0 f.1 in let e = known.range.name_places in omega (arith, b, e)))
      (λ other. tt))

  created_says : (i : Option ℕ) (name : List ℕ) (kind : SchedKind) → Says (elim i as (λ _. Result Plan Refusal) [ None ↦ Err refusal.PoolsFull | Some n ↦ Ok (plan.PoolCreate (pool_number n) name kind reply.Done) ])
  created_says None name kind = tt
  created_says (Some n) name kind = tt

  home_says : (cpu r : ℕ) → IsNumber cpu → IfSome (option_map (λ home. refusal.CpuTaken cpu (pool_number home)) (home_pool_of_core s r)) IsPrintableRefusal
  home_says cpu r number = says (home_pool_of_core s r) refl
    where
      says : (o : Option ℕ) → home_pool_of_core s r ≡ o → IfSome (option_map (λ home. refusal.CpuTaken cpu (pool_number home)) o) IsPrintableRefusal
      says None is = tt
      says (Some i) is = (typed cpu number, home_low m checked s known r i is)

  last_says : (i : ℕ) (pool : Pool) → at_place s.pools i ≡ Some pool → IfSome (last_core_fault i pool) IsPrintableRefusal
  last_says i pool at = by_cond (λ (o : Option Refusal). IfSome o IsPrintableRefusal) (cores_in pool == 1) _ None (λ one. says (first_place 0 (λ domain. true) pool.domains) refl) (λ other. tt)
    where
      says : (o : Option ℕ) → first_place 0 (λ (domain : Domain). true) pool.domains ≡ o → IfSome (option_map (λ d. refusal.LastCpu (pool_number i) (domain_number d)) o) IsPrintableRefusal
      says None is = tt
      says (Some d) is = (low i pool at, (let f = found_at d (λ (domain : Domain). true) pool.domains is in domain_low m checked s.now pool (known.range.pools i pool at) d f.0 f.1))

  fits : (i : ℕ) (pool : Pool) → at_place s.pools i ≡ Some pool → RecordsFit (length m.config.domains) (machine_core_count m.config) s.now pool.scheduler.records
  fits i pool at = (known.fits.pools i pool at).fits.records

  on_kind : (kind : SchedKind) (i : ℕ) (pool : Pool) (next : Result Plan Refusal) → at_place s.pools i ≡ Some pool → Says next → Says (demand (is_same_kind kind (records_kind pool.scheduler.records)) (refusal.WrongSched (pool_number i) (records_kind pool.scheduler.records)) next)
  on_kind kind i pool next at says = by_demand Says (is_same_kind kind (records_kind pool.scheduler.records)) _ next (low i pool at) (λ is. says)

  pub judged : (c : Command) → IsCheckedCommand c → Says (judged_command m s c)
  judged (command.PoolList None) good = (pools_low, free_low)
  judged (command.PoolList (Some which)) good = by_pool Says s which _ tt (λ i pool at. (low i pool at, cores_low i pool at, domains_low i pool at))
  judged (command.PoolCreate name kind) good = by_refused (name_fault s name (λ i. true)) _ (name_says name (λ i. true)) (created_says (first_empty 0 s.pools) name (unwrap_or kind kinds.Credit2))
  judged (command.PoolDestroy which) good =
      by_pool Says s which _ tt (λ i pool at. by_demand Says (not (i == 0)) _ _ tt (λ is. by_demand Says (cores_in pool == 0 && domains_in pool == 0) _ _ (low i pool at, cores_low i pool at, domains_low i pool at) (λ is. tt)))
  judged (command.PoolRename which name) good = by_pool Says s which _ tt (λ i pool at. by_refused (name_fault s name (λ other. not (other == i))) _ (name_says name (λ other. not (other == i))) tt)
  judged (command.CpuAdd which cpu) good =
      by_pool Says s which _ tt (λ i pool at. by_demand Says (nat_lt cpu m.config.processors) _ _ (typed cpu good.1)
      (λ is. by_refused (option_map (λ home. refusal.CpuTaken cpu (pool_number home)) (home_pool_of_core s (cpu / m.config.granularity))) _ (home_says cpu (cpu / m.config.granularity) good.1)
      (by_demand Says (not (is_same_kind kinds.Arinc653 (records_kind pool.scheduler.records) && nat_lt 0 (cores_in pool))) _ _ (low i pool at) (λ is. tt))))
  judged (command.CpuRemove which cpu) good =
      by_pool Says s which _ tt (λ i pool at. by_demand Says (nat_lt cpu m.config.processors) _ _ (typed cpu good.1)
      (λ is. by_demand Says (is_some (at_place pool.resources (cpu / m.config.granularity))) _ _ (typed cpu good.1) (λ is. by_refused (last_core_fault i pool) _ (last_says i pool at) tt)))
  judged (command.Migrate which target) good = by_domain Says m s which _ tt (λ d i pool domain named home at has. by_pool Says s target _ tt (λ j new at2. by_demand Says (nat_lt 0 (cores_in new)) _ _ (low j new at2) (λ is. tt)))
  judged (command.Credit2Dom which weight percent) good =
      by_domain Says m s which _ tt (λ d i pool domain named home at has. on_kind kinds.Credit2 i pool _ at
      (by_range Says weight 1 65535 _ _ (given weight 0 good.1 (omega arith)) (λ weighs. by_range Says percent 0 6400 _ _ (given percent 0 good.2 (omega arith))
      (λ caps. by_option IsPrintableReply (domain_credit2_record pool.scheduler.records d) _ _ (λ is. tt)
      (λ x is. by_cond IsPrintableReply (is_none weight && is_none percent) _ _ (λ asks. weights_say m s.now pool.scheduler.records d x (known.range.pools i pool at).records is) (λ sets. tt))))))
  judged (command.Credit2Pool which None) good = by_pool Says s which _ tt (λ i pool at. on_kind kinds.Credit2 i pool _ at (rate_says m s.now pool.scheduler.records (known.range.pools i pool at).records))
  judged (command.Credit2Pool which (Some us)) good = by_pool Says s which _ tt (λ i pool at. on_kind kinds.Credit2 i pool _ at (by_demand Says (us == 0 || in_range 100 500000 us) _ _ (typed us good.1) (λ is. tt)))
  judged (command.RtdsDom which None period budget extra) good =
      by_domain Says m s which _ tt (λ d i pool domain named home at has. on_kind kinds.Rtds i pool _ at (judged_rtds (length m.config.domains) (machine_core_count m.config) s.now pool d 0 (domain_unit_count m.config.granularity domain) period budget extra good.2 good.3 (fits i pool at)))
  judged (command.RtdsDom which (Some v) period budget extra) good =
      by_domain Says m s which _ tt (λ d i pool domain named home at has. on_kind kinds.Rtds i pool _ at (by_demand Says (nat_lt v (length domain.vcpus)) _ _ tt
      (λ is. judged_rtds (length m.config.domains) (machine_core_count m.config) s.now pool d (v / m.config.granularity) 1 period budget extra good.2 good.3 (fits i pool at))))
  judged (command.Pause which) good = by_domain Says m s which _ tt (λ d i pool domain named home at has. tt)
  judged (command.Unpause which) good = by_domain Says m s which _ tt (λ d i pool domain named home at has. tt)
  judged (command.ArincSet which major entries) good =
      by_pool Says s which _ tt (λ i pool at. on_kind kinds.Arinc653 i pool _ at (by_demand Says (in_range 1 most_span major) _ _ (typed major good.1)
      (λ is. judged_frame m i major entries good.1 good.3 (recursion_from_All IsCheckedEntry entries good.4))))
  judged (command.Pin which vcpu cpus) good =
      let ranges = recursion_from_All IsCheckedRange cpus good.3 in
      by_domain Says m s which _ tt (λ d i pool domain named home at has. by_demand Says (has_vcpu domain vcpu) _ _ tt
      (λ is. by_refused (cpu_refusal m.config.processors cpus) _ (cpus_say m.config.processors cpus checked.config.processors.most ranges) (by_refused (elsewhere_refusal m.config pool cpus) _ (elsewhere_says m pool cpus ranges) tt)))

  -- the answer to a line
  pub answered : (line : CommandLine) → IfOk line.command IsCheckedCommand → IfErr line.command (λ (fault : Syntax). fault.place < 2 ^ 32) → SaysAnswer (answer_of m s line)
  answered line good place = of_verdict (line_verdict m s line) (of_line line.command good place)
    where
      of_line : (r : Result Command Syntax) → IfOk r IsCheckedCommand → IfErr r (λ (fault : Syntax). fault.place < 2 ^ 32) → Says (elim r as (λ _. Result Plan Refusal) [ Err fault ↦ Err (refusal.Syntax fault.place) | Ok c ↦ judged_command m s c ])
      of_line (Err fault) checked place = omega (arith, place)
      of_line (Ok c) checked place = judged c checked

      of_verdict : (r : Result Plan Refusal) → Says r → SaysAnswer (elim r as (λ _. Result Reply Refusal) [ Err fault ↦ Err fault | Ok p ↦ Ok (plan_reply p) ])
      of_verdict (Err fault) says = says
      of_verdict (Ok p) says = says
