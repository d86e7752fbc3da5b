-- The records of a scheduler keep their parameters through its decisions, its replenishments and its refills.
use Rattle.std.proofs.Common.{◌≡◌, ℕ, List, refl, subst, sym, ◌∙◌, length}
use Rattle.std.specs.Prelude.{Option, Some, None}
use Rattle.std.proofs.lemmas.List.{length-map}
use Rattle.sched_base.specs.declared.UnitId.{UnitId}
use Rattle.sched_model.specs.declared.ask.Ask.{Ask}
use Rattle.sched_model.specs.declared.config.DomConfig.{DomConfig}
use Rattle.sched_model.specs.declared.config.PoolParams.{PoolParams}
use Rattle.sched_model.specs.declared.config.PoolParams.TheVariants as pool_params
use Rattle.sched_model.specs.declared.machine.Machine.{Machine}
use Rattle.sched_model.specs.declared.state.Credit2Domain.{Credit2Domain}
use Rattle.sched_model.specs.declared.state.Credit2Records.{Credit2Records}
use Rattle.sched_model.specs.declared.state.Credit2Unit.{Credit2Unit}
use Rattle.sched_model.specs.declared.state.Records.{Records}
use Rattle.sched_model.specs.declared.state.Records.TheVariants.{Credit2Pool, RtdsPool, ArincPool, NullPool}
use Rattle.sched_model.specs.declared.state.RtdsUnit.{RtdsUnit}
use Rattle.sched_model.specs.declared.state.Scheduler.{Scheduler}
use Rattle.sched_model.specs.Credit2 as credit2
use Rattle.sched_model.specs.Places.{change_each, change_item}
use Rattle.sched_model.specs.Policy as policy
use Rattle.sched_model.specs.Policy.{decision_by}
use Rattle.sched_model.specs.Rtds as rtds
use Rattle.sched_laws.proofs.EachPlace.{by_option}
use Rattle.sched_laws.proofs.Lists.{length_change_item, AllByRecursion-change_item}
use Rattle.sched_laws.proofs.Records.{decided_is}
use Rattle.record_laws.specs.Decisions.{decided_domain}
use Rattle.record_laws.proofs.Charges.{Leaves, leaves, leaves_taken}
use Rattle.record_laws.proofs.Credit2Seen.{decided_domains, decided_limit, decided_records, most_stays, records_decided, taken_by_is, taken_limit, taken_records}
use Rattle.undisturbed_laws.specs.Undisturbed.{Credit2DomainStays, Credit2Stays, KeepsDomains, RtdsDomainStays, RtdsUnitStays, RecordsStay}
use Rattle.undisturbed_laws.proofs.Places.{keeps_change_at, keeps_change_each}

-- the domain keeps its weight, its cap and the number of its units
abbrev SameTerms : Credit2Domain → Credit2Domain → Type 0
SameTerms x y = (y.weight ≡ x.weight) × (y.cap ≡ x.cap) × (length y.units ≡ length x.units)

terms_stay : (g : ℕ) (config : DomConfig) (x y : Credit2Domain) → SameTerms x y → Credit2DomainStays g config x → Credit2DomainStays g config y
terms_stay g config x y same here = (let a = same.0 in let b = same.1 in let p = here.params in record { params = cc; units = same.2 ∙ here.units })

module _ (m : Machine) (i limit : ℕ) where
  abbrev pub C : Credit2Records → Type 0
  C records = Credit2Stays m i limit records

  c_domain : (d : ℕ) (f : Credit2Domain → Credit2Domain) (records : Credit2Records) → ((x : Credit2Domain) → SameTerms x (f x)) → C records → C (credit2.change_domain d f records)
  c_domain d f records same here = record {
    limit = here.limit;
    domains = keeps_change_at m i (Credit2DomainStays m.config.granularity) d f records.domains (λ config x at. terms_stay m.config.granularity config x (f x) (same x)) here.domains;
  }

  c_unit : (u : UnitId) (f : Credit2Domain → Credit2Unit → Credit2Unit) (records : Credit2Records) → C records → C (credit2.change_unit u f records)
  c_unit u f records = c_domain u.dom.0 (λ d. record d { units = change_item u.n (f d) d.units }) records (λ d. (refl, refl, length_change_item u.n (f d) d.units))

  -- each domain was changed, and keeps its terms
  c_each : (records next : Credit2Records) (f : ℕ → Credit2Domain → Credit2Domain) → next.domains ≡ change_each 0 f records.domains → next.limit ≡ records.limit → ((d : ℕ) (x : Credit2Domain) → Leaves x (f d x)) → C records → C next
  c_each records next f is same leaves here = record {
    limit = same ∙ here.limit;
    domains = subst (KeepsDomains m i (Credit2DomainStays m.config.granularity)) (sym is) (keeps_change_each m i (Credit2DomainStays m.config.granularity) f records.domains (λ n config x. (let l = leaves n x in terms_stay m.config.granularity config x (f n x) (l.weight, l.cap, l.count))) here.domains);
  }

  -- a decision, and what its slice is computed from
  pub c_taken : (ask : Ask) (u : UnitId) (records : Credit2Records) → C records → C (taken_records ask records u)
  c_taken ask u records =
      let k : ℕ = credit2.reset_count ask.at.0 u (credit2.own_burned_records ask.cur ask.at.0 records) in
      c_each records (taken_records ask records u) _ (taken_by_is ask.at.0 ask.cur records k u) (taken_limit ask records u) (λ d x. leaves_taken _ _ ask.at.0 k _ _ x (most_stays ask.cur ask.at.0 records))

  c_decide : (ask : Ask) (scheduler : Scheduler) (records : Credit2Records) (chosen : Option UnitId) → C records → RecordsStay m i (pool_params.Credit2 limit) (credit2.credit2_decision_for ask scheduler (credit2.own_burned_records ask.cur ask.at.0 records) chosen).records
  c_decide ask scheduler records chosen here =
      subst (RecordsStay m i (pool_params.Credit2 limit)) (sym (records_decided ask records scheduler chosen))
      (c_each records (decided_records ask records chosen) (decided_domain ask records chosen) (decided_domains ask records chosen) (decided_limit ask records chosen) (leaves ask records chosen) here)

  c_refilled : (t d : ℕ) (records : Credit2Records) → C records → C (credit2.refilled_pool t d records)
  c_refilled t d records = c_domain d (credit2.domain_after_refill (credit2.most_weight records) t) records (λ x. (refl, refl, length-map x.units (credit2.burned_unit (credit2.most_weight records) t x)))

module _ (m : Machine) (i : ℕ) where
  abbrev R : List (Option (List RtdsUnit)) → Type 0
  R domains = KeepsDomains m i (RtdsDomainStays m.config.granularity) domains

  r_unit : (u : UnitId) (f : RtdsUnit → RtdsUnit) (domains : List (Option (List RtdsUnit))) → ((config : DomConfig) (x : RtdsUnit) → RtdsUnitStays config x → RtdsUnitStays config (f x)) → R domains → R (rtds.change_unit u f domains)
  r_unit u f domains keeps here =
      keeps_change_at m i (RtdsDomainStays m.config.granularity) u.dom.0 (change_item u.n f) domains
      (λ config units at stays. record { count = length_change_item u.n f units ∙ stays.count; units = AllByRecursion-change_item (RtdsUnitStays config) u.n f units (λ x has. keeps config x) stays.units }) here

  burned_stays : (t : ℕ) (config : DomConfig) (x : RtdsUnit) → RtdsUnitStays config x → RtdsUnitStays config (rtds.unit_burned_to t x)
  burned_stays t config x here = by_option (RtdsUnitStays config) x.burned x _ (λ is. here) (λ from is. record { params = here.params; next = here.next })

  r_own : (cur : Option UnitId) (t : ℕ) (domains : List (Option (List RtdsUnit))) → R domains → R (rtds.own_burned_domains cur t domains)
  r_own None t domains here = here
  r_own (Some u) t domains here = r_unit u (rtds.unit_burned_to t) domains (burned_stays t) here

  r_off : (cur : Option UnitId) (domains : List (Option (List RtdsUnit))) → R domains → R (rtds.off_domains cur domains)
  r_off None domains here = here
  r_off (Some u) domains here = r_unit u (λ x. record x { burned = None }) domains (λ config x stays. record { params = stays.params; next = stays.next }) here

  r_decide : (ask : Ask) (domains : List (Option (List RtdsUnit))) (chosen : Option UnitId) → R domains → RecordsStay m i pool_params.Rtds (rtds.rtds_decision_for ask domains chosen).records
  r_decide ask domains None here = r_off ask.cur domains here
  r_decide ask domains (Some u) here = r_unit u (λ x. record x { burned = Some ask.at.0 }) (rtds.off_domains ask.cur domains) (λ config x stays. record { params = stays.params; next = stays.next }) (r_off ask.cur domains here)

  pub stays_decision : (params : PoolParams) (records : Records) (ask : Ask) (scheduler : Scheduler) → scheduler.records ≡ records → RecordsStay m i params records → RecordsStay m i params (decision_by records ask scheduler).records
  stays_decision (pool_params.Credit2 limit) (Credit2Pool records) ask scheduler is here =
      let burned : Credit2Records = credit2.own_burned_records ask.cur ask.at.0 records in
      c_decide m i limit ask scheduler records (credit2.credit2_choice ask scheduler burned) here
  stays_decision pool_params.Rtds (RtdsPool domains) ask scheduler is here =
      let burned : List (Option (List RtdsUnit)) = rtds.own_burned_domains ask.cur ask.at.0 domains in
      r_decide ask burned (rtds.rtds_choice ask scheduler burned) (r_own ask.cur ask.at.0 domains here)
  stays_decision (pool_params.Arinc653 frame) (ArincPool records) ask scheduler is here = subst (RecordsStay m i (pool_params.Arinc653 frame)) (sym (decided_is (ArincPool records) ask scheduler is)) here
  stays_decision pool_params.Null (NullPool kept) ask scheduler is here = (let d = decided_is (NullPool kept) ask scheduler is in subst (RecordsStay m i pool_params.Null) (sym d.1) tt)
  stays_decision params records ask scheduler is here = absurd here

  pub stays_replenished : (params : PoolParams) (records : Records) (t : ℕ) (u : UnitId) → RecordsStay m i params records → RecordsStay m i params (policy.records_after_replenish records t u)
  stays_replenished pool_params.Rtds (RtdsPool domains) t u here = r_unit u (rtds.unit_after_replenish t) domains (λ config x stays. (let b = burned_stays t config x stays in record { params = b.next; next = b.next })) here
  stays_replenished (pool_params.Credit2 limit) (Credit2Pool records) t u here = here
  stays_replenished (pool_params.Arinc653 frame) (ArincPool records) t u here = here
  stays_replenished pool_params.Null (NullPool kept) t u here = here
  stays_replenished params records t u here = absurd here

  pub stays_refilled : (params : PoolParams) (records : Records) (t d : ℕ) → RecordsStay m i params records → RecordsStay m i params (policy.records_after_refill records t d)
  stays_refilled (pool_params.Credit2 limit) (Credit2Pool records) t d here = c_refilled m i limit t d records here
  stays_refilled pool_params.Rtds (RtdsPool domains) t d here = here
  stays_refilled (pool_params.Arinc653 frame) (ArincPool records) t d here = here
  stays_refilled pool_params.Null (NullPool kept) t d here = here
  stays_refilled params records t d here = absurd here
