-- The answers to commands on domains and schedulers' parameters are those of the definitions.
use Rattle.sched_base.specs.Numbers.{span, domain as domain_number, pool as pool_number}
use Rattle.std.proofs.Common.{◌≡◌, ◌*◌, ◌/◌, ◌<◌, ◌≤◌, ℕ, Bool, true, false, ◌&&◌, List, Option, Some, None, Result, Ok, Err, length, map, refl, ◌∙◌, ap, cond, nat_lt, zero-add, arith}
use Rattle.std.specs.Prelude.{◌==◌, ◌||◌, option_map, unwrap_or, is_none}
use Rattle.std.proofs.lemmas.Bool.{ltb-true}
use Rattle.sched_model.specs.declared.config.SchedKind.{SchedKind}
use Rattle.sched_model.specs.declared.config.SchedKind.TheVariants as kinds
use Rattle.sched_model.specs.declared.event.Param.{Param}
use Rattle.sched_model.specs.declared.event.Param.TheVariants as param
use Rattle.sched_model.specs.declared.event.Refusal.{Refusal}
use Rattle.sched_model.specs.declared.event.Refusal.TheVariants as refusal
use Rattle.sched_model.specs.declared.event.Reply.{Reply}
use Rattle.sched_model.specs.declared.event.Reply.TheVariants as reply
use Rattle.sched_model.specs.declared.facts.Stored.{Stored}
use Rattle.sched_model.specs.declared.machine.Machine.{Machine}
use Rattle.sched_model.specs.declared.plan.Plan.{Plan}
use Rattle.sched_model.specs.declared.plan.Plan.TheVariants as plan
use Rattle.sched_model.specs.declared.state.Credit2Domain.{Credit2Domain}
use Rattle.sched_model.specs.declared.state.Domain.{Domain}
use Rattle.sched_model.specs.declared.state.Pool.{Pool}
use Rattle.sched_model.specs.declared.state.Records.{Records}
use Rattle.sched_model.specs.declared.state.Records.TheVariants.{Credit2Pool, RtdsPool, ArincPool, NullPool}
use Rattle.sched_model.specs.declared.state.RtdsUnit.{RtdsUnit}
use Rattle.sched_model.specs.declared.state.State.{State}
use Rattle.sched_model.specs.Places.{at_place}
use Rattle.sched_model.specs.Policy.{records_kind, pool_rate_limit, domain_credit2_record}
use Rattle.sched_model.specs.Pool.{domain_unit_count}
use Rattle.sched_model.specs.Commands.{demand, demand_range, in_range, is_same_kind, has_vcpu, refused_by, rtds_fault, rtds_units, judge_rtds}
use Rattle.cpupool.specs.Tool.{tool_of}
use Rattle.cpupool.specs.Facts.{HasValues, stored_from}
use Rattle.cpupool.specs.Verdicts.{ranged_or_refused, seen_limit, seen_weight, stored_weight_reply, stored_rtds_reply, seen_rtds, seen_rtds_units, seen_rtds_guest}
use Rattle.cpupool.proofs.FactLemmas.{weight-known, units-stored, fault-stored, reply-stored, one-stored, rtds_stored}
use Rattle.cpupool.proofs.NumberLemmas.{unit_of_vcpu}

-- a rate limit, or the one that the pool has
pub limit_judged : (i : ℕ) (pool : Pool) (kind : SchedKind) (rate : ℕ) (limit : Option ℕ) → rate ≡ pool_rate_limit pool.scheduler.records
    → demand (is_same_kind kinds.Credit2 kind) (refusal.WrongSched (pool_number i) kind) (seen_limit i rate limit)
    ≡ demand (is_same_kind kinds.Credit2 kind) (refusal.WrongSched (pool_number i) kind) (elim limit [
      | None ↦ Ok (plan.Credit2Pool (pool_number i) None (reply.Rate (pool_rate_limit pool.scheduler.records)))
      | Some us ↦ demand (us == 0 || in_range 100 500000 us) (refusal.Range param.Ratelimit us) (Ok (plan.Credit2Pool (pool_number i) (Some us) reply.Done))
    ])
limit_judged i pool kind rate None same = ap (λ n. demand (is_same_kind kinds.Credit2 kind) (refusal.WrongSched (pool_number i) kind) (Ok (plan.Credit2Pool (pool_number i) None (reply.Rate n)))) same
limit_judged i pool kind rate (Some us) same = refl

-- what follows a number in its range
pub range_judged : (p : Param) (low high : ℕ) (n : Option ℕ) (next : Option ℕ → Result Plan Refusal)
    → (elim (ranged_or_refused p low high n) [ Err fault ↦ Err fault | Ok x ↦ next x ]) ≡ demand_range n low high (refusal.Range p (unwrap_or n 0)) (next n)
range_judged p low high None next = refl
range_judged p low high (Some n) next =
    let answer : Result (Option ℕ) Refusal → Result Plan Refusal = λ r. elim r [ Err fault ↦ Err fault | Ok x ↦ next x ] in
    elim (in_range low high n) as (λ b. answer (cond b (Ok (Some n)) (Err (refusal.Range p n))) ≡ demand b (refusal.Range p n) (next (Some n))) [ true ↦ refl | false ↦ refl ]

-- weight and cap in their ranges
pub weight_judged : (d : ℕ) (answer final : Reply) (weight cap : Option ℕ) → cond (is_none weight && is_none cap) answer reply.Done ≡ final
    → seen_weight d answer weight cap
    ≡ demand_range weight 1 65535 (refusal.Range param.Weight (unwrap_or weight 0)) (demand_range cap 0 6400 (refusal.Range param.Cap (unwrap_or cap 0)) (Ok (plan.Credit2Dom (domain_number d) weight cap final)))
weight_judged d answer final weight cap same =
    let told : Option ℕ → Option ℕ → Reply → Result Plan Refusal = λ w c r. Ok (plan.Credit2Dom (domain_number d) w c r) in
    let asks : Reply = cond (is_none weight && is_none cap) answer reply.Done in
    range_judged param.Weight 1 65535 weight (λ w. elim (ranged_or_refused param.Cap 0 6400 cap) [ Err fault ↦ Err fault | Ok c ↦ told w c asks ])
    ∙ ap (demand_range weight 1 65535 (refusal.Range param.Weight (unwrap_or weight 0))) (range_judged param.Cap 0 6400 cap (λ c. told weight c asks))
    ∙ ap (λ r. demand_range weight 1 65535 (refusal.Range param.Weight (unwrap_or weight 0)) (demand_range cap 0 6400 (refusal.Range param.Cap (unwrap_or cap 0)) (told weight cap r))) same

-- what is told of weight and cap
weight_told : (asks : Bool) (seen : Reply) (x : Option Credit2Domain) → seen ≡ (elim x [ None ↦ reply.Done | Some y ↦ reply.Weight y.weight y.cap ])
    → cond asks seen reply.Done ≡ (elim x [ None ↦ reply.Done | Some y ↦ cond asks (reply.Weight y.weight y.cap) reply.Done ])
weight_told true seen None same = same
weight_told true seen (Some y) same = same
weight_told false seen None same = refl
weight_told false seen (Some y) same = refl

-- the domain's weight and cap
pub credit2_judged : (g d i : ℕ) (records : Records) (count : ℕ) (units : List Stored) (weight cap : Option ℕ) → units ≡ stored_from records d 0 count → 1 ≤ count → length (stored_from records d 0 count) ≡ count
    → demand (is_same_kind kinds.Credit2 (records_kind records)) (refusal.WrongSched (pool_number i) (records_kind records)) (seen_weight d (stored_weight_reply units) weight cap)
    ≡ demand (is_same_kind kinds.Credit2 (records_kind records)) (refusal.WrongSched (pool_number i) (records_kind records))
    (demand_range weight 1 65535 (refusal.Range param.Weight (unwrap_or weight 0)) (demand_range cap 0 6400 (refusal.Range param.Cap (unwrap_or cap 0))
    (Ok (plan.Credit2Dom (domain_number d) weight cap (elim (domain_credit2_record records d) [
      | None ↦ reply.Done
      | Some x ↦ cond (is_none weight && is_none cap) (reply.Weight x.weight x.cap) reply.Done
    ])))))
credit2_judged g d i (Credit2Pool records) count units weight cap same some all =
    weight_judged d (stored_weight_reply units) _ weight cap (weight_told (is_none weight && is_none cap) (stored_weight_reply units) (at_place records.domains d) (ap stored_weight_reply same ∙ weight-known records d count some all))
credit2_judged g d i (RtdsPool domains) count units weight cap same some all = refl
credit2_judged g d i (ArincPool records) count units weight cap same some all = refl
credit2_judged g d i (NullPool kept) count units weight cap same some all = refl

-- the plan for some units of an RTDS pool
pub rtds_planned : (pool : Pool) (domains : List (Option (List RtdsUnit))) → pool.scheduler.records ≡ RtdsPool domains → (d first count : ℕ) (period budget : Option ℕ) (extra : Option Bool) → 1 ≤ count
    → seen_rtds d first count (stored_from pool.scheduler.records d first count) period budget extra ≡ judge_rtds pool d first count period budget extra
rtds_planned pool domains is d first count period budget extra some =
    let asks : Bool = is_none period && is_none budget && is_none extra in
    let told : Option Refusal → Reply → Result Plan Refusal = λ fault r.
    refused_by fault (Ok (plan.RtdsDom (domain_number d) first count (option_map (λ us. span (us * 1000)) period) (option_map (λ us. span (us * 1000)) budget) extra r)) in
    ap (λ units. seen_rtds d first count units period budget extra) (units-stored pool domains is d first count)
    ∙ ap (λ fault. told fault (cond asks (stored_rtds_reply (map rtds_stored (rtds_units pool d first count))) reply.Done)) (fault-stored period budget (rtds_units pool d first count))
    ∙ ap (told (rtds_fault period budget (rtds_units pool d first count))) (reply-stored pool d first count asks some)

-- the units of a domain of an RTDS pool
rtds_guest_judged : (m : Machine) (s : State) (d : ℕ) (pool : Pool) (domain : Domain) (domains : List (Option (List RtdsUnit))) → pool.scheduler.records ≡ RtdsPool domains
    → HasValues m.config.granularity d pool domain → (vcpu period budget : Option ℕ) (extra : Option Bool)
    → seen_rtds_guest (tool_of m s) d (length domain.vcpus) (stored_from pool.scheduler.records d 0 (domain_unit_count m.config.granularity domain)) vcpu period budget extra
    ≡ demand (has_vcpu domain vcpu) refusal.NoVcpu (elim vcpu [
      | None ↦ judge_rtds pool d 0 (domain_unit_count m.config.granularity domain) period budget extra
      | Some v ↦ judge_rtds pool d (v / m.config.granularity) 1 period budget extra
    ])
rtds_guest_judged m s d pool domain domains is values None period budget extra = rtds_planned pool domains is d 0 (domain_unit_count m.config.granularity domain) period budget extra values.some_unit
rtds_guest_judged m s d pool domain domains is values (Some v) period budget extra =
    let g : ℕ = m.config.granularity in
    let units : List Stored = stored_from pool.scheduler.records d 0 (domain_unit_count g domain) in
    let answer : Result (Option ℕ) Refusal → Result Plan Refusal = λ r. elim r [ Err fault ↦ Err fault | Ok guest ↦ seen_rtds_units (tool_of m s) d (length domain.vcpus) guest units period budget extra ] in
    elim (nat_lt v (length domain.vcpus)) as (λ b. nat_lt v (length domain.vcpus) ≡ b → answer (cond b (Ok (Some v)) (Err refusal.NoVcpu)) ≡ demand b refusal.NoVcpu (judge_rtds pool d (v / g) 1 period budget extra)) [
      | false ↦ λ test. refl
      | true ↦ λ test.
          let below : v < length domain.vcpus = ltb-true v (length domain.vcpus) test in
          let inside : v / g < domain_unit_count g domain = unit_of_vcpu g (length domain.vcpus) v values.some_unit below in
          ap (λ unit. seen_rtds d (v / g) 1 unit period budget extra)
          (one-stored pool.scheduler.records d 0 (domain_unit_count g domain) (v / g) inside values.all_units ∙ ap (λ n. stored_from pool.scheduler.records d n 1) (zero-add (v / g)))
          ∙ rtds_planned pool domains is d (v / g) 1 period budget extra (omega arith)
    ] refl

-- the domain's RTDS parameters
pub rtds_judged : (m : Machine) (s : State) (d i : ℕ) (pool : Pool) (domain : Domain) (units : List Stored) → units ≡ stored_from pool.scheduler.records d 0 (domain_unit_count m.config.granularity domain)
    → HasValues m.config.granularity d pool domain → (vcpu period budget : Option ℕ) (extra : Option Bool)
    → demand (is_same_kind kinds.Rtds (records_kind pool.scheduler.records)) (refusal.WrongSched (pool_number i) (records_kind pool.scheduler.records)) (seen_rtds_guest (tool_of m s) d (length domain.vcpus) units vcpu period budget extra)
    ≡ demand (is_same_kind kinds.Rtds (records_kind pool.scheduler.records)) (refusal.WrongSched (pool_number i) (records_kind pool.scheduler.records))
    (demand (has_vcpu domain vcpu) refusal.NoVcpu (elim vcpu [
      | None ↦ judge_rtds pool d 0 (domain_unit_count m.config.granularity domain) period budget extra
      | Some v ↦ judge_rtds pool d (v / m.config.granularity) 1 period budget extra
    ]))
rtds_judged m s d i pool domain units same values vcpu period budget extra =
    let seen : Result Plan Refusal = seen_rtds_guest (tool_of m s) d (length domain.vcpus) (stored_from pool.scheduler.records d 0 (domain_unit_count m.config.granularity domain)) vcpu period budget extra in
    let judged : Result Plan Refusal = demand (has_vcpu domain vcpu) refusal.NoVcpu (elim vcpu [
      | None ↦ judge_rtds pool d 0 (domain_unit_count m.config.granularity domain) period budget extra
      | Some v ↦ judge_rtds pool d (v / m.config.granularity) 1 period budget extra
    ]) in
    let of_kind : Records → Result Plan Refusal → Result Plan Refusal = λ records next. demand (is_same_kind kinds.Rtds (records_kind records)) (refusal.WrongSched (pool_number i) (records_kind records)) next in
    ap (λ (us : List Stored). of_kind pool.scheduler.records (seen_rtds_guest (tool_of m s) d (length domain.vcpus) us vcpu period budget extra)) same
    ∙ elim pool.scheduler.records as (λ records. pool.scheduler.records ≡ records → of_kind records seen ≡ of_kind records judged) [
      | Credit2Pool records ↦ λ is. refl
      | RtdsPool domains ↦ λ is. rtds_guest_judged m s d pool domain domains is values vcpu period budget extra
      | ArincPool records ↦ λ is. refl
      | NullPool kept ↦ λ is. refl
    ] refl
