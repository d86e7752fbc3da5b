-- The pools and domains that commands name, and the answers to commands, in what the tool knows.
use Rattle.sched_model.specs.CheckedMachine.{most_span}
use Rattle.sched_base.specs.Numbers.{span, core as core_number, domain as domain_number, pool as pool_number, core_set}
use Rattle.std.specs.Prelude.{ℕ, suc, ◌+◌, ◌-◌, ◌*◌, ◌/◌, ◌^◌, ◌==◌, ◌&&◌, ◌||◌, Bool, true, false, not, List, [], ◌∷◌, ◌++◌, Option, Some, None, Result, Ok, Err, is_none, is_some, option_map, unwrap_or, slice_get, slice_index_or, length, sum_by, count_by, take, drop, bit_and, bytes_eq, nat_lt, nat_le, if◌then◌else◌}
use Rattle.std.specs.List.{list_any}
use Rattle.sched_base.specs.declared.Cores.{Cores}
use Rattle.sched_model.specs.declared.config.FrameEntry.{FrameEntry}
use Rattle.sched_model.specs.declared.config.SchedKind.{SchedKind}
use Rattle.sched_model.specs.declared.config.SchedKind.TheVariants as kinds
use Rattle.sched_model.specs.declared.command.Command.{Command}
use Rattle.sched_model.specs.declared.command.Command.TheVariants as command
use Rattle.sched_model.specs.declared.command.ArincEntry.{ArincEntry}
use Rattle.sched_model.specs.declared.command.Which.{Which}
use Rattle.sched_model.specs.declared.command.Which.TheVariants.{Name, Number}
use Rattle.sched_model.specs.declared.event.Refusal.{Refusal}
use Rattle.sched_model.specs.declared.event.Refusal.TheVariants as refusal
use Rattle.sched_model.specs.declared.event.Param.{Param}
use Rattle.sched_model.specs.declared.event.Param.TheVariants as param
use Rattle.sched_model.specs.declared.event.Reply.{Reply}
use Rattle.sched_model.specs.declared.event.Reply.TheVariants as reply
use Rattle.sched_model.specs.declared.facts.Facts.{Facts}
use Rattle.sched_model.specs.declared.facts.Subject.{Subject}
use Rattle.sched_model.specs.declared.facts.Stored.{Stored}
use Rattle.sched_model.specs.declared.facts.Stored.TheVariants as stored
use Rattle.sched_model.specs.declared.plan.Plan.{Plan}
use Rattle.sched_model.specs.declared.plan.Plan.TheVariants as plan
use Rattle.sched_model.specs.Places.{at_place, first_place, first_empty, numbers_from}
use Rattle.sched_base.specs.CoreSets.{every_core}
use Rattle.sched_model.specs.Commands.{demand, in_range, is_same_kind, refused_by, cpu_refusal}
use Rattle.journal_core.specs.Parts.{Outline, ToolPart}
use Rattle.cpupool.specs.declared.outline.DomainEntry.{DomainEntry}
use Rattle.cpupool.specs.Facts.{no_subject}
use Rattle.cpupool.specs.Tool.{Tool}

-- the first domain with this name, where the first of the list has the number d
abbrev pub entry_named : ℕ → List ℕ → List DomainEntry → Option ℕ
entry_named d name [] = None
entry_named d name (e ∷ entries) = elim (bytes_eq name e.name) [ true ↦ Some d | false ↦ entry_named (suc d) name entries ]

-- the pool that a command names
abbrev pub seen_pool : Tool → Which → Option ℕ
seen_pool tool (Name name) = first_place 0 (bytes_eq name) tool.part.names
seen_pool tool (Number i) = option_map (λ o. i) (at_place tool.part.pools i)

-- the domain that a command names
abbrev pub seen_domain : Tool → Which → Option ℕ
seen_domain tool (Name name) = entry_named 0 name tool.domains
seen_domain tool (Number d) = (if nat_lt d (length tool.domains) then Some d else None)

-- whether the pool has the core
abbrev pub has_outlined_core : Outline → ℕ → Bool
has_outlined_core o r = slice_index_or o.cores r false

-- the pool that has the core
abbrev pub outlined_core_home : List (Option Outline) → ℕ → Option ℕ
outlined_core_home pools r = first_place 0 (λ o. has_outlined_core o r) pools

-- the pool that has the domain
abbrev pub outlined_domain_home : List (Option Outline) → ℕ → Option ℕ
outlined_domain_home pools d = first_place 0 (λ o. is_some (at_place o.domains d)) pools

-- a command that names this pool
abbrev pub seen_pool_subject : Tool → Which → Subject
seen_pool_subject tool which = record { pool = option_map pool_number (seen_pool tool which); dom = None }

-- a command that names this domain, and otherwise what the subject is
abbrev pub seen_domain_subject : Tool → Which → Subject → Subject
seen_domain_subject tool which otherwise =
    elim (seen_domain tool which) [ None ↦ otherwise | Some d ↦ record { pool = option_map pool_number (outlined_domain_home tool.part.pools d); dom = Some (domain_number d) } ]

-- the subject of a command
abbrev pub command_subject : Tool → Command → Subject
command_subject tool (command.PoolList None) = no_subject
command_subject tool (command.PoolList (Some which)) = seen_pool_subject tool which
command_subject tool (command.PoolCreate name kind) = no_subject
command_subject tool (command.PoolDestroy which) = seen_pool_subject tool which
command_subject tool (command.PoolRename which name) = seen_pool_subject tool which
command_subject tool (command.CpuAdd which cpu) = seen_pool_subject tool which
command_subject tool (command.CpuRemove which cpu) = seen_pool_subject tool which
command_subject tool (command.Migrate which target) = seen_domain_subject tool which (seen_pool_subject tool target)
command_subject tool (command.Credit2Dom which weight cap) = seen_domain_subject tool which no_subject
command_subject tool (command.Credit2Pool which limit) = seen_pool_subject tool which
command_subject tool (command.RtdsDom which vcpu period budget extra) = seen_domain_subject tool which no_subject
command_subject tool (command.Pause which) = seen_domain_subject tool which no_subject
command_subject tool (command.Unpause which) = seen_domain_subject tool which no_subject
command_subject tool (command.ArincSet which major entries) = seen_pool_subject tool which
command_subject tool (command.Pin which vcpu cpus) = seen_domain_subject tool which no_subject

-- how many cores and domains the pool has
abbrev pub outlined_core_count : Outline → ℕ
outlined_core_count o = count_by (λ core. core) o.cores

abbrev pub outlined_domain_count : Outline → ℕ
outlined_domain_count o = count_by is_some o.domains

-- a pool that a command names: its number, and what the tool knows of it
pub record SeenPool : Type 0 where
  pub i : ℕ
  pub pool : Outline

-- a domain that a command names: its number, its home, what the tool knows of that, and the number of the domain's vCPUs
pub record SeenDomain : Type 0 where
  pub d : ℕ
  pub i : ℕ
  pub pool : Outline
  pub vcpus : ℕ

-- the pool that a command names
abbrev pub seen_outline : Tool → Which → Option SeenPool
seen_outline tool which = elim (seen_pool tool which) [ None ↦ None | Some i ↦ option_map (λ pool. record { i = i; pool = pool }) (at_place tool.part.pools i) ]

-- the domain d, where the pool i has it
abbrev pub seen_at : ToolPart → ℕ → ℕ → Option SeenDomain
seen_at part d i =
    elim (at_place part.pools i) [ None ↦ None | Some pool ↦ option_map (λ vcpus. record { d = d; i = i; pool = pool; vcpus = vcpus }) (at_place pool.domains d) ]

-- the domain that a command names
abbrev pub seen_size : Tool → Which → Option SeenDomain
seen_size tool which = elim (seen_domain tool which) [ None ↦ None | Some d ↦ elim (outlined_domain_home tool.part.pools d) [ None ↦ None | Some i ↦ seen_at tool.part d i ] ]

-- what follows for the pool, or no such pool
abbrev pub with_outline : Tool → Which → (ℕ → Outline → Result Plan Refusal) → Result Plan Refusal
with_outline tool which next = elim (seen_outline tool which) [ None ↦ Err refusal.NoPool | Some x ↦ next x.i x.pool ]

-- what follows for the domain, its home, and the number of its vCPUs, or no such domain
abbrev pub with_size : Tool → Which → (ℕ → ℕ → Outline → ℕ → Result Plan Refusal) → Result Plan Refusal
with_size tool which next = elim (seen_size tool which) [ None ↦ Err refusal.NoDomain | Some x ↦ next x.d x.i x.pool x.vcpus ]

-- what follows where the pool i has this scheduler, or the refusal
abbrev pub demand_scheduler : SchedKind → ℕ → Outline → Result Plan Refusal → Result Plan Refusal
demand_scheduler kind i o next = demand (is_same_kind kind o.kind) (refusal.WrongSched (pool_number i) o.kind) next

-- the name is taken by a pool that passes the test
abbrev pub taken_name : ToolPart → List ℕ → (ℕ → Bool) → Option Refusal
taken_name part name counts = elim (first_place 0 (bytes_eq name) part.names) [ None ↦ None | Some i ↦ (if counts i then Some (refusal.NameTaken (pool_number i)) else None) ]

abbrev pub seen_pool_list : Tool → Option Which → Result Plan Refusal
seen_pool_list tool None = Ok (plan.PoolList None (reply.Pools (count_by is_some tool.part.pools) (count_by is_some tool.part.free * tool.granularity)))
seen_pool_list tool (Some which) =
    with_outline tool which (λ i o. Ok (plan.PoolList (Some (pool_number i)) (reply.Pool (pool_number i) o.kind (outlined_core_count o * tool.granularity) (outlined_domain_count o))))

abbrev pub seen_pool_create : Tool → List ℕ → Option SchedKind → Result Plan Refusal
seen_pool_create tool name kind =
    refused_by (taken_name tool.part name (λ i. true)) (elim (first_empty 0 tool.part.pools) [
      | None ↦ Err refusal.PoolsFull
      | Some i ↦ Ok (plan.PoolCreate (pool_number i) name (unwrap_or kind kinds.Credit2) reply.Done)
    ])

abbrev pub seen_pool_destroy : Tool → Which → Result Plan Refusal
seen_pool_destroy tool which =
    with_outline tool which (λ i o. demand (not (i == 0)) refusal.PoolZero
    (demand (outlined_core_count o == 0 && outlined_domain_count o == 0) (refusal.PoolHolds (pool_number i) (outlined_core_count o * tool.granularity) (outlined_domain_count o))
    (Ok (plan.PoolDestroy (pool_number i) reply.Done))))

abbrev pub seen_pool_rename : Tool → Which → List ℕ → Result Plan Refusal
seen_pool_rename tool which name =
    with_outline tool which (λ i o. refused_by (taken_name tool.part name (λ other. not (other == i))) (Ok (plan.PoolRename (pool_number i) name reply.Done)))

abbrev pub seen_cpu_add : Tool → Which → ℕ → Result Plan Refusal
seen_cpu_add tool which cpu =
    with_outline tool which (λ i o. demand (nat_lt cpu tool.processors) (refusal.NoCpu cpu)
    (refused_by (option_map (λ home. refusal.CpuTaken cpu (pool_number home)) (outlined_core_home tool.part.pools (cpu / tool.granularity)))
    (demand (not (is_same_kind kinds.Arinc653 o.kind && nat_lt 0 (outlined_core_count o))) (refusal.ArincOne (pool_number i))
    (Ok (plan.CpuAdd (pool_number i) (core_number (cpu / tool.granularity)) reply.Done)))))

-- the least domain of the pool, where the pool has one core and a domain
abbrev pub last_core_refusal : ℕ → Outline → Option Refusal
last_core_refusal i o = (if outlined_core_count o == 1 then option_map (λ d. refusal.LastCpu (pool_number i) (domain_number d)) (first_place 0 (λ vcpus. true) o.domains) else None)

abbrev pub seen_cpu_remove : Tool → Which → ℕ → Result Plan Refusal
seen_cpu_remove tool which cpu =
    with_outline tool which (λ i o. demand (nat_lt cpu tool.processors) (refusal.NoCpu cpu)
    (demand (has_outlined_core o (cpu / tool.granularity)) (refusal.CpuElsewhere cpu)
    (refused_by (last_core_refusal i o) (Ok (plan.CpuRemove (pool_number i) (core_number (cpu / tool.granularity)) reply.Done)))))

abbrev pub seen_migrate : Tool → Which → Which → Result Plan Refusal
seen_migrate tool which target =
    with_size tool which (λ d i o vcpus. with_outline tool target (λ j new. demand (nat_lt 0 (outlined_core_count new)) (refusal.PoolEmpty (pool_number j))
    (Ok (plan.Migrate (domain_number d) (pool_number i) (pool_number j) reply.Done))))

abbrev pub seen_pause : Tool → Which → Result Plan Refusal
seen_pause tool which = with_size tool which (λ d i o vcpus. Ok (plan.Pause (domain_number d) reply.Done))

abbrev pub seen_unpause : Tool → Which → Result Plan Refusal
seen_unpause tool which = with_size tool which (λ d i o vcpus. Ok (plan.Unpause (domain_number d) reply.Done))

-- the reply of a command that asks for weight and cap
abbrev pub stored_weight_reply : List Stored → Reply
stored_weight_reply (stored.Credit2 weight cap ∷ units) = reply.Weight weight cap
stored_weight_reply units = reply.Done

-- a number that is given, if it is in the range, or its refusal
abbrev pub ranged_or_refused : Param → ℕ → ℕ → Option ℕ → Result (Option ℕ) Refusal
ranged_or_refused param low high None = Ok None
ranged_or_refused param low high (Some n) = (if in_range low high n then Ok (Some n) else Err (refusal.Range param n))

-- the plan for the weight and cap of the domain d, with this reply where neither is given
abbrev pub seen_weight : ℕ → Reply → Option ℕ → Option ℕ → Result Plan Refusal
seen_weight d answer weight cap =
    elim (ranged_or_refused param.Weight 1 65535 weight) [
      | Err fault ↦ Err fault
      | Ok new_weight ↦ elim (ranged_or_refused param.Cap 0 6400 cap) [
        | Err fault ↦ Err fault
        | Ok new_cap ↦ Ok (plan.Credit2Dom (domain_number d) new_weight new_cap (if is_none weight && is_none cap then answer else reply.Done))
      ]
    ]

abbrev pub seen_credit2_dom : Tool → List Stored → Which → Option ℕ → Option ℕ → Result Plan Refusal
seen_credit2_dom tool units which weight cap = with_size tool which (λ d i o vcpus. demand_scheduler kinds.Credit2 i o (seen_weight d (stored_weight_reply units) weight cap))

-- the plan for a rate limit of the pool i, or the limit that it has
abbrev pub seen_limit : ℕ → ℕ → Option ℕ → Result Plan Refusal
seen_limit i rate None = Ok (plan.Credit2Pool (pool_number i) None (reply.Rate rate))
seen_limit i rate (Some us) =
    demand (us == 0 || in_range 100 500000 us) (refusal.Range param.Ratelimit us) (Ok (plan.Credit2Pool (pool_number i) (Some us) reply.Done))

abbrev pub seen_credit2_pool : Tool → ℕ → Which → Option ℕ → Result Plan Refusal
seen_credit2_pool tool rate which limit = with_outline tool which (λ i o. demand_scheduler kinds.Credit2 i o (seen_limit i rate limit))

-- the first unit whose RTDS parameters the command would leave out of range; they are in microseconds
abbrev pub stored_refusal : Option ℕ → Option ℕ → List Stored → Option Refusal
stored_refusal period budget (stored.Rtds set_period set_budget extra ∷ units) =
    let left_period = unwrap_or period (set_period.0 / 1000) in
    let left_budget = unwrap_or budget (set_budget.0 / 1000) in
    elim (in_range 10 1000000000 left_period) [
      | false ↦ Some (refusal.Range param.Period left_period)
      | true ↦ elim (in_range 10 left_period left_budget) [
        | false ↦ Some (refusal.Range param.Budget left_budget)
        | true ↦ stored_refusal period budget units
      ]
    ]
stored_refusal period budget units = None

-- the reply of a command that asks for the RTDS parameters, in microseconds
abbrev pub stored_rtds_reply : List Stored → Reply
stored_rtds_reply (stored.Rtds period budget extra ∷ units) = reply.Rtds (period.0 / 1000) (budget.0 / 1000) extra
stored_rtds_reply units = reply.Done

-- the plan for the units of the domain from first on, whose set values are these
abbrev pub seen_rtds : ℕ → ℕ → ℕ → List Stored → Option ℕ → Option ℕ → Option Bool → Result Plan Refusal
seen_rtds d first count units period budget extra =
    refused_by (stored_refusal period budget units)
    (Ok (plan.RtdsDom (domain_number d) first count (option_map (λ us. span (us * 1000)) period) (option_map (λ us. span (us * 1000)) budget) extra
    (if is_none period && is_none budget && is_none extra then stored_rtds_reply units else reply.Done)))

-- the vCPU that is named, if the domain with so many has it, or the refusal
abbrev pub guest_or_refused : ℕ → Option ℕ → Result (Option ℕ) Refusal
guest_or_refused vcpus None = Ok None
guest_or_refused vcpus (Some v) = (if nat_lt v vcpus then Ok (Some v) else Err refusal.NoVcpu)

-- the plan for the unit of the vCPU, or for all units of a domain with so many vCPUs
abbrev pub seen_rtds_units : Tool → ℕ → ℕ → Option ℕ → List Stored → Option ℕ → Option ℕ → Option Bool → Result Plan Refusal
seen_rtds_units tool d vcpus None units period budget extra = seen_rtds d 0 ((vcpus + tool.granularity - 1) / tool.granularity) units period budget extra
seen_rtds_units tool d vcpus (Some v) units period budget extra = seen_rtds d (v / tool.granularity) 1 (take 1 (drop (v / tool.granularity) units)) period budget extra

-- the same where the vCPU is one of the domain
abbrev pub seen_rtds_guest : Tool → ℕ → ℕ → List Stored → Option ℕ → Option ℕ → Option ℕ → Option Bool → Result Plan Refusal
seen_rtds_guest tool d vcpus units vcpu period budget extra =
    elim (guest_or_refused vcpus vcpu) [ Err fault ↦ Err fault | Ok guest ↦ seen_rtds_units tool d vcpus guest units period budget extra ]

abbrev pub seen_rtds_dom : Tool → List Stored → Which → Option ℕ → Option ℕ → Option ℕ → Option Bool → Result Plan Refusal
seen_rtds_dom tool units which vcpu period budget extra =
    with_size tool which (λ d i o vcpus. demand_scheduler kinds.Rtds i o (seen_rtds_guest tool d vcpus units vcpu period budget extra))

-- how many vCPUs the domain d of the machine has
abbrev pub guest_count : Tool → ℕ → Option ℕ
guest_count tool d = option_map (λ (domain : DomainEntry). domain.vcpus) (slice_get tool.domains d)

-- the entry of a frame, or why it is refused
abbrev pub seen_entry : Tool → ArincEntry → Result FrameEntry Refusal
seen_entry tool e =
    elim (seen_domain tool e.dom) [
      | None ↦ Err refusal.NoDomain
      | Some d ↦ elim (guest_count tool d) [
        | None ↦ Err refusal.NoDomain
        | Some vcpus ↦ demand (nat_lt (e.unit * tool.granularity) vcpus) refusal.NoVcpu
            (demand (nat_le 1 e.run) (refusal.Range param.Run e.run) (Ok (record { dom = domain_number d; unit = e.unit; run = span e.run })))
      ]
    ]

-- the entries of a frame, or the first refusal
abbrev pub seen_entries : Tool → List ArincEntry → Result (List FrameEntry) Refusal
seen_entries tool [] = Ok []
seen_entries tool (e ∷ entries) =
    elim (seen_entry tool e) [
      | Err fault ↦ Err fault
      | Ok entry ↦ elim (seen_entries tool entries) [ Err fault ↦ Err fault | Ok rest ↦ Ok (entry ∷ rest) ]
    ]

-- the entries behind those that stand already
abbrev pub entries_behind : List FrameEntry → Result (List FrameEntry) Refusal → Result (List FrameEntry) Refusal
entries_behind frame (Err fault) = Err fault
entries_behind frame (Ok entries) = Ok (frame ++ entries)

-- the plan for a new frame of the pool i
abbrev pub seen_frame : Tool → ℕ → ℕ → List ArincEntry → Result Plan Refusal
seen_frame tool i major entries =
    elim (seen_entries tool entries) [
      | Err fault ↦ Err fault
      | Ok frame ↦
          let sum = sum_by (λ (e : ArincEntry). e.run) entries in
          demand (nat_le sum major) (refusal.FrameLong sum major) (Ok (plan.ArincSet (pool_number i) (record { major = span major; entries = frame }) reply.Done))
    ]

abbrev pub seen_arinc_set : Tool → Which → ℕ → List ArincEntry → Result Plan Refusal
seen_arinc_set tool which major entries =
    with_outline tool which (λ i o. demand_scheduler kinds.Arinc653 i o
    (demand (in_range 1 most_span major) (refusal.Range param.Major major) (seen_frame tool i major entries)))

-- whether one of the ranges has a processor of the core r
abbrev pub is_core_named : ℕ → List (ℕ × ℕ) → ℕ → Bool
is_core_named g ranges r = list_any (λ (range : ℕ × ℕ). nat_le range.0 (r * g + g - 1) && nat_le (r * g) range.1) ranges

-- the set of those of the cores that have a processor in one of the ranges
abbrev pub named_among : ℕ → List (ℕ × ℕ) → List ℕ → ℕ
named_among g ranges cores = sum_by (λ r. (if is_core_named g ranges r then 2 ^ r else 0)) cores

-- the set of the cores that have a processor in one of the ranges; without a range, all
abbrev pub seen_cores : Tool → List (ℕ × ℕ) → Cores
seen_cores tool [] = every_core
seen_cores tool (e ∷ ranges) = core_set (named_among tool.granularity (e ∷ ranges) (numbers_from 0 (tool.processors / tool.granularity)))

-- the set of these cores, of which the first has the number r
abbrev pub flags_from : ℕ → List Bool → ℕ
flags_from r [] = 0
flags_from r (core ∷ cores) = (if core then 2 ^ r else 0) + flags_from (suc r) cores

-- the ranges name no core of the pool
abbrev pub seen_elsewhere : Tool → Outline → List (ℕ × ℕ) → Option Refusal
seen_elsewhere tool o [] = None
seen_elsewhere tool o (e ∷ ranges) = (if bit_and (seen_cores tool (e ∷ ranges)).0 (flags_from 0 o.cores) == 0 then Some (refusal.CpuElsewhere e.0) else None)

abbrev pub seen_pin : Tool → Which → Option ℕ → List (ℕ × ℕ) → Result Plan Refusal
seen_pin tool which vcpu cpus =
    with_size tool which (λ d i o vcpus. elim (guest_or_refused vcpus vcpu) [
      | Err fault ↦ Err fault
      | Ok guest ↦ refused_by (cpu_refusal tool.processors cpus) (refused_by (seen_elsewhere tool o cpus)
          (Ok (plan.Pin (domain_number d) (option_map (λ v. v / tool.granularity) guest) (seen_cores tool cpus) reply.Done)))
    ])

-- the answer to a command
abbrev pub seen_verdict : Tool → Facts → Command → Result Plan Refusal
seen_verdict tool facts (command.PoolList pool) = seen_pool_list tool pool
seen_verdict tool facts (command.PoolCreate name kind) = seen_pool_create tool name kind
seen_verdict tool facts (command.PoolDestroy which) = seen_pool_destroy tool which
seen_verdict tool facts (command.PoolRename which name) = seen_pool_rename tool which name
seen_verdict tool facts (command.CpuAdd which cpu) = seen_cpu_add tool which cpu
seen_verdict tool facts (command.CpuRemove which cpu) = seen_cpu_remove tool which cpu
seen_verdict tool facts (command.Migrate which target) = seen_migrate tool which target
seen_verdict tool facts (command.Credit2Dom which weight cap) = seen_credit2_dom tool facts.units which weight cap
seen_verdict tool facts (command.Credit2Pool which limit) = seen_credit2_pool tool facts.rate which limit
seen_verdict tool facts (command.RtdsDom which vcpu period budget extra) = seen_rtds_dom tool facts.units which vcpu period budget extra
seen_verdict tool facts (command.Pause which) = seen_pause tool which
seen_verdict tool facts (command.Unpause which) = seen_unpause tool which
seen_verdict tool facts (command.ArincSet which major entries) = seen_arinc_set tool which major entries
seen_verdict tool facts (command.Pin which vcpu cpus) = seen_pin tool which vcpu cpus
