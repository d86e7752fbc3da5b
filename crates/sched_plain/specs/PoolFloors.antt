-- Of which core or domain an event is, and which kinds of its events may come. g is the number of a core's processors, t the moment.
use Rattle.sched_base.specs.Numbers.{processor}
use Rattle.std.specs.Prelude.{ℕ, ◌≡◌, ◌≤◌, ◌<◌, ◌+◌, ◌/◌, true, false, List, Option, Some, None, length}
use Rattle.sched_base.specs.declared.DomId.{DomId}
use Rattle.sched_base.specs.declared.UnitId.{UnitId}
use Rattle.sched_base.specs.declared.VcpuId.{VcpuId}
use Rattle.sched_model.specs.declared.action.Action.{Action}
use Rattle.sched_model.specs.declared.action.Action.TheVariants.{Moved, DomMoved, Wake, Block, Slice, Repl, Refill, Arrive, Decide, Leave, Save}
use Rattle.sched_model.specs.declared.state.Domain.{Domain}
use Rattle.sched_model.specs.declared.state.Pool.{Pool}
use Rattle.sched_model.specs.Places.{at_place}
use Rattle.sched_model.specs.Pool.{enabled_in}
use Rattle.pool_laws.specs.Order.{kind_place}
use Rattle.sched_plain.specs.declared.pool_floors.Meeting.{Meeting}
use Rattle.sched_plain.specs.declared.pool_floors.Meeting.TheVariants as meeting

-- the event is one of the core r: its own, or one of its processors
abbrev pub IsOfCore : ℕ → ℕ → Action → Type 0
IsOfCore g r (Moved q) = q.0 ≡ r
IsOfCore g r (Block p) = p.0 / g ≡ r
IsOfCore g r (Slice q) = q.0 ≡ r
IsOfCore g r (Arrive p) = p.0 / g ≡ r
IsOfCore g r (Decide q) = q.0 ≡ r
IsOfCore g r (Leave p) = p.0 / g ≡ r
IsOfCore g r (Save q) = q.0 ≡ r
IsOfCore g r _ = ⊥

-- the event is one of the domain d: its own, or one of its vCPUs or units
abbrev pub IsOfDomain : ℕ → Action → Type 0
IsOfDomain d (DomMoved e) = e.0 ≡ d
IsOfDomain d (Wake v) = v.dom.0 ≡ d
IsOfDomain d (Repl u) = u.dom.0 ≡ d
IsOfDomain d (Refill e) = e.0 ≡ d
IsOfDomain d _ = ⊥

-- no event of the core that may come is of an earlier kind
abbrev pub IsCoreFloor : ℕ → ℕ → Pool → ℕ → ℕ → Type 0
IsCoreFloor g t pool r floor = (action : Action) → IsOfCore g r action → enabled_in g t pool action ≡ true → floor ≤ kind_place action

-- no event of the domain that may come is of an earlier kind
abbrev pub IsDomainFloor : ℕ → ℕ → Pool → ℕ → ℕ → Type 0
IsDomainFloor g t pool d floor = (action : Action) → IsOfDomain d action → enabled_in g t pool action ≡ true → floor ≤ kind_place action

-- the event of the kind at this processor
abbrev pub meeting_at : Meeting → ℕ → Action
meeting_at meeting.Block p = Block (processor p)
meeting_at meeting.Arrive p = Arrive (processor p)
meeting_at meeting.Leave p = Leave (processor p)

-- none of count processors from the first one on may do this
abbrev pub NoneMeets : ℕ → ℕ → Pool → Meeting → ℕ → ℕ → Type 0
NoneMeets g t pool kind first count = (p : ℕ) → first ≤ p → p < first + count → enabled_in g t pool (meeting_at kind p) ≡ false

-- how many vCPUs the domain has
abbrev pub vcpus_among : ℕ → List (Option Domain) → ℕ
vcpus_among d domains = elim (at_place domains d) [ None ↦ 0 | Some x ↦ length x.vcpus ]

-- the vCPU and the unit of the domain with this index
abbrev pub vcpu_at : DomId → ℕ → VcpuId
vcpu_at d n = record { dom = d; n = n }

abbrev pub unit_at : DomId → ℕ → UnitId
unit_at d n = record { dom = d; n = n }

-- none of the domain's first count vCPUs may wake, and none of its first count units be replenished
abbrev pub NoneWakes : ℕ → ℕ → Pool → DomId → ℕ → Type 0
NoneWakes g t pool d count = (n : ℕ) → n < count → enabled_in g t pool (Wake (vcpu_at d n)) ≡ false

abbrev pub NoneRenews : ℕ → ℕ → Pool → DomId → ℕ → Type 0
NoneRenews g t pool d count = (n : ℕ) → n < count → enabled_in g t pool (Repl (unit_at d n)) ≡ false

-- no event of the kind may come at a processor of the same core, a vCPU or a unit of the same domain, that has a lesser number
abbrev pub IsFirstSibling : ℕ → ℕ → Pool → Action → Type 0
IsFirstSibling g t pool (Wake v) = NoneWakes g t pool v.dom v.n
IsFirstSibling g t pool (Repl u) = NoneRenews g t pool u.dom u.n
IsFirstSibling g t pool (Block p) = (q : ℕ) → q / g ≡ p.0 / g → q < p.0 → enabled_in g t pool (Block (processor q)) ≡ false
IsFirstSibling g t pool (Arrive p) = (q : ℕ) → q / g ≡ p.0 / g → q < p.0 → enabled_in g t pool (Arrive (processor q)) ≡ false
IsFirstSibling g t pool (Leave p) = (q : ℕ) → q / g ≡ p.0 / g → q < p.0 → enabled_in g t pool (Leave (processor q)) ≡ false
IsFirstSibling g t pool _ = Unit {0}
