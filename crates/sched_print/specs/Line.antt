-- The text of an entry: one line, whose words and numbers are parted by single spaces.
use Rattle.std.specs.Prelude.{ℕ, Bool, true, false, List, [], ◌∷◌, ◌++◌, codes, decimal, Option, Some, None, Ok, Err}
use Rattle.std.specs.Fmt.{signed_decimal}
use Rattle.std.specs.List.{flat_map}
use Rattle.sched_base.specs.declared.UnitId.{UnitId}
use Rattle.sched_base.specs.declared.VcpuId.{VcpuId}
use Rattle.sched_base.specs.declared.Moment.{Moment}
use Rattle.sched_model.specs.declared.config.SchedKind.{SchedKind}
use Rattle.sched_model.specs.declared.config.SchedKind.TheVariants as kind
use Rattle.sched_model.specs.declared.event.Event.{Event}
use Rattle.sched_model.specs.declared.event.Event.TheVariants as event
use Rattle.sched_model.specs.declared.event.Refusal.{Refusal}
use Rattle.sched_model.specs.declared.event.Refusal.TheVariants as refusal
use Rattle.sched_model.specs.declared.event.Reply.{Reply}
use Rattle.sched_model.specs.declared.event.Reply.TheVariants as reply
use Rattle.sched_model.specs.declared.event.Param.{Param}
use Rattle.sched_model.specs.declared.event.Param.TheVariants as param
use Rattle.sched_model.specs.declared.event.Entry.{Entry}

-- the name of a scheduler
abbrev pub kind_text : SchedKind → List ℕ
kind_text kind.Credit2 = codes "credit2"
kind_text kind.Rtds = codes "rtds"
kind_text kind.Arinc653 = codes "arinc653"
kind_text kind.Null = codes "null"

-- the name of a parameter
abbrev pub param_text : Param → List ℕ
param_text param.Weight = codes "weight"
param_text param.Cap = codes "cap"
param_text param.Ratelimit = codes "ratelimit"
param_text param.Period = codes "period"
param_text param.Budget = codes "budget"
param_text param.Major = codes "major"
param_text param.Run = codes "run"

-- a flag is printed 0 or 1
abbrev pub flag : Bool → List ℕ
flag false = codes "0"
flag true = codes "1"

-- the line so far, and behind it the answer to an accepted command
abbrev pub with_reply : List ℕ → Reply → List ℕ
with_reply front reply.Done = front ++ codes " ok"
with_reply front (reply.Pools pools free) = front ++ codes " ok pools " ++ decimal pools ++ codes " free " ++ decimal free
with_reply front (reply.Pool pool kind cpus domains) = front ++ codes " ok pool " ++ decimal pool.0 ++ codes " " ++ kind_text kind ++ codes " cpus " ++ decimal cpus ++ codes " domains " ++ decimal domains
with_reply front (reply.Weight weight cap) = front ++ codes " ok weight " ++ decimal weight ++ codes " cap " ++ decimal cap
with_reply front (reply.Rate limit) = front ++ codes " ok ratelimit " ++ decimal limit
with_reply front (reply.Rtds period budget extra) = front ++ codes " ok period " ++ decimal period ++ codes " budget " ++ decimal budget ++ codes " extratime " ++ flag extra

-- the line so far, and behind it the number, the name and the values of a refusal
abbrev pub with_refusal : List ℕ → Refusal → List ℕ
with_refusal front (refusal.Syntax place) = front ++ codes " refused 1 Syntax place " ++ decimal place
with_refusal front refusal.NoPool = front ++ codes " refused 2 NoPool"
with_refusal front (refusal.NameTaken pool) = front ++ codes " refused 3 NameTaken pool " ++ decimal pool.0
with_refusal front refusal.NoDomain = front ++ codes " refused 4 NoDomain"
with_refusal front (refusal.NoCpu cpu) = front ++ codes " refused 5 NoCpu cpu " ++ decimal cpu
with_refusal front (refusal.CpuTaken cpu pool) = front ++ codes " refused 6 CpuTaken cpu " ++ decimal cpu ++ codes " pool " ++ decimal pool.0
with_refusal front (refusal.CpuElsewhere cpu) = front ++ codes " refused 7 CpuElsewhere cpu " ++ decimal cpu
with_refusal front (refusal.LastCpu pool dom) = front ++ codes " refused 8 LastCpu pool " ++ decimal pool.0 ++ codes " domain " ++ decimal dom.0
with_refusal front (refusal.PoolHolds pool cpus domains) = front ++ codes " refused 9 PoolHolds pool " ++ decimal pool.0 ++ codes " cpus " ++ decimal cpus ++ codes " domains " ++ decimal domains
with_refusal front refusal.PoolZero = front ++ codes " refused 10 PoolZero"
with_refusal front (refusal.WrongSched pool kind) = front ++ codes " refused 11 WrongSched pool " ++ decimal pool.0 ++ codes " " ++ kind_text kind
with_refusal front (refusal.Range param n) = front ++ codes " refused 12 Range " ++ param_text param ++ codes " " ++ decimal n
with_refusal front (refusal.PoolEmpty pool) = front ++ codes " refused 13 PoolEmpty pool " ++ decimal pool.0
with_refusal front (refusal.ArincOne pool) = front ++ codes " refused 14 ArincOne pool " ++ decimal pool.0
with_refusal front refusal.PoolsFull = front ++ codes " refused 15 PoolsFull"
with_refusal front (refusal.FrameLong sum major) = front ++ codes " refused 16 FrameLong sum " ++ decimal sum ++ codes " major " ++ decimal major
with_refusal front refusal.NoVcpu = front ++ codes " refused 17 NoVcpu"

-- the line so far, and behind it the domain and the vCPU
abbrev pub with_vcpu : List ℕ → VcpuId → List ℕ
with_vcpu front v = front ++ codes " d" ++ decimal v.dom.0 ++ codes "v" ++ decimal v.n

-- the line so far, and behind it the domain and the unit
abbrev pub with_unit : List ℕ → UnitId → List ℕ
with_unit front u = front ++ codes " d" ++ decimal u.dom.0 ++ codes "u" ++ decimal u.n

-- the line so far, and behind it a chosen unit, or that there is none
abbrev pub with_choice : List ℕ → Option UnitId → List ℕ
with_choice front None = front ++ codes " idle"
with_choice front (Some u) = with_unit front u

-- the line so far, and behind it when the slice is due, or that it is never
abbrev pub with_due : List ℕ → Option Moment → List ℕ
with_due front None = front ++ codes " due none"
with_due front (Some due) = front ++ codes " due " ++ decimal due.0

-- the line so far, and behind it what happened
abbrev pub with_event : List ℕ → Event → List ℕ
with_event front (event.Stall p until) = front ++ codes " stall p" ++ decimal p.0 ++ codes " until " ++ decimal until.0
with_event front (event.Xl k (Ok r)) = with_reply (front ++ codes " xl " ++ decimal k) r
with_event front (event.Xl k (Err r)) = with_refusal (front ++ codes " xl " ++ decimal k) r
with_event front (event.Moved r None) = front ++ codes " moved c" ++ decimal r.0 ++ codes " free"
with_event front (event.Moved r (Some pool)) = front ++ codes " moved c" ++ decimal r.0 ++ codes " pool " ++ decimal pool.0
with_event front (event.DomMoved d pool) = front ++ codes " dom-moved d" ++ decimal d.0 ++ codes " pool " ++ decimal pool.0
with_event front (event.Wake v) = with_vcpu (front ++ codes " wake") v
with_event front (event.Block p v) = with_vcpu (front ++ codes " block p" ++ decimal p.0) v
with_event front (event.Slice r) = front ++ codes " slice c" ++ decimal r.0
with_event front (event.Repl u start deadline budget extra) = with_unit (front ++ codes " repl") u ++ codes " start " ++ decimal start.0 ++ codes " deadline " ++ decimal deadline.0 ++ codes " budget " ++ decimal budget.0 ++ codes " extra " ++ flag extra
with_event front (event.Refill d periods budget) = front ++ codes " refill d" ++ decimal d.0 ++ codes " periods " ++ decimal periods ++ codes " budget " ++ signed_decimal budget
with_event front (event.Arrive p) = front ++ codes " arrive p" ++ decimal p.0
with_event front (event.Decide r unit due late reset) = with_due (with_choice (front ++ codes " decide c" ++ decimal r.0) unit) due ++ codes " late " ++ decimal late.0 ++ codes " reset " ++ decimal reset
with_event front (event.Leave p None) = front ++ codes " leave p" ++ decimal p.0 ++ codes " idle"
with_event front (event.Leave p (Some v)) = with_vcpu (front ++ codes " leave p" ++ decimal p.0) v
with_event front (event.Save r u true) = with_unit (front ++ codes " save c" ++ decimal r.0) u ++ codes " queued"
with_event front (event.Save r u false) = with_unit (front ++ codes " save c" ++ decimal r.0) u ++ codes " off"
with_event front (event.End next) = front ++ codes " end " ++ decimal next.0
with_event front event.Finish = front ++ codes " finish"

-- the byte that ends a line
abbrev pub newline : ℕ
newline = 10

-- the text of an entry, without its newline: the moment, and what happened
abbrev pub words : Entry → List ℕ
words e = with_event (decimal e.at.0) e.event

-- the line of an entry, with its newline
abbrev pub line : Entry → List ℕ
line e = words e ++ newline ∷ []

-- the text of a history: its lines
abbrev pub text : List Entry → List ℕ
text es = flat_map line es
