-- The entries that have a text which is read back: those whose numbers are in their ranges. Every entry of a run is such.
use Rattle.std.specs.Prelude.{ℕ, ℤ, pos, negsuc, ◌<◌, ◌≤◌, ◌^◌, Ok, Err, IfSome, ⊤}
use Rattle.sched_base.specs.declared.Moment.{Moment}
use Rattle.sched_base.specs.declared.Span.{Span}
use Rattle.sched_base.specs.declared.DomId.{DomId}
use Rattle.sched_base.specs.declared.PoolId.{PoolId}
use Rattle.sched_base.specs.declared.ProcId.{ProcId}
use Rattle.sched_base.specs.declared.ResId.{ResId}
use Rattle.sched_base.specs.declared.UnitId.{UnitId}
use Rattle.sched_base.specs.declared.VcpuId.{VcpuId}
use Rattle.sched_model.specs.declared.event.Event.{Event}
use Rattle.sched_model.specs.declared.event.Event.TheVariants as event
use Rattle.sched_model.specs.declared.event.Refusal.{Refusal}
use Rattle.sched_model.specs.declared.event.Refusal.TheVariants as refusal
use Rattle.sched_model.specs.declared.event.Reply.{Reply}
use Rattle.sched_model.specs.declared.event.Reply.TheVariants as reply
use Rattle.sched_model.specs.declared.event.Entry.{Entry}

-- a count, a value of a parameter, or a place
abbrev pub IsNumber : ℕ → Type 0
IsNumber n = n < 2 ^ 63

abbrev pub IsMoment : Moment → Type 0
IsMoment t = t.0 < 2 ^ 63

abbrev pub IsSpan : Span → Type 0
IsSpan s = s.0 < 2 ^ 63

abbrev pub IsProcessor : ProcId → Type 0
IsProcessor p = p.0 < 64

abbrev pub IsCore : ResId → Type 0
IsCore r = r.0 < 64

abbrev pub IsDomain : DomId → Type 0
IsDomain d = d.0 < 64

abbrev pub IsPool : PoolId → Type 0
IsPool i = i.0 < 16

abbrev pub IsUnit : UnitId → Type 0
IsUnit u = IsDomain u.dom × (u.n < 32)

abbrev pub IsVcpu : VcpuId → Type 0
IsVcpu v = IsDomain v.dom × (v.n < 32)

-- a signed number of 64 bits
abbrev pub IsSigned : ℤ → Type 0
IsSigned (pos n) = n < 2 ^ 63
IsSigned (negsuc n) = n < 2 ^ 63

abbrev pub IsPrintableReply : Reply → Type 0
IsPrintableReply reply.Done = ⊤
IsPrintableReply (reply.Pools pools free) = IsNumber pools × IsNumber free
IsPrintableReply (reply.Pool pool kind cpus domains) = IsPool pool × IsNumber cpus × IsNumber domains
IsPrintableReply (reply.Weight weight cap) = IsNumber weight × IsNumber cap
IsPrintableReply (reply.Rate limit) = IsNumber limit
IsPrintableReply (reply.Rtds period budget extra) = IsNumber period × IsNumber budget

abbrev pub IsPrintableRefusal : Refusal → Type 0
IsPrintableRefusal (refusal.Syntax place) = IsNumber place
IsPrintableRefusal refusal.NoPool = ⊤
IsPrintableRefusal (refusal.NameTaken pool) = IsPool pool
IsPrintableRefusal refusal.NoDomain = ⊤
IsPrintableRefusal (refusal.NoCpu cpu) = IsNumber cpu
IsPrintableRefusal (refusal.CpuTaken cpu pool) = IsNumber cpu × IsPool pool
IsPrintableRefusal (refusal.CpuElsewhere cpu) = IsNumber cpu
IsPrintableRefusal (refusal.LastCpu pool dom) = IsPool pool × IsDomain dom
IsPrintableRefusal (refusal.PoolHolds pool cpus domains) = IsPool pool × IsNumber cpus × IsNumber domains
IsPrintableRefusal refusal.PoolZero = ⊤
IsPrintableRefusal (refusal.WrongSched pool kind) = IsPool pool
IsPrintableRefusal (refusal.Range param n) = IsNumber n
IsPrintableRefusal (refusal.PoolEmpty pool) = IsPool pool
IsPrintableRefusal (refusal.ArincOne pool) = IsPool pool
IsPrintableRefusal refusal.PoolsFull = ⊤
IsPrintableRefusal (refusal.FrameLong sum major) = IsNumber sum × IsNumber major
IsPrintableRefusal refusal.NoVcpu = ⊤

-- a command has a number from 1 to 4096
abbrev pub IsCommandNumber : ℕ → Type 0
IsCommandNumber k = (1 ≤ k) × (k < 4097)

abbrev pub IsPrintableEvent : Event → Type 0
IsPrintableEvent (event.Stall p until) = IsProcessor p × IsMoment until
IsPrintableEvent (event.Xl k (Ok r)) = IsCommandNumber k × IsPrintableReply r
IsPrintableEvent (event.Xl k (Err r)) = IsCommandNumber k × IsPrintableRefusal r
IsPrintableEvent (event.Moved r to) = IsCore r × IfSome to IsPool
IsPrintableEvent (event.DomMoved d to) = IsDomain d × IsPool to
IsPrintableEvent (event.Wake v) = IsVcpu v
IsPrintableEvent (event.Block p v) = IsProcessor p × IsVcpu v
IsPrintableEvent (event.Slice r) = IsCore r
IsPrintableEvent (event.Repl u start deadline budget extra) = IsUnit u × IsMoment start × IsMoment deadline × IsSpan budget
IsPrintableEvent (event.Refill d periods budget) = IsDomain d × IsNumber periods × IsSigned budget
IsPrintableEvent (event.Arrive p) = IsProcessor p
IsPrintableEvent (event.Decide r unit due late reset) = IsCore r × IfSome unit IsUnit × IfSome due IsMoment × IsSpan late × IsNumber reset
IsPrintableEvent (event.Leave p v) = IsProcessor p × IfSome v IsVcpu
IsPrintableEvent (event.Save r u queued) = IsCore r × IsUnit u
IsPrintableEvent (event.End next) = IsMoment next
IsPrintableEvent event.Finish = ⊤

-- the numbers of the entry are in their ranges
abbrev pub IsPrintable : Entry → Type 0
IsPrintable e = IsMoment e.at × IsPrintableEvent e.event
