-- The forms of the texts of entries.
use Rattle.std.specs.Prelude.{ℕ, pos, negsuc, ◌+◌, ◌-◌, ◌^◌, Bool, true, false, List, Result, codes, Option, Some, None, Ok, Err}
use Rattle.sched_base.specs.Numbers.{moment, span, processor, core, domain, pool}
use Rattle.sched_base.specs.declared.Moment.{Moment}
use Rattle.sched_base.specs.declared.DomId.{DomId}
use Rattle.sched_base.specs.declared.PoolId.{PoolId}
use Rattle.sched_base.specs.declared.ProcId.{ProcId}
use Rattle.sched_base.specs.declared.ResId.{ResId}
use Rattle.sched_base.specs.declared.UnitId.{UnitId}
use Rattle.sched_base.specs.declared.VcpuId.{VcpuId}
use Rattle.sched_model.specs.declared.config.SchedKind.{SchedKind}
use Rattle.sched_model.specs.declared.config.SchedKind.TheVariants as kind
use Rattle.sched_model.specs.declared.event.Event.{Event}
use Rattle.sched_model.specs.declared.event.Event.TheVariants as event
use Rattle.sched_model.specs.declared.event.Refusal.{Refusal}
use Rattle.sched_model.specs.declared.event.Refusal.TheVariants as refusal
use Rattle.sched_model.specs.declared.event.Reply.{Reply}
use Rattle.sched_model.specs.declared.event.Reply.TheVariants as reply
use Rattle.sched_model.specs.declared.event.Param.{Param}
use Rattle.sched_model.specs.declared.event.Param.TheVariants as param
use Rattle.sched_print.specs.Readers.{Form, Done, Word, Number, Either, ◌>>=◌, word_at, number_at}

-- a text of the one form or of the other
infixr 5 ◌<|>◌
abbrev pub ◌<|>◌ : Form → Form → Form
f <|> g = Either f g

-- any number below 2^63
abbrev pub number : (ℕ → Form) → Form
number f = Number 0 (2 ^ 63) f

abbrev pub pool_number : (PoolId → Form) → Form
pool_number f = Number 0 16 (λ n. f (pool n))

abbrev pub domain_number : (DomId → Form) → Form
domain_number f = Number 0 64 (λ n. f (domain n))

abbrev pub processor_number : (ProcId → Form) → Form
processor_number f = Number 0 64 (λ n. f (processor n))

abbrev pub core_number : (ResId → Form) → Form
core_number f = Number 0 64 (λ n. f (core n))

abbrev pub vcpu : (VcpuId → Form) → Form
vcpu f = Word (codes " d") (domain_number (λ d. Word (codes "v") (Number 0 32 (λ n. f (record { dom = d; n = n })))))

abbrev pub unit : (UnitId → Form) → Form
unit f = Word (codes " d") (domain_number (λ d. Word (codes "u") (Number 0 32 (λ n. f (record { dom = d; n = n })))))

-- the same unit or vCPU, read alone, and the bytes behind it
abbrev pub unit_at : List ℕ → Result (UnitId × List ℕ) ℕ
unit_at bytes = word_at (codes " d") bytes >>= λ a. number_at 0 64 a >>= λ d. word_at (codes "u") d.1 >>= λ b. number_at 0 32 b >>= λ n. Ok (record { dom = domain d.0; n = n.0 }, n.1)

abbrev pub vcpu_at : List ℕ → Result (VcpuId × List ℕ) ℕ
vcpu_at bytes = word_at (codes " d") bytes >>= λ a. number_at 0 64 a >>= λ d. word_at (codes "v") d.1 >>= λ b. number_at 0 32 b >>= λ n. Ok (record { dom = domain d.0; n = n.0 }, n.1)

abbrev pub flag : (Bool → Form) → Form
flag f = Word (codes "0") (f false) <|> Word (codes "1") (f true)

abbrev pub kinds : (SchedKind → Form) → Form
kinds f =
    Word (codes "credit2") (f kind.Credit2)
    <|> Word (codes "rtds") (f kind.Rtds)
    <|> Word (codes "arinc653") (f kind.Arinc653)
    <|> Word (codes "null") (f kind.Null)

abbrev pub params : (Param → Form) → Form
params f =
    Word (codes "weight") (f param.Weight)
    <|> Word (codes "cap") (f param.Cap)
    <|> Word (codes "ratelimit") (f param.Ratelimit)
    <|> Word (codes "period") (f param.Period)
    <|> Word (codes "budget") (f param.Budget)
    <|> Word (codes "major") (f param.Major)
    <|> Word (codes "run") (f param.Run)

-- the answers to an accepted command
abbrev pub done : (Reply → Form) → Form
done f = Word (codes " ok") (f reply.Done)

abbrev pub pools : (Reply → Form) → Form
pools f = Word (codes " ok pools ") (number (λ pools. Word (codes " free ") (number (λ free. f (reply.Pools pools free)))))

abbrev pub pool_counts : PoolId → SchedKind → (Reply → Form) → Form
pool_counts i k f = Word (codes " cpus ") (number (λ cpus. Word (codes " domains ") (number (λ domains. f (reply.Pool i k cpus domains)))))

abbrev pub pool_reply : (Reply → Form) → Form
pool_reply f = Word (codes " ok pool ") (pool_number (λ i. Word (codes " ") (kinds (λ k. pool_counts i k f))))

abbrev pub weight : (Reply → Form) → Form
weight f = Word (codes " ok weight ") (number (λ weight. Word (codes " cap ") (number (λ cap. f (reply.Weight weight cap)))))

abbrev pub rate : (Reply → Form) → Form
rate f = Word (codes " ok ratelimit ") (number (λ limit. f (reply.Rate limit)))

abbrev pub rtds : (Reply → Form) → Form
rtds f = Word (codes " ok period ") (number (λ period. Word (codes " budget ") (number (λ budget. Word (codes " extratime ") (flag (λ extra. f (reply.Rtds period budget extra)))))))

-- all answers
abbrev pub replies : (Reply → Form) → Form
replies f = done f <|> pools f <|> pool_reply f <|> weight f <|> rate f <|> rtds f

-- the refusals
abbrev pub syntax : (Refusal → Form) → Form
syntax f = Word (codes " refused 1 Syntax place ") (number (λ n. f (refusal.Syntax n)))

abbrev pub no_pool : (Refusal → Form) → Form
no_pool f = Word (codes " refused 2 NoPool") (f refusal.NoPool)

abbrev pub name_taken : (Refusal → Form) → Form
name_taken f = Word (codes " refused 3 NameTaken pool ") (pool_number (λ i. f (refusal.NameTaken i)))

abbrev pub no_domain : (Refusal → Form) → Form
no_domain f = Word (codes " refused 4 NoDomain") (f refusal.NoDomain)

abbrev pub no_cpu : (Refusal → Form) → Form
no_cpu f = Word (codes " refused 5 NoCpu cpu ") (number (λ n. f (refusal.NoCpu n)))

abbrev pub cpu_taken : (Refusal → Form) → Form
cpu_taken f = Word (codes " refused 6 CpuTaken cpu ") (number (λ n. Word (codes " pool ") (pool_number (λ i. f (refusal.CpuTaken n i)))))

abbrev pub cpu_elsewhere : (Refusal → Form) → Form
cpu_elsewhere f = Word (codes " refused 7 CpuElsewhere cpu ") (number (λ n. f (refusal.CpuElsewhere n)))

abbrev pub last_cpu : (Refusal → Form) → Form
last_cpu f = Word (codes " refused 8 LastCpu pool ") (pool_number (λ i. Word (codes " domain ") (domain_number (λ d. f (refusal.LastCpu i d)))))

abbrev pub pool_holds : (Refusal → Form) → Form
pool_holds f = Word (codes " refused 9 PoolHolds pool ") (pool_number (λ i. Word (codes " cpus ") (number (λ n. Word (codes " domains ") (number (λ m. f (refusal.PoolHolds i n m)))))))

abbrev pub pool_zero : (Refusal → Form) → Form
pool_zero f = Word (codes " refused 10 PoolZero") (f refusal.PoolZero)

abbrev pub wrong_sched : (Refusal → Form) → Form
wrong_sched f = Word (codes " refused 11 WrongSched pool ") (pool_number (λ i. Word (codes " ") (kinds (λ k. f (refusal.WrongSched i k)))))

abbrev pub range_of : Param → (Refusal → Form) → Form
range_of p f = Word (codes " ") (number (λ n. f (refusal.Range p n)))

abbrev pub range : (Refusal → Form) → Form
range f = Word (codes " refused 12 Range ") (params (λ p. range_of p f))

abbrev pub pool_empty : (Refusal → Form) → Form
pool_empty f = Word (codes " refused 13 PoolEmpty pool ") (pool_number (λ i. f (refusal.PoolEmpty i)))

abbrev pub arinc_one : (Refusal → Form) → Form
arinc_one f = Word (codes " refused 14 ArincOne pool ") (pool_number (λ i. f (refusal.ArincOne i)))

abbrev pub pools_full : (Refusal → Form) → Form
pools_full f = Word (codes " refused 15 PoolsFull") (f refusal.PoolsFull)

abbrev pub frame_long : (Refusal → Form) → Form
frame_long f = Word (codes " refused 16 FrameLong sum ") (number (λ n. Word (codes " major ") (number (λ m. f (refusal.FrameLong n m)))))

abbrev pub no_vcpu : (Refusal → Form) → Form
no_vcpu f = Word (codes " refused 17 NoVcpu") (f refusal.NoVcpu)

-- the refusals whose numbers are 1 to 9
abbrev pub low_refusals : (Refusal → Form) → Form
low_refusals f =
    syntax f <|> no_pool f <|> name_taken f <|> no_domain f <|> no_cpu f <|> cpu_taken f <|> cpu_elsewhere f <|> last_cpu f <|> pool_holds f

-- the refusals whose numbers are 10 to 17
abbrev pub high_refusals : (Refusal → Form) → Form
high_refusals f =
    pool_zero f <|> wrong_sched f <|> range f <|> pool_empty f <|> arinc_one f <|> pools_full f <|> frame_long f <|> no_vcpu f

-- the events, each behind the moment; f is what a text of the event stands for
abbrev pub stall : (Event → Form) → Form
stall f = Word (codes " stall p") (processor_number (λ p. Word (codes " until ") (number (λ n. f (event.Stall p (moment n))))))

-- what is behind the number of a command
abbrev pub answers : ℕ → (Event → Form) → Form
answers k f = replies (λ r. f (event.Xl k (Ok r))) <|> low_refusals (λ r. f (event.Xl k (Err r))) <|> high_refusals (λ r. f (event.Xl k (Err r)))

abbrev pub xl : (Event → Form) → Form
xl f = Word (codes " xl ") (Number 1 4097 (λ k. answers k f))

abbrev pub moved_to_pool : ResId → (Event → Form) → Form
moved_to_pool r f = Word (codes " pool ") (pool_number (λ i. f (event.Moved r (Some i))))

abbrev pub moved_form : (Event → Form) → Form
moved_form f = Word (codes " moved c") (core_number (λ r. Word (codes " free") (f (event.Moved r None)) <|> moved_to_pool r f))

abbrev pub dom_moved : (Event → Form) → Form
dom_moved f = Word (codes " dom-moved d") (domain_number (λ d. Word (codes " pool ") (pool_number (λ i. f (event.DomMoved d i)))))

abbrev pub wake : (Event → Form) → Form
wake f = Word (codes " wake") (vcpu (λ v. f (event.Wake v)))

abbrev pub block : (Event → Form) → Form
block f = Word (codes " block p") (processor_number (λ p. vcpu (λ v. f (event.Block p v))))

abbrev pub slice : (Event → Form) → Form
slice f = Word (codes " slice c") (core_number (λ r. f (event.Slice r)))

abbrev pub repl_end : UnitId → (Event → Form) → Form
repl_end u f = Word (codes " start ") (number (λ start. Word (codes " deadline ") (number (λ deadline. Word (codes " budget ") (number (λ budget.
    Word (codes " extra ") (flag (λ extra. f (event.Repl u (moment start) (moment deadline) (span budget) extra)))))))))

abbrev pub repl : (Event → Form) → Form
repl f = Word (codes " repl") (unit (λ u. repl_end u f))

abbrev pub refill_positive : DomId → ℕ → (Event → Form) → Form
refill_positive d periods f = number (λ n. f (event.Refill d periods (pos n)))

-- the digits of the absolute value, which is at least 1, behind a hyphen
abbrev pub refill_negative : DomId → ℕ → (Event → Form) → Form
refill_negative d periods f = Word (codes "-") (Number 1 (2 ^ 63 + 1) (λ n. f (event.Refill d periods (negsuc (n - 1)))))

abbrev pub refill : (Event → Form) → Form
refill f = Word (codes " refill d") (domain_number (λ d. Word (codes " periods ") (number (λ n. Word (codes " budget ") (refill_positive d n f <|> refill_negative d n f)))))

abbrev pub arrive : (Event → Form) → Form
arrive f = Word (codes " arrive p") (processor_number (λ p. f (event.Arrive p)))

abbrev pub decide_end : ResId → Option UnitId → Option Moment → (Event → Form) → Form
decide_end r u t f = Word (codes " late ") (number (λ late. Word (codes " reset ") (number (λ m. f (event.Decide r u t (span late) m)))))

abbrev pub decide_at : ResId → Option UnitId → (Event → Form) → Form
decide_at r u f = Word (codes " due ") (number (λ n. decide_end r u (Some (moment n)) f))

abbrev pub decide_never : ResId → Option UnitId → (Event → Form) → Form
decide_never r u f = Word (codes " due none") (decide_end r u None f)

abbrev pub decide_due : ResId → Option UnitId → (Event → Form) → Form
decide_due r u f = decide_at r u f <|> decide_never r u f

abbrev pub decide_unit : ResId → (Event → Form) → Form
decide_unit r f = unit (λ u. decide_due r (Some u) f)

abbrev pub decide_idle : ResId → (Event → Form) → Form
decide_idle r f = Word (codes " idle") (decide_due r None f)

abbrev pub decide : (Event → Form) → Form
decide f = Word (codes " decide c") (core_number (λ r. decide_unit r f <|> decide_idle r f))

abbrev pub leave_vcpu : ProcId → (Event → Form) → Form
leave_vcpu p f = vcpu (λ v. f (event.Leave p (Some v)))

abbrev pub leave : (Event → Form) → Form
leave f = Word (codes " leave p") (processor_number (λ p. leave_vcpu p f <|> Word (codes " idle") (f (event.Leave p None))))

abbrev pub save_end : ResId → UnitId → (Event → Form) → Form
save_end r u f = Word (codes " queued") (f (event.Save r u true)) <|> Word (codes " off") (f (event.Save r u false))

abbrev pub save : (Event → Form) → Form
save f = Word (codes " save c") (core_number (λ r. unit (λ u. save_end r u f)))

abbrev pub end : (Event → Form) → Form
end f = Word (codes " end ") (number (λ n. f (event.End (moment n))))

abbrev pub finish : (Event → Form) → Form
finish f = Word (codes " finish") (f event.Finish)

-- all events
abbrev pub events : (Event → Form) → Form
events f =
    stall f
    <|> xl f
    <|> moved_form f
    <|> dom_moved f
    <|> wake f
    <|> block f
    <|> slice f
    <|> repl f
    <|> refill f
    <|> arrive f
    <|> decide f
    <|> leave f
    <|> save f
    <|> end f
    <|> finish f

-- the text of the entry of this moment ends here
abbrev pub entry : ℕ → Event → Form
entry t e = Done (record { at = moment t; event = e })

-- the text of the answer to the command k ends here
abbrev pub answered_form : ℕ → ℕ → Reply → Form
answered_form t k r = entry t (event.Xl k (Ok r))

abbrev pub refused_form : ℕ → ℕ → Refusal → Form
refused_form t k r = entry t (event.Xl k (Err r))

-- all entries
abbrev pub entries : Form
entries = number (λ t. events (entry t))
