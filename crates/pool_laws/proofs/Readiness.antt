-- An event may come exactly from its moment on.
use Rattle.std.proofs.Common.{◌≡◌, ℕ, ◌/◌, [], ◌∷◌, Bool, true, false, refl, sym, ◌∙◌, ap, arith}
use Rattle.std.specs.Prelude.{◌&&◌, ◌||◌, not, nat_le, max, Option, Some, None, is_none, is_some}
use Rattle.std.specs.List.{list_any, list_all}
use Rattle.std.proofs.lemmas.Bool.Decides.{nat_tests}
use Rattle.sched_base.specs.Numbers.{moment, has_moment_come}
use Rattle.sched_base.specs.declared.UnitId.{UnitId}
use Rattle.sched_base.specs.declared.VcpuId.{VcpuId}
use Rattle.sched_base.specs.declared.Moment.{Moment}
use Rattle.sched_base.proofs.Bools.{and_true}
use Rattle.sched_model.specs.State.{is_not_stalled}
use Rattle.sched_model.specs.declared.action.Action.{Action}
use Rattle.sched_model.specs.declared.action.Action.TheVariants.{Stall, Xl, Moved, DomMoved, Wake, Block, Slice, Repl, Refill, Arrive, Decide, Leave, Save}
use Rattle.sched_model.specs.declared.state.Records.{Records}
use Rattle.sched_model.specs.declared.state.Records.TheVariants.{RtdsPool}
use Rattle.sched_model.specs.declared.state.RtdsUnit.{RtdsUnit}
use Rattle.sched_model.specs.declared.state.Resource.{Resource}
use Rattle.sched_model.specs.declared.state.Processor.{Processor}
use Rattle.sched_model.specs.declared.state.Vcpu.{Vcpu}
use Rattle.sched_model.specs.declared.state.Domain.{Domain}
use Rattle.sched_model.specs.declared.state.Pool.{Pool}
use Rattle.sched_model.specs.EligibleUnits.{rtds_unit_at}
use Rattle.sched_model.specs.Places.{at_place, first_place, has_listed_unit, test_at}
use Rattle.sched_model.specs.Policy.{unit_rtds_record, next_refill_moment, is_replenish_due}
use Rattle.sched_model.specs.Pool.{enabled_in, is_held_back, is_gathering, is_first_processor_up, is_lowest_processor_up, pool_processor, pool_vcpu, running_guest, done_moment, unit_core}
use Rattle.pool_laws.specs.ReadyMoments.{guarded_moment, later_of, end_of, first_stall_end, end_where, lowest_stall_end, may_core_move, work_end, slice_moment, deadline_of, sibling_end, may_gather, ready_in}

come_when : (t : ℕ) (condition : Bool) (at : Option Moment) → has_moment_come t (guarded_moment condition at) ≡ (condition && has_moment_come t at)
come_when t true at = refl
come_when t false at = refl

max_test : (t a b : ℕ) → nat_le (max a b) t ≡ (nat_le a t && nat_le b t)
max_test t a b = grind (arith, nat_tests)

and_false : (a : Bool) → false ≡ (a && false)
and_false true = refl
and_false false = refl

pub come_later : (t : ℕ) (a b : Option Moment) → has_moment_come t (later_of a b) ≡ (has_moment_come t a && has_moment_come t b)
come_later t None b = refl
come_later t (Some a) None = and_false (nat_le a.0 t)
come_later t (Some a) (Some b) = max_test t a.0 b.0

come_first : (t : ℕ) (c : Resource) → has_moment_come t (first_stall_end c) ≡ is_first_processor_up t c
come_first t c = elim c.processors as (λ ps. has_moment_come t (elim ps as (λ _. Option Moment) [ [] ↦ None | p ∷ rest ↦ Some p.stall_end ]) ≡ elim ps as (λ _. Bool) [ [] ↦ false | p ∷ rest ↦ is_not_stalled t p ]) [
  | [] ↦ refl
  | p ∷ rest ↦ refl
]

come_where : (t : ℕ) (test : Resource → Bool) (c : Option Resource) → has_moment_come t (end_where test c) ≡ elim c [ None ↦ false | Some x ↦ test x && is_first_processor_up t x ]
come_where t test None = refl
come_where t test (Some c) = come_when t (test c) (first_stall_end c) ∙ ap (λ (b : Bool). test c && b) (come_first t c)

and_turn : (a b c : Bool) → ((a && b) && c) ≡ (b && (a && c))
and_turn true b c = refl
and_turn false b c = and_false b

-- a core's events
moved : (t : ℕ) (c : Option Resource) → elim c as (λ _. Bool) [ None ↦ false | Some x ↦ x.leaving && is_none x.cur && is_none x.saving && not x.pending && is_gathering x && is_first_processor_up t x ] ≡ has_moment_come t (end_where may_core_move c)
moved t None = refl
moved t (Some c) = sym (come_where t may_core_move (Some c))

sliced : (t : ℕ) (c : Option Resource) → elim c as (λ _. Bool) [ None ↦ false | Some x ↦ has_moment_come t x.due && not x.pending && is_first_processor_up t x ] ≡ has_moment_come t (slice_moment c)
sliced t None = refl
sliced t (Some c) =
    and_turn (has_moment_come t c.due) (not c.pending) (is_first_processor_up t c)
    ∙ ap (λ (b : Bool). not c.pending && (has_moment_come t c.due && b)) (sym (come_first t c))
    ∙ ap (λ (b : Bool). not c.pending && b) (sym (come_later t c.due (first_stall_end c)))
    ∙ sym (come_when t (not c.pending) (later_of c.due (first_stall_end c)))

tested : (t : ℕ) (a b : Resource → Bool) (c : Option Resource) → elim c as (λ _. Bool) [ None ↦ false | Some x ↦ a x && b x && is_first_processor_up t x ] ≡ has_moment_come t (end_where (λ x. a x && b x) c)
tested t a b None = refl
tested t a b (Some c) = sym (come_where t (λ x. a x && b x) (Some c))

lowest : (t : ℕ) (pool : Pool) → is_lowest_processor_up t pool ≡ has_moment_come t (lowest_stall_end pool)
lowest t pool = elim (first_place 0 (λ (c : Resource). true) pool.resources) as (λ o. elim o as (λ _. Bool) [ None ↦ false | Some r ↦ test_at pool.resources r (is_first_processor_up t) ] ≡ has_moment_come t (elim o as (λ _. Option Moment) [ None ↦ None | Some r ↦ end_where (λ c. true) (at_place pool.resources r) ])) [
  | None ↦ refl
  | Some r ↦ sym (come_where t (λ c. true) (at_place pool.resources r))
]

-- a unit's deadline
due_record : (t : ℕ) (o : Option RtdsUnit) → elim o as (λ _. Bool) [ None ↦ false | Some x ↦ nat_le x.deadline t ] ≡ has_moment_come t (elim o as (λ _. Option Moment) [ None ↦ None | Some x ↦ Some (moment x.deadline) ])
due_record t None = refl
due_record t (Some x) = refl

due_in : (t : ℕ) (records : Records) (u : UnitId) → is_replenish_due records t u ≡ has_moment_come t (elim (unit_rtds_record records u) as (λ _. Option Moment) [ None ↦ None | Some x ↦ Some (moment x.deadline) ])
due_in t (RtdsPool domains) u = due_record t (rtds_unit_at domains u)
due_in t any u = refl

-- a vCPU's sleep and work
asleep : (t : ℕ) (v : Option Vcpu) → elim v as (λ _. Bool) [ None ↦ false | Some x ↦ has_moment_come t x.asleep_until ] ≡ has_moment_come t (elim v as (λ _. Option Moment) [ None ↦ None | Some x ↦ x.asleep_until ])
asleep t None = refl
asleep t (Some x) = refl

work : (t : ℕ) (v : Option Vcpu) → elim v as (λ _. Bool) [ None ↦ false | Some x ↦ has_moment_come t (done_moment x) ] ≡ has_moment_come t (elim v as (λ _. Option Moment) [ None ↦ None | Some x ↦ done_moment x ])
work t None = refl
work t (Some x) = refl

worked : (t : ℕ) (pool : Pool) (guest : Option VcpuId)
    → elim guest as (λ _. Bool) [ None ↦ false | Some v ↦ elim (pool_vcpu pool v) [ None ↦ false | Some x ↦ has_moment_come t (done_moment x) ] ]
    ≡ has_moment_come t (elim guest as (λ _. Option Moment) [ None ↦ None | Some v ↦ elim (pool_vcpu pool v) [ None ↦ None | Some x ↦ done_moment x ] ])
worked t pool None = refl
worked t pool (Some v) = work t (pool_vcpu pool v)

-- a processor's events
of_processor : (t : ℕ) (test : Processor → Bool) (q : Option Processor) → elim q as (λ _. Bool) [ None ↦ false | Some x ↦ test x && is_not_stalled t x ] ≡ has_moment_come t (elim q as (λ _. Option Moment) [ None ↦ None | Some x ↦ guarded_moment (test x) (Some x.stall_end) ])
of_processor t test None = refl
of_processor t test (Some q) = sym (come_when t (test q) (Some q.stall_end))

sibling : (t g : ℕ) (pool : Pool) (p : ℕ) (a : Resource → Bool) (b : Processor → Bool)
    → (test_at pool.resources (p / g) a && elim (pool_processor g pool p) as (λ _. Bool) [ None ↦ false | Some q ↦ b q && is_not_stalled t q ]) ≡ has_moment_come t (sibling_end g pool p a b)
sibling t g pool p a b =
    elim (at_place pool.resources (p / g)) as (λ o. (elim o as (λ _. Bool) [ None ↦ false | Some c ↦ a c ] && elim (pool_processor g pool p) as (λ _. Bool) [ None ↦ false | Some q ↦ b q && is_not_stalled t q ])
    ≡ has_moment_come t (elim o as (λ _. Option Moment) [ None ↦ None | Some c ↦ guarded_moment (a c) (elim (pool_processor g pool p) [ None ↦ None | Some q ↦ guarded_moment (b q) (Some q.stall_end) ]) ])) [
      | None ↦ refl
      | Some c ↦
          ap (λ (x : Bool). a c && x) (of_processor t b (pool_processor g pool p))
          ∙ sym (come_when t (a c) (elim (pool_processor g pool p) [ None ↦ None | Some q ↦ guarded_moment (b q) (Some q.stall_end) ]))
    ]

up : (t : ℕ) (q : Option Processor) → elim q as (λ _. Bool) [ None ↦ false | Some x ↦ is_not_stalled t x ] ≡ has_moment_come t (end_of q)
up t None = refl
up t (Some q) = refl

moving : (d : Option Domain) (rest : Bool) (t : ℕ) → (elim d as (λ _. Bool) [ None ↦ false | Some x ↦ is_some x.moving ] && rest) ≡ has_moment_come t (guarded_moment (elim d as (λ _. Bool) [ None ↦ false | Some x ↦ is_some x.moving ] && rest) (Some (moment 0)))
moving d rest t =
    let condition : Bool = elim d as (λ _. Bool) [ None ↦ false | Some x ↦ is_some x.moving ] && rest in
    let always : has_moment_come t (Some (moment 0)) ≡ true = grind (arith, nat_tests) in
    sym (come_when t condition (Some (moment 0)) ∙ ap (λ (b : Bool). condition && b) always ∙ and_true condition)

-- each event may come exactly from its moment on
pub ready : (g t : ℕ) (pool : Pool) (action : Action) → enabled_in g t pool action ≡ has_moment_come t (ready_in g pool action)
ready g t pool Stall = refl
ready g t pool Xl = refl
ready g t pool (Moved r) = moved t (at_place pool.resources r.0)
ready g t pool (DomMoved d) = moving (at_place pool.domains d.0) _ t
ready g t pool (Wake v) = asleep t (pool_vcpu pool v)
ready g t pool (Block p) =
    ap (λ (a : Bool). a && elim (pool_processor g pool p.0) as (λ _. Bool) [ None ↦ false | Some q ↦ is_not_stalled t q ]) (worked t pool (running_guest g pool p.0))
    ∙ ap (λ (b : Bool). has_moment_come t (work_end g pool p.0) && b) (up t (pool_processor g pool p.0))
    ∙ sym (come_later t (work_end g pool p.0) (end_of (pool_processor g pool p.0)))
ready g t pool (Slice r) = sliced t (at_place pool.resources r.0)
ready g t pool (Repl u) =
    let some : Bool = has_listed_unit pool.scheduler.queue u || is_some (unit_core pool u) in
    let deadline : Option Moment = elim (unit_rtds_record pool.scheduler.records u) as (λ _. Option Moment) [ None ↦ None | Some x ↦ Some (moment x.deadline) ] in
    ap (λ (a : Bool). (some && a) && is_lowest_processor_up t pool) (due_in t pool.scheduler.records u)
    ∙ ap (λ (b : Bool). (some && has_moment_come t deadline) && b) (lowest t pool)
    ∙ ap (λ (a : Bool). a && has_moment_come t (lowest_stall_end pool)) (sym (come_when t some deadline))
    ∙ sym (come_later t (deadline_of pool u) (lowest_stall_end pool))
ready g t pool (Refill d) =
    ap (λ (b : Bool). has_moment_come t (next_refill_moment pool.scheduler.records d.0) && b) (lowest t pool)
    ∙ sym (come_later t (next_refill_moment pool.scheduler.records d.0) (lowest_stall_end pool))
ready g t pool (Arrive p) = sibling t g pool p.0 may_gather (λ q. not (is_held_back q))
ready g t pool (Decide r) = tested t (λ c. list_all is_held_back c.processors) is_gathering (at_place pool.resources r.0)
ready g t pool (Leave p) = sibling t g pool p.0 (λ c. not (is_gathering c)) is_held_back
ready g t pool (Save r) = tested t (λ c. is_some c.saving) (λ c. not (list_any is_held_back c.processors)) (at_place pool.resources r.0)

pub come_then : (at : Moment) → has_moment_come at.0 (Some at) ≡ true
come_then at = grind (arith, nat_tests)
