-- The first event of a pool, from the first of each kind.
use Rattle.std.proofs.Common.{◌≡◌, ◌≤◌, ◌<◌, ℕ, suc, List, Bool, true, false, refl, sym, ap, subst, ◌∙◌, inl, inr, arith}
use Rattle.std.specs.Prelude.{Option, Some, None, option_map, ◌&&◌, ◌||◌, is_some, nat_le, if◌then◌else◌}
use Rattle.std.proofs.Math.Decide.{ℕ_discrete}
use Rattle.std.proofs.lemmas.Bool.{cases_lt, false_from_ne_true, and_from}
use Rattle.std.proofs.lemmas.Bool.Decides.{nat_tests}
use Rattle.sched_base.specs.Numbers.{domain, moment, core as core_number, processor, has_moment_come}
use Rattle.sched_base.specs.declared.Moment.{Moment}
use Rattle.sched_base.specs.declared.UnitId.{UnitId}
use Rattle.sched_base.specs.declared.VcpuId.{VcpuId}
use Rattle.sched_model.specs.declared.action.Action.{Action}
use Rattle.sched_model.specs.declared.action.Action.TheVariants.{Stall, Xl, Moved, DomMoved, Wake, Block, Slice, Repl, Refill, Arrive, Decide, Leave, Save}
use Rattle.sched_model.specs.declared.state.Pool.{Pool}
use Rattle.sched_model.specs.declared.state.Records.{Records}
use Rattle.sched_model.specs.declared.state.Records.TheVariants.{Credit2Pool, RtdsPool, ArincPool, NullPool}
use Rattle.sched_model.specs.declared.state.RtdsUnit.{RtdsUnit}
use Rattle.sched_model.specs.declared.state.Scheduler.{Scheduler}
use Rattle.sched_model.specs.Places.{has_listed_unit}
use Rattle.sched_model.specs.Policy.{next_refill_moment, unit_rtds_record}
use Rattle.sched_model.specs.Pool.{unit_core, enabled_in}
use Rattle.sched_base.proofs.Bools.{and_left, clash}
use Rattle.sched_model.specs.Actions.{IsOfPool}
use Rattle.pool_laws.specs.ReadyMoments.{deadline_of, end_of, later_of, lowest_stall_end, ready_in, guarded_moment, work_end}
use Rattle.pool_laws.proofs.Readiness.{ready, come_later}
use Rattle.policy_laws.specs.Holds.{AreOn}
use Rattle.policy_laws.proofs.Alike.{found_core}
use Rattle.sched_ops.specs.Conditions.{is_on, may_unit_be_on}
use Rattle.sched_ops.specs.Seen.{Seen as SchedulerSeen}
use Rattle.sched_ops.specs.Timers.{Armed, timer_action, next_scheduler_timer}
use Rattle.sched_ops.specs.declared.timer.Timer.{Timer}
use Rattle.sched_ops.specs.declared.timer.Timer.TheVariants as timer
use Rattle.policy_laws.specs.TimerOrder.{armed_at, IsNotAfter as IsTimerNotAfter}
use Rattle.policy_laws.proofs.TimerLaw as law
use Rattle.unit_state.specs.Seen.{Seen as GuestsSeen, is_due_among, IsNotAfter as IsVcpuNotAfter}
use Rattle.core_state.specs.Ends.{ready_among}
use Rattle.core_state.specs.Firsts.{IsFirstCome}
use Rattle.core_state.specs.Seen.{Seen as CoresSeen, processor_among}
use Rattle.pool_core.specs.PoolState.{AreWorks}
use Rattle.pool_core.specs.Seen.{pool_of}
use Rattle.pool_core.specs.Order.{IsFirstIn, IsFirstWhere, is_any, IsNotAfter, index_place, kind_place, subject_place}
use Rattle.pool_laws.specs.FirstEvents.{IsFirstEnabled}
use Rattle.pool_laws.proofs.ActionOrder.{action_at, later_kind, of_kind}
use Rattle.sched_laws.proofs.Lists.{has_come-le}

-- the events of a pool are those from the wakes on
pub from_wakes : (a : Action) → IsOfPool a → 4 ≤ kind_place a
from_wakes Stall of = absurd of
from_wakes Xl of = absurd of
from_wakes (Moved r) of = absurd of
from_wakes (DomMoved d) of = absurd of
from_wakes a of = omega arith

pub to_saves : (a : Action) → kind_place a < 13
to_saves Stall = omega arith
to_saves a = omega arith

pub is_of_pool : (a : Action) → 4 ≤ kind_place a → IsOfPool a
is_of_pool Stall from = absurd (omega (arith, from))
is_of_pool Xl from = absurd (omega (arith, from))
is_of_pool (Moved r) from = absurd (omega (arith, from))
is_of_pool (DomMoved d) from = absurd (omega (arith, from))
is_of_pool a from = tt

-- whether a replenishment or a refill is armed, by the records
armed_none : (t : ℕ) (b : Bool) → has_moment_come t (if b then None else None) ≡ false
armed_none t true = refl
armed_none t false = refl

-- a scheduler has replenishments or refills, and never both
never_both : (t : ℕ) (s : Scheduler) (u : UnitId) (d : ℕ) → has_moment_come t (armed_at s (timer.Repl u)) ≡ true → has_moment_come t (armed_at s (timer.Refill (domain d))) ≡ true → ⊥
never_both t s u d = by s.records
  where
    by : (records : Records) → has_moment_come t (if has_listed_unit s.queue u || is_on records u then (elim (unit_rtds_record records u) as (λ _. Option Moment) [ None ↦ None | Some x ↦ Some (moment x.deadline) ]) else None) ≡ true → has_moment_come t (next_refill_moment records d) ≡ true → ⊥
    by (Credit2Pool records) one other = clash _ one (armed_none t (has_listed_unit s.queue u || is_on (Credit2Pool records) u))
    by (RtdsPool domains) one other = absurd (cc)
    by (ArincPool records) one other = absurd (cc)
    by (NullPool kept) one other = absurd (cc)

if_none : (a b : Bool) → ◌≡◌ {A = Option Moment} (if a then None else None) (if b then None else None)
if_none true true = refl
if_none true false = refl
if_none false true = refl
if_none false false = refl

-- where the records tell, a unit is on exactly where a core has it
on_core : (pool : Pool) (domains : List (Option (List RtdsUnit))) (u : UnitId) → AreOn pool → pool.scheduler.records ≡ RtdsPool domains → is_on (RtdsPool domains) u ≡ is_some (unit_core pool u)
on_core pool domains u on is = by (is_on (RtdsPool domains) u) (is_some (unit_core pool u)) refl refl
  where
    by : (a b : Bool) → is_on (RtdsPool domains) u ≡ a → is_some (unit_core pool u) ≡ b → a ≡ b
    by true true told found = refl
    by false false told found = refl
    by true false told found = absurd (clash _ (on.off u (ap (λ (rs : Records). is_on rs u) is ∙ told)) found)
    by false true told found =
        let core = found_core pool u found in
        absurd (clash _ (sym (ap (λ (rs : Records). may_unit_be_on rs u) is) ∙ on.own core.0 core.1 core.2 u core.3) told)

-- a replenishment is armed at the deadline of the unit
pub deadline_is : (pool : Pool) (u : UnitId) → AreOn pool → armed_at pool.scheduler (timer.Repl u) ≡ deadline_of pool u
deadline_is pool u on = by pool.scheduler.records refl
  where
    by : (records : Records) → pool.scheduler.records ≡ records
        → (if has_listed_unit pool.scheduler.queue u || is_on records u then (elim (unit_rtds_record records u) as (λ _. Option Moment) [ None ↦ None | Some x ↦ Some (moment x.deadline) ]) else None)
        ≡ guarded_moment (has_listed_unit pool.scheduler.queue u || is_some (unit_core pool u)) (elim (unit_rtds_record records u) as (λ _. Option Moment) [ None ↦ None | Some x ↦ Some (moment x.deadline) ])
    by (Credit2Pool records) is = if_none (has_listed_unit pool.scheduler.queue u || is_on (Credit2Pool records) u) (has_listed_unit pool.scheduler.queue u || is_some (unit_core pool u))
    by (RtdsPool domains) is =
        ap (λ (b : Bool). guarded_moment (has_listed_unit pool.scheduler.queue u || b) (elim (unit_rtds_record (RtdsPool domains) u) as (λ _. Option Moment) [ None ↦ None | Some x ↦ Some (moment x.deadline) ]))
        (on_core pool domains u on is)
    by (ArincPool records) is = if_none (has_listed_unit pool.scheduler.queue u || is_on (ArincPool records) u) (has_listed_unit pool.scheduler.queue u || is_some (unit_core pool u))
    by (NullPool kept) is = if_none (has_listed_unit pool.scheduler.queue u || is_on (NullPool kept) u) (has_listed_unit pool.scheduler.queue u || is_some (unit_core pool u))

-- from when on the event of a timer may come
pub timer_ready : (g : ℕ) (pool : Pool) → AreOn pool → (x : Timer) → ready_in g pool (timer_action x) ≡ later_of (armed_at pool.scheduler x) (lowest_stall_end pool)
timer_ready g pool on (timer.Repl u) = ap (λ (a : Option Moment). later_of a (lowest_stall_end pool)) (sym (deadline_is pool u on))
timer_ready g pool on (timer.Refill d) = refl

module _ (test : Action → Bool) (g t : ℕ) (pool : Pool) where
  -- no event of a kind
  pub none_at : (k : ℕ) → ((i n : ℕ) → test (action_at k i n) ≡ true → enabled_in g t pool (action_at k i n) ≡ false) → IsFirstWhere test k (suc k) g t pool None
  none_at k none action from below own =
      let e = of_kind k action (omega (arith, from, below)) in
      subst (λ (a : Action). enabled_in g t pool a ≡ false) e (none (subject_place action) (index_place action) (subst (λ (a : Action). test a ≡ true) (sym e) own))

  -- the one event of a kind
  pub one_at : (k : ℕ) (event : Action) → kind_place event ≡ k → test event ≡ true → enabled_in g t pool event ≡ true
      → ((i n : ℕ) → test (action_at k i n) ≡ true → enabled_in g t pool (action_at k i n) ≡ true → IsNotAfter event (action_at k i n)) → IsFirstWhere test k (suc k) g t pool (Some event)
  one_at k event is own on first = record {
    kind = omega (arith, is);
    kind_below = omega (arith, is);
    passes = own;
    enabled = on;
    first = λ action from by may. elim (ℕ_discrete (kind_place action) k) [
      | yes same ↦ (let e = of_kind k action same in
          subst (IsNotAfter event) e (first (subject_place action) (index_place action)
          (subst (λ (a : Action). test a ≡ true) (sym e) by) (subst (λ (a : Action). enabled_in g t pool a ≡ true) (sym e) may)))
      | no other ↦ later_kind event action (omega (arith, is, from, other))
    ];
  }

  -- some kinds of which no event may come, and those after them
  pub joined : (a b c : ℕ) (o : Option Action) → a ≤ b → IsFirstWhere test a b g t pool None → IsFirstWhere test b c g t pool o → IsFirstWhere test a c g t pool o
  joined a b c None order none others = λ action from below own. elim (cases_lt (kind_place action) b) [
    | inl before ↦ none action from before own
    | inr after ↦ others action after below own
  ]
  joined a b c (Some event) order none others = record {
    kind = (let kind = others.kind in omega (arith, order, kind));
    kind_below = others.kind_below;
    passes = others.passes;
    enabled = others.enabled;
    first = λ action from own may. elim (cases_lt (kind_place action) b) [
      | inl before ↦ absurd (clash _ may (none action from before own))
      | inr after ↦ others.first action after own may
    ];
  }

  -- the first event, and further kinds
  pub widened : (a b c : ℕ) (event : Action) → b ≤ c → IsFirstWhere test a b g t pool (Some event) → IsFirstWhere test a c g t pool (Some event)
  widened a b c event order is =
      record { kind = is.kind; kind_below = (let below = is.kind_below in omega (arith, order, below)); passes = is.passes; enabled = is.enabled; first = is.first }

module _ (g t : ℕ) (pool : Pool) where
  -- of all the kinds of a pool
  pub of_all : (o : Option Action) → IsFirstIn 4 13 g t pool o → IsFirstEnabled g t pool o
  of_all None none = λ action of. none action (from_wakes action of) (to_saves action) refl
  of_all (Some event) is = record { of_pool = is_of_pool event is.kind; enabled = is.enabled; first = λ action of may. is.first action (from_wakes action of) refl may }

  -- the first event of a kind whose subjects are numbers
  of_numbers : (k : ℕ) (make : ℕ → Action) (ends : ℕ → Option Moment) (o : Option ℕ)
      → ((i n : ℕ) → action_at k i n ≡ make i) → ((i : ℕ) → kind_place (make i) ≡ k) → ((i : ℕ) → subject_place (make i) ≡ i) → ((i : ℕ) → index_place (make i) ≡ 0)
      → ((i : ℕ) → enabled_in g t pool (make i) ≡ has_moment_come t (ends i)) → IsFirstCome ends t o → IsFirstIn k (suc k) g t pool (option_map make o)
  of_numbers k make ends None made kind subject index may none = none_at is_any g t pool k (λ i n own. ap (enabled_in g t pool) (made i n) ∙ may i ∙ none i)
  of_numbers k make ends (Some i) made kind subject index may first =
      one_at is_any g t pool k (make i) (kind i) refl (may i ∙ first.0) (λ j n own on.
      let e = made j n in
      subst (IsNotAfter (make i)) (sym e) (after j (subst (λ (a : Action). enabled_in g t pool a ≡ true) e on)))
    where
      after : (j : ℕ) → enabled_in g t pool (make j) ≡ true → IsNotAfter (make i) (make j)
      after j on = record {
        by_kind = (let a = kind i in let b = kind j in omega (arith, a, b));
        then_by_subject = λ same. (let a = subject i in let b = subject j in elim (cases_lt j i) [
          | inl before ↦ absurd (clash _ (sym (may j) ∙ on) (first.1 j before))
          | inr past ↦ omega (arith, a, b, past)
        ]);
        then_by_index = λ same also. (let a = index i in let b = index j in omega (arith, a, b));
      }

  pub slices : (o : Option ℕ) → IsFirstCome (λ r. ready_in g pool (Slice (core_number r))) t o → IsFirstIn 6 7 g t pool (option_map (λ n. Slice (core_number n)) o)
  slices o = of_numbers 6 (λ n. Slice (core_number n)) (λ r. ready_in g pool (Slice (core_number r))) o (λ i n. refl) (λ i. refl) (λ i. refl) (λ i. refl) (λ i. ready g t pool (Slice (core_number i)))

  pub decides : (o : Option ℕ) → IsFirstCome (λ r. ready_in g pool (Decide (core_number r))) t o → IsFirstIn 10 11 g t pool (option_map (λ n. Decide (core_number n)) o)
  decides o = of_numbers 10 (λ n. Decide (core_number n)) (λ r. ready_in g pool (Decide (core_number r))) o (λ i n. refl) (λ i. refl) (λ i. refl) (λ i. refl) (λ i. ready g t pool (Decide (core_number i)))

  pub saves : (o : Option ℕ) → IsFirstCome (λ r. ready_in g pool (Save (core_number r))) t o → IsFirstIn 12 13 g t pool (option_map (λ n. Save (core_number n)) o)
  saves o = of_numbers 12 (λ n. Save (core_number n)) (λ r. ready_in g pool (Save (core_number r))) o (λ i n. refl) (λ i. refl) (λ i. refl) (λ i. refl) (λ i. ready g t pool (Save (core_number i)))

  pub arrives : (o : Option ℕ) → IsFirstCome (λ p. ready_in g pool (Arrive (processor p))) t o → IsFirstIn 9 10 g t pool (option_map (λ n. Arrive (processor n)) o)
  arrives o = of_numbers 9 (λ n. Arrive (processor n)) (λ p. ready_in g pool (Arrive (processor p))) o (λ i n. refl) (λ i. refl) (λ i. refl) (λ i. refl) (λ i. ready g t pool (Arrive (processor i)))

  pub leaves : (o : Option ℕ) → IsFirstCome (λ p. ready_in g pool (Leave (processor p))) t o → IsFirstIn 11 12 g t pool (option_map (λ n. Leave (processor n)) o)
  leaves o = of_numbers 11 (λ n. Leave (processor n)) (λ p. ready_in g pool (Leave (processor p))) o (λ i n. refl) (λ i. refl) (λ i. refl) (λ i. refl) (λ i. ready g t pool (Leave (processor i)))

  -- of the blocks, where their moments are told
  pub blocks : (ends : ℕ → Option Moment) (o : Option ℕ) → ((p : ℕ) → ends p ≡ ready_in g pool (Block (processor p))) → IsFirstCome ends t o → IsFirstIn 5 6 g t pool (option_map (λ n. Block (processor n)) o)
  blocks ends o are = of_numbers 5 (λ n. Block (processor n)) ends o (λ i n. refl) (λ i. refl) (λ i. refl) (λ i. refl) (λ i. ready g t pool (Block (processor i)) ∙ sym (ap (has_moment_come t) (are i)))

  -- of the wakes
  pub no_wake : ((v : VcpuId) → is_due_among t pool.domains v ≡ false) → IsFirstIn 4 5 g t pool None
  no_wake none = none_at is_any g t pool 4 (λ i n own. let v : VcpuId = record { dom = domain i; n = n } in ready g t pool (Wake v) ∙ none v)

  pub first_wake : (v : VcpuId) → is_due_among t pool.domains v ≡ true → ((w : VcpuId) → is_due_among t pool.domains w ≡ true → IsVcpuNotAfter v w) → IsFirstIn 4 5 g t pool (Some (Wake v))
  first_wake v due first = one_at is_any g t pool 4 (Wake v) refl refl (ready g t pool (Wake v) ∙ due) (λ i n own on.
      let w : VcpuId = record { dom = domain i; n = n } in
      let order = first w (sym (ready g t pool (Wake w)) ∙ on) in
      record { by_kind = omega arith; then_by_subject = λ same. order.by_domain; then_by_index = λ same also. order.then_by_index also })

  -- of the timers
  pub timer_may : AreOn pool → (x : Timer) → enabled_in g t pool (timer_action x) ≡ (has_moment_come t (armed_at pool.scheduler x) && has_moment_come t (lowest_stall_end pool))
  timer_may on x = ready g t pool (timer_action x) ∙ ap (has_moment_come t) (timer_ready g pool on x) ∙ come_later t (armed_at pool.scheduler x) (lowest_stall_end pool)

  pub no_timer : ((x : Timer) → enabled_in g t pool (timer_action x) ≡ false) → IsFirstIn 7 9 g t pool None
  no_timer none = joined is_any g t pool 7 8 9 None (omega arith)
      (none_at is_any g t pool 7 (λ i n own. let u : UnitId = record { dom = domain i; n = n } in none (timer.Repl u)))
      (none_at is_any g t pool 8 (λ i n own. none (timer.Refill (domain i))))

  pub no_timer_due : AreOn pool → ((x : Timer) → has_moment_come t (armed_at pool.scheduler x) ≡ false) → IsFirstIn 7 9 g t pool None
  no_timer_due on none = no_timer (λ x. timer_may on x ∙ ap (λ (b : Bool). b && has_moment_come t (lowest_stall_end pool)) (none x))

  -- nor does one while the lowest processor is stalled
  pub no_timer_stalled : AreOn pool → has_moment_come t (lowest_stall_end pool) ≡ false → IsFirstIn 7 9 g t pool None
  no_timer_stalled on stalled = no_timer (λ x.
      let due = has_moment_come t (armed_at pool.scheduler x) in
      timer_may on x ∙ ap (λ (b : Bool). due && b) stalled ∙ elim due as (λ (b : Bool). (b && false) ≡ false) [ true ↦ refl | false ↦ refl ])

  pub first_timer : AreOn pool → (x : Timer) → has_moment_come t (armed_at pool.scheduler x) ≡ true → has_moment_come t (lowest_stall_end pool) ≡ true
      → ((other : Timer) → has_moment_come t (armed_at pool.scheduler other) ≡ true → IsTimerNotAfter x other) → IsFirstIn 7 9 g t pool (Some (timer_action x))
  first_timer on (timer.Repl u) due up first = widened is_any g t pool 7 8 9 (Repl u) (omega arith) (one_at is_any g t pool 7 (Repl u) refl refl (timer_may on (timer.Repl u) ∙ and_from _ _ due up) (λ i n own may.
      let w : UnitId = record { dom = domain i; n = n } in
      let order = first (timer.Repl w) (and_left _ _ (sym (timer_may on (timer.Repl w)) ∙ may)) in
      record { by_kind = omega arith; then_by_subject = λ same. order.by_domain; then_by_index = λ same also. order.then_by_unit also }))
  first_timer on (timer.Refill d) due up first = joined is_any g t pool 7 8 9 (Some (Refill d)) (omega arith)
      (none_at is_any g t pool 7 (λ i n own.
      let w : UnitId = record { dom = domain i; n = n } in
      false_from_ne_true _ (λ may. never_both t pool.scheduler w d.0 (and_left _ _ (sym (timer_may on (timer.Repl w)) ∙ may)) due)))
      (one_at is_any g t pool 8 (Refill d) refl refl (timer_may on (timer.Refill d) ∙ and_from _ _ due up) (λ i n own may.
      let order = first (timer.Refill (domain i)) (and_left _ _ (sym (timer_may on (timer.Refill (domain i))) ∙ may)) in
      record { by_kind = omega arith; then_by_subject = λ same. order.by_domain; then_by_index = λ same also. omega arith }))

-- the timer at t, where its moment has not come: none has come
pub timers_late : (t : ℕ) (s : Scheduler) (x : Armed) → next_scheduler_timer t s ≡ Some x → t < x.0.0 → (other : Timer) → has_moment_come t (armed_at s other) ≡ false
timers_late t s x is late other = false_from_ne_true _ (λ may. let at = has_come-le t (armed_at s other) may in let first = law.first t s x is other at.0 at.1 at.2 in let come = first.0 in omega (arith, late, come))

-- where its moment has come: it is the first of those that have
pub timer_come : (t : ℕ) (s : Scheduler) (x : Armed) → next_scheduler_timer t s ≡ Some x → x.0.0 ≤ t → has_moment_come t (armed_at s x.1) ≡ true
timer_come t s x is come = ap (has_moment_come t) (law.armed t s x is) ∙ (let e : nat_le x.0.0 t ≡ true = grind (arith, nat_tests, come) in e)

pub timers_first : (t : ℕ) (s : Scheduler) (x : Armed) → next_scheduler_timer t s ≡ Some x → (other : Timer) → has_moment_come t (armed_at s other) ≡ true → IsTimerNotAfter x.1 other
timers_first t s x is other may = let at = has_come-le t (armed_at s other) may in (law.first t s x is other at.0 at.1 at.2).1

-- from when on a block may come
pub block_is : (guests : GuestsSeen) (cores : CoresSeen) (s : SchedulerSeen) → cores.granularity ≡ guests.granularity → AreWorks guests.granularity cores.works (pool_of guests cores s)
    → (p : ℕ) → ready_among cores (Block (processor p)) ≡ ready_in guests.granularity (pool_of guests cores s) (Block (processor p))
block_is guests cores s same works p =
    ap (λ (o : Option Moment). later_of o (end_of (processor_among cores.granularity cores.resources p))) (works p)
    ∙ ap (λ (k : ℕ). later_of (work_end guests.granularity (pool_of guests cores s) p) (end_of (processor_among k cores.resources p))) same
