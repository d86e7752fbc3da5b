-- The units of a domain leave the queue, and the cores that run one are marked.
use Rattle.std.proofs.Common.{◌≡◌, ◌<◌, ◌≤◌, ◌+◌, ℕ, Bool, true, false, List, [], ◌∷◌, refl, sym, ap, subst, ◌∙◌, cond, arith}
use Rattle.std.specs.Prelude.{◌&&◌, ◌||◌, ◌==◌, not, nat_lt, filter, Option, Some, None, option_map}
use Rattle.std.specs.List.{AllByRecursion}
use Rattle.std.proofs.lemmas.Bool.{ltb-true, true_from_ne_false, not-true}
use Rattle.sched_base.specs.declared.UnitId.{UnitId}
use Rattle.sched_model.specs.declared.state.Domain.{Domain}
use Rattle.sched_model.specs.declared.state.Pool.{Pool}
use Rattle.sched_model.specs.declared.state.Resource.{Resource}
use Rattle.sched_model.specs.declared.state.Scheduler.{Scheduler}
use Rattle.sched_model.specs.Places.{at_place, has_listed_unit, is_unit, same_unit}
use Rattle.sched_model.specs.Policy.{scheduler_without_queued}
use Rattle.sched_model.specs.Pool.{is_unit_off, domain_unit_count}
use Rattle.sched_model.specs.State.{may_unit_run}
use Rattle.sched_base.proofs.Bools.{and_left}
use Rattle.sched_laws.proofs.Counts.{some_numbered, times-filter_yes, times_none, times_some, without_absent}
use Rattle.sched_laws.specs.Counts.{times}
use Rattle.sched_base.proofs.Lists.{AllByRecursion-map}
use Rattle.sched_laws.specs.PoolFacts.{OnePlace, core_places}
use Rattle.sched_laws.proofs.Calm.{each_of}
use Rattle.sched_ops.specs.Seen.{Seen as SchedulerSeen, scheduler_without_unit, units_of, with_scheduler}
use Rattle.policy_laws.specs.Holds.{HasMembers}
use Rattle.policy_laws.proofs.Alike.{units_in, units_of_is}
use Rattle.policy_laws.proofs.Members.{runnable_member}
use Rattle.unit_state.specs.Seen.{units_at}
use Rattle.sched_base.specs.Units.{unit_id}
use Rattle.pool_core.specs.Wakes.{is_held_among}
use Rattle.pool_core.proofs.Asking.{off_by, waits_not}

-- a core that has the unit has a place of it
held_place : (u : UnitId) (c : Resource) → (is_unit c.cur u || is_unit c.saving u) ≡ true → 1 ≤ core_places u c
held_place u c has = by_both (is_unit c.cur u) (is_unit c.saving u) has
  where
    by_both : (a b : Bool) → (a || b) ≡ true → ◌≤◌ 1 (cond a 1 0 + cond b 1 0)
    by_both true b e = omega arith
    by_both false true e = omega arith
    by_both false false e = absurd (cc)

-- a unit waits exactly where it is runnable and no core has it
pub waits_by : (g : ℕ) (pool : Pool) (u : UnitId) → OnePlace g pool → has_listed_unit pool.scheduler.queue u ≡ (may_unit_run g pool u && not (is_held_among pool.resources u))
waits_by g pool u one = by_both (may_unit_run g pool u) (is_held_among pool.resources u) refl refl
  where
    held_waits_not : is_held_among pool.resources u ≡ true → has_listed_unit pool.scheduler.queue u ≡ false
    held_waits_not has =
        let found = some_numbered (λ (c : Resource). is_unit c.cur u || is_unit c.saving u) 0 pool.resources has in
        waits_not g pool u found.0 found.1 one found.2 (held_place u found.1 found.3)

    by_both : (runs held : Bool) → may_unit_run g pool u ≡ runs → is_held_among pool.resources u ≡ held → has_listed_unit pool.scheduler.queue u ≡ (runs && not held)
    by_both false false is has =
        let off : is_unit_off pool u ≡ true = off_by g pool u one ∙ ap (λ (b : Bool). not (b || is_held_among pool.resources u)) is ∙ ap (λ (b : Bool). not (false || b)) has in
        not-true (has_listed_unit pool.scheduler.queue u) (and_left (not (has_listed_unit pool.scheduler.queue u)) (not (is_held_among pool.resources u)) off)
    by_both false true is has = held_waits_not has
    by_both true true is has = held_waits_not has
    by_both true false is has = true_from_ne_false (has_listed_unit pool.scheduler.queue u) (λ e.
        let on : is_unit_off pool u ≡ false = off_by g pool u one ∙ ap (λ (b : Bool). not (b || is_held_among pool.resources u)) is in
        let off : is_unit_off pool u ≡ true = ap (λ (b : Bool). not b && not (is_held_among pool.resources u)) e ∙ ap (λ (b : Bool). not false && not b) has in
        cc)

-- as often there, as much there
as_often : (u : UnitId) (a b : List UnitId) → times u a ≡ times u b → has_listed_unit a u ≡ has_listed_unit b u
as_often u a b same = by_both (has_listed_unit a u) (has_listed_unit b u) refl refl
  where
    by_both : (x y : Bool) → has_listed_unit a u ≡ x → has_listed_unit b u ≡ y → x ≡ y
    by_both true true e f = refl
    by_both false false e f = refl
    by_both true false e f = absurd (let some = times_some u a e in let none = times_none u b f in omega (arith, same, some, none))
    by_both false true e f = absurd (let some = times_some u b f in let none = times_none u a e in omega (arith, same, some, none))

pub dequeue_absent : (u : UnitId) (seen : SchedulerSeen) → has_listed_unit seen.scheduler.queue u ≡ false → seen ≡ with_scheduler (scheduler_without_unit u seen.scheduler) seen
dequeue_absent u seen none = ap (λ (queue : List UnitId). with_scheduler (record seen.scheduler { queue = queue }) seen) (sym (without_absent u seen.scheduler.queue none))

-- tests that agree leave the same
filter_alike : (a b : UnitId → Bool) (units : List UnitId) → AllByRecursion (λ u. a u ≡ b u) units → filter a units ≡ filter b units
filter_alike a b [] same = refl
filter_alike a b (u ∷ units) same =
    ap (λ (x : Bool). cond x (u ∷ filter a units) (filter a units)) same.0 ∙ ap (λ (rest : List UnitId). cond (b u) (u ∷ rest) rest) (filter_alike a b units same.1)

-- one test after another
filter_twice : (a b : UnitId → Bool) (units : List UnitId) → filter a (filter b units) ≡ filter (λ u. a u && b u) units
filter_twice a b [] = refl
filter_twice a b (u ∷ units) = by_both (a u) (b u) refl refl (filter_twice a b units)
  where
    by_both : (x y : Bool) → a u ≡ x → b u ≡ y → filter a (filter b units) ≡ filter (λ w. a w && b w) units
        → filter a (cond (b u) (u ∷ filter b units) (filter b units)) ≡ cond (a u && b u) (u ∷ filter (λ w. a w && b w) units) (filter (λ w. a w && b w) units)
    by_both true true e f rest = rw (f, e) (ap (λ (ws : List UnitId). u ∷ ws) rest)
    by_both false true e f rest = rw (f, e) rest
    by_both true false e f rest = rw (f, e) rest
    by_both false false e f rest = rw (f, e) rest

-- whether the unit is none of the domain's with an index below n
abbrev pub is_past : ℕ → ℕ → UnitId → Bool
is_past d n u = not (u.dom.0 == d && nat_lt u.n n)

-- the scheduler without the domain's units with the indices below n in its queue
abbrev pub without_below : ℕ → ℕ → Scheduler → Scheduler
without_below d n scheduler = record scheduler { queue = filter (is_past d n) scheduler.queue }

past_first : (d : ℕ) (u : UnitId) → true ≡ is_past d 0 u
past_first d u = grind arith

past_next : (d n : ℕ) (u : UnitId) → (not (same_unit (unit_id d n) u) && is_past d n u) ≡ is_past d (n + 1) u
past_next d n u = grind arith

past_own : (d n : ℕ) → is_past d n (unit_id d n) ≡ true
past_own d n = grind arith

-- none of them yet
filter_true : (units : List UnitId) → filter (λ u. true) units ≡ units
filter_true [] = refl
filter_true (u ∷ units) = ap (λ (rest : List UnitId). u ∷ rest) (filter_true units)

pub below_first : (d : ℕ) (seen : SchedulerSeen) → seen ≡ with_scheduler (without_below d 0 seen.scheduler) seen
below_first d seen =
    ap (λ (queue : List UnitId). with_scheduler (record seen.scheduler { queue = queue }) seen)
    (sym (filter_true seen.scheduler.queue) ∙ filter_alike (λ u. true) (is_past d 0) seen.scheduler.queue (each_of (λ u. true ≡ is_past d 0 u) (past_first d) seen.scheduler.queue))

-- one more
pub below_next : (d n : ℕ) (scheduler : Scheduler) → scheduler_without_unit (unit_id d n) (without_below d n scheduler) ≡ without_below d (n + 1) scheduler
below_next d n scheduler =
    ap (λ (queue : List UnitId). record scheduler { queue = queue })
    (filter_twice (λ u. not (same_unit (unit_id d n) u)) (is_past d n) scheduler.queue
    ∙ filter_alike (λ u. not (same_unit (unit_id d n) u) && is_past d n u) (is_past d (n + 1)) scheduler.queue (each_of (λ u. (not (same_unit (unit_id d n) u) && is_past d n u) ≡ is_past d (n + 1) u) (past_next d n) scheduler.queue))

-- the next one waits as before
pub below_waits : (d n : ℕ) (scheduler : Scheduler) → has_listed_unit (without_below d n scheduler).queue (unit_id d n) ≡ has_listed_unit scheduler.queue (unit_id d n)
below_waits d n scheduler = as_often (unit_id d n) (filter (is_past d n) scheduler.queue) scheduler.queue (times-filter_yes (unit_id d n) (is_past d n) scheduler.queue (past_own d n))

-- all of them
past_all : (d n : ℕ) (u : UnitId) → (u.dom.0 ≡ d → u.n < n) → is_past d n u ≡ not (u.dom.0 == d)
past_all d n u low = grind arith

pub below_all : (g d n : ℕ) (pool : Pool) → 0 < g → OnePlace g pool → HasMembers g pool → units_of pool.scheduler d ≤ n → without_below d n pool.scheduler ≡ scheduler_without_queued d pool.scheduler
below_all g d n pool some one has over =
    ap (λ (queue : List UnitId). record pool.scheduler { queue = queue })
    (filter_alike (is_past d n) (λ u. not (u.dom.0 == d)) pool.scheduler.queue
    (AllByRecursion-map (λ u. may_unit_run g pool u ≡ true) (λ u. is_past d n u ≡ not (u.dom.0 == d))
    (λ u runs. past_all d n u (λ same.
    let below : u.n < units_of pool.scheduler u.dom.0 = ltb-true u.n (units_of pool.scheduler u.dom.0) (runnable_member g some pool u has runs) in
    let here : u.n < units_of pool.scheduler d = subst (λ (k : ℕ). u.n < units_of pool.scheduler k) same below in
    omega (arith, here, over)))
    pool.scheduler.queue one.waits))

-- the scheduler knows as many units of the domain as the domain has
pub units_known : (g d : ℕ) (pool : Pool) → HasMembers g pool → units_of pool.scheduler d ≡ units_at g (at_place pool.domains d)
units_known g d pool has = units_of_is pool.scheduler d ∙ ap units_in (has.units d) ∙ by_domain (at_place pool.domains d)
  where
    by_domain : (o : Option Domain) → units_in (option_map (domain_unit_count g) o) ≡ units_at g o
    by_domain None = refl
    by_domain (Some x) = refl
