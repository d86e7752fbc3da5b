-- What the argument asks of a scheduler: decisions in stretches that lower what is left to the machine.
use Rattle.sched_base.specs.Numbers.{core}
use Rattle.std.specs.Prelude.{◌≡◌, ◌≢◌, ◌≤◌, ◌+◌, ◌⊎◌, ℕ, Bool, true, false, List, [], ◌∷◌, ◌++◌, Some, None}
use Rattle.std.specs.List.{AllByRecursion}
use Rattle.sched_base.specs.declared.UnitId.{UnitId}
use Rattle.sched_model.specs.declared.action.Action.TheVariants.{Decide}
use Rattle.sched_model.specs.declared.event.Entry.{Entry}
use Rattle.sched_model.specs.declared.machine.Machine.{Machine}
use Rattle.sched_model.specs.declared.state.Pool.{Pool}
use Rattle.sched_model.specs.declared.state.Resource.{Resource}
use Rattle.sched_model.specs.declared.state.Scheduler.{Scheduler}
use Rattle.sched_model.specs.EligibleUnits.{Decision}
use Rattle.sched_model.specs.Places.{at_place, has_listed_unit}
use Rattle.sched_model.specs.Policy.{decision_of, after_decision, has_better_waiting}
use Rattle.sched_model.specs.Pool.{pool_core_set, core_ask, decided_core}
use Rattle.sched_model.specs.Runs.{IsRun, event_action}
use Rattle.sched_model.specs.State.{may_unit_run}
use Rattle.sched_laws.specs.StateLaws.{state_after}
use Rattle.moment_laws.specs.Stretches.{units, open_legs, is_in_stretch}
use Rattle.moment_laws.specs.Turns.{is_secure, ahead}

-- what a core finds that decides: the units that wait are runnable, no core's own unit waits, and no other core has the same unit; and where there is
-- a unit, the machine has one at least
pub record Standing (m : Machine) (pool : Pool) (r : ℕ) (c : Resource) : Type 0 where
  pub at : at_place pool.resources r ≡ Some c
  pub waits : AllByRecursion (λ u. may_unit_run m.config.granularity pool u ≡ true) pool.scheduler.queue
  pub own : (u : UnitId) → c.cur ≡ Some u → (has_listed_unit pool.scheduler.queue u ≡ false) × (1 ≤ units m)
  pub others : (k : ℕ) (x : Resource) (u : UnitId) → k ≢ r → at_place pool.resources k ≡ Some x → x.cur ≡ Some u → (has_listed_unit pool.scheduler.queue u ≡ false) × (c.cur ≡ Some u → ⊥)
  pub counted : (u : UnitId) → has_listed_unit pool.scheduler.queue u ≡ true → 1 ≤ units m

module _ (m : Machine) (t : ℕ) (pool : Pool) (r : ℕ) (c : Resource) where
  -- what the core decides, and its scheduler and itself then
  abbrev pub decision : Decision
  decision = decision_of (core_ask m.config.granularity t pool r c) pool.scheduler

  abbrev pub next : Scheduler
  next = after_decision decision pool.scheduler

  abbrev pub left : Resource
  left = decided_core t decision c

  -- whether the unit on the core is secure before the decision, and after it
  abbrev pub Secure : ℕ → UnitId → Type 0
  Secure k u = is_secure (may_unit_run m.config.granularity pool) t (pool_core_set pool) pool.scheduler k u ≡ true

  abbrev pub SecureThen : ℕ → UnitId → Type 0
  SecureThen k u = is_secure (may_unit_run m.config.granularity pool) t (pool_core_set pool) next k u ≡ true

  -- whether a unit that waits is better than the core's
  abbrev pub waits : ℕ → Resource → Scheduler → Bool
  waits k x scheduler = has_better_waiting x.cur x.since.0 t k (pool_core_set pool) scheduler

  -- no core is stirred by the decision
  pub record StirsNone : Type 0 where
    pub own : has_better_waiting c.cur c.since.0 t r (pool_core_set pool) next ≡ false
    pub others : (k : ℕ) (x : Resource) → k ≢ r → at_place pool.resources k ≡ Some x → waits k x next ≡ true → waits k x pool.scheduler ≡ true

  -- a good decision. A core that is leaving decides for none. Else the chosen unit is secure then, and not all units run before it; a secure unit of
  -- the core's own is lost to one that fewer run before, or it is kept, and then no core is stirred, nor where the core had none and gets none.
  -- Before no unit run more than the machine has, and secure units of other cores stay secure, with no more units before them
  pub record DecidesWell : Type 0 where
    pub leaves : c.leaving ≡ true → decision.unit ≡ None
    pub chosen : c.leaving ≡ false → (w : UnitId) → decision.unit ≡ Some w → SecureThen r w × (ahead next.records w + 1 ≤ units m)
    pub kept : c.leaving ≡ false → (u : UnitId) → c.cur ≡ Some u → Secure r u
        → (w : UnitId) × (decision.unit ≡ Some w) × (((w ≡ u) × (ahead next.records u ≤ ahead pool.scheduler.records u) × StirsNone) ⊎ (ahead next.records w + 1 ≤ ahead pool.scheduler.records u))
    pub idle : c.leaving ≡ false → c.cur ≡ None → decision.unit ≡ None → StirsNone
    pub few : (u : UnitId) → ahead next.records u ≤ units m
    pub others : (k : ℕ) (x : Resource) (u : UnitId) → k ≢ r → at_place pool.resources k ≡ Some x → x.cur ≡ Some u → Secure k u → SecureThen k u × (ahead next.records u ≤ ahead pool.scheduler.records u)

-- each decision in a stretch of a run of the machine is a good one
abbrev pub DecidesWellNext : Machine → Type 0
DecidesWellNext m =
    (before : List Entry) (e : Entry) → IsRun m (before ++ e ∷ []) → is_in_stretch e.at.0 (open_legs m before) e.event ≡ true → (i r : ℕ) (pool : Pool) (c : Resource)
    → event_action e.event ≡ Some (Decide (core r)) → at_place (state_after m before).pools i ≡ Some pool → at_place pool.resources r ≡ Some c → DecidesWell m (state_after m before).now pool r c
