-- A term of an RTDS unit or of a domain's cap, and legs on cores: how long legs lie within a term, and how late those were that meet it.
use Rattle.std.specs.Prelude.{ℕ, ◌-◌, ◌==◌, Bool, false, List, [], ◌∷◌, Option, Some, None, min, max, nat_lt, sum_by, if◌then◌else◌}
use Rattle.sched_model.specs.declared.event.Event.{Event}
use Rattle.sched_model.specs.declared.event.Event.TheVariants as event
use Rattle.sched_model.specs.declared.event.Entry.{Entry}
use Rattle.sched_model.specs.declared.state.Resource.{Resource}
use Rattle.sched_model.specs.declared.state.State.{State}
use Rattle.sched_model.specs.Places.{at_place}
use Rattle.sched_model.specs.Pool.{lateness}
use Rattle.sched_model.specs.Actions.{home_pool_of_core}

-- a leg of a unit on a core: it begins where the core decides for the unit and ends where the core decides next, so much later than it was due
pub record Leg : Type 0 where
  pub from : ℕ
  pub until : ℕ
  pub late : ℕ

-- the core, where a pool has it
abbrev pub core_in : State → ℕ → Option Resource
core_in s r = elim (home_pool_of_core s r) [ None ↦ None | Some i ↦ elim (at_place s.pools i) [ None ↦ None | Some pool ↦ at_place pool.resources r ] ]

-- how late the core would be if it decided now
abbrev pub late_now : State → ℕ → ℕ
late_now s r = elim (core_in s r) [ None ↦ 0 | Some c ↦ lateness s.now c ]

-- the printed lateness, where the event is a decision of the core
abbrev pub late_of : ℕ → Event → Option ℕ
late_of r (event.Decide core unit due late reset) = (if core.0 == r then Some late.0 else None)
late_of r _ = None

-- the leg on the core r that began at a moment, where these entries follow and lead to the state s: it ends at the core's next decision, or is open now
abbrev pub leg_from : State → ℕ → ℕ → List Entry → Leg
leg_from s r from [] = record { from = from; until = s.now; late = late_now s r }
leg_from s r from (entry ∷ entries) = elim (late_of r entry.event) [ Some late ↦ record { from = from; until = entry.at.0; late = late } | None ↦ leg_from s r from entries ]

-- whether the event moves the domain to another pool
abbrev pub moves : ℕ → Event → Bool
moves d (event.DomMoved domain to) = domain.0 == d
moves d _ = false

-- a term: its span, and the budget in it
pub record Term : Type 0 where
  pub from : ℕ
  pub until : ℕ
  pub budget : ℕ

-- how long the leg lies within the term
abbrev pub shared_span : Term → Leg → ℕ
shared_span term leg = min leg.until term.until - max leg.from term.from

-- whether the leg meets the term: they share a span
abbrev pub meets : Term → Leg → Bool
meets term leg = nat_lt 0 (shared_span term leg)

-- how late the leg was, where it meets the term
abbrev pub late_in : Term → Leg → ℕ
late_in term leg = (if meets term leg then leg.late else 0)

-- the time for which the legs lie within the term, added up
abbrev pub time_on : Term → List Leg → ℕ
time_on term legs = sum_by (shared_span term) legs

-- the lateness of the legs that meet the term, added up
abbrev pub late_within : Term → List Leg → ℕ
late_within term legs = sum_by (late_in term) legs
