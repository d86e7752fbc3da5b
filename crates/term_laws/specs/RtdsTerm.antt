-- The terms of an RTDS unit, and the time for which it is on a core in one.
use Rattle.std.specs.Prelude.{ℕ, ◌+◌, ◌-◌, ◌≡◌, ◌≤◌, Bool, true, false, List, [], ◌∷◌, Option, Some, None, min, if◌then◌else◌}
use Rattle.sched_base.specs.declared.UnitId.{UnitId}
use Rattle.sched_model.specs.declared.event.Event.{Event}
use Rattle.sched_model.specs.declared.event.Event.TheVariants as event
use Rattle.sched_model.specs.declared.event.Entry.{Entry}
use Rattle.sched_model.specs.Places.{at_place, is_unit, same_unit}
use Rattle.sched_model.specs.declared.machine.Machine.{Machine}
use Rattle.sched_model.specs.declared.state.State.{State}
use Rattle.sched_model.specs.declared.state.RtdsUnit.{RtdsUnit}
use Rattle.sched_model.specs.Opening.{opening}
use Rattle.sched_model.specs.Policy.{unit_rtds_record}
use Rattle.sched_model.specs.Actions.{home_pool_of_domain}
use Rattle.term_laws.specs.Term.{Leg, Term, leg_from, moves, time_on, late_within}

-- the core, where the event is its decision for the unit
abbrev pub taken_by : UnitId → Event → Option ℕ
taken_by u (event.Decide r unit due late reset) = (if is_unit unit u then Some r.0 else None)
taken_by u _ = None

-- the unit's legs in entries that lead to the state s
abbrev pub legs : State → UnitId → List Entry → List Leg
legs s u [] = []
legs s u (entry ∷ entries) = elim (taken_by u entry.event) [ Some r ↦ leg_from s r entry.at.0 entries ∷ legs s u entries | None ↦ legs s u entries ]

-- a term of an RTDS unit, how late it began, and whether the unit has extra time in it
pub record RtdsTerm : Type 0 where
  pub term : Term
  pub delay : ℕ
  pub extra : Bool

-- where a term ends: at its deadline, or at the next move of the domain where that is earlier
abbrev pub term_end : ℕ → ℕ → List Entry → ℕ
term_end d deadline [] = deadline
term_end d deadline (entry ∷ entries) = elim (moves d entry.event) [ true ↦ min entry.at.0 deadline | false ↦ term_end d deadline entries ]

-- the term that an event at a moment opens for the unit, where these entries follow: a replenishment does.
-- (A domain that moves to an RTDS pool has extra time until its units' next replenishments, so nothing is said of the terms that a move opens.)
abbrev pub opened_by : UnitId → ℕ → Event → List Entry → Option RtdsTerm
opened_by u t (event.Repl w start deadline budget extra) entries =
    (if same_unit w u then Some (record { term = record { from = t; until = term_end u.dom.0 deadline.0 entries; budget = budget.0 }; delay = t - start.0; extra = extra }) else None)
opened_by u t _ entries = None

-- the terms that these entries open for the unit
abbrev pub opened_terms : UnitId → List Entry → List RtdsTerm
opened_terms u [] = []
opened_terms u (entry ∷ entries) = elim (opened_by u entry.at.0 entry.event entries) [ Some term ↦ term ∷ opened_terms u entries | None ↦ opened_terms u entries ]

-- the unit's RTDS record, where its domain is in an RTDS pool
abbrev pub rtds_in : State → UnitId → Option RtdsUnit
rtds_in s u = elim (home_pool_of_domain s u.dom.0) [ None ↦ None | Some i ↦ elim (at_place s.pools i) [ None ↦ None | Some pool ↦ unit_rtds_record pool.scheduler.records u ] ]

-- the unit's terms in a run: the first, where it begins in an RTDS pool, and those that the entries open
abbrev pub terms : Machine → UnitId → List Entry → List RtdsTerm
terms m u entries = elim (rtds_in (opening m) u) [
  | None ↦ opened_terms u entries
  | Some x ↦ record { term = record { from = 0; until = term_end u.dom.0 x.period entries; budget = x.budget }; delay = 0; extra = x.extra } ∷ opened_terms u entries
]

-- a unit without extra time is on a core within the term for its budget at most, and for what was late: the term's own beginning, and the ends of the legs that meet it
abbrev pub KeepsTerm : List Leg → RtdsTerm → Type 0
KeepsTerm legs t = t.extra ≡ false → time_on t.term legs ≤ t.term.budget + t.delay + late_within t.term legs
