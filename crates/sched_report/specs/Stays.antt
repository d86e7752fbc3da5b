-- What cores do in a history: what each decision chooses and what it finds, and the stays of units on a core.
use Rattle.std.specs.Prelude.{ℕ, ◌-◌, ◌==◌, List, [], ◌∷◌, Option, Some, None, filter, filter_map, if◌then◌else◌}
use Rattle.sched_base.specs.declared.Moment.{Moment}
use Rattle.sched_base.specs.declared.UnitId.{UnitId}
use Rattle.sched_model.specs.declared.event.Event.{Event}
use Rattle.sched_model.specs.declared.event.Event.TheVariants as event
use Rattle.sched_model.specs.declared.event.Entry.{Entry}
use Rattle.sched_model.specs.Places.{is_unit}
use Rattle.sched_report.specs.declared.choice.CoreChoice.{CoreChoice}

-- what an event at the moment chooses, where it is a decision
abbrev pub choice_at : Moment → Event → Option CoreChoice
choice_at at (event.Decide r unit due late reset) = Some (record { core = r; at = at; unit = unit; late = late })
choice_at at _ = None

-- what the entry chooses, where it is a decision
abbrev pub entry_choice : Entry → Option CoreChoice
entry_choice entry = choice_at entry.at entry.event

-- the choices of the core r, in order
abbrev pub choices : ℕ → List Entry → List CoreChoice
choices r entries = filter (λ (c : CoreChoice). c.core.0 == r) (filter_map entry_choice entries)

-- a decision: the unit that was on the core before it, where there was one, and what it chose
pub record Decision : Type 0 where
  pub before : Option UnitId
  pub choice : CoreChoice

-- the decisions that make these choices; the first finds the unit before, and each other one what was chosen last
abbrev pub decisions_from : Option UnitId → List CoreChoice → List Decision
decisions_from before [] = []
decisions_from before (c ∷ cs) = record { before = before; choice = c } ∷ decisions_from c.unit cs

-- the decisions of the core r; the first finds no unit
abbrev pub decisions : ℕ → List Entry → List Decision
decisions r entries = decisions_from None (choices r entries)

-- a stay of a unit on a core
pub record Stay : Type 0 where
  pub unit : UnitId
  pub begin : ℕ
  pub end : ℕ

-- how long it is
abbrev pub span : Stay → ℕ
span s = s.end - s.begin

-- when a stay of the unit ends, with the decisions behind its beginning: at the first that chooses another unit or none, or else
-- at the last moment
abbrev pub end_of_stay : ℕ → UnitId → List Decision → ℕ
end_of_stay last u [] = last
end_of_stay last u (d ∷ ds) = (if is_unit d.choice.unit u then end_of_stay last u ds else d.choice.at.0)

-- the stay that begins where this is chosen and the unit before was on the core, with the decisions behind it: one of the chosen
-- unit, where that is another than the one before
abbrev pub stay_begun : ℕ → ℕ → Option UnitId → Option UnitId → List Decision → Option Stay
stay_begun last at before None ds = None
stay_begun last at before (Some u) ds = (if is_unit before u then None else Some (record { unit = u; begin = at; end = end_of_stay last u ds }))

-- the stays that begin with these decisions
abbrev pub stays_from : ℕ → List Decision → List Stay
stays_from last [] = []
stays_from last (d ∷ ds) = elim (stay_begun last d.choice.at.0 d.before d.choice.unit ds) [ None ↦ stays_from last ds | Some s ↦ s ∷ stays_from last ds ]

-- the moment of the last entry, or this one where there is none
abbrev pub last_or : ℕ → List Entry → ℕ
last_or t [] = t
last_or t (entry ∷ entries) = last_or entry.at.0 entries

-- the moment of the last entry, 0 where there is none
abbrev pub last_moment : List Entry → ℕ
last_moment entries = last_or 0 entries

-- the stays of units on the core r
abbrev pub stays : ℕ → List Entry → List Stay
stays r entries = stays_from (last_moment entries) (decisions r entries)

-- the unit that an event replenishes, where it is a replenishment
abbrev pub replenished_by : Event → Option UnitId
replenished_by (event.Repl u start deadline budget extra) = Some u
replenished_by _ = None

-- the units that are replenished, in order
abbrev pub renewals : List Entry → List UnitId
renewals entries = filter_map (λ (entry : Entry). replenished_by entry.event) entries
