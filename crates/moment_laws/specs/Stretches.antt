-- Stretches of a run: entries that follow one another at one moment and that nothing from outside of the meetings of cores interrupts.
use Rattle.std.specs.Prelude.{ℕ, ◌+◌, ◌*◌, ◌==◌, ◌&&◌, Bool, true, false, List, [], ◌∷◌, Option, Some, None, length, replicate}
use Rattle.sched_base.specs.declared.UnitId.{UnitId}
use Rattle.sched_model.specs.declared.event.Event.{Event}
use Rattle.sched_model.specs.declared.event.Event.TheVariants as event
use Rattle.sched_model.specs.declared.event.Entry.{Entry}
use Rattle.sched_model.specs.declared.machine.Machine.{Machine}
use Rattle.sched_model.specs.Places.{at_place, put_at, clear_at}
use Rattle.sched_model.specs.Opening.{machine_core_count}
use Rattle.sched_model.specs.Actions.{units_from}

-- how many cores, units, vCPUs and domains the machine has
abbrev pub cores : Machine → ℕ
cores m = machine_core_count m.config

abbrev pub units : Machine → ℕ
units m = length (units_from m.config.granularity 0 m.config.domains)

-- for each core the moment at which its open leg began, where it has one: its last decision left a unit on it
abbrev pub Legs : Type 0
Legs = List (Option ℕ)

-- the core's leg after a decision at a moment
abbrev pub leg_of : ℕ → ℕ → Option UnitId → Legs → Legs
leg_of t r None legs = clear_at r legs
leg_of t r (Some u) legs = put_at r t legs

-- the legs after an event at a moment, and after several entries
abbrev pub legs_with : ℕ → Event → Legs → Legs
legs_with t (event.Decide r unit due late reset) legs = leg_of t r.0 unit legs
legs_with t _ legs = legs

abbrev pub legs_after : Legs → List Entry → Legs
legs_after legs [] = legs
legs_after legs (entry ∷ entries) = legs_after (legs_with entry.at.0 entry.event legs) entries

-- the open legs after the entries of a run
abbrev pub open_legs : Machine → List Entry → Legs
open_legs m entries = legs_after (replicate (cores m) None) entries

-- whether the core has no leg that began at another moment
abbrev pub has_no_older_leg : ℕ → Legs → ℕ → Bool
has_no_older_leg t legs r = elim (at_place legs r) [ None ↦ true | Some begun ↦ begun == t ]

-- whether the event at a moment goes on with a stretch: an arrival, a leaving or a save, or a decision that resets no credits and ends no leg that
-- began at an earlier moment
abbrev pub is_in_stretch : ℕ → Legs → Event → Bool
is_in_stretch t legs (event.Arrive p) = true
is_in_stretch t legs (event.Decide r unit due late reset) = reset == 0 && has_no_older_leg t legs r.0
is_in_stretch t legs (event.Leave p v) = true
is_in_stretch t legs (event.Save r u queued) = true
is_in_stretch t legs _ = false

-- whether the entries are a stretch, where these legs are open before them
abbrev pub is_stretch : Legs → List Entry → Bool
is_stretch legs [] = true
is_stretch legs (entry ∷ entries) = is_in_stretch entry.at.0 legs entry.event && is_stretch (legs_with entry.at.0 entry.event legs) entries

-- the most entries of a stretch
abbrev pub most_in_stretch : Machine → ℕ
most_in_stretch m = 2 * (m.config.granularity + 1) * (cores m * cores m * (2 * units m + 5))
