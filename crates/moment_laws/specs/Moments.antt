-- Moments of a run: the entries of one moment, what begins something anew among them, and how many entries they have at most.
use Rattle.std.specs.Prelude.{◌≡◌, ℕ, ◌+◌, ◌*◌, ◌==◌, Bool, true, false, List, ◌++◌, length, count_by}
use Rattle.std.specs.List.{list_all}
use Rattle.sched_model.specs.declared.event.Event.{Event}
use Rattle.sched_model.specs.declared.event.Event.TheVariants as event
use Rattle.sched_model.specs.declared.event.Entry.{Entry}
use Rattle.sched_model.specs.declared.machine.Machine.{Machine}
use Rattle.sched_model.specs.Actions.{vcpus_from}
use Rattle.sched_model.specs.Runs.{IsRun}
use Rattle.moment_laws.specs.Stretches.{cores, units}
use Rattle.moment_laws.specs.Turns.{most_turns}

-- how many vCPUs and domains the machine has
abbrev pub vcpus : Machine → ℕ
vcpus m = length (vcpus_from 0 m.config.domains)

abbrev pub domains : Machine → ℕ
domains m = length m.config.domains

-- how many lines the workload has: stalls and commands
abbrev pub work_lines : Machine → ℕ
work_lines m = length m.work.stalls + length m.work.commands

-- whether it is a line of the workload that is done: a stall or a command
abbrev pub is_line : Event → Bool
is_line (event.Stall p until) = true
is_line (event.Xl k answer) = true
is_line _ = false

-- whether it is a cause, an event that something outside of the meetings of cores brings: a line of the workload, a move, a wake, a block, an end of
-- a slice, a replenishment or a refill
abbrev pub is_cause : Event → Bool
is_cause (event.Stall p until) = true
is_cause (event.Xl k answer) = true
is_cause (event.Moved r to) = true
is_cause (event.DomMoved d to) = true
is_cause (event.Wake v) = true
is_cause (event.Block p v) = true
is_cause (event.Slice r) = true
is_cause (event.Repl u start deadline budget extra) = true
is_cause (event.Refill d periods budget) = true
is_cause (event.Arrive p) = false
is_cause (event.Decide r unit due late reset) = false
is_cause (event.Leave p v) = false
is_cause (event.Save r u queued) = false
is_cause (event.End next) = false
is_cause event.Finish = false

-- whether it ends a moment
abbrev pub is_end : Event → Bool
is_end (event.End next) = true
is_end event.Finish = true
is_end _ = false

-- whether the entries are all of the moment
abbrev pub are_at : ℕ → List Entry → Bool
are_at t entries = list_all (λ (e : Entry). e.at.0 == t) entries

-- the entries after those before are all of the moment t of a run, however it goes on
pub record IsOfMoment (m : Machine) (t : ℕ) (before moment : List Entry) : Type 0 where
  pub run : IsRun m (before ++ moment)
  pub at : are_at t moment ≡ true

-- how many of the entries are causes; how many are lines of the workload; how many moments end with them
abbrev pub causes : List Entry → ℕ
causes entries = count_by (λ (e : Entry). is_cause e.event) entries

abbrev pub lines : List Entry → ℕ
lines entries = count_by (λ (e : Entry). is_line e.event) entries

abbrev pub whole_moments : List Entry → ℕ
whole_moments entries = count_by (λ (e : Entry). is_end e.event) entries

-- the most entries of several moments with so many causes together, and of one
abbrev pub most_in_moments : Machine → ℕ → ℕ → ℕ
most_in_moments m count moments = 4 * (m.config.granularity + 1) * (count + moments * (cores m + 1)) * (cores m * cores m * (2 * units m + 5) + 1)

abbrev pub most_in_moment : Machine → ℕ → ℕ
most_in_moment m count = 4 * (m.config.granularity + 1) * (count + cores m + 1) * (cores m * cores m * (2 * units m + 5) + 1)

-- more than the most entries of a moment with so many causes: two stretches of the cores' turns for each cause and each core, and two more, with an
-- entry after each
abbrev pub most_turns_in_moment : Machine → ℕ → ℕ
most_turns_in_moment m count = 2 * (count + cores m + 1) * (most_turns m + 1)

-- the most causes of a moment but for its lines
abbrev pub most_due : Machine → ℕ
most_due m = 1 + vcpus m + units m + domains m + cores m

-- the most causes of a moment in which so many lines of the workload are done
abbrev pub most_causes : Machine → ℕ → ℕ
most_causes m count = 2 * count + 1 + vcpus m + units m + domains m + cores m

-- the most entries of any moment: of one in which all lines of the workload are done
abbrev pub most_in_any_moment : Machine → ℕ
most_in_any_moment m = most_in_moment m (most_causes m (work_lines m))
