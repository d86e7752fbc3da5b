-- Where a history of an input leads: the state, its parts and the homes of its names, the moment, and how often each core has decided.
-- What stands above knows the parts, the homes, the moment and the decisions by the laws of them alone.
use Rattle.std.specs.Prelude.{◌≡◌, ℕ, ◌+◌, ◌<◌, eqb, List, [], ◌∷◌, if◌then◌else◌}
use Rattle.sched_model.specs.declared.event.Event.{Event}
use Rattle.sched_model.specs.declared.event.Event.TheVariants as event
use Rattle.sched_model.specs.declared.event.Entry.{Entry}
use Rattle.sched_model.specs.declared.machine.Machine.{Machine}
use Rattle.sched_model.specs.declared.state.State.{State}
use Rattle.sched_model.specs.Runs.{Reached, IsRun, run_start, after_entries}
use Rattle.journal_core.specs.Parts.{StatePart, part_of, lists, home_in}

-- where the history leads
abbrev pub reached_by : Machine → List Entry → Reached
reached_by m h = after_entries m (run_start m) h

-- the state that the history leads to
abbrev pub state_at : Machine → List Entry → State
state_at m h = (reached_by m h).state

-- the part k of that state
unfoldable pub part_at : Machine → List Entry → ℕ → StatePart
part_at m h k = part_of (state_at m h) k

-- the home of the name n in that state
unfoldable pub home_at : Machine → List Entry → ℕ → ℕ
home_at m h n = home_in m.config (state_at m h) n

-- the moment of that state
unfoldable pub now_at : Machine → List Entry → ℕ
now_at m h = (state_at m h).now

-- the moment after an event at the moment now: the one that End names, or the same
abbrev pub following_moment : Event → ℕ → ℕ
following_moment (event.End next) now = next.0
following_moment _ now = now

-- 1 where the event is a decision of the core r
abbrev pub decision_of : Event → ℕ → ℕ
decision_of (event.Decide core unit due late reset) r = (if eqb core.0 r then 1 else 0)
decision_of _ r = 0

-- how many entries of the history are decisions of the core r
unfoldable pub decides_at : List Entry → ℕ → ℕ
decides_at [] r = 0
decides_at (entry ∷ h) r = decision_of entry.event r + decides_at h r

-- each name is listed by the part of its home, and by no other
abbrev pub NamesStandOnce : Machine → List Entry → Type 0
NamesStandOnce m h = (k n : ℕ) → k < 17 → n < 128 → lists (part_at m h k) n ≡ eqb (home_at m h n) k

-- the history is a run's beginning, and in the state that it leads to each name is listed once
pub record IsSound (m : Machine) (h : List Entry) : Type 0 where
  pub run : IsRun m h
  pub names : NamesStandOnce m h
