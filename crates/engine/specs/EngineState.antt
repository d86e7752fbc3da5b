-- What the engine keeps, and that it is of the state that its trail leads to.
use Rattle.std.specs.Prelude.{ℕ, ◌≡◌, ◌≤◌, List, Option, None, length}
use Rattle.sched_base.specs.declared.Moment.{Moment}
use Rattle.sched_model.specs.declared.action.Action.{Action}
use Rattle.sched_model.specs.Places.{at_place}
use Rattle.cpupool.specs.Tool.{Tool}
use Rattle.pool_core.specs.Seen.{Seen}
use Rattle.machine_parts.specs.Counts.{AreSpares}
use Rattle.machine_parts.specs.Places.{state_of}
use Rattle.machine_parts.specs.Spares.{Shelves}
use Rattle.machine_parts.specs.Told.{Told}
use Rattle.machine_parts.specs.Parts.{AreFirsts, AreParts, IsNextOfPlace}
use Rattle.sched_model.specs.Standing.{Standing}

-- for each place the first event that may come at t, and, where none may, the least moment at which one may
pub record AreKept (t : ℕ) (slots : List (Option Seen)) (firsts : List (Option Action)) (nexts : List (Option Moment)) : Type 0 where
  pub count_firsts : length firsts ≡ length slots
  pub count_nexts : length nexts ≡ length slots
  pub firsts_are : AreFirsts t slots firsts
  pub nexts_are : (k : ℕ) → at_place firsts k ≡ None → IsNextOfPlace (at_place slots k) (at_place nexts k)

-- from this place on, which is one of them or the end, no event may come now
pub record IsIdleFrom (busy : ℕ) (firsts : List (Option Action)) : Type 0 where
  pub few : busy ≤ length firsts
  pub none : (k : ℕ) → busy ≤ k → at_place firsts k ≡ None

-- the parts are those of the state that the trail leads to, whose moment is now, and so are the spare pools and what is kept of each pool
pub record IsRunning (w : Told) (now horizon granularity : ℕ) (slots : List (Option Seen)) (tool : Tool) (shelves : Shelves) (firsts : List (Option Action)) (nexts : List (Option Moment)) : Type 0 where
  pub parts : AreParts w slots tool
  pub now_is : now ≡ (state_of w).now
  pub horizon_is : horizon ≡ w.input.config.horizon.0
  pub granularity_is : granularity ≡ w.input.config.granularity
  pub spares : AreSpares w.input now tool.part shelves
  pub kept : AreKept now slots firsts nexts

-- where a trail leads
abbrev pub standing_of : Told → Standing
standing_of w = record { machine = w.input; state = state_of w }
