-- An act of the tool: what holds where it begins, and what it leaves as it was.
use Rattle.std.specs.Prelude.{ℕ, ◌≡◌, ◌≢◌, List, Option, true}
use Rattle.sched_base.specs.Numbers.{moment}
use Rattle.sched_model.specs.declared.action.Action.{Action}
use Rattle.sched_model.specs.declared.event.Event.{Event}
use Rattle.sched_model.specs.Machine.{event_of, is_action_enabled}
use Rattle.journal_core.specs.Parts.{tool_lock}
use Rattle.journal_core.specs.Histories.{part_at}
use Rattle.cpupool.specs.Tool.{Tool, tool_of}
use Rattle.pool_core.specs.Seen.{Seen}
use Rattle.machine_parts.specs.Counts.{KeepsCounts}
use Rattle.machine_parts.specs.Parts.{AreParts}
use Rattle.machine_parts.specs.Told.{Told, told_more}
use Rattle.machine_parts.specs.Places.{GoesOn, state_of}

-- with the entry of that event at t
abbrev pub told_event : Told → ℕ → Event → Told
told_event w t event = told_more w (record { at = moment t; event = event })

-- the action may come in the state that the trail leads to, whose moment is t, and the tool knows what is to be known of that state
pub record Begins (w : Told) (tool : Tool) (t : ℕ) (action : Action) : Type 0 where
  pub goes : GoesOn w
  pub now : t ≡ (state_of w).now
  pub known : tool_of w.input (state_of w) ≡ tool
  pub enabled : is_action_enabled w.input (state_of w) (state_of w).now action ≡ true

-- the run has gone on at the same moment; the tool knows the state that it leads to, and every pool but those of these two numbers is as before
pub record HasActed (w : Told) (i j : ℕ) (next : Told) (tool : Tool) : Type 0 where
  pub goes : GoesOn next
  pub now : (state_of next).now ≡ (state_of w).now
  pub known : tool_of next.input (state_of next) ≡ tool
  pub others : (k : ℕ) → k ≢ i → k ≢ j → k ≢ tool_lock → part_at next.input next.history k ≡ part_at w.input w.history k

-- the same, where one pool changed
abbrev pub HasActedOn : Told → ℕ → Told → Tool → Type 0
HasActedOn w i next tool = HasActed w i i next tool

-- the same, where no pool changed
abbrev pub HasActedAlone : Told → Told → Tool → Type 0
HasActedAlone w next tool = HasActed w tool_lock tool_lock next tool

-- the places and the tool are the parts of the state that the trail leads to, whose moment is t, and in which the action may come
pub record MayMove (w : Told) (slots : List (Option Seen)) (tool : Tool) (t : ℕ) (action : Action) : Type 0 where
  pub parts : AreParts w slots tool
  pub now : t ≡ (state_of w).now
  pub enabled : is_action_enabled w.input (state_of w) (state_of w).now action ≡ true

-- it came: this is its event, the places and the tool are the parts after it, and pools in use and commands are counted as before
pub record HasMoved (w : Told) (t : ℕ) (action : Action) (event : Event) (slots : List (Option Seen)) (old new : Tool) : Type 0 where
  pub event_is : event ≡ event_of w.input (state_of w) (state_of w).now action
  pub parts : AreParts (told_event w t event) slots new
  pub counts : KeepsCounts old.part new.part
