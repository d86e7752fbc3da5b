-- The scan of the candidate actions.
use Rattle.sched_base.specs.Numbers.{core, domain, processor}
use Rattle.std.specs.Prelude.{ℕ, ◌++◌, Bool, false, List, [], ◌∷◌, Some, None, slice_get, nat_le, map, length}
use Rattle.sched_model.specs.declared.action.Action.{Action}
use Rattle.sched_model.specs.declared.action.Action.TheVariants as action
use Rattle.sched_model.specs.declared.config.Config.{Config}
use Rattle.sched_model.specs.declared.machine.Machine.{Machine}
use Rattle.sched_model.specs.Places.{numbers_from}
use Rattle.sched_model.specs.Opening.{machine_core_count}
use Rattle.sched_model.specs.Actions.{vcpus_from, units_from}
use Rattle.sched_model.specs.declared.state.State.{State}
use Rattle.sched_plain.specs.declared.scan.Numbered.{Numbered}
use Rattle.sched_plain.specs.declared.scan.Numbered.TheVariants as kind
use Rattle.sched_plain.specs.declared.scan.Kind.{Kind}
use Rattle.sched_plain.specs.declared.scan.Kind.TheVariants as kinds

-- the action of the kind whose subject has this number
abbrev pub action_at : Numbered → ℕ → Action
action_at kind.Moved n = action.Moved (core n)
action_at kind.DomMoved n = action.DomMoved (domain n)
action_at kind.Block n = action.Block (processor n)
action_at kind.Slice n = action.Slice (core n)
action_at kind.Refill n = action.Refill (domain n)
action_at kind.Arrive n = action.Arrive (processor n)
action_at kind.Decide n = action.Decide (core n)
action_at kind.Leave n = action.Leave (processor n)
action_at kind.Save n = action.Save (core n)

-- whether the next stall has come
abbrev pub has_stall_come : Machine → State → ℕ → Bool
has_stall_come m s t = elim (slice_get m.work.stalls s.next_stall) [ None ↦ false | Some line ↦ nat_le line.at.0 t ]

-- whether the next command has come
abbrev pub has_command_come : Machine → State → ℕ → Bool
has_command_come m s t = elim (slice_get m.work.commands s.next_command) [ None ↦ false | Some line ↦ nat_le line.at.0 t ]

-- how many subjects the kind has
abbrev pub subject_count : Config → Numbered → ℕ
subject_count config kind.Moved = machine_core_count config
subject_count config kind.DomMoved = length config.domains
subject_count config kind.Block = config.processors
subject_count config kind.Slice = machine_core_count config
subject_count config kind.Refill = length config.domains
subject_count config kind.Arrive = config.processors
subject_count config kind.Decide = machine_core_count config
subject_count config kind.Leave = config.processors
subject_count config kind.Save = machine_core_count config

-- the actions of the kind, in order
abbrev pub actions_of : Config → Kind → List Action
actions_of config kinds.Stall = action.Stall ∷ []
actions_of config kinds.Xl = action.Xl ∷ []
actions_of config kinds.Wake = map action.Wake (vcpus_from 0 config.domains)
actions_of config kinds.Repl = map action.Repl (units_from config.granularity 0 config.domains)
actions_of config (kinds.Of kind) = map (action_at kind) (numbers_from 0 (subject_count config kind))

-- those of each of these kinds, one kind after another
abbrev pub actions_in : Config → List Kind → List Action
actions_in config [] = []
actions_in config (kind ∷ rest) = actions_of config kind ++ actions_in config rest
