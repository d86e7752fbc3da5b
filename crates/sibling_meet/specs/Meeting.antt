-- A core whose siblings gather and part, and how many of them are still to come.
use Rattle.std.specs.Prelude.{ℕ, zero, suc, Bool, not, count_by}
use Rattle.sched_model.specs.declared.state.Doing.{Doing}
use Rattle.sched_model.specs.declared.state.Processor.{Processor}
use Rattle.sched_model.specs.declared.state.Resource.{Resource}
use Rattle.sched_model.specs.Places.{change_item}
use Rattle.sched_model.specs.Pool.{is_held_back, with_doing}
use Rattle.sibling_meet.specs.declared.Arrived.{Arrived}
use Rattle.sibling_meet.specs.declared.Arrived.TheVariants.{Waiting, Last}
use Rattle.sibling_meet.specs.declared.Left.{Left}
use Rattle.sibling_meet.specs.declared.Left.TheVariants as left

-- whether the processor does not wait for its siblings
abbrev pub is_away : Processor → Bool
is_away p = not (is_held_back p)

-- the core whose i-th processor does this
abbrev pub with_part : ℕ → Doing → Resource → Resource
with_part i doing c = record c { processors = change_item i (with_doing doing) c.processors }

-- who is still to arrive: the siblings that are not held
abbrev pub arrival_of : Resource → Arrived
arrival_of c = elim (count_by is_away c.processors) [ zero ↦ Last | suc n ↦ Waiting (suc n) ]

-- who is still to leave: the siblings that are still held
abbrev pub parting_of : Resource → Left
parting_of c = elim (count_by is_held_back c.processors) [ zero ↦ left.Last | suc n ↦ left.More (suc n) ]
