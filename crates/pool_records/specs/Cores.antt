-- Cores that join a pool and leave it.
use Rattle.std.specs.Prelude.{ℕ, ◌||◌, true, List, map, is_some}
use Rattle.sched_base.specs.declared.Moment.{Moment}
use Rattle.sched_model.specs.declared.state.Doing.TheVariants.{Idle}
use Rattle.sched_model.specs.declared.state.Processor.{Processor}
use Rattle.sched_model.specs.declared.state.Resource.{Resource}
use Rattle.sched_model.specs.Places.{change_item}

-- a processor that idles, with this end of its stall
abbrev pub fresh_processor : Moment → Processor
fresh_processor end = record { doing = Idle; stall_end = end }

-- the processor's stall ends then
abbrev pub stalled_to : Moment → Processor → Processor
stalled_to end q = record q { stall_end = end }

-- the core with its i-th processor changed by f
abbrev pub with_sibling : ℕ → (Processor → Processor) → Resource → Resource
with_sibling i f c = record c { processors = change_item i f c.processors }

-- the core is leaving; it is to decide where it has a unit
abbrev pub leaving_core : Resource → Resource
leaving_core c = record c { leaving = true; pending = c.pending || is_some c.cur }

-- the ends of the stalls of the core's processors
abbrev pub ends_of : Resource → List Moment
ends_of c = map (λ (p : Processor). p.stall_end) c.processors
