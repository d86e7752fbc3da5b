-- What the waking of a vCPU does to the cores.
use Rattle.std.specs.Prelude.{ℕ, ◌≡◌, ◌*◌, ◌+◌, ◌%◌, ◌||◌, Bool, false, true, List, Option, Some, None, slice_set, if◌then◌else◌}
use Rattle.std.specs.List.{list_any}
use Rattle.sched_base.specs.Numbers.{moment}
use Rattle.sched_base.specs.declared.Moment.{Moment}
use Rattle.sched_base.specs.declared.UnitId.{UnitId}
use Rattle.sched_base.specs.declared.VcpuId.{VcpuId}
use Rattle.sched_model.specs.declared.event.Event.{Event}
use Rattle.sched_model.specs.declared.event.Event.TheVariants as event
use Rattle.sched_model.specs.declared.state.Domain.{Domain}
use Rattle.sched_model.specs.declared.state.Pool.{Pool}
use Rattle.sched_model.specs.declared.state.Resource.{Resource}
use Rattle.sched_model.specs.declared.state.Vcpu.{Vcpu}
use Rattle.sched_model.specs.Places.{first_place, is_unit, numbered_items}
use Rattle.sched_model.specs.Pool.{is_idling, is_unit_off, vcpu_unit, change_vcpu, woken_vcpu, change_among}
use Rattle.sched_model.specs.State.{may_unit_run}
use Rattle.settle_laws.specs.Wanted.{is_queued_by}
use Rattle.unit_state.specs.Seen.{done_among}
use Rattle.core_state.specs.Seen.{processor_among}
use Rattle.sched_ops.specs.Seen as schedulers

-- whether the processor is there and idles, where these are the cores and each has g processors
abbrev pub idles_among : ℕ → List (Option Resource) → ℕ → Bool
idles_among g cores p = elim (processor_among g cores p) [ None ↦ false | Some q ↦ is_idling q ]

-- whether one of these cores has the unit as its own or saves it
abbrev pub is_held_among : List (Option Resource) → UnitId → Bool
is_held_among cores u = list_any (λ (e : ℕ × Resource). is_unit e.1.cur u || is_unit e.1.saving u) (numbered_items 0 cores)

-- the works after the vCPU, whose work is done then, joined its siblings on these cores
abbrev pub joined_works : ℕ → VcpuId → Option Moment → List (Option Resource) → List (Option Moment) → List (Option Moment)
joined_works g v done cores works =
    elim (first_place 0 (λ c. is_unit c.cur (vcpu_unit g v)) cores) [
      | None ↦ works
      | Some r ↦ (if idles_among g cores (r * g + v.n % g) then slice_set works (r * g + v.n % g) done else works)
    ]

-- the moment at which the work of the vCPU is done that is started at t
abbrev pub done_started : ℕ → VcpuId → List (Option Domain) → Option Moment
done_started t v domains = done_among (change_among v (λ (x : Vcpu). record x { started = Some (moment t) }) domains) v

-- the works after the vCPU woke at t
abbrev pub woken_works : ℕ → ℕ → VcpuId → Pool → List (Option Moment) → List (Option Moment)
woken_works g t v pool works =
    let next : Pool = change_vcpu v woken_vcpu pool in
    elim (may_unit_run g next (vcpu_unit g v)) [
      | false ↦ works
      | true ↦ (if is_unit_off next (vcpu_unit g v) then works else joined_works g v (done_started t v next.domains) pool.resources works)
    ]

-- the unit of the vCPU, where it joins the queue when that wakes
abbrev pub came_by_wake : ℕ → VcpuId → Pool → Option UnitId
came_by_wake g v pool = (if is_queued_by g v pool then Some (vcpu_unit g v) else None)

-- the unit that joins the queue by the event of a core that saved it
abbrev pub came_by_save : Event → Option UnitId
came_by_save (event.Save r u queued) = (if queued then Some u else None)
came_by_save _ = None

-- a scheduler has as much room as before, and no later moment
pub record KeepsRoom (before after : schedulers.Seen) : Type 0 where
  pub spare : after.spare ≡ before.spare
  pub latest : after.latest ≡ before.latest
