-- Where a vCPU that wakes finds its place.
use Rattle.std.specs.Prelude.{ℕ, Bool, true, false, None, Some, if◌then◌else◌}
use Rattle.sched_base.specs.declared.VcpuId.{VcpuId}
use Rattle.sched_model.specs.declared.state.Pool.{Pool}
use Rattle.sched_model.specs.State.{may_unit_run}
use Rattle.sched_model.specs.Pool.{pool_processor, is_idling, vcpu_unit, is_unit_off, queue_unit, joined_siblings}

-- whether the processor is there and idles
abbrev pub idles_at : ℕ → Pool → ℕ → Bool
idles_at g pool p = elim (pool_processor g pool p) [ None ↦ false | Some q ↦ is_idling q ]

-- the pool after a vCPU that is awake has found its place: its unit waits, where it was off, and else its processor runs it
abbrev pub after_placing : ℕ → ℕ → VcpuId → Pool → Pool
after_placing g t v pool =
    elim (may_unit_run g pool (vcpu_unit g v)) [
      | false ↦ pool
      | true ↦ (if is_unit_off pool (vcpu_unit g v) then queue_unit (vcpu_unit g v) pool else joined_siblings g t v pool)
    ]
