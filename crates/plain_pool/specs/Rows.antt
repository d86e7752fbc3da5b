-- Parts of the rows of the table of enabled events.
use Rattle.std.specs.Prelude.{ℕ, Bool, false, Some, None}
use Rattle.sched_base.specs.declared.VcpuId.{VcpuId}
use Rattle.sched_model.specs.declared.state.Pool.{Pool}
use Rattle.sched_model.specs.State.{is_not_stalled}
use Rattle.sched_base.specs.Numbers.{has_moment_come}
use Rattle.sched_model.specs.Pool.{pool_vcpu, done_moment, pool_processor}

-- whether the work of the vCPU is done at t
abbrev pub done_among : ℕ → Pool → VcpuId → Bool
done_among t pool v = elim (pool_vcpu pool v) [ None ↦ false | Some x ↦ has_moment_come t (done_moment x) ]

-- whether the processor is there and up at t
abbrev pub processor_up : ℕ → ℕ → Pool → ℕ → Bool
processor_up g t pool p = elim (pool_processor g pool p) [ None ↦ false | Some q ↦ is_not_stalled t q ]
