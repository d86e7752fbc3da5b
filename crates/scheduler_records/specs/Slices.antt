-- How long a unit of Credit2 runs.
use Rattle.std.specs.Prelude.{ℕ, Some, None, if◌then◌else◌, ℤ, min, slice_get, ◌==◌}
use Rattle.sched_base.specs.Credit2Numbers.{positive_part, slice_length}
use Rattle.sched_model.specs.declared.state.Credit2Domain.{Credit2Domain}

-- how long the unit with this index of the domain runs; under a cap for no longer than the budget that it holds
abbrev pub capped_slice : Credit2Domain → ℕ → ℤ → ℕ → ℕ → ℕ
capped_slice d n other most limit =
    elim (slice_get d.units n) [
      | None ↦ 0
      | Some x ↦
          let long = slice_length x.credit other d.weight most limit in
          (if d.cap == 0 then long else min long (positive_part x.held))
    ]
