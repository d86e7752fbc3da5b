use Rattle.std.proofs.Common.{◌≡◌, ◌≤◌, length, map, take}
use Rattle.scheduler_records.specs.Bounds.{unit_without_held}
use Rattle.scheduler_records.proofs.credit2_params.empty_units.Given as goal

abbrev pub invariant-loop-u : goal.invariant-loop-u
invariant-loop-u l =
    record {
      so_far : l.left ≡ map unit_without_held (take l.u-index l.u-items);
      few : length l.left ≤ l.u-index;
    }
