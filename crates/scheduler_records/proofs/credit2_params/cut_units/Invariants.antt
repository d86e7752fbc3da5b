use Rattle.std.proofs.Common.{◌≡◌, ◌≤◌, length, map, take}
use Rattle.scheduler_records.specs.Bounds.{unit_cut_to}
use Rattle.scheduler_records.proofs.credit2_params.cut_units.Given as goal

abbrev pub invariant-loop-u : goal.invariant-loop-u
invariant-loop-u l =
    record {
      so_far : l.cut ≡ map (unit_cut_to l.weight) (take l.u-index l.u-items);
      few : length l.cut ≤ l.u-index;
    }
