use Rattle.std.proofs.Common.{◌≡◌, ◌≤◌, length, map, take}
use Rattle.sched_model.specs.Credit2.{burned_unit}
use Rattle.scheduler_records.proofs.credit2_domain.burn_units.Given as goal

abbrev pub invariant-loop-u : goal.invariant-loop-u
invariant-loop-u l =
    record {
      so_far : l.burned ≡ map (burned_unit l.most l.t.0 l.fn.d) (take l.u-index l.u-items);
      few : length l.burned ≤ l.u-index;
    }
