use Rattle.std.proofs.Common.{◌≡◌, ◌≤◌, length, map, take}
use Rattle.sched_base.specs.Credit2Numbers.{raised_credit}
use Rattle.sched_model.specs.declared.state.Credit2Unit.{Credit2Unit}
use Rattle.scheduler_records.proofs.credit2_domain.raise_units.Given as goal

abbrev pub invariant-loop-u : goal.invariant-loop-u
invariant-loop-u l =
    record {
      so_far : l.raised ≡ map (λ (x : Credit2Unit). record x { credit = raised_credit x.credit l.resets }) (take l.u-index l.u-items);
      few : length l.raised ≤ l.u-index;
    }
