use Rattle.std.proofs.Common.{◌≡◌, length, replicate}
use Rattle.std.specs.Prelude.{None, pos}
use Rattle.sched_base.specs.Credit2Numbers.{start_credit}
use Rattle.scheduler_records.proofs.credit2_params.fresh_domain.Given as goal

abbrev pub invariant-loop : goal.invariant-loop
invariant-loop l =
    record {
      so_far : l.units ≡ replicate l.counter (record { credit = pos start_credit; residual = 0; held = pos 0; burned = None });
      count : length l.units ≡ l.counter;
    }
