use Rattle.std.proofs.Common.{◌≡◌, drop}
use Rattle.sched_model.specs.Credit2.{has_domain_budget}
use Rattle.plain_schedulers.specs.WaitingUnits.{HasCredit}
use Rattle.plain_pool.specs.Looks.{best_from, is_richer}
use Rattle.plain_pool.proofs.look.richest.Given as goal

abbrev pub invariant-loop-u : goal.invariant-loop-u
invariant-loop-u l =
    record {
      same : best_from (has_domain_budget l.records) (is_richer l.records) l.found (drop l.u-index l.units) ≡ best_from (has_domain_budget l.records) (is_richer l.records) l.fn.best l.units;
      credit : HasCredit l.records l.found l.credit;
    }
