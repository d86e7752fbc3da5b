use Rattle.std.proofs.Common.{sym, ◌∙◌}
use Rattle.arrival_queue.specs.Filters.{may_run}
use Rattle.rtds_core.proofs.Ahead.{none_ahead}
use Rattle.rtds_core.proofs.wanted.one_goes_first.Goals as goal

pub returns-then-not-unit_before : goal.returns-then-not-unit_before
returns-then-not-unit_before c =
    sym (none_ahead c.args.domains.now c.args.own (λ u. may_run c.args.masks.now c.args.core c.args.home u) c.args.queues.now.eligible c.args.first.unit c.requires.queues.eligible c.requires.order c.requires.ahead.unit (sym c.unit_before.ensures ∙ c.if-not-unit_before.true))
