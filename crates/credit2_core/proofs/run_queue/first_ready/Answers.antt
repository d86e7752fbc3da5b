use Rattle.std.proofs.Common.{◌∙◌}
use Rattle.credit2_core.proofs.Kept.{first_runnable}
use Rattle.credit2_core.proofs.run_queue.first_ready.Goals as goal

pub returns : goal.returns
returns c =
    let state = c.args.state.now in
    c.first_where.ensures ∙ first_runnable state.records c.args.domains.0 state.queue.units c.requires
