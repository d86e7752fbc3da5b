use Rattle.std.proofs.Common.{◌≡◌, ◌∙◌, sym}
use Rattle.sched_laws.proofs.Choices.{is_unit_same}
use Rattle.credit2_core.proofs.Kept.{first_runnable}
use Rattle.credit2_core.proofs.choice.first_without.Goals as goal

pub first_behind-requires : goal.first_behind-requires
first_behind-requires c =
    first_runnable c.args.state.now.records c.args.ready.now.domains.0 c.args.state.now.queue.units c.requires.domains
    ∙ sym c.requires.first
    ∙ is_unit_same c.args.ready.now.first c.args.u (sym c.if-is_there.ensures)
