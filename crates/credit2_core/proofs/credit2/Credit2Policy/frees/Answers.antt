use Rattle.std.proofs.Common.{◌∙◌, ap, sym}
use Rattle.std.specs.Prelude.{Option}
use Rattle.settle_laws.specs.Frees.{may_free}
use Rattle.sched_ops.specs.Seen.{Seen}
use Rattle.credit2_core.specs.declared.state.Credit2State.{Credit2State}
use Rattle.credit2_core.specs.Whole.{seen_by}
use Rattle.credit2_core.proofs.credit2.Credit2Policy.frees.Goals as goal

pub returns-in-Some : goal.returns-in-Some
returns-in-Some c =
    let i = c.self.inside in
    c.frees.ensures c.args.leaving
    ∙ ap (λ (s : Seen). may_free c.args.cur c.args.leaving s.scheduler.records) (ap (λ (o : Option Credit2State). seen_by o i.limit i.early) (sym c.in-Some.is) ∙ c.self.view_is)
