use Rattle.std.proofs.Common.{sym, ap, subst, ◌∙◌}
use Rattle.std.specs.Prelude.{Option}
use Rattle.sched_ops.specs.Seen.{Seen}
use Rattle.sched_ops.specs.WantedCores.{MayAsk}
use Rattle.credit2_core.specs.declared.state.Credit2State.{Credit2State}
use Rattle.credit2_core.specs.Whole.{seen_by}
use Rattle.credit2_core.proofs.credit2.Credit2Policy.wanted.Goals as goal

pub wanted-requires-clause-asks : goal.wanted-requires-clause-asks
wanted-requires-clause-asks c r x at =
    let i = c.self.inside in
    subst (λ (s : Seen). MayAsk c.args.t.0 s.scheduler x) (sym (ap (λ (o : Option Credit2State). seen_by o i.limit i.early) (sym c.in-Some.is) ∙ c.self.view_is)) (c.requires.asks r x at)
