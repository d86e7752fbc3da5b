use Rattle.std.proofs.Common.{◌≡◌, false, sym, ap, subst, ◌∙◌}
use Rattle.std.specs.Prelude.{Option}
use Rattle.sched_model.specs.Places.{at_place}
use Rattle.sched_ops.specs.Seen.{Seen, scheduler_without_unit}
use Rattle.sched_ops.specs.WantedCores.{MayAsk, is_core_wanted}
use Rattle.credit2_core.specs.declared.state.Credit2State.{Credit2State}
use Rattle.credit2_core.specs.Whole.{seen_by}
use Rattle.credit2_core.proofs.credit2.Credit2Policy.wanted_for.Goals as goal

pub wanted_for-requires-clause-asks : goal.wanted_for-requires-clause-asks
wanted_for-requires-clause-asks c r x at =
    let i = c.self.inside in
    subst (λ (s : Seen). MayAsk c.args.t.0 s.scheduler x) (sym (ap (λ (o : Option Credit2State). seen_by o i.limit i.early) (sym c.in-Some.is) ∙ c.self.view_is)) (c.requires.asks r x at)

pub wanted_for-requires-clause-before : goal.wanted_for-requires-clause-before
wanted_for-requires-clause-before c r =
    let i = c.self.inside in
    subst (λ (s : Seen). is_core_wanted c.args.t.0 c.args.home.0 (scheduler_without_unit c.args.u s.scheduler) r (at_place c.args.cores.now r) ≡ false) (sym (ap (λ (o : Option Credit2State). seen_by o i.limit i.early) (sym c.in-Some.is) ∙ c.self.view_is))
    (c.requires.before r)
