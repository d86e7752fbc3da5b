use Rattle.std.proofs.Common.{◌∙◌, ap, sym, not}
use Rattle.std.specs.Prelude.{Option}
use Rattle.sched_base.specs.declared.UnitId.{UnitId}
use Rattle.settle_laws.specs.Frees.{may_free}
use Rattle.credit2_core.specs.Credit2State.{scheduler_in}
use Rattle.credit2_core.proofs.wanted.frees.Goals as goal

pub returns-in-Some : goal.returns-in-Some
returns-in-Some c leaving =
    ap not (c.has_domain.ensures ∙ c.requires.domains.each c.in-Some.u.dom.0)
    ∙ ap (λ (cur : Option UnitId). may_free cur leaving (scheduler_in c.args.state.now).records) (sym c.in-Some.is)
