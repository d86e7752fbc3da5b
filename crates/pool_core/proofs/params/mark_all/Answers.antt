use Rattle.std.proofs.Common.{List, refl, ap, ◌∙◌, arith}
use Rattle.std.specs.Prelude.{Option}
use Rattle.sched_model.specs.declared.state.Resource.{Resource}
use Rattle.core_state.specs.Seen.{Seen, changed_core}
use Rattle.pool_records.specs.Marks.{pending_each}
use Rattle.pool_core.proofs.Settled.{first-all, first-next}
use Rattle.pool_core.proofs.params.mark_all.Goals as goal

pub loop-r-init : goal.loop-r-init
loop-r-init c = refl

pub loop-r-preserved : goal.loop-r-preserved
loop-r-preserved c =
    c.set_pending.ensures ∙ ap (λ (s : Seen). changed_core c.loop-r.r (pending_each c.loop-r.r) s) c.loop-r.invariant
    ∙ ap (λ (cores : List (Option Resource)). record c.args.cores.now { resources = cores }) (first-next c.loop-r.r pending_each c.args.cores.now.resources)

pub returns : goal.returns
returns c =
    let over = c.loop-r-test.false in
    let count = c.places-r-end.ensures in
    c.loop-r.invariant
    ∙ ap (λ (cores : List (Option Resource)). record c.args.cores.now { resources = cores }) (first-all c.loop-r.r 0 pending_each c.args.cores.now.resources (omega (arith, over, count)))
