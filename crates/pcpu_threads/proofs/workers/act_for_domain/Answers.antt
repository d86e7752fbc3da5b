use Rattle.std.proofs.Common.{◌≡◌}
use Rattle.sched_model.specs.declared.action.Actor.TheVariants.{Dom}
use Rattle.pcpu_threads.proofs.Counting.{of-stays}
use Rattle.pcpu_threads.proofs.Working.{rested-since, works_refl, works_trans}
use Rattle.pcpu_threads.proofs.workers.act_for_domain.Goals as goal

pub loop-init : goal.loop-init
loop-init g c = works_refl (λ a. a ≡ Dom c.args.d) c.args.seat.now

pub act_once-requires-clause-of : goal.act_once-requires-clause-of
act_once-requires-clause-of g c = of-stays c.args.hall.now c.args.seat.now c.loop.seat c.requires.of c.loop.invariant.stays

pub loop-preserved : goal.loop-preserved
loop-preserved g c = works_trans (λ a. a ≡ Dom c.args.d) c.args.seat.now c.loop.seat c.act_once.new.seat c.loop.invariant c.act_once.ensures.acts

pub returns-then-not-act_once-clause-acts : goal.returns-then-not-act_once-clause-acts
returns-then-not-act_once-clause-acts g c = works_trans (λ a. a ≡ Dom c.args.d) c.args.seat.now c.loop.seat c.act_once.new.seat c.loop.invariant c.act_once.ensures.acts

pub returns-then-not-act_once-clause-rests : goal.returns-then-not-act_once-clause-rests
returns-then-not-act_once-clause-rests g c =
    let i = c.loop.invariant in
    let e = c.act_once.ensures in
    rested-since c.args.seat.now c.loop.seat c.act_once.new.seat i.stays i.begins e.acts.begins (Dom c.args.d) (e.rests c.if-not-act_once.true)
