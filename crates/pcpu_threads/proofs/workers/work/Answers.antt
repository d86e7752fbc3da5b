use Rattle.std.proofs.Common.{◌∙◌, ◌+◌, ◌%◌, ℕ, sym, ap, subst}
use Rattle.pcpu_threads.specs.Workers.{HasWorked}
use Rattle.pcpu_threads.proofs.Working.{worked-all, worked-first, worked-more, worked-other}
use Rattle.pcpu_threads.proofs.workers.work.Goals as goal
use Rattle.pcpu_threads.proofs.workers.work.Goals.{then-from-workers, else-from-workers}

pub loop-d-init : goal.loop-d-init
loop-d-init g c =
    let e = c.act_for_processor.ensures in
    worked-first c.args.hall.now c.args.workers c.args.worker c.args.seat.now c.act_for_processor.new.seat e.acts e.took e.rests

pub loop-d-preserved : goal.loop-d-preserved
loop-d-preserved g c =
    let n = c.args.workers in
    let p = c.args.worker in
    let hall = c.args.hall.now in
    let d = c.loop-d.d in
    let old = c.args.seat.now in
    let is = ap (λ (k : ℕ). k % n) (sym c.from.ensures) in
    elim c.if-from-workers.branch [
      | then-from-workers w ↦
          let e = w.act_for_domain.ensures in
          subst (HasWorked hall n (d + 1) p old) (sym w.seat-is) (worked-more hall n p old d c.loop-d.seat w.act_for_domain.new.seat (is ∙ w.if-from-workers.true) c.loop-d.invariant e.acts e.rests)
      | else-from-workers w ↦ subst (HasWorked hall n (d + 1) p old) (sym w.seat-is) (worked-other hall n p old d c.loop-d.seat (λ same. w.if-from-workers.false (sym is ∙ same)) c.loop-d.invariant)
    ]

pub returns : goal.returns
returns g c = worked-all c.args.hall.now c.args.workers c.args.worker c.args.seat.now c.loop-d.d c.args.domains c.loop-d.seat c.loop-d-test.false c.loop-d.invariant
