use Rattle.std.proofs.Common.{◌≡◌, inl, inr, arith}
use Rattle.lock_moves.proofs.Prefix.{prefix_refl}
use Rattle.sched_model.specs.declared.action.Actor.TheVariants.{Proc}
use Rattle.pcpu_threads.proofs.Counting.{of-stays}
use Rattle.pcpu_threads.proofs.Working.{rested-since, works-same, works_refl, works_trans}
use Rattle.pcpu_threads.proofs.workers.act_for_processor.Goals as goal

pub loop-init : goal.loop-init
loop-init g c = works_refl (λ a. a ≡ Proc c.args.p) c.args.seat.now

pub act_once-requires-clause-of : goal.act_once-requires-clause-of
act_once-requires-clause-of g c = of-stays c.args.hall.now c.args.seat.now c.loop.seat c.requires.of c.loop.invariant.stays

pub loop-preserved : goal.loop-preserved
loop-preserved g c =
    let acted = works_trans (λ a. a ≡ Proc c.args.p) c.args.seat.now c.loop.seat c.act_once.new.seat c.loop.invariant c.act_once.ensures.acts in
    works_trans (λ a. a ≡ Proc c.args.p) c.args.seat.now c.act_once.new.seat c.is_waiting.new.seat acted
    (works-same (λ a. a ≡ Proc c.args.p) c.act_once.new.seat c.is_waiting.new.seat c.is_waiting.ensures.stays c.is_waiting.ensures.same)

pub returns-then-not-act_once-clause-acts : goal.returns-then-not-act_once-clause-acts
returns-then-not-act_once-clause-acts g c = works_trans (λ a. a ≡ Proc c.args.p) c.args.seat.now c.loop.seat c.act_once.new.seat c.loop.invariant c.act_once.ensures.acts

pub returns-then-not-act_once-clause-took : goal.returns-then-not-act_once-clause-took
returns-then-not-act_once-clause-took g c = let more = c.loop.invariant.takes in let took = c.act_once.ensures.took in omega (arith, more, took)

pub returns-then-not-act_once-clause-rests : goal.returns-then-not-act_once-clause-rests
returns-then-not-act_once-clause-rests g c =
    let i = c.loop.invariant in
    let e = c.act_once.ensures in
    inl (rested-since c.args.seat.now c.loop.seat c.act_once.new.seat i.stays i.begins e.acts.begins (Proc c.args.p) (e.rests c.if-not-act_once.true))

pub returns-then-is_waiting-clause-acts : goal.returns-then-is_waiting-clause-acts
returns-then-is_waiting-clause-acts g c =
    let acted = works_trans (λ a. a ≡ Proc c.args.p) c.args.seat.now c.loop.seat c.act_once.new.seat c.loop.invariant c.act_once.ensures.acts in
    works_trans (λ a. a ≡ Proc c.args.p) c.args.seat.now c.act_once.new.seat c.is_waiting.new.seat acted
    (works-same (λ a. a ≡ Proc c.args.p) c.act_once.new.seat c.is_waiting.new.seat c.is_waiting.ensures.stays c.is_waiting.ensures.same)

pub returns-then-is_waiting-clause-took : goal.returns-then-is_waiting-clause-took
returns-then-is_waiting-clause-took g c = let more = c.loop.invariant.takes in let took = c.act_once.ensures.took in let same = c.is_waiting.ensures.same.takes in omega (arith, more, took, same)

pub returns-then-is_waiting-clause-rests : goal.returns-then-is_waiting-clause-rests
returns-then-is_waiting-clause-rests g c = inr (record {
  before = c.act_once.new.seat;
  after = c.is_waiting.new.seat;
  acts = works_trans (λ a. a ≡ Proc c.args.p) c.args.seat.now c.loop.seat c.act_once.new.seat c.loop.invariant c.act_once.ensures.acts;
  still = c.is_waiting.ensures.waits c.if-is_waiting.true;
  goes_on = prefix_refl c.is_waiting.new.seat.sitting.view.front;
})
