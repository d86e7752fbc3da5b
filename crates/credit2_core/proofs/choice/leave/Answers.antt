use Rattle.std.proofs.Common.{◌≡◌, ◌<◌, ◌∙◌, Bool, true, false, ap, arith, sym}
use Rattle.std.specs.Bool.{OnTrue, OnFalse}
use Rattle.sched_base.specs.declared.UnitId.{UnitId}
use Rattle.arrival_queue.specs.Filters.{first_that}
use Rattle.arrival_queue.specs.Queues.{has_unit, list_without, rank_in}
use Rattle.runq.specs.Queue.{Queue, after_remove}
use Rattle.credit2_core.proofs.Kept.{first_closed, first_left, without_none}
use Rattle.credit2_core.proofs.Lists.{queued_have}
use Rattle.credit2_core.proofs.Lines.{IsLeft, line_left}
use Rattle.credit2_core.proofs.choice.leave.Goals as goal

left : (c : goal.After-remove) → IsLeft c.args.state.now.affinity c.args.state.now.records c.args.u c.args.state.now.queue c.remove.new.self
left c =
    line_left c.args.state.now.affinity c.args.state.now.records c.args.u c.args.state.now.queue c.remove.new.self c.remove.result
    (record { order = c.law_order.ensures.order; ranks = c.law_order.ensures.ranks; units = c.law_order.ensures.units }) (omega arith) c.remove.ensures.answer c.remove.ensures.gone c.remove.ensures.none c.requires

pub returns-clause-order : goal.returns-clause-order
returns-clause-order c = (left c).order

pub returns-clause-line : goal.returns-clause-line
returns-clause-line c = (left c).line

pub returns-clause-room : goal.returns-clause-room
returns-clause-room c = (left c).room

pub returns-clause-first : goal.returns-clause-first
returns-clause-first c p other = by_answer c.remove.result c.remove.ensures.gone c.remove.ensures.none
  where
    old : Queue
    old = c.args.state.now.queue

    left_first : first_that p (after_remove old c.args.u).units ≡ first_that p old.units
    left_first = first_left p c.args.u (rank_in c.args.u old.units) old.units (omega arith) (queued_have (λ (w : UnitId). w.n < 256) old.units c.requires.indices) other

    by_answer : (b : Bool) → OnTrue b (c.remove.new.self ≡ after_remove old c.args.u) → OnFalse b (c.remove.new.self ≡ old) → first_that p c.remove.new.self.units ≡ first_that p old.units
    by_answer true gone none = ap (λ (q : Queue). first_that p q.units) gone ∙ left_first
    by_answer false gone none = ap (λ (q : Queue). first_that p q.units) none

pub returns-clause-without : goal.returns-clause-without
returns-clause-without c p = by_answer c.remove.result c.remove.ensures.answer c.remove.ensures.gone c.remove.ensures.none
  where
    old : Queue
    old = c.args.state.now.queue

    by_answer : (b : Bool) → b ≡ has_unit c.args.u old.units → OnTrue b (c.remove.new.self ≡ after_remove old c.args.u) → OnFalse b (c.remove.new.self ≡ old) → first_that p c.remove.new.self.units ≡ first_that p (list_without c.args.u old.units)
    by_answer true has gone none = ap (λ (q : Queue). first_that p q.units) gone ∙ first_closed p (rank_in c.args.u old.units) (list_without c.args.u old.units)
    by_answer false has gone none = ap (λ (q : Queue). first_that p q.units) none ∙ ap (first_that p) (sym (without_none c.args.u old.units (sym has)))
