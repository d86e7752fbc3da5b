use Rattle.std.proofs.Common.{sym, ◌∙◌}
use Rattle.pool_units.proofs.Whole.{units_of}
use Rattle.pool_units.proofs.Marking.{marked_dequeued, marked_place, unmarked_stays}
use Rattle.pool_units.proofs.PoolUnits.dequeue.Goals as goal

pub set-requires : goal.set-requires
set-requires c = marked_place c.args.u c.self.inside.marks (units_of c.self.inside.queue c.self.inside.affinity c.self.inside.spare) (sym c.get.ensures ∙ c.if-not-get.false) c.self.invariant

pub invariant_of-self : goal.invariant_of-self
invariant_of-self c =
    rw (c.take_out.ensures, c.set.ensures)
    (marked_dequeued c.args.u c.self.inside.marks (units_of c.self.inside.queue c.self.inside.affinity c.self.inside.spare) (sym c.get.ensures ∙ c.if-not-get.false) c.self.invariant)

pub returns-then-not-get : goal.returns-then-not-get
returns-then-not-get c =
    rw (← c.self.view_is)
    (unmarked_stays c.args.u c.self.inside.marks (units_of c.self.inside.queue c.self.inside.affinity c.self.inside.spare) (sym c.get.ensures ∙ c.if-not-get.true) c.self.invariant)
