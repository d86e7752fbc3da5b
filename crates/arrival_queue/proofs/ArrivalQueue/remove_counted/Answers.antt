use Rattle.std.proofs.Common.{◌≡◌, true, sym, ◌∙◌, ap, subst}
use Rattle.unit_places.specs.Places.{number_of}
use Rattle.unit_ring.specs.Lists as l
use Rattle.unit_ring.specs.Lists.{Lists, item, after_give, after_take}
use Rattle.arrival_queue.specs.Queues.{Queues, holds, after_remove}
use Rattle.arrival_queue.specs.Tables.{all_items}
use Rattle.arrival_queue.proofs.Steps.{found, some_has}
use Rattle.arrival_queue.proofs.Changes.{holds-is, seen_is, remove_seen, none_number}
use Rattle.arrival_queue.specs.Order.{IsOrdered}
use Rattle.arrival_queue.specs.WholeTables.{seen_queues}
use Rattle.arrival_queue.proofs.Ordered.{ordered-removed}
use Rattle.arrival_queue.proofs.ArrivalQueue.remove_counted.Given.{Over}
use Rattle.arrival_queue.proofs.ArrivalQueue.remove_counted.Goals as goal

here : (g : Over) (c : goal.After-take g) → true ≡ holds c.args.self.now c.args.u
here g c =
    sym (some_has (number_of c.args.u) c.in-Some.n (all_items c.self.inside.tables.ring) (sym c.find.ensures ∙ c.in-Some.is))
    ∙ sym (holds-is c.args.u c.self.inside.tables.ring c.self.inside.tables.keys.items c.self.inside.tables.arrivals.items)
    ∙ ap (λ (qs : Queues). holds qs c.args.u) c.self.view_is

after_is : (g : Over) (c : goal.After-take g) → seen_queues c.take.new.tables ≡ after_remove c.args.self.now c.args.u
after_is g c =
    seen_is (after_give (l.lists_without c.self.inside.tables.ring c.in-Some.n.0)) c.take.new.tables.ring c.self.inside.tables.keys.items c.take.new.tables.keys.items c.self.inside.tables.arrivals.items c.take.new.tables.arrivals.items c.take.ensures.ring c.take.ensures.keys c.take.ensures.arrivals
    ∙ remove_seen c.self.inside.tables.ring c.self.inside.tables.keys.items c.self.inside.tables.arrivals.items c.args.u c.in-Some.n (found c.self.inside.tables.ring c.args.u c.in-Some.n c.self.invariant.tables.apart (sym c.find.ensures ∙ c.in-Some.is))
    ∙ ap (λ (qs : Queues). after_remove qs c.args.u) c.self.view_is

pub invariant_of-self : goal.invariant_of-self
invariant_of-self g c = record {
  tables = c.take.ensures.tables;
  ordered =
      subst IsOrdered (sym (after_is g c))
      (ordered-removed c.args.self.now c.args.u (sym (here g c)) (subst IsOrdered c.self.view_is c.self.invariant.ordered));
}

pub returns-in-Some-clause-answer : goal.returns-in-Some-clause-answer
returns-in-Some-clause-answer g c = here g c

pub returns-in-None-clause-answer : goal.returns-in-None-clause-answer
returns-in-None-clause-answer g c =
    sym (none_number (number_of c.args.u) (all_items c.self.inside.tables.ring) (sym c.find.ensures ∙ c.in-None.is))
    ∙ sym (holds-is c.args.u c.self.inside.tables.ring c.self.inside.tables.keys.items c.self.inside.tables.arrivals.items)
    ∙ ap (λ (qs : Queues). holds qs c.args.u) c.self.view_is

pub returns-in-Some-clause-gone : goal.returns-in-Some-clause-gone
returns-in-Some-clause-gone g c = after_is g c
