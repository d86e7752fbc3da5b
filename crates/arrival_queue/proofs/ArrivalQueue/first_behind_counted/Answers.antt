use Rattle.std.proofs.Common.{◌≡◌, ◌+◌, ◌≤◌, Bool, length, sym, ◌∙◌, ap, subst, arith}
use Rattle.std.specs.Prelude.{Some}
use Rattle.std.proofs.lemmas.List.{length-map}
use Rattle.sched_base.specs.declared.UnitId.{UnitId}
use Rattle.unit_places.specs.Places.{number_of}
use Rattle.arrival_queue.specs.Filters.{has_core_bit, first_that}
use Rattle.arrival_queue.specs.Queues.{Queues, list_without}
use Rattle.arrival_queue.specs.Tables.{all_items, shown_unit}
use Rattle.arrival_queue.proofs.Behind.{behind_at, found_behind, node_of-left, none_some}
use Rattle.arrival_queue.proofs.Walking.{stand_live, stand_next}
use Rattle.arrival_queue.proofs.ArrivalQueue.first_behind_counted.Goals as goal

pub next-from-requires : goal.next-from-requires
next-from-requires g c =
    let ring = c.self.inside.tables.ring in
    let keys = c.self.inside.tables.keys.items in
    let ns = c.self.inside.tables.arrivals.items in
    let p : UnitId → Bool = λ w. has_core_bit c.args.allowed.0 w.dom.0 in
    let apart = c.self.invariant.tables.apart in
    let b = found_behind p c.args.u ring keys ns apart (subst (λ (qs : Queues). first_that p qs.sorted ≡ Some c.args.u) (sym c.self.view_is) c.requires) in
    let there = behind_at p c.args.u (shown_unit keys ns (all_items ring)) ring c.in-Some.n apart b (sym c.find.ensures ∙ c.in-Some.is) in
    record { live = stand_live ring b.place c.in-Some.n there }

pub first_from-requires : goal.first_from-requires
first_from-requires g c =
    let ring = c.self.inside.tables.ring in
    let keys = c.self.inside.tables.keys.items in
    let ns = c.self.inside.tables.arrivals.items in
    let p : UnitId → Bool = λ w. has_core_bit c.args.allowed.0 w.dom.0 in
    let apart = c.self.invariant.tables.apart in
    let b = found_behind p c.args.u ring keys ns apart (subst (λ (qs : Queues). first_that p qs.sorted ≡ Some c.args.u) (sym c.self.view_is) c.requires) in
    let there = behind_at p c.args.u (shown_unit keys ns (all_items ring)) ring c.in-Some.n apart b (sym c.find.ensures ∙ c.in-Some.is) in
    record {
      apart = apart;
      stop = record {
        place = b.place + 1;
        low = (let low = there.low in omega (arith, low));
        is = c.next-from.ensures.node ∙ stand_next ring b.place c.in-Some.n there;
      };
    }

pub returns-in-Some-clause-first : goal.returns-in-Some-clause-first
returns-in-Some-clause-first g c =
    let ring = c.self.inside.tables.ring in
    let keys = c.self.inside.tables.keys.items in
    let ns = c.self.inside.tables.arrivals.items in
    let p : UnitId → Bool = λ w. has_core_bit c.args.allowed.0 w.dom.0 in
    let apart = c.self.invariant.tables.apart in
    let b = found_behind p c.args.u ring keys ns apart (subst (λ (qs : Queues). first_that p qs.sorted ≡ Some c.args.u) (sym c.self.view_is) c.requires) in
    let there = behind_at p c.args.u (shown_unit keys ns (all_items ring)) ring c.in-Some.n apart b (sym c.find.ensures ∙ c.in-Some.is) in
    c.first_from.ensures.unit (b.place + 1) (c.next-from.ensures.node ∙ stand_next ring b.place c.in-Some.n there)
    ∙ sym b.rest
    ∙ ap (λ (qs : Queues). first_that p (list_without c.args.u qs.sorted)) c.self.view_is

pub returns-in-None-clause-first : goal.returns-in-None-clause-first
returns-in-None-clause-first g c =
    let ring = c.self.inside.tables.ring in
    let keys = c.self.inside.tables.keys.items in
    let ns = c.self.inside.tables.arrivals.items in
    let p : UnitId → Bool = λ w. has_core_bit c.args.allowed.0 w.dom.0 in
    let apart = c.self.invariant.tables.apart in
    let b = found_behind p c.args.u ring keys ns apart (subst (λ (qs : Queues). first_that p qs.sorted ≡ Some c.args.u) (sym c.self.view_is) c.requires) in
    absurd (none_some b.node (sym (sym c.find.ensures ∙ c.in-None.is) ∙ node_of-left (number_of c.args.u) ring.first ring.second b.node b.found))
