use Rattle.std.proofs.Common.{◌≡◌, ℕ, ◌-◌, ◌<◌, true, false, length, sym, subst, arith}
use Rattle.unit_ring.specs.declared.Node.{Node}
use Rattle.unit_ring.specs.Lists.{Item, is_live, item, no_unit}
use Rattle.std.specs.Prelude.{Bool, Option, Some}
use Rattle.arrival_queue.specs.declared.key.Key.{Key}
use Rattle.arrival_queue.specs.declared.tables.Tables.{Tables}
use Rattle.arrival_queue.specs.WholeTables.{IsTables}
use Rattle.arrival_queue.specs.Tables.{comes_before}
use Rattle.arrival_queue.proofs.Walking.{at_live, Tabled-left, Tabled-has}
use Rattle.arrival_queue.proofs.Back.{Here, Stands, here, stepped, found_here, found_end}
use Rattle.arrival_queue.proofs.tables.place_of.Goals as goal

-- whether the new unit comes before an item
abbrev test : Tables → Key → ℕ → Item → Bool
test t key a = comes_before t.keys.items t.arrivals.items key a

-- where the walk stands
there : (t : Tables) (key : Key) (a k : ℕ) (at place : Option Node) (n : Node) → IsTables t → Stands (test t key a) t.ring.first k at place → at ≡ Some n
    → Here t.ring (test t key a) k n place
there t key a k at place n tables stands is = here t.ring (test t key a) k at place n tables.apart stands is

pub comes_before_node-requires-clause-arrivals : goal.comes_before_node-requires-clause-arrivals
comes_before_node-requires-clause-arrivals g c =
    let t = c.args.tables.now in
    let n = length t.arrivals.items in
    let h = there c.args.tables.now c.args.key c.args.arrival (c.loop-at.steps - c.last-at.new.steps) c.loop-at.at c.loop-at.place c.in-Some.n c.requires.tables c.loop-at.invariant.stands c.in-Some.is in
    let low = Tabled-has n t.next h.x.node t.arrivals.items t.ring.first (Tabled-left n t.next t.arrivals.items t.ring.first t.ring.second c.requires.tables.tabled) h.has in
    subst (λ (m : Node). m.0 < n) (sym h.node_is) low

pub comes_before_node-requires-clause-keys : goal.comes_before_node-requires-clause-keys
comes_before_node-requires-clause-keys g c =
    let low = comes_before_node-requires-clause-arrivals g c in
    subst (λ (n : ℕ). c.in-Some.n.0 < n) (sym c.requires.tables.keys_room) low

pub returns-then-not-comes_before_node-clause-place : goal.returns-then-not-comes_before_node-clause-place
returns-then-not-comes_before_node-clause-place g c =
    let h = there c.args.tables.now c.args.key c.args.arrival (c.loop-at.steps - c.last-at.new.steps) c.loop-at.at c.loop-at.place c.in-Some.n c.requires.tables c.loop-at.invariant.stands c.in-Some.is in
    found_here c.args.tables.now.ring (test c.args.tables.now c.args.key c.args.arrival) (c.loop-at.steps - c.last-at.new.steps) c.in-Some.n c.loop-at.place h c.requires.order
    (subst (λ (m : Node). test c.args.tables.now c.args.key c.args.arrival (item m.0 no_unit) ≡ false) h.node_is (sym c.if-not-comes_before_node.ensures))

pub prev-at-requires : goal.prev-at-requires
prev-at-requires g c =
    let h = there c.args.tables.now c.args.key c.args.arrival (c.loop-at.steps - c.last-at.new.steps) c.loop-at.at c.loop-at.place c.in-Some.n c.requires.tables c.loop-at.invariant.stands c.in-Some.is in
    record { live = subst (λ (m : Node). is_live c.args.tables.now.ring m.0 ≡ true) (sym h.node_is) (at_live c.args.tables.now.ring h.x.node h.has) }

pub loop-at-preserved : goal.loop-at-preserved
loop-at-preserved g c =
    let later = c.loop-at.invariant.later in
    let step = c.prev-at.ensures.step in
    let h = there c.args.tables.now c.args.key c.args.arrival (c.loop-at.steps - c.last-at.new.steps) c.loop-at.at c.loop-at.place c.in-Some.n c.requires.tables c.loop-at.invariant.stands c.in-Some.is in
    record {
      later = omega (arith, later, step);
      stands =
          stepped c.args.tables.now.ring (test c.args.tables.now c.args.key c.args.arrival) (c.loop-at.steps - c.last-at.new.steps) (c.prev-at.new.steps - c.last-at.new.steps) c.in-Some.n c.loop-at.place c.prev-at.result h
          (subst (λ (m : Node). test c.args.tables.now c.args.key c.args.arrival (item m.0 no_unit) ≡ true) h.node_is (sym c.if-not-comes_before_node.ensures))
          c.prev-at.ensures.node (omega (arith, later, step));
    }

pub returns-clause-place : goal.returns-clause-place
returns-clause-place g c =
    found_end (comes_before c.args.tables.now.keys.items c.args.tables.now.arrivals.items c.args.key c.args.arrival) c.args.tables.now.ring.first
    (c.loop-at.steps - c.last-at.new.steps) c.loop-at.at c.loop-at.place c.loop-at.invariant.stands c.in_default.is
