use Rattle.std.proofs.Common.{◌<◌, length, sym, ◌∙◌, arith}
use Rattle.core.specs.Mem.Slots.{slots_items, slots_counts}
use Rattle.unit_ring.proofs.Linked.{all_first, first_linked}
use Rattle.unit_ring.proofs.links.Nodes.fresh.Goals as goal

pub returns-clause-start : goal.returns-clause-start
returns-clause-start c = λ k low.
    let count = (slots_counts c.fill.new.row).0 in
    let there : k < length (slots_items c.fill.new.row) = omega (arith, low, count, c.fill.ensures.places.count, c.based-row.ensures.places.count, c.in_ok-row.ensures.0, c.as_slice.ensures.len, c.in_ok-like.ensures.len) in
    all_first c.based-row.result.1 (slots_items c.fill.new.row) c.based-row.ensures.block (λ m less. c.fill.ensures.nodes m (omega (arith, less, count))) k there

pub invariant_of-result : goal.invariant_of-result
invariant_of-result c =
    let count = (slots_counts c.fill.new.row).0 in
    let told = c.in_ok-row.ensures in (
      record {
        start = c.fill.ensures.places.start ∙ c.based-row.ensures.places.start ∙ sym c.based-row.ensures.base;
        block = c.based-row.ensures.block;
        full = c.fill.ensures.full;
        linked = first_linked c.based-row.result.1 (slots_items c.fill.new.row) c.based-row.ensures.block (λ m less. c.fill.ensures.nodes m (omega (arith, less, count)));
      },
      told.1 ∙ sym c.based-row.ensures.places.start ∙ sym c.fill.ensures.places.start,
      told.2 ∙ sym c.based-row.ensures.places.count ∙ sym c.fill.ensures.places.count,
      told.3,
    )
