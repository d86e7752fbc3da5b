use Rattle.std.proofs.Common.{◌≡◌, ◌∙◌, ℕ, true≢false, List, length, ap, sym, subst, arith}
use Rattle.std.specs.Prelude.{Option}
use Rattle.std.proofs.lemmas.List.{length_push}
use mathlib.Core.Logic.{dite}
use native.Mathlib.Decide.{dec_lt}
use Rattle.pool_core.specs.Seen.{Seen as PoolSeen}
use Rattle.lock_moves.specs.SeatSight.{HoldsBelow}
use Rattle.hall.specs.SeatKnowledge.{KnowsPool}
use Rattle.hall.proofs.Locking.{all_held, held_none, keeps_on, pools_fewer, pools_still}
use Rattle.hall.proofs.all.put_all.Goals as goal

pub put_tool-requires-clause-below : goal.put_tool-requires-clause-below
put_tool-requires-clause-below c = all_held c.args.all c.args.seat.now.view c.requires.knows c.requires.book

pub loop-slot-init : goal.loop-slot-init
loop-slot-init c = let count = c.requires.knows.count in (
  c.put_tool.ensures.keeps,
  subst (λ (n : ℕ). HoldsBelow n c.put_tool.new.seat.view) (sym count) c.put_tool.ensures.below,
  omega (arith, count),
  pools_still 16 c.args.all.slots.items c.args.seat.now.view c.put_tool.new.seat.view (omega (arith, count)) c.put_tool.ensures.still c.requires.knows.pools,
)

pub put_pool-requires-clause-knows : goal.put_pool-requires-clause-knows
put_pool-requires-clause-knows c =
    let rest = c.pop.new.self.items in let v = c.loop-slot.seat.view in
    let f = pools_fewer rest c.loop-slot.slots.items c.in-Some.slot v c.in-Some.ensures.items c.loop-slot.invariant.3 in
    subst (λ (n : ℕ). KnowsPool n c.in-Some.slot v) (sym c.len.ensures.value) f.1

pub loop-slot-preserved : goal.loop-slot-preserved
loop-slot-preserved c =
    let i = c.loop-slot.invariant in let rest = c.pop.new.self.items in let v = c.loop-slot.seat.view in let new = c.put_pool.new.seat in
    let f = pools_fewer rest c.loop-slot.slots.items c.in-Some.slot v c.in-Some.ensures.items i.3 in
    let more = ap (λ (xs : List (Option PoolSeen)). length xs) c.in-Some.ensures.items ∙ length_push rest c.in-Some.slot in
    let count = c.len.ensures.value in (
      keeps_on c.args.seat.now c.loop-slot.seat new i.0 c.put_pool.ensures.keeps,
      subst (λ (n : ℕ). HoldsBelow n new.view) count c.put_pool.ensures.below,
      (let few = i.2 in omega (arith, few, more)),
      pools_still c.len.result rest v new.view (omega (arith, count)) c.put_pool.ensures.still f.0,
    )

pub returns-clause-nothing : goal.returns-clause-nothing
returns-clause-nothing c =
    let count = length c.loop-slot.slots.items in
    let none : count ≡ 0 = dite (dec_lt 0 count) (λ some. absurd (true≢false (sym (c.in_default.ensures.variant.1 some)))) (λ none. omega (arith, none)) in
    held_none count c.loop-slot.seat.view none c.loop-slot.invariant.1
