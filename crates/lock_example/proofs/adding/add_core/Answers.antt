use Rattle.std.proofs.Common.{◌≡◌, ◌+◌, ℕ, [], ◌∷◌, length, length-append, sym, ap, ◌∙◌, subst, arith}
use Rattle.lock_moves.specs.SeatSight.{Sitting, KnowsBelow}
use Rattle.lock_moves.specs.Sets.{Taken}
use Rattle.lock_example.specs.declared.counter.Counter.{Counter}
use Rattle.lock_example.specs.Example.{adding_machine, two_entries}
use Rattle.lock_example.specs.Holders.{AreFrom}
use Rattle.lock_moves.proofs.Finding.{none_held}
use Rattle.lock_example.proofs.Holding.{from_front}
use Rattle.lock_example.proofs.adding.add_core.Goals as goal

pub add_second-requires-clause-tool : goal.add_second-requires-clause-tool
add_second-requires-clause-tool g c =
    let f = from_front 1 c.pop.new.self.items c.in-Some.tool (subst (AreFrom 1) c.in-Some.ensures.items c.take_rest.ensures.order) in
    let len = ap length c.in-Some.ensures.items ∙ length-append c.pop.new.self.items (c.in-Some.tool ∷ []) in
    let all = c.take_rest.ensures.all in omega (arith, f.1, len, all)

pub put_last-requires-clause-number : goal.put_last-requires-clause-number
put_last-requires-clause-number g c =
    let f = from_front 1 c.pop.new.self.items c.in-Some.tool (subst (AreFrom 1) c.in-Some.ensures.items c.take_rest.ensures.order) in
    let len = ap length c.in-Some.ensures.items ∙ length-append c.pop.new.self.items (c.in-Some.tool ∷ []) in
    let all = c.take_rest.ensures.all in
    let same = ap (λ (x : Taken Counter). x.lock) c.add_second.ensures.tool in omega (arith, f.1, len, all, same)

pub put_last-requires-clause-below : goal.put_last-requires-clause-below
put_last-requires-clause-below g c =
    let f = from_front 1 c.pop.new.self.items c.in-Some.tool (subst (AreFrom 1) c.in-Some.ensures.items c.take_rest.ensures.order) in
    let len = ap length c.in-Some.ensures.items ∙ length-append c.pop.new.self.items (c.in-Some.tool ∷ []) in
    let all = c.take_rest.ensures.all in
    let same = ap (λ (x : Taken Counter). x.lock) c.add_second.ensures.tool in
    let e : 17 ≡ c.add_second.new.tool.lock + 1 = omega (arith, f.1, len, all, same) in
    subst (λ (s : Sitting). KnowsBelow adding_machine (c.add_second.new.tool.lock + 1) two_entries s.view) (sym c.new_home-home.ensures.same)
    (subst (λ (n : ℕ). KnowsBelow adding_machine n two_entries c.add_second.new.seat.view) e c.in_default-add_second.ensures.below)

pub put_rest-requires-clause-order : goal.put_rest-requires-clause-order
put_rest-requires-clause-order g c = (from_front 1 c.pop.new.self.items c.in-Some.tool (subst (AreFrom 1) c.in-Some.ensures.items c.take_rest.ensures.order)).0

pub put_rest-requires-clause-below : goal.put_rest-requires-clause-below
put_rest-requires-clause-below g c =
    let f = from_front 1 c.pop.new.self.items c.in-Some.tool (subst (AreFrom 1) c.in-Some.ensures.items c.take_rest.ensures.order) in
    let same = ap (λ (x : Taken Counter). x.lock) c.add_second.ensures.tool in
    subst (λ (n : ℕ). KnowsBelow adding_machine n two_entries c.put_last.new.seat.view) (same ∙ f.1) c.put_last.ensures.below

pub returns-clause-nothing : goal.returns-clause-nothing
returns-clause-nothing g c =
    let same = ap (λ (x : Taken Counter). x.lock) c.add_second.ensures.pool in
    let first = c.take_next-pool.ensures.lock in
    none_held c.put_last-2.new.seat.view.held (λ k. c.put_last-2.ensures.below.others k (omega (arith, same, first)))
