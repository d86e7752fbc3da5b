use Rattle.std.proofs.Common.{◌∙◌, ◌∷◌, [], ◌≤◌, ℕ, length, length-append, ap, sym, subst, arith}
use Rattle.std.specs.List.{All}
use Rattle.std.proofs.lemmas.List.Elements.{All-push}
use Rattle.hall.specs.Seats.{Seated, shares_in}
use Rattle.pcpu_threads.specs.Crews.{IsHand}
use Rattle.pcpu_threads.proofs.crew.split_rows.Goals as goal

pub loop-preserved : goal.loop-preserved
loop-preserved c =
    let i = c.loop.invariant in
    let hall = c.args.hall.now in
    let seats = c.loop.seats.items in
    let kept = c.split.ensures.kept in
    let items = c.push_reserved.ensures.items in
    let len = ap length items ∙ length-append seats (c.split.result ∷ []) in
    let lost = ap shares_in kept in
    let one = ap (λ v. v.shares) c.split.ensures.new in
    let count = i.count in
    let left = i.left in
    let few = c.requires.few in
    let test = c.loop-test.true in
    record {
      of = record {
        table = ap (λ (s : Seated). s.sitting.table) kept ∙ i.of.table;
        input = ap (λ (s : Seated). s.sitting.view.input) kept ∙ i.of.input;
        limit = ap (λ (s : Seated). s.sitting.view.limit) kept ∙ i.of.limit;
      };
      left = omega (arith, lost, left, test, few);
      hands = subst (All (IsHand hall)) (sym items) (All-push (IsHand hall) seats c.split.result i.hands (record { of = c.split.ensures.of; one = one }));
      count = omega (arith, len, count);
      room = subst (λ (n : ℕ). c.args.count ≤ n) (sym c.push_reserved.ensures.capacity) i.room;
    }
