use Rattle.std.proofs.Common.{◌∙◌, ◌∷◌, [], ◌≤◌, ℕ, length, length-append, ap, sym, subst, arith}
use Rattle.std.specs.List.{All}
use Rattle.std.proofs.lemmas.List.Elements.{All-push}
use Rattle.lock_moves.specs.SeatSight.{newcomer}
use Rattle.hall.specs.Seats.{IsOf, Seated}
use Rattle.pcpu_threads.specs.Workers.{IsNew, lessened_by, shares_of}
use Rattle.pcpu_threads.proofs.Counting.{less-more, shares-push}
use Rattle.pcpu_threads.proofs.workers.split_workers.Goals as goal

pub split-requires-clause-two : goal.split-requires-clause-two
split-requires-clause-two c = let i = c.loop.invariant.left in let t = c.loop-test.true in let few = c.requires.few in omega (arith, i, t, few.1)

pub loop-preserved : goal.loop-preserved
loop-preserved c =
    let i = c.loop.invariant in
    let from = c.args.seat.now in
    let workers = c.loop.workers.items in
    let kept = c.split.ensures.kept in
    let items = c.push_reserved.ensures.items in
    let len = ap length items ∙ length-append workers (c.split.result ∷ []) in
    let lost = ap (λ (s : Seated). s.sitting.view.shares) kept in
    let one = ap (λ v. v.shares) c.split.ensures.new in
    let count = i.count in
    let left = i.left in
    let shares = i.shares in
    record {
      of = record {
        table = ap (λ (s : Seated). s.sitting.table) kept ∙ i.of.table;
        input = ap (λ (s : Seated). s.sitting.view.input) kept ∙ i.of.input;
        limit = ap (λ (s : Seated). s.sitting.view.limit) kept ∙ i.of.limit;
      };
      others = subst (All (IsOf c.args.hall.now)) (sym items) (All-push (IsOf c.args.hall.now) workers c.split.result i.others c.split.ensures.of);
      count = (let l = len in omega (arith, l, count));
      shares = (let a = ap shares_of items ∙ shares-push workers c.split.result in let t = c.loop-test.true in let few = c.requires.few in omega (arith, a, lost, one, shares, left, t, few.1));
      left = (let t = c.loop-test.true in let few = c.requires.few in omega (arith, lost, left, t, few.1));
      seat = kept ∙ ap (lessened_by 1) i.seat ∙ less-more from c.loop.counter;
      new = subst (All (IsNew from)) (sym items)
          (All-push (IsNew from) workers c.split.result i.new (record { view = c.split.ensures.new ∙ ap (λ (s : Seated). newcomer s.sitting.view) i.seat; arrived = c.split.ensures.arrived }));
      room = subst (λ (n : ℕ). c.args.processors ≤ n) (sym c.push_reserved.ensures.capacity) i.room;
    }
