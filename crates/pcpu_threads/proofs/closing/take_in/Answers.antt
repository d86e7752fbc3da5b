use Rattle.std.proofs.Common.{◌∙◌, List, ap, refl, sym, arith}
use Rattle.std.specs.Prelude.{Some}
use Rattle.std.proofs.lemmas.List.Elements.{All-pop}
use Rattle.hall.specs.Seats.{IsOf, Seated}
use Rattle.pcpu_threads.specs.Workers.{all_taken_in, shares_of}
use Rattle.pcpu_threads.proofs.Counting.{shares-push, taken-last}
use Rattle.pcpu_threads.proofs.closing.take_in.Goals as goal

pub loop-worker-init : goal.loop-worker-init
loop-worker-init c = record { of = c.requires.of; others = c.requires.workers; shares = refl; room = refl; joined = refl }

pub join-requires-clause-other : goal.join-requires-clause-other
join-requires-clause-other c = (All-pop (IsOf c.args.hall.now) c.loop-worker.workers.items c.pop.new.self.items (Some c.in-Some.worker) c.in-Some.ensures.items c.loop-worker.invariant.others).1

pub loop-worker-preserved : goal.loop-worker-preserved
loop-worker-preserved c =
    let i = c.loop-worker.invariant in
    let rest = c.pop.new.self.items in
    let joined = c.join.ensures in
    let is = c.in-Some.ensures.items in
    record {
      of = record { table = ap (λ (s : Seated). s.sitting.table) joined ∙ i.of.table; input = ap (λ (s : Seated). s.sitting.view.input) joined ∙ i.of.input; limit = ap (λ (s : Seated). s.sitting.view.limit) joined ∙ i.of.limit };
      others = (All-pop (IsOf c.args.hall.now) c.loop-worker.workers.items rest (Some c.in-Some.worker) is i.others).0;
      shares = (
          let a = ap (λ (s : Seated). s.sitting.view.shares) joined in
          let b = ap shares_of is ∙ shares-push rest c.in-Some.worker in
          let d = i.shares in
          omega (arith, a, b, d)
          );
      room = c.pop.ensures.capacity ∙ i.room;
      joined = ap (all_taken_in rest) joined ∙ sym (taken-last rest c.in-Some.worker c.loop-worker.seat) ∙ sym (ap (λ (seats : List Seated). all_taken_in seats c.loop-worker.seat) is) ∙ i.joined;
    }
