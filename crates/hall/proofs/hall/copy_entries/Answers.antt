use Rattle.std.proofs.Common.{◌≡◌, ◌∙◌, ◌+◌, ◌++◌, [], ◌∷◌, ℕ, suc, List, drop, length, take, sym, ap, arith}
use Rattle.std.specs.Prelude.{Some, slice_get}
use Rattle.std.proofs.lemmas.List.{length_push}
use Rattle.sched_model.specs.declared.event.Entry.{Entry}
use Rattle.hall.proofs.Reading.{copied-next}
use Rattle.hall.proofs.hall.copy_entries.Goals as goal

pub loop-place-preserved : goal.loop-place-preserved
loop-place-preserved c =
    let from : ℕ = c.args.from in
    let h : List Entry = c.args.book.now.history in
    let old : List Entry = c.loop-place.into.items in
    let new : List Entry = c.push_reserved.new.self.items in
    let e : Entry = c.get.result in
    let i = c.loop-place.invariant in
    let items : new ≡ old ++ e ∷ [] = c.push_reserved.ensures.items in
    let len : length new ≡ suc (length old) = ap length items ∙ length_push old e ∙ omega arith in
    let count = i.count in
    let at : slice_get h (from + length old) ≡ Some e = ap (λ (n : ℕ). slice_get h n) (sym count) ∙ c.get.ensures in
    record {
      count = omega (arith, count, len);
      items = items ∙ ap (λ (l : List Entry). l ++ e ∷ []) i.items ∙ sym (copied-next h from (length old) e at) ∙ ap (λ (n : ℕ). take n (drop from h)) (sym len);
      room = c.push_reserved.ensures.capacity ∙ i.room;
    }
