-- What a listener hears: one reading behind another, and the end of a run that was heard.
use mathlib.Core.List.{IsPrefix}
use Rattle.std.proofs.Common.{◌≡◌, ◌∙◌, ◌+◌, ◌≤◌, ◌++◌, [], ℕ, List, length, take, drop, sym, ap, subst, arith}
use Rattle.std.proofs.Math.Seq.{take-add, take-append_seam}
use Rattle.std.proofs.lemmas.List.{length-append, length-take, length-take-le, take-append-drop, take-append-le}
use Rattle.std.specs.Prelude.{vec_capacity}
use Rattle.lock_moves.proofs.Prefix.{prefix_length}
use Rattle.lock_moves.specs.Sets.{LockTable}
use Rattle.sched_model.specs.declared.event.Entry.{Entry}
use Rattle.hall.specs.Seats.{IsOf, Seated, Stays, shares_in}
use Rattle.pcpu_threads.proofs.Counting.{of-stays}
use Rattle.pcpu_threads.specs.declared.heard.Scribe.{Scribe}
use Rattle.pcpu_threads.specs.Hearing.{HearsOn, IsScribe, IsTold, front_of}

-- as many of a list as a beginning of it has
take-same : (n : ℕ) (xs : List Entry) → take (length (take n xs)) xs ≡ take n xs
take-same n xs = ap (take (length (take n xs))) (sym (take-append-drop n xs)) ∙ take-append_seam (take n xs) (drop n xs)

-- what a seat has seen of so many entries, a seat that has seen more has too
take-begins : (n : ℕ) (xs ys : List Entry) → IsPrefix xs ys → n ≤ length xs → take n ys ≡ take n xs
take-begins n xs ys begins low = ap (take n) (sym begins.1) ∙ take-append-le n xs begins.0 low

module _ {L K : Type 0} (heard : L → K → List Entry → L → K → Type 0) (hall : LockTable) where
  -- the scribe has read what stands behind so many entries, and the listener was told it
  module _ (from : ℕ) (a b c : Scribe) (items : List Entry) (la lb : L) (oa ob : K) (is : IsScribe hall a) (stays : Stays a.seat b.seat) (begins : IsPrefix (front_of a.seat) (front_of b.seat)) (low : from ≤ length (front_of a.seat))
      (found : items ≡ take 2048 (drop from (front_of b.seat))) (seat : c.seat ≡ b.seat) where
    abbrev front : List Entry
    front = front_of b.seat

    abbrev rest : List Entry
    rest = drop from front

    count : length items ≡ length (take 2048 rest)
    count = ap length found

    within : from ≤ length front
    within = (let more = prefix_length (front_of a.seat) front begins in omega (arith, more, low))

    read : take (from + length items) front ≡ take from (front_of a.seat) ++ items
    read = take-add from (length items) front
        ∙ ap (λ (x : List Entry). x ++ take (length items) rest) (take-begins from (front_of a.seat) front begins low)
        ∙ ap (λ (x : List Entry). take from (front_of a.seat) ++ x) (ap (λ (n : ℕ). take n rest) count ∙ take-same 2048 rest ∙ sym found)

    inside-read : from + length items ≤ length front
    inside-read =
        let all : length (take from front) + length rest ≡ length front = sym (length-append (take from front) rest) ∙ ap length (take-append-drop from front) in
        let first = length-take-le from front within in
        let most = length-take 2048 rest in
        omega (arith, all, first, most, count)

    pub reads-on : c.ahead.items ≡ [] → vec_capacity c.ahead ≡ 2048 → IsTold heard items la oa lb ob → HearsOn heard hall from (from + length items) a la oa c lb ob
    reads-on nothing room told = record {
      scribe_is = record { of = subst (IsOf hall) (sym seat) (of-stays hall a.seat b.seat is.of stays); nothing = nothing; room = room };
      shares = ap shares_in seat ∙ stays.shares;
      begins = subst (λ (s : Seated). IsPrefix (front_of a.seat) (front_of s)) (sym seat) begins;
      more = omega arith;
      inside = subst (λ (s : Seated). from + length items ≤ length (front_of s)) (sym seat) inside-read;
      told = λ first out was. subst (λ (x : List Entry). heard first out x lb ob) (sym read ∙ ap (λ (s : Seated). take (from + length items) (front_of s)) (sym seat)) (told first out (take from (front_of a.seat)) was);
    }
