-- What the scribe has read, step by step.
use mathlib.Core.List.{IsPrefix}
use Rattle.std.proofs.Common.{◌≡◌, ◌∙◌, ⊎_elim, ◌++◌, ◌+◌, ◌<◌, ◌≤◌, ◌^◌, ℕ, zero, suc, cond, List, [], ◌∷◌, length, take, refl, sym, ap, subst, arith, append-nil, append_assoc, true, false}
use Rattle.std.specs.Prelude.{Some, slice_get}
use Rattle.std.proofs.lemmas.Bool.{cases_lt}
use Rattle.std.proofs.lemmas.List.{length-take-le, take_all}
use Rattle.std.proofs.lemmas.Option.{slice_get_within}
use Rattle.sched_model.specs.declared.event.Entry.{Entry}
use Rattle.sched_report.specs.Stays.{last_moment}
use Rattle.status_board.specs.Boards.{Desk}
use Rattle.lock_moves.specs.Sets.{LockTable}
use Rattle.lock_moves.proofs.Prefix.{prefix_length, prefix_refl}
use Rattle.pcpu_watch.specs.declared.ahead.Ahead.{Ahead}
use Rattle.pcpu_watch.specs.declared.scribe.Scribe.{Scribe}
use Rattle.pcpu_watch.specs.Moments.{ends, has_next_moment, moment_of}
use Rattle.pcpu_watch.specs.Scribes.{CanWrite, IsAhead, IsScribe, KeepsReading, ReadsBefore, ReadsOn, SeesOn, front_of, has_read}
use Rattle.pcpu_watch.proofs.Counting.{ends-more, last-at, moment-same, one-more, part-same}

module _ {A : Type 0} where
  -- what stands at a place still stands there where the list goes on
  get-append : (xs zs : List A) (k : ℕ) (x : A) → slice_get xs k ≡ Some x → slice_get (xs ++ zs) k ≡ Some x
  get-append [] zs k x at = absurd (omega (arith, slice_get_within [] k x at))
  get-append (y ∷ xs) zs zero x at = at
  get-append (y ∷ xs) zs (suc k) x at = get-append xs zs k x at

-- what was read ahead still stands in a history that goes on
pub ahead-still : (h more : List Entry) (a : Ahead) → IsPrefix h more → IsAhead h a → IsAhead more a
ahead-still h more a p is i e at = subst (λ (l : List Entry). slice_get l (a.first + i) ≡ Some e) p.1 (get-append h p.0 (a.first + i) e (is i e at))

abbrev seen_by : Scribe → List Entry
seen_by s = front_of s.seat

-- the length of what was read
pub read-length : (hall : LockTable) (s : Scribe) → IsScribe hall s → length (has_read s) ≡ s.read
read-length hall s is = length-take-le s.read (seen_by s) is.inside

module _ (hall : LockTable) (s t : Scribe) (on : SeesOn hall s.seat t.seat) (is : IsScribe hall s) where
  part : take s.read (seen_by t) ≡ has_read s
  part = part-same (seen_by s) (seen_by t) s.read on.begins is.inside

  -- nothing more was read
  module _ (read : t.read ≡ s.read) (ended : t.ended ≡ s.ended) (writer : t.writer ≡ s.writer) (latest : t.latest.0 ≡ s.latest.0) (ahead : IsAhead (seen_by t) t.ahead) where
    same : has_read t ≡ has_read s
    same = ap (λ (n : ℕ). take n (seen_by t)) read ∙ part

    keeps : IsScribe hall t
    keeps = record {
      of = on.of;
      inside = (let more = prefix_length (seen_by s) (seen_by t) on.begins in let inside = is.inside in omega (arith, more, inside, read));
      few = (let few = is.few in omega (arith, few, read));
      given = ap (λ (w : Desk). w.published ++ w.pending) writer ∙ is.given ∙ sym same;
      ended = ended ∙ is.ended ∙ ap ends (sym same);
      latest = latest ∙ is.latest ∙ ap last_moment (sym same);
      ahead = ahead;
    }

    pub keeps-reading : KeepsReading hall s t
    keeps-reading = record {
      on = record { is = keeps; begins = ([], append-nil (has_read s) ∙ sym same); shares = on.shares; cores = ap (λ (w : Desk). w.cores) writer };
      same = same;
      read = read;
      ended = ended;
      writer = writer;
    }

  -- one entry more was read and given to the writer
  module _ (e : Entry) (at : slice_get (seen_by t) s.read ≡ Some e) (few : s.read < 2 ^ 32) (read : t.read ≡ s.read + 1) (ended : t.ended ≡ s.ended + cond (has_next_moment e.event) 1 0)
      (writer : t.writer ≡ record s.writer { pending = s.writer.pending ++ e ∷ [] }) (latest : t.latest.0 ≡ e.at.0) (ahead : IsAhead (seen_by t) t.ahead) where
    next : t.read ≡ suc s.read
    next = omega (arith, read)

    more : has_read t ≡ has_read s ++ e ∷ []
    more = ap (λ (n : ℕ). take n (seen_by t)) next ∙ one-more (seen_by t) s.read e at ∙ ap (λ (h : List Entry). h ++ e ∷ []) part

    reads : IsScribe hall t
    reads = record {
      of = on.of;
      inside = omega (arith, read, slice_get_within (seen_by t) s.read e at);
      few = omega (arith, read, few);
      given = ap (λ (w : Desk). w.published ++ w.pending) writer ∙ sym (append_assoc s.writer.published s.writer.pending (e ∷ [])) ∙ ap (λ (h : List Entry). h ++ e ∷ []) is.given ∙ sym more;
      ended = ended ∙ ap (λ (n : ℕ). n + cond (has_next_moment e.event) 1 0) is.ended ∙ sym (ap ends more ∙ ends-more (has_read s) e);
      latest = latest ∙ last-at (seen_by t) s.read e at ∙ sym (ap (λ (n : ℕ). last_moment (take n (seen_by t))) next);
      ahead = ahead;
    }

    goes-on : IsPrefix (has_read s) (has_read t)
    goes-on = (e ∷ [], sym more)

    pub reads-on : ReadsOn hall s t
    reads-on = record { is = reads; begins = goes-on; shares = on.shares; cores = ap (λ (w : Desk). w.cores) writer }

    pub can-go-on : (k : ℕ) → CanWrite hall k s → s.ended < k → CanWrite hall k t
    can-go-on k can due = record { is = reads; before = before; ended = at-most (has_next_moment e.event) ended }
      where
        at-most : (b : _) → t.ended ≡ s.ended + cond b 1 0 → t.ended ≤ k
        at-most true is = omega (arith, is, due)
        at-most false is = omega (arith, is, due)

        len : length (has_read s) ≡ s.read
        len = read-length hall s is

        before : ReadsBefore k t
        before place low = ⊎_elim
            (λ (old : place < s.read). let same = moment-same (has_read s) (has_read t) place goes-on (omega (arith, old, len)) in let was = can.before place old in omega (arith, same, was))
            (λ (last : s.read ≤ place).
            let here : place ≡ length (has_read s) = omega (arith, last, low, read, len) in
            let same = moment-same (has_read s) (has_read t) place goes-on (omega (arith, here)) in
            let all : moment_of (has_read s) place ≡ s.ended = ap ends (take_all place (has_read s) (omega (arith, here))) ∙ sym is.ended in
            omega (arith, same, all, due))
            (cases_lt place s.read)

-- a seat that has seen as much
pub sees-same : (hall : LockTable) (s : Scribe) → IsScribe hall s → SeesOn hall s.seat s.seat
sees-same hall s is = record { of = is.of; begins = prefix_refl (seen_by s); shares = refl }
