-- What a seat knows once the book went back, or was kept with an entry more.
use Rattle.std.proofs.Common.{◌≡◌, ◌<◌, ◌++◌, ◌∷◌, [], ℕ, cond, length, List, Option, Some, None, refl, sym, ap, ◌∙◌, subst, ne_eqb, arith}
use Rattle.std.proofs.lemmas.List.{length_push}
use mathlib.Core.Logic.{dite}
use native.Mathlib.Decide.{ℕ_discrete}
use Rattle.sched_model.specs.declared.event.Entry.{Entry}
use Rattle.journal_core.specs.Histories.{part_at}
use Rattle.lock_moves.specs.Plays.{Current}
use Rattle.journal_core.specs.Books.{Chronicle}
use Rattle.lock_moves.specs.SeatSight.{Known, Seen, Sitting, book_known, committed_on, committed_view, find_lock, known_part, locks_without, places_after}
use Rattle.lock_moves.specs.Sets.{LockTable, sitting_with}
use Rattle.lock_moves.proofs.Finding.{find-head, find-tail, find-refreshed-is, find-refreshed-none, find-without-other, find-without-same}
use Rattle.lock_moves.proofs.Prefix.{prefix_refl}
use Rattle.hall.specs.Steps.{GoesOnWith, HasBook, HasTakenBook, KeepsLocks, KnowsAfter, deciding_view}

module _ (h : List Entry) (v : Seen) where
  committed-some : (k : ℕ) (x : Known) → k < 17 → find_lock k v.held ≡ Some x → find_lock k (committed_view h v).held ≡ Some (known_part (part_at v.input h k) x.names)
  committed-some k x low found = find-refreshed-is v.input h k (locks_without 17 v.held) x (find-without-other 17 k v.held (λ e. absurd (omega (arith, e, low))) ∙ found)

  committed-none : (k : ℕ) → find_lock k v.held ≡ None → find_lock k (committed_view h v).held ≡ None
  committed-none k none = find-refreshed-none v.input h k (locks_without 17 v.held) (dite (ℕ_discrete k 17)
      (λ e. subst (λ (j : ℕ). find_lock j (locks_without 17 v.held) ≡ None) (sym e) (find-without-same 17 v.held))
      (λ ne. find-without-other 17 k v.held ne ∙ none))

  committed-book : find_lock 17 (committed_view h v).held ≡ None
  committed-book = find-refreshed-none v.input h 17 (locks_without 17 v.held) (find-without-same 17 v.held)

  -- the parts are those of the history
  pub knows-committed : KnowsAfter h v (committed_view h v)
  knows-committed = record { some = committed-some; none = committed-none; book = committed-book; now = refl }

  -- nothing is new where the book went back as it was
  pub keeps-committed : Current v → v.front ≡ h → KeepsLocks v (committed_view h v)
  keeps-committed current front = record {
    locks = λ k low. same k low (find_lock k v.held) refl;
    others = λ k high none. committed-none k none;
    book = committed-book;
    moment = refl;
  }
    where
      same : (k : ℕ) → k < 17 → (o : Option Known) → find_lock k v.held ≡ o → find_lock k (committed_view h v).held ≡ find_lock k v.held
      same k low None is = committed-none k is ∙ sym is
      same k low (Some x) is = committed-some k x low is
          ∙ ap (λ p. Some (known_part p x.names)) (ap (λ (l : List Entry). part_at v.input l k) (sym front) ∙ sym (current.0 k x low is).0)
          ∙ sym is

-- the book stays with the seat, and one entry more is in it
module _ (set : LockTable) (old_book book : Chronicle) (e : Entry) (old s new : Sitting) (has : HasBook set old_book old) (decides : s ≡ sitting_with old (deciding_view e.event old.view))
    (input : book.input ≡ old_book.input) (limit : book.limit ≡ old_book.limit) (history : book.history ≡ old_book.history ++ e ∷ []) (on : new ≡ sitting_with s (committed_on book.history s.view)) (current : Current new.view) where
  abbrev named : Sitting
  named = sitting_with old (deciding_view e.event old.view)

  abbrev between : Sitting
  between = sitting_with named (committed_view book.history named.view)

  is : new ≡ sitting_with named (committed_on book.history named.view)
  is = on ∙ ap (λ (x : Sitting). sitting_with x (committed_on book.history x.view)) decides

  places : places_after named.view book.history ≡ old.view.own ++ length old_book.history ∷ []
  places =
      let more = ap length history ∙ length_push old_book.history e in
      let front = ap length has.front in
      ap (λ b. cond b old.view.own (old.view.own ++ length old.view.front ∷ [])) (ne_eqb (length book.history) (length old.view.front) (λ same. omega (arith, more, front, same)))
      ∙ ap (λ (n : ℕ). old.view.own ++ n ∷ []) front

  knows : KnowsAfter book.history named.view between.view
  knows = knows-committed book.history named.view

  pub goes-on-with : (mid : Sitting) × GoesOnWith set old_book book e old mid new
  goes-on-with = (
    between,
    record {
      entered = record { table = refl; input = refl; limit = refl; shares = refl; takes = refl; front = history; own = places };
      knows = subst (λ (h : List Entry). KnowsAfter h old.view between.view) history (record { some = knows.some; none = knows.none; book = knows.book; now = knows.now });
      took = subst (HasTakenBook set book between) (sym is) (record {
        has = record { table = has.table; holds = (book_known, find-head 17 book_known between.view.held); input = input ∙ has.input; limit = limit ∙ has.limit; front = refl; nobody = refl };
        current = subst (λ (x : Sitting). Current x.view) is current;
        sees = record { table = refl; input = refl; limit = refl; shares = refl; own = refl; front = refl; begins = prefix_refl book.history; takes = omega arith; alone = λ _. refl };
        locks = λ k ne. find-tail k 17 book_known between.view.held ne;
        now = refl;
      });
      history = history;
    },
  )
