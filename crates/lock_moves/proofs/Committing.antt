-- The book is put back, with one entry more or none, or stays with the seat.
use Rattle.std.proofs.Common.{◌≡◌, ℕ, ◌+◌, ◌<◌, ◌≢◌, inl, inr, true, cond, eqb, List, [], ◌∷◌, ◌++◌, length, get_or, set, Option, Some, None, sym, refl, ap, ◌∙◌, subst, ⊎_elim, eq-eqb, ne_eqb, eqb-true, arith, lt_irrefl, length-set, get_or-set_same, get_or-set_other, set-set}
use mathlib.Core.Logic.{dite}
use mathlib.Core.Option.{some, none, some-injective}
use mathlib.Core.Option as maybe
use native.Mathlib.Decide.{ℕ_discrete, dec_lt}
use mathlib.Core.List.{IsPrefix}
use lib.ListN.{get_elem?}
use prog.Atomic.{either}
use Rattle.atomic_table.specs.Table.{State, Me, step, gives, keeps, Allows}
use Rattle.atomic_table.proofs.Lists.{set_here, set_else, set_again}
use Rattle.std.specs.declared.snapshot.Snapshot.{Snapshot}
use Rattle.journal_core.specs.Books.{Chronicle}
use Rattle.journal_core.specs.Parts.{StatePart}
use Rattle.journal_core.specs.Parts.{lists}
use Rattle.journal_core.specs.Histories.{part_at, home_at, now_at, decides_at, IsSound, NamesStandOnce}
use Rattle.journal_core.proofs.Homes.{home-stays}
use Rattle.sched_model.specs.declared.event.Entry.{Entry}
use Rattle.sched_model.specs.Runs.{IsRun}
use Rattle.sched_model.specs.declared.machine.Machine.{Machine}
use Rattle.lock_moves.specs.declared.content.Content.{Content}
use Rattle.lock_moves.specs.declared.content.Content.TheVariants.{Out, Value, Ledger, Told}
use Rattle.lock_moves.specs.SeatSight.{Known, Seen, View, AllBelow, at_rest, book_known, known_part, find_lock, locks_without, refreshed_locks, Holds, has_place, Rising, took_book, view_committed, view_committed_on, view_took_book, with_out, raise}
use Rattle.lock_moves.specs.Agreement.{Fronts, Fits, Has, Agrees}
use Rattle.lock_moves.specs.Plays.{Current, Next, Kept, Placed, Decided, committed, went_on}
use Rattle.lock_moves.proofs.Finding.{content_or, ledger_or, told_same, find-head, lists-part, find-tail, find-without-same, find-without-other, find-refreshed, never, none_or, set_there, set_all, set_some}
use Rattle.lock_moves.proofs.Moving.{beside_none, suited_step, Begins, fronts_same, shares_same}
use Rattle.lock_moves.proofs.Places.{place_there, place_last, place_either, place_one, rising-snoc}
use Rattle.lock_moves.proofs.Prefix.{prefix_refl, prefix_more, prefix_length}
use Rattle.std.proofs.lemmas.List.{length_push, set-get_or}
use Rattle.lock_moves.proofs.Taking.{owned_by, owned_here, owned_else, shifts, still}
use Rattle.lock_moves.proofs.Writing.{current_book, picks_up}

-- the seat id adds the entry e
fronts_extended : (m : Machine) (limit base : ℕ) (views : List View) (h : List Entry) (keeper : ℕ → ℕ) (latest id : ℕ) (v w : View) (e : Entry) → Fronts m limit base views h keeper latest → get_elem? views id ≡ some v
    → v.seen.front ≡ h → w.seen.input ≡ v.seen.input → w.seen.limit ≡ v.seen.limit → w.seen.front ≡ h ++ e ∷ [] → w.seen.own ≡ v.seen.own ++ length h ∷ [] → 0 < v.seen.shares → 0 < w.seen.shares
    → Fronts m limit base (set views id w) (h ++ e ∷ []) (owned_by keeper (length h) id) id
fronts_extended m limit base views h keeper latest id v w e f at whole input limited front own old_left some_left = let n : ℕ = length h in let more = length_push h e in record {
  same = set_all (λ _ u. 0 < u.seen.shares → u.seen.input ≡ m) views id w (λ _. input ∙ f.same id v at old_left) (λ j u _ e. f.same j u e);
  limits = set_all (λ _ u. 0 < u.seen.shares → u.seen.limit ≡ limit) views id w (λ _. limited ∙ f.limits id v at old_left) (λ j u _ e. f.limits j u e);
  begins = set_all (λ _ u. Begins (h ++ e ∷ []) u) views id w (subst (λ z. IsPrefix z (h ++ e ∷ [])) (sym front) (prefix_refl (h ++ e ∷ []))) (λ j u _ q. prefix_more u.seen.front h e (f.begins j u q));
  own = λ j u p q. set_all (λ j u. (p : ℕ) → has_place p u.seen.own ≡ true → (owned_by keeper n id p ≡ j) × (p < length u.seen.front)) views id w
      (λ p is. dite (ℕ_discrete p n)
      (λ last. (ap (owned_by keeper n id) last ∙ owned_here keeper n id, omega (arith, last, more, ap length front)))
      (λ ne. let t = f.own id v p at (⊎_elim (λ l. l) (λ l. absurd (ne (place_one p n l))) (place_either p v.seen.own (n ∷ []) (ap (has_place p) (sym own) ∙ is))) in
      (owned_else keeper n id p ne ∙ t.0, omega (arith, t.1, more, ap length front, ap length whole))))
      (λ j u _ q p is. let t = f.own j u p q is in let len = prefix_length u.seen.front h (f.begins j u q) in (owned_else keeper n id p (λ last. absurd (omega (arith, t.1, len, last))) ∙ t.0, t.1))
      j u q p;
  rising = set_all (λ _ u. Rising u.seen.own) views id w (subst Rising (sym own) (rising-snoc v.seen.own n (λ p is. let t = f.own id v p at is in omega (arith, t.1, ap length whole)) (f.rising id v at))) (λ j u _ q. f.rising j u q);
  covers = λ p l g. dite (ℕ_discrete p n)
      (λ last. (w, ap (get_elem? (set views id w)) (ap (owned_by keeper n id) last ∙ owned_here keeper n id) ∙ set_there views id w v at, ap (has_place p) own ∙ subst (λ (z : ℕ). has_place p (v.seen.own ++ z ∷ []) ≡ true) last (place_last p v.seen.own)))
      (λ ne. let t = set_some (λ u. has_place p u.seen.own ≡ true) views id v w at (λ is. ap (has_place p) own ∙ place_there p v.seen.own (n ∷ []) is) (keeper p) (f.covers p l (omega (arith, g, more, ne))) in
      (t.0, ap (get_elem? (set views id w)) (owned_else keeper n id p ne) ∙ t.1, t.2));
  newest = (w, set_there views id w v at, front, some_left);
  spent = set_all (λ _ u. u.seen.shares ≡ 0 → (u.seen.own ≡ []) × (u.seen.held ≡ [])) views id w (λ none_left. absurd (lt_irrefl 0 (subst (λ (z : ℕ). 0 < z) none_left some_left))) (λ j u _ q. f.spent j u q);
}

recorded : (m : Machine) (limit base : ℕ) (views : List View) (h : List Entry) (keeper : ℕ → ℕ) (latest id : ℕ) (v : View) (h' : List Entry) → Fronts m limit base views h keeper latest → get_elem? views id ≡ some v
    → v.seen.front ≡ h → 0 < v.seen.shares → Next v.seen.front h' → (keeper' : ℕ → ℕ) × (latest' : ℕ) × Fronts m limit base (set views id (view_committed h' v)) h' keeper' latest'
recorded m limit base views h keeper latest id v h' f at whole left (inl none_new) = (
  keeper,
  latest,
  subst (λ z. Fronts m limit base (set views id (view_committed h' v)) z keeper latest) (sym whole' ∙ sym none_new)
      (fronts_same m limit base views h keeper latest id v (view_committed h' v) f at refl refl none_new (ap (λ b. cond b v.seen.own (v.seen.own ++ length v.seen.front ∷ [])) (eq-eqb (length h') (length v.seen.front) (ap length none_new))) left left),
)
  where
    whole' : v.seen.front ≡ h
    whole' = whole
recorded m limit base views h keeper latest id v h' f at whole left (inr new) = let more = length_push v.seen.front new.0 in let len = ap length new.1 in (
  owned_by keeper (length h) id,
  id,
  subst (λ z. Fronts m limit base (set views id (view_committed h' v)) z (owned_by keeper (length h) id) id) (sym is)
      (fronts_extended m limit base views h keeper latest id v (view_committed h' v) new.0 f at whole refl refl is
      (ap (λ b. cond b v.seen.own (v.seen.own ++ length v.seen.front ∷ [])) (ne_eqb (length h') (length v.seen.front) (λ e. absurd (omega (arith, e, more, len)))) ∙ ap (λ (z : List Entry). v.seen.own ++ length z ∷ []) whole) left left),
)
  where
    is : h' ≡ h ++ new.0 ∷ []
    is = new.1 ∙ ap (λ z. z ++ new.0 ∷ []) whole

find-refreshed-some : (m : Machine) (h : List Entry) (k : ℕ) (xs : List (ℕ × Known)) (x : Known) → find_lock k xs ≡ Some x → (y : Known) × (find_lock k (refreshed_locks m h xs) ≡ Some y)
find-refreshed-some m h k [] x e = absurd (never x e)
find-refreshed-some m h k (q ∷ xs) x e = dite (ℕ_discrete k q.0)
    (λ is. (known_part (part_at m h q.0) q.1.names, ap (λ b. cond b (Some (known_part (part_at m h q.0) q.1.names)) (find_lock k (refreshed_locks m h xs))) (eq-eqb k q.0 is)))
    (λ ne. let t = find-refreshed-some m h k xs x (sym (find-tail k q.0 q.1 xs ne) ∙ e) in (t.0, find-tail k q.0 (known_part (part_at m h q.0) q.1.names) (refreshed_locks m h xs) ne ∙ t.1))

option_case : (P : Option Known → Type 0) (o : Option Known) → P None → ((x : Known) → P (Some x)) → P o
option_case P None none_is some_is = none_is
option_case P (Some x) none_is some_is = some_is x

-- the book may have this history from now on: it is the front, with one entry more or none, and agrees with what the seat knows
pub record Follows (v : Seen) (b : Chronicle) : Type 0 where
  pub input : b.input ≡ v.input
  pub limit : b.limit ≡ v.limit
  pub next : Next v.front b.history
  pub kept : Kept v b.history
  pub placed : Placed v b.history
  pub decided : Decided v b.history
  pub sound : IsSound v.input b.history

pub follows : (u v : Seen) (b q : Chronicle) → u ≡ v → b ≡ q → b.input ≡ u.input → b.limit ≡ u.limit → Next u.front b.history → Kept u b.history → Placed u b.history → Decided u b.history → NamesStandOnce b.input b.history → IsRun q.input q.history → Follows v q
follows u v b q seen book input limited next kept placed decided names run =
    let sound : IsSound b.input b.history = record { run = subst (λ (x : Chronicle). IsRun x.input x.history) (sym book) run; names = names } in
    subst (λ (x : Seen × Chronicle). Follows x.0 x.1) (λ i. (seen i, book i))
    (record { input = input; limit = limited; next = next; kept = kept; placed = placed; decided = decided; sound = subst (λ (x : Machine). IsSound x b.history) input sound })

-- a word that is set to 0 where it is 0 stays
stays_zero : (n : ℕ) → either (eqb n 0) 0 n ≡ n
stays_zero n = dite (ℕ_discrete n 0) (λ is. ap (λ b. either b 0 n) (eq-eqb n 0 is) ∙ sym is) (λ ne. ap (λ b. either b 0 n) (ne_eqb n 0 ne))

module _ {V : Type 0} (part : V → StatePart) (suits : Machine → ℕ → V → Type 0) (m : Machine) (limit base : ℕ) where
  abbrev Mine : Type 0
  Mine = Me (Content V) View

  still_fits : (h h' : List Entry) (j : ℕ) (y : Content V) → j ≢ 17 → (j < 17 → part_at m h' j ≡ part_at m h j) → Fits part m limit h j y → Fits part m limit h' j y
  still_fits h h' j Out ne same fits = absurd fits
  still_fits h h' j (Value x) ne same fits = (fits.0, fits.1 ∙ sym (same fits.0))
  still_fits h h' j (Ledger b) ne same fits = absurd (ne fits.0)
  still_fits h h' j (Told b) ne same fits = absurd fits

  abbrev St : Type 0
  St = State (Content V) View

  -- the book goes home, and its lock is free
  puts_down : (s : St) (r : Agrees part suits m limit base s) (id : ℕ) (v : View) (b : Chronicle) (z : Known) → get_elem? s.views id ≡ some v → v.out ≡ 18 → find_lock 17 v.seen.held ≡ Some z → 0 < v.seen.shares → Follows v.seen b
      → Agrees part suits m limit base (record { words = set s.words 17 0; homes = set s.homes 17 (some (Ledger b)); views = set s.views id (view_committed b.history v) })
  puts_down s r id v b z at away found left on =
      let input = on.input in let limited = on.limit in let kept = on.kept in let placed = on.placed in let decided = on.decided in
      let h : List Entry = r.history in let h' : List Entry = b.history in let w : View = view_committed h' v in let wide = r.wide in
      let words' : List ℕ = set s.words 17 0 in let homes' = set s.homes 17 (some (Ledger b)) in
      let old = r.locks.held id v 17 z at found in let is_m : v.seen.input ≡ m = r.fronts.same id v at left in let whole : v.seen.front ≡ h = old.book refl in let sound : IsSound m h' = subst (λ (q : Machine). IsSound q h') is_m on.sound in
      let here : get_or words' 17 0 ≡ 0 = get_or-set_same s.words 17 0 0 (omega (arith, wide)) in
      let same : (j : ℕ) → j < 17 → ((x : Known) → find_lock j v.seen.held ≡ Some x → ⊥) → part_at m h' j ≡ part_at m h j =
      λ j low free. (λ i. part_at (sym is_m i) h' j) ∙ (kept j low (none_or (find_lock j v.seen.held) free) ∙ (λ i. part_at (is_m i) (whole i) j)) in
      let word : (n : ℕ) → n < 128 → get_or words' (18 + n) 0 ≡ get_or s.words (18 + n) 0 = λ n l. get_or-set_other s.words 17 (18 + n) 0 0 (λ e. absurd (omega (arith, e))) in
      let clock : get_or words' 146 0 ≡ get_or s.words 146 0 = get_or-set_other s.words 17 146 0 0 (λ e. absurd (omega (arith, e))) in
      let homes_now : (n : ℕ) → n < 128 → home_at m h' n ≡ get_or s.words (18 + n) 0 = λ n l. let j : ℕ = get_or s.words (18 + n) 0 in
      option_case (λ o. find_lock j v.seen.held ≡ o → home_at m h' n ≡ j) (find_lock j v.seen.held)
      (λ none_held. let there : eqb (home_at m h n) j ≡ true = sym (r.names.moving id v z j n at found none_held l) ∙ eq-eqb j j refl in let is : home_at m h n ≡ j = eqb-true (home_at m h n) j there in
      dite (dec_lt j 17)
      (λ low. eqb-true (home_at m h' n) j (sym (lists-part m h' j n low l sound.names) ∙ (ap (λ (p : StatePart). lists p n) (same j low (λ x q. never x (sym none_held ∙ q))) ∙ (lists-part m h j n low l r.sound.names ∙ there))))
      (λ high. home-stays m h h' n (omega (arith, is, high)) ∙ is))
      (λ x held. dite (dec_lt j 17)
      (λ low. eqb-true (home_at m h' n) j ((λ i. eqb (home_at (sym is_m i) h' n) j) ∙ (sym (placed.0 j x n low held l) ∙ (r.names.held id v j x n at held l ∙ eq-eqb j j refl))))
      (λ high. let below = (r.locks.held id v j x at held).below in absurd (r.names.apart n l (omega (arith, below, high)))))
      refl in
      let stage : (q : ℕ) → q < 64 → get_or words' (147 + q) 0 ≡ get_or s.words (147 + q) 0 = λ q l. get_or-set_other s.words 17 (147 + q) 0 0 (λ e. absurd (omega (arith, e))) in
      let no_book : (i : ℕ) (u : View) (x : Known) → get_elem? (set s.views id w) i ≡ some u → find_lock 17 u.seen.held ≡ Some x → ⊥ = λ i u x e q. set_all (λ _ u. (x : Known) → find_lock 17 u.seen.held ≡ Some x → ⊥) s.views id w
      (λ y e. let t = find-refreshed v.seen.input h' 17 (locks_without 17 v.seen.held) y e in never t.0 (sym (find-without-same 17 v.seen.held) ∙ t.1))
      (λ i u other e x q. other (sym (r.locks.held i u 17 x e q).owned ∙ old.owned))
      i u e x q in
      let f = recorded m limit base s.views h r.keeper r.latest id v h' r.fronts at whole left on.next in
      record {
        history = h';
        owner = r.owner;
        keeper = f.0;
        latest = f.1;
        sound = sound;
        wide = length-set s.words 17 0 ∙ r.wide;
        deep = length-set s.homes 17 (some (Ledger b)) ∙ r.deep;
        suited = suited_step suits m s.words words' s.homes homes' 17 r.suited (λ j ne. (get_or-set_other s.words 17 j 0 0 ne, set_else s.homes 17 j (some (Ledger b)) ne)) clock (λ y low. absurd (lt_irrefl 17 low));
        locks = record {
          free = λ j l e. dite (ℕ_discrete j 17)
              (λ is. (Ledger b, ap (get_elem? homes') is ∙ set_here s.homes 17 (some (Ledger b)) (omega (arith, r.deep)), (is, input ∙ is_m, refl, limited ∙ r.fronts.limits id v at left)))
              (λ ne. let e' : get_or s.words j 0 ≡ 0 = sym (get_or-set_other s.words 17 j 0 0 ne) ∙ e in let t = r.locks.free j l e' in (
                t.0,
                set_else s.homes 17 j (some (Ledger b)) ne ∙ t.1,
                still_fits h h' j t.0 ne (λ low. same j low (λ x q. absurd (omega (arith, e', (r.locks.held id v j x at q).shut)))) t.2,
              ));
          taken = λ j l nz. dite (ℕ_discrete j 17)
              (λ is. absurd (nz (ap (λ (n : ℕ). get_or words' n 0) is ∙ here)))
              (λ ne. set_some (λ u. Holds j u.seen) s.views id v w at (λ p. find-refreshed-some v.seen.input h' j (locks_without 17 v.seen.held) p.0 (find-without-other 17 j v.seen.held ne ∙ p.1)) (r.owner j)
              (r.locks.taken j l (λ e. nz (get_or-set_other s.words 17 j 0 0 ne ∙ e))));
          held = λ i u j x q e. set_all (λ i u. (j : ℕ) (x : Known) → find_lock j u.seen.held ≡ Some x → Has part m words' homes' h' r.owner i u j x) s.views id w
              (λ j y e. let t = find-refreshed v.seen.input h' j (locks_without 17 v.seen.held) y e in
              let ne : j ≢ 17 = λ is. never t.0 (sym (find-without-same 17 v.seen.held) ∙ (ap (λ (n : ℕ). find_lock n (locks_without 17 v.seen.held)) (sym is) ∙ t.1)) in
              let o = r.locks.held id v j t.0 at (sym (find-without-other 17 j v.seen.held ne) ∙ t.1) in record {
                below = o.below;
                owned = o.owned;
                shut = get_or-set_other s.words 17 j 0 0 ne ∙ o.shut;
                agrees = λ _. t.2 ∙ (λ i. part_at (is_m i) h' j);
                book = λ is. absurd (ne is);
                slot = λ _. set_else s.homes 17 j (some (Ledger b)) ne ∙ o.slot (λ is. ne (omega (arith, away, is)));
              })
              (λ i u other q j x e. let o = r.locks.held i u j x q e in let ne : j ≢ 17 = λ is. other (sym o.owned ∙ (ap r.owner is ∙ old.owned)) in record {
                below = o.below;
                owned = o.owned;
                shut = get_or-set_other s.words 17 j 0 0 ne ∙ o.shut;
                agrees = λ low. o.agrees low ∙ sym (same j low (λ x q. other (sym o.owned ∙ (r.locks.held id v j x at q).owned)));
                book = λ is. absurd (ne is);
                slot = λ away. set_else s.homes 17 j (some (Ledger b)) ne ∙ o.slot away;
              })
              i u q j x e;
        };
        names = record {
          free = λ j y n low e q l. let ne : j ≢ 17 = λ is. absurd (omega (arith, low, is)) in
              r.names.free j y n low (sym (get_or-set_other s.words 17 j 0 0 ne) ∙ e) (sym (set_else s.homes 17 j (some (Ledger b)) ne) ∙ q) l ∙ ap (λ (p : ℕ). eqb p j) (sym (word n l));
          held = λ i u j x n e q l. set_all (λ _ u. (j : ℕ) (x : Known) (n : ℕ) → find_lock j u.seen.held ≡ Some x → n < 128 → has_place n x.names ≡ eqb (get_or words' (18 + n) 0) j) s.views id w
              (λ j y n e l. let t = find-refreshed v.seen.input h' j (locks_without 17 v.seen.held) y e in
              ap (has_place n) t.3 ∙ (r.names.held id v j t.0 n at (still 17 j v.seen.held t.0 t.1) l ∙ ap (λ (p : ℕ). eqb p j) (sym (word n l))))
              (λ i u _ e j x n q l. r.names.held i u j x n e q l ∙ ap (λ (p : ℕ). eqb p j) (sym (word n l)))
              i u e j x n q l;
          moment = λ i u j x e q. set_all (λ _ u. (j : ℕ) (x : Known) → find_lock j u.seen.held ≡ Some x → u.seen.now ≡ get_or words' 146 0) s.views id w
              (λ j y e. let t = find-refreshed v.seen.input h' j (locks_without 17 v.seen.held) y e in r.names.moment id v j t.0 at (still 17 j v.seen.held t.0 t.1) ∙ sym clock)
              (λ i u _ e j x q. r.names.moment i u j x e q ∙ sym clock)
              i u e j x q;
          settled = λ _. (
            (λ n l. word n l ∙ sym (homes_now n l)),
            clock ∙ (sym (r.names.moment id v 17 z at found) ∙ (placed.1 ∙ ap (λ (q : Machine). now_at q h') is_m)),
          );
          apart = λ n l e. r.names.apart n l (sym (word n l) ∙ e);
          moving = λ i u x j n e q o l. absurd (set_all (λ _ u. (x : Known) → find_lock 17 u.seen.held ≡ Some x → ⊥) s.views id w
              (λ y e. let t = find-refreshed v.seen.input h' 17 (locks_without 17 v.seen.held) y e in never t.0 (sym (find-without-same 17 v.seen.held) ∙ t.1))
              (λ i u other e x q. other (sym (r.locks.held i u 17 x e q).owned ∙ old.owned))
              i u e x q);
        };
        stages = record {
          settled = λ _ q l. stage q l ∙ (r.stages.raised id v z q at found l ∙ sym ((decided q l ∙ (λ i. decides_at (whole i) q + raise q v.seen))));
          raised = λ i u x q e o l. absurd (no_book i u x e o);
          nobody = λ i u e o. set_all (λ i u. find_lock 17 u.seen.held ≡ None → u.seen.named ≡ 0) s.views id w (λ _. refl) (λ j u _ e o. r.stages.nobody j u e o) i u e o;
        };
        fronts = f.2;
        beside = beside_none s.views id w refl r.beside;
        all_shares = shares_same s.views id v w at refl r.all_shares;
      }

  commits : (slots id : ℕ) (v : View) (b : Chronicle) (z : Known) → v.out ≡ 18 → find_lock 17 v.seen.held ≡ Some z → 0 < v.seen.shares → Follows v.seen b
      → Allows (Agrees part suits m limit base) slots id (v, (17, Ledger b) ∷ []) 17 (λ _. 0) (λ _. committed (step slots 17 0 0 none) (v, (17, Ledger b) ∷ []) 0)
  commits slots id v b z away found left on s r deep at small = (
    view_committed b.history v,
    gives,
    tt,
    puts_down s r id v b z at away found left on,
    λ b' is. ap (λ (q : Chronicle). (view_committed q.history v, [])) (ap (λ (l : List (ℕ × Content V)). ledger_or b (content_or (Ledger b) l)) is),
  )

  pub commits_at : (slots id : ℕ) (me : Mine) (v : View) (b : Chronicle) (z : Known) → me ≡ (v, (17, Ledger b) ∷ []) → v.out ≡ 18 → find_lock 17 v.seen.held ≡ Some z → 0 < v.seen.shares → Follows v.seen b
      → Allows (Agrees part suits m limit base) slots id me 17 (λ _. 0) (λ _. committed (step slots 17 0 0 none) me 0)
  commits_at slots id me v b z is away found left on =
      subst (λ (q : Mine). Allows (Agrees part suits m limit base) slots id q 17 (λ _. 0) (λ _. committed (step slots 17 0 0 none) q 0)) (sym is) (commits slots id v b z away found left on)

  -- each other lock is below the book's
  below_book : (s : St) (r : Agrees part suits m limit base s) (id : ℕ) (v : View) (h : List Entry) → get_elem? s.views id ≡ some v → AllBelow 17 (view_committed h v).seen.held
  below_book s r id v h at j x f =
      let t = find-refreshed v.seen.input h j (locks_without 17 v.seen.held) x f in
      let low = (r.locks.held id v j t.0 at (still 17 j v.seen.held t.0 t.1)).below in
      let ne : j ≢ 17 = λ is. never t.0 (sym (find-without-same 17 v.seen.held) ∙ (ap (λ (n : ℕ). find_lock n (locks_without 17 v.seen.held)) (sym is) ∙ t.1)) in
      omega (arith, low, ne)

  -- what lies in the book's slot is the book of the rule's history
  fits_there : (s : St) (r : Agrees part suits m limit base s) (b : Chronicle) → get_or s.words 17 0 ≡ 0 → get_elem? s.homes 17 ≡ some (some (Ledger b)) → Fits part m limit r.history 17 (Ledger b)
  fits_there s r b free there =
      let t = r.locks.free 17 (omega arith) free in
      let is : t.0 ≡ Ledger b = some-injective t.0 (Ledger b) (some-injective (some t.0) (some (Ledger b)) (sym t.1 ∙ there)) in
      subst (λ (y : Content V). Fits part m limit r.history 17 y) is t.2

  -- The book stays where it is, with one entry more or none: as if it came out of the seat's hands, went home, was taken again and stayed with the seat,
  -- all at one moment.
  goes_on : (slots id : ℕ) (v : View) (b : Snapshot Chronicle) (z : Known) → v.out ≡ 0 → find_lock 17 v.seen.held ≡ Some z → 0 < v.seen.shares → Follows v.seen b.value
      → Allows (Agrees part suits m limit base) slots id (v, []) 146 (λ n. either (eqb n 0) 0 n) (went_on (step slots 146 0 0 (some (Told b))) (v, []))
  goes_on slots id v c z rest found left on s r deep at small =
      let b : Chronicle = c.value in let x : ℕ = get_or s.words 17 0 in let wide = r.wide in
      let old = r.locks.held id v 17 z at found in
      -- it goes home
      let v1 : View = with_out 18 v in let s1 : St = record { words = set s.words 17 x; homes = set s.homes 17 none; views = set s.views id v1 } in
      let r1 : Agrees part suits m limit base s1 = shifts part suits m limit base s r id v 17 18 none (z, found) left at (λ j ne e. absurd (omega (arith, rest, e))) (λ ne. absurd (ne refl)) in
      let at1 = set_there s.views id v1 v at in
      let v2 : View = view_committed b.history v in let s2 : St = record { words = set s1.words 17 0; homes = set s1.homes 17 (some (Ledger b)); views = set s1.views id v2 } in
      let r2 : Agrees part suits m limit base s2 = puts_down s1 r1 id v1 b z at1 refl found left on in
      let at2 = set_there s1.views id v2 v1 at1 in
      let free : get_or s2.words 17 0 ≡ 0 = get_or-set_same s1.words 17 0 0 (omega (arith, r1.wide)) in
      let fits = fits_there s2 r2 b free (set_here s1.homes 17 (some (Ledger b)) (omega (arith, r1.deep))) in
      -- and is taken
      let above = below_book s r id v b.history at in let t : ℕ = get_or s2.words 146 0 in
      let v3 : View = view_took_book b.history t v2 in let s3 : St = record { words = set s2.words 17 1; homes = set s2.homes 17 none; views = set s2.views id v3 } in
      let r3 : Agrees part suits m limit base s3 = picks_up part suits m limit base s2 r2 id v2 b above refl left at2 free fits in
      let at3 = set_there s2.views id v3 v2 at2 in
      let v4 : View = with_out 0 v3 in let y : ℕ = get_or s3.words 17 0 in
      let r4 = shifts part suits m limit base s3 r3 id v3 17 0 (some Out) (book_known, find-head 17 book_known v2.seen.held) left at3 (λ j ne e. ne (omega (arith, e))) (λ _. refl) in
      -- at the moment that it had, and nothing but its view has changed
      let now : t ≡ v.seen.now =
      get_or-set_other s1.words 17 146 0 0 (λ e. absurd (omega (arith, e))) ∙ get_or-set_other s.words 17 146 x 0 (λ e. absurd (omega (arith, e))) ∙ sym (r.names.moment id v 17 z at found) in
      let view : v4 ≡ view_committed_on b.history v = ap (λ (n : ℕ). at_rest (took_book b.history n v2.seen)) now in
      let one : y ≡ x = get_or-set_same s2.words 17 1 0 (omega (arith, r2.wide)) ∙ sym old.shut in
      let words : set s3.words 17 y ≡ set s.words 146 (either (eqb (get_or s.words 146 0) 0) 0 (get_or s.words 146 0)) =
      set-set s2.words 17 1 y ∙ set-set s1.words 17 0 y ∙ set-set s.words 17 x y ∙ ap (set s.words 17) one ∙ set-get_or s.words 17 0 ∙ sym (set-get_or s.words 146 0) ∙ ap (set s.words 146) (sym (stays_zero (get_or s.words 146 0))) in
      let homes : set s3.homes 17 (some Out) ≡ s.homes = set-set s2.homes 17 none (some Out) ∙ set-set s1.homes 17 (some (Ledger b)) (some Out) ∙ set-set s.homes 17 none (some Out)
      ∙ set_again s.homes 17 (some Out) (old.slot (λ e. absurd (omega (arith, rest, e)))) in
      let views : set s3.views id v4 ≡ set s.views id (view_committed_on b.history v) = set-set s2.views id v3 v4 ∙ set-set s1.views id v2 v4 ∙ set-set s.views id v1 v4 ∙ ap (set s.views id) view in
      let known : Current (view_committed_on b.history v).seen = subst (λ (u : View). Current u.seen) view (current_book part suits m limit base s2 r2 id v2 b above left at2 free fits) in (
        view_committed_on b.history v,
        keeps,
        tt,
        subst (λ (q : List ℕ × List (maybe.Option (Content V)) × List View). Agrees part suits m limit base (record { words = q.0; homes = q.1; views = q.2 })) (λ i. (words i, homes i, views i)) r4,
        λ d is. let same : c ≡ d = told_same c d (some-injective (Told c) (Told d) is) in (ap (λ (q : Snapshot Chronicle). (view_committed_on q.value.history v, [])) same, known),
      )

  pub goes_on_at : (slots id : ℕ) (me : Mine) (v : View) (b : Snapshot Chronicle) (z : Known) → me ≡ (v, []) → v.out ≡ 0 → find_lock 17 v.seen.held ≡ Some z → 0 < v.seen.shares → Follows v.seen b.value
      → Allows (Agrees part suits m limit base) slots id me 146 (λ n. either (eqb n 0) 0 n) (went_on (step slots 146 0 0 (some (Told b))) me)
  goes_on_at slots id me v b z is rest found left on =
      subst (λ (q : Mine). Allows (Agrees part suits m limit base) slots id q 146 (λ n. either (eqb n 0) 0 n) (went_on (step slots 146 0 0 (some (Told b))) q)) (sym is) (goes_on slots id v b z rest found left on)
