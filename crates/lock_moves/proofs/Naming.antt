-- Moving a name, setting the moment, and reading a word.
use Rattle.std.proofs.Common.{◌≡◌, ℕ, ◌+◌, ◌<◌, ◌≢◌, true, false, cond, eqb, ◌||◌, List, [], ◌∷◌, get_or, set, Some, None, sym, refl, ap, ◌∙◌, subst, eq-eqb, ne_eqb, eqb-true, arith, length-set, get_or-set_same, get_or-set_other}
use mathlib.Core.Logic.{dite}
use mathlib.Core.Option.{some, none}
use native.Mathlib.Decide.{ℕ_discrete}
use lib.ListN.{get_elem?}
use Rattle.atomic_table.specs.Table.{Me, step, keeps, Allows}
use Rattle.journal_core.specs.Parts.{StatePart}
use Rattle.journal_core.specs.Parts.{lists}
use Rattle.journal_core.specs.Histories.{decides_at, home_at}
use Rattle.sched_model.specs.declared.event.Entry.{Entry}
use Rattle.sched_model.specs.declared.machine.Machine.{Machine}
use Rattle.lock_moves.specs.declared.content.Content.{Content}
use Rattle.lock_moves.specs.SeatSight.{Known, View, known_part, find_lock, Holds, has_place, without_name, renamed_locks, raise, view_moved_name, view_with_now}
use Rattle.lock_moves.specs.Agreement.{Has, Agrees}
use Rattle.lock_moves.specs.Plays.{named, timed, looked, found_beside}
use Rattle.lock_moves.proofs.Finding.{find-tail, some_same, never, none_or, set_all, set_some}
use Rattle.lock_moves.proofs.Moving.{beside_none, fronts_same, shares_same, locks_step, stages_step, stages_of}
use Rattle.lock_moves.proofs.Taking.{unmoved}

-- the names of the lock j once the name n was moved to the lock `to`
abbrev pub names_after : ℕ → ℕ → ℕ → Known → List ℕ
names_after n to j x = cond (eqb to j) (n ∷ x.names) (without_name n x.names)

pub find-renamed : (n to k : ℕ) (xs : List (ℕ × Known)) (y : Known) → find_lock k (renamed_locks n to xs) ≡ Some y → (x : Known) × (find_lock k xs ≡ Some x) × (y ≡ known_part x.part (names_after n to k x))
find-renamed n to k [] y e = absurd (never y e)
find-renamed n to k (q ∷ xs) y e = let z : Known = known_part q.1.part (names_after n to q.0 q.1) in dite (ℕ_discrete k q.0)
    (λ here. (
      q.1,
      ap (λ b. cond b (Some q.1) (find_lock k xs)) (eq-eqb k q.0 here),
      sym (some_same z y (sym (ap (λ b. cond b (Some z) (find_lock k (renamed_locks n to xs))) (eq-eqb k q.0 here)) ∙ e)) ∙ (λ i. known_part q.1.part (names_after n to (sym here i) q.1)),
    ))
    (λ other. let t = find-renamed n to k xs y (sym (find-tail k q.0 z (renamed_locks n to xs) other) ∙ e) in (t.0, find-tail k q.0 q.1 xs other ∙ t.1, t.2))

-- what is found once the name n was moved to the lock `to`
pub find-renamed-is : (n to k : ℕ) (xs : List (ℕ × Known)) (x : Known) → find_lock k xs ≡ Some x → find_lock k (renamed_locks n to xs) ≡ Some (known_part x.part (names_after n to k x))
find-renamed-is n to k [] x e = absurd (never x e)
find-renamed-is n to k (q ∷ xs) x e = let z : Known = known_part q.1.part (names_after n to q.0 q.1) in dite (ℕ_discrete k q.0)
    (λ is. let same : q.1 ≡ x = some_same q.1 x (sym (ap (λ b. cond b (Some q.1) (find_lock k xs)) (eq-eqb k q.0 is)) ∙ e) in
    ap (λ b. cond b (Some z) (find_lock k (renamed_locks n to xs))) (eq-eqb k q.0 is) ∙ (λ i. Some (known_part (same i).part (names_after n to (sym is i) (same i)))))
    (λ ne. find-tail k q.0 z (renamed_locks n to xs) ne ∙ find-renamed-is n to k xs x (sym (find-tail k q.0 q.1 xs ne) ∙ e))

pub find-renamed-none : (n to k : ℕ) (xs : List (ℕ × Known)) → find_lock k xs ≡ None → find_lock k (renamed_locks n to xs) ≡ None
find-renamed-none n to k [] e = refl
find-renamed-none n to k (q ∷ xs) e = dite (ℕ_discrete k q.0)
    (λ is. absurd (never q.1 (sym e ∙ ap (λ b. cond b (Some q.1) (find_lock k xs)) (eq-eqb k q.0 is))))
    (λ ne. find-tail k q.0 (known_part q.1.part (names_after n to q.0 q.1)) (renamed_locks n to xs) ne ∙ find-renamed-none n to k xs (sym (find-tail k q.0 q.1 xs ne) ∙ e))

-- and what was found before
was_none : (n to k : ℕ) (xs : List (ℕ × Known)) → find_lock k (renamed_locks n to xs) ≡ None → find_lock k xs ≡ None
was_none n to k xs e = none_or (find_lock k xs) (λ x f. never (known_part x.part (names_after n to k x)) (sym e ∙ find-renamed-is n to k xs x f))

pub gone : (n : ℕ) (xs : List ℕ) → has_place n (without_name n xs) ≡ false
gone n [] = refl
gone n (x ∷ xs) = dite (ℕ_discrete n x)
    (λ e. ap (λ b. has_place n (cond b (without_name n xs) (x ∷ without_name n xs))) (eq-eqb n x e) ∙ gone n xs)
    (λ ne. ap (λ b. has_place n (cond b (without_name n xs) (x ∷ without_name n xs))) (ne_eqb n x ne) ∙ (ap (λ b. b || has_place n (without_name n xs)) (ne_eqb n x ne) ∙ gone n xs))

pub stays : (n p : ℕ) (xs : List ℕ) → p ≢ n → has_place p (without_name n xs) ≡ has_place p xs
stays n p [] away = refl
stays n p (x ∷ xs) away = dite (ℕ_discrete n x)
    (λ e. ap (λ b. has_place p (cond b (without_name n xs) (x ∷ without_name n xs))) (eq-eqb n x e) ∙ (stays n p xs away ∙ sym (ap (λ b. b || has_place p xs) (ne_eqb p x (λ is. away (is ∙ sym e))))))
    (λ ne. ap (λ b. has_place p (cond b (without_name n xs) (x ∷ without_name n xs))) (ne_eqb n x ne) ∙ ap (λ b. eqb p x || b) (stays n p xs away))

-- which names these are
pub after_here : (n to j : ℕ) (x : Known) → has_place n (names_after n to j x) ≡ eqb to j
after_here n to j x = dite (ℕ_discrete to j)
    (λ e. ap (λ b. has_place n (cond b (n ∷ x.names) (without_name n x.names))) (eq-eqb to j e) ∙ (ap (λ b. b || has_place n x.names) (eq-eqb n n refl) ∙ sym (eq-eqb to j e)))
    (λ ne. ap (λ b. has_place n (cond b (n ∷ x.names) (without_name n x.names))) (ne_eqb to j ne) ∙ (gone n x.names ∙ sym (ne_eqb to j ne)))

pub after_else : (n to j p : ℕ) (x : Known) → p ≢ n → has_place p (names_after n to j x) ≡ has_place p x.names
after_else n to j p x ne = elim (eqb to j) as (λ b. has_place p (cond b (n ∷ x.names) (without_name n x.names)) ≡ has_place p x.names) [
  | true ↦ ap (λ b. b || has_place p x.names) (ne_eqb p n ne)
  | false ↦ stays n p x.names ne
]

module _ {V : Type 0} (part : V → StatePart) (suits : Machine → ℕ → V → Type 0) (m : Machine) (limit base : ℕ) where
  abbrev Mine : Type 0
  Mine = Me (Content V) View

  pub moves : (slots id : ℕ) (v : View) (n from to : ℕ) (z : Known) → n < 128 → to < 17 → v.out ≡ 0 → Holds 17 v.seen → Holds to v.seen → find_lock from v.seen.held ≡ Some z → has_place n z.names ≡ true → 0 < v.seen.shares
      → Allows (Agrees part suits m limit base) slots id (v, []) (18 + n) (λ _. to) (λ _. named (step slots (18 + n) to 0 none) (v, []) to)
  moves slots id v n from to z l low rest book there found lists_n left s r deep at small = let i : ℕ = 18 + n in let w : View = view_moved_name n to v in let wide = r.wide in let h : List Entry = r.history in
      let words' : List ℕ = set s.words i to in
      let lock : (j : ℕ) → j < 18 → get_or words' j 0 ≡ get_or s.words j 0 = λ j q. get_or-set_other s.words i j to 0 (λ e. absurd (omega (arith, e, q))) in
      let clock : get_or words' 146 0 ≡ get_or s.words 146 0 = get_or-set_other s.words i 146 to 0 (λ e. absurd (omega (arith, e, l))) in
      let here : get_or words' i 0 ≡ to = get_or-set_same s.words i to 0 (omega (arith, l, wide)) in
      let else : (p : ℕ) → p ≢ n → get_or words' (18 + p) 0 ≡ get_or s.words (18 + p) 0 = λ p ne. get_or-set_other s.words i (18 + p) to 0 (λ e. ne (omega (arith, e))) in
      let was : get_or s.words i 0 ≡ from = eqb-true (get_or s.words i 0) from (sym (r.names.held id v from z n at found l) ∙ lists_n) in
      let my_from = r.locks.held id v from z at found in let my_to = r.locks.held id v to there.0 at there.1 in let my_book = r.locks.held id v 17 book.0 at book.1 in
      -- a lock that is neither
      let neither : (j : ℕ) → j ≢ from → j ≢ to → eqb (get_or s.words i 0) j ≡ eqb to j = λ j a b. ap (λ (q : ℕ). eqb q j) was ∙ (ne_eqb from j (λ e. a (sym e)) ∙ sym (ne_eqb to j (λ e. b (sym e)))) in (
        w,
        keeps,
        tt,
        record {
          history = h;
          owner = r.owner;
          keeper = r.keeper;
          latest = r.latest;
          sound = r.sound;
          wide = length-set s.words i to ∙ r.wide;
          deep = r.deep;
          suited = λ j y q e home. subst (λ (t : ℕ). suits m t y) (sym clock) (r.suited j y q (sym (lock j (omega (arith, q))) ∙ e) home);
          locks = record {
            free = λ j q e. r.locks.free j q (sym (lock j q) ∙ e);
            taken = λ j q nz. set_some (λ u. Holds j u.seen) s.views id v w at (λ p. (known_part p.0.part (names_after n to j p.0), find-renamed-is n to j v.seen.held p.0 p.1)) (r.owner j) (r.locks.taken j q (λ e. nz (lock j q ∙ e)));
            held = λ i u j x e q. set_all (λ i u. (j : ℕ) (x : Known) → find_lock j u.seen.held ≡ Some x → Has part m words' s.homes h r.owner i u j x) s.views id w
                (λ j y q. let t = find-renamed n to j v.seen.held y q in let o = r.locks.held id v j t.0 at t.1 in record {
                  below = o.below;
                  owned = o.owned;
                  shut = lock j o.below ∙ o.shut;
                  agrees = λ q. ap (λ (z : Known). z.part) t.2 ∙ o.agrees q;
                  book = o.book;
                  slot = o.slot;
                })
                (λ i u _ e j x q. let o = r.locks.held i u j x e q in record {
                  below = o.below;
                  owned = o.owned;
                  shut = lock j o.below ∙ o.shut;
                  agrees = o.agrees;
                  book = o.book;
                  slot = o.slot;
                })
                i u e j x q;
          };
          names = record {
            free = λ j y p q e home f. let e' : get_or s.words j 0 ≡ 0 = sym (lock j (omega (arith, q))) ∙ e in dite (ℕ_discrete p n)
                (λ is. let old = ap (lists (part y)) is in
                old ∙ (r.names.free j y n q e' home l ∙ (neither j (λ a. absurd (omega (arith, e', my_from.shut, ap (λ (k : ℕ). get_or s.words k 0) a))) (λ a. absurd (omega (arith, e', my_to.shut, ap (λ (k : ℕ). get_or s.words k 0) a)))
                ∙ (λ i. eqb (sym here i) j) ∙ (λ i. eqb (get_or words' (18 + sym is i) 0) j))))
                (λ ne. r.names.free j y p q e' home f ∙ ap (λ (q : ℕ). eqb q j) (sym (else p ne)));
            held = λ i u j x p e q f. set_all (λ i u. (j : ℕ) (x : Known) (p : ℕ) → find_lock j u.seen.held ≡ Some x → p < 128 → has_place p x.names ≡ eqb (get_or words' (18 + p) 0) j) s.views id w
                (λ j y p q f. let t = find-renamed n to j v.seen.held y q in let is_y = ap (λ (z : Known). has_place p z.names) t.2 in dite (ℕ_discrete p n)
                (λ is. is_y ∙ (ap (λ (k : ℕ). has_place k (names_after n to j t.0)) is ∙ (after_here n to j t.0 ∙ ((λ i. eqb (sym here i) j) ∙ (λ i. eqb (get_or words' (18 + sym is i) 0) j)))))
                (λ ne. is_y ∙ (after_else n to j p t.0 ne ∙ (r.names.held id v j t.0 p at t.1 f ∙ ap (λ (q : ℕ). eqb q j) (sym (else p ne))))))
                (λ i u other e j x p q f. let o = r.locks.held i u j x e q in dite (ℕ_discrete p n)
                (λ is. ap (λ (k : ℕ). has_place k x.names) is ∙ (r.names.held i u j x n e q l ∙ (neither j (λ a. other (sym o.owned ∙ (ap r.owner a ∙ my_from.owned))) (λ a. other (sym o.owned ∙ (ap r.owner a ∙ my_to.owned)))
                ∙ ((λ i. eqb (sym here i) j) ∙ (λ i. eqb (get_or words' (18 + sym is i) 0) j)))))
                (λ ne. r.names.held i u j x p e q f ∙ ap (λ (q : ℕ). eqb q j) (sym (else p ne))))
                i u e j x p q f;
            moment = λ i u j x e q. set_all (λ _ u. (j : ℕ) (x : Known) → find_lock j u.seen.held ≡ Some x → u.seen.now ≡ get_or words' 146 0) s.views id w
                (λ j y q. let t = find-renamed n to j v.seen.held y q in r.names.moment id v j t.0 at t.1 ∙ sym clock)
                (λ i u _ e j x q. r.names.moment i u j x e q ∙ sym clock)
                i u e j x q;
            settled = λ e. absurd (omega (arith, sym (lock 17 (omega arith)) ∙ e, my_book.shut));
            apart = λ p q e. dite (ℕ_discrete p n)
                (λ is. omega (arith, low, sym here ∙ (ap (λ (k : ℕ). get_or words' (18 + k) 0) (sym is) ∙ e)))
                (λ ne. r.names.apart p q (sym (else p ne) ∙ e));
            moving = λ i u x j p e q o f. set_all (λ i u. (x : Known) (j p : ℕ) → find_lock 17 u.seen.held ≡ Some x → find_lock j u.seen.held ≡ None → p < 128 → eqb (get_or words' (18 + p) 0) j ≡ eqb (home_at m h p) j) s.views id w
                (λ y j p q o f. let t = find-renamed n to 17 v.seen.held y q in let o' = was_none n to j v.seen.held o in dite (ℕ_discrete p n)
                (λ is. (λ i. eqb (get_or words' (18 + is i) 0) j) ∙ ((λ i. eqb (here i) j) ∙ (sym (neither j (λ a. never z (sym o' ∙ (ap (λ (k : ℕ). find_lock k v.seen.held) a ∙ found))) (λ a. never there.0 (sym o' ∙ (ap (λ (k : ℕ). find_lock k v.seen.held) a ∙ there.1))))
                ∙ (r.names.moving id v t.0 j n at t.1 o' l ∙ (λ i. eqb (home_at m h (sym is i)) j)))))
                (λ ne. ap (λ (q : ℕ). eqb q j) (else p ne) ∙ r.names.moving id v t.0 j p at t.1 o' f))
                (λ i u other e x j p q o f. absurd (other (sym (r.locks.held i u 17 x e q).owned ∙ my_book.owned)))
                i u e x j p q o f;
          };
          stages = stages_step h s.words words' s.views id w r.stages (λ q f. get_or-set_other s.words i (147 + q) to 0 (λ e. absurd (omega (arith, e, l)))) (λ z. sym (lock 17 (omega arith)) ∙ z)
              ((λ y q f g. let t = find-renamed n to 17 v.seen.held y f in r.stages.raised id v t.0 q at t.1 g), λ f. r.stages.nobody id v at (was_none n to 17 v.seen.held f));
          fronts = fronts_same m limit base s.views h r.keeper r.latest id v w r.fronts at refl refl refl refl left left;
          beside = beside_none s.views id w refl r.beside;
          all_shares = shares_same s.views id v w at refl r.all_shares;
        },
        λ p e. ap (λ (k : ℕ). (view_moved_name k to v, [])) (omega (arith, e)),
      )

  pub sets_now : (slots id : ℕ) (v : View) (t : ℕ) → v.out ≡ 0 → ((k : ℕ) → k < 18 → Holds k v.seen) → 0 < v.seen.shares
      → Allows (Agrees part suits m limit base) slots id (v, []) 146 (λ _. t) (λ _. timed (step slots 146 t 0 none) (v, []) t)
  sets_now slots id v t rest all left s r deep at small = let w : View = view_with_now t v in let wide = r.wide in let h : List Entry = r.history in let words' : List ℕ = set s.words 146 t in
      let same : (j : ℕ) → j ≢ 146 → get_or words' j 0 ≡ get_or s.words j 0 = λ j ne. get_or-set_other s.words 146 j t 0 ne in
      let word : (n : ℕ) → n < 128 → get_or words' (18 + n) 0 ≡ get_or s.words (18 + n) 0 = λ n l. same (18 + n) (λ e. absurd (omega (arith, e, l))) in
      let mine : (j : ℕ) (q : j < 18) → Has part m s.words s.homes h r.owner id v j (all j q).0 = λ j q. r.locks.held id v j (all j q).0 at (all j q).1 in
      let alone : (i : ℕ) (u : View) (j : ℕ) (x : Known) → i ≢ id → get_elem? s.views i ≡ some u → find_lock j u.seen.held ≡ Some x → ⊥ = λ i u j x other e q. let o = r.locks.held i u j x e q in other (sym o.owned ∙ (mine j o.below).owned) in (
        w,
        keeps,
        tt,
        record {
          history = h;
          owner = r.owner;
          keeper = r.keeper;
          latest = r.latest;
          sound = r.sound;
          wide = length-set s.words 146 t ∙ r.wide;
          deep = r.deep;
          suited = λ j y q e home. let shut = (mine j (omega (arith, q))).shut in absurd (omega (arith, shut, sym (same j (λ e. absurd (omega (arith, e, q)))) ∙ e));
          locks = locks_step part m h limit s.words words' s.homes s.homes s.views r.owner r.owner 146 id v w r.locks at
              (λ j ne. (same j ne, refl, refl, refl, (λ _. refl), λ e. absurd (omega (arith, rest, e))))
              (λ j u x other e q. alone j u 146 x other e q)
              (λ q _. absurd (omega (arith, q)))
              (λ q _. absurd (omega (arith, q)))
              (λ x q. let below = (r.locks.held id v 146 x at q).below in absurd (omega (arith, below)));
          names = record {
            free = λ j y n q e home l. let shut = (mine j (omega (arith, q))).shut in absurd (omega (arith, shut, sym (same j (λ e. absurd (omega (arith, e, q)))) ∙ e));
            held = λ i u j x n e q l. set_all (λ _ u. (j : ℕ) (x : Known) (n : ℕ) → find_lock j u.seen.held ≡ Some x → n < 128 → has_place n x.names ≡ eqb (get_or words' (18 + n) 0) j) s.views id w
                (λ j x n q l. r.names.held id v j x n at q l ∙ ap (λ (q : ℕ). eqb q j) (sym (word n l)))
                (λ i u other e j x n q l. absurd (alone i u j x other e q))
                i u e j x n q l;
            moment = λ i u j x e q. set_all (λ _ u. (j : ℕ) (x : Known) → find_lock j u.seen.held ≡ Some x → u.seen.now ≡ get_or words' 146 0) s.views id w
                (λ j x q. sym (get_or-set_same s.words 146 t 0 (omega (arith, wide))))
                (λ i u other e j x q. absurd (alone i u j x other e q))
                i u e j x q;
            settled = λ e. let shut = (mine 17 (omega arith)).shut in absurd (omega (arith, shut, sym (same 17 (λ e. absurd (omega (arith, e)))) ∙ e));
            apart = λ n l e. r.names.apart n l (sym (word n l) ∙ e);
            moving = λ i u x j n e q o l. set_all (λ i u. (x : Known) (j n : ℕ) → find_lock 17 u.seen.held ≡ Some x → find_lock j u.seen.held ≡ None → n < 128 → eqb (get_or words' (18 + n) 0) j ≡ eqb (home_at m h n) j) s.views id w
                (λ x j n q o l. ap (λ (q : ℕ). eqb q j) (word n l) ∙ r.names.moving id v x j n at q o l)
                (λ i u other e x j n q o l. absurd (alone i u 17 x other e q))
                i u e x j n q o l;
          };
          stages = stages_step h s.words words' s.views id w r.stages (λ q f. same (147 + q) (λ e. absurd (omega (arith, e)))) (λ z. sym (same 17 (λ e. absurd (omega (arith, e)))) ∙ z)
              (stages_of h s.words s.views r.stages id v at);
          fronts = fronts_same m limit base s.views h r.keeper r.latest id v w r.fronts at refl refl refl refl left left;
          beside = beside_none s.views id w refl r.beside;
          all_shares = shares_same s.views id v w at refl r.all_shares;
        },
        refl,
      )

  pub looks : (slots id : ℕ) (me : Mine) (i : ℕ) → 0 < me.0.seen.shares → Allows (Agrees part suits m limit base) slots id me i (λ n. n) (looked (step slots i 0 0 none) me)
  looks slots id me i left s r deep at small = (
    me.0,
    keeps,
    tt,
    unmoved part suits m limit base s r id me.0 me.0 i me.1 at left refl refl refl refl refl refl refl refl refl (r.beside id me.0 at),
    (
      refl,
      (
        (λ k x e q. ap (λ (j : ℕ). get_or s.words j 0) e ∙ (r.locks.held id me.0 k x at q).shut),
        (λ k x n e q l. r.names.held id me.0 k x n at q l ∙ (λ j. eqb (get_or s.words (sym e j) 0) k)),
        (λ k x e q. r.names.moment id me.0 k x at q ∙ ap (λ (j : ℕ). get_or s.words j 0) (sym e)),
        λ p x e q l. ap (λ (j : ℕ). get_or s.words j 0) e ∙ (r.stages.raised id me.0 x p at q l ∙ ap (λ (h : List Entry). decides_at h p + raise p me.0.seen) (sym ((r.locks.held id me.0 17 x at q).book refl))),
      ),
    ),
  )

  pub finds_beside : (slots id : ℕ) (me : Mine) (i : ℕ) → 0 < me.0.seen.shares → Allows (Agrees part suits m limit base) slots id me i (λ n. n) (found_beside (step slots i 0 0 none) me)
  finds_beside slots id me i left s r deep at small = (
    me.0,
    keeps,
    tt,
    unmoved part suits m limit base s r id me.0 me.0 i me.1 at left refl refl refl refl refl refl refl refl refl (r.beside id me.0 at),
    (refl, r.beside id me.0 at),
  )

  pub sets_now_at : (slots id : ℕ) (me : Mine) (v : View) (t : ℕ) → me ≡ (v, []) → v.out ≡ 0 → ((k : ℕ) → k < 18 → Holds k v.seen) → 0 < v.seen.shares
      → Allows (Agrees part suits m limit base) slots id me 146 (λ _. t) (λ _. timed (step slots 146 t 0 none) me t)
  sets_now_at slots id me v t is rest all left = subst (λ (z : Mine). Allows (Agrees part suits m limit base) slots id z 146 (λ _. t) (λ _. timed (step slots 146 t 0 none) z t)) (sym is) (sets_now slots id v t rest all left)

  pub moves_at : (slots id : ℕ) (me : Mine) (v : View) (n from to : ℕ) (z : Known) (i : ℕ) → i ≡ 18 + n → me ≡ (v, []) → n < 128 → to < 17 → v.out ≡ 0 → Holds 17 v.seen → Holds to v.seen → find_lock from v.seen.held ≡ Some z → has_place n z.names ≡ true → 0 < v.seen.shares
      → Allows (Agrees part suits m limit base) slots id me i (λ _. to) (λ _. named (step slots i to 0 none) me to)
  moves_at slots id me v n from to z i at is l low rest book there found lists_n left =
      subst (λ (q : ℕ × Mine). Allows (Agrees part suits m limit base) slots id q.1 q.0 (λ _. to) (λ _. named (step slots q.0 to 0 none) q.1 to)) (λ j. (sym at j, sym is j)) (moves slots id v n from to z l low rest book there found lists_n left)
