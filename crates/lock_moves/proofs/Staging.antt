-- Raising a stage word, and loading one.
use Rattle.std.proofs.Common.{◌≡◌, ℕ, suc, length, ⊎_elim, ◌++◌, ◌∷◌, ◌+◌, ◌%◌, ◌^◌, ◌<◌, ◌≤◌, ◌≢◌, cond, eqb, List, [], get_or, set, Some, None, sym, refl, ap, ◌∙◌, subst, eq-eqb, ne_eqb, arith, length-set, get_or-set_same, get_or-set_other}
use mathlib.Core.Logic.{dite}
use mathlib.Core.Option.{some, none}
use native.Mathlib.Decide.{ℕ_discrete}
use lib.ListN.{get_elem?}
use Rattle.atomic_table.specs.Table.{Me, step, keeps, Allows}
use Rattle.journal_core.specs.Parts.{StatePart}
use Rattle.journal_core.specs.Histories.{decides_at}
use Rattle.sched_model.specs.declared.event.Entry.{Entry}
use Rattle.sched_model.specs.declared.machine.Machine.{Machine}
use Rattle.lock_moves.specs.declared.content.Content.{Content}
use Rattle.lock_moves.specs.SeatSight.{Known, View, find_lock, Holds, raise, view_naming, view_has_loaded}
use Rattle.lock_moves.specs.Agreement.{Agrees}
use Rattle.lock_moves.specs.Plays.{Next, loaded, raised}
use Rattle.lock_moves.proofs.Finding.{never, set_all}
use Rattle.journal_core.proofs.Grows.{decides_at-few}
use Rattle.std.proofs.lemmas.List.{length_push}
use Rattle.lock_moves.proofs.Moving.{beside_none, fronts_same, shares_same, locks_step, names_step}
use Rattle.lock_moves.proofs.Taking.{unmoved}

-- a count of decisions is far from its type's end
pub stage_fits : (front h : List Entry) (r limit : ℕ) → Next front h → length h ≤ limit → limit ≤ 4000000 → decides_at front r + 1 < 2 ^ 64
stage_fits front h r limit next fits few = let most = decides_at-few front r in ⊎_elim
    (λ (e : h ≡ front). let len = ap length e in omega (arith, most, len, fits, few))
    (λ (e : (e : Entry) × (h ≡ front ++ e ∷ [])). let len = ap length e.1 ∙ length_push front e.0 in omega (arith, most, len, fits, few))
    next

module _ {V : Type 0} (part : V → StatePart) (suits : Machine → ℕ → V → Type 0) (m : Machine) (limit base : ℕ) where
  abbrev Mine : Type 0
  Mine = Me (Content V) View

  pub stages_raised : (slots id : ℕ) (v : View) (q : ℕ) → q < 64 → v.out ≡ 0 → v.seen.named ≡ 0 → Holds 17 v.seen → decides_at v.seen.front q + 1 < 2 ^ 64 → 0 < v.seen.shares
      → Allows (Agrees part suits m limit base) slots id (v, []) (147 + q) (λ n. (n + 1) % 2 ^ 64) (raised (step slots (147 + q) 1 0 none) (v, []))
  stages_raised slots id v q l rest unnamed book fits left s r deep at small = let i : ℕ = 147 + q in let w : View = view_naming q v in let wide = r.wide in let h : List Entry = r.history in
      let x : ℕ = get_or s.words i 0 in let y : ℕ = (x + 1) % 2 ^ 64 in let words' : List ℕ = set s.words i y in
      let mine = r.locks.held id v 17 book.0 at book.1 in let is_m : v.seen.input ≡ m = r.fronts.same id v at left in let whole : v.seen.front ≡ h = mine.book refl in
      let none_named : (p : ℕ) → raise p v.seen ≡ 0 = λ p. ap (λ (n : ℕ). let z : ℕ = cond (eqb (suc p) n) 1 0 in z) unnamed ∙ ap (λ b. let z : ℕ = cond b 1 0 in z) (ne_eqb (suc p) 0 (λ e. absurd (omega (arith, e)))) in
      let was : x ≡ decides_at h q = r.stages.raised id v book.0 q at book.1 l ∙ omega (arith, none_named q) in
      let fits' : decides_at h q + 1 < 18446744073709551616 = subst (λ (n : ℕ). n + 1 < 18446744073709551616) (λ j. decides_at (whole j) q) fits in
      let now : y ≡ decides_at h q + 1 = omega (arith, was, fits') in
      let same : (j : ℕ) → j ≢ i → get_or words' j 0 ≡ get_or s.words j 0 = λ j ne. get_or-set_other s.words i j y 0 ne in
      let alone : (j : ℕ) (u : View) (x : Known) → j ≢ id → get_elem? s.views j ≡ some u → find_lock 17 u.seen.held ≡ Some x → ⊥ = λ j u x other e f. other (sym (r.locks.held j u 17 x e f).owned ∙ mine.owned) in (
        w,
        keeps,
        tt,
        record {
          history = h;
          owner = r.owner;
          keeper = r.keeper;
          latest = r.latest;
          sound = r.sound;
          wide = length-set s.words i y ∙ r.wide;
          deep = r.deep;
          suited = λ j y low e home. subst (λ (t : ℕ). suits m t y) (sym (same 146 (λ e. absurd (omega (arith, e))))) (r.suited j y low (sym (same j (λ e. absurd (omega (arith, e, low)))) ∙ e) home);
          locks = locks_step part m h limit s.words words' s.homes s.homes s.views r.owner r.owner i id v w r.locks at
              (λ j ne. (same j ne, refl, refl, refl, (λ _. refl), λ e. absurd (omega (arith, rest, e))))
              (λ j u x other e f. let below = (r.locks.held j u i x e f).below in absurd (omega (arith, below)))
              (λ low _. absurd (omega (arith, low)))
              (λ low _. absurd (omega (arith, low)))
              (λ x f. let below = (r.locks.held id v i x at f).below in absurd (omega (arith, below)));
          names = names_step part m h s.words words' s.homes s.homes s.views i id v w r.names at
              (λ j ne. (same j ne, refl, refl))
              (λ j _ high. same j (λ e. absurd (omega (arith, e, high))))
              (λ _ _ low _ _ _. absurd (omega (arith, low)))
              (λ x n f g. r.names.held id v i x n at f g)
              (λ j x f. r.names.moment id v j x at f)
              (λ z. sym (same 17 (λ e. absurd (omega (arith, e)))) ∙ z)
              (λ x j n f o g. r.names.moving id v x j n at f o g);
          stages = record {
            settled = λ z. let shut = mine.shut in absurd (omega (arith, shut, sym (same 17 (λ e. absurd (omega (arith, e)))) ∙ z));
            raised = λ j u x p e f g. set_all (λ _ u. (x : Known) → find_lock 17 u.seen.held ≡ Some x → get_or words' (147 + p) 0 ≡ decides_at h p + raise p u.seen) s.views id w
                (λ x f. dite (ℕ_discrete p q)
                (λ is. (λ j. get_or words' (147 + is j) 0) ∙ (get_or-set_same s.words i y 0 (omega (arith, wide, l)) ∙ (now ∙ (omega (arith, ap (λ b. let z : ℕ = cond b 1 0 in z) (eq-eqb (suc q) (suc q) refl)) ∙ (λ j. decides_at h (sym is j) + raise (sym is j) w.seen)))))
                (λ ne. same (147 + p) (λ e. ne (omega (arith, e))) ∙ (r.stages.raised id v book.0 p at book.1 g ∙ omega (arith, none_named p, ap (λ b. let z : ℕ = cond b 1 0 in z) (ne_eqb (suc p) (suc q) (λ e. ne (omega (arith, e))))))))
                (λ j u other e x f. absurd (alone j u x other e f))
                j u e x f;
            nobody = λ j u e f. set_all (λ _ u. find_lock 17 u.seen.held ≡ None → u.seen.named ≡ 0) s.views id w (λ f. absurd (never book.0 (sym f ∙ book.1))) (λ j u _ e f. r.stages.nobody j u e f) j u e f;
          };
          fronts = fronts_same m limit base s.views h r.keeper r.latest id v w r.fronts at refl refl refl refl left left;
          beside = beside_none s.views id w refl r.beside;
          all_shares = shares_same s.views id v w at refl r.all_shares;
        },
        λ p e. ap (λ (n : ℕ). (view_naming n v, [])) (omega (arith, e)),
      )

  pub stages_raised_at : (slots id : ℕ) (me : Mine) (v : View) (q i : ℕ) → i ≡ 147 + q → me ≡ (v, []) → q < 64 → v.out ≡ 0 → v.seen.named ≡ 0 → Holds 17 v.seen → decides_at v.seen.front q + 1 < 2 ^ 64 → 0 < v.seen.shares
      → Allows (Agrees part suits m limit base) slots id me i (λ n. (n + 1) % 2 ^ 64) (raised (step slots i 1 0 none) me)
  stages_raised_at slots id me v q i at is l rest unnamed book fits left =
      subst (λ (z : ℕ × Mine). Allows (Agrees part suits m limit base) slots id z.1 z.0 (λ n. (n + 1) % 2 ^ 64) (raised (step slots z.0 1 0 none) z.1)) (λ j. (sym at j, sym is j)) (stages_raised slots id v q l rest unnamed book fits left)

  pub loads_stage : (slots id : ℕ) (me : Mine) (i : ℕ) → 0 < me.0.seen.shares → (q : ℕ) → i ≡ 147 + q → q < 64 → Allows (Agrees part suits m limit base) slots id me i (λ n. n) (loaded (step slots i 0 0 none) me)
  loads_stage slots id me i left q is l s r deep at small = let v : View = me.0 in let w : View = view_has_loaded q (get_or s.words i 0) v in let h : List Entry = r.history in let is_m : v.seen.input ≡ m = r.fronts.same id v at left in
      let word : get_or s.words (147 + q) 0 ≡ get_or s.words i 0 = ap (λ (n : ℕ). get_or s.words n 0) (sym is) in
      let least : decides_at h q ≤ get_or s.words (147 + q) 0 = dite (ℕ_discrete (get_or s.words 17 0) 0)
      (λ free. let e = r.stages.settled free q l in omega (arith, e))
      (λ taken. let t = r.locks.taken 17 (omega arith) taken in let e = r.stages.raised (r.owner 17) t.0 t.2.0 q t.1 t.2.1 l in omega (arith, e)) in (
        w,
        keeps,
        tt,
        unmoved part suits m limit base s r id v w i me.1 at left refl refl refl refl refl refl refl refl refl (w.seen.front, refl),
        λ p e _. let same : q ≡ p = omega (arith, is, e) in (
          (λ j. (view_has_loaded (same j) (get_or s.words i 0) v, me.1)),
          (h, r.fronts.begins id v at, subst (λ (z : ℕ). decides_at h z ≤ get_or s.words i 0) same (subst (λ (n : ℕ). decides_at h q ≤ n) word least)),
        ),
      )
