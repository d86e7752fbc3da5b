-- The table as it is made keeps the rule.
use Rattle.std.proofs.Common.{◌≡◌, ℕ, zero, suc, ◌<◌, Bool, true, true≢false, eqb, List, [], ◌∷◌, ◌++◌, map, length, get_or, Some, None, sym, refl, ap, ◌∙◌, subst, arith, length-append}
use mathlib.Core.Logic.{dite}
use mathlib.Core.Option.{some, some-injective, some-ne-none}
use native.Mathlib.Decide.{ℕ_discrete}
use mathlib.Core.List.{IsPrefix}
use lib.ListN.{get_elem?, length-map}
use Rattle.atomic_table.specs.Table.{opening}
use Rattle.atomic_table.proofs.Lists.{at_index, at_longer, at_last, at_map}
use Rattle.journal_core.specs.Books.{Chronicle}
use Rattle.journal_core.specs.Parts.{StatePart}
use Rattle.journal_core.specs.Parts.{lists}
use Rattle.journal_core.specs.Histories.{home_at, IsSound, NamesStandOnce}
use Rattle.journal_core.proofs.Homes.{home-apart}
use Rattle.sched_model.specs.declared.event.Entry.{Entry}
use Rattle.sched_model.specs.declared.machine.Machine.{Machine}
use Rattle.lock_moves.proofs.Finding.{lists-part}
use Rattle.lock_moves.specs.declared.content.Content.{Content}
use Rattle.lock_moves.specs.declared.content.Content.TheVariants.{Value, Ledger}
use Rattle.lock_moves.specs.SeatSight.{Known, View, find_lock, has_place, Rising, view_opening}
use Rattle.lock_moves.specs.TableContent.{AreParts, IsOpening}
use Rattle.lock_moves.specs.Agreement.{Agrees}
use Rattle.lock_moves.proofs.Finding.{never}
use Rattle.lock_moves.proofs.Prefix.{prefix_refl}
use Rattle.lock_moves.proofs.Taking.{value_same}

module _ {A : Type 0} where
  alone : (P : ℕ → A → Type 0) (a : A) → P 0 a → (j : ℕ) (b : A) → get_elem? (a ∷ []) j ≡ some b → P j b
  alone P a here zero b e = subst (P 0) (some-injective a b e) here
  alone P a here (suc j) b e = absurd (some-ne-none b (sym e))

  there_is : (l : List A) (i : ℕ) → i < length l → (a : A) × (get_elem? l i ≡ some a)
  there_is [] i h = absurd (omega (arith, h))
  there_is (x ∷ xs) zero h = (x, refl)
  there_is (x ∷ xs) (suc i) h = there_is xs i (omega (arith, h))

module _ {V : Type 0} (part : V → StatePart) (suits : Machine → ℕ → V → Type 0) (b : Chronicle) (values : List V) (words : List ℕ) where
  abbrev slots : List (Content V)
  slots = map Value values ++ Ledger b ∷ []

  pub agrees_first : AreParts part suits b values → IsSound b.input b.history → IsOpening b words → Agrees part suits b.input b.limit (length b.history) (opening words slots (view_opening b))
  agrees_first m sound o = let v : View = view_opening b in let h : List Entry = b.history in
      let len : length (map Value values) ≡ 17 = length-map values Value ∙ m.all in
      let value : (k : ℕ) → k < 17 → (x : V) × (get_elem? values k ≡ some x) × (get_elem? (map some slots) k ≡ some (some (Value x))) = λ k low. let t = there_is values k (omega (arith, low, m.all)) in
      (t.0, t.1, at_map some slots k (Value t.0) (at_longer (map Value values) (Ledger b ∷ []) k (Value t.0) (at_map Value values k t.0 t.1))) in
      let nothing : (id : ℕ) (u : View) (k : ℕ) (x : Known) → get_elem? (v ∷ []) id ≡ some u → find_lock k u.seen.held ≡ Some x → ⊥ = λ id u k x e f. alone (λ _ u. (x : Known) → find_lock k u.seen.held ≡ Some x → ⊥) v (λ x f. never x f) id u e x f in record {
        history = h;
        owner = λ _. 0;
        keeper = λ _. 0;
        latest = 0;
        sound = sound;
        wide = o.wide;
        deep = length-map slots some ∙ (length-append (map Value values) (Ledger b ∷ []) ∙ omega (arith, len));
        suited = λ k y low _ home. let t = value k low in let same : t.0 ≡ y = value_same t.0 y (sym t.2 ∙ home) in
            subst (λ (q : V). suits b.input (get_or words 146 0) q) same (subst (λ (n : ℕ). suits b.input n t.0) (sym o.moment) (m.suited k t.0 t.1));
        locks = record {
          free = λ k low _. dite (ℕ_discrete k 17)
              (λ is. (Ledger b, (λ i. get_elem? (map some slots) (is i)) ∙ at_map some slots 17 (Ledger b) (at_last (map Value values) (Ledger b) 17 len), (is, refl, refl, refl)))
              (λ ne. let low' : k < 17 = omega (arith, low, ne) in let t = value k low' in (Value t.0, t.2, (low', m.each k t.0 t.1)));
          taken = λ k low nz. absurd (nz (o.free k low));
          held = λ id u k x e f. absurd (nothing id u k x e f);
        };
        names = record {
          free = λ k y n low _ home l. let t = value k low in let same : t.0 ≡ y = value_same t.0 y (sym t.2 ∙ home) in
              ap (λ (q : V). lists (part q) n) (sym same) ∙ (ap (λ (p : StatePart). lists p n) (m.each k t.0 t.1) ∙ (lists-part b.input h k n low l sound.names ∙ ap (λ (q : ℕ). eqb q k) (sym (o.names n l))));
          held = λ id u k x n e f _. absurd (nothing id u k x e f);
          moment = λ id u k x e f. absurd (nothing id u k x e f);
          settled = λ _. (o.names, o.moment);
          apart = λ n l e. home-apart b.input h n (sym (o.names n l) ∙ e);
          moving = λ id u x j n e f _ _. absurd (nothing id u 17 x e f);
        };
        stages = record {
          settled = λ _. o.stages;
          raised = λ id u x _ e f _. absurd (nothing id u 17 x e f);
          nobody = alone (λ _ u. find_lock 17 u.seen.held ≡ None → u.seen.named ≡ 0) v (λ _. refl);
        };
        fronts = record {
          same = alone (λ _ u. 0 < u.seen.shares → u.seen.input ≡ b.input) v (λ _. refl);
          limits = alone (λ _ u. 0 < u.seen.shares → u.seen.limit ≡ b.limit) v (λ _. refl);
          begins = alone (λ _ u. IsPrefix u.seen.front h) v (prefix_refl h);
          own = λ id u p e q. absurd (alone (λ _ u. has_place p u.seen.own ≡ true → ⊥) v (λ q. true≢false (sym q)) id u e q);
          covers = λ p l g. absurd (omega (arith, l, g));
          newest = (v, refl, refl, omega arith);
          rising = alone (λ _ u. Rising u.seen.own) v tt;
          spent = alone (λ _ u. u.seen.shares ≡ 0 → (u.seen.own ≡ []) × (u.seen.held ≡ [])) v (λ _. (refl, refl));
        };
        beside = alone (λ _ u. IsPrefix u.beside u.seen.front) v (v.seen.front, refl);
        all_shares = refl;
      }

module _ {V : Type 0} (part : V → StatePart) (suits : Machine → ℕ → V → Type 0) (b : Chronicle) (values : List V) where
  -- what the value k says of the name n
  pub says : (k n : ℕ) (x : V) (c : Bool) → AreParts part suits b values → NamesStandOnce b.input b.history → k < 17 → n < 128 → x ≡ get_or values k x → c ≡ lists (part x) n → eqb (home_at b.input b.history n) k ≡ c
  says k n x c m once low l is e = sym (e ∙ (ap (λ (p : StatePart). lists p n) (m.each k x (at_index values k x (omega (arith, low, m.all)) is)) ∙ lists-part b.input b.history k n low l once))
