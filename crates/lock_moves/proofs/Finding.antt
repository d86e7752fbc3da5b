-- What is found in the list of what a seat holds, and in a list of views of which one was changed.
use Rattle.std.proofs.Common.{◌≡◌, ℕ, zero, suc, ◌<◌, ◌≢◌, ◌≤◌, ◌||◌, Bool, true, false, cond, eqb, List, [], ◌∷◌, set, Option, Some, None, sym, refl, ap, ◌∙◌, subst, ⊎_elim, eq-eqb, ne_eqb, arith}
use mathlib.Core.Logic.{dite}
use mathlib.Core.Option.{some, some-injective, some-ne-none}
use native.Mathlib.Decide.{ℕ_discrete}
use lib.ListN.{get_elem?}
use Rattle.atomic_table.proofs.Lists.{at_set, set_else}
use Rattle.journal_core.specs.Parts.{lists}
use Rattle.journal_core.specs.Histories.{part_at, home_at, NamesStandOnce}
use Rattle.std.specs.declared.snapshot.Snapshot.{Snapshot}
use Rattle.journal_core.specs.Books.{Chronicle}
use Rattle.sched_model.specs.declared.event.Entry.{Entry}
use Rattle.sched_model.specs.declared.machine.Machine.{Machine}
use Rattle.lock_moves.specs.declared.content.Content.{Content}
use Rattle.lock_moves.specs.declared.content.Content.TheVariants.{Value, Ledger, Told}
use Rattle.lock_moves.specs.SeatSight.{Known, known_part, find_lock, locks_without, refreshed_locks, has_place}

-- a part lists the names whose home is its lock
pub lists-part : (m : Machine) (h : List Entry) (k n : ℕ) → k < 17 → n < 128 → NamesStandOnce m h → lists (part_at m h k) n ≡ eqb (home_at m h n) k
lists-part m h k n low l once = once k n low l

abbrev found_or : Known → Option Known → Known
found_or d None = d
found_or d (Some x) = x

abbrev pub IsThere : Option Known → Type 0
IsThere None = ⊥
IsThere (Some x) = Unit {0}

pub some_same : (x y : Known) → Some x ≡ Some y → x ≡ y
some_same x y e = ap (found_or x) e

pub never : (x : Known) → None ≡ Some x → ⊥
never x e = subst IsThere (sym e) tt

pub none_or : (o : Option Known) → ((x : Known) → o ≡ Some x → ⊥) → o ≡ None
none_or None f = refl
none_or (Some x) f = absurd (f x refl)

pub find-head : (k : ℕ) (x : Known) (xs : List (ℕ × Known)) → find_lock k ((k, x) ∷ xs) ≡ Some x
find-head k x xs = ap (λ b. cond b (Some x) (find_lock k xs)) (eq-eqb k k refl)

pub find-tail : (k j : ℕ) (x : Known) (xs : List (ℕ × Known)) → k ≢ j → find_lock k ((j, x) ∷ xs) ≡ find_lock k xs
find-tail k j x xs ne = ap (λ b. cond b (Some x) (find_lock k xs)) (ne_eqb k j ne)

pub find-without-same : (k : ℕ) (xs : List (ℕ × Known)) → find_lock k (locks_without k xs) ≡ None
find-without-same k [] = refl
find-without-same k (x ∷ xs) = dite (ℕ_discrete k x.0)
    (λ e. ap (λ b. find_lock k (cond b (locks_without k xs) (x ∷ locks_without k xs))) (eq-eqb k x.0 e) ∙ find-without-same k xs)
    (λ ne. ap (λ b. find_lock k (cond b (locks_without k xs) (x ∷ locks_without k xs))) (ne_eqb k x.0 ne) ∙ (find-tail k x.0 x.1 (locks_without k xs) ne ∙ find-without-same k xs))

pub find-without-other : (k j : ℕ) (xs : List (ℕ × Known)) → j ≢ k → find_lock j (locks_without k xs) ≡ find_lock j xs
find-without-other k j [] ne = refl
find-without-other k j (x ∷ xs) ne = dite (ℕ_discrete k x.0)
    (λ e. ap (λ b. find_lock j (cond b (locks_without k xs) (x ∷ locks_without k xs))) (eq-eqb k x.0 e) ∙ (find-without-other k j xs ne ∙ sym (find-tail j x.0 x.1 xs (λ same. ne (same ∙ sym e)))))
    (λ other. ap (λ b. find_lock j (cond b (locks_without k xs) (x ∷ locks_without k xs))) (ne_eqb k x.0 other) ∙ ap (λ o. cond (eqb j x.0) (Some x.1) o) (find-without-other k j xs ne))

pub find-refreshed : (m : Machine) (h : List Entry) (k : ℕ) (xs : List (ℕ × Known)) (y : Known) → find_lock k (refreshed_locks m h xs) ≡ Some y → (x : Known) × (find_lock k xs ≡ Some x) × (y.part ≡ part_at m h k) × (y.names ≡ x.names)
find-refreshed m h k [] y e = absurd (never y e)
find-refreshed m h k (x ∷ xs) y e = dite (ℕ_discrete k x.0)
    (λ here. let is : known_part (part_at m h x.0) x.1.names ≡ y = some_same (known_part (part_at m h x.0) x.1.names) y (sym (ap (λ b. cond b (Some (known_part (part_at m h x.0) x.1.names)) (find_lock k (refreshed_locks m h xs))) (eq-eqb k x.0 here)) ∙ e) in (
      x.1,
      ap (λ b. cond b (Some x.1) (find_lock k xs)) (eq-eqb k x.0 here),
      ap (λ (z : Known). z.part) (sym is) ∙ ap (part_at m h) (sym here),
      ap (λ (z : Known). z.names) (sym is),
    ))
    (λ other. let t = find-refreshed m h k xs y (sym (find-tail k x.0 (known_part (part_at m h x.0) x.1.names) (refreshed_locks m h xs) other) ∙ e) in (
      t.0,
      find-tail k x.0 x.1 xs other ∙ t.1,
      t.2,
      t.3,
    ))

pub find-refreshed-is : (m : Machine) (h : List Entry) (k : ℕ) (xs : List (ℕ × Known)) (x : Known) → find_lock k xs ≡ Some x → find_lock k (refreshed_locks m h xs) ≡ Some (known_part (part_at m h k) x.names)
find-refreshed-is m h k [] x e = absurd (never x e)
find-refreshed-is m h k (q ∷ xs) x e = dite (ℕ_discrete k q.0)
    (λ is. let same : q.1 ≡ x = some_same q.1 x (sym (ap (λ b. cond b (Some q.1) (find_lock k xs)) (eq-eqb k q.0 is)) ∙ e) in
    ap (λ b. cond b (Some (known_part (part_at m h q.0) q.1.names)) (find_lock k (refreshed_locks m h xs))) (eq-eqb k q.0 is) ∙ (λ i. Some (known_part (part_at m h (sym is i)) (same i).names)))
    (λ ne. find-tail k q.0 (known_part (part_at m h q.0) q.1.names) (refreshed_locks m h xs) ne ∙ find-refreshed-is m h k xs x (sym (find-tail k q.0 q.1 xs ne) ∙ e))

pub find-refreshed-none : (m : Machine) (h : List Entry) (k : ℕ) (xs : List (ℕ × Known)) → find_lock k xs ≡ None → find_lock k (refreshed_locks m h xs) ≡ None
find-refreshed-none m h k [] e = refl
find-refreshed-none m h k (q ∷ xs) e = dite (ℕ_discrete k q.0)
    (λ is. absurd (never q.1 (sym e ∙ ap (λ b. cond b (Some q.1) (find_lock k xs)) (eq-eqb k q.0 is))))
    (λ ne. find-tail k q.0 (known_part (part_at m h q.0) q.1.names) (refreshed_locks m h xs) ne ∙ find-refreshed-none m h k xs (sym (find-tail k q.0 q.1 xs ne) ∙ e))

-- a list in which no lock is found is empty
pub none_held : (xs : List (ℕ × Known)) → ((k : ℕ) → find_lock k xs ≡ None) → xs ≡ []
none_held [] none = refl
none_held (x ∷ xs) none = absurd (never x.1 (sym (none x.0) ∙ find-head x.0 x.1 xs))

module _ {A : Type 0} where
  pub set_there : (l : List A) (i : ℕ) (a b : A) → get_elem? l i ≡ some b → get_elem? (set l i a) i ≡ some a
  set_there [] i a b e = absurd (some-ne-none b (sym e))
  set_there (x ∷ xs) zero a b e = refl
  set_there (x ∷ xs) (suc i) a b e = set_there xs i a b e

  -- what holds of each, where one was changed
  pub set_all : (P : ℕ → A → Type 0) (l : List A) (i : ℕ) (a : A) → P i a → ((j : ℕ) (b : A) → j ≢ i → get_elem? l j ≡ some b → P j b) → (j : ℕ) (b : A) → get_elem? (set l i a) j ≡ some b → P j b
  set_all P l i a here there j b e = ⊎_elim
      (λ t. subst (λ (z : ℕ × A). P z.0 z.1) (λ n. (sym t.0 n, t.1 n)) here)
      (λ t. there j b t.0 t.1)
      (at_set l i j a b e)

  -- what holds of some one
  pub set_some : (P : A → Type 0) (l : List A) (i : ℕ) (a b : A) → get_elem? l i ≡ some a → (P a → P b) → (j : ℕ) → (c : A) × (get_elem? l j ≡ some c) × P c → (c : A) × (get_elem? (set l i b) j ≡ some c) × P c
  set_some P l i a b e f j t = dite (ℕ_discrete j i)
      (λ same. let is : t.0 ≡ a = some-injective t.0 a (sym t.1 ∙ (ap (get_elem? l) same ∙ e)) in (b, ap (get_elem? (set l i b)) same ∙ set_there l i b a e, f (subst P is t.2)))
      (λ other. (t.0, set_else l i j b other ∙ t.1, t.2))

-- the numbers below n for which f is true
abbrev pub listed : (ℕ → Bool) → ℕ → List ℕ
listed f zero = []
listed f (suc n) = cond (f n) (n ∷ listed f n) (listed f n)

listed-below : (f : ℕ → Bool) (m n : ℕ) → m ≤ n → has_place n (listed f m) ≡ false
listed-below f zero n l = refl
listed-below f (suc m) n l = elim (f m) as (λ b. has_place n (cond b (m ∷ listed f m) (listed f m)) ≡ false) [
  | true ↦ ap (λ b. b || has_place n (listed f m)) (ne_eqb n m (λ e. absurd (omega (arith, e, l)))) ∙ listed-below f m n (omega (arith, l))
  | false ↦ listed-below f m n (omega (arith, l))
]

listed-top : (f : ℕ → Bool) (m n : ℕ) → n ≡ m → (b : Bool) → f m ≡ b → has_place n (cond b (m ∷ listed f m) (listed f m)) ≡ f n
listed-top f m n e true is = ap (λ b. b || has_place n (listed f m)) (eq-eqb n m e) ∙ (sym is ∙ ap f (sym e))
listed-top f m n e false is = listed-below f m n (omega (arith, e)) ∙ (sym is ∙ ap f (sym e))

pub listed-has : (f : ℕ → Bool) (m n : ℕ) → n < m → has_place n (listed f m) ≡ f n
listed-has f zero n l = absurd (omega (arith, l))
listed-has f (suc m) n l = dite (ℕ_discrete n m)
    (λ e. listed-top f m n e (f m) refl)
    (λ ne. elim (f m) as (λ b. has_place n (cond b (m ∷ listed f m) (listed f m)) ≡ f n) [
      | true ↦ ap (λ b. b || has_place n (listed f m)) (ne_eqb n m ne) ∙ listed-has f m n (omega (arith, ne, l))
      | false ↦ listed-has f m n (omega (arith, ne, l))
    ])

module _ {V : Type 0} where
  abbrev pub content_or : Content V → List (ℕ × Content V) → Content V
  content_or d [] = d
  content_or d (x ∷ xs) = x.1

  abbrev value_or : V → Content V → V
  value_or d (Value y) = y
  value_or d _ = d

  abbrev pub ledger_or : Chronicle → Content V → Chronicle
  ledger_or d (Ledger b) = b
  ledger_or d _ = d

  -- what came out of a slot is what the step said of it
  pub value_out : (k : ℕ) (x y : V) (c : Content V) (slots xs ys : List (ℕ × Content V)) → slots ≡ (k, Value x) ∷ xs → slots ≡ (k, c) ∷ ys → c ≡ Value y → y ≡ x
  value_out k x y c slots xs ys a b e = ap (λ (l : List (ℕ × Content V)). value_or x (content_or c l)) (ap (λ (z : Content V). (k, z) ∷ ys) (sym e) ∙ (sym b ∙ a))

  pub ledger_out : (k : ℕ) (x y : Chronicle) (c : Content V) (slots xs ys : List (ℕ × Content V)) → slots ≡ (k, Ledger x) ∷ xs → slots ≡ (k, c) ∷ ys → c ≡ Ledger y → y ≡ x
  ledger_out k x y c slots xs ys a b e = ap (λ (l : List (ℕ × Content V)). ledger_or x (content_or c l)) (ap (λ (z : Content V). (k, z) ∷ ys) (sym e) ∙ (sym b ∙ a))

  abbrev as_ledger : Chronicle → Content V
  as_ledger b = Ledger b

  pub ledger_same : (x y : Chronicle) → as_ledger x ≡ as_ledger y → x ≡ y
  ledger_same x y e = ap (ledger_or x) e

  abbrev told_or : Snapshot Chronicle → Content V → Snapshot Chronicle
  told_or d (Told b) = b
  told_or d _ = d

  abbrev as_told : Snapshot Chronicle → Content V
  as_told b = Told b

  pub told_same : (x y : Snapshot Chronicle) → as_told x ≡ as_told y → x ≡ y
  told_same x y e = ap (told_or x) e
