-- What is in a table whose one seat has all parts and holds nothing: the book of the seat's front, and the parts of its state.
use Rattle.std.proofs.Common.{◌≡◌, ◌⊎◌, inl, inr, ⊎_elim, ℕ, zero, suc, ◌+◌, ◌<◌, ◌≤◌, ◌≢◌, Bool, true, false, true≢false, List, [], ◌∷◌, ◌++◌, length, length-append, get_or, get_or-set_other, set, sym, refl, ap, ◌∙◌, subst, arith, lt_irrefl}
use mathlib.Core.Logic.{dite}
use mathlib.Core.Option.{some, some-injective, some-ne-none}
use native.Mathlib.Decide.{ℕ_discrete}
use lib.ListN.{get_elem?}
use Rattle.atomic_table.specs.Table.{Final, Seen, State}
use Rattle.journal_core.specs.Books.{Chronicle}
use Rattle.journal_core.specs.Histories.{part_at, now_at, NamesStandOnce}
use Rattle.journal_core.specs.Parts.{StatePart}
use Rattle.sched_model.specs.declared.event.Entry.{Entry}
use Rattle.sched_model.specs.declared.machine.Machine.{Machine}
use Rattle.lock_moves.specs.declared.content.Content.{Content}
use Rattle.lock_moves.specs.declared.content.Content.TheVariants.{Out, Value, Ledger, Told}
use Rattle.lock_moves.specs.SeatSight.{View, find_lock, has_place}
use Rattle.lock_moves.specs.Agreement.{shares_of, Fits, Agrees}
use Rattle.lock_moves.specs.TableContent.{AreParts, HaveParts, AreFirst}
use Rattle.lock_moves.proofs.Finding.{never}
use Rattle.lock_moves.proofs.Taking.{value_same}

at_least : (l : List View) (i : ℕ) (v : View) → get_elem? l i ≡ some v → v.seen.shares ≤ shares_of l
at_least [] i v e = absurd (some-ne-none v (sym e))
at_least (x ∷ xs) zero v e = let is = ap (λ (u : View). u.seen.shares) (some-injective x v e) in omega (arith, is)
at_least (x ∷ xs) (suc i) v e = let r = at_least xs i v e in omega (arith, r)

pub two_of : (l : List View) (i j : ℕ) (v u : View) → i ≢ j → get_elem? l i ≡ some v → get_elem? l j ≡ some u → v.seen.shares + u.seen.shares ≤ shares_of l
two_of [] i j v u ne e f = absurd (some-ne-none v (sym e))
two_of (x ∷ xs) zero zero v u ne e f = absurd (ne refl)
two_of (x ∷ xs) zero (suc j) v u ne e f = let is = ap (λ (u : View). u.seen.shares) (some-injective x v e) in let r = at_least xs j u f in omega (arith, is, r)
two_of (x ∷ xs) (suc i) zero v u ne e f = let is = ap (λ (u : View). u.seen.shares) (some-injective x u f) in let r = at_least xs i v e in omega (arith, is, r)
two_of (x ∷ xs) (suc i) (suc j) v u ne e f = let r = two_of xs i j v u (λ q. ne (ap suc q)) e f in omega (arith, r)

module _ {V : Type 0} (part : V → StatePart) (suits : Machine → ℕ → V → Type 0) (m : Machine) (limit base : ℕ) where
  -- the seat id has all parts, and the view v
  module _ (s : State (Content V) View) (r : Agrees part suits m limit base s) (id : ℕ) (v : View) (at : get_elem? s.views id ≡ some v) (whole : v.seen.shares ≡ 1024) where
    -- a seat that is left is this one
    only_seat : (j : ℕ) (u : View) → get_elem? s.views j ≡ some u → 0 < u.seen.shares → u ≡ v
    only_seat j u e left = dite (ℕ_discrete id j)
        (λ is. some-injective u v (sym e ∙ (ap (get_elem? s.views) (sym is) ∙ at)))
        (λ ne. let two = two_of s.views id j v u ne at e in let all = r.all_shares in absurd (omega (arith, two, all, whole, left)))

    front_is : v.seen.front ≡ r.history
    front_is = let n = r.fronts.newest in ap (λ (u : View). u.seen.front) (sym (only_seat r.latest n.0 n.1 n.3)) ∙ n.2

    input_is : v.seen.input ≡ m
    input_is = r.fronts.same id v at (omega (arith, whole))

    -- each lock is free
    all_free : v.seen.held ≡ [] → (k : ℕ) → k < 18 → get_or s.words k 0 ≡ 0
    all_free none_held k low = dite (ℕ_discrete (get_or s.words k 0) 0) (λ z. z) (λ nz. let t = r.locks.taken k low nz in dite (ℕ_discrete t.0.seen.shares 0)
        (λ spent. absurd (never t.2.0 (sym (ap (find_lock k) (r.fronts.spent (r.owner k) t.0 t.1 spent).1) ∙ t.2.1)))
        (λ left. let is = only_seat (r.owner k) t.0 t.1 (omega (arith, left)) in absurd (never t.2.0 (sym (ap (find_lock k) (ap (λ (u : View). u.seen.held) is ∙ none_held)) ∙ t.2.1))))

    own_place : (p : ℕ) → base ≤ p → p < length v.seen.front → has_place p v.seen.own ≡ true
    own_place p l g = let c = r.fronts.covers p l (subst (λ (z : List Entry). p < length z) front_is g) in dite (ℕ_discrete c.0.seen.shares 0)
        (λ spent. absurd (true≢false (sym (sym (ap (has_place p) (r.fronts.spent (r.keeper p) c.0 c.1 spent).0) ∙ c.2))))
        (λ left. ap (λ (u : View). has_place p u.seen.own) (sym (only_seat (r.keeper p) c.0 c.1 (omega (arith, left)))) ∙ c.2)

  -- the book at the end
  abbrev pub Leaves : View → List (Content V) → Type 0
  Leaves v xs = (b : Chronicle) × (get_elem? xs 17 ≡ some (Ledger b)) × (b.input ≡ v.seen.input) × (b.history ≡ v.seen.front) × (b.limit ≡ v.seen.limit) × ((p : ℕ) → base ≤ p → p < length v.seen.front → has_place p v.seen.own ≡ true)

  ledger_there : (h : List Entry) (y : Content V) → Fits part m limit h 17 y → (b : Chronicle) × (y ≡ Ledger b) × (b.input ≡ m) × (b.history ≡ h) × (b.limit ≡ limit)
  ledger_there h Out fits = absurd fits
  ledger_there h (Value x) fits = absurd (lt_irrefl 17 fits.0)
  ledger_there h (Ledger b) fits = (b, refl, fits.1, fits.2, fits.3)
  ledger_there h (Told b) fits = absurd fits

  pub leaves : (words : List ℕ) (xs : List (Content V)) (id : ℕ) (v : View) → Final (Seen (Agrees part suits m limit base) id v) words xs → v.seen.shares ≡ 1024 → v.seen.held ≡ [] → Leaves v xs
  leaves words xs id v f whole none_held = let s = f.0 in let r = f.1.0 in let at = f.1.1 in
      let y = r.locks.free 17 (omega arith) (all_free s r id v at whole none_held 17 (omega arith)) in let b = ledger_there r.history y.0 y.2 in (
        b.0,
        f.4 17 (Ledger b.0) (y.1 ∙ ap (λ (z : Content V). some (some z)) b.1),
        b.2 ∙ sym (input_is s r id v at whole),
        b.3 ∙ sym (front_is s r id v at whole),
        b.4 ∙ sym (r.fronts.limits id v at (omega (arith, whole))),
        own_place s r id v at whole,
      )

  value_there : (h : List Entry) (k : ℕ) (y : Content V) → k < 17 → Fits part m limit h k y → (x : V) × (y ≡ Value x) × (part x ≡ part_at m h k)
  value_there h k Out low fits = absurd fits
  value_there h k (Value x) low fits = (x, refl, fits.1)
  value_there h k (Ledger b) low fits = let is = fits.0 in absurd (omega (arith, is, low))
  value_there h k (Told b) low fits = absurd fits

  pub leaves_parts : (words : List ℕ) (xs : List (Content V)) (id : ℕ) (v : View) → Final (Seen (Agrees part suits m limit base) id v) words xs → v.seen.shares ≡ 1024 → v.seen.held ≡ [] → HaveParts part suits v.seen.input v.seen.front xs
  leaves_parts words xs id v f whole none_held k low = let s = f.0 in let r = f.1.0 in let at = f.1.1 in
      let free = all_free s r id v at whole none_held in let y = r.locks.free k (omega (arith, low)) (free k (omega (arith, low))) in let x = value_there r.history k y.0 low y.2 in
      let home : get_elem? s.homes k ≡ some (some (Value x.0)) = y.1 ∙ ap (λ (z : Content V). some (some z)) x.1 in
      let moment = (r.names.settled (free 17 (omega arith))).1 in
      let is_m = sym (input_is s r id v at whole) in let is_h = sym (front_is s r id v at whole) in (
        x.0,
        f.4 k (Value x.0) home,
        subst (λ (z : Machine × List Entry). part x.0 ≡ part_at z.0 z.1 k) (λ i. (is_m i, is_h i)) x.2,
        subst (λ (z : Machine × List Entry). suits z.0 (now_at z.0 z.1) x.0) (λ i. (is_m i, is_h i)) (subst (λ (t : ℕ). suits m t x.0) moment (r.suited k x.0 low (free k (omega (arith, low))) home)),
      )

  pub leaves_names : (words : List ℕ) (xs : List (Content V)) (id : ℕ) (v : View) → Final (Seen (Agrees part suits m limit base) id v) words xs → v.seen.shares ≡ 1024 → NamesStandOnce v.seen.input v.seen.front
  leaves_names words xs id v f whole = let s = f.0 in let r = f.1.0 in let at = f.1.1 in
      let is_m = sym (input_is s r id v at whole) in let is_h = sym (front_is s r id v at whole) in
      subst (λ (z : Machine × List Entry). NamesStandOnce z.0 z.1) (λ i. (is_m i, is_h i)) r.sound.names

index_below : {A : Type 0} (l : List A) (i : ℕ) (a : A) → get_elem? l i ≡ some a → i < length l
index_below [] i a e = absurd (some-ne-none a (sym e))
index_below (x ∷ xs) zero a e = omega arith
index_below (x ∷ xs) (suc i) a e = let r = index_below xs i a e in omega (arith, r)

module _ {V : Type 0} (part : V → StatePart) (suits : Machine → ℕ → V → Type 0) where
  -- the values that were taken out of their slots are the parts of the book's state
  pub are_parts : (b : Chronicle) (contents : List (Content V)) (values : List V) → HaveParts part suits b.input b.history contents → AreFirst 17 contents values → AreParts part suits b values
  are_parts b contents values have first =
      let found : (k : ℕ) (x : V) → get_elem? values k ≡ some x → (part x ≡ part_at b.input b.history k) × suits b.input (now_at b.input b.history) x = λ k x e.
      let low : k < length values = index_below values k x e in let len = first.0 in
      let y = have k (omega (arith, low, len)) in let same : y.0 ≡ x = value_same y.0 x (ap (λ z. some z) (sym y.1 ∙ first.1 k x e)) in
      subst (λ (z : V). (part z ≡ part_at b.input b.history k) × suits b.input (now_at b.input b.history) z) same (y.2, y.3) in
      record { all = first.0; each = λ k x e. (found k x e).0; suited = λ k x e. (found k x e).1 }

module _ {A : Type 0} where
  snoc_cases : (l : List A) (a b : A) (j : ℕ) → get_elem? (l ++ a ∷ []) j ≡ some b → (get_elem? l j ≡ some b) ⊎ ((j ≡ length l) × (a ≡ b))
  snoc_cases [] a b zero e = inr (refl, some-injective a b e)
  snoc_cases [] a b (suc j) e = absurd (some-ne-none b (sym e))
  snoc_cases (x ∷ xs) a b zero e = inl e
  snoc_cases (x ∷ xs) a b (suc j) e = ⊎_elim (λ q. inl q) (λ q. inr (ap suc q.0, q.1)) (snoc_cases xs a b j e)

module _ {V : Type 0} where
  -- one value more
  pub first_more : (contents : List (Content V)) (values : List V) (n : ℕ) (x : V) → AreFirst n contents values → get_elem? contents n ≡ some (Value x) → AreFirst (n + 1) contents (values ++ x ∷ [])
  first_more contents values n x first next = let len = length-append values (x ∷ []) in let is = first.0 in (
    omega (arith, len, is),
    λ k y e. ⊎_elim
        (λ q. first.1 k y q)
        (λ q. ap (get_elem? contents) (q.0 ∙ is) ∙ (next ∙ ap (λ (z : V). some (Value z)) q.1))
        (snoc_cases values x y k e),
  )

-- of the slots of the locks but the book's the first k are empty
abbrev pub Emptied : ℕ → List Bool → Type 0
Emptied k filled = ((j : ℕ) → k ≤ j → j < 17 → get_or filled j false ≡ true) × ((j : ℕ) → j < k → get_or filled j false ≡ false) × (get_or filled 17 false ≡ false)

-- a slot whose value was taken is empty
taken_empty : (filled : List Bool) (k : ℕ) → get_or (set filled k false) k false ≡ false
taken_empty [] k = refl
taken_empty (f ∷ fs) zero = refl
taken_empty (f ∷ fs) (suc k) = taken_empty fs k

-- one slot more is empty
pub emptied_more : (k : ℕ) (filled filled' : List Bool) → filled' ≡ set filled k false → k < 17 → Emptied k filled → Emptied (k + 1) filled'
emptied_more k filled filled' is low e = let other : (j : ℕ) → j ≢ k → get_or filled' j false ≡ get_or filled j false = λ j ne.
    ap (λ (fs : List Bool). get_or fs j false) is ∙ get_or-set_other filled k j false false ne in (
      (λ j above below. other j (λ q. absurd (omega (arith, above, q))) ∙ e.0 j (omega (arith, above)) below),
      (λ j below. dite (ℕ_discrete j k)
          (λ q. subst (λ (n : ℕ). get_or filled' n false ≡ false) (sym q) (ap (λ (fs : List Bool). get_or fs k false) is ∙ taken_empty filled k))
          (λ ne. other j ne ∙ e.1 j (omega (arith, below, ne)))),
      other 17 (λ q. absurd (omega (arith, low, q))) ∙ e.2,
    )
