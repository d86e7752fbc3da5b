-- Ranks: how many arrived earlier.
use Rattle.std.proofs.Common.{◌≡◌, ℕ, ◌+◌, ◌<◌, ◌≤◌, List, [], ◌∷◌, ◌++◌, length, set, false, refl, sym, ◌∙◌, ap, inl, inr, arith}
use Rattle.std.specs.Prelude.{◌==◌, nat_lt}
use Rattle.std.proofs.lemmas.Bool.{cases_lt, lt-ltb, le-ltb}
use Rattle.std.proofs.lemmas.List.{get_or-set_same, get_or-set_other}
use Rattle.std.proofs.lemmas.List.Sums.{count_by-le-length, sum_by-append}
use Rattle.sched_base.proofs.Bools.{or_left, or_right}
use Rattle.unit_ring.specs.Lists.{Item, has_node}
use Rattle.arrival_queue.specs.Tables.{Tabled, rank, arrival_at}
use Rattle.arrival_queue.proofs.Splits.{not_same, count-split}
use Rattle.sched_base.specs.Numbers.{one_if}

pub rank-cons : (arrivals : List ℕ) (x : Item) (xs : List Item) (a : ℕ) → rank arrivals (x ∷ xs) a ≡ one_if (nat_lt (arrival_at arrivals x.node) a) + rank arrivals xs a
rank-cons arrivals x xs a =
    let f : Item → ℕ = λ y. one_if (nat_lt (arrival_at arrivals y.node) a) in
    let whole : rank arrivals (x ∷ xs) a ≡ rank arrivals (x ∷ []) a + rank arrivals xs a = sum_by-append f (x ∷ []) xs in
    omega (arith, whole)

-- a later number has no lower rank
pub rank-mono : (arrivals : List ℕ) (xs : List Item) (a b : ℕ) → a ≤ b → rank arrivals xs a ≤ rank arrivals xs b
rank-mono arrivals [] a b low = omega arith
rank-mono arrivals (x ∷ xs) a b low =
    let rest = rank-mono arrivals xs a b low in
    let at_a = rank-cons arrivals x xs a in
    let at_b = rank-cons arrivals x xs b in
    let n = arrival_at arrivals x.node in
    elim (cases_lt n a) [
      | inl less ↦
          let one : one_if (nat_lt n a) ≡ 1 = ap one_if (lt-ltb n a less) in
          let two : one_if (nat_lt n b) ≡ 1 = ap one_if (lt-ltb n b (omega (arith, less, low))) in
          omega (arith, rest, one, two, at_a, at_b)
      | inr more ↦ let none : one_if (nat_lt n a) ≡ 0 = ap one_if (le-ltb n a more) in omega (arith, rest, none, at_a, at_b)
    ]

-- the rank after an item's arrival is more than the item's
pub rank-strict : (arrivals : List ℕ) (l r : List Item) (x : Item) (b : ℕ) → arrival_at arrivals x.node < b
    → rank arrivals (l ++ x ∷ r) (arrival_at arrivals x.node) < rank arrivals (l ++ x ∷ r) b
rank-strict arrivals l r x b low =
    let a = arrival_at arrivals x.node in
    let here = count-split (λ (y : Item). nat_lt (arrival_at arrivals y.node) a) l r x in
    let there = count-split (λ (y : Item). nat_lt (arrival_at arrivals y.node) b) l r x in
    let none : one_if (nat_lt a a) ≡ 0 = ap one_if (le-ltb a a (omega arith)) in
    let one : one_if (nat_lt a b) ≡ 1 = ap one_if (lt-ltb a b low) in
    omega (arith, here, there, none, one, rank-mono arrivals (l ++ r) a b (omega (arith, low)))

-- ranks compare as arrivals do
pub rank-test : (arrivals : List ℕ) (l r : List Item) (x : Item) (b : ℕ)
    → nat_lt (rank arrivals (l ++ x ∷ r) (arrival_at arrivals x.node)) (rank arrivals (l ++ x ∷ r) b) ≡ nat_lt (arrival_at arrivals x.node) b
rank-test arrivals l r x b =
    let a = arrival_at arrivals x.node in
    elim (cases_lt a b) [
      | inl less ↦ lt-ltb (rank arrivals (l ++ x ∷ r) a) (rank arrivals (l ++ x ∷ r) b) (rank-strict arrivals l r x b less) ∙ sym (lt-ltb a b less)
      | inr more ↦ le-ltb (rank arrivals (l ++ x ∷ r) a) (rank arrivals (l ++ x ∷ r) b) (rank-mono arrivals (l ++ x ∷ r) b a more) ∙ sym (le-ltb a b more)
    ]

-- another node's arrival is written
pub arrival-set : (arrivals : List ℕ) (n a m : ℕ) → (m == n) ≡ false → arrival_at (set arrivals n a) m ≡ arrival_at arrivals m
arrival-set arrivals n a m other = get_or-set_other arrivals n m a 0 (not_same m n other)

pub rank-set : (arrivals : List ℕ) (n a b : ℕ) (xs : List Item) → has_node n xs ≡ false → rank (set arrivals n a) xs b ≡ rank arrivals xs b
rank-set arrivals n a b [] none = refl
rank-set arrivals n a b (x ∷ xs) none =
    rank-cons (set arrivals n a) x xs b
    ∙ ap (λ (m : ℕ). one_if (nat_lt m b) + rank (set arrivals n a) xs b) (arrival-set arrivals n a x.node (or_left (x.node == n) (has_node n xs) none))
    ∙ ap (λ (m : ℕ). one_if (nat_lt (arrival_at arrivals x.node) b) + m) (rank-set arrivals n a b xs (or_right (x.node == n) (has_node n xs) none))
    ∙ sym (rank-cons arrivals x xs b)

-- with one item more
pub rank-in : (arrivals : List ℕ) (l r : List Item) (new : Item) (a b : ℕ) → has_node new.node (l ++ r) ≡ false → new.node < length arrivals
    → rank (set arrivals new.node a) (l ++ new ∷ r) b ≡ rank arrivals (l ++ r) b + one_if (nat_lt a b)
rank-in arrivals l r new a b none low =
    let whole = count-split (λ (y : Item). nat_lt (arrival_at (set arrivals new.node a) y.node) b) l r new in
    let mine : arrival_at (set arrivals new.node a) new.node ≡ a = get_or-set_same arrivals new.node a 0 low in
    let one : one_if (nat_lt (arrival_at (set arrivals new.node a) new.node) b) ≡ one_if (nat_lt a b) = ap (λ (m : ℕ). one_if (nat_lt m b)) mine in
    omega (arith, whole, one, rank-set arrivals new.node a b (l ++ r) none)

-- with one item less
pub rank-out : (arrivals : List ℕ) (l r : List Item) (old : Item) (b : ℕ)
    → rank arrivals (l ++ old ∷ r) b ≡ rank arrivals (l ++ r) b + one_if (nat_lt (arrival_at arrivals old.node) b)
rank-out arrivals l r old b =
    let whole = count-split (λ (y : Item). nat_lt (arrival_at arrivals y.node) b) l r old in omega (arith, whole)

-- all items arrived before the next number
pub rank-all : (places next : ℕ) (arrivals : List ℕ) (xs : List Item) (b : ℕ) → Tabled places next arrivals xs → next ≤ b → rank arrivals xs b ≡ length xs
rank-all places next arrivals [] b t rise = refl
rank-all places next arrivals (x ∷ xs) b t rise =
    let n = arrival_at arrivals x.node in
    let one : one_if (nat_lt n b) ≡ 1 = ap one_if (lt-ltb n b (omega (arith, t.1, rise))) in
    omega (arith, one, rank-cons arrivals x xs b, rank-all places next arrivals xs b t.3 rise)

pub rank-most : (arrivals : List ℕ) (xs : List Item) (b : ℕ) → rank arrivals xs b ≤ length xs
rank-most arrivals xs b = count_by-le-length (λ x. nat_lt (arrival_at arrivals x.node) b) xs
