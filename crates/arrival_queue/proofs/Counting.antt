-- How many units of a list pass a test: with one put at its place, without one, and after a change of each.
use Rattle.std.proofs.Common.{◌≡◌, ℕ, ◌+◌, ◌≤◌, List, [], ◌∷◌, ◌++◌, length, map, Bool, true, false, refl, ap, arith}
use Rattle.std.specs.Prelude.{◌==◌, ◌||◌, ◌&&◌, if◌then◌else◌, count_by}
use Rattle.std.proofs.lemmas.List.Sums.{sum_by-cons, sum_by-append}
use Rattle.sched_base.specs.declared.UnitId.{UnitId}
use Rattle.sched_base.proofs.Bools.{or_left, or_right}
use Rattle.arrival_queue.specs.Queues.{Queued, put_first, is_of, has_unit, list_without, rank_in}
use Rattle.arrival_queue.specs.Order.{has_rank}
use Rattle.sched_base.specs.Numbers.{one_if}

pub count-cons : (p : Queued → Bool) (e : Queued) (es : List Queued) → count_by p (e ∷ es) ≡ one_if (p e) + count_by p es
count-cons p e es = sum_by-cons (λ (x : Queued). one_if (p x)) e es

pub count-append : (p : Queued → Bool) (xs ys : List Queued) → count_by p (xs ++ ys) ≡ count_by p xs + count_by p ys
count-append p xs ys = sum_by-append (λ (x : Queued). one_if (p x)) xs ys

-- with one put before the first that passes a test
pub count-put : (p t : Queued → Bool) (new : Queued) (xs : List Queued) → count_by p (put_first t new xs) ≡ one_if (p new) + count_by p xs
count-put p t new [] = count-cons p new []
count-put p t new (x ∷ xs) =
    elim (t x) as (λ b. count_by p (if b then new ∷ x ∷ xs else x ∷ put_first t new xs) ≡ one_if (p new) + count_by p (x ∷ xs)) [
      | true ↦ count-cons p new (x ∷ xs)
      | false ↦ omega (arith, count-cons p x (put_first t new xs), count-put p t new xs, count-cons p x xs)
    ]

pub length-put : (t : Queued → Bool) (new : Queued) (xs : List Queued) → length (put_first t new xs) ≡ length xs + 1
length-put t new [] = refl
length-put t new (x ∷ xs) =
    elim (t x) as (λ b. length (if b then new ∷ x ∷ xs else x ∷ put_first t new xs) ≡ length (x ∷ xs) + 1) [
      | true ↦ omega arith
      | false ↦ omega (arith, length-put t new xs)
    ]

-- after a change of each
pub count-map : (p : Queued → Bool) (f : Queued → Queued) (xs : List Queued) → count_by p (map f xs) ≡ count_by (λ x. p (f x)) xs
count-map p f [] = refl
count-map p f (x ∷ xs) = omega (arith, count-cons p (f x) (map f xs), count-map p f xs, count-cons (λ y. p (f y)) x xs)

-- tests that agree wherever a third fails, of a list where it fails
pub count-alike : (p q r : Queued → Bool) (xs : List Queued) → ((x : Queued) → r x ≡ false → p x ≡ q x) → count_by r xs ≡ 0 → count_by p xs ≡ count_by q xs
count-alike p q r [] same none = refl
count-alike p q r (x ∷ xs) same none =
    let here : one_if (r x) ≡ 0 = omega (arith, none, count-cons r x xs) in
    let rest : count_by r xs ≡ 0 = omega (arith, none, count-cons r x xs) in
    let fails : (t : Bool) → one_if t ≡ 0 → t ≡ false = λ t. elim t as (λ b. one_if b ≡ 0 → b ≡ false) [ true ↦ λ e. absurd (omega (arith, e)) | false ↦ λ e. refl ] in
    let one : one_if (p x) ≡ one_if (q x) = ap one_if (same x (fails (r x) here)) in
    omega (arith, one, count-cons p x xs, count-cons q x xs, count-alike p q r xs same rest)

pub count-same : (p q : Queued → Bool) (xs : List Queued) → ((x : Queued) → p x ≡ q x) → count_by p xs ≡ count_by q xs
count-same p q xs same = count-alike p q (λ _. false) xs (λ x _. same x) (none xs)
  where
    none : (ys : List Queued) → count_by (λ (_ : Queued). false) ys ≡ 0
    none [] = refl
    none (y ∷ ys) = omega (arith, count-cons (λ (_ : Queued). false) y ys, none ys)

-- without a unit
pub count-without : (p : Queued → Bool) (u : UnitId) (xs : List Queued)
    → count_by p (list_without u xs) + count_by (λ x. is_of u x && p x) xs ≡ count_by p xs
count-without p u [] = refl
count-without p u (x ∷ xs) =
    let rest = count-without p u xs in
    let whole = count-cons p x xs in
    let mine = count-cons (λ y. is_of u y && p y) x xs in
    split (is_of u x) rest whole mine
  where
    split : (b : Bool) → count_by p (list_without u xs) + count_by (λ y. is_of u y && p y) xs ≡ count_by p xs → count_by p (x ∷ xs) ≡ one_if (p x) + count_by p xs
        → count_by (λ y. is_of u y && p y) (x ∷ xs) ≡ one_if (b && p x) + count_by (λ y. is_of u y && p y) xs
        → count_by p (if b then list_without u xs else x ∷ list_without u xs) + count_by (λ y. is_of u y && p y) (x ∷ xs) ≡ count_by p (x ∷ xs)
    split true rest whole mine = omega (arith, rest, whole, mine)
    split false rest whole mine = omega (arith, rest, whole, mine, count-cons p x (list_without u xs))

pub length-without : (u : UnitId) (xs : List Queued) → length (list_without u xs) + count_by (is_of u) xs ≡ length xs
length-without u [] = refl
length-without u (x ∷ xs) = split (is_of u x) (length-without u xs) (count-cons (is_of u) x xs)
  where
    split : (b : Bool) → length (list_without u xs) + count_by (is_of u) xs ≡ length xs → count_by (is_of u) (x ∷ xs) ≡ one_if b + count_by (is_of u) xs
        → length (if b then list_without u xs else x ∷ list_without u xs) + count_by (is_of u) (x ∷ xs) ≡ length (x ∷ xs)
    split true rest whole = omega (arith, rest, whole)
    split false rest whole = omega (arith, rest, whole)

pub without-append : (u : UnitId) (xs ys : List Queued) → list_without u (xs ++ ys) ≡ list_without u xs ++ list_without u ys
without-append u [] ys = refl
without-append u (x ∷ xs) ys =
    elim (is_of u x) as (λ b. (if b then list_without u (xs ++ ys) else x ∷ list_without u (xs ++ ys)) ≡ (if b then list_without u xs else x ∷ list_without u xs) ++ list_without u ys) [
      | true ↦ without-append u xs ys
      | false ↦ ap (λ (es : List Queued). x ∷ es) (without-append u xs ys)
    ]

-- a unit that is absent, or there
pub count-absent : (u : UnitId) (xs : List Queued) → has_unit u xs ≡ false → count_by (is_of u) xs ≡ 0
count-absent u [] none = refl
count-absent u (x ∷ xs) none =
    let here : one_if (is_of u x) ≡ 0 = ap one_if (or_left (is_of u x) (has_unit u xs) none) in
    omega (arith, here, count-cons (is_of u) x xs, count-absent u xs (or_right (is_of u x) (has_unit u xs) none))

pub count-here : (u : UnitId) (xs : List Queued) → has_unit u xs ≡ true → 1 ≤ count_by (is_of u) xs
count-here u [] has = absurd (cc)
count-here u (x ∷ xs) has = split (is_of u x) has (count-cons (is_of u) x xs) (count-here u xs)
  where
    split : (b : Bool) → (b || has_unit u xs) ≡ true → count_by (is_of u) (x ∷ xs) ≡ one_if b + count_by (is_of u) xs
        → (has_unit u xs ≡ true → 1 ≤ count_by (is_of u) xs) → 1 ≤ count_by (is_of u) (x ∷ xs)
    split true has whole rest = omega (arith, whole)
    split false has whole rest = omega (arith, whole, rest has)

pub has_unit-append : (u : UnitId) (xs ys : List Queued) → has_unit u (xs ++ ys) ≡ (has_unit u xs || has_unit u ys)
has_unit-append u [] ys = refl
has_unit-append u (x ∷ xs) ys =
    elim (is_of u x) as (λ b. (b || has_unit u (xs ++ ys)) ≡ ((b || has_unit u xs) || has_unit u ys)) [ true ↦ refl | false ↦ has_unit-append u xs ys ]

-- a unit that is there once has one rank
none_of : (p : Queued → Bool) (u : UnitId) (xs : List Queued) → count_by (is_of u) xs ≡ 0 → count_by (λ x. is_of u x && p x) xs ≡ 0
none_of p u [] none = refl
none_of p u (x ∷ xs) none = split (is_of u x) (count-cons (is_of u) x xs) (count-cons (λ y. is_of u y && p y) x xs) (none_of p u xs)
  where
    split : (b : Bool) → count_by (is_of u) (x ∷ xs) ≡ one_if b + count_by (is_of u) xs
        → count_by (λ y. is_of u y && p y) (x ∷ xs) ≡ one_if (b && p x) + count_by (λ y. is_of u y && p y) xs
        → (count_by (is_of u) xs ≡ 0 → count_by (λ y. is_of u y && p y) xs ≡ 0) → count_by (λ y. is_of u y && p y) (x ∷ xs) ≡ 0
    split true whole mine rest = absurd (omega (arith, none, whole))
    split false whole mine rest = let no : count_by (is_of u) xs ≡ 0 = omega (arith, none, whole) in omega (arith, mine, rest no)

pub count-rank : (u : UnitId) (r : ℕ) (xs : List Queued) → count_by (is_of u) xs ≤ 1 → has_unit u xs ≡ true
    → count_by (λ x. is_of u x && has_rank r x) xs ≡ one_if (rank_in u xs == r)
count-rank u r [] most has = absurd (cc)
count-rank u r (x ∷ xs) most has = split (is_of u x) has (count-cons (is_of u) x xs) (count-cons (λ y. is_of u y && has_rank r y) x xs) (count-rank u r xs)
  where
    split : (b : Bool) → (b || has_unit u xs) ≡ true → count_by (is_of u) (x ∷ xs) ≡ one_if b + count_by (is_of u) xs
        → count_by (λ y. is_of u y && has_rank r y) (x ∷ xs) ≡ one_if (b && has_rank r x) + count_by (λ y. is_of u y && has_rank r y) xs
        → (count_by (is_of u) xs ≤ 1 → has_unit u xs ≡ true → count_by (λ y. is_of u y && has_rank r y) xs ≡ one_if (rank_in u xs == r))
        → count_by (λ y. is_of u y && has_rank r y) (x ∷ xs) ≡ one_if ((if b then x.rank else rank_in u xs) == r)
    split true has whole mine rest =
        let no : count_by (is_of u) xs ≡ 0 = omega (arith, most, whole) in omega (arith, mine, none_of (has_rank r) u xs no)
    split false has whole mine rest =
        let low : count_by (is_of u) xs ≤ 1 = omega (arith, most, whole) in omega (arith, mine, rest low has)
