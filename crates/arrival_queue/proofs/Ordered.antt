-- Each call keeps the order of the lists, each unit once, and the ranks.
use Rattle.std.proofs.Common.{◌≡◌, ℕ, ◌+◌, ◌-◌, ◌<◌, ◌≤◌, List, [], ◌∷◌, ◌++◌, length, map, Bool, true, false, refl, sym, ◌∙◌, ap, subst, inl, inr, arith, append_assoc, length-append}
use Rattle.std.specs.Prelude.{◌==◌, ◌&&◌, if◌then◌else◌, count_by, nat_lt}
use Rattle.std.proofs.lemmas.Bool.{cases_lt, cases_eq, eq-eqb, ne_eqb, lt-ltb, le-ltb, ltb-true}
use Rattle.std.proofs.lemmas.List.{length-map, map-append}
use Rattle.sched_base.specs.declared.UnitId.{UnitId}
use Rattle.unit_places.specs.Places.{number_of}
use Rattle.arrival_queue.specs.declared.key.Key.{Key}
use Rattle.arrival_queue.specs.Queues.{Queued, Queues, queued_unit, goes_before, list_with, is_of, has_unit, holds, list_without, rank_in, rank_of, count, after_insert, after_append, closed_up, after_remove, after_move}
use Rattle.arrival_queue.specs.Order.{GoesBeforeAll, IsInOrder, ArrivedBeforeAll, IsInArrival, has_rank, EachRankOnce, EachUnitOnce, IsOrdered}
use Rattle.arrival_queue.proofs.Changes.{rank_in-append}
use Rattle.arrival_queue.proofs.Counting.{count-cons, count-append, count-put, length-put, count-map, count-alike, count-same, count-without, length-without, without-append, count-absent, count-here, has_unit-append, count-rank}
use Rattle.sched_base.proofs.Bools.{one_if_most}
use Rattle.sched_base.specs.Numbers.{one_if}
use Rattle.arrival_queue.proofs.Ordering.{before_trans, before_other, closed-test, closed_before}

-- no unit has the rank, and each has a rank below a number
abbrev pub LacksRank : ℕ → List Queued → Type 0
LacksRank r [] = Unit {0}
LacksRank r (e ∷ es) = (e.rank ≡ r → ⊥) × LacksRank r es

abbrev pub RanksBelow : ℕ → List Queued → Type 0
RanksBelow n [] = Unit {0}
RanksBelow n (e ∷ es) = (e.rank < n) × RanksBelow n es

pub lacks-rank : (r : ℕ) (es : List Queued) → count_by (has_rank r) es ≡ 0 → LacksRank r es
lacks-rank r [] none = tt
lacks-rank r (e ∷ es) none = (
  λ is. let one : one_if (has_rank r e) ≡ 1 = ap one_if (eq-eqb e.rank r is) in absurd (omega (arith, one, none, count-cons (has_rank r) e es)),
  lacks-rank r es (omega (arith, none, count-cons (has_rank r) e es)),
)

pub ranks-below : (n : ℕ) (es : List Queued) → ((r : ℕ) → n ≤ r → count_by (has_rank r) es ≡ 0) → RanksBelow n es
ranks-below n [] none = tt
ranks-below n (e ∷ es) none = (
  elim (cases_lt e.rank n) [
    | inl less ↦ less
    | inr more ↦
        let one : one_if (has_rank e.rank e) ≡ 1 = ap one_if (eq-eqb e.rank e.rank refl) in
        absurd (omega (arith, one, none e.rank more, count-cons (has_rank e.rank) e es))
  ],
  ranks-below n es (λ r more. omega (arith, none r more, count-cons (has_rank r) e es)),
)

-- order
leads-trans : (a b : Queued) (es : List Queued) → goes_before a b ≡ true → GoesBeforeAll b es → GoesBeforeAll a es
leads-trans a b [] first all = tt
leads-trans a b (e ∷ es) first all = (before_trans a b e first all.0, leads-trans a b es first all.1)

leads-placed : (a new : Queued) (es : List Queued) → goes_before a new ≡ true → GoesBeforeAll a es → GoesBeforeAll a (list_with new es)
leads-placed a new [] first all = (first, tt)
leads-placed a new (e ∷ es) first all =
    elim (goes_before new e) as (λ t. GoesBeforeAll a (if t then new ∷ e ∷ es else e ∷ list_with new es)) [
      | true ↦ (first, (all.0, all.1))
      | false ↦ (all.0, leads-placed a new es first all.1)
    ]

pub order-placed : (new : Queued) (es : List Queued) → LacksRank new.rank es → IsInOrder es → IsInOrder (list_with new es)
order-placed new [] lacks order = (tt, tt)
order-placed new (e ∷ es) lacks order = split (goes_before new e) refl (order-placed new es lacks.1 order.1)
  where
    split : (t : Bool) → goes_before new e ≡ t → IsInOrder (list_with new es) → IsInOrder (if t then new ∷ e ∷ es else e ∷ list_with new es)
    split true first rest = ((first, leads-trans new e es first order.0), order)
    split false after rest = (leads-placed e new es (before_other new e after (λ same. lacks.0 (sym same))) order.0, rest)

leads-without : (a : Queued) (u : UnitId) (es : List Queued) → GoesBeforeAll a es → GoesBeforeAll a (list_without u es)
leads-without a u [] all = tt
leads-without a u (e ∷ es) all =
    elim (is_of u e) as (λ t. GoesBeforeAll a (if t then list_without u es else e ∷ list_without u es)) [
      | true ↦ leads-without a u es all.1
      | false ↦ (all.0, leads-without a u es all.1)
    ]

pub order-without : (u : UnitId) (es : List Queued) → IsInOrder es → IsInOrder (list_without u es)
order-without u [] order = tt
order-without u (e ∷ es) order =
    elim (is_of u e) as (λ t. IsInOrder (if t then list_without u es else e ∷ list_without u es)) [
      | true ↦ order-without u es order.1
      | false ↦ (leads-without e u es order.0, order-without u es order.1)
    ]

leads-closed : (r : ℕ) (a : Queued) (es : List Queued) → (a.rank ≡ r → ⊥) → LacksRank r es → GoesBeforeAll a es → GoesBeforeAll (closed_up r a) (map (closed_up r) es)
leads-closed r a [] other lacks all = tt
leads-closed r a (e ∷ es) other lacks all = (closed_before r a e other lacks.0 ∙ all.0, leads-closed r a es other lacks.1 all.1)

pub order-closed : (r : ℕ) (es : List Queued) → LacksRank r es → IsInOrder es → IsInOrder (map (closed_up r) es)
order-closed r [] lacks order = tt
order-closed r (e ∷ es) lacks order = (leads-closed r e es lacks.0 lacks.1 order.0, order-closed r es lacks.1 order.1)

-- order of arrival
arrived-push : (a new : Queued) (es : List Queued) → a.rank < new.rank → ArrivedBeforeAll a es → ArrivedBeforeAll a (es ++ new ∷ [])
arrived-push a new [] first all = (first, tt)
arrived-push a new (e ∷ es) first all = (all.0, arrived-push a new es first all.1)

pub arrival-push : (new : Queued) (es : List Queued) → RanksBelow new.rank es → IsInArrival es → IsInArrival (es ++ new ∷ [])
arrival-push new [] low order = (tt, tt)
arrival-push new (e ∷ es) low order = (arrived-push e new es low.0 order.0, arrival-push new es low.1 order.1)

arrived-without : (a : Queued) (u : UnitId) (es : List Queued) → ArrivedBeforeAll a es → ArrivedBeforeAll a (list_without u es)
arrived-without a u [] all = tt
arrived-without a u (e ∷ es) all =
    elim (is_of u e) as (λ t. ArrivedBeforeAll a (if t then list_without u es else e ∷ list_without u es)) [
      | true ↦ arrived-without a u es all.1
      | false ↦ (all.0, arrived-without a u es all.1)
    ]

pub arrival-without : (u : UnitId) (es : List Queued) → IsInArrival es → IsInArrival (list_without u es)
arrival-without u [] order = tt
arrival-without u (e ∷ es) order =
    elim (is_of u e) as (λ t. IsInArrival (if t then list_without u es else e ∷ list_without u es)) [
      | true ↦ arrival-without u es order.1
      | false ↦ (arrived-without e u es order.0, arrival-without u es order.1)
    ]

arrived-closed : (r : ℕ) (a : Queued) (es : List Queued) → (a.rank ≡ r → ⊥) → LacksRank r es → ArrivedBeforeAll a es → ArrivedBeforeAll (closed_up r a) (map (closed_up r) es)
arrived-closed r a [] other lacks all = tt
arrived-closed r a (e ∷ es) other lacks all = (
  ltb-true _ _ (closed-test r a.rank e.rank other lacks.0 ∙ lt-ltb a.rank e.rank all.0),
  arrived-closed r a es other lacks.1 all.1,
)

pub arrival-closed : (r : ℕ) (es : List Queued) → LacksRank r es → IsInArrival es → IsInArrival (map (closed_up r) es)
arrival-closed r [] lacks order = tt
arrival-closed r (e ∷ es) lacks order = (arrived-closed r e es lacks.0 lacks.1 order.0, arrival-closed r es lacks.1 order.1)

-- what the ranks tell
abbrev all : Queues → List Queued
all q = q.sorted ++ q.others

count-all : (q : Queues) → count q ≡ length (all q)
count-all q = sym (length-append q.sorted q.others)

past_none : (es : List Queued) (r : ℕ) → EachRankOnce es → length es ≤ r → count_by (has_rank r) es ≡ 0
past_none es r once past = once r ∙ ap one_if (le-ltb r (length es) past)

left_none : (r : ℕ) (xs ys : List Queued) → count_by (has_rank r) (xs ++ ys) ≡ 0 → count_by (has_rank r) xs ≡ 0
left_none r xs ys none = omega (arith, none, count-append (has_rank r) xs ys)

right_none : (r : ℕ) (xs ys : List Queued) → count_by (has_rank r) (xs ++ ys) ≡ 0 → count_by (has_rank r) ys ≡ 0
right_none r xs ys none = omega (arith, none, count-append (has_rank r) xs ys)

-- one more unit, with the number of the units as its rank
one_more : (r n m : ℕ) → m ≡ n + 1 → one_if (n == r) + one_if (nat_lt r n) ≡ one_if (nat_lt r m)
one_more r n m more =
    elim (cases_lt r n) [
      | inl less ↦
          let a : one_if (nat_lt r n) ≡ 1 = ap one_if (lt-ltb r n less) in
          let b : one_if (n == r) ≡ 0 = ap one_if (ne_eqb n r (λ e. omega (arith, e, less))) in
          let c : one_if (nat_lt r m) ≡ 1 = ap one_if (lt-ltb r m (omega (arith, less, more))) in
          omega (arith, a, b, c)
      | inr past ↦
          let a : one_if (nat_lt r n) ≡ 0 = ap one_if (le-ltb r n past) in
          elim (cases_eq n r) [
            | inl is ↦
                let b : one_if (n == r) ≡ 1 = ap one_if (eq-eqb n r is) in
                let c : one_if (nat_lt r m) ≡ 1 = ap one_if (lt-ltb r m (omega (arith, is, more))) in
                omega (arith, a, b, c)
            | inr other ↦
                let b : one_if (n == r) ≡ 0 = ap one_if (ne_eqb n r other) in
                let low : m ≤ r = elim (cases_lt n r) [ inl less ↦ omega (arith, less, more) | inr most ↦ absurd (other (omega (arith, past, most))) ] in
                let c : one_if (nat_lt r m) ≡ 0 = ap one_if (le-ltb r m low) in
                omega (arith, a, b, c)
          ]
    ]

-- a list with the same counts and one unit more
more_ranks : (es ds : List Queued) (new : Queued) → new.rank ≡ length es → length ds ≡ length es + 1
    → ((p : Queued → Bool) → count_by p ds ≡ one_if (p new) + count_by p es) → EachRankOnce es → EachRankOnce ds
more_ranks es ds new rank longer counts once r =
    let here : one_if (has_rank r new) ≡ one_if (length es == r) = ap (λ (k : ℕ). one_if (k == r)) rank in
    let was = once r in
    let sum = one_more r (length es) (length ds) longer in
    omega (arith, counts (has_rank r), here, was, sum)

more_units : (es ds : List Queued) (new : Queued) → count_by (is_of new.unit) es ≡ 0
    → ((p : Queued → Bool) → count_by p ds ≡ one_if (p new) + count_by p es) → EachUnitOnce es → EachUnitOnce ds
more_units es ds new none counts once w =
    elim (cases_eq (number_of new.unit) (number_of w)) [
      | inl is ↦
          let same : count_by (is_of w) es ≡ count_by (is_of new.unit) es = count-same (is_of w) (is_of new.unit) es (λ x. ap (λ (k : ℕ). number_of x.unit == k) (sym is)) in
          omega (arith, counts (is_of w), one_if_most (is_of w new), same, none)
      | inr other ↦
          let zero_here : one_if (is_of w new) ≡ 0 = ap one_if (ne_eqb (number_of new.unit) (number_of w) other) in
          let most = once w in
          omega (arith, counts (is_of w), zero_here, most)
    ]

-- a unit that arrives
none_held : (q : Queues) (u : UnitId) → holds q u ≡ false → count_by (is_of u) (all q) ≡ 0
none_held q u none = count-absent u (all q) (has_unit-append u q.sorted q.others ∙ none)

placed_counts : (new : Queued) (xs ys : List Queued) (p : Queued → Bool) → count_by p (list_with new xs ++ ys) ≡ one_if (p new) + count_by p (xs ++ ys)
placed_counts new xs ys p = omega (arith, count-append p (list_with new xs) ys, count-put p (goes_before new) new xs, count-append p xs ys)

placed_length : (new : Queued) (xs ys : List Queued) → length (list_with new xs ++ ys) ≡ length (xs ++ ys) + 1
placed_length new xs ys = omega (arith, length-append (list_with new xs) ys, length-put (goes_before new) new xs, length-append xs ys)

pub ordered-inserted : (q : Queues) (u : UnitId) (key : Key) → holds q u ≡ false → IsOrdered q → IsOrdered (after_insert q u key)
ordered-inserted q u key none ordered =
    let new = queued_unit u key (count q) in
    let past = past_none (all q) (count q) ordered.ranks (omega (arith, count-all q)) in
    record {
      sorted = order-placed new q.sorted (lacks-rank (count q) q.sorted (left_none (count q) q.sorted q.others past)) ordered.sorted;
      others = ordered.others;
      ranks = more_ranks (all q) (list_with new q.sorted ++ q.others) new (count-all q) (placed_length new q.sorted q.others) (placed_counts new q.sorted q.others) ordered.ranks;
      units = more_units (all q) (list_with new q.sorted ++ q.others) new (none_held q u none) (placed_counts new q.sorted q.others) ordered.units;
    }

pub ordered-appended : (q : Queues) (u : UnitId) (key : Key) → holds q u ≡ false → IsOrdered q → IsOrdered (after_append q u key)
ordered-appended q u key none ordered =
    let new = queued_unit u key (count q) in
    let ds : List Queued = q.sorted ++ (q.others ++ new ∷ []) in
    let is : ds ≡ all q ++ new ∷ [] = sym (append_assoc q.sorted q.others (new ∷ [])) in
    let counts : (p : Queued → Bool) → count_by p ds ≡ one_if (p new) + count_by p (all q) = λ p.
    ap (count_by p) is ∙ omega (arith, count-append p (all q) (new ∷ []), count-cons p new [])
    in
    let longer : length ds ≡ length (all q) + 1 = ap (λ (es : List Queued). length es) is ∙ length-append (all q) (new ∷ []) in
    record {
      sorted = ordered.sorted;
      others = arrival-push new q.others (ranks-below (count q) q.others (λ r more. right_none r q.sorted q.others (past_none (all q) r ordered.ranks (omega (arith, more, count-all q))))) ordered.others;
      ranks = more_ranks (all q) ds new (count-all q) longer counts ordered.ranks;
      units = more_units (all q) ds new (none_held q u none) counts ordered.units;
    }

-- a unit that is here, once, with its rank
module _ (q : Queues) (u : UnitId) (here : holds q u ≡ true) (ordered : IsOrdered q) where
  abbrev rest : List Queued
  rest = list_without u (all q)

  has_all : has_unit u (all q) ≡ true
  has_all = has_unit-append u q.sorted q.others ∙ here

  rank_all : rank_of q u ≡ rank_in u (all q)
  rank_all = sym (rank_in-append u q.sorted q.others)

  one_unit : count_by (is_of u) (all q) ≡ 1
  one_unit = let most = ordered.units u in omega (arith, most, count-here u (all q) has_all)

  rest_length : length rest + 1 ≡ length (all q)
  rest_length = omega (arith, length-without u (all q), one_unit)

  rest_ranks : (r : ℕ) → count_by (has_rank r) rest + one_if (rank_of q u == r) ≡ one_if (nat_lt r (length (all q)))
  rest_ranks r =
      let most = ordered.units u in
      let mine = count-rank u r (all q) most has_all in
      let same : one_if (rank_of q u == r) ≡ one_if (rank_in u (all q) == r) = ap (λ (k : ℕ). one_if (k == r)) rank_all in
      let was = ordered.ranks r in
      omega (arith, mine, same, was, count-without (has_rank r) u (all q))

  mine_low : rank_of q u < length (all q)
  mine_low =
      let one : one_if (rank_of q u == rank_of q u) ≡ 1 = ap one_if (eq-eqb (rank_of q u) (rank_of q u) refl) in
      elim (cases_lt (rank_of q u) (length (all q))) [
        | inl less ↦ less
        | inr past ↦
            let none : one_if (nat_lt (rank_of q u) (length (all q))) ≡ 0 = ap one_if (le-ltb (rank_of q u) (length (all q)) past) in
            absurd (omega (arith, one, none, rest_ranks (rank_of q u)))
      ]

  rest_lacks : count_by (has_rank (rank_of q u)) rest ≡ 0
  rest_lacks =
      let one : one_if (rank_of q u == rank_of q u) ≡ 1 = ap one_if (eq-eqb (rank_of q u) (rank_of q u) refl) in
      omega (arith, one, one_if_most (nat_lt (rank_of q u) (length (all q))), rest_ranks (rank_of q u))

  rest_parts : rest ≡ list_without u q.sorted ++ list_without u q.others
  rest_parts = without-append u q.sorted q.others

  parts_lack : count_by (has_rank (rank_of q u)) (list_without u q.sorted ++ list_without u q.others) ≡ 0
  parts_lack = ap (count_by (has_rank (rank_of q u))) (sym rest_parts) ∙ rest_lacks

  first_lacks : LacksRank (rank_of q u) (list_without u q.sorted)
  first_lacks = lacks-rank (rank_of q u) (list_without u q.sorted) (left_none (rank_of q u) (list_without u q.sorted) (list_without u q.others) parts_lack)

  second_lacks : LacksRank (rank_of q u) (list_without u q.others)
  second_lacks = lacks-rank (rank_of q u) (list_without u q.others) (right_none (rank_of q u) (list_without u q.sorted) (list_without u q.others) parts_lack)

  rest_units : (w : UnitId) → count_by (is_of w) rest ≤ count_by (is_of w) (all q)
  rest_units w = omega (arith, count-without (is_of w) u (all q))

  -- the ranks after the unit is gone
  closed_is : map (closed_up (rank_of q u)) (list_without u q.sorted) ++ map (closed_up (rank_of q u)) (list_without u q.others) ≡ map (closed_up (rank_of q u)) rest
  closed_is = sym (map-append (closed_up (rank_of q u)) (list_without u q.sorted) (list_without u q.others)) ∙ ap (map (closed_up (rank_of q u))) (sym rest_parts)

  low_same : (r : ℕ) → r < rank_of q u → (x : Queued) → has_rank (rank_of q u) x ≡ false → has_rank r (closed_up (rank_of q u) x) ≡ has_rank r x
  low_same r less x _ =
      elim (cases_lt (rank_of q u) x.rank) [
        | inl over ↦
            ap (λ (t : Bool). (if t then x.rank - 1 else x.rank) == r) (lt-ltb (rank_of q u) x.rank over)
            ∙ ne_eqb (x.rank - 1) r (λ e. omega (arith, e, over, less)) ∙ sym (ne_eqb x.rank r (λ e. omega (arith, e, over, less)))
        | inr under ↦ ap (λ (t : Bool). (if t then x.rank - 1 else x.rank) == r) (le-ltb (rank_of q u) x.rank under)
      ]

  high_same : (r : ℕ) → rank_of q u ≤ r → (x : Queued) → has_rank (rank_of q u) x ≡ false → has_rank r (closed_up (rank_of q u) x) ≡ has_rank (r + 1) x
  high_same r low x other =
      elim (cases_lt (rank_of q u) x.rank) [
        | inl over ↦
            ap (λ (t : Bool). (if t then x.rank - 1 else x.rank) == r) (lt-ltb (rank_of q u) x.rank over)
            ∙ elim (cases_eq (x.rank - 1) r) [
              | inl is ↦ eq-eqb (x.rank - 1) r is ∙ sym (eq-eqb x.rank (r + 1) (omega (arith, is, over)))
              | inr differ ↦ ne_eqb (x.rank - 1) r differ ∙ sym (ne_eqb x.rank (r + 1) (λ e. differ (omega (arith, e))))
            ]
        | inr under ↦
            ap (λ (t : Bool). (if t then x.rank - 1 else x.rank) == r) (le-ltb (rank_of q u) x.rank under)
            ∙ ne_eqb x.rank r (λ e. let same = eq-eqb x.rank (rank_of q u) (omega (arith, e, under, low)) in absurd (clash (has_rank (rank_of q u) x) same other))
            ∙ sym (ne_eqb x.rank (r + 1) (λ e. omega (arith, e, under, low)))
      ]
    where
      clash : (b : Bool) → b ≡ true → b ≡ false → ⊥
      clash true is is_not = cc
      clash false is is_not = cc

  closed_ranks : EachRankOnce (map (closed_up (rank_of q u)) rest)
  closed_ranks r =
      let short : length (map (closed_up (rank_of q u)) rest) ≡ length rest = length-map rest (closed_up (rank_of q u)) in
      let through = count-map (has_rank r) (closed_up (rank_of q u)) rest in
      elim (cases_lt r (rank_of q u)) [
        | inl less ↦
            let same = count-alike (λ x. has_rank r (closed_up (rank_of q u) x)) (has_rank r) (has_rank (rank_of q u)) rest (low_same r less) rest_lacks in
            let a : one_if (rank_of q u == r) ≡ 0 = ap one_if (ne_eqb (rank_of q u) r (λ e. omega (arith, e, less))) in
            let b : one_if (nat_lt r (length (all q))) ≡ 1 = ap one_if (lt-ltb r (length (all q)) (omega (arith, less, mine_low))) in
            let c : one_if (nat_lt r (length (map (closed_up (rank_of q u)) rest))) ≡ 1 =
            ap one_if (lt-ltb r (length (map (closed_up (rank_of q u)) rest)) (omega (arith, less, mine_low, rest_length, short)))
            in
            omega (arith, through, same, a, b, c, rest_ranks r)
        | inr low ↦
            let same = count-alike (λ x. has_rank r (closed_up (rank_of q u) x)) (has_rank (r + 1)) (has_rank (rank_of q u)) rest (high_same r low) rest_lacks in
            let a : one_if (rank_of q u == r + 1) ≡ 0 = ap one_if (ne_eqb (rank_of q u) (r + 1) (λ e. omega (arith, e, low))) in
            let shifted : one_if (nat_lt (r + 1) (length (all q))) ≡ one_if (nat_lt r (length (map (closed_up (rank_of q u)) rest))) =
            elim (cases_lt (r + 1) (length (all q))) [
              | inl less ↦
                  ap one_if (lt-ltb (r + 1) (length (all q)) less)
                  ∙ sym (ap one_if (lt-ltb r (length (map (closed_up (rank_of q u)) rest)) (omega (arith, less, rest_length, short))))
              | inr past ↦
                  ap one_if (le-ltb (r + 1) (length (all q)) past)
                  ∙ sym (ap one_if (le-ltb r (length (map (closed_up (rank_of q u)) rest)) (omega (arith, past, rest_length, short))))
            ]
            in
            omega (arith, through, same, a, shifted, rest_ranks (r + 1))
      ]

  closed_units : EachUnitOnce (map (closed_up (rank_of q u)) rest)
  closed_units w =
      let most = ordered.units w in
      let kept : count_by (is_of w) (map (closed_up (rank_of q u)) rest) ≡ count_by (is_of w) rest = count-map (is_of w) (closed_up (rank_of q u)) rest in
      omega (arith, most, kept, rest_units w)

  pub ordered-removed : IsOrdered (after_remove q u)
  ordered-removed = record {
    sorted = order-closed (rank_of q u) (list_without u q.sorted) first_lacks (order-without u q.sorted ordered.sorted);
    others = arrival-closed (rank_of q u) (list_without u q.others) second_lacks (arrival-without u q.others ordered.others);
    ranks = subst EachRankOnce (sym closed_is) closed_ranks;
    units = subst EachUnitOnce (sym closed_is) closed_units;
  }

  -- the unit at another place, with the same rank
  moved_counts : (key : Key) (p : Queued → Bool)
      → count_by p (list_with (queued_unit u key (rank_of q u)) (list_without u q.sorted) ++ list_without u q.others) ≡ one_if (p (queued_unit u key (rank_of q u))) + count_by p rest
  moved_counts key p =
      let parts : count_by p rest ≡ count_by p (list_without u q.sorted ++ list_without u q.others) = ap (count_by p) rest_parts in
      omega (arith, parts, placed_counts (queued_unit u key (rank_of q u)) (list_without u q.sorted) (list_without u q.others) p)

  moved_ranks : (key : Key) → EachRankOnce (list_with (queued_unit u key (rank_of q u)) (list_without u q.sorted) ++ list_without u q.others)
  moved_ranks key r =
      let new = queued_unit u key (rank_of q u) in
      let parts : length rest ≡ length (list_without u q.sorted ++ list_without u q.others) = ap (λ (es : List Queued). length es) rest_parts in
      let long : length (list_with new (list_without u q.sorted) ++ list_without u q.others) ≡ length (all q) =
      omega (arith, parts, placed_length new (list_without u q.sorted) (list_without u q.others), rest_length)
      in
      let bound : one_if (nat_lt r (length (list_with new (list_without u q.sorted) ++ list_without u q.others))) ≡ one_if (nat_lt r (length (all q))) = ap (λ (n : ℕ). one_if (nat_lt r n)) long in
      omega (arith, moved_counts key (has_rank r), rest_ranks r, bound)

  rest_none : count_by (is_of u) rest ≡ 0
  rest_none =
      let both : count_by (λ x. is_of u x && is_of u x) (all q) ≡ count_by (is_of u) (all q) = count-same (λ x. is_of u x && is_of u x) (is_of u) (all q) (λ x. twice (is_of u x)) in
      omega (arith, both, count-without (is_of u) u (all q))
    where
      twice : (b : Bool) → (b && b) ≡ b
      twice true = refl
      twice false = refl

  pub ordered-moved : (key : Key) → IsOrdered (after_move q u key)
  ordered-moved key =
      let new = queued_unit u key (rank_of q u) in
      let once : EachUnitOnce rest = λ w. let most = ordered.units w in omega (arith, most, rest_units w) in
      record {
        sorted = order-placed new (list_without u q.sorted) first_lacks (order-without u q.sorted ordered.sorted);
        others = arrival-without u q.others ordered.others;
        ranks = moved_ranks key;
        units = more_units rest (list_with new (list_without u q.sorted) ++ list_without u q.others) new rest_none (moved_counts key) once;
      }
