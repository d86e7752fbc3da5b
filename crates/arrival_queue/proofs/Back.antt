-- A walk along a list that is in order, from its last node to the one before.
use Rattle.std.proofs.Common.{◌≡◌, ℕ, ◌+◌, ◌<◌, List, [], ◌∷◌, ◌++◌, length, map, Bool, true, false, refl, sym, ◌∙◌, ap, subst, inl, inr, arith, append_assoc, length-append}
use Rattle.std.specs.Prelude.{◌||◌, ◌&&◌, ◌==◌, not, if◌then◌else◌, nat_lt, Option, Some, None}
use Rattle.std.proofs.lemmas.Bool.{cases_lt, eq-eqb, le-ltb}
use Rattle.std.proofs.lemmas.Bool.Decides.{nat_tests}
use Rattle.sched_base.proofs.Bools.{or_left, or_right}
use Rattle.unit_ring.specs.declared.Node.{Node}
use Rattle.unit_ring.specs.Lists.{Item, Lists, has_node, last_from, last_in, prev_from, prev_of, node, without_in}
use Rattle.arrival_queue.specs.declared.key.Key.{Key}
use Rattle.arrival_queue.specs.Queues.{Queued, queued_unit, is_lesser_key, goes_before}
use Rattle.arrival_queue.specs.Order.{GoesBeforeAll, IsInOrder}
use Rattle.arrival_queue.specs.Tables.{Apart, EachPasses, PassesOn, all_items, arrival_at, comes_before, first_node, key_at, rank, shown_unit}
use Rattle.arrival_queue.proofs.Splits.{Apart-out, has_node-split}
use Rattle.arrival_queue.proofs.Ranks.{rank-mono}
use Rattle.arrival_queue.proofs.Ordering.{before_trans}
use Rattle.arrival_queue.proofs.Walking.{Apart-left, has_left}

-- where the walk stands: before it the items that are still to be seen, after it those that passed
pub record Stands (p : Item → Bool) (xs : List Item) (steps : ℕ) (at place : Option Node) : Type 0 where
  pub before : List Item
  pub after : List Item
  pub is : xs ≡ before ++ after
  pub size : length before + steps ≡ length xs
  pub at_last : at ≡ last_in before
  pub found : place ≡ first_node p after

-- a list that has a last node
pub record Ends (xs : List Item) (n : Node) : Type 0 where
  pub front : List Item
  pub x : Item
  pub is : xs ≡ front ++ x ∷ []
  pub node_is : n ≡ node x.node

ends_from : (y : Item) (xs : List Item) (n : Node) → last_from (Some (node y.node)) xs ≡ Some n → Ends (y ∷ xs) n
ends_from y [] n e = record { front = []; x = y; is = refl; node_is = cc }
ends_from y (x ∷ xs) n e =
    let rest = ends_from x xs n e in
    record { front = y ∷ rest.front; x = rest.x; is = ap (λ (zs : List Item). y ∷ zs) rest.is; node_is = rest.node_is }

pub ends : (xs : List Item) (n : Node) → last_in xs ≡ Some n → Ends xs n
ends [] n e = absurd (cc)
ends (x ∷ xs) n e = ends_from x xs n e

some_last : (m : Node) (xs : List Item) → last_from (Some m) xs ≡ None → ⊥
some_last m [] e = cc
some_last m (x ∷ xs) e = some_last (node x.node) xs e

pub none_last : (xs : List Item) → last_in xs ≡ None → xs ≡ []
none_last [] e = refl
none_last (x ∷ xs) e = absurd (some_last (node x.node) xs e)

-- the node before one that no other item before it has
prev-split : (before : Option Node) (front rest : List Item) (x : Item) → has_node x.node front ≡ false
    → prev_from before x.node (front ++ x ∷ rest) ≡ last_from before front
prev-split before [] rest x none =
    ap (λ (t : Bool). if t then before else prev_from (Some (node x.node)) x.node rest) (eq-eqb x.node x.node refl)
prev-split before (y ∷ front) rest x none =
    ap (λ (t : Bool). if t then before else prev_from (Some (node y.node)) x.node (front ++ x ∷ rest)) (or_left (y.node == x.node) (has_node x.node front) none)
    ∙ prev-split (Some (node y.node)) front rest x (or_right (y.node == x.node) (has_node x.node front) none)

-- what is known where the walk stands at a node of list 0
pub record Here (ring : Lists) (p : Item → Bool) (k : ℕ) (n : Node) (place : Option Node) : Type 0 where
  pub x : Item
  pub front : List Item
  pub after : List Item
  pub is : ring.first ≡ front ++ x ∷ after
  pub size : length front + 1 + k ≡ length ring.first
  pub node_is : n ≡ node x.node
  pub has : has_node x.node ring.first ≡ true
  pub prev : prev_of ring n.0 ≡ last_in front
  pub found : place ≡ first_node p after

pub here : (ring : Lists) (p : Item → Bool) (k : ℕ) (at place : Option Node) (n : Node) → Apart (all_items ring)
    → Stands p ring.first k at place → at ≡ Some n → Here ring p k n place
here ring p k at place n apart s is_some =
    let e = ends s.before n (sym s.at_last ∙ is_some) in
    let is : ring.first ≡ e.front ++ e.x ∷ s.after =
    s.is ∙ ap (λ (ys : List Item). ys ++ s.after) e.is ∙ append_assoc e.front (e.x ∷ []) s.after
    in
    let size : length s.before ≡ length e.front + 1 = ap length e.is ∙ length-append e.front (e.x ∷ []) in
    let alone = (Apart-out e.front s.after e.x (subst Apart is (Apart-left ring.first ring.second apart))).node in
    let has : has_node e.x.node ring.first ≡ true =
    ap (has_node e.x.node) is
    ∙ has_node-split e.x.node e.front s.after e.x
    ∙ ap (λ (t : Bool). t || has_node e.x.node (e.front ++ s.after)) (eq-eqb e.x.node e.x.node refl)
    in
    record {
      x = e.x;
      front = e.front;
      after = s.after;
      is = is;
      size = omega (arith, size, s.size);
      node_is = e.node_is;
      has = has;
      prev = ap (λ (m : Node). prev_of ring m.0) e.node_is
          ∙ ap (λ (t : Bool). if t then prev_from None e.x.node ring.first else prev_from None e.x.node ring.second) has
          ∙ ap (prev_from None e.x.node) is
          ∙ prev-split None e.front s.after e.x (has_left e.x.node e.front s.after alone);
      found = s.found;
    }

-- one step on, where the item passed
pub stepped : (ring : Lists) (p : Item → Bool) (k steps : ℕ) (n : Node) (place at : Option Node) (h : Here ring p k n place) → p h.x ≡ true
    → at ≡ prev_of ring n.0 → steps ≡ k + 1 → Stands p ring.first steps at (Some n)
stepped ring p k steps n place at h passes is_prev more = record {
  before = h.front;
  after = h.x ∷ h.after;
  is = h.is;
  size = omega (arith, h.size, more);
  at_last = is_prev ∙ h.prev;
  found = ap (λ (m : Node). Some m) h.node_is ∙ sym (ap (λ (t : Bool). if t then Some (node h.x.node) else first_node p h.after) passes);
}

-- an item that does not pass, and none before it does
passes_last : (p : Item → Bool) (front after : List Item) (x : Item) → EachPasses p (front ++ x ∷ after) → p x ≡ true
passes_last p [] after x each = each.0
passes_last p (y ∷ front) after x each = passes_last p front after x each.1

pub past_it : (p : Item → Bool) (front after : List Item) (x : Item) → PassesOn p (front ++ x ∷ after) → p x ≡ false
    → first_node p (front ++ x ∷ after) ≡ first_node p after
past_it p [] after x on fails = ap (λ (t : Bool). if t then Some (node x.node) else first_node p after) fails
past_it p (y ∷ front) after x on fails = split (p y) refl (past_it p front after x on.1 fails)
  where
    split : (t : Bool) → p y ≡ t → first_node p (front ++ x ∷ after) ≡ first_node p after
        → (if t then Some (node y.node) else first_node p (front ++ x ∷ after)) ≡ first_node p after
    split true passes later = let yes = passes_last p front after x (on.0 passes) in absurd (cc)
    split false none later = later

pub found_here : (ring : Lists) (p : Item → Bool) (k : ℕ) (n : Node) (place : Option Node) (h : Here ring p k n place) → PassesOn p ring.first
    → p h.x ≡ false → place ≡ first_node p ring.first
found_here ring p k n place h on fails =
    h.found ∙ sym (past_it p h.front h.after h.x (subst (PassesOn p) h.is on) fails) ∙ sym (ap (first_node p) h.is)

pub found_end : (p : Item → Bool) (xs : List Item) (k : ℕ) (at place : Option Node) → Stands p xs k at place → at ≡ None → place ≡ first_node p xs
found_end p xs k at place s none =
    s.found ∙ ap (λ (ys : List Item). first_node p (ys ++ s.after)) (sym (none_last s.before (sym s.at_last ∙ none))) ∙ sym (ap (first_node p) s.is)

-- in a list in order all pass after one that a new item comes before
by_number : (less other t s : Bool) → (t ≡ true → s ≡ true) → (less || not other && t) ≡ true → (less || not other && s) ≡ true
by_number true other t s more e = refl
by_number false true t s more e = e
by_number false false t s more e = more e

is_below : (a b : ℕ) → nat_lt a b ≡ true → (b < a + 1 → ⊥)
is_below a b e more = let none = le-ltb a b (omega (arith, more)) in absurd (cc)

module _ (keys : List Key) (arrivals : List ℕ) (items : List Item) (key : Key) (a : ℕ) where
  by_arrival : (x y : Item) → nat_lt (rank arrivals items (arrival_at arrivals x.node)) (rank arrivals items (arrival_at arrivals y.node)) ≡ true
      → nat_lt (arrival_at arrivals x.node) (arrival_at arrivals y.node) ≡ true
  by_arrival x y e =
      let b = arrival_at arrivals x.node in
      let d = arrival_at arrivals y.node in
      elim (cases_lt b d) [
        | inl less ↦ grind (arith, nat_tests, less)
        | inr more ↦ absurd (is_below (rank arrivals items b) (rank arrivals items d) e (omega (arith, rank-mono arrivals items d b more)))
      ]

  each_after : (x : Item) (xs : List Item) → comes_before keys arrivals key a x ≡ true
      → GoesBeforeAll (shown_unit keys arrivals items x) (map (shown_unit keys arrivals items) xs) → EachPasses (comes_before keys arrivals key a) xs
  each_after x [] first all = tt
  each_after x (y ∷ xs) first all =
      let seen : Item → Queued = λ z. queued_unit z.unit (key_at keys z.node) (arrival_at arrivals z.node) in
      let next : goes_before (seen x) (seen y) ≡ true =
      by_number (is_lesser_key (key_at keys x.node) (key_at keys y.node)) (is_lesser_key (key_at keys y.node) (key_at keys x.node))
      (nat_lt (rank arrivals items (arrival_at arrivals x.node)) (rank arrivals items (arrival_at arrivals y.node)))
      (nat_lt (arrival_at arrivals x.node) (arrival_at arrivals y.node)) (by_arrival x y) all.0
      in
      (before_trans (queued_unit x.unit key a) (seen x) (seen y) first next, each_after x xs first all.1)

  pub passes_on : (xs : List Item) → IsInOrder (map (shown_unit keys arrivals items) xs) → PassesOn (comes_before keys arrivals key a) xs
  passes_on [] order = tt
  passes_on (x ∷ xs) order = ((λ first. each_after x xs first order.0), passes_on xs order.1)

-- the same without a node
each-without : (p : Item → Bool) (n : ℕ) (xs : List Item) → EachPasses p xs → EachPasses p (without_in n xs)
each-without p n [] each = tt
each-without p n (x ∷ xs) each =
    elim (x.node == n) as (λ t. EachPasses p (if t then without_in n xs else x ∷ without_in n xs)) [
      | true ↦ each-without p n xs each.1
      | false ↦ (each.0, each-without p n xs each.1)
    ]

pub on-without : (p : Item → Bool) (n : ℕ) (xs : List Item) → PassesOn p xs → PassesOn p (without_in n xs)
on-without p n [] on = tt
on-without p n (x ∷ xs) on =
    elim (x.node == n) as (λ t. PassesOn p (if t then without_in n xs else x ∷ without_in n xs)) [
      | true ↦ on-without p n xs on.1
      | false ↦ ((λ first. each-without p n xs (on.0 first)), on-without p n xs on.1)
    ]

-- the same by other names
pub on_same : (keys keys2 : List Key) (arrivals arrivals2 : List ℕ) (ring ring2 : Lists) (key : Key) (a : ℕ) → keys2 ≡ keys → arrivals2 ≡ arrivals → ring2 ≡ ring
    → PassesOn (comes_before keys arrivals key a) ring.first → PassesOn (comes_before keys2 arrivals2 key a) ring2.first
on_same keys keys2 arrivals arrivals2 ring ring2 key a k n r on =
    subst (λ (x : List Key × (List ℕ × Lists)). PassesOn (comes_before x.0 x.1.0 key a) x.1.1.first) (λ i. (sym k i, (sym n i, sym r i))) on
