-- A walk that begins behind the first unit that passes.
use Rattle.std.proofs.Common.{◌≡◌, ℕ, zero, suc, ◌+◌, ◌-◌, ◌<◌, ◌≤◌, List, [], ◌∷◌, ◌++◌, length, map, drop, Bool, true, false, refl, sym, ◌∙◌, ap, subst, inl, inr, arith}
use Rattle.std.proofs.lemmas.Bool.{cases_eq, eq-eqb, ne_eqb}
use Rattle.std.specs.Prelude.{◌==◌, ◌||◌, if◌then◌else◌, Option, Some, None}
use Rattle.sched_base.specs.declared.UnitId.{UnitId}
use Rattle.sched_base.proofs.Bools.{clash, or_left, or_right}
use Rattle.unit_places.specs.Places.{number_of}
use Rattle.unit_ring.specs.declared.Node.{Node}
use Rattle.unit_ring.specs.Lists.{Item, Lists, first_in, has_node, node}
use Rattle.arrival_queue.specs.declared.key.Key.{Key}
use Rattle.arrival_queue.specs.Filters.{first_that}
use Rattle.arrival_queue.proofs.Changes.{first_that-shown}
use Rattle.arrival_queue.specs.Queues.{Queued, is_of, list_without}
use Rattle.arrival_queue.specs.Tables.{Apart, all_items, first_unit, has_number, node_of, shown_unit}
use Rattle.arrival_queue.proofs.Walking.{Apart-left, At, at_node, drop-more}

some_same : {X : Type 0} {x y : X} → Some x ≡ Some y → x ≡ y
some_same is = cc

pub none_some : (n : Node) → None ≡ Some n → ⊥
none_some n e = cc

-- an item of a list is not behind itself
not_behind : (x : Item) (xs : List Item) (i : ℕ) → Apart (x ∷ xs) → first_in (drop i xs) ≡ Some (node x.node) → ⊥
not_behind x xs i apart e =
    let there = at_node xs i (node x.node) apart.2 e in
    let same : there.x.node ≡ x.node = ap (λ (n : Node). n.0) (sym there.is) in
    clash (has_node x.node xs) (subst (λ (m : ℕ). has_node m xs ≡ true) same there.has) apart.0

-- two walks that stand at one node have the same items to come
pub same_stop : (p : UnitId → Bool) (xs : List Item) (k i : ℕ) → Apart xs → first_in (drop k xs) ≡ first_in (drop i xs) → first_unit p (drop k xs) ≡ first_unit p (drop i xs)
same_stop p [] zero zero apart e = refl
same_stop p [] zero (suc i) apart e = refl
same_stop p [] (suc k) zero apart e = refl
same_stop p [] (suc k) (suc i) apart e = refl
same_stop p (x ∷ xs) zero zero apart e = refl
same_stop p (x ∷ xs) zero (suc i) apart e = absurd (not_behind x xs i apart (sym e))
same_stop p (x ∷ xs) (suc k) zero apart e = absurd (not_behind x xs k apart e)
same_stop p (x ∷ xs) (suc k) (suc i) apart e = same_stop p xs k i apart.2 e

-- how far a walk has come that began at a node: so many steps, and no item that it passed over passes
pub record IsWalk (p : UnitId → Bool) (xs : List Item) (from at : Option Node) (steps : ℕ) : Type 0 where
  pub place : ℕ
  pub low : place ≤ length xs
  pub far : steps ≤ place
  pub is : at ≡ first_in (drop place xs)
  pub passed : (k : ℕ) → from ≡ first_in (drop k xs) → first_unit p (drop place xs) ≡ first_unit p (drop k xs)

-- one item more, which passes or does not
pub unit_here : (p : UnitId → Bool) (xs : List Item) (k : ℕ) (n : Node) (there : At xs k n) → p there.x.unit ≡ true → Some there.x.unit ≡ first_unit p (drop k xs)
unit_here p xs k n there passes =
    sym (ap (λ (t : Bool). if t then Some there.x.unit else first_unit p there.rest) passes)
    ∙ sym (ap (first_unit p) there.here)

pub unit_behind : (p : UnitId → Bool) (xs : List Item) (k : ℕ) (n : Node) (there : At xs k n) → p there.x.unit ≡ false → first_unit p (drop (k + 1) xs) ≡ first_unit p (drop k xs)
unit_behind p xs k n there fails =
    ap (first_unit p) there.later
    ∙ sym (ap (λ (t : Bool). if t then Some there.x.unit else first_unit p there.rest) fails)
    ∙ sym (ap (first_unit p) there.here)

pub none_left : (p : UnitId → Bool) (xs : List Item) → None ≡ first_in xs → None ≡ first_unit p xs
none_left p [] e = refl
none_left p (x ∷ xs) e = absurd (none_some (node x.node) e)

-- the first unit that passes, its place and its node, and the first but for it
pub record Behind (p : UnitId → Bool) (u : UnitId) (f : Item → Queued) (xs : List Item) : Type 0 where
  pub place : ℕ
  pub node : Node
  pub stands : first_in (drop place xs) ≡ Some node
  pub found : node_of (number_of u) xs ≡ Some node
  pub has : has_number (number_of u) xs ≡ true
  pub rest : first_that p (list_without u (map f xs)) ≡ first_unit p (drop (place + 1) xs)

module _ (p : UnitId → Bool) (u : UnitId) (f : Item → Queued) (keeps : (x : Item) → (f x).unit ≡ x.unit) where
  -- those of other numbers stay
  others_stay : (xs : List Item) → has_number (number_of u) xs ≡ false → first_that p (list_without u (map f xs)) ≡ first_unit p xs
  others_stay [] none = refl
  others_stay (x ∷ xs) none =
      let other : is_of u (f x) ≡ false = ap (λ (w : UnitId). number_of w == number_of u) (keeps x) ∙ or_left (number_of x.unit == number_of u) (has_number (number_of u) xs) none in
      ap (λ (t : Bool). first_that p (if t then list_without u (map f xs) else f x ∷ list_without u (map f xs))) other
      ∙ ap (λ (w : UnitId). if p w then Some w else first_that p (list_without u (map f xs))) (keeps x)
      ∙ ap (λ (o : Option UnitId). if p x.unit then Some x.unit else o) (others_stay xs (or_right (number_of x.unit == number_of u) (has_number (number_of u) xs) none))

  here : (x : Item) (xs : List Item) → Apart (x ∷ xs) → x.unit ≡ u → Behind p u f (x ∷ xs)
  here x xs apart same =
      let mine : (number_of x.unit == number_of u) ≡ true = eq-eqb (number_of x.unit) (number_of u) (ap number_of same) in
      let own : is_of u (f x) ≡ true = ap (λ (w : UnitId). number_of w == number_of u) (keeps x) ∙ mine in
      let none : has_number (number_of u) xs ≡ false = subst (λ (w : UnitId). has_number (number_of w) xs ≡ false) same apart.1 in
      record {
        place = 0;
        node = node x.node;
        stands = refl;
        found = ap (λ (t : Bool). if t then Some (record { 0 = x.node }) else node_of (number_of u) xs) mine;
        has = ap (λ (t : Bool). t || has_number (number_of u) xs) mine;
        rest =
            ap (λ (t : Bool). first_that p (if t then list_without u (map f xs) else f x ∷ list_without u (map f xs))) own
            ∙ others_stay xs none ∙ sym (ap (first_unit p) (drop-more 0 xs x));
      }

  there : (x : Item) (xs : List Item) → Apart (x ∷ xs) → p x.unit ≡ false → Behind p u f xs → Behind p u f (x ∷ xs)
  there x xs apart fails b =
      let apart_number : (number_of x.unit == number_of u) ≡ false =
      ne_eqb (number_of x.unit) (number_of u) (λ (same : number_of x.unit ≡ number_of u). clash (has_number (number_of u) xs) b.has (subst (λ (k : ℕ). has_number k xs ≡ false) same apart.1)) in
      let other : is_of u (f x) ≡ false = ap (λ (w : UnitId). number_of w == number_of u) (keeps x) ∙ apart_number in
      let more : suc b.place ≡ b.place + 1 = omega arith in
      record {
        place = suc b.place;
        node = b.node;
        stands = b.stands;
        found = ap (λ (t : Bool). if t then Some (record { 0 = x.node }) else node_of (number_of u) xs) apart_number ∙ b.found;
        has = ap (λ (t : Bool). t || has_number (number_of u) xs) apart_number ∙ b.has;
        rest =
            ap (λ (t : Bool). first_that p (if t then list_without u (map f xs) else f x ∷ list_without u (map f xs))) other
            ∙ ap (λ (w : UnitId). if p w then Some w else first_that p (list_without u (map f xs))) (keeps x)
            ∙ ap (λ (t : Bool). if t then Some x.unit else first_that p (list_without u (map f xs))) fails
            ∙ b.rest
            ∙ sym (ap (first_unit p) (drop-more (suc b.place) xs x ∙ ap (λ (j : ℕ). drop j xs) more));
      }

  pub behind : (xs : List Item) → Apart xs → first_unit p xs ≡ Some u → Behind p u f xs
  behind [] apart e = absurd (cc)
  behind (x ∷ xs) apart e =
      elim (p x.unit) as (λ b. p x.unit ≡ b → (if b then Some x.unit else first_unit p xs) ≡ Some u → Behind p u f (x ∷ xs)) [
        | true ↦ λ is first. here x xs apart (some_same first)
        | false ↦ λ is first. there x xs apart is (behind xs apart.2 first)
      ] refl e

-- the node of a unit of the first items is that of it among all
pub node_of-left : (k : ℕ) (xs ys : List Item) (n : Node) → node_of k xs ≡ Some n → node_of k (xs ++ ys) ≡ Some n
node_of-left k [] ys n e = absurd (cc)
node_of-left k (x ∷ xs) ys n e =
    elim (number_of x.unit == k) as (λ t. (if t then Some (record { 0 = x.node }) else node_of k xs) ≡ Some n → (if t then Some (record { 0 = x.node }) else node_of k (xs ++ ys)) ≡ Some n) [
      | true ↦ λ is. is
      | false ↦ λ is. node_of-left k xs ys n is
    ] e

-- of what callers see of a ring
pub found_behind : (p : UnitId → Bool) (u : UnitId) (ring : Lists) (keys : List Key) (ns : List ℕ) → Apart (all_items ring) → first_that p (map (shown_unit keys ns (all_items ring)) ring.first) ≡ Some u
    → Behind p u (shown_unit keys ns (all_items ring)) ring.first
found_behind p u ring keys ns apart e =
    behind p u (shown_unit keys ns (all_items ring)) (λ x. refl) ring.first (Apart-left ring.first ring.second apart) (sym (first_that-shown p keys ns (all_items ring) ring.first) ∙ e)

-- where the unit's node stands
pub behind_at : (p : UnitId → Bool) (u : UnitId) (f : Item → Queued) (ring : Lists) (n : Node) → Apart (all_items ring) → (b : Behind p u f ring.first) → node_of (number_of u) (all_items ring) ≡ Some n → At ring.first b.place n
behind_at p u f ring n apart b is =
    let same : b.node ≡ n = some_same (sym (node_of-left (number_of u) ring.first ring.second b.node b.found) ∙ is) in
    at_node ring.first b.place n (Apart-left ring.first ring.second apart) (b.stands ∙ ap Some same)
