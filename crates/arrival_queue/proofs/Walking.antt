-- A walk along a list, from its first node to the next.
use Rattle.std.proofs.Common.{◌≡◌, ℕ, zero, suc, ◌+◌, ◌<◌, List, [], ◌∷◌, ◌++◌, length, drop, Bool, true, false, refl, sym, ◌∙◌, ap, subst, inl, inr, arith}
use Rattle.std.proofs.lemmas.Bool.{cases_eq, eq-eqb, ne_eqb}
use Rattle.std.specs.Prelude.{◌==◌, ◌||◌, if◌then◌else◌, Option, Some, None}
use Rattle.unit_ring.specs.declared.Node.{Node}
use Rattle.unit_ring.specs.Lists.{Item, Lists, has_node, is_live, first_in, next_in, next_of, node, unit_in, unit_of}
use Rattle.arrival_queue.specs.Tables.{Apart, Tabled, all_items, has_number, first_unit}
use Rattle.sched_base.specs.declared.UnitId.{UnitId}
use Rattle.unit_places.specs.Places.{number_of}
use Rattle.sched_base.proofs.Bools.{or_left, or_right}

pub has_left : (m : ℕ) (xs ys : List Item) → has_node m (xs ++ ys) ≡ false → has_node m xs ≡ false
has_left m [] ys none = refl
has_left m (x ∷ xs) ys none =
    ap (λ (t : Bool). t || has_node m xs) (or_left (x.node == m) (has_node m (xs ++ ys)) none)
    ∙ has_left m xs ys (or_right (x.node == m) (has_node m (xs ++ ys)) none)

pub number_left : (k : ℕ) (xs ys : List Item) → has_number k (xs ++ ys) ≡ false → has_number k xs ≡ false
number_left k [] ys none = refl
number_left k (x ∷ xs) ys none =
    ap (λ (t : Bool). t || has_number k xs) (or_left (number_of x.unit == k) (has_number k (xs ++ ys)) none)
    ∙ number_left k xs ys (or_right (number_of x.unit == k) (has_number k (xs ++ ys)) none)

pub Apart-left : (xs ys : List Item) → Apart (xs ++ ys) → Apart xs
Apart-left [] ys apart = tt
Apart-left (x ∷ xs) ys apart = (
  has_left x.node xs ys apart.0,
  number_left (number_of x.unit) xs ys apart.1,
  Apart-left xs ys apart.2,
)

-- where a walk stands: at an item of the list, with others to come
pub record At (xs : List Item) (k : ℕ) (n : Node) : Type 0 where
  pub x : Item
  pub rest : List Item
  pub here : drop k xs ≡ x ∷ rest
  pub is : n ≡ node x.node
  pub low : k < length xs
  pub later : drop (k + 1) xs ≡ rest
  pub has : has_node x.node xs ≡ true
  pub next : next_in x.node xs ≡ first_in rest
  pub unit : unit_in x.node xs ≡ x.unit

pub drop-more : (k : ℕ) (xs : List Item) (y : Item) → drop (k + 1) (y ∷ xs) ≡ drop k xs
drop-more k xs y = let more : k + 1 ≡ suc k = omega arith in ap (λ (j : ℕ). drop j (y ∷ xs)) more

none_first : (n : Node) → None ≡ Some n → ⊥
none_first n e = cc

pub at_node : (xs : List Item) (k : ℕ) (n : Node) → Apart xs → first_in (drop k xs) ≡ Some n → At xs k n
at_node [] zero n apart e = absurd (none_first n e)
at_node [] (suc k) n apart e = absurd (none_first n e)
at_node (x ∷ xs) zero n apart e =
    let same = eq-eqb x.node x.node refl in
    record {
      x = x;
      rest = xs;
      here = refl;
      is = cc;
      low = omega arith;
      later = drop-more 0 xs x;
      has = ap (λ (t : Bool). t || has_node x.node xs) same;
      next = ap (λ (t : Bool). if t then first_in xs else next_in x.node xs) same;
      unit = ap (λ (t : Bool). if t then x.unit else unit_in x.node xs) same;
    }
at_node (y ∷ xs) (suc k) n apart e =
    let there = at_node xs k n apart.2 e in
    let more : suc k ≡ k + 1 = omega arith in
    let other : (y.node == there.x.node) ≡ false =
    ne_eqb y.node there.x.node (λ (same : y.node ≡ there.x.node).
    let no : has_node there.x.node xs ≡ false = subst (λ (m : ℕ). has_node m xs ≡ false) same apart.0 in
    let yes = there.has in absurd (cc))
    in
    record {
      x = there.x;
      rest = there.rest;
      here = there.here;
      is = there.is;
      low = omega (arith, there.low);
      later = drop-more (suc k) xs y ∙ ap (λ (j : ℕ). drop j xs) more ∙ there.later;
      has = ap (λ (t : Bool). t || has_node there.x.node xs) other ∙ there.has;
      next = ap (λ (t : Bool). if t then first_in xs else next_in there.x.node xs) other ∙ there.next;
      unit = ap (λ (t : Bool). if t then y.unit else unit_in there.x.node xs) other ∙ there.unit;
    }

-- what the ring says there
pub at_live : (ring : Lists) (m : ℕ) → has_node m ring.first ≡ true → is_live ring m ≡ true
at_live ring m has = ap (λ (t : Bool). t || has_node m ring.second) has

pub at_next : (ring : Lists) (m : ℕ) → has_node m ring.first ≡ true → next_of ring m ≡ next_in m ring.first
at_next ring m has = ap (λ (t : Bool). if t then next_in m ring.first else next_in m ring.second) has

pub at_unit : (ring : Lists) (m : ℕ) → has_node m ring.first ≡ true → unit_of ring m ≡ unit_in m ring.first
at_unit ring m has = ap (λ (t : Bool). if t then unit_in m ring.first else unit_in m ring.second) has

-- a node that the items have is within the tables
pub Tabled-has : (places next m : ℕ) (arrivals : List ℕ) (xs : List Item) → Tabled places next arrivals xs → has_node m xs ≡ true → m < places
Tabled-has places next m arrivals [] t has = absurd (cc)
Tabled-has places next m arrivals (x ∷ xs) t has =
    elim (cases_eq x.node m) [
      | inl is ↦ omega (arith, is, t.0)
      | inr other ↦ Tabled-has places next m arrivals xs t.3 (sym (ap (λ (test : Bool). test || has_node m xs) (ne_eqb x.node m other)) ∙ has)
    ]

pub Tabled-left : (places next : ℕ) (arrivals : List ℕ) (xs ys : List Item) → Tabled places next arrivals (xs ++ ys) → Tabled places next arrivals xs
Tabled-left places next arrivals [] ys t = tt
Tabled-left places next arrivals (x ∷ xs) ys t = (t.0, t.1, t.2, Tabled-left places next arrivals xs ys t.3)

pub Tabled-right : (places next : ℕ) (arrivals : List ℕ) (xs ys : List Item) → Tabled places next arrivals (xs ++ ys) → Tabled places next arrivals ys
Tabled-right places next arrivals [] ys t = t
Tabled-right places next arrivals (x ∷ xs) ys t = Tabled-right places next arrivals xs ys t.3

pub or_group : (a b c : Bool) → (a || (b || c)) ≡ ((a || b) || c)
or_group true b c = refl
or_group false b c = refl

-- a live node is among all items
pub live-append : (m : ℕ) (xs ys : List Item) → has_node m (xs ++ ys) ≡ (has_node m xs || has_node m ys)
live-append m [] ys = refl
live-append m (x ∷ xs) ys = ap (λ (t : Bool). x.node == m || t) (live-append m xs ys) ∙ or_group (x.node == m) (has_node m xs) (has_node m ys)

-- the same of a search for a unit, and what it finds here
pub unit_more : (p : UnitId → Bool) (xs : List Item) (k : ℕ) (n : Node) (there : At xs k n) → p there.x.unit ≡ false → first_unit p (drop k xs) ≡ first_unit p xs
    → first_unit p (drop (k + 1) xs) ≡ first_unit p xs
unit_more p xs k n there fails so_far =
    ap (first_unit p) there.later
    ∙ sym (ap (λ (t : Bool). if t then Some there.x.unit else first_unit p there.rest) fails)
    ∙ sym (ap (first_unit p) there.here)
    ∙ so_far

pub unit_found : (p : UnitId → Bool) (xs : List Item) (k : ℕ) (n : Node) (there : At xs k n) → p there.x.unit ≡ true → first_unit p (drop k xs) ≡ first_unit p xs
    → Some there.x.unit ≡ first_unit p xs
unit_found p xs k n there passes so_far =
    sym (ap (λ (t : Bool). if t then Some there.x.unit else first_unit p there.rest) passes)
    ∙ sym (ap (first_unit p) there.here)
    ∙ so_far

-- where a walk along list 0 stands
pub stand : (ring : Lists) (k : ℕ) (at : Option Node) (n : Node) → Apart (all_items ring) → at ≡ first_in (drop k ring.first) → at ≡ Some n
    → At ring.first k n
stand ring k at n apart stands is = at_node ring.first k n (Apart-left ring.first ring.second apart) (sym stands ∙ is)

pub stand_live : (ring : Lists) (k : ℕ) (n : Node) → At ring.first k n → is_live ring n.0 ≡ true
stand_live ring k n there = subst (λ (m : Node). is_live ring m.0 ≡ true) (sym there.is) (at_live ring there.x.node there.has)

pub stand_next : (ring : Lists) (k : ℕ) (n : Node) (there : At ring.first k n) → next_of ring n.0 ≡ first_in (drop (k + 1) ring.first)
stand_next ring k n there =
    ap (λ (m : Node). next_of ring m.0) there.is ∙ at_next ring there.x.node there.has ∙ there.next ∙ sym (ap first_in there.later)

pub stand_unit : (ring : Lists) (k : ℕ) (n : Node) (there : At ring.first k n) → unit_of ring n.0 ≡ there.x.unit
stand_unit ring k n there = ap (λ (m : Node). unit_of ring m.0) there.is ∙ at_unit ring there.x.node there.has ∙ there.unit
