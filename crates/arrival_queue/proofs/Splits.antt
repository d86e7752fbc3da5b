-- What one item among others does to what is known of a list of items.
use Rattle.std.proofs.Common.{◌≡◌, ℕ, ◌+◌, ◌<◌, ◌≤◌, List, [], ◌∷◌, ◌++◌, length, set, Bool, true, false, refl, sym, ◌∙◌, ap, inl, inr, arith, length-append}
use Rattle.std.specs.Prelude.{◌==◌, ◌||◌, if◌then◌else◌, Option, Some, None, count_by}
use Rattle.std.proofs.lemmas.Bool.{cases_eq, eq-eqb, ne_eqb}
use Rattle.std.proofs.lemmas.List.{get_or-set_other}
use Rattle.std.proofs.lemmas.List.Sums.{sum_by-append}
use Rattle.unit_places.specs.Places.{number_of, has_unit_place}
use Rattle.sched_base.proofs.Bools.{or_left, or_right}
use Rattle.unit_ring.specs.declared.Node.{Node}
use Rattle.unit_ring.specs.Lists.{Item, has_node}
use Rattle.arrival_queue.specs.Tables.{Apart, Tabled, has_number, node_of, arrival_at}

pub not_same : (a b : ℕ) → (a == b) ≡ false → a ≡ b → ⊥
not_same a b test e = let yes = eq-eqb a b e in absurd (cc)

or_swap : (a b c : Bool) → (a || (b || c)) ≡ (b || (a || c))
or_swap true true c = refl
or_swap true false c = refl
or_swap false true c = refl
or_swap false false c = refl

pub or_false : (a b : Bool) → a ≡ false → b ≡ false → (a || b) ≡ false
or_false a b none e = ap (λ (t : Bool). t || b) none ∙ e

test_swap : (a b : ℕ) → (a == b) ≡ (b == a)
test_swap a b =
    elim (cases_eq a b) [ inl e ↦ eq-eqb a b e ∙ sym (eq-eqb b a (sym e)) | inr ne ↦ ne_eqb a b ne ∙ sym (ne_eqb b a (λ e. ne (sym e))) ]

pub has_node-split : (m : ℕ) (l r : List Item) (new : Item) → has_node m (l ++ new ∷ r) ≡ (new.node == m || has_node m (l ++ r))
has_node-split m [] r new = refl
has_node-split m (x ∷ l) r new =
    ap (λ (t : Bool). x.node == m || t) (has_node-split m l r new) ∙ or_swap (x.node == m) (new.node == m) (has_node m (l ++ r))

pub has_number-split : (k : ℕ) (l r : List Item) (new : Item) → has_number k (l ++ new ∷ r) ≡ (number_of new.unit == k || has_number k (l ++ r))
has_number-split k [] r new = refl
has_number-split k (x ∷ l) r new =
    ap (λ (t : Bool). number_of x.unit == k || t) (has_number-split k l r new)
    ∙ or_swap (number_of x.unit == k) (number_of new.unit == k) (has_number k (l ++ r))

pub count-split : (p : Item → Bool) (l r : List Item) (new : Item) → count_by p (l ++ new ∷ r) ≡ count_by p (l ++ r) + count_by p (new ∷ [])
count-split p l r new =
    let f : Item → ℕ = λ x. (if p x then 1 else 0) in
    let whole : count_by p (l ++ new ∷ r) ≡ count_by p l + count_by p (new ∷ r) = sum_by-append f l (new ∷ r) in
    let one : count_by p ((new ∷ []) ++ r) ≡ count_by p (new ∷ []) + count_by p r = sum_by-append f (new ∷ []) r in
    let rest : count_by p (l ++ r) ≡ count_by p l + count_by p r = sum_by-append f l r in
    omega (arith, whole, one, rest)

pub length-split : (l r : List Item) (new : Item) → length (l ++ new ∷ r) ≡ length (l ++ r) + 1
length-split l r new =
    let whole : length (l ++ new ∷ r) ≡ length l + length (new ∷ r) = length-append l (new ∷ r) in
    let rest : length (l ++ r) ≡ length l + length r = length-append l r in
    omega (arith, whole, rest)

-- a new item among items that stand apart, and one taken out of them
pub Apart-in : (l r : List Item) (new : Item) → Apart (l ++ r) → has_node new.node (l ++ r) ≡ false → has_number (number_of new.unit) (l ++ r) ≡ false
    → Apart (l ++ new ∷ r)
Apart-in [] r new apart node number = (node, number, apart)
Apart-in (x ∷ l) r new apart node number =
    let other_node = test_swap new.node x.node ∙ or_left (x.node == new.node) (has_node new.node (l ++ r)) node in
    let other_number = test_swap (number_of new.unit) (number_of x.unit) ∙ or_left (number_of x.unit == number_of new.unit) (has_number (number_of new.unit) (l ++ r)) number in (
      has_node-split x.node l r new ∙ or_false (new.node == x.node) (has_node x.node (l ++ r)) other_node apart.0,
      has_number-split (number_of x.unit) l r new ∙ or_false (number_of new.unit == number_of x.unit) (has_number (number_of x.unit) (l ++ r)) other_number apart.1,
      Apart-in l r new apart.2 (or_right (x.node == new.node) (has_node new.node (l ++ r)) node) (or_right (number_of x.unit == number_of new.unit) (has_number (number_of new.unit) (l ++ r)) number),
    )

pub record TakenOut (l r : List Item) (new : Item) : Type 0 where
  pub apart : Apart (l ++ r)
  pub node : has_node new.node (l ++ r) ≡ false
  pub number : has_number (number_of new.unit) (l ++ r) ≡ false

pub Apart-out : (l r : List Item) (new : Item) → Apart (l ++ new ∷ r) → TakenOut l r new
Apart-out [] r new apart = record { apart = apart.2; node = apart.0; number = apart.1 }
Apart-out (x ∷ l) r new apart =
    let rest = Apart-out l r new apart.2 in
    let nodes = sym (has_node-split x.node l r new) ∙ apart.0 in
    let numbers = sym (has_number-split (number_of x.unit) l r new) ∙ apart.1 in
    record {
      apart = (
        or_right (new.node == x.node) (has_node x.node (l ++ r)) nodes,
        or_right (number_of new.unit == number_of x.unit) (has_number (number_of x.unit) (l ++ r)) numbers,
        rest.apart,
      );
      node = or_false (x.node == new.node) (has_node new.node (l ++ r)) (test_swap x.node new.node ∙ or_left (new.node == x.node) (has_node x.node (l ++ r)) nodes) rest.node;
      number = or_false (number_of x.unit == number_of new.unit) (has_number (number_of new.unit) (l ++ r)) (test_swap (number_of x.unit) (number_of new.unit) ∙ or_left (number_of new.unit == number_of x.unit) (has_number (number_of x.unit) (l ++ r)) numbers) rest.number;
    }

pub node_of-none : (k : ℕ) (xs : List Item) → has_number k xs ≡ false → node_of k xs ≡ None
node_of-none k [] e = refl
node_of-none k (x ∷ xs) e =
    let other = or_left (number_of x.unit == k) (has_number k xs) e in
    ap (λ (t : Bool). if t then Some (record { 0 = x.node }) else node_of k xs) other
    ∙ node_of-none k xs (or_right (number_of x.unit == k) (has_number k xs) e)

pub node_of-other : (k : ℕ) (l r : List Item) (new : Item) → (number_of new.unit ≡ k → ⊥) → node_of k (l ++ new ∷ r) ≡ node_of k (l ++ r)
node_of-other k [] r new ne =
    ap (λ (t : Bool). if t then Some (record { 0 = new.node }) else node_of k r) (ne_eqb (number_of new.unit) k ne)
node_of-other k (x ∷ l) r new ne =
    ap (λ (o : Option Node). if number_of x.unit == k then Some (record { 0 = x.node }) else o) (node_of-other k l r new ne)

pub node_of-mine : (l r : List Item) (new : Item) → has_number (number_of new.unit) (l ++ r) ≡ false
    → node_of (number_of new.unit) (l ++ new ∷ r) ≡ Some (record { 0 = new.node })
node_of-mine [] r new none =
    ap (λ (t : Bool). if t then Some (record { 0 = new.node }) else node_of (number_of new.unit) r) (eq-eqb (number_of new.unit) (number_of new.unit) refl)
node_of-mine (x ∷ l) r new none =
    ap (λ (t : Bool). if t then Some (record { 0 = x.node }) else node_of (number_of new.unit) (l ++ new ∷ r)) (or_left (number_of x.unit == number_of new.unit) (has_number (number_of new.unit) (l ++ r)) none)
    ∙ node_of-mine l r new (or_right (number_of x.unit == number_of new.unit) (has_number (number_of new.unit) (l ++ r)) none)

-- what the tables say of an item, for one item more and one less
pub Tabled-out : (places next : ℕ) (arrivals : List ℕ) (l r : List Item) (new : Item) → Tabled places next arrivals (l ++ new ∷ r)
    → Tabled places next arrivals (l ++ r)
Tabled-out places next arrivals [] r new t = t.3
Tabled-out places next arrivals (x ∷ l) r new t = (t.0, t.1, t.2, Tabled-out places next arrivals l r new t.3)

pub Tabled-mine : (places next : ℕ) (arrivals : List ℕ) (l r : List Item) (new : Item) → Tabled places next arrivals (l ++ new ∷ r)
    → (new.node < places) × (arrival_at arrivals new.node < next) × (has_unit_place new.unit ≡ true)
Tabled-mine places next arrivals [] r new t = (t.0, t.1, t.2)
Tabled-mine places next arrivals (x ∷ l) r new t = Tabled-mine places next arrivals l r new t.3

pub Tabled-in : (places next : ℕ) (arrivals : List ℕ) (l r : List Item) (new : Item) → Tabled places next arrivals (l ++ r)
    → new.node < places → arrival_at arrivals new.node < next → has_unit_place new.unit ≡ true → Tabled places next arrivals (l ++ new ∷ r)
Tabled-in places next arrivals [] r new t node arrival number = (node, arrival, number, t)
Tabled-in places next arrivals (x ∷ l) r new t node arrival number =
    (t.0, t.1, t.2, Tabled-in places next arrivals l r new t.3 node arrival number)

-- another node's arrival is written, and the next number rises
pub Tabled-set : (places next later : ℕ) (arrivals : List ℕ) (n a : ℕ) (xs : List Item) → Tabled places next arrivals xs → has_node n xs ≡ false
    → next ≤ later → Tabled places later (set arrivals n a) xs
Tabled-set places next later arrivals n a [] t none rise = tt
Tabled-set places next later arrivals n a (x ∷ xs) t none rise =
    let other = not_same x.node n (or_left (x.node == n) (has_node n xs) none) in
    let same : arrival_at (set arrivals n a) x.node ≡ arrival_at arrivals x.node = get_or-set_other arrivals n x.node a 0 other in
    (t.0, omega (arith, t.1, same, rise), t.2, Tabled-set places next later arrivals n a xs t.3 (or_right (x.node == n) (has_node n xs) none) rise)
