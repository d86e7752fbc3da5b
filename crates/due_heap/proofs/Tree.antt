-- The order of the ids, and the tree of winners that stands on it.
use Rattle.std.proofs.Common.{◌≡◌, ◌≢◌, ◌⊎◌, ℕ, zero, suc, ◌+◌, ◌-◌, ◌*◌, ◌/◌, ◌≤◌, ◌<◌, Option, Some, None, List, length, set, Bool, true, false, refl, sym, ◌∙◌, ap, subst, inl, inr, arith}
use Rattle.std.specs.Prelude.{if◌then◌else◌, nat_lt, slice_index_or}
use Rattle.std.proofs.lemmas.Bool.{cases_eq, cases_lt}
use Rattle.std.proofs.lemmas.Bool.Decides.{nat_tests}
use Rattle.std.proofs.lemmas.List.{set-get_or, get_or_read, get_or-set_same, get_or-set_other, get_or_past, length-set}
use Rattle.sched_base.specs.declared.Moment.{Moment}
use Rattle.due_heap.specs.Dues.{IsArmed, GoesFirst, armed_moment}
use Rattle.due_heap.specs.Winners.{precedes, is_due_before, sooner_id, node_winner, node_above, IsAncestor, IsFirstUnder, IsTree}

-- of three, where the second does not go before the first, nor the third before the second, the third does not go before the first
precedes-trans : (x : Option Moment) (a : ℕ) (y : Option Moment) (b : ℕ) (z : Option Moment) (c : ℕ)
    → precedes y b x a ≡ false → precedes z c y b ≡ false → precedes z c x a ≡ false
precedes-trans (Some x) a (Some y) b (Some z) c p q = grind (arith, nat_tests, p, q)
precedes-trans (Some x) a (Some y) b None c p q = refl
precedes-trans (Some x) a None b (Some z) c p q = let e : true ≡ false = q in absurd (cc)
precedes-trans (Some x) a None b None c p q = refl
precedes-trans None a (Some y) b z c p q = let e : true ≡ false = p in absurd (cc)
precedes-trans None a None b (Some z) c p q = let e : true ≡ false = q in absurd (cc)
precedes-trans None a None b None c p q = grind (arith, nat_tests, p, q)

pub precedes-not_both : (x : Option Moment) (a : ℕ) (y : Option Moment) (b : ℕ) → precedes y b x a ≡ true → precedes x a y b ≡ false
precedes-not_both (Some x) a (Some y) b p = grind (arith, nat_tests, p)
precedes-not_both (Some x) a None b p = let e : false ≡ true = p in absurd (cc)
precedes-not_both None a (Some y) b p = refl
precedes-not_both None a None b p = grind (arith, nat_tests, p)

precedes-same : (x : Option Moment) (a : ℕ) → precedes x a x a ≡ false
precedes-same (Some x) a = grind (arith, nat_tests)
precedes-same None a = grind (arith, nat_tests)

pub precedes-either : (x : Option Moment) (a : ℕ) (y : Option Moment) (b : ℕ) → precedes x a y b ≡ false → precedes y b x a ≡ false → a ≡ b
precedes-either (Some x) a (Some y) b p q = grind (arith, nat_tests, p, q)
precedes-either (Some x) a None b p q = let e : true ≡ false = p in absurd (cc)
precedes-either None a (Some y) b p q = let e : true ≡ false = q in absurd (cc)
precedes-either None a None b p q = grind (arith, nat_tests, p, q)

-- an id that no other is before
pub not_before-trans : (moments : List (Option Moment)) (a b c : ℕ)
    → is_due_before moments b a ≡ false → is_due_before moments c b ≡ false → is_due_before moments c a ≡ false
not_before-trans moments a b c p q = precedes-trans (armed_moment moments a) a (armed_moment moments b) b (armed_moment moments c) c p q

-- two ids with the same moments in two lists go as they did
pub is_before-same : (before moments : List (Option Moment)) (a b : ℕ) → armed_moment before a ≡ armed_moment moments a → armed_moment before b ≡ armed_moment moments b
    → is_due_before before a b ≡ is_due_before moments a b
is_before-same before moments a b p q =
    ap (λ (x : Option Moment). precedes x a (armed_moment before b) b) p ∙ ap (λ (y : Option Moment). precedes (armed_moment moments a) a y b) q

-- the node above one that is some steps up
up-half : (steps node : ℕ) → node_above steps node / 2 ≡ node_above (suc steps) node
up-half zero node = refl
up-half (suc steps) node = up-half steps (node / 2)

up-add : (a b node : ℕ) → node_above a (node_above b node) ≡ node_above (b + a) node
up-add a zero node = let e : a ≡ 0 + a = omega arith in ap (λ (n : ℕ). node_above n node) e
up-add a (suc b) node =
    let e : suc (b + a) ≡ suc b + a = omega arith in
    up-add a b (node / 2) ∙ ap (λ (n : ℕ). node_above n node) e

up-le : (steps node : ℕ) → node_above steps node ≤ node
up-le zero node = omega arith
up-le (suc steps) node = let le = up-le steps (node / 2) in omega (arith, le)

-- a node is above itself, and above whatever one below it is above
pub ancestor-self : (k : ℕ) → IsAncestor k k
ancestor-self k = record { steps = 0; is = refl }

pub ancestor-trans : (j k node : ℕ) → IsAncestor j k → IsAncestor k node → IsAncestor j node
ancestor-trans j k node high low = record {
  steps = low.steps + high.steps;
  is = sym (up-add high.steps low.steps node) ∙ ap (node_above high.steps) low.is ∙ high.is;
}

pub ancestor-parent : (k node : ℕ) → IsAncestor k node → IsAncestor (k / 2) node
ancestor-parent k node low = record { steps = suc low.steps; is = sym (up-half low.steps node) ∙ ap (λ (n : ℕ). n / 2) low.is }

pub ancestor-le : (k node : ℕ) → IsAncestor k node → k ≤ node
ancestor-le k node a = let le = up-le a.steps node in let is = a.is in omega (arith, le, is)

-- an ancestor is the node itself or one of the node above
pub ancestor-cases : (k node : ℕ) → IsAncestor k node → (k ≡ node) ⊎ IsAncestor k (node / 2)
ancestor-cases k node a = by a.steps a.is
  where
    by : (steps : ℕ) → node_above steps node ≡ k → (k ≡ node) ⊎ IsAncestor k (node / 2)
    by zero is = inl (sym is)
    by (suc steps) is = inr record { steps = steps; is = is }

-- a node above another is it or is above one of the two below: seen from the ancestor
pub ancestor-down : (k node : ℕ) → IsAncestor k node → (k ≡ node) ⊎ (IsAncestor (2 * k) node ⊎ IsAncestor (2 * k + 1) node)
ancestor-down k node a = by a.steps a.is
  where
    by : (steps : ℕ) → node_above steps node ≡ k → (k ≡ node) ⊎ (IsAncestor (2 * k) node ⊎ IsAncestor (2 * k + 1) node)
    by zero is = inl (sym is)
    by (suc steps) is =
        let half = up-half steps node in
        elim (cases_eq (node_above steps node) (2 * k)) [
          | inl e ↦ inr (inl record { steps = steps; is = e })
          | inr ne ↦ inr (inr record { steps = steps; is = omega (arith, is, half, ne) })
        ]

-- whether one node is above another can be told
pub ancestor-told : (n k node : ℕ) → node ≤ n → 1 ≤ k → IsAncestor k node ⊎ (IsAncestor k node → ⊥)
ancestor-told zero k node most some = inr (λ a. let le = ancestor-le k node a in omega (arith, le, most, some))
ancestor-told (suc n) k node most some =
    elim (cases_eq k node) [
      | inl e ↦ inl record { steps = 0; is = sym e }
      | inr ne ↦ elim (cases_lt k node) [
        | inl lt ↦ elim (ancestor-told n k (node / 2) (omega (arith, most, lt)) some) [
          | inl a ↦ inl record { steps = suc a.steps; is = a.is }
          | inr away ↦ inr (λ a. elim (ancestor-cases k node a) [
            | inl e ↦ absurd (ne e)
            | inr higher ↦ away higher
          ])
        ]
        | inr ge ↦ inr (λ a. let le = ancestor-le k node a in absurd (ne (omega (arith, le, ge))))
      ]
    ]

-- the root is above each node
root_above : (n node : ℕ) → node ≤ n → 1 ≤ node → IsAncestor 1 node
root_above zero node most some = absurd (omega (arith, most, some))
root_above (suc n) node most some =
    elim (cases_eq node 1) [
      | inl e ↦ record { steps = 0; is = e }
      | inr ne ↦
          let a = root_above n (node / 2) (omega (arith, most, ne, some)) (omega (arith, ne, some)) in
          record { steps = suc a.steps; is = a.is }
    ]

-- under a leaf is its own id alone
leaf_first : (moments : List (Option Moment)) (id : ℕ) → id < length moments → IsFirstUnder moments (length moments + id) id
leaf_first moments id below = record {
  below = below;
  under = ancestor-self (length moments + id);
  first = λ other inside a. elim (ancestor-cases (length moments + id) (length moments + other) a) [
    | inl e ↦
        let same : id ≡ other = omega (arith, e) in
        subst (λ (o : ℕ). is_due_before moments o id ≡ false) same (precedes-same (armed_moment moments id) id)
    | inr higher ↦ let le = ancestor-le (length moments + id) ((length moments + other) / 2) higher in absurd (omega (arith, le, inside))
  ];
}

-- the sooner one of the first two under two nodes is the first under the node above
sooner_first : (moments : List (Option Moment)) (k a b : ℕ) → k < length moments
    → IsFirstUnder moments (2 * k) a → IsFirstUnder moments (2 * k + 1) b → IsFirstUnder moments k (sooner_id moments a b)
sooner_first moments k a b inner left right =
    elim (is_due_before moments b a) as (λ test. is_due_before moments b a ≡ test → IsFirstUnder moments k (if test then b else a)) [
      | true ↦ λ e. record {
        below = right.below;
        under = subst (λ (j : ℕ). IsAncestor j (length moments + b)) (omega arith) (ancestor-parent (2 * k + 1) (length moments + b) right.under);
        first = λ other inside under. elim (ancestor-down k (length moments + other) under) [
          | inl here ↦ absurd (omega (arith, here, inner))
          | inr (inl l) ↦
              not_before-trans moments b a other
              (precedes-not_both (armed_moment moments a) a (armed_moment moments b) b e) (left.first other inside l)
          | inr (inr r) ↦ right.first other inside r
        ];
      }
      | false ↦ λ e. record {
        below = left.below;
        under = subst (λ (j : ℕ). IsAncestor j (length moments + a)) (omega arith) (ancestor-parent (2 * k) (length moments + a) left.under);
        first = λ other inside under. elim (ancestor-down k (length moments + other) under) [
          | inl here ↦ absurd (omega (arith, here, inner))
          | inr (inl l) ↦ left.first other inside l
          | inr (inr r) ↦ not_before-trans moments a b other e (right.first other inside r)
        ];
      }
    ] refl

pub winner-inner : (winners : List ℕ) (k : ℕ) → k < length winners → node_winner winners k ≡ slice_index_or winners k 0
winner-inner winners k inner =
    let test : nat_lt k (length winners) ≡ true = grind (arith, nat_tests, inner) in
    ap (λ (t : Bool). if t then slice_index_or winners k 0 else k - length winners) test

pub winner-leaf : (winners : List ℕ) (k : ℕ) → length winners ≤ k → node_winner winners k ≡ k - length winners
winner-leaf winners k leaf =
    let test : nat_lt k (length winners) ≡ false = grind (arith, nat_tests, leaf) in
    ap (λ (t : Bool). if t then slice_index_or winners k 0 else k - length winners) test

-- a winner is written at one node, and elsewhere stands what stood there
pub winner-set_same : (winners : List ℕ) (k id : ℕ) → k < length winners → node_winner (set winners k id) k ≡ id
winner-set_same winners k id inner =
    let len = length-set winners k id in
    winner-inner (set winners k id) k (omega (arith, len, inner)) ∙ get_or-set_same winners k id 0 inner

pub winner-set_other : (winners : List ℕ) (k id j : ℕ) → j ≢ k → node_winner (set winners k id) j ≡ node_winner winners j
winner-set_other winners k id j other =
    ap (λ (n : ℕ). if nat_lt j n then slice_index_or (set winners k id) j 0 else j - n) (length-set winners k id)
    ∙ ap (λ (x : ℕ). if nat_lt j (length winners) then x else j - length winners) (get_or-set_other winners k j id 0 other)

at_leaf : (moments : List (Option Moment)) (winners : List ℕ) (k : ℕ) → length winners ≡ length moments → length moments ≤ k → k < 2 * length moments
    → IsFirstUnder moments k (node_winner winners k)
at_leaf moments winners k size leaf below =
    let is : k - length winners ≡ node_winner winners k = sym (winner-leaf winners k (omega (arith, size, leaf))) in
    let node : length moments + (k - length winners) ≡ k = omega (arith, size, leaf) in
    let first = leaf_first moments (k - length winners) (omega (arith, size, leaf, below)) in
    subst (λ (id : ℕ). IsFirstUnder moments k id) is (subst (λ (j : ℕ). IsFirstUnder moments j (k - length winners)) node first)

-- at each node of a tree, leaf or not, the first of the ids under it
pub right : (moments : List (Option Moment)) (winners : List ℕ) → IsTree moments winners → (k : ℕ) → 1 ≤ k → k < 2 * length moments
    → IsFirstUnder moments k (node_winner winners k)
right moments winners tree k some below =
    elim (cases_lt k (length moments)) [
      | inl inner ↦ tree.each k some inner
      | inr leaf ↦ at_leaf moments winners k tree.size leaf below
    ]

-- where the nodes after k are right, so is what is played at k
pub played : (moments : List (Option Moment)) (winners : List ℕ) (k : ℕ) → length winners ≡ length moments → 1 ≤ k → k < length moments
    → ((j : ℕ) → k < j → j < length moments → IsFirstUnder moments j (node_winner winners j))
    → IsFirstUnder moments k (sooner_id moments (node_winner winners (2 * k)) (node_winner winners (2 * k + 1)))
played moments winners k size some inner later =
    sooner_first moments k (node_winner winners (2 * k)) (node_winner winners (2 * k + 1)) inner
    (child (2 * k) (omega (arith, some)) (omega (arith, inner))) (child (2 * k + 1) (omega (arith, some)) (omega (arith, inner)))
  where
    child : (j : ℕ) → k < j → j < 2 * length moments → IsFirstUnder moments j (node_winner winners j)
    child j after below =
        elim (cases_lt j (length moments)) [
          | inl inside ↦ later j after inside
          | inr leaf ↦ at_leaf moments winners j size leaf below
        ]

-- the nodes from k on are right
pub record IsRightFrom (k : ℕ) (moments : List (Option Moment)) (winners : List ℕ) : Type 0 where
  pub size : length winners ≡ length moments
  pub each : (j : ℕ) → 1 ≤ j → k ≤ j → j < length moments → IsFirstUnder moments j (node_winner winners j)

pub right_from : (k : ℕ) (moments : List (Option Moment)) (winners : List ℕ) → 1 ≤ k → k < length moments → IsRightFrom (suc k) moments winners
    → IsRightFrom k moments (set winners k (sooner_id moments (node_winner winners (2 * k)) (node_winner winners (2 * k + 1))))
right_from k moments winners some inner from =
    let id = sooner_id moments (node_winner winners (2 * k)) (node_winner winners (2 * k + 1)) in
    let len = length-set winners k id in
    let size = from.size in
    record {
      size = len ∙ size;
      each = λ j one after inside. elim (cases_eq j k) [
        | inl e ↦
            let here = played moments winners k size some inner (λ i low high. from.each i (omega (arith, low)) (omega (arith, low)) high) in
            subst (λ (i : ℕ). IsFirstUnder moments i (node_winner (set winners k id) i)) (sym e)
            (subst (λ (w : ℕ). IsFirstUnder moments k w) (sym (winner-set_same winners k id (omega (arith, size, inner)))) here)
        | inr ne ↦
            subst (λ (w : ℕ). IsFirstUnder moments j w) (sym (winner-set_other winners k id j ne))
            (from.each j one (omega (arith, after, ne)) inside)
      ];
    }

-- the first of all, at the root
pub root_first : (moments : List (Option Moment)) (winners : List ℕ) → IsTree moments winners → (id : ℕ) → id < length moments
    → is_due_before moments id (node_winner winners 1) ≡ false
root_first moments winners tree id below =
    (right moments winners tree 1 (omega arith) (omega (arith, below))).first id below
    (root_above (length moments + id) (length moments + id) (omega arith) (omega (arith, below)))

-- an id that is armed is below the room
pub armed_below : (moments : List (Option Moment)) (id : ℕ) (at : Moment) → IsArmed moments id at → id < length moments
armed_below moments id at armed =
    elim (cases_lt id (length moments)) [
      | inl lt ↦ lt
      | inr past ↦ let none : armed_moment moments id ≡ None = get_or_past moments id None past in absurd (cc)
    ]

precedes-none : (x : Option Moment) (a : ℕ) (at : Moment) (b : ℕ) → x ≡ None → precedes (Some at) b x a ≡ false → ⊥
precedes-none x a at b none not =
    let e : true ≡ false = ap (λ (y : Option Moment). precedes (Some at) b y a) (sym none) ∙ not in
    absurd (cc)

-- an id that takes the moment that it has, or none where it has none, changes nothing
pub set_same : (moments : List (Option Moment)) (id : ℕ) (read due : Option Moment) → id < length moments → read ≡ slice_index_or moments id read → read ≡ due
    → moments ≡ set moments id due
set_same moments id read due below read_is same = sym (ap (set moments id) (sym same ∙ get_or_read moments id read below read_is None) ∙ set-get_or moments id None)

pub precedes-goes_first : (at : Moment) (a : ℕ) (other : Moment) (b : ℕ) → precedes (Some other) b (Some at) a ≡ false → GoesFirst at a other b
precedes-goes_first at a other b not =
    record { by_moment = grind (arith, nat_tests, not); then_by_id = λ (same : at.0 ≡ other.0). grind (arith, nat_tests, not, same) }

-- with no moment at the root no id is armed
pub root_none : (moments : List (Option Moment)) (winners : List ℕ) → IsTree moments winners → armed_moment moments (node_winner winners 1) ≡ None
    → (id : ℕ) (at : Moment) → IsArmed moments id at → ⊥
root_none moments winners tree none id at armed =
    precedes-none (armed_moment moments (node_winner winners 1)) (node_winner winners 1) at id none
    (subst (λ (x : Option Moment). precedes x id (armed_moment moments (node_winner winners 1)) (node_winner winners 1) ≡ false) armed
    (root_first moments winners tree id (armed_below moments id at armed)))

-- an armed id at the root goes before every armed id
pub root_goes_first : (moments : List (Option Moment)) (winners : List ℕ) → IsTree moments winners
    → (root : Moment) → armed_moment moments (node_winner winners 1) ≡ Some root
    → (id : ℕ) (at : Moment) → IsArmed moments id at → GoesFirst root (node_winner winners 1) at id
root_goes_first moments winners tree root is id at armed =
    precedes-goes_first root (node_winner winners 1) at id
    (subst (λ (x : Option Moment). precedes (Some at) id x (node_winner winners 1) ≡ false) is
    (subst (λ (x : Option Moment). precedes x id (armed_moment moments (node_winner winners 1)) (node_winner winners 1) ≡ false) armed
    (root_first moments winners tree id (armed_below moments id at armed))))
