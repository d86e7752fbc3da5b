-- The way down from the root, to the first of all leaves whose moment has come.
use Rattle.std.proofs.Common.{◌≡◌, ℕ, zero, suc, ◌+◌, ◌-◌, ◌*◌, ◌/◌, ◌^◌, ◌≤◌, ◌<◌, Option, Some, None, List, length, true, false, refl, sym, ◌∙◌, ap, inl, inr, arith}
use Rattle.std.specs.Prelude.{if◌then◌else◌}
use Rattle.std.proofs.lemmas.Bool.{cases_lt}
use Rattle.std.proofs.lemmas.Bool.Decides.{nat_tests}
use Rattle.sched_base.specs.declared.Moment.{Moment}
use Rattle.due_heap.specs.Dues.{IsArmed, HasCome, armed_moment}
use Rattle.sched_base.specs.Numbers.{has_moment_come}
use Rattle.due_heap.specs.Winners.{precedes, is_armed_due, node_winner, node_above, IsAncestor, IsTree}
use Rattle.due_heap.proofs.Tree.{ancestor-down, right, root_first, armed_below}

-- where the moment of the one that goes first has not come, that of the other has not
not_past : (t : ℕ) (x : Option Moment) (a : ℕ) (y : Option Moment) (b : ℕ) → precedes y b x a ≡ false → has_moment_come t x ≡ false → has_moment_come t y ≡ false
not_past t x a None b first none = refl
not_past t None a (Some y) b first none = let e : true ≡ false = first in absurd (cc)
not_past t (Some x) a (Some y) b first none = grind (arith, nat_tests, first, none)

pub past_of : (t : ℕ) (at : Moment) → at.0 ≤ t → has_moment_come t (Some at) ≡ true
past_of t at low = grind (arith, nat_tests, low)

-- an id has come where the test says so
pub is_come : (t : ℕ) (moments : List (Option Moment)) (id : ℕ) → is_armed_due moments t id ≡ true → HasCome moments t id
is_come t moments id e = by (armed_moment moments id) refl e
  where
    by : (x : Option Moment) → armed_moment moments id ≡ x → has_moment_come t x ≡ true → HasCome moments t id
    by None is past = let wrong : false ≡ true = past in absurd (cc)
    by (Some at) is past = record { at = at; armed = is; come = grind (arith, nat_tests, past) }

power_some : (i : ℕ) → 1 ≤ 2 ^ i
power_some zero = omega arith
power_some (suc i) = let rest = power_some i in omega (arith, rest)

le_times : (k p : ℕ) → 1 ≤ p → k ≤ k * p
le_times k zero some = absurd (omega (arith, some))
le_times k (suc p) some = omega arith

-- twice as deep, and the two below
double : (k p : ℕ) → k * (2 * p) ≡ 2 * (k * p)
double k p = omega arith

twice : (k p : ℕ) → 2 * k * p ≡ 2 * (k * p)
twice k p = omega arith

twice_more : (k p : ℕ) → (2 * k + 1) * p ≡ 2 * (k * p) + p
twice_more k p = omega arith

deeper : (k i : ℕ) → k * 2 ^ suc i ≡ 2 * (k * 2 ^ i)
deeper k i = let e : 2 ^ suc i ≡ 2 * 2 ^ i = omega arith in ap (λ (q : ℕ). k * q) e ∙ double k (2 ^ i)

-- the nodes that are so many steps below k
below_node : (i k node : ℕ) → k * 2 ^ i ≤ node → node < k * 2 ^ i + 2 ^ i → node_above i node ≡ k
below_node zero k node low high = omega (arith, low, high)
below_node (suc i) k node low high =
    let deep = deeper k i in below_node i k (node / 2) (omega (arith, low, deep)) (omega (arith, high, deep))

module _ (t : ℕ) (moments : List (Option Moment)) (winners : List ℕ) (tree : IsTree moments winners) where
  -- where the winner at a node has not come, no id under it has
  none_under : (k : ℕ) → 1 ≤ k → k < 2 * length moments → is_armed_due moments t (node_winner winners k) ≡ false
      → (id : ℕ) → id < length moments → IsAncestor k (length moments + id) → is_armed_due moments t id ≡ false
  none_under k some below none id inside under =
      let first = (right moments winners tree k some below).first id inside under in
      not_past t (armed_moment moments (node_winner winners k)) (node_winner winners k) (armed_moment moments id) id first none

  -- where the winner at a node has come and that at the left one below has not, that at the right one has
  come_right : (k : ℕ) → 1 ≤ k → k < length moments → is_armed_due moments t (node_winner winners k) ≡ true
      → is_armed_due moments t (node_winner winners (2 * k)) ≡ false → is_armed_due moments t (node_winner winners (2 * k + 1)) ≡ true
  come_right k some inner come none =
      let first = tree.each k some inner in
      elim (is_armed_due moments t (node_winner winners (2 * k + 1))) as (λ test. is_armed_due moments t (node_winner winners (2 * k + 1)) ≡ test → test ≡ true) [
        | true ↦ λ e. refl
        | false ↦ λ e.
            let not : is_armed_due moments t (node_winner winners k) ≡ false = elim (ancestor-down k (length moments + node_winner winners k) first.under) [
              | inl here ↦ absurd (omega (arith, here, inner))
              | inr (inl l) ↦ none_under (2 * k) (omega (arith, some)) (omega (arith, inner)) none (node_winner winners k) first.below l
              | inr (inr r) ↦ none_under (2 * k + 1) (omega (arith, some)) (omega (arith, inner)) e (node_winner winners k) first.below r
            ] in
            let wrong : true ≡ false = sym come ∙ not in
            absurd (cc)
      ] refl

  -- a node on the way down: the ids of the leaves before those under it have not come
  pub record IsOnWay (k : ℕ) : Type 0 where
    pub some : 1 ≤ k
    pub below : k < 2 * length moments
    pub come : is_armed_due moments t (node_winner winners k) ≡ true
    pub depth : ℕ
    pub first : length moments ≤ k * 2 ^ depth
    pub last : k * 2 ^ depth + 2 ^ depth ≤ 2 * length moments
    pub none : (id : ℕ) → length moments + id < k * 2 ^ depth → is_armed_due moments t id ≡ false

  pub way_down : (k : ℕ) → IsOnWay k → k < length moments
      → IsOnWay (if is_armed_due moments t (node_winner winners (2 * k)) then 2 * k else 2 * k + 1)
  way_down k way inner = by way.depth way.first way.last way.none
    where
      by : (depth : ℕ) → length moments ≤ k * 2 ^ depth → k * 2 ^ depth + 2 ^ depth ≤ 2 * length moments
          → ((id : ℕ) → length moments + id < k * 2 ^ depth → is_armed_due moments t id ≡ false)
          → IsOnWay (if is_armed_due moments t (node_winner winners (2 * k)) then 2 * k else 2 * k + 1)
      by zero first last none = absurd (omega (arith, first, inner))
      by (suc i) first last none =
          elim (is_armed_due moments t (node_winner winners (2 * k))) as (λ test. is_armed_due moments t (node_winner winners (2 * k)) ≡ test → IsOnWay (if test then 2 * k else 2 * k + 1)) [
            | true ↦ λ e.
                record {
                  some = omega (arith, some);
                  below = omega (arith, inner);
                  come = e;
                  depth = i;
                  first = omega (arith, first, deep, is);
                  last = omega (arith, last, one, deep, is);
                  none = λ id low. none id (omega (arith, low, deep, is));
                }
            | false ↦ λ e.
                record {
                  some = omega (arith, some);
                  below = omega (arith, inner);
                  come = come_right k some inner way.come e;
                  depth = i;
                  first = omega (arith, first, one, deep, is_more);
                  last = omega (arith, last, deep, is_more);
                  none = λ id low. elim (cases_lt (length moments + id) (k * 2 ^ suc i)) [
                    | inl before ↦ none id before
                    | inr after ↦
                        none_under (2 * k) (omega (arith, some)) (omega (arith, inner)) e id (omega (arith, low, last, one, deep, is_more))
                        record { steps = i; is = below_node i (2 * k) (length moments + id) (omega (arith, after, deep, is)) (omega (arith, low, is, is_more)) }
                  ];
                }
          ] refl
        where
          some : 1 ≤ k
          some = way.some

          one : 1 ≤ 2 ^ i
          one = power_some i

          deep : k * 2 ^ suc i ≡ 2 * (k * 2 ^ i)
          deep = deeper k i

          is : 2 * k * 2 ^ i ≡ 2 * (k * 2 ^ i)
          is = twice k (2 ^ i)

          is_more : (2 * k + 1) * 2 ^ i ≡ 2 * (k * 2 ^ i) + 2 ^ i
          is_more = twice_more k (2 ^ i)

  -- no id before that of a leaf on the way has come
  pub way_first : (k : ℕ) → IsOnWay k → length moments ≤ k → (id : ℕ) → id < k - length winners → is_armed_due moments t id ≡ false
  way_first k way leaf id before =
      let size = tree.size in
      let more = le_times k (2 ^ way.depth) (power_some way.depth) in
      way.none id (omega (arith, size, before, more))

  -- where the root has not come, no id has
  pub none_come : is_armed_due moments t (node_winner winners 1) ≡ false → (id : ℕ) (at : Moment) → IsArmed moments id at → t < at.0
  none_come none id at armed =
      elim (cases_lt t at.0) [
        | inl later ↦ later
        | inr low ↦
            let first = root_first moments winners tree id (armed_below moments id at armed) in
            let not = not_past t (armed_moment moments (node_winner winners 1)) (node_winner winners 1) (armed_moment moments id) id first none in
            let wrong : true ≡ false = sym (ap (has_moment_come t) armed ∙ past_of t at low) ∙ not in
            absurd (cc)
      ]
