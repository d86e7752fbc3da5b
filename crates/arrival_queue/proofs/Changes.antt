-- Each call as what callers see of it.
use Rattle.std.proofs.Common.{◌≡◌, ℕ, ◌+◌, ◌-◌, ◌<◌, List, [], ◌∷◌, ◌++◌, length, map, set, Bool, true, false, refl, sym, ◌∙◌, ap, subst, inl, inr, arith, append_assoc, length-append}
use Rattle.std.specs.Prelude.{◌==◌, ◌||◌, if◌then◌else◌, Option, Some, None, nat_lt}
use Rattle.std.proofs.lemmas.List.{append-nil, length-map, map-append}
use Rattle.sched_base.specs.declared.UnitId.{UnitId}
use Rattle.unit_places.specs.Places.{number_of, has_unit_place}
use Rattle.sched_base.proofs.Bools.{clash, or_left, or_right}
use Rattle.unit_places.proofs.Placed.{same_number}
use Rattle.unit_ring.specs.declared.Node.{Node}
use Rattle.unit_ring.specs.Lists as l
use Rattle.unit_ring.specs.Lists.{Item, Lists, item, has_node, after_take, after_give, after_append as appended, without_in}
use Rattle.arrival_queue.specs.declared.key.Key.{Key}
use Rattle.arrival_queue.specs.Queues as q
use Rattle.arrival_queue.specs.Queues.{Queued, Queues, queued_unit, goes_before, list_with, has_unit, holds, list_without, rank_in, rank_of, count, after_insert, closed_up, after_remove, after_move}
use Rattle.arrival_queue.specs.Tables.{Tabled, IsQueue, all_items, has_number, arrival_at, rank, shown_unit, queues_of, comes_before, put_ring, node_of, first_unit}
use Rattle.arrival_queue.specs.Filters.{first_that}
use Rattle.std.proofs.lemmas.Bool.{cases_eq, eq-eqb, ne_eqb, le-ltb}
use Rattle.arrival_queue.proofs.Splits.{Tabled-mine}
use Rattle.arrival_queue.proofs.Ranks.{rank-in, rank-out, rank-test, rank-all, rank-most}
use Rattle.sched_base.specs.Numbers.{one_if}
use Rattle.arrival_queue.proofs.Views.{map_kept, map_put, alike, shown_new, map_closed, has_unit-shown, rank_in-split, PutSplit, put_split}
use Rattle.arrival_queue.proofs.Walking.{Tabled-left, Tabled-right, has_left, live-append, or_group}
use Rattle.arrival_queue.proofs.Steps.{Found}

number-append : (k : ℕ) (xs ys : List Item) → has_number k (xs ++ ys) ≡ (has_number k xs || has_number k ys)
number-append k [] ys = refl
number-append k (x ∷ xs) ys =
    ap (λ (t : Bool). number_of x.unit == k || t) (number-append k xs ys) ∙ or_group (number_of x.unit == k) (has_number k xs) (has_number k ys)

-- a unit is here where the items have its number
pub holds-is : (u : UnitId) (ring : Lists) (keys : List Key) (ns : List ℕ) → holds (queues_of ring keys ns) u ≡ has_number (number_of u) (all_items ring)
holds-is u ring keys ns =
    ap (λ (t : Bool). t || has_unit u (map (shown_unit keys ns (all_items ring)) ring.second)) (has_unit-shown u keys ns (all_items ring) ring.first)
    ∙ ap (λ (t : Bool). has_number (number_of u) ring.first || t) (has_unit-shown u keys ns (all_items ring) ring.second)
    ∙ sym (number-append (number_of u) ring.first ring.second)

pub count-is : (ring : Lists) (keys : List Key) (ns : List ℕ) → count (queues_of ring keys ns) ≡ length (all_items ring)
count-is ring keys ns =
    let one = length-map ring.first (shown_unit keys ns (all_items ring)) in
    let two = length-map ring.second (shown_unit keys ns (all_items ring)) in
    let both : length (all_items ring) ≡ length ring.first + length ring.second = length-append ring.first ring.second in
    omega (arith, one, two, both)

-- how a ring's items fall apart where an item is put
put_was : (p : Item → Bool) (new : Item) (ring : Lists) (s : PutSplit p new ring.first) → all_items ring ≡ s.lft ++ (s.rgt ++ ring.second)
put_was p new ring s = ap (λ (xs : List Item). xs ++ ring.second) s.was ∙ append_assoc s.lft s.rgt ring.second

put_is : (p : Item → Bool) (new : Item) (ring : Lists) (s : PutSplit p new ring.first)
    → all_items (put_ring p new ring) ≡ s.lft ++ new ∷ (s.rgt ++ ring.second)
put_is p new ring s = ap (λ (xs : List Item). xs ++ ring.second) s.is ∙ append_assoc s.lft (new ∷ s.rgt) ring.second

-- the ranks with one item more, anywhere
more_rank : (all after lft rgt : List Item) (ns : List ℕ) (n : ℕ) (u : UnitId) (a b : ℕ) → all ≡ lft ++ rgt → after ≡ lft ++ item n u ∷ rgt
    → has_node n all ≡ false → n < length ns → rank (set ns n a) after b ≡ rank ns all b + one_if (nat_lt a b)
more_rank all after lft rgt ns n u a b was is none low =
    ap (λ (xs : List Item). rank (set ns n a) xs b) is
    ∙ rank-in ns lft rgt (item n u) a b (subst (λ (xs : List Item). has_node n xs ≡ false) was none) low
    ∙ ap (λ (xs : List Item). rank ns xs b + one_if (nat_lt a b)) (sym was)

abbrev queues : List Queued → List Queued → ℕ → Queues
queues xs ys k = record { sorted = xs; others = ys; spare = k }

-- a unit that arrives
module _ (ring : Lists) (keys : List Key) (ns : List ℕ) (n : ℕ) (u : UnitId) (key : Key) (a : ℕ)
    (last : Tabled (length ns) a ns (all_items ring)) (none : has_node n (all_items ring) ≡ false)
    (low : n < length ns) (low_key : n < length keys) where
  abbrev all : List Item
  all = all_items ring

  late : (b : ℕ) → b < a → one_if (nat_lt a b) ≡ 0
  late b less = ap one_if (le-ltb a b (omega (arith, less)))

  same_after : (after lft rgt : List Item) → all ≡ lft ++ rgt → after ≡ lft ++ item n u ∷ rgt → (b : ℕ) → b < a → rank (set ns n a) after b ≡ rank ns all b
  same_after after lft rgt was is b less = omega (arith, more_rank all after lft rgt ns n u a b was is none low, late b less)

  mine_after : (after lft rgt : List Item) → all ≡ lft ++ rgt → after ≡ lft ++ item n u ∷ rgt → rank (set ns n a) after a ≡ count (queues_of ring keys ns)
  mine_after after lft rgt was is =
      let no : one_if (nat_lt a a) ≡ 0 = ap one_if (le-ltb a a (omega arith)) in
      omega (arith, more_rank all after lft rgt ns n u a a was is none low, no, rank-all (length ns) a ns all a last (omega arith), count-is ring keys ns)

  tests : (b : ℕ) → b < a → nat_lt (count (queues_of ring keys ns)) (rank ns all b) ≡ nat_lt a b
  tests b less =
      le-ltb (count (queues_of ring keys ns)) (rank ns all b) (omega (arith, rank-most ns all b, count-is ring keys ns))
      ∙ sym (le-ltb a b (omega (arith, less)))

  none_first : has_node n ring.first ≡ false
  none_first = has_left n ring.first ring.second none

  none_second : has_node n ring.second ≡ false
  none_second = or_right (has_node n ring.first) (has_node n ring.second) (sym (live-append n ring.first ring.second) ∙ none)

  pub insert_seen : queues_of (put_ring (comes_before keys ns key a) (item n u) ring) (set keys n key) (set ns n a) ≡ after_insert (queues_of ring keys ns) u key
  insert_seen =
      let p : Item → Bool = comes_before keys ns key a in
      let r = count (queues_of ring keys ns) in
      let s = put_split p (item n u) ring.first in
      let after = all_items (put_ring p (item n u) ring) in
      let was = put_was p (item n u) ring s in
      let is = put_is p (item n u) ring s in
      let same = same_after after s.lft (s.rgt ++ ring.second) was is in
      let mine = shown_new keys ns n u key a r after low_key low (mine_after after s.lft (s.rgt ++ ring.second) was is) in
      let first_alike = alike keys ns n u key a r (length ns) a all after ring.first (Tabled-left (length ns) a ns ring.first ring.second last) none_first same tests in
      let first = map_put (shown_unit (set keys n key) (set ns n a) after) (shown_unit keys ns all) p (goes_before (queued_unit u key r)) (item n u) (queued_unit u key r) ring.first mine first_alike in
      let second = map_kept keys ns n key a (length ns) a all after ring.second (Tabled-right (length ns) a ns ring.first ring.second last) none_second same in
      ap (λ (xs : List Queued). queues xs (map (shown_unit (set keys n key) (set ns n a) after) ring.second) (ring.spare - 1)) first
      ∙ ap (λ (ys : List Queued). queues (list_with (queued_unit u key r) (map (shown_unit keys ns all) ring.first)) ys (ring.spare - 1)) second

  pub append_seen : queues_of (after_take (appended ring 1 (item n u))) (set keys n key) (set ns n a) ≡ q.after_append (queues_of ring keys ns) u key
  append_seen =
      let r = count (queues_of ring keys ns) in
      let after = all_items (after_take (appended ring 1 (item n u))) in
      let was : all ≡ all ++ [] = sym (append-nil all) in
      let is : after ≡ all ++ item n u ∷ [] = sym (append_assoc ring.first ring.second (item n u ∷ [])) in
      let same = same_after after all [] was is in
      let mine = shown_new keys ns n u key a r after low_key low (mine_after after all [] was is) in
      let f : Item → Queued = shown_unit (set keys n key) (set ns n a) after in
      let first = map_kept keys ns n key a (length ns) a all after ring.first (Tabled-left (length ns) a ns ring.first ring.second last) none_first same in
      let second = map_kept keys ns n key a (length ns) a all after ring.second (Tabled-right (length ns) a ns ring.first ring.second last) none_second same in
      let split : map f (ring.second ++ item n u ∷ []) ≡ map f ring.second ++ f (item n u) ∷ [] = map-append f ring.second (item n u ∷ []) in
      ap (λ (xs : List Queued). queues xs (map f (ring.second ++ item n u ∷ [])) (ring.spare - 1)) first
      ∙ ap (λ (ys : List Queued). queues (map (shown_unit keys ns all) ring.first) ys (ring.spare - 1)) (split ∙ ap (λ (ys : List Queued). ys ++ f (item n u) ∷ []) second ∙ ap (λ (e : Queued). map (shown_unit keys ns all) ring.second ++ e ∷ []) mine)

-- tests for a unit's number and for its node agree
abbrev Agree : ℕ → ℕ → List Item → Type 0
Agree k n [] = Unit {0}
Agree k n (x ∷ xs) = ((number_of x.unit == k) ≡ (x.node == n)) × Agree k n xs

Agree-none : (k n : ℕ) (xs : List Item) → has_number k xs ≡ false → has_node n xs ≡ false → Agree k n xs
Agree-none k n [] number node = tt
Agree-none k n (x ∷ xs) number node = (
  or_left (number_of x.unit == k) (has_number k xs) number ∙ sym (or_left (x.node == n) (has_node n xs) node),
  Agree-none k n xs (or_right (number_of x.unit == k) (has_number k xs) number) (or_right (x.node == n) (has_node n xs) node),
)

Agree-split : (k n : ℕ) (lft rgt : List Item) (x : Item) → number_of x.unit ≡ k → x.node ≡ n → has_number k (lft ++ rgt) ≡ false → has_node n (lft ++ rgt) ≡ false
    → Agree k n (lft ++ x ∷ rgt)
Agree-split k n [] rgt x is_k is_n number node = (eq-eqb (number_of x.unit) k is_k ∙ sym (eq-eqb x.node n is_n), Agree-none k n rgt number node)
Agree-split k n (y ∷ lft) rgt x is_k is_n number node = (
  or_left (number_of y.unit == k) (has_number k (lft ++ rgt)) number ∙ sym (or_left (y.node == n) (has_node n (lft ++ rgt)) node),
  Agree-split k n lft rgt x is_k is_n (or_right (number_of y.unit == k) (has_number k (lft ++ rgt)) number) (or_right (y.node == n) (has_node n (lft ++ rgt)) node),
)

Agree-left : (k n : ℕ) (xs ys : List Item) → Agree k n (xs ++ ys) → Agree k n xs
Agree-left k n [] ys agree = tt
Agree-left k n (x ∷ xs) ys agree = (agree.0, Agree-left k n xs ys agree.1)

Agree-right : (k n : ℕ) (xs ys : List Item) → Agree k n (xs ++ ys) → Agree k n ys
Agree-right k n [] ys agree = agree
Agree-right k n (x ∷ xs) ys agree = Agree-right k n xs ys agree.1

without-agree : (u : UnitId) (n : ℕ) (keys : List Key) (ns : List ℕ) (all xs : List Item) → Agree (number_of u) n xs
    → list_without u (map (shown_unit keys ns all) xs) ≡ map (shown_unit keys ns all) (without_in n xs)
without-agree u n keys ns all [] agree = refl
without-agree u n keys ns all (x ∷ xs) agree =
    let f : Item → Queued = shown_unit keys ns all in
    let rest = without-agree u n keys ns all xs agree.1 in
    ap (λ (t : Bool). if t then list_without u (map f xs) else f x ∷ list_without u (map f xs)) agree.0
    ∙ elim (x.node == n) as (λ t. (if t then list_without u (map f xs) else f x ∷ list_without u (map f xs)) ≡ map f (if t then without_in n xs else x ∷ without_in n xs)) [
      | true ↦ rest
      | false ↦ ap (λ (es : List Queued). f x ∷ es) rest
    ]

-- what a search finds in one list and then in the other is what it finds in both
pub rank_in-append : (u : UnitId) (es ds : List Queued) → rank_in u (es ++ ds) ≡ (if has_unit u es then rank_in u es else rank_in u ds)
rank_in-append u [] ds = refl
rank_in-append u (e ∷ es) ds =
    elim (q.is_of u e) as (λ t. (if t then e.rank else rank_in u (es ++ ds)) ≡ (if t || has_unit u es then (if t then e.rank else rank_in u es) else rank_in u ds)) [
      | true ↦ refl
      | false ↦ rank_in-append u es ds
    ]

-- a unit that goes, and one that moves
module _ (ring : Lists) (keys : List Key) (ns : List ℕ) (u : UnitId) (n : Node) (f : Found ring u n) where
  agree_all : Agree (number_of u) n.0 (all_items ring)
  agree_all =
      subst (Agree (number_of u) n.0) (sym f.is)
      (Agree-split (number_of u) n.0 f.lft f.rgt f.x f.number f.node f.gone (subst (λ (k : ℕ). has_node k (f.lft ++ f.rgt) ≡ false) f.node f.out.node))

  pub first_without : list_without u (map (shown_unit keys ns (all_items ring)) ring.first) ≡ map (shown_unit keys ns (all_items ring)) (without_in n.0 ring.first)
  first_without = without-agree u n.0 keys ns (all_items ring) ring.first (Agree-left (number_of u) n.0 ring.first ring.second agree_all)

  second_without : list_without u (map (shown_unit keys ns (all_items ring)) ring.second) ≡ map (shown_unit keys ns (all_items ring)) (without_in n.0 ring.second)
  second_without = without-agree u n.0 keys ns (all_items ring) ring.second (Agree-right (number_of u) n.0 ring.first ring.second agree_all)

  pub rank_is : rank_of (queues_of ring keys ns) u ≡ rank ns (all_items ring) (arrival_at ns f.x.node)
  rank_is =
      let g : Item → Queued = shown_unit keys ns (all_items ring) in
      sym (rank_in-append u (map g ring.first) (map g ring.second))
      ∙ ap (rank_in u) (sym (map-append g ring.first ring.second))
      ∙ ap (λ (xs : List Item). rank_in u (map g xs)) f.is
      ∙ rank_in-split u keys ns (all_items ring) f.lft f.rgt f.x f.number f.gone

  pub remove_seen : queues_of (after_give (l.lists_without ring n.0)) keys ns ≡ after_remove (queues_of ring keys ns) u
  remove_seen =
      let rest = f.lft ++ f.rgt in
      let g : Item → Queued = shown_unit keys ns (all_items ring) in
      let r = rank_of (queues_of ring keys ns) u in
      let closed : (xs : List Item) → map (shown_unit keys ns rest) xs ≡ map (closed_up r) (map g xs) = λ xs.
      map_closed keys ns f.lft f.rgt xs f.x
      ∙ ap (λ (ys : List Item). map (closed_up (rank ns ys (arrival_at ns f.x.node))) (map (shown_unit keys ns ys) xs)) (sym f.is)
      ∙ ap (λ (k : ℕ). map (closed_up k) (map g xs)) (sym rank_is)
      in
      let first = closed (without_in n.0 ring.first) ∙ ap (map (closed_up r)) (sym first_without) in
      let second = closed (without_in n.0 ring.second) ∙ ap (map (closed_up r)) (sym second_without) in
      ap (λ (ys : List Item). queues (map (shown_unit keys ns ys) (without_in n.0 ring.first)) (map (shown_unit keys ns ys) (without_in n.0 ring.second)) (ring.spare + 1)) f.rest
      ∙ ap (λ (xs : List Queued). queues xs (map (shown_unit keys ns rest) (without_in n.0 ring.second)) (ring.spare + 1)) first
      ∙ ap (λ (ys : List Queued). queues (map (closed_up r) (list_without u (map g ring.first))) ys (ring.spare + 1)) second

  -- the unit stands at its new place, on another node or on the same
  pub move_seen : (next m : ℕ) (key : Key) → Tabled (length ns) next ns (all_items (after_give (l.lists_without ring n.0)))
      → has_node m (all_items (after_give (l.lists_without ring n.0))) ≡ false → m < length ns → m < length keys
      → queues_of (put_ring (comes_before keys ns key (arrival_at ns n.0)) (item m u) (after_give (l.lists_without ring n.0))) (set keys m key) (set ns m (arrival_at ns n.0))
      ≡ after_move (queues_of ring keys ns) u key
  move_seen next m key tabled none low low_key =
      let a = arrival_at ns n.0 in
      let left : Lists = after_give (l.lists_without ring n.0) in
      let p : Item → Bool = comes_before keys ns key a in
      let r = rank_of (queues_of ring keys ns) u in
      let all = all_items ring in
      let s = put_split p (item m u) left.first in
      let after = all_items (put_ring p (item m u) left) in
      let at_node : arrival_at ns f.x.node ≡ a = ap (arrival_at ns) f.node in
      let r_is : r ≡ rank ns all a = rank_is ∙ ap (rank ns all) at_node in
      let same : (b : ℕ) → rank (set ns m a) after b ≡ rank ns all b = λ b.
      more_rank (all_items left) after s.lft (s.rgt ++ left.second) ns m u a b (put_was p (item m u) left s) (put_is p (item m u) left s) none low
      ∙ ap (λ (ys : List Item). rank ns ys b + one_if (nat_lt a b)) f.rest
      ∙ ap (λ (k : ℕ). rank ns (f.lft ++ f.rgt) b + one_if (nat_lt k b)) (sym at_node)
      ∙ sym (rank-out ns f.lft f.rgt f.x b)
      ∙ ap (λ (ys : List Item). rank ns ys b) (sym f.is)
      in
      let test : (b : ℕ) → nat_lt r (rank ns all b) ≡ nat_lt a b = λ b.
      ap (λ (k : ℕ). nat_lt k (rank ns all b)) rank_is
      ∙ ap (λ (ys : List Item). nat_lt (rank ns ys (arrival_at ns f.x.node)) (rank ns ys b)) f.is
      ∙ rank-test ns f.lft f.rgt f.x b
      ∙ ap (λ (k : ℕ). nat_lt k b) at_node
      in
      let none_first = has_left m left.first left.second none in
      let none_second = or_right (has_node m left.first) (has_node m left.second) (sym (live-append m left.first left.second) ∙ none) in
      let mine = shown_new keys ns m u key a r after low_key low (same a ∙ sym r_is) in
      let first_alike = alike keys ns m u key a r (length ns) next all after left.first (Tabled-left (length ns) next ns left.first left.second tabled) none_first (λ b less. same b) (λ b less. test b) in
      let first = map_put (shown_unit (set keys m key) (set ns m a) after) (shown_unit keys ns all) p (goes_before (queued_unit u key r)) (item m u) (queued_unit u key r) left.first mine first_alike in
      let second = map_kept keys ns m key a (length ns) next all after left.second (Tabled-right (length ns) next ns left.first left.second tabled) none_second (λ b less. same b) in
      let spare : ring.spare + 1 - 1 ≡ ring.spare = omega arith in
      ap (λ (xs : List Queued). queues xs (map (shown_unit (set keys m key) (set ns m a) after) left.second) (ring.spare + 1 - 1)) (first ∙ ap (list_with (queued_unit u key r)) (sym first_without))
      ∙ ap (λ (ys : List Queued). queues (list_with (queued_unit u key r) (list_without u (map (shown_unit keys ns all) ring.first))) ys (ring.spare + 1 - 1)) (second ∙ sym second_without)
      ∙ ap (queues (list_with (queued_unit u key r) (list_without u (map (shown_unit keys ns all) ring.first))) (list_without u (map (shown_unit keys ns all) ring.second))) spare

-- what is seen of the same parts
pub seen_is : (ring ring2 : Lists) (keys keys2 : List Key) (ns ns2 : List ℕ) → ring2 ≡ ring → keys2 ≡ keys → ns2 ≡ ns
    → queues_of ring2 keys2 ns2 ≡ queues_of ring keys ns
seen_is ring ring2 keys keys2 ns ns2 e1 e2 e3 =
    ap (λ (r : Lists). queues_of r keys2 ns2) e1 ∙ ap (λ (k : List Key). queues_of ring k ns2) e2 ∙ ap (queues_of ring keys) e3

-- a unit that is not seen has no number among the items
pub absent_is : (u : UnitId) (ring ring2 : Lists) (keys : List Key) (ns : List ℕ) (qs : Queues) (t : Bool) → ring2 ≡ ring → queues_of ring keys ns ≡ qs → holds qs u ≡ t
    → has_number (number_of u) (all_items ring2) ≡ t
absent_is u ring ring2 keys ns qs t same view e =
    ap (λ (r : Lists). has_number (number_of u) (all_items r)) same ∙ sym (holds-is u ring keys ns) ∙ ap (λ (s : Queues). holds s u) view ∙ e

-- the units of what is seen are those of the items
pub units-shown : (keys : List Key) (ns : List ℕ) (all xs : List Item) → map (λ (x : Item). x.unit) xs ≡ map (λ (e : Queued). e.unit) (map (shown_unit keys ns all) xs)
units-shown keys ns all [] = refl
units-shown keys ns all (x ∷ xs) = ap (λ (us : List UnitId). x.unit ∷ us) (units-shown keys ns all xs)

pub first_that-shown : (p : UnitId → Bool) (keys : List Key) (ns : List ℕ) (all xs : List Item) → first_that p (map (shown_unit keys ns all) xs) ≡ first_unit p xs
first_that-shown p keys ns all [] = refl
first_that-shown p keys ns all (x ∷ xs) = ap (λ (o : Option UnitId). if p x.unit then Some x.unit else o) (first_that-shown p keys ns all xs)

some_none : (n : Node) → Some n ≡ None → ⊥
some_none n e = cc

pub none_number : (k : ℕ) (xs : List Item) → node_of k xs ≡ None → has_number k xs ≡ false
none_number k [] e = refl
none_number k (x ∷ xs) e =
    elim (cases_eq (number_of x.unit) k) [
      | inl is ↦
          let here : Some (record { 0 = x.node }) ≡ None = sym (ap (λ (t : Bool). if t then Some (record { 0 = x.node }) else node_of k xs) (eq-eqb (number_of x.unit) k is)) ∙ e in
          absurd (some_none (record { 0 = x.node }) here)
      | inr other ↦
          let fails = ne_eqb (number_of x.unit) k other in
          ap (λ (t : Bool). t || has_number k xs) fails
          ∙ none_number k xs (sym (ap (λ (t : Bool). if t then Some (record { 0 = x.node }) else node_of k xs) fails) ∙ e)
    ]

-- a unit's node is within the tables
pub found_low : (places next : ℕ) (ns : List ℕ) (ring : Lists) (u : UnitId) (n : Node) → Found ring u n → Tabled places next ns (all_items ring)
    → (n.0 < places) × (arrival_at ns n.0 < next)
found_low places next ns ring u n f t =
    let mine = Tabled-mine places next ns f.lft f.rgt f.x (subst (Tabled places next ns) f.is t) in
    (subst (λ (k : ℕ). k < places) f.node mine.0, subst (λ (k : ℕ). arrival_at ns k < next) f.node mine.1)

-- a unit that has a node has a place
pub found_place : (places next : ℕ) (ns : List ℕ) (ring : Lists) (u : UnitId) (n : Node) → Found ring u n → Tabled places next ns (all_items ring) → u.n < 256
    → has_unit_place u ≡ true
found_place places next ns ring u n f t low =
    let mine = Tabled-mine places next ns f.lft f.rgt f.x (subst (Tabled places next ns) f.is t) in
    subst (λ (w : UnitId). has_unit_place w ≡ true) (sym (same_number u f.x.unit low mine.2 f.number)) mine.2

-- a unit without a place is not among the items
pub no_place : (places next : ℕ) (ns : List ℕ) (u : UnitId) (xs : List Item) → Tabled places next ns xs → u.n < 256 → has_unit_place u ≡ false
    → has_number (number_of u) xs ≡ false
no_place places next ns u [] t low none = refl
no_place places next ns u (x ∷ xs) t low none =
    let other : number_of x.unit ≡ number_of u → ⊥ = λ e.
    clash (has_unit_place u) (subst (λ (w : UnitId). has_unit_place w ≡ true) (sym (same_number u x.unit low t.2 e)) t.2) none
    in
    ap (λ (b : Bool). b || has_number (number_of u) xs) (ne_eqb (number_of x.unit) (number_of u) other)
    ∙ no_place places next ns u xs t.3 low none

-- no more are left than the list without the unit
pub length-left : (ring : Lists) (keys : List Key) (ns : List ℕ) (u : UnitId) (n : Node) → Found ring u n
    → length (without_in n.0 ring.first) ≡ length (list_without u (map (shown_unit keys ns (all_items ring)) ring.first))
length-left ring keys ns u n f =
    sym (length-map (without_in n.0 ring.first) (shown_unit keys ns (all_items ring))) ∙ sym (ap length (first_without ring keys ns u n f))

-- a unit that is taken away and put at its new place
pub moved_seen : (ring : Lists) (keys : List Key) (ns : List ℕ) (u : UnitId) (n : Node) → Found ring u n
    → (ring1 ring2 : Lists) (nodes1 : List (Option Node)) (keys1 keys2 : List Key) (ns1 ns2 fresh1 : List ℕ) (next m a : ℕ) (key : Key)
    → ring1 ≡ after_give (l.lists_without ring n.0) → keys1 ≡ keys → ns1 ≡ ns → IsQueue ring1 nodes1 keys1 ns1 fresh1 next
    → a ≡ arrival_at ns n.0 → has_node m (all_items ring1) ≡ false → m < length ns1
    → ring2 ≡ put_ring (comes_before keys1 ns1 key a) (item m u) ring1 → keys2 ≡ set keys1 m key → ns2 ≡ set ns1 m a
    → queues_of ring2 keys2 ns2 ≡ after_move (queues_of ring keys ns) u key
moved_seen ring keys ns u n f ring1 ring2 nodes1 keys1 keys2 ns1 ns2 fresh1 next m a key e_ring e_keys e_ns queue e_a none low is_ring is_keys is_ns =
    let left : Lists = after_give (l.lists_without ring n.0) in
    let a0 = arrival_at ns n.0 in
    let low_ns : m < length ns = subst (λ (xs : List ℕ). m < length xs) e_ns low in
    let low_keys : m < length keys = subst (λ (ks : List Key). m < length ks) e_keys (omega (arith, low, queue.keys_room)) in
    let none_left : has_node m (all_items left) ≡ false = subst (λ (r : Lists). has_node m (all_items r) ≡ false) e_ring none in
    let tabled : Tabled (length ns) next ns (all_items left) =
    subst (λ (r : Lists). Tabled (length ns) next ns (all_items r)) e_ring (subst (λ (xs : List ℕ). Tabled (length xs) next xs (all_items ring1)) e_ns queue.tabled)
    in
    let put_left : ring2 ≡ put_ring (comes_before keys ns key a0) (item m u) left =
    is_ring
    ∙ ap (λ (ks : List Key). put_ring (comes_before ks ns1 key a) (item m u) ring1) e_keys
    ∙ ap (λ (xs : List ℕ). put_ring (comes_before keys xs key a) (item m u) ring1) e_ns
    ∙ ap (λ (b : ℕ). put_ring (comes_before keys ns key b) (item m u) ring1) e_a
    ∙ ap (put_ring (comes_before keys ns key a0) (item m u)) e_ring
    in
    seen_is (put_ring (comes_before keys ns key a0) (item m u) left) ring2 (set keys m key) keys2 (set ns m a0) ns2
    put_left
    (is_keys ∙ ap (λ (ks : List Key). set ks m key) e_keys)
    (is_ns ∙ ap (λ (xs : List ℕ). set xs m a) e_ns ∙ ap (set ns m) e_a)
    ∙ move_seen ring keys ns u n f next m key tabled none_left low_ns low_keys
