-- The tables after each step on the ring.
use Rattle.std.proofs.Common.{◌≡◌, ℕ, ◌+◌, ◌-◌, ◌<◌, List, [], ◌∷◌, ◌++◌, length, set, Bool, true, false, refl, sym, ◌∙◌, ap, subst, inl, inr, arith, append_assoc}
use Rattle.std.specs.Prelude.{◌==◌, ◌||◌, if◌then◌else◌, Option, Some, None}
use Rattle.std.proofs.lemmas.Bool.{cases_eq, eq-eqb, ne_eqb}
use Rattle.std.proofs.lemmas.List.{append-nil}
use Rattle.sched_base.specs.declared.UnitId.{UnitId}
use Rattle.unit_places.specs.Places.{number_of, has_unit_place, unit_index}
use Rattle.sched_base.proofs.Bools.{or_right}
use Rattle.unit_places.proofs.Placed.{same_place}
use Rattle.unit_ring.specs.declared.Node.{Node}
use Rattle.unit_ring.specs.Lists as l
use Rattle.unit_ring.specs.Lists.{Item, Lists, item, has_node, is_live, room_of, after_take, after_give, after_append, without_in}
use Rattle.arrival_queue.specs.declared.key.Key.{Key}
use Rattle.arrival_queue.specs.Queues.{put_first}
use Rattle.arrival_queue.specs.Tables.{Apart, Tabled, IsQueue, all_items, has_number, node_of, first_node, put_ring, ring_with}
use Rattle.arrival_queue.proofs.Splits.{Tabled-mine, has_node-split, node_of-mine, Apart-out, TakenOut}
use Rattle.arrival_queue.proofs.Keeping.{kept_in, kept_out}
use Rattle.arrival_queue.proofs.Views.{found_node, found_none, put_split, UnitSplit, unit_split, put_before_in-none, without_in-split}
use Rattle.arrival_queue.proofs.Walking.{Apart-left, live-append}

-- the same tables under other names
pub same_queue : (ring ring2 : Lists) (nodes nodes2 : List (Option Node)) (keys keys2 : List Key) (ns ns2 fresh fresh2 : List ℕ) (next next2 : ℕ)
    → ring2 ≡ ring → nodes2 ≡ nodes → keys2 ≡ keys → ns2 ≡ ns → fresh2 ≡ fresh → next2 ≡ next
    → IsQueue ring nodes keys ns fresh next → IsQueue ring2 nodes2 keys2 ns2 fresh2 next2
same_queue ring ring2 nodes nodes2 keys keys2 ns ns2 fresh fresh2 next next2 e1 e2 e3 e4 e5 e6 q =
    subst (λ (r : Lists). IsQueue r nodes2 keys2 ns2 fresh2 next2) (sym e1)
    (subst (λ (n : List (Option Node)). IsQueue ring n keys2 ns2 fresh2 next2) (sym e2)
    (subst (λ (k : List Key). IsQueue ring nodes k ns2 fresh2 next2) (sym e3)
    (subst (λ (a : List ℕ). IsQueue ring nodes keys a fresh2 next2) (sym e4)
    (subst (λ (f : List ℕ). IsQueue ring nodes keys ns f next2) (sym e5)
    (subst (IsQueue ring nodes keys ns fresh) (sym e6) q)))))

-- a node that is not live is not among all items
pub fresh_items : (ring : Lists) (n : ℕ) → is_live ring n ≡ false → has_node n (all_items ring) ≡ false
fresh_items ring n none = live-append n ring.first ring.second ∙ none

-- where a search found a node, the ring takes the item there
pub found_live : (p : Item → Bool) (ring : Lists) (at : Node) → Apart (all_items ring) → first_node p ring.first ≡ Some at → is_live ring at.0 ≡ true
found_live p ring at apart e =
    let found = found_node p (item 0 l.no_unit) at ring.first (Apart-left ring.first ring.second apart) e in
    ap (λ (t : Bool). t || has_node at.0 ring.second) found.has

-- what one list has, the other lacks
other_lacks : (m : ℕ) (xs ys : List Item) → Apart (xs ++ ys) → has_node m xs ≡ true → has_node m ys ≡ false
other_lacks m [] ys apart has = absurd (cc)
other_lacks m (x ∷ xs) ys apart has =
    elim (cases_eq x.node m) [
      | inl is ↦
          or_right (has_node m xs) (has_node m ys) (sym (live-append m xs ys) ∙ subst (λ (k : ℕ). has_node k (xs ++ ys) ≡ false) is apart.0)
      | inr other ↦ other_lacks m xs ys apart.2 (sym (ap (λ (t : Bool). t || has_node m xs) (ne_eqb x.node m other)) ∙ has)
    ]

pub found_ring : (p : Item → Bool) (new : Item) (ring : Lists) (at : Option Node) → Apart (all_items ring) → at ≡ first_node p ring.first
    → ring_with at new ring ≡ put_ring p new ring
found_ring p new ring None apart e =
    ap (λ (xs : List Item). record { first = xs; second = ring.second; spare = ring.spare - 1 }) (found_none p new ring.first (sym e))
found_ring p new ring (Some at) apart e =
    let found = found_node p new at ring.first (Apart-left ring.first ring.second apart) (sym e) in
    ap (λ (xs : List Item). record { first = xs; second = l.put_before_in at.0 new ring.second; spare = ring.spare - 1 }) found.put
    ∙ ap (λ (xs : List Item). record { first = put_first p new ring.first; second = xs; spare = ring.spare - 1 })
    (put_before_in-none at.0 new ring.second (other_lacks at.0 ring.first ring.second apart found.has))

-- one item more, at its place or at the end of the others
module _ (ring : Lists) (nodes : List (Option Node)) (keys : List Key) (ns fresh : List ℕ) (next : ℕ) (q : IsQueue ring nodes keys ns fresh next)
    (n : ℕ) (u : UnitId) (key : Key) (a : ℕ) (no_node : has_node n (all_items ring) ≡ false) (no_number : has_number (number_of u) (all_items ring) ≡ false)
    (low : n < room_of ring + 4) (place : has_unit_place u ≡ true) (arrived : a < next) (room : 0 < ring.spare) where
  spare_more : ring.spare ≡ (ring.spare - 1) + 1
  spare_more = omega (arith, room)

  pub put_kept : (p : Item → Bool) → IsQueue (put_ring p (item n u) ring) (set nodes (unit_index u) (Some (record { 0 = n }))) (set keys n key) (set ns n a) fresh next
  put_kept p =
      let s = put_split p (item n u) ring.first in
      let was : all_items ring ≡ s.lft ++ (s.rgt ++ ring.second) =
      ap (λ (xs : List Item). xs ++ ring.second) s.was ∙ append_assoc s.lft s.rgt ring.second
      in
      let is : put_first p (item n u) ring.first ++ ring.second ≡ s.lft ++ item n u ∷ (s.rgt ++ ring.second) =
      ap (λ (xs : List Item). xs ++ ring.second) s.is ∙ append_assoc s.lft (item n u ∷ s.rgt) ring.second
      in
      kept_in ring (put_ring p (item n u) ring) nodes keys ns fresh next next s.lft (s.rgt ++ ring.second) (item n u) key a q was is spare_more no_node no_number low place arrived (omega arith)

  pub append_kept : IsQueue (after_take (after_append ring 1 (item n u))) (set nodes (unit_index u) (Some (record { 0 = n }))) (set keys n key) (set ns n a) fresh next
  append_kept =
      let was : all_items ring ≡ all_items ring ++ [] = sym (append-nil (all_items ring)) in
      let is : ring.first ++ (ring.second ++ item n u ∷ []) ≡ all_items ring ++ item n u ∷ [] = sym (append_assoc ring.first ring.second (item n u ∷ [])) in
      kept_in ring (after_take (after_append ring 1 (item n u))) nodes keys ns fresh next next (all_items ring) [] (item n u) key a q was is spare_more no_node no_number low place arrived (omega arith)

-- where a unit stands among all items, and the ring without its node
without_in-append : (n : ℕ) (xs ys : List Item) → without_in n (xs ++ ys) ≡ without_in n xs ++ without_in n ys
without_in-append n [] ys = refl
without_in-append n (x ∷ xs) ys =
    elim (x.node == n) as (λ t. (if t then without_in n (xs ++ ys) else x ∷ without_in n (xs ++ ys)) ≡ (if t then without_in n xs else x ∷ without_in n xs) ++ without_in n ys) [
      | true ↦ without_in-append n xs ys
      | false ↦ ap (λ (zs : List Item). x ∷ zs) (without_in-append n xs ys)
    ]

pub some_has : (k : ℕ) (n : Node) (xs : List Item) → node_of k xs ≡ Some n → has_number k xs ≡ true
some_has k n [] e = absurd (cc)
some_has k n (x ∷ xs) e =
    elim (cases_eq (number_of x.unit) k) [
      | inl is ↦ ap (λ (t : Bool). t || has_number k xs) (eq-eqb (number_of x.unit) k is)
      | inr other ↦
          let no = ne_eqb (number_of x.unit) k other in
          ap (λ (t : Bool). t || has_number k xs) no
          ∙ some_has k n xs (sym (ap (λ (t : Bool). if t then Some (record { 0 = x.node }) else node_of k xs) no) ∙ e)
    ]

pub record Found (ring : Lists) (u : UnitId) (n : Node) : Type 0 where
  pub lft : List Item
  pub rgt : List Item
  pub x : Item
  pub is : all_items ring ≡ lft ++ x ∷ rgt
  pub number : number_of x.unit ≡ number_of u
  pub node : x.node ≡ n.0
  pub out : TakenOut lft rgt x
  pub rest : all_items (after_give (l.lists_without ring n.0)) ≡ lft ++ rgt
  pub live : is_live ring n.0 ≡ true
  pub gone : has_number (number_of u) (lft ++ rgt) ≡ false

pub found : (ring : Lists) (u : UnitId) (n : Node) → Apart (all_items ring) → node_of (number_of u) (all_items ring) ≡ Some n → Found ring u n
found ring u n apart e =
    let s : UnitSplit (number_of u) (all_items ring) = unit_split (number_of u) (all_items ring) (some_has (number_of u) n (all_items ring) e) in
    let out : TakenOut s.lft s.rgt s.x = Apart-out s.lft s.rgt s.x (subst Apart s.is apart) in
    let gone : has_number (number_of u) (s.lft ++ s.rgt) ≡ false = subst (λ (k : ℕ). has_number k (s.lft ++ s.rgt) ≡ false) s.number out.number in
    let mine : node_of (number_of s.x.unit) (s.lft ++ s.x ∷ s.rgt) ≡ Some (record { 0 = s.x.node }) = node_of-mine s.lft s.rgt s.x out.number in
    let both : Some (record { 0 = s.x.node }) ≡ Some n =
    sym mine ∙ ap (λ (k : ℕ). node_of k (s.lft ++ s.x ∷ s.rgt)) s.number ∙ sym (ap (node_of (number_of u)) s.is) ∙ e
    in
    let node_is : s.x.node ≡ n.0 = ap (λ (o : Option Node). elim o as (λ _. ℕ) [ None ↦ 0 | Some m ↦ m.0 ]) both in
    let none : has_node n.0 (s.lft ++ s.rgt) ≡ false = subst (λ (k : ℕ). has_node k (s.lft ++ s.rgt) ≡ false) node_is out.node in
    let here : has_node n.0 (all_items ring) ≡ true =
    ap (has_node n.0) s.is ∙ has_node-split n.0 s.lft s.rgt s.x ∙ ap (λ (t : Bool). t || has_node n.0 (s.lft ++ s.rgt)) (eq-eqb s.x.node n.0 node_is)
    in
    record {
      lft = s.lft;
      rgt = s.rgt;
      x = s.x;
      is = s.is;
      number = s.number;
      node = node_is;
      out = out;
      rest = sym (without_in-append n.0 ring.first ring.second) ∙ ap (without_in n.0) s.is ∙ without_in-split n.0 s.lft s.rgt s.x node_is none;
      live = sym (live-append n.0 ring.first ring.second) ∙ here;
      gone = gone;
    }

pub take_kept : (ring : Lists) (nodes : List (Option Node)) (keys : List Key) (ns fresh : List ℕ) (next : ℕ) (u : UnitId) (n : Node)
    → IsQueue ring nodes keys ns fresh next → Found ring u n → has_unit_place u ≡ true
    → IsQueue (after_give (l.lists_without ring n.0)) (set nodes (unit_index u) None) keys ns fresh next
take_kept ring nodes keys ns fresh next u n q f place =
    let mine = Tabled-mine (length ns) next ns f.lft f.rgt f.x (subst (Tabled (length ns) next ns) f.is q.tabled) in
    subst (λ (k : ℕ). IsQueue (after_give (l.lists_without ring n.0)) (set nodes k None) keys ns fresh next) (same_place f.x.unit u mine.2 place f.number)
    (kept_out ring (after_give (l.lists_without ring n.0)) nodes keys ns fresh next f.lft f.rgt f.x q f.is f.rest refl)
