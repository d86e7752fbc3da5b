-- What a written link makes of the numbers that contracts see.
use Rattle.std.proofs.Common.{◌≡◌, ℕ, zero, suc, ◌+◌, ◌-◌, ◌*◌, ◌<◌, List, [], ◌∷◌, length, map, set, get_or, refl, sym, ◌∙◌, ap, subst, inl, inr, arith, length-set}
use Rattle.std.specs.Prelude.{◌/◌}
use Rattle.std.proofs.lemmas.Bool.{cases_eq}
use Rattle.std.proofs.lemmas.List.{get_or-set_same, get_or-set_other, get_or_default, length-map}
use lib.Seq.{set-get_or}
use denote.RawPtr.{Ptr, block_ptr, block_of, count_of, InBlock, at_block, ◌+ₚ◌}
use Rattle.sched_base.specs.declared.UnitId.{UnitId}
use Rattle.core.specs.declared.slots.Slots.{Slots}
use Rattle.core.specs.Mem.Slots.{slots_items, IsFull, SamePlaces}
use Rattle.unit_ring.specs.Chains.{link, after_without, before_without, after_with, before_with}
use Rattle.unit_ring.specs.declared.nodes.Address.{Address}
use Rattle.unit_ring.specs.declared.nodes.NodeRecord.{NodeRecord}
use Rattle.unit_ring.specs.Nodes.{place, number_at, empty_node, numbered_node, with_after, with_before, links_of, first_node, IsLinked, IsRow}

pub map-set : {X Y : Type 0} (f : X → Y) (xs : List X) (k : ℕ) (v : X) → map f (set xs k v) ≡ set (map f xs) k (f v)
map-set f [] k v = refl
map-set f (x ∷ xs) zero v = refl
map-set {Y = Y} f (x ∷ xs) (suc k) v = ap (λ (ys : List Y). f x ∷ ys) (map-set f xs k v)

pub map-get : {X Y : Type 0} (f : X → Y) (xs : List X) (k : ℕ) (d : X) → get_or (map f xs) k (f d) ≡ f (get_or xs k d)
map-get f [] k d = refl
map-get f (x ∷ xs) zero d = refl
map-get f (x ∷ xs) (suc k) d = map-get f xs k d

-- what another link leaves alone
kept : {Y : Type 0} (f : NodeRecord → Y) (xs : List NodeRecord) (k : ℕ) (v : NodeRecord) → f v ≡ f (numbered_node xs k) → map f (set xs k v) ≡ map f xs
kept f xs k v same = map-set f xs k v ∙ ap (set (map f xs) k) (same ∙ sym (map-get f xs k empty_node)) ∙ set-get_or (map f xs) k (f empty_node)

kept-at : {Y : Type 0} (f : NodeRecord → Y) (xs : List NodeRecord) (k m : ℕ) (v : NodeRecord) → f v ≡ f (numbered_node xs k) → f (numbered_node (set xs k v) m) ≡ f (numbered_node xs m)
kept-at {Y = Y} f xs k m v same =
    sym (map-get f (set xs k v) m empty_node) ∙ ap (λ (ys : List Y). get_or ys m (f empty_node)) (kept f xs k v same) ∙ map-get f xs m empty_node

-- the number of a place
pub number-place : (base : Address) (j : ℕ) → InBlock base.ptr → number_at base (place base j) ≡ j
number-place base j block =
    let e : base.ptr ≡ block_ptr (block_of base.ptr) (count_of base.ptr) = at_block base.ptr block in
    let o : ℕ = count_of base.ptr in
    let moved : count_of (base.ptr +ₚ j * 24) ≡ o + j * 24 = ap (λ (p : Ptr). count_of (p +ₚ j * 24)) e in
    let apart : count_of (base.ptr +ₚ j * 24) - o ≡ j * 24 = omega (arith, moved) in
    ap (λ (n : ℕ). n / 24) apart ∙ omega arith

-- a link written
module _ (base : Address) (block : InBlock base.ptr) (xs : List NodeRecord) (k j : ℕ) where
  pub after-written : (links_of base (with_after xs k (place base j))).after ≡ set (links_of base xs).after k j
  after-written =
      map-set (λ (x : NodeRecord). number_at base x.after) xs k (record (numbered_node xs k) { after = place base j })
      ∙ ap (set (links_of base xs).after k) (number-place base j block)

  pub after-keeps_before : (links_of base (with_after xs k (place base j))).before ≡ (links_of base xs).before
  after-keeps_before = kept (λ (x : NodeRecord). number_at base x.before) xs k (record (numbered_node xs k) { after = place base j }) refl

  pub after-keeps_units : (links_of base (with_after xs k (place base j))).units ≡ (links_of base xs).units
  after-keeps_units = kept (λ (x : NodeRecord). x.unit) xs k (record (numbered_node xs k) { after = place base j }) refl

  pub before-written : (links_of base (with_before xs k (place base j))).before ≡ set (links_of base xs).before k j
  before-written =
      map-set (λ (x : NodeRecord). number_at base x.before) xs k (record (numbered_node xs k) { before = place base j })
      ∙ ap (set (links_of base xs).before k) (number-place base j block)

  pub before-keeps_after : (links_of base (with_before xs k (place base j))).after ≡ (links_of base xs).after
  before-keeps_after = kept (λ (x : NodeRecord). number_at base x.after) xs k (record (numbered_node xs k) { before = place base j }) refl

  pub before-keeps_units : (links_of base (with_before xs k (place base j))).units ≡ (links_of base xs).units
  before-keeps_units = kept (λ (x : NodeRecord). x.unit) xs k (record (numbered_node xs k) { before = place base j }) refl

  -- what is written is where the node leads
  leads : (f : NodeRecord → Address) (v : NodeRecord) → f v ≡ place base j → ((m : ℕ) → m < length xs → f (numbered_node xs m) ≡ place base (link (map (λ x. number_at base (f x)) xs) m))
      → (m : ℕ) → m < length xs → f (numbered_node (set xs k v) m) ≡ place base (link (set (map (λ x. number_at base (f x)) xs) k j) m)
  leads f v is was m low =
      let fs : List ℕ = map (λ x. number_at base (f x)) xs in
      let long : length fs ≡ length xs = length-map xs (λ x. number_at base (f x)) in
      elim (cases_eq m k) [
        | inl same ↦
            let here : k < length xs = omega (arith, same, low) in
            let there : k < length fs = omega (arith, here, long) in
            ap (λ (i : ℕ). f (numbered_node (set xs k v) i)) same
            ∙ ap f (get_or-set_same xs k v empty_node here)
            ∙ is
            ∙ sym (ap (place base) (ap (λ (i : ℕ). link (set fs k j) i) same ∙ get_or-set_same fs k j 0 there))
        | inr other ↦
            ap f (get_or-set_other xs k m v empty_node other)
            ∙ was m low
            ∙ sym (ap (place base) (get_or-set_other fs k m j 0 other))
      ]

  pub linked-after : IsLinked base xs → IsLinked base (with_after xs k (place base j))
  linked-after linked =
      let v : NodeRecord = record (numbered_node xs k) { after = place base j } in
      let long : length (set xs k v) ≡ length xs = length-set xs k v in
      record {
        after = λ m low.
            leads (λ (x : NodeRecord). x.after) v refl linked.after m (omega (arith, low, long)) ∙ sym (ap (λ (fs : List ℕ). place base (link fs m)) after-written);
        before = λ m low.
            kept-at (λ (x : NodeRecord). x.before) xs k m v refl ∙ linked.before m (omega (arith, low, long)) ∙ sym (ap (λ (fs : List ℕ). place base (link fs m)) after-keeps_before);
        number = λ m low. kept-at (λ (x : NodeRecord). x.number) xs k m v refl ∙ linked.number m (omega (arith, low, long));
      }

  pub linked-before : IsLinked base xs → IsLinked base (with_before xs k (place base j))
  linked-before linked =
      let v : NodeRecord = record (numbered_node xs k) { before = place base j } in
      let long : length (set xs k v) ≡ length xs = length-set xs k v in
      record {
        after = λ m low.
            kept-at (λ (x : NodeRecord). x.after) xs k m v refl ∙ linked.after m (omega (arith, low, long)) ∙ sym (ap (λ (fs : List ℕ). place base (link fs m)) before-keeps_after);
        before = λ m low.
            leads (λ (x : NodeRecord). x.before) v refl linked.before m (omega (arith, low, long)) ∙ sym (ap (λ (fs : List ℕ). place base (link fs m)) before-written);
        number = λ m low. kept-at (λ (x : NodeRecord). x.number) xs k m v refl ∙ linked.number m (omega (arith, low, long));
      }

-- the nodes after both links of an unlink, and after the four of an insert
pub record Now (base : Address) (nodes : List NodeRecord) (f g : List ℕ) (us : List UnitId) : Type 0 where
  pub linked : IsLinked base nodes
  pub after : (links_of base nodes).after ≡ f
  pub before : (links_of base nodes).before ≡ g
  pub units : (links_of base nodes).units ≡ us

now_after : (base : Address) → InBlock base.ptr → (nodes : List NodeRecord) (f g : List ℕ) (us : List UnitId) (k j : ℕ) → Now base nodes f g us
    → Now base (with_after nodes k (place base j)) (set f k j) g us
now_after base block nodes f g us k j now = record {
  linked = linked-after base block nodes k j now.linked;
  after = after-written base block nodes k j ∙ ap (λ (h : List ℕ). set h k j) now.after;
  before = after-keeps_before base block nodes k j ∙ now.before;
  units = after-keeps_units base block nodes k j ∙ now.units;
}

now_before : (base : Address) → InBlock base.ptr → (nodes : List NodeRecord) (f g : List ℕ) (us : List UnitId) (k j : ℕ) → Now base nodes f g us
    → Now base (with_before nodes k (place base j)) f (set g k j) us
now_before base block nodes f g us k j now = record {
  linked = linked-before base block nodes k j now.linked;
  after = before-keeps_after base block nodes k j ∙ now.after;
  before = before-written base block nodes k j ∙ ap (λ (h : List ℕ). set h k j) now.before;
  units = before-keeps_units base block nodes k j ∙ now.units;
}

-- a row, and what is seen of it
pub record Seen (row : Slots NodeRecord) (base : Address) (f g : List ℕ) (us : List UnitId) : Type 0 where
  pub row_is : IsRow row base
  pub after : (links_of base (slots_items row)).after ≡ f
  pub before : (links_of base (slots_items row)).before ≡ g
  pub units : (links_of base (slots_items row)).units ≡ us

seen : (row new : Slots NodeRecord) (base : Address) (f g : List ℕ) (us : List UnitId) (nodes : List NodeRecord) → IsRow row base
    → SamePlaces row new → IsFull new → slots_items new ≡ nodes → Now base nodes f g us → Seen new base f g us
seen row new base f g us nodes is same full e now = record {
  row_is = record { start = same.start ∙ is.start; block = is.block; full = full; linked = subst (IsLinked base) (sym e) now.linked };
  after = ap (λ (xs : List NodeRecord). (links_of base xs).after) e ∙ now.after;
  before = ap (λ (xs : List NodeRecord). (links_of base xs).before) e ∙ now.before;
  units = ap (λ (xs : List NodeRecord). (links_of base xs).units) e ∙ now.units;
}

abbrev then : Address → List NodeRecord → List ℕ
then base xs = (links_of base xs).after

abbrev back : Address → List NodeRecord → List ℕ
back base xs = (links_of base xs).before

-- what an unlink makes
pub unlinked : (row new : Slots NodeRecord) (base : Address) (n a b : ℕ) → IsRow row base → a ≡ link (back base (slots_items row)) n → b ≡ link (then base (slots_items row)) n
    → slots_items new ≡ with_before (with_after (slots_items row) a (place base b)) b (place base a) → SamePlaces row new → IsFull new
    → Seen new base (after_without (then base (slots_items row)) (back base (slots_items row)) n) (before_without (then base (slots_items row)) (back base (slots_items row)) n)
    (links_of base (slots_items row)).units
unlinked row new base n a b is a_is b_is e same full =
    let xs = slots_items row in let f = then base xs in let g = back base xs in let us = (links_of base xs).units in
    let first : Now base xs f g us = record { linked = is.linked; after = refl; before = refl; units = refl } in
    let one = now_after base is.block xs f g us a b first in
    let two = now_before base is.block (with_after xs a (place base b)) (set f a b) g us b a one in
    let made = seen row new base (set f a b) (set g b a) us (with_before (with_after xs a (place base b)) b (place base a)) is same full e two in
    subst (λ (ps : ℕ × ℕ). Seen new base (set f ps.0 ps.1) (set g ps.1 ps.0) us) (λ i. (a_is i, b_is i)) made

-- what an insert makes
pub inserted : (row new : Slots NodeRecord) (base : Address) (at n last : ℕ) → IsRow row base → last ≡ link (back base (slots_items row)) at
    → slots_items new ≡ with_before (with_before (with_after (with_after (slots_items row) last (place base n)) n (place base at)) n (place base last)) at (place base n)
    → SamePlaces row new → IsFull new
    → Seen new base (after_with (then base (slots_items row)) (back base (slots_items row)) at n) (before_with (then base (slots_items row)) (back base (slots_items row)) at n)
    (links_of base (slots_items row)).units
inserted row new base at n last is last_is e same full =
    let xs = slots_items row in let f = then base xs in let g = back base xs in let us = (links_of base xs).units in
    let first : Now base xs f g us = record { linked = is.linked; after = refl; before = refl; units = refl } in
    let ys1 = with_after xs last (place base n) in let ys2 = with_after ys1 n (place base at) in let ys3 = with_before ys2 n (place base last) in
    let one = now_after base is.block xs f g us last n first in
    let two = now_after base is.block ys1 (set f last n) g us n at one in
    let three = now_before base is.block ys2 (set (set f last n) n at) g us n last two in
    let four = now_before base is.block ys3 (set (set f last n) n at) (set g n last) us at n three in
    let made = seen row new base (set (set f last n) n at) (set (set g n last) at n) us (with_before ys3 at (place base n)) is same full e four in
    subst (λ (p : ℕ). Seen new base (set (set f p n) n at) (set (set g n p) at n) us) last_is made

-- a node read, as the node of its number
pub read_node : (xs : List NodeRecord) (n : ℕ) (x : NodeRecord) → n < length xs → x ≡ get_or xs n x → x ≡ numbered_node xs n
read_node xs n x low e = e ∙ get_or_default xs n x empty_node low

-- the nodes with another unit of one
module _ (base : Address) (xs : List NodeRecord) (n : ℕ) (x : NodeRecord) (u : UnitId) (is : x ≡ numbered_node xs n) where
  abbrev v : NodeRecord
  v = record { after = x.after; before = x.before; unit = u; number = x.number }

  pub unit-keeps_after : (links_of base (set xs n v)).after ≡ (links_of base xs).after
  unit-keeps_after = kept (λ (y : NodeRecord). number_at base y.after) xs n v (ap (λ (y : NodeRecord). number_at base y.after) is)

  pub unit-keeps_before : (links_of base (set xs n v)).before ≡ (links_of base xs).before
  unit-keeps_before = kept (λ (y : NodeRecord). number_at base y.before) xs n v (ap (λ (y : NodeRecord). number_at base y.before) is)

  pub unit-written : (links_of base (set xs n v)).units ≡ set (links_of base xs).units n u
  unit-written = map-set (λ (y : NodeRecord). y.unit) xs n v

-- nodes that all lead to the base lead to number 0
module _ (base : Address) (xs : List NodeRecord) (block : InBlock base.ptr) (first : (k : ℕ) → k < length xs → numbered_node xs k ≡ first_node base k) where
  zero_at : (f : NodeRecord → Address) → ((k : ℕ) → f (first_node base k) ≡ base) → (k : ℕ) → k < length xs → link (map (λ x. number_at base (f x)) xs) k ≡ 0
  zero_at f is k low =
      let fs : List ℕ = map (λ x. number_at base (f x)) xs in
      let long : length fs ≡ length xs = length-map xs (λ x. number_at base (f x)) in
      let there : k < length fs = omega (arith, low, long) in
      let none : number_at base base ≡ 0 = let gone : count_of base.ptr - count_of base.ptr ≡ 0 = omega arith in ap (λ (n : ℕ). n / 24) gone in
      get_or_default fs k 0 (number_at base (f empty_node)) there
      ∙ map-get (λ (x : NodeRecord). number_at base (f x)) xs k empty_node
      ∙ ap (λ (x : NodeRecord). number_at base (f x)) (first k low)
      ∙ ap (number_at base) (is k)
      ∙ none

  pub all_first : (k : ℕ) → k < length xs → link (links_of base xs).before k ≡ 0
  all_first k low = zero_at (λ (x : NodeRecord). x.before) (λ k. refl) k low

  place-zero : base ≡ place base 0
  place-zero =
      let e : base.ptr ≡ block_ptr (block_of base.ptr) (count_of base.ptr) = at_block base.ptr block in
      let same : count_of base.ptr ≡ count_of base.ptr + 0 * 24 = omega arith in
      ap (λ (p : Ptr). record { ptr = p }) (e ∙ ap (λ (o : ℕ). block_ptr (block_of base.ptr) o) same)
      ∙ sym (ap (λ (p : Ptr). record { ptr = p +ₚ 0 * 24 }) e)

  pub first_linked : IsLinked base xs
  first_linked = record {
    after = λ k low. ap (λ (x : NodeRecord). x.after) (first k low) ∙ place-zero ∙ sym (ap (place base) (zero_at (λ (x : NodeRecord). x.after) (λ k. refl) k low));
    before = λ k low. ap (λ (x : NodeRecord). x.before) (first k low) ∙ place-zero ∙ sym (ap (place base) (all_first k low));
    number = λ k low. ap (λ (x : NodeRecord). x.number) (first k low);
  }
