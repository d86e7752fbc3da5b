-- Arrivals that are numbered anew keep their order.
use Rattle.std.proofs.Common.{◌≡◌, ℕ, zero, suc, ◌+◌, ◌<◌, ◌≤◌, List, [], ◌∷◌, length, map, get_or, Bool, refl, sym, ◌∙◌, ap, subst, inl, inr, arith}
use Rattle.std.specs.Prelude.{nat_lt, Option}
use Rattle.std.proofs.Math.ListN.{get_or-map}
use Rattle.std.proofs.lemmas.Bool.{cases_lt, lt-ltb, le-ltb}
use Rattle.std.proofs.lemmas.List.{get_or_default, length-map}
use Rattle.std.proofs.lemmas.List.Sums.{count_by-le-length, sum_by-append}
use Rattle.unit_ring.specs.declared.Node.{Node}
use Rattle.unit_ring.specs.Lists.{Item, Lists}
use Rattle.arrival_queue.specs.declared.key.Key.{Key}
use Rattle.arrival_queue.specs.Queues.{Queued, queued_unit}
use Rattle.arrival_queue.specs.Tables.{Tabled, IsQueue, all_items, arrival_at, key_at, rank, shown_unit, count_below, queues_of}
use Rattle.arrival_queue.proofs.Ranks.{rank-cons}
use Rattle.sched_base.specs.Numbers.{one_if}
use Rattle.arrival_queue.proofs.Walking.{Tabled-left, Tabled-right}

below-cons : (n : ℕ) (ns : List ℕ) (a : ℕ) → count_below (n ∷ ns) a ≡ one_if (nat_lt n a) + count_below ns a
below-cons n ns a =
    let f : ℕ → ℕ = λ m. one_if (nat_lt m a) in
    let whole : count_below (n ∷ ns) a ≡ count_below (n ∷ []) a + count_below ns a = sum_by-append f (n ∷ []) ns in
    omega (arith, whole)

below-mono : (ns : List ℕ) (a b : ℕ) → a ≤ b → count_below ns a ≤ count_below ns b
below-mono [] a b low = omega arith
below-mono (n ∷ ns) a b low =
    let rest = below-mono ns a b low in
    let at_a = below-cons n ns a in
    let at_b = below-cons n ns b in
    elim (cases_lt n a) [
      | inl less ↦
          let one : one_if (nat_lt n a) ≡ 1 = ap one_if (lt-ltb n a less) in
          let two : one_if (nat_lt n b) ≡ 1 = ap one_if (lt-ltb n b (omega (arith, less, low))) in
          omega (arith, rest, one, two, at_a, at_b)
      | inr more ↦ let none : one_if (nat_lt n a) ≡ 0 = ap one_if (le-ltb n a more) in omega (arith, rest, none, at_a, at_b)
    ]

-- a number of the list counts for those above it
below-strict : (ns : List ℕ) (i b : ℕ) → i < length ns → get_or ns i 0 < b → count_below ns (get_or ns i 0) < count_below ns b
below-strict [] i b low less = absurd (omega (arith, low))
below-strict (n ∷ ns) zero b low less =
    let at_a = below-cons n ns n in
    let at_b = below-cons n ns b in
    let none : one_if (nat_lt n n) ≡ 0 = ap one_if (le-ltb n n (omega arith)) in
    let one : one_if (nat_lt n b) ≡ 1 = ap one_if (lt-ltb n b less) in
    omega (arith, at_a, at_b, none, one, below-mono ns n b (omega (arith, less)))
below-strict (n ∷ ns) (suc i) b low less =
    let a = get_or ns i 0 in
    let rest = below-strict ns i b (omega (arith, low)) less in
    let at_a = below-cons n ns a in
    let at_b = below-cons n ns b in
    elim (cases_lt n a) [
      | inl is ↦
          let one : one_if (nat_lt n a) ≡ 1 = ap one_if (lt-ltb n a is) in
          let two : one_if (nat_lt n b) ≡ 1 = ap one_if (lt-ltb n b (omega (arith, less, is))) in
          omega (arith, rest, one, two, at_a, at_b)
      | inr more ↦ let none : one_if (nat_lt n a) ≡ 0 = ap one_if (le-ltb n a more) in omega (arith, rest, none, at_a, at_b)
    ]

below-test : (ns : List ℕ) (i b : ℕ) → i < length ns → nat_lt (count_below ns (get_or ns i 0)) (count_below ns b) ≡ nat_lt (get_or ns i 0) b
below-test ns i b low =
    let a = get_or ns i 0 in
    elim (cases_lt a b) [
      | inl less ↦ lt-ltb (count_below ns a) (count_below ns b) (below-strict ns i b low less) ∙ sym (lt-ltb a b less)
      | inr more ↦ le-ltb (count_below ns a) (count_below ns b) (below-mono ns b a more) ∙ sym (le-ltb a b more)
    ]

-- the new number of a node's arrival
new_arrival : (ns : List ℕ) (n : ℕ) → n < length ns → arrival_at (map (count_below ns) ns) n ≡ count_below ns (arrival_at ns n)
new_arrival ns n low =
    get_or_default (map (count_below ns) ns) n 0 (count_below ns 0) (rw (length-map ns (count_below ns)) low) ∙ get_or-map (count_below ns) ns n 0

rank-new : (places next : ℕ) (ns : List ℕ) (xs : List Item) (b : ℕ) → Tabled (length ns) next ns xs → rank (map (count_below ns) ns) xs (count_below ns b) ≡ rank ns xs b
rank-new places next ns [] b t = refl
rank-new places next ns (x ∷ xs) b t =
    let test : nat_lt (arrival_at (map (count_below ns) ns) x.node) (count_below ns b) ≡ nat_lt (arrival_at ns x.node) b =
    ap (λ (m : ℕ). nat_lt m (count_below ns b)) (new_arrival ns x.node t.0) ∙ below-test ns x.node b t.0
    in
    rank-cons (map (count_below ns) ns) x xs (count_below ns b)
    ∙ ap (λ (y : Bool). one_if y + rank (map (count_below ns) ns) xs (count_below ns b)) test
    ∙ ap (λ (m : ℕ). one_if (nat_lt (arrival_at ns x.node) b) + m) (rank-new places next ns xs b t.3)
    ∙ sym (rank-cons ns x xs b)

map-new : (keys : List Key) (next : ℕ) (ns : List ℕ) (all xs : List Item) → Tabled (length ns) next ns all → Tabled (length ns) next ns xs
    → map (shown_unit keys (map (count_below ns) ns) all) xs ≡ map (shown_unit keys ns all) xs
map-new keys next ns all [] t each = refl
map-new keys next ns all (x ∷ xs) t each =
    ap (λ (m : ℕ). queued_unit x.unit (key_at keys x.node) (rank (map (count_below ns) ns) all m) ∷ map (shown_unit keys (map (count_below ns) ns) all) xs) (new_arrival ns x.node each.0)
    ∙ ap (λ (r : ℕ). queued_unit x.unit (key_at keys x.node) r ∷ map (shown_unit keys (map (count_below ns) ns) all) xs) (rank-new 0 next ns all (arrival_at ns x.node) t)
    ∙ ap (λ (es : List Queued). shown_unit keys ns all x ∷ es) (map-new keys next ns all xs t each.3)

Tabled-new : (next : ℕ) (ns : List ℕ) (xs : List Item) → Tabled (length ns) next ns xs → Tabled (length ns) (length ns + 1) (map (count_below ns) ns) xs
Tabled-new next ns [] t = tt
Tabled-new next ns (x ∷ xs) t =
    let most : count_below ns (arrival_at ns x.node) ≤ length ns = count_by-le-length (λ b. nat_lt b (arrival_at ns x.node)) ns in
    (t.0, omega (arith, new_arrival ns x.node t.0, most), t.2, Tabled-new next ns xs t.3)

-- the tables with new numbers
pub renumbered : (ring : Lists) (nodes : List (Option Node)) (keys : List Key) (ns fresh other : List ℕ) (next : ℕ)
    → IsQueue ring nodes keys ns fresh next → length other ≡ length ns → IsQueue ring nodes keys (map (count_below ns) ns) other (length ns + 1)
renumbered ring nodes keys ns fresh other next q size =
    let same : length (map (count_below ns) ns) ≡ length ns = length-map ns (count_below ns) in
    record {
      apart = q.apart;
      tabled = subst (λ (n : ℕ). Tabled n (length ns + 1) (map (count_below ns) ns) (all_items ring)) (sym same) (Tabled-new next ns (all_items ring) q.tabled);
      listed = q.listed;
      places = q.places;
      room = same ∙ q.room;
      keys_room = q.keys_room ∙ sym same;
      fresh_room = size ∙ sym same;
    }

pub seen_anew : (ring : Lists) (nodes : List (Option Node)) (keys : List Key) (ns fresh : List ℕ) (next : ℕ)
    → IsQueue ring nodes keys ns fresh next → queues_of ring keys (map (count_below ns) ns) ≡ queues_of ring keys ns
seen_anew ring nodes keys ns fresh next q =
    let all = all_items ring in
    ap (λ (es : List Queued). record { sorted = es; others = map (shown_unit keys (map (count_below ns) ns) all) ring.second; spare = ring.spare }) (map-new keys next ns all ring.first q.tabled (Tabled-left (length ns) next ns ring.first ring.second q.tabled))
    ∙ ap (λ (es : List Queued). record { sorted = map (shown_unit keys ns all) ring.first; others = es; spare = ring.spare }) (map-new keys next ns all ring.second q.tabled (Tabled-right (length ns) next ns ring.first ring.second q.tabled))

-- the tables with room for later numbers
Tabled-later : (places next later : ℕ) (ns : List ℕ) (xs : List Item) → Tabled places next ns xs → next ≤ later → Tabled places later ns xs
Tabled-later places next later ns [] t rise = tt
Tabled-later places next later ns (x ∷ xs) t rise = (t.0, omega (arith, t.1, rise), t.2, Tabled-later places next later ns xs t.3 rise)

pub with_later : (ring : Lists) (nodes : List (Option Node)) (keys : List Key) (ns fresh : List ℕ) (next later : ℕ)
    → IsQueue ring nodes keys ns fresh next → next ≤ later → IsQueue ring nodes keys ns fresh later
with_later ring nodes keys ns fresh next later q rise = record {
  apart = q.apart;
  tabled = Tabled-later (length ns) next later ns (all_items ring) q.tabled rise;
  listed = q.listed;
  places = q.places;
  room = q.room;
  keys_room = q.keys_room;
  fresh_room = q.fresh_room;
}
