-- The tables stay those of the ring, with one item more and with one less.
use Rattle.std.proofs.Common.{◌≡◌, ℕ, ◌+◌, ◌<◌, ◌≤◌, List, ◌∷◌, ◌++◌, length, set, true, false, sym, ◌∙◌, ap, subst, inl, inr, arith, length-set, length-append}
use Rattle.std.specs.Prelude.{Option, Some, None, slice_index_or}
use Rattle.std.proofs.lemmas.Bool.{cases_eq}
use Rattle.std.proofs.lemmas.List.{get_or-set_same, get_or-set_other}
use Rattle.unit_places.specs.Places.{number_of, has_unit_place, unit_index}
use Rattle.unit_places.proofs.Placed.{low_index, same_index, same_place}
use Rattle.unit_ring.specs.declared.Node.{Node}
use Rattle.unit_ring.specs.Lists.{Item, Lists, has_node, room_of}
use Rattle.arrival_queue.specs.declared.key.Key.{Key}
use Rattle.arrival_queue.specs.Tables.{Apart, Tabled, IsQueue, has_number, node_of, arrival_at, all_items}
use Rattle.arrival_queue.proofs.Splits.{Apart-in, Apart-out, TakenOut, node_of-none, node_of-other, node_of-mine, Tabled-in, Tabled-out, Tabled-mine, Tabled-set, length-split}

room_at : (ring other : Lists) (l r : List Item) (new : Item) → all_items ring ≡ l ++ new ∷ r → all_items other ≡ l ++ r
    → other.spare ≡ ring.spare + 1 → room_of ring ≡ room_of other
room_at ring other l r new is rest spare =
    let one : length (all_items ring) ≡ length (l ++ new ∷ r) = ap length is in
    let two : length (all_items other) ≡ length (l ++ r) = ap length rest in
    let more = length-split l r new in
    let a : length (all_items ring) ≡ length ring.first + length ring.second = length-append ring.first ring.second in
    let b : length (all_items other) ≡ length other.first + length other.second = length-append other.first other.second in
    omega (arith, one, two, more, a, b, spare)

-- one item more
pub kept_in : (ring after : Lists) (nodes : List (Option Node)) (keys : List Key) (arrivals fresh : List ℕ) (next later : ℕ)
    (l r : List Item) (new : Item) (key : Key) (a : ℕ)
    → IsQueue ring nodes keys arrivals fresh next
    → all_items ring ≡ l ++ r → all_items after ≡ l ++ new ∷ r → ring.spare ≡ after.spare + 1
    → has_node new.node (all_items ring) ≡ false → has_number (number_of new.unit) (all_items ring) ≡ false
    → new.node < room_of ring + 4 → has_unit_place new.unit ≡ true → a < later → next ≤ later
    → IsQueue after (set nodes (unit_index new.unit) (Some (record { 0 = new.node }))) (set keys new.node key) (set arrivals new.node a) fresh later
kept_in ring after nodes keys arrivals fresh next later l r new key a q rest is spare no_node no_number low place arrival rise =
    let node_free : has_node new.node (l ++ r) ≡ false = subst (λ (xs : List Item). has_node new.node xs ≡ false) rest no_node in
    let number_free : has_number (number_of new.unit) (l ++ r) ≡ false = subst (λ (xs : List Item). has_number (number_of new.unit) xs ≡ false) rest no_number in
    let size : length (set arrivals new.node a) ≡ length arrivals = length-set arrivals new.node a in
    let keys_size : length (set keys new.node key) ≡ length keys = length-set keys new.node key in
    let mine : arrival_at (set arrivals new.node a) new.node ≡ a = get_or-set_same arrivals new.node a 0 (omega (arith, low, q.room)) in
    let before : Tabled (length arrivals) next arrivals (l ++ r) = subst (Tabled (length arrivals) next arrivals) rest q.tabled in
    let set_before : Tabled (length arrivals) later (set arrivals new.node a) (l ++ r) = Tabled-set (length arrivals) next later arrivals new.node a (l ++ r) before node_free rise in
    let tabled : Tabled (length arrivals) later (set arrivals new.node a) (l ++ new ∷ r) = Tabled-in (length arrivals) later (set arrivals new.node a) l r new set_before (omega (arith, low, q.room)) (omega (arith, mine, arrival)) place in
    let entry : Option Node = Some (record { 0 = new.node }) in
    let k0 = unit_index new.unit in
    let within = low_index new.unit place in
    record {
      apart = subst Apart (sym is) (Apart-in l r new (subst Apart rest q.apart) node_free number_free);
      tabled = subst (Tabled (length (set arrivals new.node a)) later (set arrivals new.node a)) (sym is) (subst (λ (n : ℕ). Tabled n later (set arrivals new.node a) (l ++ new ∷ r)) (sym size) tabled);
      listed = λ u has.
          elim (cases_eq (unit_index u) k0) [
            | inl e ↦
                ap (λ (j : ℕ). slice_index_or (set nodes k0 entry) j None) e
                ∙ get_or-set_same nodes k0 entry None (omega (arith, within, q.places))
                ∙ sym (ap (node_of (number_of new.unit)) is ∙ node_of-mine l r new number_free)
                ∙ sym (ap (λ (k : ℕ). node_of k (all_items after)) (same_index u new.unit has place e))
            | inr ne ↦
                get_or-set_other nodes k0 (unit_index u) entry None ne
                ∙ q.listed u has
                ∙ ap (node_of (number_of u)) rest
                ∙ sym (ap (node_of (number_of u)) is ∙ node_of-other (number_of u) l r new (λ e. ne (same_place u new.unit has place (sym e))))
          ];
      places = length-set nodes k0 entry ∙ q.places;
      room = omega (arith, size, q.room, room_at after ring l r new is rest spare);
      keys_room = keys_size ∙ q.keys_room ∙ sym size;
      fresh_room = q.fresh_room ∙ sym size;
    }

-- one item less
pub kept_out : (ring after : Lists) (nodes : List (Option Node)) (keys : List Key) (arrivals fresh : List ℕ) (next : ℕ)
    (l r : List Item) (old : Item)
    → IsQueue ring nodes keys arrivals fresh next
    → all_items ring ≡ l ++ old ∷ r → all_items after ≡ l ++ r → after.spare ≡ ring.spare + 1
    → IsQueue after (set nodes (unit_index old.unit) None) keys arrivals fresh next
kept_out ring after nodes keys arrivals fresh next l r old q is rest spare =
    let out : TakenOut l r old = Apart-out l r old (subst Apart is q.apart) in
    let k0 = unit_index old.unit in
    let mine = Tabled-mine (length arrivals) next arrivals l r old (subst (Tabled (length arrivals) next arrivals) is q.tabled) in
    let within = low_index old.unit mine.2 in
    record {
      apart = subst Apart (sym rest) out.apart;
      tabled = subst (Tabled (length arrivals) next arrivals) (sym rest) (Tabled-out (length arrivals) next arrivals l r old (subst (Tabled (length arrivals) next arrivals) is q.tabled));
      listed = λ u has.
          elim (cases_eq (unit_index u) k0) [
            | inl e ↦
                ap (λ (j : ℕ). slice_index_or (set nodes k0 None) j None) e
                ∙ get_or-set_same nodes k0 None None (omega (arith, within, q.places))
                ∙ sym (ap (node_of (number_of old.unit)) rest ∙ node_of-none (number_of old.unit) (l ++ r) out.number)
                ∙ sym (ap (λ (k : ℕ). node_of k (all_items after)) (same_index u old.unit has mine.2 e))
            | inr ne ↦
                get_or-set_other nodes k0 (unit_index u) None None ne
                ∙ q.listed u has
                ∙ ap (node_of (number_of u)) is
                ∙ node_of-other (number_of u) l r old (λ e. ne (same_place u old.unit has mine.2 (sym e)))
                ∙ sym (ap (node_of (number_of u)) rest)
          ];
      places = length-set nodes k0 None ∙ q.places;
      room = omega (arith, q.room, room_at ring after l r old is rest spare);
      keys_room = q.keys_room;
      fresh_room = q.fresh_room;
    }
