-- Each change of the units of a pool keeps that those that wait are marked, and no others.
use Rattle.std.proofs.Common.{◌≡◌, ◌≤◌, ◌<◌, ◌*◌, ℕ, zero, suc, Bool, true, false, ◌||◌, ◌&&◌, List, [], ◌∷◌, ◌++◌, inl, inr, refl, arith, subst, sym, ◌∙◌, ap, length, get_or-set_same, get_or-set_other}
use Rattle.std.specs.Prelude.{Option, Some, None, replicate, slice_set, slice_index_or}
use Rattle.std.proofs.lemmas.Bool.{cases_Bool, and_right, or_right, ltb-true}
use Rattle.std.proofs.lemmas.List.{length-replicate, length-set}
use Rattle.sched_base.specs.declared.UnitId.{UnitId}
use Rattle.sched_base.specs.declared.Cores.{Cores}
use Rattle.sched_model.specs.Places.{at_place, has_listed_unit, same_unit, without_unit}
use Rattle.sched_model.specs.Policy.{pinned_cores}
use Rattle.sched_base.specs.CoreSets.{every_core}
use Rattle.sched_laws.proofs.Choices.{same_unit_same}
use Rattle.sched_laws.proofs.Counts.{same_unit_refl, without_absent, gone_without}
use Rattle.sched_laws.proofs.Lists.{length-pinned_cores}
use Rattle.unit_places.specs.Places.{has_unit_place, unit_index}
use Rattle.unit_places.proofs.Placed.{placed, low_unit}
use Rattle.pool_units.specs.Units.{Units, HasNoneWaiting, after_join, after_part, after_enqueue, after_dequeue, pinned_in, vacant_units}
use Rattle.sched_ops.specs.Affinity.{joined_unit_count, is_member_among}
use Rattle.pool_units.specs.Marks.{is_marked, IsMarked}
use Rattle.sched_ops.proofs.Affinity.{count_at-change_at, count_at-empty}
use Rattle.pool_units.proofs.Whole.{has_unit-push, whole_joined, whole_parted, whole_enqueued, whole_dequeued, whole_pinned, whole_vacant}
use Rattle.std.proofs.Math.Bool.{or-false}

-- a mark that is set is that of one unit alone
set_here : (marks : List Bool) (u : UnitId) (mark : Bool) → has_unit_place u ≡ true → unit_index u < length marks → is_marked (slice_set marks (unit_index u) mark) u ≡ mark
set_here marks u mark place low = rw place (get_or-set_same marks (unit_index u) mark false low)

pub apart_index : (u w : UnitId) → has_unit_place u ≡ true → has_unit_place w ≡ true → same_unit w u ≡ false → unit_index w ≡ unit_index u → ⊥
apart_index u w place_u place_w other same = (let n = low_unit u place_u in let m = low_unit w place_w in let d : w.dom.0 ≡ u.dom.0 = omega (arith, same, n, m) in let k : w.n ≡ u.n = omega (arith, same, n, m) in grind (arith, other, d, k))

set_elsewhere : (marks : List Bool) (u w : UnitId) (mark : Bool) → has_unit_place u ≡ true → same_unit w u ≡ false → is_marked (slice_set marks (unit_index u) mark) w ≡ is_marked marks w
set_elsewhere marks u w mark place other =
    elim (cases_Bool (has_unit_place w)) [
      | inl has ↦ ap (λ b. has_unit_place w && b) (get_or-set_other marks (unit_index u) (unit_index w) mark false (apart_index u w place has other))
      | inr none ↦ rw none refl
    ]

-- where no place has a mark, no unit is marked
no_mark : (n k : ℕ) → slice_index_or (replicate n false) k false ≡ false
no_mark zero k = refl
no_mark (suc n) zero = refl
no_mark (suc n) (suc k) = no_mark n k

kept : (u w : UnitId) (units : List UnitId) → same_unit w u ≡ false → has_listed_unit (without_unit u units) w ≡ has_listed_unit units w
kept u w [] other = refl
kept u w (x ∷ units) other =
    elim (cases_Bool (same_unit u x)) [
      | inl same ↦ (let there : same_unit w x ≡ false = subst (λ (y : UnitId). same_unit w y ≡ false) (same_unit_same u x same) other in rw (same, there) (kept u w units other))
      | inr none ↦ rw none (ap (λ b. same_unit w x || b) (kept u w units other))
    ]

-- a domain that has units has a place
domain_there : (d : ℕ) (affinity : List (Option (List Cores))) → 0 < joined_unit_count affinity d → d < length affinity
domain_there d [] some = absurd (omega (arith, some))
domain_there zero (p ∷ affinity) some = omega arith
domain_there (suc d) (p ∷ affinity) some = (let r = domain_there d affinity some in omega (arith, r))

-- and so has a unit that has joined
pub member_place : (u : UnitId) (marks : List Bool) (units : Units) → is_member_among units.affinity u ≡ true → IsMarked marks units → has_unit_place u ≡ true
member_place u marks units member marked =
    let low = ltb-true u.n (joined_unit_count units.affinity u.dom.0) member in
    let few = marked.few u.dom.0 in
    let there = domain_there u.dom.0 units.affinity (omega (arith, low)) in
    let all = marked.domains in
    placed u (omega (arith, there, all)) (omega (arith, low, few))

member_index : (u : UnitId) (marks : List Bool) (units : Units) → is_member_among units.affinity u ≡ true → IsMarked marks units → unit_index u < length marks
member_index u marks units member marked =
    let low = ltb-true u.n (joined_unit_count units.affinity u.dom.0) member in
    let few = marked.few u.dom.0 in
    let there = domain_there u.dom.0 units.affinity (omega (arith, low)) in
    let all = marked.places in
    omega (arith, there, all, low, few)

-- a marked unit has joined
marked_member : (u : UnitId) (marks : List Bool) (units : Units) → is_marked marks u ≡ true → IsMarked marks units → is_member_among units.affinity u ≡ true
marked_member u marks units waits marked = marked.whole.members u (sym (marked.waiting u) ∙ waits)

pub marked_place : (u : UnitId) (marks : List Bool) (units : Units) → is_marked marks u ≡ true → IsMarked marks units → has_unit_place u ≡ true
marked_place u marks units waits marked = member_place u marks units (marked_member u marks units waits marked) marked

-- where one domain joins or parts, none has more units than are allowed
few_set : (d k most : ℕ) (p : Option (List Cores)) (affinity : List (Option (List Cores))) → joined_unit_count (p ∷ []) 0 ≤ most → ((k : ℕ) → joined_unit_count affinity k ≤ most) → joined_unit_count (slice_set affinity d p) k ≤ most
few_set d k most p [] small few = few k
few_set zero zero most p (q ∷ affinity) small few = small
few_set zero (suc k) most p (q ∷ affinity) small few = few (suc k)
few_set (suc d) zero most p (q ∷ affinity) small few = few 0
few_set (suc d) (suc k) most p (q ∷ affinity) small few = few_set d k most p affinity small (λ j. few (suc j))

pub marked_vacant : (domains spare : ℕ) → domains ≤ 64 → spare ≤ 256 → IsMarked (replicate (32 * domains) false) (vacant_units domains spare)
marked_vacant domains spare low few =
    record {
      whole = whole_vacant domains spare few;
      waiting = λ u. and_right (has_unit_place u) (slice_index_or (replicate (32 * domains) false) (unit_index u) false) (no_mark (32 * domains) (unit_index u));
      places = (let a = length-replicate (32 * domains) false in let b : length (vacant_units domains spare).affinity ≡ domains = length-replicate domains None in omega (arith, a, b));
      domains = (let b : length (vacant_units domains spare).affinity ≡ domains = length-replicate domains None in omega (arith, b, low));
      few = λ d. (let none = count_at-empty domains d in omega (arith, none));
    }

pub marked_joined : (d count : ℕ) (marks : List Bool) (units : Units) → at_place units.affinity d ≡ None → count ≤ 32 → count ≤ units.spare → IsMarked marks units → IsMarked marks (after_join d count units)
marked_joined d count marks units absent small few marked =
    let sets : Option (List Cores) = Some (replicate count every_core) in
    let same : length (slice_set units.affinity d sets) ≡ length units.affinity = length-set units.affinity d sets in
    record {
      whole = whole_joined d count units absent few marked.whole;
      waiting = marked.waiting;
      places = (let was = marked.places in omega (arith, same, was));
      domains = (let was = marked.domains in omega (arith, same, was));
      few = λ k. few_set d k 32 sets units.affinity (let n : length (replicate count every_core) ≡ count = length-replicate count every_core in omega (arith, n, small)) marked.few;
    }

pub marked_parted : (d : ℕ) (marks : List Bool) (units : Units) → HasNoneWaiting units d → IsMarked marks units → IsMarked marks (after_part d units)
marked_parted d marks units none marked =
    let same : length (slice_set units.affinity d None) ≡ length units.affinity = length-set units.affinity d None in
    record {
      whole = whole_parted d units none marked.whole;
      waiting = marked.waiting;
      places = (let was = marked.places in omega (arith, same, was));
      domains = (let was = marked.domains in omega (arith, same, was));
      few = λ k. few_set d k 32 None units.affinity (omega arith) marked.few;
    }

pub marked_pinned : (d : ℕ) (unit : Option ℕ) (cores : Cores) (marks : List Bool) (units : Units) → IsMarked marks units → IsMarked marks (pinned_in d unit cores units)
marked_pinned d unit cores marks units marked =
    let same : length (pinned_in d unit cores units).affinity ≡ length units.affinity = simp length-set in
    record {
      whole = whole_pinned d unit cores units marked.whole;
      waiting = marked.waiting;
      places = (let was = marked.places in omega (arith, same, was));
      domains = (let was = marked.domains in omega (arith, same, was));
      few = λ k. (let n = count_at-change_at d k (pinned_cores unit cores) units.affinity (length-pinned_cores unit cores) in let was = marked.few k in omega (arith, n, was));
    }

pub marked_enqueued : (u : UnitId) (marks : List Bool) (units : Units) → is_member_among units.affinity u ≡ true → has_listed_unit units.queue u ≡ false → IsMarked marks units → IsMarked (slice_set marks (unit_index u) true) (after_enqueue u units)
marked_enqueued u marks units member absent marked =
    let place = member_place u marks units member marked in
    let low = member_index u marks units member marked in
    record {
      whole = whole_enqueued u units member absent marked.whole;
      waiting = λ w. elim (cases_Bool (same_unit w u)) [
        | inl same ↦ subst (λ (x : UnitId). is_marked (slice_set marks (unit_index u) true) x ≡ has_listed_unit (units.queue ++ u ∷ []) x) (sym (same_unit_same w u same))
            (set_here marks u true place low ∙ sym (has_unit-push u u units.queue ∙ or_right (has_listed_unit units.queue u) (same_unit u u) (same_unit_refl u)))
        | inr other ↦ set_elsewhere marks u w true place other ∙ marked.waiting w ∙ sym (has_unit-push w u units.queue ∙ ap (λ b. has_listed_unit units.queue w || b) other ∙ or-false (has_listed_unit units.queue w))
      ];
      places = (let was = marked.places in simp length-set was);
      domains = marked.domains;
      few = marked.few;
    }

pub marked_dequeued : (u : UnitId) (marks : List Bool) (units : Units) → is_marked marks u ≡ true → IsMarked marks units → IsMarked (slice_set marks (unit_index u) false) (after_dequeue u units)
marked_dequeued u marks units waits marked =
    let place = marked_place u marks units waits marked in
    let low = member_index u marks units (marked_member u marks units waits marked) marked in
    record {
      whole = whole_dequeued u units marked.whole;
      waiting = λ w. elim (cases_Bool (same_unit w u)) [
        | inl same ↦ subst (λ (x : UnitId). is_marked (slice_set marks (unit_index u) false) x ≡ has_listed_unit (without_unit u units.queue) x) (sym (same_unit_same w u same))
            (set_here marks u false place low ∙ sym (gone_without u units.queue))
        | inr other ↦ set_elsewhere marks u w false place other ∙ marked.waiting w ∙ sym (kept u w units.queue other)
      ];
      places = (let was = marked.places in simp length-set was);
      domains = marked.domains;
      few = marked.few;
    }

-- a unit without a mark does not wait, so nothing is taken out for it
pub unmarked_stays : (u : UnitId) (marks : List Bool) (units : Units) → is_marked marks u ≡ false → IsMarked marks units → units ≡ after_dequeue u units
unmarked_stays u marks units none marked = ap (λ (queue : List UnitId). record units { queue = queue }) (sym (without_absent u units.queue (sym (marked.waiting u) ∙ none)))
