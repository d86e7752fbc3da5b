-- Each change of the units of a pool keeps that they are whole.
use Rattle.std.proofs.Common.{◌≡◌, ◌≤◌, ◌<◌, ℕ, Bool, true, false, ◌||◌, List, [], ◌∷◌, ◌++◌, refl, arith, subst, sym, ◌∙◌, ap, cond, length}
use Rattle.std.specs.Prelude.{Option, Some, None, nat_lt, replicate, not, filter, is_some}
use Rattle.std.specs.List.{list_any}
use Rattle.std.proofs.Math.Decide.{ℕ_discrete}
use Rattle.std.proofs.lemmas.List.{length-replicate, length-append}
use Rattle.sched_base.specs.declared.UnitId.{UnitId}
use Rattle.sched_base.specs.declared.Cores.{Cores}
use Rattle.sched_model.specs.Places.{at_place, put_at, clear_at, has_listed_unit, same_unit}
use Rattle.sched_model.specs.Policy.{pinned_cores}
use Rattle.sched_base.specs.CoreSets.{every_core}
use Rattle.sched_ops.specs.Conditions.{IsApart}
use Rattle.sched_laws.proofs.Choices.{same_unit_same}
use Rattle.sched_laws.proofs.EachPlace.{at_place-put_at_other, at_place-clear_at_other, at_place-replicate}
use Rattle.sched_laws.proofs.Counts.{same_unit_refl}
use Rattle.sched_laws.proofs.Lists.{length-pinned_cores}
use Rattle.pool_units.specs.Units.{Units, IsWhole, HasNoneWaiting, after_join, after_part, after_enqueue, after_dequeue, pinned_in, vacant_units as vacant}
use Rattle.sched_ops.specs.Affinity.{is_member_among}
use Rattle.sched_ops.proofs.Affinity.{count_all-put_at, count_all-clear_at, count_all-change_at, count_at-change_at, count_all-empty, no_more_wait, each_here}
use Rattle.std.proofs.Math.Bool.{or-false}

pub has_unit-push : (u w : UnitId) (units : List UnitId) → has_listed_unit (units ++ w ∷ []) u ≡ (has_listed_unit units u || same_unit u w)
has_unit-push u w [] = or-false (same_unit u w)
has_unit-push u w (x ∷ units) =
    elim (same_unit u x) as (λ b. (b || has_listed_unit (units ++ w ∷ []) u) ≡ ((b || has_listed_unit units u) || same_unit u w)) [
      | true ↦ refl
      | false ↦ has_unit-push u w units
    ]

-- a unit behind all others
apart_push : (units : List UnitId) (w : UnitId) → has_listed_unit units w ≡ false → IsApart units → IsApart (units ++ w ∷ [])
apart_push [] w absent apart = (refl, tt)
apart_push (x ∷ units) w absent apart =
    let split : (same_unit w x ≡ false) × (has_listed_unit units w ≡ false) = elim (same_unit w x) as (λ b. (b || has_listed_unit units w) ≡ false → (b ≡ false) × (has_listed_unit units w ≡ false)) [ true ↦ λ e. absurd (cc) | false ↦ λ e. (refl, e) ] absent in
    let other : same_unit x w ≡ false = elim (same_unit x w) as (λ b. same_unit x w ≡ b → b ≡ false) [
      | true ↦ λ is. (let e = same_unit_same x w is in let s : same_unit w x ≡ true = subst (λ (y : UnitId). same_unit w y ≡ true) (sym e) (same_unit_refl w) in cc)
      | false ↦ λ is. refl
    ] refl in
    (has_unit-push x w units ∙ ap (λ b. b || same_unit x w) apart.0 ∙ other, apart_push units w split.1 apart.1)

-- some of the units
has_unit-filter : (test : UnitId → Bool) (u : UnitId) (units : List UnitId) → has_listed_unit (filter test units) u ≡ true → has_listed_unit units u ≡ true
has_unit-filter test u [] has = has
has_unit-filter test u (w ∷ units) has =
    elim (test w) as (λ b. has_listed_unit (cond b (w ∷ filter test units) (filter test units)) u ≡ true → (same_unit u w || has_listed_unit units u) ≡ true) [
      | true ↦ λ is. elim (same_unit u w) as (λ b. (b || has_listed_unit (filter test units) u) ≡ true → (b || has_listed_unit units u) ≡ true) [ true ↦ λ e. refl | false ↦ λ e. has_unit-filter test u units e ] is
      | false ↦ λ is. (let r = has_unit-filter test u units is in let or_true : (b : Bool) → (b || true) ≡ true = elim [ true ↦ refl | false ↦ refl ] in ap (λ b. same_unit u w || b) r ∙ or_true (same_unit u w))
    ] has

has_unit-filter_none : (test : UnitId → Bool) (u : UnitId) (units : List UnitId) → has_listed_unit units u ≡ false → has_listed_unit (filter test units) u ≡ false
has_unit-filter_none test u units none =
    elim (has_listed_unit (filter test units) u) as (λ b. has_listed_unit (filter test units) u ≡ b → b ≡ false) [
      | true ↦ λ is. (let has = has_unit-filter test u units is in cc)
      | false ↦ λ is. refl
    ] refl

apart_filter : (test : UnitId → Bool) (units : List UnitId) → IsApart units → IsApart (filter test units)
apart_filter test [] apart = tt
apart_filter test (w ∷ units) apart =
    elim (test w) as (λ b. IsApart (cond b (w ∷ filter test units) (filter test units))) [
      | true ↦ (has_unit-filter_none test w units apart.0, apart_filter test units apart.1)
      | false ↦ apart_filter test units apart.1
    ]

-- a unit of another domain
member_other : (u : UnitId) (affinity places : List (Option (List Cores))) → at_place places u.dom.0 ≡ at_place affinity u.dom.0 → is_member_among affinity u ≡ true → is_member_among places u ≡ true
member_other u affinity places same member =
    ap (λ (o : Option (List Cores)). nat_lt u.n (elim o as (λ _. ℕ) [ None ↦ 0 | Some sets ↦ length sets ])) same ∙ member

-- a unit that has joined is of a domain that has
none_in : (u : UnitId) (affinity : List (Option (List Cores))) → at_place affinity u.dom.0 ≡ None → is_member_among affinity u ≡ true → ⊥
none_in u affinity none member =
    let e : nat_lt u.n 0 ≡ true = ap (λ (o : Option (List Cores)). nat_lt u.n (elim o as (λ _. ℕ) [ None ↦ 0 | Some sets ↦ length sets ])) (sym none) ∙ member in
    let low : u.n < 0 = grind arith in
    omega (arith, low)

-- what callers see of these fields
abbrev pub units_of : List UnitId → List (Option (List Cores)) → ℕ → Units
units_of queue affinity spare = record { queue = queue; affinity = affinity; spare = spare }

pub whole_joined : (d count : ℕ) (units : Units) → at_place units.affinity d ≡ None → count ≤ units.spare → IsWhole units → IsWhole (after_join d count units)
whole_joined d count units absent few whole =
    record {
      apart = whole.apart;
      members = λ u has. (
          let member = whole.members u has in
          elim (ℕ_discrete u.dom.0 d) [
            | yes e ↦ absurd (none_in u units.affinity (subst (λ k. at_place units.affinity k ≡ None) (sym e) absent) member)
            | no other ↦ member_other u units.affinity (put_at d (replicate count every_core) units.affinity) (at_place-put_at_other d u.dom.0 (replicate count every_core) units.affinity other) member
          ]
          );
      room = (
          let more = count_all-put_at d (replicate count every_core) units.affinity absent in
          let sets : length (replicate count every_core) ≡ count = length-replicate count every_core in
          let was = whole.room in
          omega (arith, more, sets, was, few)
          );
    }

pub whole_parted : (d : ℕ) (units : Units) → HasNoneWaiting units d → IsWhole units → IsWhole (after_part d units)
whole_parted d units none whole =
    record {
      apart = whole.apart;
      members = λ u has. (
          let member = whole.members u has in
          elim (ℕ_discrete u.dom.0 d) [
            | yes e ↦ absurd (let not_there = none u e in cc)
            | no other ↦ member_other u units.affinity (clear_at d units.affinity) (at_place-clear_at_other d u.dom.0 units.affinity other) member
          ]
          );
      room = (let less = count_all-clear_at d units.affinity in let was = whole.room in omega (arith, less, was));
    }

pub whole_enqueued : (u : UnitId) (units : Units) → is_member_among units.affinity u ≡ true → has_listed_unit units.queue u ≡ false → IsWhole units → IsWhole (after_enqueue u units)
whole_enqueued u units member absent whole =
    record {
      apart = apart_push units.queue u absent whole.apart;
      members = λ w has. (
          let split : (has_listed_unit units.queue w || same_unit w u) ≡ true = sym (has_unit-push w u units.queue) ∙ has in
          elim (has_listed_unit units.queue w) as (λ b. has_listed_unit units.queue w ≡ b → (b || same_unit w u) ≡ true → is_member_among units.affinity w ≡ true) [
            | true ↦ λ is e. whole.members w is
            | false ↦ λ is e. subst (λ (x : UnitId). is_member_among units.affinity x ≡ true) (sym (same_unit_same w u e)) member
          ] refl split
          );
      room = whole.room;
    }

pub whole_dequeued : (u : UnitId) (units : Units) → IsWhole units → IsWhole (after_dequeue u units)
whole_dequeued u units whole =
    record {
      apart = apart_filter (λ w. not (same_unit u w)) units.queue whole.apart;
      members = λ w has. whole.members w (has_unit-filter (λ x. not (same_unit u x)) w units.queue has);
      room = whole.room;
    }

pub whole_pinned : (d : ℕ) (unit : Option ℕ) (cores : Cores) (units : Units) → IsWhole units → IsWhole (pinned_in d unit cores units)
whole_pinned d unit cores units whole =
    record {
      apart = whole.apart;
      members = λ u has. (let same = count_at-change_at d u.dom.0 (pinned_cores unit cores) units.affinity (length-pinned_cores unit cores) in ap (nat_lt u.n) same ∙ whole.members u has);
      room = (let same = count_all-change_at d (pinned_cores unit cores) units.affinity (length-pinned_cores unit cores) in let was = whole.room in omega (arith, same, was));
    }

pub whole_vacant : (domains spare : ℕ) → spare ≤ 256 → IsWhole (vacant domains spare)
whole_vacant domains spare few =
    record {
      apart = tt;
      members = λ u has. absurd (cc);
      room = (let none = count_all-empty domains in omega (arith, none, few));
    }

-- a unit that has joined and does not wait finds room to wait
pub room_to_wait : (u : UnitId) (units : Units) → is_member_among units.affinity u ≡ true → has_listed_unit units.queue u ≡ false → IsWhole units → length units.queue < 256
room_to_wait u units member absent whole =
    let more = whole_enqueued u units member absent whole in
    let few = no_more_wait units.affinity (units.queue ++ u ∷ []) more.apart (each_here (λ w. is_member_among units.affinity w ≡ true) (units.queue ++ u ∷ []) more.members) in
    let all = length-append units.queue (u ∷ []) in
    let was = whole.room in
    omega (arith, few, all, was)

-- where no domain has joined, all places are empty, and no unit waits
pub affinity_of_vacant : (affinity : List (Option (List Cores))) → not (list_any is_some affinity) ≡ true → affinity ≡ replicate (length affinity) None
affinity_of_vacant [] vacant = refl
affinity_of_vacant (None ∷ places) vacant = ap (λ (ps : List (Option (List Cores))). None ∷ ps) (affinity_of_vacant places vacant)
affinity_of_vacant (Some sets ∷ places) vacant = absurd (cc)

none_waits : (queue : List UnitId) → ((u : UnitId) → has_listed_unit queue u ≡ true → ⊥) → queue ≡ []
none_waits [] none = refl
none_waits (u ∷ queue) none = absurd (none u (let s = same_unit_refl u in rw s refl))

pub queue_of_vacant : (queue : List UnitId) (affinity : List (Option (List Cores))) → ((u : UnitId) → has_listed_unit queue u ≡ true → is_member_among affinity u ≡ true) → not (list_any is_some affinity) ≡ true → queue ≡ []
queue_of_vacant queue affinity members vacant =
    none_waits queue (λ u has. none_in u affinity (ap (λ (ps : List (Option (List Cores))). at_place ps u.dom.0) (affinity_of_vacant affinity vacant) ∙ at_place-replicate (length affinity) u.dom.0) (members u has))
