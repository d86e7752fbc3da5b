-- What the parts keep where a domain joins or parts, and where sets of cores change.
use Rattle.std.proofs.Common.{◌≡◌, ◌≢◌, ◌≤◌, ◌<◌, ◌+◌, ◌-◌, ℕ, zero, suc, Bool, true, false, List, [], ◌∷◌, ◌++◌, refl, arith, ap, subst, sym, ◌∙◌, inl, inr, length, map}
use Rattle.std.specs.Prelude.{Option, Some, None, slice_get, slice_set, is_some, ◌||◌, ◌&&◌, ◌==◌, if◌then◌else◌, nat_lt, replicate, option_map}
use Rattle.std.specs.List.{AllByRecursion}
use Rattle.std.proofs.lemmas.Bool.Decides.{nat_tests}
use Rattle.sched_base.specs.Numbers.{moment}
use Rattle.unit_places.specs.Places.{number_of, unit_index}
use Rattle.unit_places.specs.Masks.{mask_of}
use Rattle.sched_base.specs.declared.Cores.{Cores}
use Rattle.sched_base.specs.declared.Moment.{Moment}
use Rattle.sched_base.specs.declared.UnitId.{UnitId}
use Rattle.sched_model.specs.CheckedMachine.{IsWithin, most_span}
use Rattle.sched_model.specs.Places.{at_place, has_listed_unit, change_item}
use Rattle.sched_model.specs.declared.state.RtdsUnit.{RtdsUnit}
use Rattle.sched_model.specs.EligibleUnits.{rtds_unit_at}
use Rattle.sched_laws.specs.EachPlace.{EachPlace}
use Rattle.sched_base.proofs.Bools.{clash}
use Rattle.sched_laws.proofs.Lists.{length-pinned_cores}
use Rattle.sched_laws.proofs.EachPlace.{place_below, length_set}
use Rattle.state_ranges.specs.Fits.{RtdsFits}
use Rattle.due_heap.specs.Dues.{armed_moment}
use Rattle.arrival_queue.specs.Queues.{Queued, queued_unit as queued, is_of}
use Rattle.arrival_queue.specs.Queues.{has_unit as has_queued}
use Rattle.rtds_queue.specs.Lists.{Lists, count}
use Rattle.rtds_core.specs.Best.{queue_of, IsEligible, IsSpent, AreQueued, AreMasks}
use Rattle.rtds_core.specs.RtdsParts.{IsShaped, IsKept, due_for, total}
use Rattle.rtds_core.proofs.Queues.{IsOrdered, waits}
use Rattle.rtds_core.proofs.Changed.{IsLow, low_unit}
use Rattle.rtds_core.proofs.Timing.{due_alike, armed_alike}
use Rattle.std.specs.Prelude.{slice_index_or}
use Rattle.std.proofs.lemmas.List.{length-replicate}
use Rattle.sched_base.specs.Numbers.{core_set}
use Rattle.sched_base.proofs.Lists.{each_get}
use Rattle.sched_model.specs.Places.{change_at, put_at, clear_at}
use Rattle.sched_model.specs.Policy.{pinned_cores}
use Rattle.sched_base.specs.CoreSets.{every_core}
use Rattle.sched_model.specs.Rtds.{fresh_rtds_units}
use Rattle.sched_laws.proofs.EachPlace.{EachPlace-put_at, EachPlace-clear_at, EachPlace-empty}
use Rattle.state_ranges.proofs.Rtds.{rtds_fresh}
use Rattle.rtds_queue.specs.Lists.{empty_lists}
use Rattle.rtds_core.specs.RtdsParts.{size}
use Rattle.rtds_core.specs.Masks.{is_named}
use Rattle.sched_laws.proofs.EachPlace.{at_place-set_other, at_place-change_at}
use Rattle.rtds_core.proofs.Changed.{at_place-set, total_set, unit_in}
use Rattle.rtds_core.proofs.Keeping.{waiting_known, low_queued}
use Rattle.std.proofs.Math.Decide.{ℕ_discrete}
use Rattle.std.proofs.Math.Bool.{and-false, or-true}
use Rattle.std.proofs.lemmas.Bool.{eq-eqb, cases_Bool, and_from}
use Rattle.arrival_queue.proofs.Counting.{has_unit-append}

-- the queues' units have the records that they had
pub queued_by : (domains domains2 : List (Option (List RtdsUnit))) (q : Lists) → ((e : Queued) (x : RtdsUnit) → has_queued e.unit (q.eligible ++ q.spent) ≡ true → rtds_unit_at domains e.unit ≡ Some x → rtds_unit_at domains2 e.unit ≡ Some x) → AreQueued domains q → AreQueued domains2 q
queued_by domains domains2 q same is = record {
  eligible = eligible q.eligible (λ e has. has_unit-append e.unit q.eligible q.spent ∙ ap (λ (b : Bool). b || has_queued e.unit q.spent) has) is.eligible;
  spent = spent q.spent (λ e has. has_unit-append e.unit q.eligible q.spent ∙ ap (λ (b : Bool). has_queued e.unit q.eligible || b) has ∙ or-true (has_queued e.unit q.eligible)) is.spent;
}
  where
    own : (e : Queued) (es : List Queued) → has_queued e.unit (e ∷ es) ≡ true
    own e es = ap (λ (b : Bool). b || has_queued e.unit es) (eq-eqb (number_of e.unit) (number_of e.unit) refl)

    eligible : (es : List Queued) → ((e : Queued) → has_queued e.unit es ≡ true → has_queued e.unit (q.eligible ++ q.spent) ≡ true) → AllByRecursion (IsEligible domains) es → AllByRecursion (IsEligible domains2) es
    eligible [] within each = tt
    eligible (e ∷ es) within each = (
      record { unit = each.0.unit; at = same e each.0.unit (within e (own e es)) each.0.at; off = each.0.off; left = each.0.left; key = each.0.key },
      eligible es (λ x has. within x (ap (λ (b : Bool). is_of x.unit e || b) has ∙ or-true (is_of x.unit e))) each.1,
    )

    spent : (es : List Queued) → ((e : Queued) → has_queued e.unit es ≡ true → has_queued e.unit (q.eligible ++ q.spent) ≡ true) → AllByRecursion (IsSpent domains) es → AllByRecursion (IsSpent domains2) es
    spent [] within each = tt
    spent (e ∷ es) within each = (
      record { unit = each.0.unit; at = same e each.0.unit (within e (own e es)) each.0.at; off = each.0.off; left = each.0.left },
      spent es (λ x has. within x (ap (λ (b : Bool). is_of x.unit e || b) has ∙ or-true (is_of x.unit e))) each.1,
    )

-- two lists of places that are changed at one place have the same sizes
sizes_set : {X Y : Type 0} (d : ℕ) (a : Option (List X)) (b : Option (List Y)) (xs : List (Option (List X))) (ys : List (Option (List Y))) → length xs ≡ length ys → option_map length a ≡ option_map length b → ((k : ℕ) → option_map length (at_place xs k) ≡ option_map length (at_place ys k))
    → (k : ℕ) → option_map length (at_place (slice_set xs d a) k) ≡ option_map length (at_place (slice_set ys d b) k)
sizes_set zero a b [] [] long size same k = refl
sizes_set (suc d) a b [] [] long size same k = refl
sizes_set d a b [] (y ∷ ys) long size same k = absurd (omega (arith, long))
sizes_set d a b (x ∷ xs) [] long size same k = absurd (omega (arith, long))
sizes_set zero a b (x ∷ xs) (y ∷ ys) long size same zero = size
sizes_set zero a b (x ∷ xs) (y ∷ ys) long size same (suc k) = same (suc k)
sizes_set (suc d) a b (x ∷ xs) (y ∷ ys) long size same zero = same 0
sizes_set (suc d) a b (x ∷ xs) (y ∷ ys) long size same (suc k) = sizes_set d a b xs ys (omega (arith, long)) size (λ j. same (suc j)) k

-- what stands at a place that has no records
pub no_record : (domains : List (Option (List RtdsUnit))) (u : UnitId) → at_place domains u.dom.0 ≡ None → rtds_unit_at domains u ≡ None
no_record domains u none = ap (λ (o : Option (List RtdsUnit)). unit_in o u.n) none

pub absent_size : (a : Option (List RtdsUnit)) (b : Option (List Cores)) → option_map length a ≡ option_map length b → b ≡ None → a ≡ None
absent_size None b same none = refl
absent_size (Some xs) None same none = absurd (cc)
absent_size (Some xs) (Some ys) same none = absurd (cc)

-- a unit without a record does not wait
not_waiting : (domains : List (Option (List RtdsUnit))) (q : Lists) (w : UnitId) → AreQueued domains q → rtds_unit_at domains w ≡ None → has_listed_unit (queue_of q) w ≡ false
not_waiting domains q w queued none = elim (cases_Bool (has_listed_unit (queue_of q) w)) [
  | inl waiting ↦ (let k = waiting_known domains q w queued waiting in let f : ◌≡◌ {A = Option RtdsUnit} None (Some k.0) = sym none ∙ k.1 in absurd (cc))
  | inr not_so ↦ not_so
]

-- neither a unit without a record nor one that neither waits nor is on is armed
abbrev due_if : Bool → Option RtdsUnit → Option Moment
due_if waits o = elim o as (λ _. Option Moment) [ None ↦ None | Some x ↦ (if waits || is_some x.burned then Some (moment x.deadline) else None) ]

idle_due : (queue : List UnitId) (domains : List (Option (List RtdsUnit))) (w : UnitId) → has_listed_unit queue w ≡ false → ((x : RtdsUnit) → rtds_unit_at domains w ≡ Some x → is_some x.burned ≡ false) → due_for queue domains w ≡ None
idle_due queue domains w none off = of_record (rtds_unit_at domains w) off ∙ refl
  where
    of_record : (o : Option RtdsUnit) → ((x : RtdsUnit) → o ≡ Some x → is_some x.burned ≡ false) → due_if (has_listed_unit queue w) o ≡ None
    of_record None off = refl
    of_record (Some x) off = ap (λ (b : Bool). if b || is_some x.burned then Some (moment x.deadline) else None) none ∙ ap (λ (b : Bool). if b then Some (moment x.deadline) else None) (off x refl)

all_off : (x : RtdsUnit) (count : ℕ) → x.burned ≡ None → AllByRecursion (λ (y : RtdsUnit). y.burned ≡ None) (replicate count x)
all_off x zero off = tt
all_off x (suc count) off = (off, all_off x count off)

get_all : (count n : ℕ) → n < count → (slice_index_or (replicate count every_core) n (core_set 0)).0 ≡ every_core.0
get_all zero n inside = absurd (omega (arith, inside))
get_all (suc count) zero inside = refl
get_all (suc count) (suc n) inside = get_all count n (omega (arith, inside))

abbrev sets_in : Option (List Cores) → ℕ → ℕ
sets_in o n = elim o as (λ _. ℕ) [ None ↦ 0 | Some units ↦ (slice_index_or units n (core_set 0)).0 ]

named_all : (d : ℕ) (u : UnitId) → d ≡ u.dom.0 → u.n < 32 → is_named d None u ≡ true
named_all d u e low = and_from (u.dom.0 == d) (nat_lt u.n 32) (eq-eqb u.dom.0 d (sym e)) (grind (arith, nat_tests, low))

not_named : (d : ℕ) (unit : Option ℕ) (u : UnitId) → d ≢ u.dom.0 → is_named d unit u ≡ false
not_named d unit u ne = by_unit unit
  where
    other : (u.dom.0 == d) ≡ false
    other = elim (cases_Bool (u.dom.0 == d)) [
      | inl same ↦ absurd (ne (let s : u.dom.0 ≡ d = grind (arith, nat_tests, same) in sym s))
      | inr not_so ↦ not_so
    ]

    by_unit : (unit : Option ℕ) → is_named d unit u ≡ false
    by_unit None = ap (λ (b : Bool). b && nat_lt u.n 32) other
    by_unit (Some n) = ap (λ (b : Bool). b && (u.n == n)) other

-- the table after the sets of one domain's units are set
abbrev pub Sets : List Cores → List Cores → ℕ → Option ℕ → Cores → Type 0
Sets masks masks2 d unit cores = (u : UnitId) → u.n < 256 → mask_of masks2 u ≡ (if is_named d unit u then cores else mask_of masks u)

joined_sets : (affinity : List (Option (List Cores))) (masks masks2 : List Cores) (d count : ℕ) → count ≤ 32 → d < length affinity → EachPlace (λ (sets : List Cores). length sets ≤ 32) affinity → Sets masks masks2 d None every_core → AreMasks affinity masks
    → AreMasks (put_at d (replicate count every_core) affinity) masks2
joined_sets affinity masks masks2 d count few place small set old = record {
  each = λ u sets at inside. elim (ℕ_discrete d u.dom.0) [
    | yes e ↦
        let here : at_place (put_at d (replicate count every_core) affinity) u.dom.0 ≡ Some (replicate count every_core) = subst (λ (k : ℕ). at_place (put_at d (replicate count every_core) affinity) k ≡ Some (replicate count every_core)) e (at_place-set d (Some (replicate count every_core)) affinity place) in
        let same : sets ≡ replicate count every_core = some_same sets (replicate count every_core) (sym at ∙ here) in
        let n : u.n < count = (let l = ap (λ (xs : List Cores). length xs) same in let k = length-replicate count every_core in omega (arith, inside, l, k)) in
        ap (λ (c : Cores). c.0) (set u (omega (arith, n, few))) ∙ ap (λ (b : Bool). (if b then every_core else mask_of masks u).0) (named_all d u e (omega (arith, n, few)))
        ∙ sym (get_all count u.n n) ∙ sym (ap (λ (o : Option (List Cores)). sets_in o u.n) here)
    | no ne ↦
        let was : at_place affinity u.dom.0 ≡ Some sets = sym (at_place-set_other d u.dom.0 (Some (replicate count every_core)) affinity ne) ∙ at in
        let low : length sets ≤ 32 = small u.dom.0 sets was in
        ap (λ (c : Cores). c.0) (set u (omega (arith, inside, low))) ∙ ap (λ (b : Bool). (if b then every_core else mask_of masks u).0) (not_named d None u ne)
        ∙ old.each u sets was inside ∙ sym (ap (λ (o : Option (List Cores)). sets_in o u.n) (at_place-set_other d u.dom.0 (Some (replicate count every_core)) affinity ne))
  ];
}
  where
    some_same : (a b : List Cores) → ◌≡◌ {A = Option (List Cores)} (Some a) (Some b) → a ≡ b
    some_same a b e = cc

-- the sets of cores are at most 32 a domain, as the records are
small_sets : (domains : List (Option (List RtdsUnit))) (affinity : List (Option (List Cores))) → IsShaped domains affinity → EachPlace (λ (sets : List Cores). length sets ≤ 32) affinity
small_sets domains affinity is d sets at = of_size (at_place domains d) (at_place affinity d) (is.same d) at (λ units there. is.small d units there)
  where
    of_size : (a : Option (List RtdsUnit)) (b : Option (List Cores)) → option_map length a ≡ option_map length b → b ≡ Some sets → ((units : List RtdsUnit) → a ≡ Some units → length units ≤ 32) → length sets ≤ 32
    of_size a None same at small = absurd (cc)
    of_size None (Some ys) same at small = absurd (cc)
    of_size (Some xs) (Some ys) same at small =
        let l : length xs ≡ length ys = cc in
        let e : ys ≡ sets = cc in
        let few = small xs refl in
        let k = ap (λ (zs : List Cores). length zs) e in
        omega (arith, l, k, few)

module _ (domains : List (Option (List RtdsUnit))) (affinity : List (Option (List Cores))) (q : Lists) (masks masks2 : List Cores) (dues : List (Option Moment)) (spare t : ℕ) where
  -- a domain joins
  pub kept_joined : (d count period budget : ℕ) (extra : Bool) → d < length affinity → at_place affinity d ≡ None → count ≤ 32 → count ≤ spare → IsWithin 10000 1000000000000 period → IsWithin 10000 1000000000000 budget
      → Sets masks masks2 d None every_core → IsKept domains affinity q masks dues spare t
      → IsKept (put_at d (fresh_rtds_units period budget extra count t) domains) (put_at d (replicate count every_core) affinity) q masks2 dues (spare - count) t
  kept_joined d count period budget extra place absent few room periods budgets set kept =
      let fresh : List RtdsUnit = fresh_rtds_units period budget extra count t in
      let domains2 : List (Option (List RtdsUnit)) = put_at d fresh domains in
      let none : at_place domains d ≡ None = absent_size (at_place domains d) (at_place affinity d) (kept.shape.same d) absent in
      let many : length fresh ≡ count = length-replicate count _ in
      let places = kept.shape.places in
      let inside : d < length domains = omega (arith, place, places) in
      let sum = total_set d (Some fresh) domains inside in
      let zero_size : size (at_place domains d) ≡ 0 = ap (λ (o : Option (List RtdsUnit)). size o) none in
      let old_few = kept.few in
      let old_room = kept.room in
      let other : (w : UnitId) (x : RtdsUnit) → rtds_unit_at domains w ≡ Some x → d ≢ w.dom.0 =
      λ w x at e. (let f : ◌≡◌ {A = Option RtdsUnit} None (Some x) = sym (no_record domains w (subst (λ (k : ℕ). at_place domains k ≡ None) e none)) ∙ at in absurd (cc)) in
      record {
        shape =
            record {
              places = length_set d (Some fresh) domains ∙ kept.shape.places ∙ sym (length_set d (Some (replicate count every_core)) affinity);
              few = (let l = length_set d (Some (replicate count every_core)) affinity in let f = kept.shape.few in omega (arith, l, f));
              same = sizes_set d (Some fresh) (Some (replicate count every_core)) domains affinity kept.shape.places (ap Some (many ∙ sym (length-replicate count every_core))) kept.shape.same;
              small = EachPlace-put_at (λ (units : List RtdsUnit). length units ≤ 32) d fresh domains kept.shape.small (omega (arith, many, few));
            };
        fits = EachPlace-put_at (AllByRecursion (RtdsFits t)) d fresh domains kept.fits (rtds_fresh t period budget count extra periods budgets);
        early = kept.early;
        queued = queued_by domains domains2 q (λ e x has at. ap (λ (o : Option (List RtdsUnit)). unit_in o e.unit.n) (at_place-set_other d e.unit.dom.0 (Some fresh) domains (other e.unit x at)) ∙ at) kept.queued;
        room = omega (arith, old_room, sum, zero_size, many, room);
        few = omega (arith, old_few, sum, zero_size, many, room);
        sets = joined_sets affinity masks masks2 d count few place (small_sets domains affinity kept.shape) set kept.sets;
        armed = armed_alike (queue_of q) (queue_of q) domains domains2 dues kept.armed (λ w. elim (ℕ_discrete d w.dom.0) [
          | yes e ↦
              let old : rtds_unit_at domains w ≡ None = no_record domains w (subst (λ (k : ℕ). at_place domains k ≡ None) e none) in
              let off : has_listed_unit (queue_of q) w ≡ false = not_waiting domains q w kept.queued old in
              let there : rtds_unit_at domains2 w ≡ slice_get fresh w.n = subst (λ (k : ℕ). unit_in (at_place domains2 k) w.n ≡ slice_get fresh w.n) e (ap (λ (o : Option (List RtdsUnit)). unit_in o w.n) (at_place-set d (Some fresh) domains inside)) in
              idle_due (queue_of q) domains2 w off (λ x at. ap (λ (o : Option ℕ). is_some o) (each_get (λ (y : RtdsUnit). y.burned ≡ None) fresh w.n x (all_off _ count refl) (sym there ∙ at)))
              ∙ sym (idle_due (queue_of q) domains w off (λ x at. (let f : ◌≡◌ {A = Option RtdsUnit} None (Some x) = sym old ∙ at in absurd (cc))))
          | no ne ↦ due_alike (queue_of q) (queue_of q) domains domains2 w (ap (λ (o : Option (List RtdsUnit)). unit_in o w.n) (at_place-set_other d w.dom.0 (Some fresh) domains ne)) refl
        ]);
      }

  -- a domain parts, none of whose units waits or is on
  pub kept_parted : (d : ℕ) → d < length affinity → ((u : UnitId) → u.dom.0 ≡ d → has_listed_unit (queue_of q) u ≡ false) → ((u : UnitId) (x : RtdsUnit) → u.dom.0 ≡ d → rtds_unit_at domains u ≡ Some x → is_some x.burned ≡ false)
      → IsOrdered q → IsKept domains affinity q masks dues spare t → IsKept (clear_at d domains) (clear_at d affinity) q masks dues (spare + size (at_place affinity d)) t
  kept_parted d place waiting on order kept =
      let domains2 : List (Option (List RtdsUnit)) = clear_at d domains in
      let places = kept.shape.places in
      let inside : d < length domains = omega (arith, place, places) in
      let sum = total_set d None domains inside in
      let sizes : size (at_place domains d) ≡ size (at_place affinity d) = same_sizes (at_place domains d) (at_place affinity d) (kept.shape.same d) in
      let old_few = kept.few in
      let old_room = kept.room in
      record {
        shape =
            record {
              places = length_set d None domains ∙ kept.shape.places ∙ sym (length_set d None affinity);
              few = (let l = length_set d None affinity in let f = kept.shape.few in omega (arith, l, f));
              same = sizes_set d None None domains affinity kept.shape.places refl kept.shape.same;
              small = EachPlace-clear_at (λ (units : List RtdsUnit). length units ≤ 32) d domains kept.shape.small;
            };
        fits = EachPlace-clear_at (AllByRecursion (RtdsFits t)) d domains kept.fits;
        early = kept.early;
        queued = queued_by domains domains2 q (λ e x has at. (
            let low : IsLow e.unit = low_unit domains affinity e.unit x kept.shape at in
            let waits_there : has_listed_unit (queue_of q) e.unit ≡ true = waits q e.unit low.byte (low_queued domains affinity q kept.shape kept.queued) ∙ sym (has_unit-append e.unit q.eligible q.spent) ∙ has in
            let ne : d ≢ e.unit.dom.0 = λ same. clash (has_listed_unit (queue_of q) e.unit) waits_there (waiting e.unit (sym same)) in
            ap (λ (o : Option (List RtdsUnit)). unit_in o e.unit.n) (at_place-set_other d e.unit.dom.0 None domains ne) ∙ at)) kept.queued;
        room = omega (arith, old_room, sum, sizes);
        few = omega (arith, old_few, sum, sizes);
        sets = record {
          each = λ u sets at n. elim (ℕ_discrete d u.dom.0) [
            | yes e ↦ (let f : ◌≡◌ {A = Option (List Cores)} None (Some sets) = sym (subst (λ (k : ℕ). at_place (clear_at d affinity) k ≡ None) e (at_place-set d None affinity place)) ∙ at in absurd (cc))
            | no ne ↦ kept.sets.each u sets (sym (at_place-set_other d u.dom.0 None affinity ne) ∙ at) n ∙ sym (ap (λ (o : Option (List Cores)). sets_in o u.n) (at_place-set_other d u.dom.0 None affinity ne))
          ];
        };
        armed = armed_alike (queue_of q) (queue_of q) domains domains2 dues kept.armed (λ w. elim (ℕ_discrete d w.dom.0) [
          | yes e ↦
              let gone : rtds_unit_at domains2 w ≡ None = no_record domains2 w (subst (λ (k : ℕ). at_place domains2 k ≡ None) e (at_place-set d None domains inside)) in
              idle_due (queue_of q) domains2 w (waiting w (sym e)) (λ x at. (let f : ◌≡◌ {A = Option RtdsUnit} None (Some x) = sym gone ∙ at in absurd (cc)))
              ∙ sym (idle_due (queue_of q) domains w (waiting w (sym e)) (λ x at. on w x (sym e) at))
          | no ne ↦ due_alike (queue_of q) (queue_of q) domains domains2 w (ap (λ (o : Option (List RtdsUnit)). unit_in o w.n) (at_place-set_other d w.dom.0 None domains ne)) refl
        ]);
      }
    where
      same_sizes : (a : Option (List RtdsUnit)) (b : Option (List Cores)) → option_map length a ≡ option_map length b → size a ≡ size b
      same_sizes None None same = refl
      same_sizes None (Some ys) same = absurd (cc)
      same_sizes (Some xs) None same = absurd (cc)
      same_sizes (Some xs) (Some ys) same = cc

get_mapped : (cores : Cores) (sets : List Cores) (n : ℕ) → n < length sets → slice_index_or (map (λ old. cores) sets) n (core_set 0) ≡ cores
get_mapped cores [] n inside = absurd (omega (arith, inside))
get_mapped cores (x ∷ sets) zero inside = refl
get_mapped cores (x ∷ sets) (suc n) inside = get_mapped cores sets n (omega (arith, inside))

get_changed : (cores : Cores) (sets : List Cores) (n : ℕ) → n < length sets → slice_index_or (change_item n (λ old. cores) sets) n (core_set 0) ≡ cores
get_changed cores [] n inside = absurd (omega (arith, inside))
get_changed cores (x ∷ sets) zero inside = refl
get_changed cores (x ∷ sets) (suc n) inside = get_changed cores sets n (omega (arith, inside))

get_unchanged : (cores : Cores) (sets : List Cores) (n k : ℕ) → n ≢ k → slice_index_or (change_item n (λ old. cores) sets) k (core_set 0) ≡ slice_index_or sets k (core_set 0)
get_unchanged cores [] n k ne = refl
get_unchanged cores (x ∷ sets) zero zero ne = absurd (ne refl)
get_unchanged cores (x ∷ sets) zero (suc k) ne = refl
get_unchanged cores (x ∷ sets) (suc n) zero ne = refl
get_unchanged cores (x ∷ sets) (suc n) (suc k) ne = get_unchanged cores sets n k (λ e. ne (ap suc e))

-- the set of a unit of the domain, by the table and by the list
pinned_set : (masks masks2 : List Cores) (d : ℕ) (unit : Option ℕ) (cores : Cores) (u : UnitId) (old : List Cores) → Sets masks masks2 d unit cores → d ≡ u.dom.0 → u.n < length old → length old ≤ 32 → (mask_of masks u).0 ≡ (slice_index_or old u.n (core_set 0)).0
    → (mask_of masks2 u).0 ≡ (slice_index_or (pinned_cores unit cores old) u.n (core_set 0)).0
pinned_set masks masks2 d None cores u old set e inside few was =
    ap (λ (c : Cores). c.0) (set u (omega (arith, inside, few)) ∙ ap (λ (b : Bool). if b then cores else mask_of masks u) (named_all d u e (omega (arith, inside, few))) ∙ sym (get_mapped cores old u.n inside))
pinned_set masks masks2 d (Some n) cores u old set e inside few was = elim (ℕ_discrete n u.n) [
  | yes same ↦
      let named : is_named d (Some n) u ≡ true = and_from (u.dom.0 == d) (u.n == n) (eq-eqb u.dom.0 d (sym e)) (eq-eqb u.n n (sym same)) in
      ap (λ (c : Cores). c.0) (set u (omega (arith, inside, few)) ∙ ap (λ (b : Bool). if b then cores else mask_of masks u) named
      ∙ sym (subst (λ (k : ℕ). slice_index_or (change_item k (λ x. cores) old) u.n (core_set 0) ≡ cores) (sym same) (get_changed cores old u.n inside)))
  | no ne ↦
      let named : is_named d (Some n) u ≡ false = other_index ne in
      ap (λ (c : Cores). c.0) (set u (omega (arith, inside, few)) ∙ ap (λ (b : Bool). if b then cores else mask_of masks u) named) ∙ was
      ∙ sym (ap (λ (c : Cores). c.0) (get_unchanged cores old n u.n ne))
]
  where
    other_index : n ≢ u.n → is_named d (Some n) u ≡ false
    other_index ne = elim (cases_Bool (u.n == n)) [
      | inl same ↦ absurd (ne (let s : u.n ≡ n = grind (arith, nat_tests, same) in sym s))
      | inr not_so ↦ ap (λ (b : Bool). (u.dom.0 == d) && b) not_so ∙ and-false (u.dom.0 == d)
    ]

pub kept_pinned : (domains : List (Option (List RtdsUnit))) (affinity : List (Option (List Cores))) (q : Lists) (masks masks2 : List Cores) (dues : List (Option Moment)) (spare t d : ℕ) (unit : Option ℕ) (cores : Cores)
    → Sets masks masks2 d unit cores → IsKept domains affinity q masks dues spare t → IsKept domains (change_at d (pinned_cores unit cores) affinity) q masks2 dues spare t
kept_pinned domains affinity q masks masks2 dues spare t d unit cores set kept = record {
  shape =
      record {
        places = kept.shape.places ∙ sym (length_set d _ affinity);
        few = (let l = length_set d (option_map (pinned_cores unit cores) (at_place affinity d)) affinity in let f = kept.shape.few in omega (arith, l, f));
        same = λ k. kept.shape.same k ∙ sizes k;
        small = kept.shape.small;
      };
  fits = kept.fits;
  early = kept.early;
  queued = kept.queued;
  room = kept.room;
  few = kept.few;
  sets = record {
    each = λ u sets at inside. elim (ℕ_discrete d u.dom.0) [
      | yes e ↦
          let here : at_place (change_at d (pinned_cores unit cores) affinity) u.dom.0 ≡ option_map (pinned_cores unit cores) (at_place affinity u.dom.0) = subst (λ (k : ℕ). at_place (change_at d (pinned_cores unit cores) affinity) k ≡ option_map (pinned_cores unit cores) (at_place affinity k)) e (at_place-change_at d (pinned_cores unit cores) affinity) in
          named u sets e inside (at_place affinity u.dom.0) refl (sym here ∙ at)
          ∙ sym (ap (λ (o : Option (List Cores)). sets_in o u.n) here)
      | no ne ↦
          let was : at_place affinity u.dom.0 ≡ Some sets = sym (at_place-set_other d u.dom.0 _ affinity ne) ∙ at in
          let low : length sets ≤ 32 = small_sets domains affinity kept.shape u.dom.0 sets was in
          ap (λ (c : Cores). c.0) (set u (omega (arith, inside, low)) ∙ ap (λ (b : Bool). if b then cores else mask_of masks u) (not_named d unit u ne))
          ∙ kept.sets.each u sets was inside ∙ sym (ap (λ (o : Option (List Cores)). sets_in o u.n) (at_place-set_other d u.dom.0 _ affinity ne))
    ];
  };
  armed = kept.armed;
}
  where
    sizes : (k : ℕ) → option_map length (at_place affinity k) ≡ option_map length (at_place (change_at d (pinned_cores unit cores) affinity) k)
    sizes k = elim (ℕ_discrete d k) [
      | yes e ↦ subst (λ (j : ℕ). option_map length (at_place affinity j) ≡ option_map length (at_place (change_at d (pinned_cores unit cores) affinity) j)) e (there (at_place affinity d) ∙ sym (ap (option_map length) (at_place-change_at d (pinned_cores unit cores) affinity)))
      | no ne ↦ sym (ap (option_map length) (at_place-set_other d k _ affinity ne))
    ]
      where
        there : (o : Option (List Cores)) → option_map length o ≡ option_map length (option_map (pinned_cores unit cores) o)
        there None = refl
        there (Some sets) = ap Some (sym (length-pinned_cores unit cores sets))

    named : (u : UnitId) (sets : List Cores) → d ≡ u.dom.0 → u.n < length sets → (o : Option (List Cores)) → at_place affinity u.dom.0 ≡ o → option_map (pinned_cores unit cores) o ≡ Some sets → (mask_of masks2 u).0 ≡ sets_in (option_map (pinned_cores unit cores) o) u.n
    named u sets e inside None at is = absurd (cc)
    named u sets e inside (Some old) at is =
        let same : pinned_cores unit cores old ≡ sets = cc in
        let l = ap (λ (xs : List Cores). length xs) same in
        let k = length-pinned_cores unit cores old in
        let n : u.n < length old = omega (arith, inside, l, k) in
        pinned_set masks masks2 d unit cores u old set e n (small_sets domains affinity kept.shape u.dom.0 old at)
        (kept.sets.each u old at n ∙ ap (λ (o : Option (List Cores)). sets_in o u.n) at)

-- a domain that has joined is one of 64, and has at most 32 units
pub joined_low : (domains : List (Option (List RtdsUnit))) (affinity : List (Option (List Cores))) (d : ℕ) → IsShaped domains affinity → is_some (at_place affinity d) ≡ true → d < 64
joined_low domains affinity d is joined = by_place (at_place affinity d) refl joined
  where
    by_place : (o : Option (List Cores)) → at_place affinity d ≡ o → is_some o ≡ true → d < 64
    by_place None at some = absurd (cc)
    by_place (Some sets) at some = (let below = place_below affinity d sets at in let few = is.few in omega (arith, below, few))

pub unit_low : (domains : List (Option (List RtdsUnit))) (affinity : List (Option (List Cores))) (d n : ℕ) → IsShaped domains affinity → n < size (at_place affinity d) → n < 32
unit_low domains affinity d n is inside = by_place (at_place affinity d) refl inside
  where
    by_place : (o : Option (List Cores)) → at_place affinity d ≡ o → n < size o → n < 32
    by_place None at low = absurd (omega (arith, low))
    by_place (Some sets) at low = (let few : length sets ≤ 32 = small_sets domains affinity is d sets at in omega (arith, low, few))

-- no domain has joined yet
get_none : (n d : ℕ) → at_place (let places : List (Option (List RtdsUnit)) = replicate n None in places) d ≡ None
get_none zero d = refl
get_none (suc n) zero = refl
get_none (suc n) (suc d) = get_none n d

get_no_sets : (n d : ℕ) → at_place (let places : List (Option (List Cores)) = replicate n None in places) d ≡ None
get_no_sets zero d = refl
get_no_sets (suc n) zero = refl
get_no_sets (suc n) (suc d) = get_no_sets n d

get_no_due : (n d : ℕ) → armed_moment (let dues : List (Option Moment) = replicate n None in dues) d ≡ None
get_no_due zero d = refl
get_no_due (suc n) zero = refl
get_no_due (suc n) (suc d) = get_no_due n d

total_none : (n : ℕ) → total (let places : List (Option (List RtdsUnit)) = replicate n None in places) ≡ 0
total_none zero = refl
total_none (suc n) = (let r = total_none n in omega (arith, r))

pub kept_none : (n units latest : ℕ) (masks : List Cores) → n ≤ 64 → units ≤ 256 → latest ≤ most_span → IsKept (replicate n None) (replicate n None) (empty_lists units) masks (replicate 2048 None) units latest
kept_none n units latest masks few room early =
    let none = total_none n in
    record {
      shape =
          record {
            places = length-replicate {A = Option (List RtdsUnit)} n None ∙ sym (length-replicate {A = Option (List Cores)} n None);
            few = (let l = length-replicate {A = Option (List Cores)} n None in omega (arith, l, few));
            same = λ d. ap (option_map length) (get_none n d) ∙ sym (ap (option_map length) (get_no_sets n d));
            small = EachPlace-empty (λ (xs : List RtdsUnit). length xs ≤ 32) n;
          };
      fits = EachPlace-empty (AllByRecursion (RtdsFits latest)) n;
      early = early;
      queued = record { eligible = tt; spent = tt };
      room = omega (arith, none);
      few = omega (arith, none, room);
      sets = record { each = λ u sets at n2. (let f : ◌≡◌ {A = Option (List Cores)} None (Some sets) = sym (get_no_sets n u.dom.0) ∙ at in absurd (cc)) };
      armed =
          record {
            count = length-replicate {A = Option Moment} 2048 None;
            each = λ u low. get_no_due 2048 (unit_index u) ∙ sym (idle_due [] (replicate n None) u refl (λ x at. (let f : ◌≡◌ {A = Option RtdsUnit} None (Some x) = sym (no_record (replicate n None) u (get_none n u.dom.0)) ∙ at in absurd (cc))));
          };
    }
