-- The armed moments after a change, and the timers that they are.
use Rattle.std.proofs.Common.{◌≡◌, ◌≤◌, ◌<◌, ◌+◌, ◌-◌, ◌*◌, ◌/◌, ◌%◌, ℕ, zero, suc, Bool, true, false, List, [], ◌∷◌, ◌++◌, refl, arith, ap, subst, sym, ◌∙◌, inl, inr, length, take, drop}
use Rattle.std.specs.Prelude.{Option, Some, None, slice_get, is_some, ◌||◌, ◌==◌, if◌then◌else◌}
use Rattle.std.proofs.lemmas.Bool.{eq-eqb, cases_Bool, and_from}
use Rattle.sched_base.specs.Numbers.{moment, domain}
use Rattle.sched_base.specs.declared.Moment.{Moment}
use Rattle.sched_base.specs.declared.UnitId.{UnitId}
use Rattle.sched_model.specs.Places.{at_place, has_listed_unit, same_unit, numbered_items}
use Rattle.sched_model.specs.declared.state.RtdsUnit.{RtdsUnit}
use Rattle.sched_model.specs.EligibleUnits.{rtds_unit_at}
use Rattle.sched_laws.specs.EachPlace.{EachPlace}
use Rattle.sched_base.proofs.Bools.{clash}
use Rattle.sched_laws.proofs.Choices.{same_unit_same}
use Rattle.sched_laws.proofs.EachPlace.{length_set, at_place-set_other}
use Rattle.sched_ops.specs.declared.timer.Timer.TheVariants.{Repl}
use Rattle.sched_ops.specs.Timers.{Armed, unit_timers, replenishments}
use Rattle.due_heap.specs.Dues.{armed_moment, IsArmed}
use Rattle.rtds_core.specs.Alarms.{armed_timers, unit_of_id, with_due}
use Rattle.unit_places.specs.Places.{unit_index}
use Rattle.rtds_core.specs.RtdsParts.{AreArmed, due_for}
use Rattle.rtds_core.proofs.Armed.{none_armed}
use Rattle.rtds_core.proofs.Changed.{IsLow, at_place-set, unit_in}

-- two units of one id are the same
same_id : (u w : UnitId) → u.n < 32 → w.n < 32 → unit_index u ≡ unit_index w → same_unit u w ≡ true
same_id u w low_u low_w same =
    let n : u.n ≡ w.n = omega (arith, same, low_u, low_w) in
    let d : u.dom.0 ≡ w.dom.0 = omega (arith, same, n) in
    and_from (u.dom.0 == w.dom.0) (u.n == w.n) (eq-eqb u.dom.0 w.dom.0 d) (eq-eqb u.n w.n n)

-- what a unit's moment depends on
pub due_alike : (queue queue2 : List UnitId) (domains domains2 : List (Option (List RtdsUnit))) (w : UnitId) → rtds_unit_at domains2 w ≡ rtds_unit_at domains w → has_listed_unit queue2 w ≡ has_listed_unit queue w → due_for queue2 domains2 w ≡ due_for queue domains w
due_alike queue queue2 domains domains2 w unit waits =
    ap (λ (o : Option RtdsUnit). elim o as (λ _. Option Moment) [ None ↦ None | Some x ↦ (if has_listed_unit queue2 w || is_some x.burned then Some (moment x.deadline) else None) ]) unit
    ∙ ap (λ (b : Bool). elim (rtds_unit_at domains w) as (λ _. Option Moment) [ None ↦ None | Some x ↦ (if b || is_some x.burned then Some (moment x.deadline) else None) ]) waits

pub due_of_record : (queue : List UnitId) (domains : List (Option (List RtdsUnit))) (u : UnitId) (x : RtdsUnit) → rtds_unit_at domains u ≡ Some x → due_for queue domains u ≡ (if has_listed_unit queue u || is_some x.burned then Some (moment x.deadline) else None)
due_of_record queue domains u x at = ap (λ (o : Option RtdsUnit). elim o as (λ _. Option Moment) [ None ↦ None | Some y ↦ (if has_listed_unit queue u || is_some y.burned then Some (moment y.deadline) else None) ]) at

-- one unit's moment is changed, and those of the others stay
pub armed_changed : (queue queue2 : List UnitId) (domains domains2 : List (Option (List RtdsUnit))) (dues : List (Option Moment)) (u : UnitId) (o : Option Moment) → IsLow u → AreArmed queue domains dues
    → ((w : UnitId) → same_unit u w ≡ false → due_for queue2 domains2 w ≡ due_for queue domains w) → due_for queue2 domains2 u ≡ o → AreArmed queue2 domains2 (with_due u o dues)
armed_changed queue queue2 domains domains2 dues u o low is others own = record {
  count = length_set (unit_index u) o dues ∙ is.count;
  each = λ w low_w. elim (cases_Bool (same_unit u w)) [
    | inl same ↦
        let e : u ≡ w = same_unit_same u w same in
        let count = is.count in
        let inside = low.id in
        subst (λ (v : UnitId). armed_moment (with_due u o dues) (unit_index v) ≡ due_for queue2 domains2 v) e (at_place-set (unit_index u) o dues (omega (arith, count, inside)) ∙ sym own)
    | inr other ↦ at_place-set_other (unit_index u) (unit_index w) o dues (λ e. clash (same_unit u w) (same_id u w low.index low_w e) other) ∙ is.each w low_w ∙ sym (others w other)
  ];
}

-- all moments stay
pub armed_alike : (queue queue2 : List UnitId) (domains domains2 : List (Option (List RtdsUnit))) (dues : List (Option Moment)) → AreArmed queue domains dues → ((w : UnitId) → due_for queue2 domains2 w ≡ due_for queue domains w) → AreArmed queue2 domains2 dues
armed_alike queue queue2 domains domains2 dues is alike = record { count = is.count; each = λ w low. is.each w low ∙ sym (alike w) }

-- the timers of the first ids, and those of the rest
armed_parts : (m n : ℕ) (dues : List (Option Moment)) → armed_timers n dues ≡ armed_timers n (take m dues) ++ armed_timers (n + m) (drop m dues)
armed_parts zero n dues = (let e : n + 0 ≡ n = omega arith in sym (ap (λ (k : ℕ). armed_timers k dues) e))
armed_parts (suc m) n [] = refl
armed_parts (suc m) n (None ∷ dues) = (let e : suc n + m ≡ n + suc m = omega arith in armed_parts m (suc n) dues ∙ ap (λ (k : ℕ). armed_timers (suc n) (take m dues) ++ armed_timers k (drop m dues)) e)
armed_parts (suc m) n (Some at ∷ dues) =
    let e : suc n + m ≡ n + suc m = omega arith in
    ap (λ (xs : List Armed). (at, Repl (unit_of_id n)) ∷ xs) (armed_parts m (suc n) dues ∙ ap (λ (k : ℕ). armed_timers (suc n) (take m dues) ++ armed_timers k (drop m dues)) e)

-- the unit of an id
unit_at : (k j : ℕ) → j < 32 → unit_of_id (k * 32 + j) ≡ record { dom = domain k; n = j }
unit_at k j low =
    let d : (k * 32 + j) / 32 ≡ k = omega (arith, low) in
    let n : (k * 32 + j) % 32 ≡ j = omega (arith, low) in
    ap (λ (i : ℕ). record { dom = domain i; n = (k * 32 + j) % 32 }) d ∙ ap (λ (i : ℕ). record { dom = domain k; n = i }) n

module _ (queue : List UnitId) where
  abbrev due_if : UnitId → Option RtdsUnit → Option Moment
  due_if u o = elim o as (λ _. Option Moment) [ None ↦ None | Some x ↦ (if has_listed_unit queue u || is_some x.burned then Some (moment x.deadline) else None) ]

  -- the timers of a domain's units are those of its ids
  block : (k j : ℕ) (units : List RtdsUnit) (dues : List (Option Moment)) → length dues + j ≡ 32 → length units + j ≤ 32
      → ((i : ℕ) → i + j < 32 → armed_moment dues i ≡ due_if (record { dom = domain k; n = i + j }) (slice_get units i)) → armed_timers (k * 32 + j) dues ≡ unit_timers queue k j units
  block k j [] dues long few each = none_armed (k * 32 + j) dues (λ i at is. none i at is)
    where
      none : (i : ℕ) (at : Moment) → IsArmed dues i at → ⊥
      none i at is =
          let inside : i < length dues = below dues i is in
          let e = each i (omega (arith, inside, long)) in
          let f : ◌≡◌ {A = Option Moment} None (Some at) = sym e ∙ is in
          absurd (cc)
        where
          below : (dues : List (Option Moment)) (i : ℕ) → IsArmed dues i at → i < length dues
          below [] i is = absurd (cc)
          below (o ∷ dues) zero is = omega arith
          below (o ∷ dues) (suc i) is = (let r = below dues i is in omega (arith, r))
  block k j (x ∷ units) [] long few each = absurd (omega (arith, long, few))
  block k j (x ∷ units) (o ∷ dues) long few each =
      let j_low : j < 32 = omega (arith, long) in
      let up : (k * 32 + j) + 1 ≡ k * 32 + suc j = omega arith in
      let rest : armed_timers (k * 32 + suc j) dues ≡ unit_timers queue k (suc j) units =
      block k (suc j) units dues (omega (arith, long)) (omega (arith, few))
      (λ i low. (let e : suc i + j ≡ i + suc j = omega arith in each (suc i) (omega (arith, low)) ∙ ap (λ (n : ℕ). due_if (record { dom = domain k; n = n }) (slice_get units i)) e)) in
      let head : o ≡ due_if (record { dom = domain k; n = j }) (Some x) = (let z : 0 + j ≡ j = omega arith in each 0 (omega (arith, j_low)) ∙ ap (λ (n : ℕ). due_if (record { dom = domain k; n = n }) (Some x)) z) in
      let next : armed_timers (suc (k * 32 + j)) dues ≡ unit_timers queue k (suc j) units = (let e : suc (k * 32 + j) ≡ k * 32 + suc j = omega arith in ap (λ (n : ℕ). armed_timers n dues) e ∙ rest) in
      ap (λ (p : Option Moment). armed_timers (k * 32 + j) (p ∷ dues)) head
      ∙ elim (has_listed_unit queue (record { dom = domain k; n = j }) || is_some x.burned) as (λ b. armed_timers (k * 32 + j) ((if b then Some (moment x.deadline) else None) ∷ dues) ≡ (if b then (moment x.deadline, Repl (record { dom = domain k; n = j })) ∷ unit_timers queue k (suc j) units else unit_timers queue k (suc j) units)) [
        | true ↦ ap (λ (u : UnitId). (moment x.deadline, Repl u) ∷ armed_timers (suc (k * 32 + j)) dues) (unit_at k j j_low) ∙ ap (λ (xs : List Armed). (moment x.deadline, Repl (record { dom = domain k; n = j })) ∷ xs) next
        | false ↦ next
      ]

  get_take : (m i : ℕ) (dues : List (Option Moment)) → i < m → armed_moment (take m dues) i ≡ armed_moment dues i
  get_take zero i dues low = absurd (omega (arith, low))
  get_take (suc m) i [] low = refl
  get_take (suc m) zero (o ∷ dues) low = refl
  get_take (suc m) (suc i) (o ∷ dues) low = get_take m i dues (omega (arith, low))

  get_drop : (m i : ℕ) (dues : List (Option Moment)) → armed_moment (drop m dues) i ≡ armed_moment dues (m + i)
  get_drop zero i dues = (let e : 0 + i ≡ i = omega arith in sym (ap (λ (n : ℕ). armed_moment dues n) e))
  get_drop (suc m) i [] = refl
  get_drop (suc m) i (o ∷ dues) = (let e : suc (m + i) ≡ suc m + i = omega arith in get_drop m i dues ∙ ap (λ (n : ℕ). armed_moment (o ∷ dues) n) e)

  long_take : (m : ℕ) (dues : List (Option Moment)) → m ≤ length dues → length (take m dues) ≡ m
  long_take zero dues low = refl
  long_take (suc m) [] low = absurd (omega (arith, low))
  long_take (suc m) (o ∷ dues) low = ap suc (long_take m dues (omega (arith, low)))

  long_drop : (m : ℕ) (dues : List (Option Moment)) → length (drop m dues) ≡ length dues - m
  long_drop zero dues = omega arith
  long_drop (suc m) [] = omega arith
  long_drop (suc m) (o ∷ dues) = (let r = long_drop m dues in omega (arith, r))

  -- the timers of all domains are those of all ids
  blocks : (k : ℕ) (domains : List (Option (List RtdsUnit))) (dues : List (Option Moment)) → length domains * 32 ≤ length dues → EachPlace (λ (units : List RtdsUnit). length units ≤ 32) domains
      → ((d n : ℕ) → n < 32 → armed_moment dues (d * 32 + n) ≡ due_if (record { dom = domain (k + d); n = n }) (unit_in (at_place domains d) n))
      → armed_timers (k * 32) dues ≡ replenishments queue (numbered_items k domains)
  blocks k [] dues long small each = none_armed (k * 32) dues (λ i at is. none i at is)
    where
      none : (i : ℕ) (at : Moment) → IsArmed dues i at → ⊥
      none i at is =
          let parts : (i / 32) * 32 + i % 32 ≡ i = omega arith in
          let e : armed_moment dues i ≡ None = sym (ap (λ (n : ℕ). armed_moment dues n) parts) ∙ each (i / 32) (i % 32) (omega arith) in
          let f : ◌≡◌ {A = Option Moment} None (Some at) = sym e ∙ is in
          absurd (cc)
  blocks k (o ∷ domains) dues long small each =
      let up : k * 32 + 32 ≡ suc k * 32 = omega arith in
      let rest : armed_timers (k * 32 + 32) (drop 32 dues) ≡ replenishments queue (numbered_items (suc k) domains) =
      ap (λ (n : ℕ). armed_timers n (drop 32 dues)) up
      ∙ blocks (suc k) domains (drop 32 dues) (let l = long_drop 32 dues in omega (arith, long, l)) (λ d units at. small (suc d) units at)
      (λ d n low. (
      let at : 32 + (d * 32 + n) ≡ suc d * 32 + n = omega arith in
      let e : k + suc d ≡ suc k + d = omega arith in
      get_drop 32 (d * 32 + n) dues ∙ ap (λ (i : ℕ). armed_moment dues i) at ∙ each (suc d) n low ∙ ap (λ (i : ℕ). due_if (record { dom = domain i; n = n }) (unit_in (at_place domains d) n)) e)) in
      armed_parts 32 (k * 32) dues ∙ ap (λ (xs : List Armed). armed_timers (k * 32) (take 32 dues) ++ xs) rest ∙ first o small each
    where
      first : (o : Option (List RtdsUnit)) → EachPlace (λ (units : List RtdsUnit). length units ≤ 32) (o ∷ domains)
          → ((d n : ℕ) → n < 32 → armed_moment dues (d * 32 + n) ≡ due_if (record { dom = domain (k + d); n = n }) (unit_in (at_place (o ∷ domains) d) n))
          → armed_timers (k * 32) (take 32 dues) ++ replenishments queue (numbered_items (suc k) domains) ≡ replenishments queue (numbered_items k (o ∷ domains))
      first None small each = ap (λ (xs : List Armed). xs ++ replenishments queue (numbered_items (suc k) domains)) (none_armed (k * 32) (take 32 dues) (λ i at is. none i at is))
        where
          none : (i : ℕ) (at : Moment) → IsArmed (take 32 dues) i at → ⊥
          none i at is =
              let inside : i < 32 = below 32 dues i is in
              let z : 0 * 32 + i ≡ i = omega arith in
              let e : armed_moment (take 32 dues) i ≡ None = get_take 32 i dues inside ∙ sym (ap (λ (n : ℕ). armed_moment dues n) z) ∙ each 0 i inside in
              let f : ◌≡◌ {A = Option Moment} None (Some at) = sym e ∙ is in
              absurd (cc)
            where
              below : (m : ℕ) (dues : List (Option Moment)) (i : ℕ) → IsArmed (take m dues) i at → i < m
              below zero dues i is = absurd (cc)
              below (suc m) [] i is = absurd (cc)
              below (suc m) (o ∷ dues) zero is = omega arith
              below (suc m) (o ∷ dues) (suc i) is = (let r = below m dues i is in omega (arith, r))
      first (Some units) small each =
          ap (λ (xs : List Armed). xs ++ replenishments queue (numbered_items (suc k) domains))
          ((let z : k * 32 ≡ k * 32 + 0 = omega arith in ap (λ (n : ℕ). armed_timers n (take 32 dues)) z)
          ∙ block k 0 units (take 32 dues) (let l = long_take 32 dues (omega (arith, long)) in omega (arith, l)) (let l = small 0 units refl in omega (arith, l))
          (λ i low. (
          let inside : i < 32 = omega (arith, low) in
          let z : 0 * 32 + i ≡ i = omega arith in
          let a : k + 0 ≡ k = omega arith in
          let b : i ≡ i + 0 = omega arith in
          get_take 32 i dues inside ∙ sym (ap (λ (n : ℕ). armed_moment dues n) z) ∙ each 0 i inside
          ∙ ap (λ (d : ℕ). due_if (record { dom = domain d; n = i }) (slice_get units i)) a
          ∙ ap (λ (n : ℕ). due_if (record { dom = domain k; n = n }) (slice_get units i)) b)))

  -- the timers are those of the armed moments
  pub timers_armed : (domains : List (Option (List RtdsUnit))) (dues : List (Option Moment)) → length domains ≤ 64 → EachPlace (λ (units : List RtdsUnit). length units ≤ 32) domains → AreArmed queue domains dues
      → armed_timers 0 dues ≡ replenishments queue (numbered_items 0 domains)
  timers_armed domains dues few small is =
      let count = is.count in
      blocks 0 domains dues (omega (arith, few, count)) small
      (λ d n low. (let z : d ≡ 0 + d = omega arith in is.each (record { dom = domain d; n = n }) low ∙ ap (λ (i : ℕ). due_if (record { dom = domain i; n = n }) (unit_in (at_place domains d) n)) z))
