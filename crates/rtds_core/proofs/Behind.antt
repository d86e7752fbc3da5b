-- A unit that waits behind the first of the queue.
use Rattle.std.proofs.Common.{◌≡◌, ◌<◌, ℕ, Bool, true, false, List, [], ◌∷◌, refl, sym, subst, ◌∙◌, ap, inl, inr, arith}
use Rattle.std.specs.Prelude.{Option, Some, None, ◌&&◌, ◌||◌, ◌==◌, nat_lt}
use Rattle.std.specs.List.{AllByRecursion}
use Rattle.std.proofs.lemmas.Bool.{eq-eqb, eqb-true, or_cases}
use Rattle.std.proofs.lemmas.Bool.Decides.{nat_tests}
use Rattle.sched_base.proofs.Bools.{and_left, and_right, clash, or_more}
use Rattle.sched_base.specs.declared.Cores.{Cores}
use Rattle.sched_base.specs.declared.UnitId.{UnitId}
use Rattle.sched_model.specs.declared.state.RtdsUnit.{RtdsUnit}
use Rattle.sched_model.specs.EligibleUnits.{rtds_unit_at}
use Rattle.sched_model.specs.Rtds.{is_record_before, is_unit_before, unit_left_budget}
use Rattle.unit_places.specs.Places.{number_of}
use Rattle.unit_places.proofs.Placed.{same_number}
use Rattle.arrival_queue.specs.Queues.{Queued, has_unit, is_of}
use Rattle.arrival_queue.specs.Filters.{first_of}
use Rattle.arrival_queue.specs.Order.{GoesBeforeAll, IsInOrder}
use Rattle.rtds_queue.specs.Lists.{Lists, holds}
use Rattle.sched_ops.proofs.Coming.{IsBehind}
use Rattle.rtds_core.specs.Best.{AreMasks, AreQueued, IsEligible, IsSpent}
use Rattle.rtds_core.specs.RtdsParts.{IsShaped, seen_of}
use Rattle.rtds_core.specs.WantedCores.{StandsBehind, is_ready}
use Rattle.rtds_core.proofs.Ahead.{behind, own_set}
use Rattle.rtds_core.proofs.Changed.{low_unit}
use Rattle.rtds_core.proofs.Keeping.{low_queued}
use Rattle.rtds_core.proofs.Queues.{IsOrdered, waits}

-- no unit goes before itself
never_before : (domains : List (Option (List RtdsUnit))) (w : UnitId) → is_unit_before domains w w ≡ false
never_before domains w = by_record (rtds_unit_at domains w)
  where
    never : (level deadline : ℕ) → (nat_lt level level || ((level == level) && nat_lt deadline deadline)) ≡ false
    never level deadline = grind (arith, nat_tests)

    by_record : (o : Option RtdsUnit) → elim o as (λ _. Bool) [ None ↦ false | Some a ↦ elim o as (λ _. Bool) [ None ↦ false | Some b ↦ is_record_before a b ] ] ≡ false
    by_record None = refl
    by_record (Some a) = never a.level a.deadline

-- the first item of the queue
record First (domains : List (Option (List RtdsUnit))) (es : List Queued) (first : UnitId) : Type 0 where
  unit : RtdsUnit
  at : rtds_unit_at domains first ≡ Some unit
  left : 0 < unit.left
  has : has_unit first es ≡ true

first_item : (domains : List (Option (List RtdsUnit))) (es : List Queued) (first : UnitId) → AllByRecursion (IsEligible domains) es → first_of es ≡ Some first → First domains es first
first_item domains [] first each is = absurd (cc)
first_item domains (e ∷ es) first each is =
    let same : e.unit ≡ first = cc in
    record {
      unit = each.0.unit;
      at = subst (λ (w : UnitId). rtds_unit_at domains w ≡ Some each.0.unit) same each.0.at;
      left = each.0.left;
      has = or_more (is_of first e) (has_unit first es) (eq-eqb (number_of e.unit) (number_of first) (ap number_of same));
    }

module _ (domains : List (Option (List RtdsUnit))) (affinity : List (Option (List Cores))) (shape : IsShaped domains affinity) (u : UnitId) (small : u.n < 256) where
  -- an item of the unit is of no other
  item_of : (e : Queued) (x : RtdsUnit) → rtds_unit_at domains e.unit ≡ Some x → is_of u e ≡ true → u ≡ e.unit
  item_of e x at is = same_number u e.unit small (low_unit domains affinity e.unit x shape at).place (eqb-true (number_of e.unit) (number_of u) is)

  spent_none : (es : List Queued) → AllByRecursion (IsSpent domains) es → has_unit u es ≡ true → unit_left_budget domains u ≡ 0
  spent_none [] each has = absurd (cc)
  spent_none (e ∷ es) each has = elim (or_cases (is_of u e) (has_unit u es) has) [
    | inl here ↦
        ap (λ (w : UnitId). unit_left_budget domains w) (item_of e each.0.unit each.0.at here)
        ∙ ap (λ (o : Option RtdsUnit). elim o as (λ _. ℕ) [ None ↦ 0 | Some x ↦ x.left ]) each.0.at
        ∙ each.0.left
    | inr rest ↦ spent_none es each.1 rest
  ]

  -- one that waits with budget left is among the eligible ones
  in_eligible : (q : Lists) → AreQueued domains q → is_ready domains q u ≡ true → has_unit u q.eligible ≡ true
  in_eligible q queued ready = elim (or_cases (has_unit u q.eligible) (has_unit u q.spent) (and_left (holds q u) (nat_lt 0 (unit_left_budget domains u)) ready)) [
    | inl here ↦ here
    | inr spent ↦ absurd (clash (nat_lt 0 (unit_left_budget domains u)) (and_right (holds q u) (nat_lt 0 (unit_left_budget domains u)) ready) (ap (λ (n : ℕ). nat_lt 0 n) (spent_none q.spent queued.spent spent)))
  ]

  after_one : (e : Queued) (es : List Queued) → IsEligible domains e → AllByRecursion (IsEligible domains) es → GoesBeforeAll e es → has_unit u es ≡ true → is_unit_before domains u e.unit ≡ false
  after_one e [] el each before has = absurd (cc)
  after_one e (x ∷ es) el each before has = elim (or_cases (is_of u x) (has_unit u es) has) [
    | inl here ↦ subst (λ (w : UnitId). is_unit_before domains w e.unit ≡ false) (sym (item_of x each.0.unit each.0.at here)) (behind domains e.unit (λ w. true) e x el each.0 before.0 (never_before domains e.unit))
    | inr later ↦ after_one e es el each.1 before.1 later
  ]

  after_first : (es : List Queued) (first : UnitId) → AllByRecursion (IsEligible domains) es → IsInOrder es → first_of es ≡ Some first → has_unit u es ≡ true → is_unit_before domains u first ≡ false
  after_first [] first each order is has = absurd (cc)
  after_first (e ∷ es) first each order is has =
      let same : e.unit ≡ first = cc in
      subst (λ (w : UnitId). is_unit_before domains u w ≡ false) same (elim (or_cases (is_of u e) (has_unit u es) has) [
        | inl here ↦ subst (λ (w : UnitId). is_unit_before domains w e.unit ≡ false) (sym (item_of e each.0.unit each.0.at here)) (never_before domains e.unit)
        | inr later ↦ after_one e es each.0 each.1 order.0 later
      ])

  -- so it is behind the first for each core
  pub behind_first : (q : Lists) (masks : List Cores) (spare latest : ℕ) (home core t : ℕ) → AreQueued domains q → AreMasks affinity masks → IsOrdered q → is_ready domains q u ≡ true → core < 64 → StandsBehind q masks (record { 0 = home }) u
      → IsBehind (seen_of domains affinity q spare latest).scheduler home core t u
  behind_first q masks spare latest home core t queued are order ready low stands =
      let f = first_item domains q.eligible stands.first queued.eligible stands.unit in
      let some : nat_lt 0 f.unit.left ≡ true = (let l = f.left in grind (arith, nat_tests, l)) in
      record {
        other = stands.first;
        waits = waits q stands.first (low_unit domains affinity stands.first f.unit shape f.at).byte (low_queued domains affinity q shape queued) ∙ or_more (has_unit stands.first q.eligible) (has_unit stands.first q.spent) f.has;
        apart = stands.other;
        may =
            ap (λ (b : Bool). b && (elim (rtds_unit_at domains stands.first) as (λ _. Bool) [ None ↦ false | Some x ↦ nat_lt 0 x.left ])) (sym (own_set domains affinity q masks spare latest shape queued are order home core stands.first f.unit f.at) ∙ stands.open_to core low)
            ∙ ap (λ (o : Option RtdsUnit). elim o as (λ _. Bool) [ None ↦ false | Some x ↦ nat_lt 0 x.left ]) f.at
            ∙ some;
        after = after_first q.eligible stands.first queued.eligible order.order stands.unit (in_eligible q queued ready);
      }
