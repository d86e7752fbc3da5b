-- The orders by which RTDS and Credit2 choose: no unit goes before itself, and the scheduler's scan ends at the best unit.
use Rattle.std.proofs.Common.{◌≡◌, ℕ, Bool, true, false, List, refl, arith}
use Rattle.std.specs.Prelude.{Option, Some, None, ◌&&◌, ◌||◌, ◌==◌, nat_lt, int_lt, ℤ}
use Rattle.std.proofs.lemmas.Bool.Decides.{nat_tests}
use Rattle.std.proofs.lemmas.Int.{ints}
use Rattle.sched_base.specs.declared.UnitId.{UnitId}
use Rattle.sched_model.specs.declared.state.Credit2Records.{Credit2Records}
use Rattle.sched_model.specs.declared.state.RtdsUnit.{RtdsUnit}
use Rattle.sched_model.specs.EligibleUnits.{rtds_unit_at}
use Rattle.sched_model.specs.Credit2.{richest_unit, unit_credit}
use Rattle.sched_model.specs.Rtds.{first_of_units, is_record_before, is_unit_before}
use Rattle.record_laws.proofs.Best.{IsOrder, IsScan}

-- RTDS: the level, and then the deadline
abbrev both_before : Option RtdsUnit → Option RtdsUnit → Bool
both_before a b = elim a as (λ _. Bool) [ None ↦ false | Some x ↦ elim b as (λ _. Bool) [ None ↦ false | Some y ↦ is_record_before x y ] ]

pub before_order : (domains : List (Option (List RtdsUnit))) → IsOrder (is_unit_before domains)
before_order domains = record {
  irrefl = λ u. own (rtds_unit_at domains u);
  trans = λ a b e. chain (rtds_unit_at domains a) (rtds_unit_at domains b) (rtds_unit_at domains e);
}
  where
    own : (a : Option RtdsUnit) → both_before a a ≡ false
    own None = refl
    own (Some x) = grind (arith, nat_tests)

    chain : (a b c : Option RtdsUnit) → both_before a b ≡ true → both_before b c ≡ true → both_before a c ≡ true
    chain None b c f s = absurd (cc)
    chain (Some a) None c f s = absurd (cc)
    chain (Some a) (Some b) None f s = absurd (cc)
    chain (Some a) (Some b) (Some c) f s = orders a.level a.deadline b.level b.deadline c.level c.deadline f s
      where
        orders : (l d m e n h : ℕ) → (nat_lt l m || (l == m && nat_lt d e)) ≡ true → (nat_lt m n || (m == n && nat_lt e h)) ≡ true → (nat_lt l n || (l == n && nat_lt d h)) ≡ true
        orders l d m e n h f s = grind (arith, nat_tests, f, s)

pub foremost_scan : (domains : List (Option (List RtdsUnit))) → IsScan (is_unit_before domains) (first_of_units domains)
foremost_scan domains = record { ends = λ best. refl; starts = λ u xs. refl; goes_on = λ b u xs. refl }

-- Credit2: the credit
abbrev pub has_more : Credit2Records → UnitId → UnitId → Bool
has_more records u b = int_lt (unit_credit records b) (unit_credit records u)

pub credit_order : (records : Credit2Records) → IsOrder (has_more records)
credit_order records = record {
  irrefl = λ u. own (unit_credit records u);
  trans = λ a b e f s. chain (unit_credit records a) (unit_credit records b) (unit_credit records e) f s;
}
  where
    own : (a : ℤ) → int_lt a a ≡ false
    own a = grind (arith, ints)

    chain : (a b c : ℤ) → int_lt b a ≡ true → int_lt c b ≡ true → int_lt c a ≡ true
    chain a b c f s = grind (arith, ints, f, s)

pub greatest_scan : (records : Credit2Records) → IsScan (has_more records) (richest_unit records)
greatest_scan records = record { ends = λ best. refl; starts = λ u xs. refl; goes_on = λ b u xs. refl }
