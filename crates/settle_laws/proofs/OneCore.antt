-- Every unit may have the only core of a pool.
use Rattle.std.proofs.Common.{◌≡◌, ◌<◌, ◌*◌, ◌/◌, ◌%◌, ℕ, zero, suc, Bool, true, false, not, refl, ap, ◌∙◌, arith}
use Rattle.std.specs.Prelude.{Option, Some, None, ◌^◌, ◌==◌, ◌||◌, bit_and}
use Rattle.std.proofs.Math.Nat.{mod-lt}
use Rattle.std.proofs.lemmas.Nat.Bits.{and_pow}
use Rattle.sched_base.specs.declared.UnitId.{UnitId}
use Rattle.sched_model.specs.declared.ask.Ask.{Ask}
use Rattle.sched_model.specs.declared.state.ArincRecords.{ArincRecords}
use Rattle.sched_model.specs.declared.state.Records.{Records}
use Rattle.sched_model.specs.declared.state.Records.TheVariants.{ArincPool}
use Rattle.sched_model.specs.declared.state.Scheduler.{Scheduler}
use Rattle.sched_model.specs.EligibleUnits.{unit_cores, is_unit_allowed}
use Rattle.sched_model.specs.Policy.{decision_of}
use Rattle.settle_laws.specs.Frees.{frees, frees_by}

only_core : (set r : ℕ) → ((set / 2 ^ r) % 2 == 1 || bit_and set (2 ^ r) == 0) ≡ true
only_core set r =
    ap (λ (k : ℕ). (set / 2 ^ r) % 2 == 1 || k == 0) (and_pow set r)
    ∙ by_bit ((set / 2 ^ r) % 2) (mod-lt (set / 2 ^ r) (let two : 0 < 2 = omega arith in two))
  where
    by_bit : (b : ℕ) → b < 2 → (b == 1 || b * 2 ^ r == 0) ≡ true
    by_bit zero low = (let e : 0 * 2 ^ r ≡ 0 = omega arith in ap (λ (k : ℕ). k == 0) e)
    by_bit (suc zero) low = refl
    by_bit (suc (suc b)) low = absurd (omega (arith, low))

pub one_core : (r : ℕ) (u : UnitId) (s : Scheduler) → is_unit_allowed s (2 ^ r) r u ≡ true
one_core r u s = only_core (unit_cores s.affinity u) r

pub frees_none : (ask : Ask) (s : Scheduler) (records : ArincRecords) → s.records ≡ ArincPool records → ask.home.0 ≡ 2 ^ ask.core.0 → frees ask s ≡ false
frees_none ask s records is only = ap (λ (r : Records). frees_by r ask s) is ∙ by_unit (decision_of ask s).unit
  where
    by_unit : (o : Option UnitId) → elim o as (λ _. Bool) [ None ↦ false | Some u ↦ not (is_unit_allowed s ask.home.0 ask.core.0 u) ] ≡ false
    by_unit None = refl
    by_unit (Some u) = ap (λ (h : ℕ). not (is_unit_allowed s h ask.core.0 u)) only ∙ ap not (one_core ask.core.0 u s)
