-- The set of the cores that are wanted, place by place, and by what the answers to the cores say.
use Rattle.std.proofs.Common.{◌≡◌, ◌<◌, ◌+◌, ◌*◌, ◌-◌, ℕ, zero, suc, Bool, true, false, List, refl, arith, sym, subst}
use Rattle.std.specs.Prelude.{Option, Some, None, ◌&&◌, MatchBool}
use mir.Val.{bool_byte}
use Rattle.sched_base.specs.Numbers.{core}
use Rattle.sched_base.specs.declared.ResId.{ResId}
use Rattle.sched_base.specs.declared.Moment.{Moment}
use Rattle.sched_base.specs.declared.UnitId.{UnitId}
use Rattle.sched_model.specs.declared.state.Resource.{Resource}
use Rattle.sched_model.specs.declared.state.Scheduler.{Scheduler}
use Rattle.sched_model.specs.Places.{at_place}
use Rattle.sched_model.specs.Policy.{has_better_waiting}
use Rattle.sched_model.specs.State.{has_core_bit}
use Rattle.sched_ops.specs.WantedCores.{is_asked, is_core_wanted, IsAnswer}
use Rattle.sched_ops.proofs.Bits.{front_first, front_rest}

-- the bits of a set are those of the places from one on
pub record AreAnswers (answers : ResId → Option UnitId → Moment → Bool → Type 0) (cores : List (Option Resource)) (from set : ℕ) : Type 0 where
  pub bits : (k : ℕ) → IsAnswer answers (from + k) (at_place cores (from + k)) (has_core_bit set k)

-- one place more at the front
pub one_more : {answers : ResId → Option UnitId → Moment → Bool → Type 0} {cores : List (Option Resource)} {r set : ℕ} (b : Bool) → AreAnswers answers cores r set → 0 < r → IsAnswer answers (r - 1) (at_place cores (r - 1)) b → AreAnswers answers cores (r - 1) (2 * set + bool_byte b)
one_more {answers} {cores} {r} {set} b rest some here = record { bits = by_place }
  where
    by_place : (k : ℕ) → IsAnswer answers (r - 1 + k) (at_place cores (r - 1 + k)) (has_core_bit (2 * set + bool_byte b) k)
    by_place zero =
        let same : r - 1 ≡ r - 1 + 0 = omega arith in
        subst (λ (x : Bool). IsAnswer answers (r - 1 + 0) (at_place cores (r - 1 + 0)) x) (sym (front_first set b))
        (subst (λ (i : ℕ). IsAnswer answers i (at_place cores i) b) same here)
    by_place (suc k) =
        let same : r + k ≡ r - 1 + suc k = omega arith in
        subst (λ (x : Bool). IsAnswer answers (r - 1 + suc k) (at_place cores (r - 1 + suc k)) x) (sym (front_rest set b k))
        (subst (λ (i : ℕ). IsAnswer answers i (at_place cores i) (has_core_bit set k)) same (rest.bits k))

-- where each answer is whether a better unit waits for the core, the set is that of the cores that are wanted
pub wanted_by : (answers : ResId → Option UnitId → Moment → Bool → Type 0) (t home : ℕ) (scheduler : Scheduler) (r : ℕ) (place : Option Resource) (b : Bool)
    → ((c : Resource) (x : Bool) → place ≡ Some c → is_asked c ≡ true → answers (core r) c.cur c.since x → x ≡ has_better_waiting c.cur c.since.0 t r home scheduler)
    → IsAnswer answers r place b → b ≡ is_core_wanted t home scheduler r place
wanted_by answers t home scheduler r None b says is = is
wanted_by answers t home scheduler r (Some c) b says is =
    elim (is_asked c) as (λ asked. is_asked c ≡ asked → MatchBool asked (answers (core r) c.cur c.since b) (b ≡ false) → b ≡ (asked && has_better_waiting c.cur c.since.0 t r home scheduler)) [
      | true ↦ λ asked answer. says c b refl asked answer
      | false ↦ λ asked answer. answer
    ] refl is
