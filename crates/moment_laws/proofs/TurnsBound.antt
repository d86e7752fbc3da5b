-- What is left to the machine is at most what its numbers give.
use Rattle.std.proofs.Common.{◌≡◌, ◌≤◌, ◌+◌, ◌-◌, ◌*◌, ℕ, zero, suc, Bool, true, false, not, refl, arith, ap, cond, length}
use Rattle.std.specs.Prelude.{Option, Some, None, is_some, ◌&&◌}
use Rattle.std.proofs.Math.Nat.{mul-le-mul_right}
use Rattle.sched_base.specs.declared.UnitId.{UnitId}
use Rattle.sched_model.specs.declared.machine.Machine.{Machine}
use Rattle.sched_model.specs.declared.state.State.{State}
use Rattle.sched_model.specs.declared.state.Pool.{Pool}
use Rattle.sched_model.specs.declared.state.Resource.{Resource}
use Rattle.sched_model.specs.declared.state.Scheduler.{Scheduler}
use Rattle.sched_model.specs.Places.{at_place}
use Rattle.sched_model.specs.State.{may_unit_run}
use Rattle.sched_model.specs.Pool.{pool_core_set, is_held_back, is_gathering}
use Rattle.sched_model.specs.Actions.{home_pool_of_core}
use Rattle.sched_laws.specs.EachPlace.{EachPlace}
use Rattle.moment_laws.specs.Stretches.{cores, units, most_in_stretch}
use Rattle.moment_laws.specs.Turns.{how_many, turns, turns_in, turns_left, core_turns, weight_of, chances, changes_left, meeting, is_stirred, is_secure, ahead, IsBounded, most_turns}
use Rattle.moment_laws.proofs.Sums.{many_is, total_at_most, how_many_most, weighs_no_more}
use Rattle.sched_base.proofs.Bools.{one_if_most}
use Rattle.moment_laws.proofs.Meetings.{cond_most}

cond_of : (b : Bool) (x y n : ℕ) → x ≤ n → y ≤ n → cond b x y ≤ n
cond_of true x y n a b = a
cond_of false x y n a b = b

-- the chances of a core
chances_most : (most t home : ℕ) (runs : UnitId → Bool) (scheduler : Scheduler) (r : ℕ) (c : Resource) → ((u : UnitId) → ahead scheduler.records u ≤ most) → chances most runs t home scheduler r c ≤ suc most
chances_most most t home runs scheduler r c few = by_cur c.cur
  where
    by_cur : (cur : Option UnitId) → elim cur as (λ _. ℕ) [ None ↦ cond (c.leaving && c.pending) (suc most) most | Some u ↦ cond (not c.leaving && is_secure runs t home scheduler r u) (ahead scheduler.records u) (suc most) ] ≤ suc most
    by_cur None = cond_of (c.leaving && c.pending) (suc most) most (suc most) (omega arith) (omega arith)
    by_cur (Some u) = (let a = few u in cond_of (not c.leaving && is_secure runs t home scheduler r u) (ahead scheduler.records u) (suc most) (suc most) (omega (arith, a)) (omega arith))

meeting_bound : (g : ℕ) (stirred : Bool) (c : Resource) → length c.processors ≡ g → meeting g stirred c ≤ 3 * g + 1
meeting_bound g stirred c whole =
    let n : ℕ = 2 * g + 1 in
    let h = how_many_most is_held_back c.processors in
    elim (is_gathering c) as (λ b. elim b as (λ _. ℕ) [ true ↦ cond stirred (n - how_many is_held_back c.processors) 0 | false ↦ how_many is_held_back c.processors + cond stirred n 0 ] ≤ 3 * g + 1) [
      | true ↦ (let a = cond_most stirred (n - how_many is_held_back c.processors) in omega (arith, a, h, whole))
      | false ↦ (let a = cond_most stirred n in omega (arith, a, h, whole))
    ]

-- the most that is left to a core
abbrev core_most : ℕ → ℕ → ℕ → ℕ
core_most g weight most = weight * (2 * most + 3) + (3 * g + 1)

turns_most : (m : Machine) (t : ℕ) (pool : Pool) → IsBounded m pool → (r : ℕ) → turns_in m t pool r ≤ core_most m.config.granularity (weight_of m) (units m)
turns_most m t pool bounded r = by_core (at_place pool.resources r) refl
  where
    by_core : (o : Option Resource) → at_place pool.resources r ≡ o → turns_in m t pool r ≤ core_most m.config.granularity (weight_of m) (units m)
    by_core None is = (let e : turns_in m t pool r ≡ 0 = ap (λ (o : Option Resource). elim o as (λ _. ℕ) [ None ↦ 0 | Some c ↦ turns m.config.granularity (weight_of m) (units m) (may_unit_run m.config.granularity pool) t (pool_core_set pool) pool.scheduler r c ]) is in omega (arith, e))
    by_core (Some c) is =
        let e = ap (λ (o : Option Resource). elim o as (λ _. ℕ) [ None ↦ 0 | Some x ↦ turns m.config.granularity (weight_of m) (units m) (may_unit_run m.config.granularity pool) t (pool_core_set pool) pool.scheduler r x ]) is in
        let a = chances_most (units m) t (pool_core_set pool) (may_unit_run m.config.granularity pool) pool.scheduler r c bounded.few in
        let s = one_if_most (is_some c.saving) in
        let b = meeting_bound m.config.granularity (is_stirred t (pool_core_set pool) pool.scheduler r c) c (bounded.whole r c is) in
        let w = weighs_no_more (weight_of m) (changes_left (units m) (may_unit_run m.config.granularity pool) t (pool_core_set pool) pool.scheduler r c) (2 * units m + 3) (omega (arith, a, s)) in
        omega (arith, e, b, w)

square : (n : ℕ) → n ≤ n * n
square zero = omega arith
square (suc n) = (let e : suc n * suc n ≡ n * suc n + suc n = grind arith in omega (arith, e))

-- on numbers
fits : (g n u : ℕ) → n * (((2 * g + 1) * n + 1) * (2 * u + 3) + (3 * g + 1)) ≤ 2 * (g + 1) * (n * n * (2 * u + 5))
fits g n u =
    let a : n * (((2 * g + 1) * n + 1) * (2 * u + 3) + (3 * g + 1)) ≡ (2 * g + 1) * (n * n * (2 * u + 3)) + n * (2 * u + 3) + n * (3 * g + 1) = grind arith in
    let b : 2 * (g + 1) * (n * n * (2 * u + 5)) ≡ (2 * g + 1) * (n * n * (2 * u + 3)) + n * n * (2 * u + 3) + n * n * (3 * g + 1) + n * n * (g + 3) = grind arith in
    let c = mul-le-mul_right (2 * u + 3) (square n) in
    let d = mul-le-mul_right (3 * g + 1) (square n) in
    omega (arith, a, b, c, d)

pub most_turns_fit : (m : Machine) → most_turns m ≤ most_in_stretch m
most_turns_fit m = fits m.config.granularity (cores m) (units m)

pub turns_left_most : (m : Machine) (s : State) → EachPlace (IsBounded m) s.pools → turns_left m s ≤ most_turns m
turns_left_most m s bounded =
    let core : ℕ = core_most m.config.granularity (weight_of m) (units m) in
    let a = total_at_most (cores m) core (core_turns m s) (λ r low. by_home r (home_pool_of_core s r) refl) in
    let b = many_is (cores m) core in
    let turned : core * cores m ≡ cores m * core = grind arith in
    omega (arith, a, b, turned)
  where
    by_home : (r : ℕ) (o : Option ℕ) → home_pool_of_core s r ≡ o → core_turns m s r ≤ core_most m.config.granularity (weight_of m) (units m)
    by_home r None is = (let e : core_turns m s r ≡ 0 = ap (λ (o : Option ℕ). elim o as (λ _. ℕ) [ None ↦ 0 | Some i ↦ elim (at_place s.pools i) as (λ _. ℕ) [ None ↦ 0 | Some pool ↦ turns_in m s.now pool r ] ]) is in omega (arith, e))
    by_home r (Some i) is =
        let e = ap (λ (o : Option ℕ). elim o as (λ _. ℕ) [ None ↦ 0 | Some j ↦ elim (at_place s.pools j) as (λ _. ℕ) [ None ↦ 0 | Some pool ↦ turns_in m s.now pool r ] ]) is in
        let low = by_pool i r (at_place s.pools i) refl in
        omega (arith, e, low)
      where
        by_pool : (i r : ℕ) (o : Option Pool) → at_place s.pools i ≡ o → elim o as (λ _. ℕ) [ None ↦ 0 | Some pool ↦ turns_in m s.now pool r ] ≤ core_most m.config.granularity (weight_of m) (units m)
        by_pool i r None at = omega arith
        by_pool i r (Some pool) at = turns_most m s.now pool (bounded i pool at) r
