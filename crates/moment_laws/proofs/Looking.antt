-- Looking at the cores of a pool, as is done after each event of it, changes nothing of what is left to them.
use Rattle.std.proofs.Common.{◌≡◌, ◌+◌, ◌*◌, ℕ, suc, Bool, true, false, not, refl, arith, ap, cond, ◌∙◌}
use Rattle.std.specs.Prelude.{Option, Some, None, is_some, ◌&&◌, ◌||◌, option_map}
use Rattle.sched_base.specs.declared.UnitId.{UnitId}
use Rattle.sched_model.specs.declared.machine.Machine.{Machine}
use Rattle.sched_model.specs.declared.state.Pool.{Pool}
use Rattle.sched_model.specs.declared.state.Resource.{Resource}
use Rattle.sched_model.specs.declared.state.Scheduler.{Scheduler}
use Rattle.sched_model.specs.Places.{at_place, change_each}
use Rattle.sched_model.specs.State.{may_unit_run}
use Rattle.sched_model.specs.Policy.{has_better_waiting}
use Rattle.sched_model.specs.Pool.{pool_core_set, reconsidered_core, settled_pool}
use Rattle.sched_model.proofs.PlaceLemmas.{cores_from-change_each}
use Rattle.sched_laws.proofs.EachPlace.{at_place-change_each, by_cond}
use Rattle.moment_laws.specs.Stretches.{units}
use Rattle.moment_laws.specs.Turns.{turns, turns_in, is_secure, weight_of, ahead, meeting, changes_left}
use Rattle.sched_base.specs.Numbers.{one_if}

-- looking at a core changes nothing of what is left to it
stirred_again : (pending leaving better : Bool) → leaving ≡ false → ((pending || better) || (not leaving && better)) ≡ (pending || (not leaving && better))
stirred_again true leaving better is = refl
stirred_again false true better is = absurd (cc)
stirred_again false false true is = refl
stirred_again false false false is = refl

chances_again : (leaving p q : Bool) (x y : ℕ) → leaving ≡ false → cond (leaving && p) x y ≡ cond (leaving && q) x y
chances_again true p q x y is = absurd (cc)
chances_again false p q x y is = refl

pub turns_reconsidered : (g weight most t home : ℕ) (runs : UnitId → Bool) (scheduler : Scheduler) (r : ℕ) (c : Resource) → turns g weight most runs t home scheduler r (reconsidered_core t home scheduler r c) ≡ turns g weight most runs t home scheduler r c
turns_reconsidered g weight most t home runs scheduler r c =
    by_cond (λ (x : Resource). turns g weight most runs t home scheduler r x ≡ turns g weight most runs t home scheduler r c) c.leaving c (record c { pending = c.pending || better })
    (λ is. refl)
    (λ is. ap (λ k. weight * (k + k + one_if (is_some c.saving)) + meeting g ((c.pending || better) || (not c.leaving && better)) c) (by_cur c.cur is) ∙ ap (λ b. weight * changes_left most runs t home scheduler r c + meeting g b c) (stirred_again c.pending c.leaving better is))
  where
    better : Bool
    better = has_better_waiting c.cur c.since.0 t r home scheduler

    by_cur : (cur : Option UnitId) → c.leaving ≡ false
        → elim cur as (λ _. ℕ) [ None ↦ cond (c.leaving && (c.pending || better)) (suc most) most | Some u ↦ cond (not c.leaving && is_secure runs t home scheduler r u) (ahead scheduler.records u) (suc most) ]
        ≡ elim cur as (λ _. ℕ) [ None ↦ cond (c.leaving && c.pending) (suc most) most | Some u ↦ cond (not c.leaving && is_secure runs t home scheduler r u) (ahead scheduler.records u) (suc most) ]
    by_cur None is = chances_again c.leaving (c.pending || better) c.pending (suc most) most is
    by_cur (Some u) is = refl

-- nor of what is left to a core of a pool whose cores are looked at
pub turns_settled : (m : Machine) (t : ℕ) (pool : Pool) (r : ℕ) → turns_in m t (settled_pool t pool) r ≡ turns_in m t pool r
turns_settled m t pool r =
    let home : ℕ = pool_core_set pool in
    let f : ℕ → Resource → Resource = reconsidered_core t home pool.scheduler in
    let at : at_place (change_each 0 f pool.resources) r ≡ option_map (f r) (at_place pool.resources r) = (let e : 0 + r ≡ r = omega arith in rw e at (at_place-change_each 0 r f pool.resources)) in
    ap (λ h. elim (at_place (change_each 0 f pool.resources) r) as (λ _. ℕ) [ None ↦ 0 | Some c ↦ turns m.config.granularity (weight_of m) (units m) (may_unit_run m.config.granularity pool) t h pool.scheduler r c ]) (cores_from-change_each 0 0 f pool.resources)
    ∙ ap (λ (o : Option Resource). elim o as (λ _. ℕ) [ None ↦ 0 | Some c ↦ turns m.config.granularity (weight_of m) (units m) (may_unit_run m.config.granularity pool) t home pool.scheduler r c ]) at
    ∙ by_core (at_place pool.resources r)
  where
    by_core : (o : Option Resource) → elim (option_map (reconsidered_core t (pool_core_set pool) pool.scheduler r) o) as (λ _. ℕ) [ None ↦ 0 | Some c ↦ turns m.config.granularity (weight_of m) (units m) (may_unit_run m.config.granularity pool) t (pool_core_set pool) pool.scheduler r c ]
        ≡ elim o as (λ _. ℕ) [ None ↦ 0 | Some c ↦ turns m.config.granularity (weight_of m) (units m) (may_unit_run m.config.granularity pool) t (pool_core_set pool) pool.scheduler r c ]
    by_core None = refl
    by_core (Some c) = turns_reconsidered m.config.granularity (weight_of m) (units m) t (pool_core_set pool) (may_unit_run m.config.granularity pool) pool.scheduler r c
