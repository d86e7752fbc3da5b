-- A pool in which one core is changed: what is left to it falls, if what is left to the others grows by no more than the core's fall pays for.
use Rattle.std.proofs.Common.{◌≡◌, ◌≢◌, ◌≤◌, ◌+◌, ◌*◌, ℕ, suc, Bool, not, List, refl, arith, ap, cond, subst, sym, ◌∙◌}
use Rattle.std.specs.Prelude.{Option, Some, None, is_some, ◌&&◌, option_map}
use Rattle.std.proofs.Math.Decide.{ℕ_discrete}
use Rattle.sched_base.specs.declared.UnitId.{UnitId}
use Rattle.sched_model.specs.declared.machine.Machine.{Machine}
use Rattle.sched_model.specs.declared.state.Pool.{Pool}
use Rattle.sched_model.specs.declared.state.Domain.{Domain}
use Rattle.sched_model.specs.declared.state.Resource.{Resource}
use Rattle.sched_model.specs.declared.state.Scheduler.{Scheduler}
use Rattle.sched_model.specs.Places.{at_place, change_at}
use Rattle.sched_model.specs.State.{may_unit_run, runnable_among}
use Rattle.sched_model.specs.EligibleUnits.{is_unit_allowed}
use Rattle.sched_model.specs.Pool.{pool_core_set, settled_pool, reconsidered_core}
use Rattle.sched_model.proofs.PlaceLemmas.{is_some-option_map, cores_from-change_at}
pub use Rattle.sched_model.proofs.PlaceLemmas.{at_place-change_at_other}
use Rattle.sched_laws.proofs.EachPlace.{at_place-change_each}
pub use Rattle.sched_laws.proofs.EachPlace.{at_place-change_at}
use Rattle.moment_laws.specs.Stretches.{cores, units}
use Rattle.moment_laws.specs.Turns.{turns, turns_in, weight_of, meeting, is_stirred, is_secure, keeps, ahead}
use Rattle.sched_base.specs.Numbers.{one_if}
use Rattle.moment_laws.proofs.Sums.{many}
use Rattle.moment_laws.proofs.Looking.{turns_settled}

-- the same units run
pub turns_runs : (g weight most t home : ℕ) (runs runs2 : UnitId → Bool) (scheduler : Scheduler) (r : ℕ) (c : Resource) → ((u : UnitId) → runs2 u ≡ runs u) → turns g weight most runs2 t home scheduler r c ≡ turns g weight most runs t home scheduler r c
turns_runs g weight most t home runs runs2 scheduler r c same =
    ap (λ k. weight * (k + k + one_if (is_some c.saving)) + meeting g (is_stirred t home scheduler r c) c) (by_cur c.cur)
  where
    by_cur : (cur : Option UnitId)
        → elim cur as (λ _. ℕ) [ None ↦ cond (c.leaving && c.pending) (suc most) most | Some u ↦ cond (not c.leaving && is_secure runs2 t home scheduler r u) (ahead scheduler.records u) (suc most) ]
        ≡ elim cur as (λ _. ℕ) [ None ↦ cond (c.leaving && c.pending) (suc most) most | Some u ↦ cond (not c.leaving && is_secure runs t home scheduler r u) (ahead scheduler.records u) (suc most) ]
    by_cur None = refl
    by_cur (Some u) = ap (λ b. cond (not c.leaving && (b && is_unit_allowed scheduler home r u && keeps scheduler.records scheduler home r t u)) (ahead scheduler.records u) (suc most)) (same u)

-- what is left to the pool's core r falls, and what is left to each other core grows by b at most; the fall pays for all
pub record Falls (m : Machine) (t : ℕ) (pool next : Pool) (r : ℕ) : Type 0 where
  pub b : ℕ
  pub places : (k : ℕ) → is_some (at_place next.resources k) ≡ is_some (at_place pool.resources k)
  pub own : turns_in m t next r + (many (cores m) b + 1) ≤ turns_in m t pool r + b
  pub others : (k : ℕ) → k ≢ r → turns_in m t next k ≤ turns_in m t pool k + b

-- looking at the cores changes nothing of it
pub falls_settled : (m : Machine) (t : ℕ) (pool next : Pool) (r : ℕ) → Falls m t pool next r → Falls m t pool (settled_pool t next) r
falls_settled m t pool next r fall = record {
  b = fall.b;
  places = λ k. settled_places (at_place next.resources k) k refl ∙ fall.places k;
  own = rw (turns_settled m t next r) fall.own;
  others = λ k other. rw (turns_settled m t next k) (fall.others k other);
}
  where
    settled_places : (o : Option Resource) (k : ℕ) → at_place next.resources k ≡ o → is_some (at_place (settled_pool t next).resources k) ≡ is_some (at_place next.resources k)
    settled_places o k is =
        let e : 0 + k ≡ k = omega arith in
        let a = at_place-change_each 0 k (reconsidered_core t (pool_core_set next) next.scheduler) next.resources in
        ap is_some a ∙ is_some-option_map (reconsidered_core t (pool_core_set next) next.scheduler (0 + k)) (at_place next.resources k)

module _ (m : Machine) (t : ℕ) (pool : Pool) where
  -- what is left to a core of the pool under a scheduler
  abbrev pub under : Scheduler → ℕ → Resource → ℕ
  under scheduler r c = turns m.config.granularity (weight_of m) (units m) (may_unit_run m.config.granularity pool) t (pool_core_set pool) scheduler r c

  pub turns_is : (k : ℕ) (x : Resource) → at_place pool.resources k ≡ Some x → turns_in m t pool k ≡ under pool.scheduler k x
  turns_is k x at = ap (λ (o : Option Resource). elim o as (λ _. ℕ) [ None ↦ 0 | Some y ↦ under pool.scheduler k y ]) at

  -- one core is changed, and perhaps the scheduler, and what is known of domains in which the same units are runnable
  pub changed : (scheduler : Scheduler) (domains : List (Option Domain)) (r b : ℕ) (h : Resource → Resource) (c : Resource) → at_place pool.resources r ≡ Some c
      → ((u : UnitId) → runnable_among m.config.granularity domains u ≡ may_unit_run m.config.granularity pool u)
      → under scheduler r (h c) + (many (cores m) b + 1) ≤ under pool.scheduler r c + b
      → ((k : ℕ) (x : Resource) → k ≢ r → at_place pool.resources k ≡ Some x → under scheduler k x ≤ under pool.scheduler k x + b)
      → Falls m t pool (record { scheduler = scheduler; domains = domains; resources = change_at r h pool.resources }) r
  changed scheduler domains r b h c at same own others =
      let next : Pool = record { scheduler = scheduler; domains = domains; resources = change_at r h pool.resources } in
      let g : ℕ = m.config.granularity in
      let home : pool_core_set next ≡ pool_core_set pool = cores_from-change_at 0 r h pool.resources in
      let to : (k : ℕ) (o : Option Resource) → at_place next.resources k ≡ o → turns_in m t next k ≡ elim o as (λ _. ℕ) [ None ↦ 0 | Some x ↦ under scheduler k x ] = λ k o e.
      ap (λ (p : Option Resource). elim p as (λ _. ℕ) [ None ↦ 0 | Some x ↦ turns g (weight_of m) (units m) (may_unit_run g next) t (pool_core_set next) scheduler k x ]) e
      ∙ ap (λ (n : ℕ). elim o as (λ _. ℕ) [ None ↦ 0 | Some x ↦ turns g (weight_of m) (units m) (may_unit_run g next) t n scheduler k x ]) home
      ∙ by_core k o next same in
      record {
        b = b;
        places = λ k. elim (ℕ_discrete k r) [
          | yes e ↦ subst (λ j. is_some (at_place next.resources j) ≡ is_some (at_place pool.resources j)) (sym e) (ap is_some (at_place-change_at r h pool.resources) ∙ is_some-option_map h (at_place pool.resources r))
          | no other ↦ ap is_some (at_place-change_at_other r k h pool.resources other)
        ];
        own = (let new = to r (Some (h c)) (at_place-change_at r h pool.resources ∙ ap (option_map h) at) in let old = turns_is r c at in omega (arith, new, old, own));
        others = λ k other. by_other k other (at_place pool.resources k) refl next (to k (at_place pool.resources k) (at_place-change_at_other r k h pool.resources other));
      }
    where
      by_core : (k : ℕ) (o : Option Resource) (next : Pool) → ((u : UnitId) → may_unit_run m.config.granularity next u ≡ may_unit_run m.config.granularity pool u)
          → elim o as (λ _. ℕ) [ None ↦ 0 | Some x ↦ turns m.config.granularity (weight_of m) (units m) (may_unit_run m.config.granularity next) t (pool_core_set pool) scheduler k x ] ≡ elim o as (λ _. ℕ) [ None ↦ 0 | Some x ↦ under scheduler k x ]
      by_core k None next same = refl
      by_core k (Some x) next same = turns_runs m.config.granularity (weight_of m) (units m) t (pool_core_set pool) (may_unit_run m.config.granularity pool) (may_unit_run m.config.granularity next) scheduler k x same

      by_other : (k : ℕ) → k ≢ r → (o : Option Resource) → at_place pool.resources k ≡ o → (next : Pool) → turns_in m t next k ≡ elim o as (λ _. ℕ) [ None ↦ 0 | Some x ↦ under scheduler k x ] → turns_in m t next k ≤ turns_in m t pool k + b
      by_other k other None is next e = rw (e) (omega arith)
      by_other k other (Some x) is next e = (let o = others k x other is in let old = turns_is k x is in omega (arith, o, e, old))
