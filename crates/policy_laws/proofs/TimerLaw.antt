-- What the timer at a moment is, said by timer.
use Rattle.std.proofs.Common.{◌≡◌, ◌≤◌, ℕ, List, [], refl, subst, sym, ◌⊎◌, inl, inr}
use Rattle.std.specs.Prelude.{Some, None}
use Rattle.std.specs.List.{AllByRecursion}
use Rattle.sched_base.specs.declared.Moment.{Moment}
use Rattle.sched_model.specs.declared.state.Scheduler.{Scheduler}
use Rattle.sched_ops.specs.declared.timer.Timer.{Timer}
use Rattle.sched_ops.specs.Timers.{Armed, timers, next_scheduler_timer}
use Rattle.policy_laws.specs.TimerOrder.{armed_at, IsNotAfter}
use Rattle.policy_laws.proofs.Scan.{next_none, next_one, next_first, next_least}
use Rattle.policy_laws.proofs.Listed.{to_list, of_list}
use Rattle.policy_laws.proofs.Order.{in_order}

module _ (t : ℕ) (scheduler : Scheduler) where
  pub none : next_scheduler_timer t scheduler ≡ None → (timer : Timer) → armed_at scheduler timer ≡ None
  none is timer =
      let empty : timers scheduler ≡ [] = next_none t (timers scheduler) is in
      let nothing : AllByRecursion (λ (e : Armed). ⊥) (timers scheduler) = subst (λ (xs : List Armed). AllByRecursion (λ (e : Armed). ⊥) xs) (sym empty) tt in
      elim (armed_at scheduler timer) as (λ o. armed_at scheduler timer ≡ o → o ≡ None) [
        | None ↦ λ e. refl
        | Some at ↦ λ e. absurd (of_list (λ (x : Armed). ⊥) scheduler nothing timer at e)
      ] refl

  module _ (x : Armed) where
    pub armed : next_scheduler_timer t scheduler ≡ Some x → armed_at scheduler x.1 ≡ Some x.0
    armed is =
        let IsArmed : Armed → Type 0 = λ e. armed_at scheduler e.1 ≡ Some e.0 in
        next_one t IsArmed (timers scheduler) x (to_list IsArmed scheduler (λ timer at e. e)) is

    pub first : next_scheduler_timer t scheduler ≡ Some x → (other : Timer) (at : Moment) → armed_at scheduler other ≡ Some at → at.0 ≤ t → (x.0.0 ≤ t) × IsNotAfter x.1 other
    first is other at has come = of_list (λ (e : Armed). e.0.0 ≤ t → (x.0.0 ≤ t) × IsNotAfter x.1 e.1) scheduler (next_first t (timers scheduler) x (in_order scheduler) is) other at has come

    pub least : next_scheduler_timer t scheduler ≡ Some x → (other : Timer) (at : Moment) → armed_at scheduler other ≡ Some at → (x.0.0 ≤ t) ⊎ (x.0.0 ≤ at.0)
    least is other at has =
        elim (next_least t (timers scheduler) x is) [
          | inl come ↦ inl come
          | inr each ↦ inr (of_list (λ (e : Armed). x.0.0 ≤ e.0.0) scheduler each other at has)
        ]
