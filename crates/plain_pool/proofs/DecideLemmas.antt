-- What was decided, as the definition has it.
use Rattle.sched_base.specs.Numbers.{core}
use Rattle.std.proofs.Common.{◌≡◌, ◌∙◌, ℕ, List, refl, sym, ap, subst}
use Rattle.std.specs.Prelude.{Option, Some, None, slice_set, option_map}
use Rattle.sched_model.specs.declared.ask.Ask.{Ask}
use Rattle.sched_model.specs.declared.state.Resource.{Resource}
use Rattle.sched_model.specs.declared.state.Scheduler.{Scheduler}
use Rattle.sched_model.specs.declared.state.Pool.{Pool}
use Rattle.sched_model.specs.declared.action.Action.TheVariants.{Decide}
use Rattle.sched_model.specs.Places.{at_place, change_at}
use Rattle.sched_model.specs.EligibleUnits.{Decision}
use Rattle.sched_model.specs.Policy.{decision_of, after_decision}
use Rattle.sched_model.specs.Pool.{after_in, after_decide, core_ask, decided_core}
use Rattle.plain_schedulers.specs.Tells.{Tells}
use Rattle.plain_pool.specs.Decisions.{decided_by}
use Rattle.plain_schedulers.specs.declared.decided.Decided.{Decided}

-- the core, by the answer and by the decision
decided_by-decided : (t : ℕ) (answer : Decided) (decision : Decision) (c : Resource) → Tells answer decision → decided_by t answer c ≡ decided_core t decision c
decided_by-decided t answer decision c tells = rw (tells.unit, tells.due) refl

-- the pool after the decision of the core that is there
deciding : (g t r : ℕ) (pool : Pool) (c : Resource) (answer : Decided)
    → at_place pool.resources r ≡ Some c
    → Tells answer (decision_of (core_ask g t pool r c) pool.scheduler)
    → let decision : Decision = decision_of (core_ask g t pool r c) pool.scheduler in
    let next : Pool = record pool { scheduler = after_decision decision pool.scheduler; resources = change_at r (decided_by t answer) pool.resources } in
    next ≡ after_in g t pool (Decide (core r))
deciding g t r pool c answer there tells =
    let decision : Decision = decision_of (core_ask g t pool r c) pool.scheduler in
    let with : Option Resource → Pool = λ o. record pool { scheduler = after_decision decision pool.scheduler; resources = slice_set pool.resources r o } in
    let here : option_map (decided_by t answer) (at_place pool.resources r) ≡ Some (decided_core t decision c) =
    ap (option_map (decided_by t answer)) there ∙ ap (λ (x : Resource). Some x) (decided_by-decided t answer decision c tells) in
    let definition : after_in g t pool (Decide (core r)) ≡ after_decide g t r c pool =
    ap (λ (o : Option Resource). elim o [ None ↦ pool | Some x ↦ after_decide g t r x pool ]) there in
    ap with here ∙ sym definition

-- the same, of the parts that the code leaves
pub decide-parts : (g t r : ℕ) (pool : Pool) (c : Resource) (answer : Decided) (ask : Ask) (scheduler : Scheduler) (cores : List (Option Resource))
    → Some c ≡ at_place pool.resources r
    → ask ≡ core_ask g t pool r c
    → Tells answer (decision_of ask pool.scheduler)
    → scheduler ≡ after_decision (decision_of ask pool.scheduler) pool.scheduler
    → cores ≡ change_at r (decided_by t answer) pool.resources
    → let next : Pool = record { scheduler = scheduler; domains = pool.domains; resources = cores } in next ≡ after_in g t pool (Decide (core r))
decide-parts g t r pool c answer ask scheduler cores there asked tells left_scheduler left_cores =
    let told : Tells answer (decision_of (core_ask g t pool r c) pool.scheduler) = subst (λ a. Tells answer (decision_of a pool.scheduler)) asked tells in
    let same : scheduler ≡ after_decision (decision_of (core_ask g t pool r c) pool.scheduler) pool.scheduler = left_scheduler ∙ ap (λ a. after_decision (decision_of a pool.scheduler) pool.scheduler) asked in
    let with_scheduler : Scheduler → Pool = λ s. record { scheduler = s; domains = pool.domains; resources = cores } in
    let with_cores : List (Option Resource) → Pool = λ cs. record { scheduler = after_decision (decision_of (core_ask g t pool r c) pool.scheduler) pool.scheduler; domains = pool.domains; resources = cs } in
    ap with_scheduler same ∙ ap with_cores left_cores ∙ deciding g t r pool c answer (sym there) told
