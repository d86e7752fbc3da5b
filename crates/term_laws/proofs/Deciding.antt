-- A core decides: what its entry tells, and the decision in its pool.
use Rattle.std.proofs.Common.{◌≡◌, ◌≢◌, ℕ, Bool, true, refl, ap, sym, ◌∙◌, cond}
use Rattle.std.specs.Prelude.{Option, Some, None, ◌&&◌}
use Rattle.std.specs.List.{list_all}
use Rattle.std.proofs.lemmas.Bool.{eq-eqb, ne_eqb}
use Rattle.sched_base.specs.Numbers.{span, core as core_number}
use Rattle.sched_base.specs.declared.Span.{Span}
use Rattle.sched_base.specs.declared.UnitId.{UnitId}
use Rattle.sched_model.specs.declared.action.Action.TheVariants.{Decide}
use Rattle.sched_model.specs.declared.ask.Ask.{Ask}
use Rattle.sched_model.specs.declared.machine.Machine.{Machine}
use Rattle.sched_model.specs.declared.state.State.{State}
use Rattle.sched_model.specs.declared.state.Pool.{Pool}
use Rattle.sched_model.specs.declared.state.Resource.{Resource}
use Rattle.sched_model.specs.declared.state.Scheduler.{Scheduler}
use Rattle.sched_model.specs.Places.{at_place}
use Rattle.sched_model.specs.EligibleUnits.{Decision}
use Rattle.sched_model.specs.Policy.{decision_of, records_kind}
use Rattle.sched_model.specs.Pool.{after_in, after_decide, core_ask, decision_at, lateness, is_held_back, is_gathering, is_first_processor_up}
use Rattle.sched_model.specs.Machine.{is_action_enabled, home_pool, event_of}
use Rattle.sched_laws.proofs.Lists.{some-test_at}
use Rattle.sched_laws.proofs.Records.{same_decision}
use Rattle.term_laws.specs.Term.{late_of}
use Rattle.term_laws.proofs.Same.{cur_in}
use Rattle.term_laws.proofs.ActsIn.{ActsIn, acts_in}

-- the core with a unit
pub cur_core : (o : Option Resource) (u : UnitId) → cur_in o ≡ Some u → (c : Resource) × (o ≡ Some c) × (c.cur ≡ Some u)
cur_core None u is = absurd (cc)
cur_core (Some c) u is = (c, refl, is)

-- the kind of the records stays the same at a decision
pub kind_decided : (ask : Ask) (scheduler : Scheduler) → records_kind (decision_of ask scheduler).records ≡ records_kind scheduler.records
kind_decided ask scheduler = same_decision records_kind (λ a b. refl) (λ a b. refl) (λ a b. refl) scheduler.records ask scheduler refl

-- a decision
pub record Decides (m : Machine) (s : State) (t n : ℕ) : Type 0 where
  pub acts : ActsIn m s t (Decide (core_number n))
  pub core : Resource
  pub has : at_place acts.pool.resources n ≡ Some core
  pub next : after_in m.config.granularity t acts.pool (Decide (core_number n)) ≡ after_decide m.config.granularity t n core acts.pool
  pub unit : decision_of (core_ask m.config.granularity t acts.pool n core) acts.pool.scheduler ≡ decision_at m.config.granularity t (home_pool m s (Decide (core_number n))) n
  pub late : late_of n (event_of m s t (Decide (core_number n))) ≡ Some (lateness t core)

pub decides : (m : Machine) (s : State) (t n : ℕ) → is_action_enabled m s t (Decide (core_number n)) ≡ true → Decides m s t n
decides m s t n on =
    let g = m.config.granularity in
    let a = acts_in m s t (Decide (core_number n)) on in
    let x = some-test_at a.pool.resources n (λ c. list_all is_held_back c.processors && is_gathering c && is_first_processor_up t c) a.enabled in
    let there : at_place (home_pool m s (Decide (core_number n))).resources n ≡ Some x.0 = ap (λ (p : Pool). at_place p.resources n) a.pool_is ∙ x.1 in
    record {
      acts = a;
      core = x.0;
      has = x.1;
      next = ap (λ (o : Option Resource). elim o as (λ _. Pool) [ None ↦ a.pool | Some c ↦ after_decide g t n c a.pool ]) x.1;
      unit = sym (ap (λ (p : Pool). decision_at g t p n) a.pool_is ∙ ap (λ (o : Option Resource). elim o as (λ _. Decision) [ None ↦ record { unit = None; due = None; reset = 0; records = a.pool.scheduler.records } | Some c ↦ decision_of (core_ask g t a.pool n c) a.pool.scheduler ]) x.1);
      late = ap (λ (b : Bool). cond b (Some (elim (at_place (home_pool m s (Decide (core_number n))).resources n) as (λ _. Span) [ None ↦ span 0 | Some c ↦ span (lateness t c) ]).0) None) (eq-eqb n n refl)
          ∙ ap (λ (o : Option Resource). Some (elim o as (λ _. Span) [ None ↦ span 0 | Some c ↦ span (lateness t c) ]).0) there;
    }

pub late_other : (m : Machine) (s : State) (t n r : ℕ) → n ≢ r → late_of r (event_of m s t (Decide (core_number n))) ≡ None
late_other m s t n r ne = ap (λ (b : Bool). cond b (Some (elim (at_place (home_pool m s (Decide (core_number n))).resources n) as (λ _. Span) [ None ↦ span 0 | Some c ↦ span (lateness t c) ]).0) None) (ne_eqb n r ne)
