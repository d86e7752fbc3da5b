-- Who does an event of a pool that may come: some actor does, and the pool has it.
use Rattle.std.proofs.lemmas.Bool.{eq-eqb, eqb-true}
use Rattle.std.proofs.Common.{◌≡◌, ◌∙◌, ◌*◌, ◌/◌, ℕ, Bool, true, false, refl, arith, ap, sym, subst}
use Rattle.std.specs.Prelude.{◌==◌, Option, Some, None, is_some, ◌&&◌, ◌||◌}
use Rattle.sched_base.specs.declared.DomId.{DomId}
use Rattle.sched_base.specs.declared.ProcId.{ProcId}
use Rattle.sched_base.specs.Numbers.{has_moment_come, processor}
use Rattle.sched_base.proofs.Bools.{and_right}
use Rattle.sched_model.specs.declared.action.Action.{Action}
use Rattle.sched_model.specs.declared.action.Action.TheVariants.{Wake, Block, Slice, Repl, Refill, Arrive, Decide, Leave, Save}
use Rattle.sched_model.specs.declared.action.Actor.{Actor}
use Rattle.sched_model.specs.declared.action.Actor.TheVariants.{Proc, Dom, Tool}
use Rattle.sched_model.specs.declared.state.Pool.{Pool}
use Rattle.sched_model.specs.declared.state.Resource.{Resource}
use Rattle.sched_model.specs.Actions.{IsOfPool}
use Rattle.sched_model.specs.CheckedMachine.{IsGranularity}
use Rattle.sched_model.specs.Places.{at_place, first_place, has_listed_unit, test_at}
use Rattle.sched_model.specs.Policy.{is_replenish_due, next_refill_moment}
use Rattle.sched_model.specs.Pool.{enabled_in, is_first_processor_up, is_lowest_processor_up, unit_core}
use Rattle.sched_laws.proofs.EachPlace.{found_at}
use Rattle.sched_laws.proofs.Granularity.{by_granularity}
use Rattle.sched_laws.proofs.Lists.{is_some_at}
use Rattle.pool_laws.specs.Actors.{ComesFirstBy, IsFirstBy, is_by, is_by_domain, is_by_processor, is_lowest, leads}
use Rattle.pool_laws.specs.FirstEvents.{IsFirst, IsFirstEnabled}
use Rattle.composition_laws.specs.Actors.{has_actor}
use Rattle.composition_laws.proofs.Subjects.{HasCore, has_subject}
use Rattle.hall.specs.Holds.{IsOfSomePool}

-- the core of a core's first processor
core-of-first : (g r : ℕ) → IsGranularity g → r * g / g ≡ r
core-of-first g r of = by_granularity (λ (n : ℕ). r * n / n ≡ r) g of (omega arith) (omega arith) (omega arith)

-- an actor of the pool that does the event there
pub record HasDoer (g : ℕ) (pool : Pool) (event : Action) : Type 0 where
  pub actor : Actor
  pub some : IsOfSomePool actor
  pub has : has_actor g pool actor ≡ true
  pub by : is_by g pool actor event ≡ true

module _ (g t : ℕ) (of : IsGranularity g) (pool : Pool) where
  -- the processor does it itself, or the first of the core
  by-itself : (p : ℕ) (event : Action) → HasCore g t pool (p / g) → is_by_processor g pool p event ≡ true → HasDoer g pool event
  by-itself p event core by = record { actor = Proc (processor p); some = tt; has = is_some_at (at_place pool.resources (p / g)) core.0 core.1; by = by }

  by-first : (r : ℕ) (event : Action) → HasCore g t pool r → is_by_processor g pool (r * g) event ≡ true → HasDoer g pool event
  by-first r event core by = by-itself (r * g) event (core.0, subst (λ (k : ℕ). at_place pool.resources k ≡ Some core.0) (sym (core-of-first g r of)) core.1) by

  -- or the pool's lowest
  by-lowest : (event : Action) → is_lowest_processor_up t pool ≡ true → ((p : ℕ) → is_lowest g pool p ≡ true → is_by_processor g pool p event ≡ true) → HasDoer g pool event
  by-lowest event up by = by-place (first_place 0 (λ (c : Resource). true) pool.resources) refl up
    where
      by-place : (o : Option ℕ) → first_place 0 (λ (c : Resource). true) pool.resources ≡ o → elim o as (λ _. Bool) [ None ↦ false | Some r ↦ test_at pool.resources r (is_first_processor_up t) ] ≡ true → HasDoer g pool event
      by-place None is e = absurd (cc)
      by-place (Some r) is e =
          let f = found_at r (λ (c : Resource). true) pool.resources is in
          let lowest : is_lowest g pool (r * g) ≡ true = subst (λ (o : Option ℕ). elim o as (λ _. Bool) [ None ↦ false | Some k ↦ leads g k (r * g) ] ≡ true) (sym is) (eq-eqb (r * g) (r * g) refl) in
          by-first r event (f.0, f.1) (by (r * g) lowest)

  pub doer : (event : Action) → IsOfPool event → enabled_in g t pool event ≡ true → HasDoer g pool event
  doer (Wake v) own on =
      let h = has_subject g t pool (Wake v) on in
      record { actor = Dom v.dom; some = tt; has = is_some_at (at_place pool.domains v.dom.0) h.0 h.1; by = eq-eqb v.dom.0 v.dom.0 refl }
  doer (Block p) own on = by-itself p.0 (Block p) (has_subject g t pool (Block p) on) (eq-eqb p.0 p.0 refl)
  doer (Slice r) own on = by-first r.0 (Slice r) (has_subject g t pool (Slice r) on) (eq-eqb (r.0 * g) (r.0 * g) refl)
  doer (Repl u) own on =
      by-lowest (Repl u) (and_right ((has_listed_unit pool.scheduler.queue u || is_some (unit_core pool u)) && is_replenish_due pool.scheduler.records t u) (is_lowest_processor_up t pool) on) (λ p lowest. lowest)
  doer (Refill d) own on = by-lowest (Refill d) (and_right (has_moment_come t (next_refill_moment pool.scheduler.records d.0)) (is_lowest_processor_up t pool) on) (λ p lowest. lowest)
  doer (Arrive p) own on = by-itself p.0 (Arrive p) (has_subject g t pool (Arrive p) on) (eq-eqb p.0 p.0 refl)
  doer (Decide r) own on = by-first r.0 (Decide r) (has_subject g t pool (Decide r) on) (eq-eqb (r.0 * g) (r.0 * g) refl)
  doer (Leave p) own on = by-itself p.0 (Leave p) (has_subject g t pool (Leave p) on) (eq-eqb p.0 p.0 refl)
  doer (Save r) own on = by-first r.0 (Save r) (has_subject g t pool (Save r) on) (eq-eqb (r.0 * g) (r.0 * g) refl)
  doer event own on = absurd own

  -- the pool has the core of a processor, if it is the core that is there
  of-core : (p r : ℕ) → p / g ≡ r → HasCore g t pool r → is_some (at_place pool.resources (p / g)) ≡ true
  of-core p r is core = subst (λ (k : ℕ). is_some (at_place pool.resources k) ≡ true) (sym is) (is_some_at (at_place pool.resources r) core.0 core.1)

  of-itself : (p q : ℕ) → (p == q) ≡ true → HasCore g t pool (q / g) → is_some (at_place pool.resources (p / g)) ≡ true
  of-itself p q is core = of-core p (q / g) (ap (λ (k : ℕ). k / g) (eqb-true p q is)) core

  of-leader : (p r : ℕ) → leads g r p ≡ true → HasCore g t pool r → is_some (at_place pool.resources (p / g)) ≡ true
  of-leader p r is core = of-core p r (ap (λ (k : ℕ). k / g) (eqb-true p (r * g) is) ∙ core-of-first g r of) core

  of-lowest : (p : ℕ) → is_lowest g pool p ≡ true → is_some (at_place pool.resources (p / g)) ≡ true
  of-lowest p is = by-place (first_place 0 (λ (c : Resource). true) pool.resources) refl is
    where
      by-place : (o : Option ℕ) → first_place 0 (λ (c : Resource). true) pool.resources ≡ o → elim o as (λ _. Bool) [ None ↦ false | Some r ↦ leads g r p ] ≡ true → is_some (at_place pool.resources (p / g)) ≡ true
      by-place None at e = absurd (cc)
      by-place (Some r) at e = (let f = found_at r (λ (c : Resource). true) pool.resources at in of-leader p r e (f.0, f.1))

  has-processor : (p : ProcId) (event : Action) → enabled_in g t pool event ≡ true → is_by_processor g pool p.0 event ≡ true → has_actor g pool (Proc p) ≡ true
  has-processor p (Block q) on by = of-itself p.0 q.0 by (has_subject g t pool (Block q) on)
  has-processor p (Slice r) on by = of-leader p.0 r.0 by (has_subject g t pool (Slice r) on)
  has-processor p (Repl u) on by = of-lowest p.0 by
  has-processor p (Refill d) on by = of-lowest p.0 by
  has-processor p (Arrive q) on by = of-itself p.0 q.0 by (has_subject g t pool (Arrive q) on)
  has-processor p (Decide r) on by = of-leader p.0 r.0 by (has_subject g t pool (Decide r) on)
  has-processor p (Leave q) on by = of-itself p.0 q.0 by (has_subject g t pool (Leave q) on)
  has-processor p (Save r) on by = of-leader p.0 r.0 by (has_subject g t pool (Save r) on)
  has-processor p event on by = absurd (cc)

  has-domain : (d : DomId) (event : Action) → enabled_in g t pool event ≡ true → is_by_domain d.0 event ≡ true → has_actor g pool (Dom d) ≡ true
  has-domain d (Wake v) on by =
      let h = has_subject g t pool (Wake v) on in
      subst (λ (k : ℕ). is_some (at_place pool.domains k) ≡ true) (eqb-true v.dom.0 d.0 by) (is_some_at (at_place pool.domains v.dom.0) h.0 h.1)
  has-domain d event on by = absurd (cc)

  -- whoever does an event that may come in the pool, the pool has
  pub has-doer : (event : Action) (actor : Actor) → enabled_in g t pool event ≡ true → is_by g pool actor event ≡ true → has_actor g pool actor ≡ true
  has-doer event (Proc p) on by = has-processor p event on by
  has-doer event (Dom d) on by = has-domain d event on by
  has-doer event Tool on by = absurd (cc)

  -- what comes first in the pool comes first of all that its actor does there
  pub first-by : (event : Action) (actor : Actor) → IsFirst g t pool event → is_by g pool actor event ≡ true → ComesFirstBy g t pool actor event
  first-by event actor first by = record { of_pool = first.of_pool; own = by; enabled = first.enabled; first = λ action own mine on. first.first action own on }

  -- and where nothing may come, nothing of any actor may
  pub none-by : (actor : Actor) → IsFirstEnabled g t pool None → IsFirstBy g t pool actor None
  none-by actor none = λ action own mine. none action own
