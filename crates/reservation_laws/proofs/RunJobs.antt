-- What each entry of a run does to a unit of an RTDS pool of one core, on an undisturbed machine whose reservations fit.
use Rattle.std.proofs.Common.{◌≡◌, ◌≤◌, ◌+◌, ◌-◌, ℕ, Bool, true, false, List, [], ◌∷◌, ◌++◌, ◌⊎◌, refl, arith, cond, subst, sym, ◌∙◌, ap}
use Rattle.std.specs.Prelude.{Option, Some, None, option_map, ◌==◌}
use Rattle.sched_base.specs.Numbers.{moment, span, core as core_number}
use Rattle.sched_base.specs.declared.Moment.{Moment}
use Rattle.sched_base.specs.declared.UnitId.{UnitId}
use Rattle.sched_model.specs.declared.action.Action.{Action}
use Rattle.sched_model.specs.declared.action.Action.TheVariants.{Repl, Decide}
use Rattle.sched_model.specs.declared.event.Entry.{Entry}
use Rattle.sched_model.specs.declared.event.Event.{Event}
use Rattle.sched_model.specs.declared.event.Event.TheVariants as event
use Rattle.sched_model.specs.declared.machine.Machine.{Machine}
use Rattle.sched_model.specs.declared.state.Pool.{Pool}
use Rattle.sched_model.specs.declared.state.Resource.{Resource}
use Rattle.sched_model.specs.declared.state.RtdsUnit.{RtdsUnit}
use Rattle.sched_model.specs.declared.state.State.{State}
use Rattle.sched_model.specs.Actions.{IsOfPool, change_pool, home_pool_of_action}
use Rattle.sched_model.specs.EligibleUnits.{Decision, rtds_unit_at}
use Rattle.sched_model.specs.Machine.{after}
use Rattle.sched_model.specs.Places.{at_place, is_unit}
use Rattle.sched_model.specs.Policy.{decision_of, records_after_replenish, unit_rtds_record}
use Rattle.sched_model.specs.Pool.{after_decide, after_in, decided_core, decision_at, core_ask, reconsidered_core, settled_pool, pool_core_set, unit_core, with_records}
use Rattle.sched_model.specs.Runs.{Reached, IsNext, IsRun, after_entries, after_entry, event_action, run_start}
use Rattle.sched_model.proofs.RunLemmas.{IsRunFrom-append, after_entries-append}
use Rattle.sched_laws.proofs.EachPlace.{at_place-change_at, at_place-put_at, by_cond, by_option, place_below, read_change_each}
use Rattle.sched_laws.proofs.OnePlace.{decided_cur}
use Rattle.term_laws.specs.Term.{late_of}
use Rattle.term_laws.specs.RtdsTerm.{taken_by}
use Rattle.term_laws.proofs.UnitTracks.{renews}
use Rattle.service_laws.specs.Demand.{Job}
use Rattle.undisturbed_laws.proofs.Runs.{after_pool}
use Rattle.undisturbed_laws.specs.Undisturbed.{IsAtHome}
use Rattle.reservation_laws.proofs.Jobs.{first_left, job, since}
use Rattle.reservation_laws.proofs.StateJobs.{At}
use Rattle.reservation_laws.proofs.Tracks.{Watch, face}

-- a run leads there
pub record IsReachedBy (m : Machine) (f : Reached) : Type 0 where
  pub before : List Entry
  pub run : IsRun m before
  pub leads : after_entries m (run_start m) before ≡ f

pub reached_more : (m : Machine) (f : Reached) (e : Entry) → IsReachedBy m f → IsNext m f e → IsReachedBy m (after_entry m f e)
reached_more m f e here next = record {
  before = here.before ++ e ∷ [];
  run = IsRunFrom-append m (run_start m) here.before e here.run (subst (λ (x : Reached). IsNext m x e) (sym here.leads) next);
  leads = after_entries-append m (run_start m) here.before e ∙ ap (λ (x : Reached). after_entry m x e) here.leads;
}

-- an event without an action is no decision and no replenishment
pub quiet_late : (r : ℕ) (e : Event) → event_action e ≡ None → late_of r e ≡ None
quiet_late r (event.End n) is = refl
quiet_late r event.Finish is = refl
quiet_late r e is = absurd (cc)

pub quiet_renews : (u : UnitId) (e : Event) → event_action e ≡ None → renews u e ≡ false
quiet_renews u (event.End n) is = refl
quiet_renews u event.Finish is = refl
quiet_renews u e is = absurd (cc)

-- the record of a unit, from what it may still ask for
pub faced : (t : ℕ) (domains : List (Option (List RtdsUnit))) (u : UnitId) (o : Option RtdsUnit) (j : Job) → rtds_unit_at domains u ≡ o → option_map (job t) o ≡ Some j → (x : RtdsUnit) × (rtds_unit_at domains u ≡ Some x) × (job t x ≡ j)
faced t domains u None j at is = absurd (cc)
faced t domains u (Some x) j at is = (x, at, cc)

-- what is left falls by a nanosecond in each, at most
falls_less : (level left from t n : ℕ) → t ≤ n → first_left level (left - (t - from)) ≤ first_left level (left - (n - from)) + (n - t)
falls_less level left from t n low =
    by_cond (λ (k : ℕ). k ≤ first_left level (left - (n - from)) + (n - t)) (level == 0) (left - (t - from)) 0
    (λ is. (let e : first_left level (left - (n - from)) ≡ left - (n - from) = ap (λ b. cond b (left - (n - from)) 0) is in omega (arith, e, low)))
    (λ is. omega arith)

pub left_falls : (t n : ℕ) (x : RtdsUnit) → t ≤ n → (job t x).left ≤ (job n x).left + (n - t)
left_falls t n x low = go x.burned refl
  where
    go : (o : Option ℕ) → x.burned ≡ o → first_left x.level (x.left - since t x.burned) ≤ first_left x.level (x.left - since n x.burned) + (n - t)
    go None is =
        let a : first_left x.level (x.left - since t x.burned) ≡ first_left x.level (x.left - 0) = ap (λ (o : Option ℕ). first_left x.level (x.left - since t o)) is in
        let b : first_left x.level (x.left - since n x.burned) ≡ first_left x.level (x.left - 0) = ap (λ (o : Option ℕ). first_left x.level (x.left - since n o)) is in
        omega (arith, a, b)
    go (Some from) is =
        let a : first_left x.level (x.left - since t x.burned) ≡ first_left x.level (x.left - (t - from)) = ap (λ (o : Option ℕ). first_left x.level (x.left - since t o)) is in
        let b : first_left x.level (x.left - since n x.burned) ≡ first_left x.level (x.left - (n - from)) = ap (λ (o : Option ℕ). first_left x.level (x.left - since n o)) is in
        let c = falls_less x.level x.left from t n low in
        omega (arith, a, b, c)

-- what is left to a unit after an event that does not replenish it
pub record LeftGoes (u : UnitId) (now now2 : ℕ) (cur : Option UnitId) (j : Job) (next : Option Job) : Type 0 where
  pub job : Job
  pub is : next ≡ Some job
  pub deadline : job.deadline ≡ j.deadline
  pub few : j.left ≤ job.left + cond (is_unit cur u) (now2 - now) 0
  pub in_time : (now2 ≡ now) ⊎ (now2 ≤ j.deadline)

-- a unit that is replenished
pub record IsRenewed (u : UnitId) (e : Event) (now now2 : ℕ) (j : Job) (next : Option Job) : Type 0 where
  pub over : j.deadline ≤ now
  pub same : now2 ≡ now
  pub job : Job
  pub is : next ≡ Some job
  pub full : job.left ≡ job.budget
  pub start : Moment
  pub extra : Bool
  pub prints : e ≡ event.Repl u start (moment job.deadline) (span job.budget) extra

module _ (m : Machine) (i r : ℕ) (fs : Watch) where
  -- what an event does to the unit u and to the core
  pub record Goes (u : UnitId) (s : State) (a : At i r fs s) (e : Event) (s2 : State) : Type 0 where
    pub new : At i r fs s2
    pub stays : late_of r e ≡ None → new.core.cur ≡ a.core.cur
    pub decides : (late : ℕ) → late_of r e ≡ Some late → (s2.now ≡ s.now) × (taken_by u e ≡ cond (is_unit new.core.cur u) (Some r) None)
    pub left : renews u e ≡ false → (j : Job) → face s.now a.domains u ≡ Some j → LeftGoes u s.now s2.now a.core.cur j (face s2.now new.domains u)
    pub none : (v : UnitId) → IsAtHome m i v.dom.0 → rtds_unit_at a.domains v ≡ None → (renews v e ≡ false) × (rtds_unit_at new.domains v ≡ None)
    pub renewed : renews u e ≡ true → (j : Job) → face s.now a.domains u ≡ Some j → IsRenewed u e s.now s2.now j (face s2.now new.domains u)

  -- the pool after an action that is its own
  pub pool_after : (s : State) (a : At i r fs s) (action : Action) → IsOfPool action → home_pool_of_action m.config.granularity s action ≡ Some i → at_place (after m s s.now action).pools i ≡ Some (settled_pool s.now (after_in m.config.granularity s.now a.pool action))
  pool_after s a action of home =
      let f : Pool → Pool = λ pool. settled_pool s.now (after_in m.config.granularity s.now pool action) in
      subst (λ (x : State). at_place x.pools i ≡ Some (f a.pool)) (sym (after_pool m s s.now action of))
      (subst (λ (o : Option ℕ). at_place (elim o as (λ _. State) [ None ↦ s | Some k ↦ change_pool k f s ]).pools i ≡ Some (f a.pool)) (sym home) (at_place-change_at i f s.pools ∙ ap (option_map f) a.at))

-- the core after its decision has the unit that it chose
pub decided_now : (g t r : ℕ) (pool : Pool) (c d : Resource) → at_place pool.resources r ≡ Some c → at_place (settled_pool t (after_in g t pool (Decide (core_number r)))).resources r ≡ Some d → d.cur ≡ (decision_at g t pool r).unit
decided_now g t r pool c d at there =
    let decision : Decision = decision_of (core_ask g t pool r c) pool.scheduler in
    let next : Pool = after_in g t pool (Decide (core_number r)) in
    let was = read_change_each r (reconsidered_core t (pool_core_set next) next.scheduler) next.resources d there in
    let same : d.cur ≡ was.0.cur = sym (ap (λ (x : Resource). x.cur) was.2) ∙ by_cond (λ (x : Resource). x.cur ≡ was.0.cur) was.0.leaving was.0 _ (λ is. refl) (λ is. refl) in
    let put : at_place next.resources r ≡ Some (decided_core t decision c) =
    subst (λ (o : Option Resource). at_place (elim o as (λ _. Pool) [ None ↦ pool | Some x ↦ after_decide g t r x pool ]).resources r ≡ Some (decided_core t decision c)) (sym at) (at_place-put_at r (decided_core t decision c) pool.resources (place_below pool.resources r c at)) in
    let both : Some was.0 ≡ Some (decided_core t decision c) = sym was.1 ∙ put in
    let is : was.0 ≡ decided_core t decision c = cc in
    let told : (decision_at g t pool r).unit ≡ decision.unit = ap (λ (o : Option Resource). (elim o as (λ _. Decision) [ None ↦ record { unit = None; due = None; reset = 0; records = pool.scheduler.records } | Some x ↦ decision_of (core_ask g t pool r x) pool.scheduler ]).unit) at in
    same ∙ ap (λ (x : Resource). x.cur) is ∙ decided_cur t decision c ∙ sym told

-- the records after a replenishment
pub renewed_records : (g t : ℕ) (u : UnitId) (pool : Pool) → (settled_pool t (after_in g t pool (Repl u))).scheduler.records ≡ records_after_replenish pool.scheduler.records t u
renewed_records g t u pool =
    let next : Pool = with_records (records_after_replenish pool.scheduler.records t u) pool in
    let Q : Pool → Type 0 = λ p. p.scheduler.records ≡ records_after_replenish pool.scheduler.records t u in
    by_option Q (unit_core pool u) _ _ (λ is. refl) (λ k is. by_option Q (unit_rtds_record next.scheduler.records u) _ _ (λ is2. refl) (λ x is2. refl))
