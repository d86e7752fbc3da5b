-- What an action of the machine does to the units of an RTDS pool of one core.
use Rattle.std.proofs.Common.{◌≡◌, ℕ, Bool, true, false, List, ◌⊎◌, refl, subst, sym, ◌∙◌, ap, inl}
use Rattle.std.specs.Prelude.{Option, Some, None, option_map}
use Rattle.std.proofs.Math.Decide.{ℕ_discrete}
use Rattle.sched_base.specs.Numbers.{core as core_number}
use Rattle.sched_base.specs.declared.UnitId.{UnitId}
use Rattle.sched_model.specs.declared.action.Action.{Action}
use Rattle.sched_model.specs.declared.action.Action.TheVariants.{Stall, Xl, Moved, DomMoved, Wake, Block, Slice, Repl, Refill, Arrive, Decide, Leave, Save}
use Rattle.sched_model.specs.declared.machine.Machine.{Machine}
use Rattle.sched_model.specs.declared.state.Pool.{Pool}
use Rattle.sched_model.specs.declared.state.Records.TheVariants.{RtdsPool}
use Rattle.sched_model.specs.declared.state.Resource.{Resource}
use Rattle.sched_model.specs.declared.state.RtdsUnit.{RtdsUnit}
use Rattle.sched_model.specs.declared.state.State.{State}
use Rattle.sched_model.specs.Actions.{IsOfPool, change_pool, home_pool_of_action}
use Rattle.sched_model.specs.Machine.{after, after_at_home, enabled_at_home, is_action_enabled}
use Rattle.sched_model.specs.Places.{at_place, change_at, test_at}
use Rattle.sched_model.specs.Pool.{after_in, decision_at, enabled_in, is_first_processor_up, is_gathering, is_held_back, settled_pool}
use Rattle.std.specs.List.{list_all}
use Rattle.std.specs.Prelude.{◌&&◌}
use Rattle.sched_laws.proofs.EachPlace.{at_place-change_at, at_place-set_other}
use Rattle.sched_laws.proofs.Kept.{passes_at}
use Rattle.sched_laws.proofs.Lists.{some-test_at}
use Rattle.reservation_laws.proofs.Tracks.{Watch, Tracks, face}
use Rattle.reservation_laws.proofs.PoolJobs.{Changes, Comes, HasJobs, h_event}

-- the pool i is one of RTDS with the core r alone, and its units are followed
pub record At (i r : ℕ) (fs : Watch) (s : State) : Type 0 where
  pub pool : Pool
  pub at : at_place s.pools i ≡ Some pool
  pub domains : List (Option (List RtdsUnit))
  pub records : pool.scheduler.records ≡ RtdsPool domains
  pub core : Resource
  pub has : at_place pool.resources r ≡ Some core
  pub only : (k : ℕ) (c : Resource) → at_place pool.resources k ≡ Some c → k ≡ r
  pub tracks : Tracks fs s.now core.cur core.due domains

module _ (m : Machine) (i r : ℕ) (fs : Watch) where
  -- what the action leaves of them: the core has its unit, or the one that it chose; no reservation is another one, but that of a replenished unit
  pub record Stepped (s : State) (action : Action) (a : At i r fs s) (s2 : State) : Type 0 where
    pub new : At i r fs s2
    pub now : s2.now ≡ s.now
    pub cur : (new.core.cur ≡ a.core.cur) ⊎ ((action ≡ Decide (core_number r)) × (new.core.cur ≡ (decision_at m.config.granularity s.now a.pool r).unit))
    pub faces : (u : UnitId) → (action ≡ Repl u → ⊥) → face s.now new.domains u ≡ face s.now a.domains u

  module _ (s : State) (a : At i r fs s) where
    abbrev g : ℕ
    g = m.config.granularity

    -- what the action may change
    abbrev may : Action → Changes
    may action = record { units = λ u. action ≡ Repl u; decides = action ≡ Decide (core_number r); chosen = (decision_at g s.now a.pool r).unit }

    comes : (action : Action) → enabled_in g s.now a.pool action ≡ true → Comes g s.now r (may action) a.pool action
    comes Stall on = tt
    comes Xl on = tt
    comes (Moved k) on = tt
    comes (DomMoved d) on = tt
    comes (Wake v) on = tt
    comes (Block p) on = tt
    comes (Slice k) on = tt
    comes (Repl u) on = (on, refl)
    comes (Refill d) on = tt
    comes (Arrive p) on = tt
    comes (Decide k) on =
        let c = some-test_at a.pool.resources k.0 (λ c. list_all is_held_back c.processors && is_gathering c && is_first_processor_up s.now c) on in
        let same : k.0 ≡ r = a.only k.0 c.0 c.1 in
        (ap (λ (n : ℕ). Decide (core_number n)) same, ap (λ (n : ℕ). (decision_at g s.now a.pool n).unit) same)
    comes (Leave p) on = tt
    comes (Save k) on = tt

    start : (action : Action) → HasJobs fs r s.now (may action) a.core.cur (face s.now a.domains) a.pool
    start action = record { domains = a.domains; records = a.records; core = a.core; at = a.has; only = a.only; tracks = a.tracks; has = inl refl; faces = λ u not. refl }

    in_pool : (action : Action) (s2 : State) (pool : Pool) → s2.now ≡ s.now → at_place s2.pools i ≡ Some pool → HasJobs fs r s.now (may action) a.core.cur (face s.now a.domains) pool → Stepped s action a s2
    in_pool action s2 pool now at h = record {
      new = record { pool = pool; at = at; domains = h.domains; records = h.records; core = h.core; has = h.at; only = h.only; tracks = subst (λ (n : ℕ). Tracks fs n h.core.cur h.core.due h.domains) (sym now) h.tracks };
      now = now;
      cur = h.has;
      faces = λ u not. h.faces u not;
    }

    by_home : (action : Action) (home : Option ℕ) → elim home as (λ _. Bool) [ None ↦ false | Some j ↦ test_at s.pools j (λ pool. enabled_in g s.now pool action) ] ≡ true
        → Stepped s action a (elim home as (λ _. State) [ None ↦ s | Some j ↦ change_pool j (λ pool. settled_pool s.now (after_in g s.now pool action)) s ])
    by_home action None on = absurd (cc)
    by_home action (Some j) on =
        let f : Pool → Pool = λ pool. settled_pool s.now (after_in g s.now pool action) in
        elim (ℕ_discrete j i) [
          | yes e ↦ (
              let here : enabled_in g s.now a.pool action ≡ true = passes_at s.pools j (λ pool. enabled_in g s.now pool action) a.pool (subst (λ (k : ℕ). at_place s.pools k ≡ Some a.pool) (sym e) a.at) on in
              in_pool action (change_pool j f s) (f a.pool) refl
              (subst (λ (k : ℕ). at_place (change_at k f s.pools) i ≡ Some (f a.pool)) (sym e) (at_place-change_at i f s.pools ∙ ap (option_map f) a.at))
              (h_event fs g r s.now (may action) a.core.cur (face s.now a.domains) a.pool action (comes action here) (start action)))
          | no ne ↦ in_pool action (change_pool j f s) a.pool refl (at_place-set_other j i (option_map f (at_place s.pools j)) s.pools ne ∙ a.at) (start action)
        ]

    at_home : (action : Action) → enabled_at_home m s s.now action ≡ true → Stepped s action a (after_at_home g s s.now action)
    at_home action on = by_home action (home_pool_of_action g s action) on

    pub stepped : (action : Action) → IsOfPool action → is_action_enabled m s s.now action ≡ true → Stepped s action a (after m s s.now action)
    stepped Stall of on = absurd of
    stepped Xl of on = absurd of
    stepped (Moved k) of on = absurd of
    stepped (DomMoved d) of on = absurd of
    stepped (Wake v) of on = at_home (Wake v) on
    stepped (Block p) of on = at_home (Block p) on
    stepped (Slice k) of on = at_home (Slice k) on
    stepped (Repl u) of on = at_home (Repl u) on
    stepped (Refill d) of on = at_home (Refill d) on
    stepped (Arrive p) of on = at_home (Arrive p) on
    stepped (Decide k) of on = at_home (Decide k) on
    stepped (Leave p) of on = at_home (Leave p) on
    stepped (Save k) of on = at_home (Save k) on
