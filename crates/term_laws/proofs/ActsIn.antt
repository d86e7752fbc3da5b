-- The pool that has a core or a domain, and an action in the pool of its subject.
use Rattle.std.proofs.Common.{◌≡◌, ◌≢◌, ℕ, Bool, true, false, refl, ap, subst, ◌∙◌}
use Rattle.std.specs.Prelude.{Option, Some, None, is_some, unwrap_or, option_map}
use Rattle.sched_model.specs.declared.action.Action.{Action}
use Rattle.sched_model.specs.declared.machine.Machine.{Machine}
use Rattle.sched_model.specs.declared.state.State.{State}
use Rattle.sched_model.specs.declared.state.Pool.{Pool}
use Rattle.sched_model.specs.declared.state.Resource.{Resource}
use Rattle.sched_model.specs.Places.{at_place, test_at}
use Rattle.sched_model.specs.Opening.{absent_pool}
use Rattle.sched_model.specs.Pool.{enabled_in, after_in, settled_pool}
use Rattle.sched_model.specs.Actions.{home_pool_of_action, home_pool_of_core, change_pool}
use Rattle.sched_model.specs.Machine.{enabled_at_home, after_at_home, home_pool}
use Rattle.sched_laws.specs.StateLaws.{has_domain_at}
use Rattle.sched_laws.proofs.Kept.{IsApart}
use Rattle.sched_laws.proofs.Lists.{test_at-some, some-test_at, is_some_at}
use Rattle.sched_laws.proofs.StillWaits.{core_home}
use Rattle.term_laws.specs.Term.{core_in}
use Rattle.term_laws.proofs.AtPlaces.{at_place-change_at, at_place-change_at_other}

-- the home of a core
home_of_core_is : (s : State) (i r : ℕ) (pool : Pool) (c : Resource) → IsApart s → at_place s.pools i ≡ Some pool → at_place pool.resources r ≡ Some c → home_pool_of_core s r ≡ Some i
home_of_core_is s i r pool c apart at has = core_home s i r apart (test_at-some s.pools i (λ p. is_some (at_place p.resources r)) pool at (is_some_at (at_place pool.resources r) c has))

-- the core is found in the state, since no core is in two pools
pub core_is_in : (s : State) (i r : ℕ) (pool : Pool) (c : Resource) → IsApart s → at_place s.pools i ≡ Some pool → at_place pool.resources r ≡ Some c → core_in s r ≡ Some c
core_is_in s i r pool c apart at has =
    ap (λ (o : Option ℕ). elim o as (λ _. Option Resource) [ None ↦ None | Some k ↦ elim (at_place s.pools k) as (λ _. Option Resource) [ None ↦ None | Some x ↦ at_place x.resources r ] ]) (home_of_core_is s i r pool c apart at has)
    ∙ ap (λ (o : Option Pool). elim o as (λ _. Option Resource) [ None ↦ None | Some x ↦ at_place x.resources r ]) at
    ∙ has

-- a pool has the domain, and two that have it are one
pub has_domain : (s : State) (i d : ℕ) (p : Pool) → at_place s.pools i ≡ Some p → test_at p.domains d (λ x. true) ≡ true → has_domain_at s i d ≡ true
has_domain s i d p at there = (let x = some-test_at p.domains d (λ k. true) there in test_at-some s.pools i (λ q. is_some (at_place q.domains d)) p at (is_some_at (at_place p.domains d) x.0 x.1))

pub one_home : (s : State) (i j : ℕ) (p q : Pool) (d : ℕ) → IsApart s → at_place s.pools i ≡ Some p → at_place s.pools j ≡ Some q → test_at p.domains d (λ x. true) ≡ true → test_at q.domains d (λ x. true) ≡ true → i ≡ j
one_home s i j p q d apart at_i at_j in_p in_q = apart.domains i j d (has_domain s i d p at_i in_p) (has_domain s j d q at_j in_q)

-- an action in the pool of its subject
pub record ActsIn (m : Machine) (s : State) (t : ℕ) (action : Action) : Type 0 where
  pub j : ℕ
  pub pool : Pool
  pub at : at_place s.pools j ≡ Some pool
  pub home : home_pool_of_action m.config.granularity s action ≡ Some j
  pub enabled : enabled_in m.config.granularity t pool action ≡ true
  pub state : after_at_home m.config.granularity s t action ≡ change_pool j (λ p. settled_pool t (after_in m.config.granularity t p action)) s
  pub pool_is : home_pool m s action ≡ pool

pub acts_in : (m : Machine) (s : State) (t : ℕ) (action : Action) → enabled_at_home m s t action ≡ true → ActsIn m s t action
acts_in m s t action on = go (home_pool_of_action m.config.granularity s action) refl on
  where
    go : (o : Option ℕ) → home_pool_of_action m.config.granularity s action ≡ o → elim o as (λ _. Bool) [ None ↦ false | Some i ↦ test_at s.pools i (λ pool. enabled_in m.config.granularity t pool action) ] ≡ true → ActsIn m s t action
    go None is on2 = absurd (cc)
    go (Some i) is on2 =
        let x = some-test_at s.pools i (λ pool. enabled_in m.config.granularity t pool action) on2 in
        record {
          j = i;
          pool = x.0;
          at = x.1;
          home = is;
          enabled = x.2;
          state = ap (λ (o : Option ℕ). elim o as (λ _. State) [ None ↦ s | Some k ↦ change_pool k (λ p. settled_pool t (after_in m.config.granularity t p action)) s ]) is;
          pool_is = ap (λ (o : Option ℕ). elim o as (λ _. Pool) [ None ↦ absent_pool m.config | Some k ↦ unwrap_or (at_place s.pools k) (absent_pool m.config) ]) is ∙ ap (λ o. unwrap_or o (absent_pool m.config)) x.1;
        }

-- the pool is the unit's home
pub home_pools_same : (s : State) (i j : ℕ) (p q : Pool) → at_place s.pools i ≡ Some p → at_place s.pools j ≡ Some q → i ≡ j → p ≡ q
home_pools_same s i j p q at_i at_j e = (let at2 : at_place s.pools j ≡ Some p = subst (λ k. at_place s.pools k ≡ Some p) e at_i in cc)

-- the pools after the action: that of its subject, and another one
module _ (m : Machine) (s : State) (t : ℕ) (action : Action) (a : ActsIn m s t action) where
  abbrev next_pool : Pool → Pool
  next_pool p = settled_pool t (after_in m.config.granularity t p action)

  pub acts_here : at_place (after_at_home m.config.granularity s t action).pools a.j ≡ Some (settled_pool t (after_in m.config.granularity t a.pool action))
  acts_here = ap (λ (x : State). at_place x.pools a.j) a.state ∙ at_place-change_at a.j next_pool s.pools ∙ ap (option_map next_pool) a.at

  pub acts_elsewhere : (i : ℕ) → a.j ≢ i → at_place (after_at_home m.config.granularity s t action).pools i ≡ at_place s.pools i
  acts_elsewhere i ne = ap (λ (x : State). at_place x.pools i) a.state ∙ at_place-change_at_other a.j i next_pool s.pools ne
