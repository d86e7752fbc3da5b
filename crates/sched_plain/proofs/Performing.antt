-- What an event of a pool does is done in the pool of its subject.
use Rattle.std.proofs.Common.{◌≡◌, ◌∙◌, ℕ, Bool, true, false, List, refl, sym, ap, subst, arith}
use Rattle.std.specs.Prelude.{Option, Some, None, slice_set, option_map, unwrap_or}
use Rattle.sched_model.specs.declared.action.Action.{Action}
use Rattle.sched_model.specs.declared.action.Action.TheVariants.{Stall, Xl, Moved, DomMoved}
use Rattle.sched_model.specs.declared.event.Event.{Event}
use Rattle.sched_model.specs.declared.machine.Machine.{Machine}
use Rattle.sched_model.specs.declared.state.Pool.{Pool}
use Rattle.sched_model.specs.declared.state.State.{State}
use Rattle.sched_model.specs.Opening.{absent_pool}
use Rattle.sched_model.specs.Places.{at_place, test_at}
use Rattle.sched_model.specs.Pool.{enabled_in, event_in, after_in, settled_pool, reconsidered_core, pool_core_set}
use Rattle.sched_model.specs.Actions.{IsOfPool, home_pool_of_action, change_pool}
use Rattle.sched_model.specs.Machine.{is_action_enabled, enabled_at_home, event_of, after, after_at_home, home_pool}
use Rattle.sched_laws.proofs.EachPlace.{at_place-put_at, length_change_each, place_below}
use Rattle.sched_plain.specs.Fits.{PoolFitsAt}
use Rattle.sched_plain.specs.ReachedStates.{Stands}
use Rattle.sched_plain.proofs.Reaching.{stands-after}
use Rattle.sched_plain.proofs.Bridges.{stands-pool}

-- looking at the cores changes no number
pub settled-back : (t : ℕ) (pool : Pool) → PoolFitsAt t (settled_pool t pool) → PoolFitsAt t pool
settled-back t pool fits = record {
  fits = record { cores = (let same = length_change_each 0 (reconsidered_core t (pool_core_set pool) pool.scheduler) pool.resources in let few = fits.fits.cores in omega (arith, same, few)); few_domains = fits.fits.few_domains; domains = fits.fits.domains };
  records = fits.records;
  queue = fits.queue;
}

-- what stands at a place passes the test that is passed there
pub test_at-there : {X : Type 0} (places : List (Option X)) (i : ℕ) (test : X → Bool) (x : X) → test_at places i test ≡ true → at_place places i ≡ Some x → test x ≡ true
test_at-there places i test x passes is = subst (λ o. (elim o as (λ _. Bool) [ None ↦ false | Some y ↦ test y ]) ≡ true) is passes

module _ (m : Machine) (s : State) (t : ℕ) where
  pub enabled-home : (action : Action) → IsOfPool action → is_action_enabled m s t action ≡ enabled_at_home m s t action
  enabled-home Stall own = absurd own
  enabled-home Xl own = absurd own
  enabled-home (Moved r) own = absurd own
  enabled-home (DomMoved d) own = absurd own
  enabled-home action own = refl

  pub after-home : (action : Action) → IsOfPool action → after m s t action ≡ after_at_home m.config.granularity s t action
  after-home Stall own = absurd own
  after-home Xl own = absurd own
  after-home (Moved r) own = absurd own
  after-home (DomMoved d) own = absurd own
  after-home action own = refl

  event-home : (action : Action) → IsOfPool action → event_of m s t action ≡ event_in m.config.granularity t (home_pool m s action) action
  event-home Stall own = absurd own
  event-home Xl own = absurd own
  event-home (Moved r) own = absurd own
  event-home (DomMoved d) own = absurd own
  event-home action own = refl

  -- an event that may come has a home
  pub no-home : (action : Action) → enabled_at_home m s t action ≡ true → home_pool_of_action m.config.granularity s action ≡ None → ⊥
  no-home action home none =
      let empty : enabled_at_home m s t action ≡ false = ap (λ o. elim o as (λ _. Bool) [ None ↦ false | Some i ↦ test_at s.pools i (λ pool. enabled_in m.config.granularity t pool action) ]) none in
      cc

  -- at its home it may come
  test-home : (action : Action) (i : ℕ) → enabled_at_home m s t action ≡ true → home_pool_of_action m.config.granularity s action ≡ Some i → test_at s.pools i (λ pool. enabled_in m.config.granularity t pool action) ≡ true
  test-home action i home there = subst (λ o. (elim o as (λ _. Bool) [ None ↦ false | Some k ↦ test_at s.pools k (λ pool. enabled_in m.config.granularity t pool action) ]) ≡ true) there home

  -- so there is a pool
  pub no-pool : (action : Action) (i : ℕ) → enabled_at_home m s t action ≡ true → home_pool_of_action m.config.granularity s action ≡ Some i → at_place s.pools i ≡ None → ⊥
  no-pool action i home there none =
      let test = test-home action i home there in
      let empty : test_at s.pools i (λ pool. enabled_in m.config.granularity t pool action) ≡ false = ap (λ o. elim o as (λ _. Bool) [ None ↦ false | Some pool ↦ enabled_in m.config.granularity t pool action ]) none in
      cc

  -- in which it may come
  pub enabled-there : (action : Action) (i : ℕ) (pool : Pool) → enabled_at_home m s t action ≡ true → home_pool_of_action m.config.granularity s action ≡ Some i → at_place s.pools i ≡ Some pool → enabled_in m.config.granularity t pool action ≡ true
  enabled-there action i pool home there is = test_at-there s.pools i (λ pool. enabled_in m.config.granularity t pool action) pool (test-home action i home there) is

  -- the pool of its subject
  pub home_pool-there : (action : Action) (i : ℕ) (pool : Pool) → home_pool_of_action m.config.granularity s action ≡ Some i → at_place s.pools i ≡ Some pool → home_pool m s action ≡ pool
  home_pool-there action i pool there is =
      ap (λ o. elim o as (λ _. Pool) [ None ↦ absent_pool m.config | Some k ↦ unwrap_or (at_place s.pools k) (absent_pool m.config) ]) there
      ∙ ap (λ o. unwrap_or o (absent_pool m.config)) is

  -- what it leaves
  performed-state : (action : Action) (i : ℕ) (pool : Pool) → IsOfPool action → home_pool_of_action m.config.granularity s action ≡ Some i → at_place s.pools i ≡ Some pool
      → after m s t action ≡ record s { pools = slice_set s.pools i (Some (settled_pool t (after_in m.config.granularity t pool action))) }
  performed-state action i pool own there is =
      let f : Pool → Pool = λ x. settled_pool t (after_in m.config.granularity t x action) in
      let with : Option Pool → State = λ o. record s { pools = slice_set s.pools i o } in
      after-home action own ∙ ap (λ o. elim o as (λ _. State) [ None ↦ s | Some k ↦ change_pool k f s ]) there
      ∙ ap with (ap (option_map f) is)

-- the same of what the code has at hand, where t is the state's moment
module _ (m : Machine) (s : State) (t : ℕ) (action : Action) (i : ℕ) (stands : Stands m s) (now : t ≡ s.now) (own : IsOfPool action) (enabled : is_action_enabled m s s.now action ≡ true) (home : home_pool_of_action m.config.granularity s action ≡ Some i) where
  at_home : enabled_at_home m s s.now action ≡ true
  at_home = sym (enabled-home m s s.now action own) ∙ enabled

  pub pool-here : at_place s.pools i ≡ None → ⊥
  pool-here none = no-pool m s s.now action i at_home home none

  module _ (pool : Pool) (there : at_place s.pools i ≡ Some pool) where
    pub enabled-here : enabled_in m.config.granularity t pool action ≡ true
    enabled-here = subst (λ n. enabled_in m.config.granularity n pool action ≡ true) (sym now) (enabled-there m s s.now action i pool at_home home there)

    pub fits-here : PoolFitsAt t pool
    fits-here = subst (λ n. PoolFitsAt n pool) (sym now) (stands-pool m s stands i pool there)

    fits-then : PoolFitsAt s.now (after_in m.config.granularity s.now pool action)
    fits-then =
        let next : Pool = settled_pool s.now (after_in m.config.granularity s.now pool action) in
        let state : State = record s { pools = slice_set s.pools i (Some next) } in
        let later : Stands m state = subst (Stands m) (performed-state m s s.now action i pool own home there) (stands-after m s action stands enabled) in
        settled-back s.now (after_in m.config.granularity s.now pool action) (stands-pool m state later i next (at_place-put_at i next s.pools (place_below s.pools i pool there)))

    -- after the event too
    pub fits-after : PoolFitsAt t (after_in m.config.granularity t pool action)
    fits-after = subst (λ n. PoolFitsAt n (after_in m.config.granularity n pool action)) (sym now) fits-then

    pub event-here : (event : Event) → event ≡ event_in m.config.granularity t pool action → event ≡ event_of m s s.now action
    event-here event is =
        is ∙ ap (λ n. event_in m.config.granularity n pool action) now ∙ sym (event-home m s s.now action own ∙ ap (λ x. event_in m.config.granularity s.now x action) (home_pool-there m s s.now action i pool home there))

    pub state-here : (next : Pool) → next ≡ settled_pool t (after_in m.config.granularity t pool action)
        → let left : State = record s { pools = slice_set s.pools i (Some next) } in left ≡ after m s s.now action
    state-here next is =
        let with : Pool → State = λ x. record s { pools = slice_set s.pools i (Some x) } in
        ap with is ∙ ap (λ n. with (settled_pool n (after_in m.config.granularity n pool action))) now ∙ sym (performed-state m s s.now action i pool own home there)
