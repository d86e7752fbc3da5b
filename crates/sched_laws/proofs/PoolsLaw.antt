-- The law of pools, from what is kept.
use Rattle.std.proofs.Common.{◌≡◌, ℕ, true, List, refl, subst, ◌∙◌}
use Rattle.std.specs.Prelude.{Some, None, is_some}
use Rattle.std.proofs.lemmas.List.Elements.{All-from_recursion}
use Rattle.sched_base.specs.declared.UnitId.{UnitId}
use Rattle.sched_model.specs.declared.event.Entry.{Entry}
use Rattle.sched_model.specs.Places.{at_place}
use Rattle.sched_model.specs.declared.machine.Machine.{Machine}
use Rattle.sched_model.specs.declared.state.State.{State}
use Rattle.sched_model.specs.declared.state.Pool.{Pool}
use Rattle.sched_model.specs.declared.state.FreeCore.{FreeCore}
use Rattle.sched_model.specs.Actions.{home_pool_of_core, home_pool_of_domain}
use Rattle.sched_model.specs.Runs.{IsRun}
use Rattle.sched_laws.specs.EachPlace.{EachPlace}
use Rattle.sched_model.specs.CheckedMachine.{IsChecked}
use Rattle.sched_laws.specs.StateLaws.{state_after, IsOfPool, PoolsKeepTheirOwn}
use Rattle.sched_laws.proofs.EachPlace.{found_at, none_found, is_empty}
use Rattle.sched_laws.proofs.Lists.{some-test_at, test_at-some, is_some_at}
use Rattle.sched_base.proofs.Lists.{AllByRecursion-map}
use Rattle.sched_laws.proofs.Induction.{kept_by_runs}
use Rattle.sched_laws.proofs.Kept.{IsApart, IsKept}
use Rattle.sched_laws.proofs.Steps.{kept_after}
use Rattle.sched_laws.specs.StateLaws.{has_domain_at}
use Rattle.sched_laws.proofs.ApartKept.{apart_after}
use Rattle.sched_laws.proofs.Opened.{kept_opening, apart_opening}
use Rattle.sched_laws.proofs.OwnUnits.{there_if_staying, units_are_own, if_unit}
use Rattle.sched_laws.specs.PoolFacts.{UnitsAreOwn, IsThere, IsStaying}

-- a pool that has the domain is its home
pub home_is : (s : State) (i d : ℕ) → IsApart s → has_domain_at s i d ≡ true → home_pool_of_domain s d ≡ Some i
home_is s i d apart has =
    elim (home_pool_of_domain s d) as (λ o. home_pool_of_domain s d ≡ o → home_pool_of_domain s d ≡ Some i) [
      | None ↦ λ is. (let p = some-test_at s.pools i (λ p. is_some (at_place p.domains d)) has in let no = none_found 0 i (λ p. is_some (at_place p.domains d)) s.pools p.0 is p.1 in absurd (cc))
      | Some j ↦ λ is. (let f = found_at j (λ p. is_some (at_place p.domains d)) s.pools is in let e = apart.domains j i d (test_at-some s.pools j (λ p. is_some (at_place p.domains d)) f.0 f.1 f.2) has in is ∙ subst (λ k. Some j ≡ Some k) e refl)
    ] refl

-- a free core has no home
no_home : (s : State) (r : ℕ) (c : FreeCore) → IsApart s → at_place s.free r ≡ Some c → home_pool_of_core s r ≡ None
no_home s r c apart at =
    is_empty (home_pool_of_core s r) (λ i is.
    let f = found_at i (λ p. is_some (at_place p.resources r)) s.pools is in
    apart.free i r (is_some_at (at_place s.free r) c at) (test_at-some s.pools i (λ p. is_some (at_place p.resources r)) f.0 f.1 f.2))

-- what is known of every state of a run
pub record IsKnown (I : Pool → Type 0) (s : State) : Type 0 where
  pub apart : IsApart s
  pub pools : EachPlace I s.pools

pub known_in_runs : (m : Machine) (I : Pool → Type 0) → IsKept m.config.granularity I → IsChecked m → (entries : List Entry) → IsRun m entries → IsKnown I (state_after m entries)
known_in_runs m I kept checked entries run =
    kept_by_runs m (IsKnown I)
    (λ s action on here. record { apart = apart_after m s s.now action on here.apart; pools = kept_after m I kept s s.now action here.apart on here.pools })
    (λ s next here. record { apart = record { cores = here.apart.cores; domains = here.apart.domains; free = here.apart.free }; pools = here.pools })
    entries run (record { apart = apart_opening m checked; pools = kept_opening m I kept })

there_is_home : (s : State) (i : ℕ) (pool : Pool) (u : UnitId) → IsApart s → at_place s.pools i ≡ Some pool → IsThere pool.domains u → IsOfPool s i u
there_is_home s i pool u apart at there =
    let x = some-test_at pool.domains u.dom.0 (λ d. true) there in
    home_is s i u.dom.0 apart (test_at-some s.pools i (λ p. is_some (at_place p.domains u.dom.0)) pool at (is_some_at (at_place pool.domains u.dom.0) x.0 x.1))

pub pools_keep_their_own : (m : Machine) → IsChecked m → (entries : List Entry) → IsRun m entries → PoolsKeepTheirOwn (state_after m entries)
pools_keep_their_own m checked entries run =
    let s : State = state_after m entries in
    let known : IsKnown UnitsAreOwn s = known_in_runs m UnitsAreOwn (units_are_own m.config.granularity) checked entries run in
    record {
      units = λ i pool at.
          let own : UnitsAreOwn pool = known.pools i pool at in
          let home : (u : UnitId) → IsThere pool.domains u → IsOfPool s i u = λ u there. there_is_home s i pool u known.apart at there in
          record {
            queue = All-from_recursion (IsOfPool s i) pool.scheduler.queue (AllByRecursion-map (IsStaying pool.domains) (IsOfPool s i) (λ u staying. home u (there_if_staying pool.domains u staying)) pool.scheduler.queue own.queue);
            cur = λ r c has. if_unit (IsThere pool.domains) (IsOfPool s i) home c.cur (own.cores r c has).cur;
            saving = λ r c has. if_unit (IsThere pool.domains) (IsOfPool s i) home c.saving (own.cores r c has).saving;
          };
      cores = known.apart.cores;
      domains = known.apart.domains;
      free = λ r c at. no_home s r c known.apart at;
    }
