-- The law of one place, from what is kept.
use Rattle.std.proofs.Common.{◌≡◌, ◌≤◌, ℕ, true, false, List, arith, subst, inl, inr}
use Rattle.std.specs.Prelude.{Some, is_some}
use Rattle.std.proofs.Math.Decide.{dec_le}
use Rattle.std.proofs.lemmas.List.Elements.{All-from_recursion}
use Rattle.sched_base.specs.declared.UnitId.{UnitId}
use Rattle.sched_model.specs.declared.event.Entry.{Entry}
use Rattle.sched_model.specs.Places.{at_place}
use Rattle.sched_model.specs.declared.machine.Machine.{Machine}
use Rattle.sched_model.specs.declared.state.State.{State}
use Rattle.sched_model.specs.declared.state.Pool.{Pool}
use Rattle.sched_model.specs.State.{may_unit_run}
use Rattle.sched_model.specs.Runs.{IsRun}
use Rattle.sched_laws.specs.Laws.{count, count_in}
use Rattle.sched_model.specs.CheckedMachine.{IsChecked}
use Rattle.sched_laws.specs.StateLaws.{state_after, UnitsHaveOnePlace}
use Rattle.sched_laws.proofs.Lists.{if_some, some-test_at, test_at-some, is_some_at}
use Rattle.sched_laws.specs.PoolFacts.{IfUnit}
use Rattle.sched_laws.specs.StateLaws.{has_domain_at}
use Rattle.sched_laws.proofs.PoolsLaw.{IsKnown, known_in_runs}
use Rattle.sched_laws.proofs.SiblingsLaw.{some_processor}
use Rattle.sched_laws.proofs.OwnUnits.{there_if_staying}
use Rattle.sched_laws.specs.PoolFacts.{UnitsAreOwn, IsThere, IsStaying}
use Rattle.sched_laws.proofs.Counts.{total_is, total_at, total_some, total_one, times_is, times_has, some_numbered}
use Rattle.sched_laws.specs.Counts.{total, times, one_at}
use Rattle.sched_laws.proofs.OnePlace.{one_at_some}
use Rattle.sched_laws.specs.PoolFacts.{core_places, places}
use Rattle.sched_laws.proofs.Known.{known_pools}
use Rattle.sched_laws.specs.PoolFacts.{IsKnownPool}

-- the definition's count, as the proofs have it
count_in_is : (pool : Pool) (u : UnitId) → count_in pool u ≡ places pool u
count_in_is pool u = (let a = times_is u pool.scheduler.queue in let b = total_is (core_places u) 0 pool.resources in omega (arith, a, b))

count_is : (s : State) (u : UnitId) → count s u ≡ total (λ (pool : Pool). count_in pool u) s.pools
count_is s u = total_is (λ (pool : Pool). count_in pool u) 0 s.pools

-- a unit that has a place in the pool is of a domain of the pool
there_if_placed : (pool : Pool) (u : UnitId) → UnitsAreOwn pool → 1 ≤ places pool u → IsThere pool.domains u
there_if_placed pool u own placed =
    elim (dec_le 1 (times u pool.scheduler.queue)) [
      | yes queued ↦ there_if_staying pool.domains u (times_has (IsStaying pool.domains) u pool.scheduler.queue own.queue queued)
      | no not_queued ↦ (
          let found = total_some (core_places u) pool.resources (omega (arith, placed, not_queued)) in
          let core = own.cores found.0 found.1 found.2 in
          elim (dec_le 1 (one_at u found.1.cur)) [
            | yes is_cur ↦ subst (IfUnit (IsThere pool.domains)) (one_at_some u found.1.cur is_cur) core.cur
            | no not_cur ↦ subst (IfUnit (IsThere pool.domains)) (one_at_some u found.1.saving (let f = found.3 in omega (arith, f, not_cur))) core.saving
          ])
    ]

pub units_have_one_place : (m : Machine) → IsChecked m → (entries : List Entry) → IsRun m entries → UnitsHaveOnePlace m.config.granularity (state_after m entries)
units_have_one_place m checked entries run =
    let g = m.config.granularity in
    let s : State = state_after m entries in
    let known : IsKnown (IsKnownPool g) s = known_in_runs m (IsKnownPool g) (known_pools g (some_processor g checked.config.granularity)) checked entries run in
    let home : (i : ℕ) (pool : Pool) (u : UnitId) → at_place s.pools i ≡ Some pool → 1 ≤ count_in pool u → has_domain_at s i u.dom.0 ≡ true = λ i pool u at placed. (
    let e = count_in_is pool u in
    let there = there_if_placed pool u (known.pools i pool at).own (omega (arith, e, placed)) in
    let x = some-test_at pool.domains u.dom.0 (λ d. true) there in
    test_at-some s.pools i (λ p. is_some (at_place p.domains u.dom.0)) pool at (is_some_at (at_place pool.domains u.dom.0) x.0 x.1)) in
    let most : (u : UnitId) → count s u ≤ 1 = λ u. (
    let e = count_is s u in
    let one = total_one (λ (pool : Pool). count_in pool u) s.pools
    (λ i pool at. (let a = (known.pools i pool at).one.most u in let b = count_in_is pool u in omega (arith, a, b)))
    (λ i j p q at_i at_j a b. known.apart.domains i j u.dom.0 (home i p u at_i a) (home j q u at_j b)) in
    omega (arith, e, one)) in
    record {
      most = most;
      runnable = λ u runs. (
          let found = some_numbered (λ (pool : Pool). may_unit_run g pool u) 0 s.pools runs in
          let placed = elim ((known.pools found.0 found.1 found.2).one.runs u found.3) as (λ _. 1 ≤ places found.1 u) [ inl has ↦ has | inr nobody ↦ absurd nobody ] in
          let a = total_at (λ (pool : Pool). count_in pool u) found.0 found.1 s.pools found.2 in
          let b = count_in_is found.1 u in
          let e = count_is s u in
          let most_u = most u in
          omega (arith, placed, a, b, e, most_u));
      waits = λ i pool at. All-from_recursion (λ u. may_unit_run g pool u ≡ true) pool.scheduler.queue (known.pools i pool at).one.waits;
      pending = λ i pool at r c has. if_some c.cur (λ u. may_unit_run g pool u ≡ false → c.pending ≡ true) (λ u is stops. elim ((known.pools i pool at).one.cur r c has u is) [ inl runs ↦ absurd (cc) | inr pends ↦ pends ]);
    }
