-- The pool in which an event may come is its home.
use Rattle.std.proofs.Common.{◌≡◌, ◌/◌, ℕ, Bool, true, false, List, refl, sym, subst, inl, inr}
use Rattle.std.specs.Prelude.{◌↔◌, Option, Some, None, is_some, ◌||◌}
use Rattle.std.proofs.lemmas.Bool.{or_cases}
use Rattle.sched_base.specs.declared.UnitId.{UnitId}
use Rattle.sched_model.specs.declared.action.Action.{Action}
use Rattle.sched_model.specs.declared.action.Action.TheVariants.{Stall, Xl, Moved, DomMoved, Wake, Block, Slice, Repl, Refill, Arrive, Decide, Leave, Save}
use Rattle.sched_model.specs.declared.event.Entry.{Entry}
use Rattle.sched_model.specs.declared.machine.Machine.{Machine}
use Rattle.sched_model.specs.declared.state.Domain.{Domain}
use Rattle.sched_model.specs.declared.state.Resource.{Resource}
use Rattle.sched_model.specs.declared.state.Records.{Records}
use Rattle.sched_model.specs.declared.state.Records.TheVariants.{Credit2Pool}
use Rattle.sched_model.specs.declared.state.Pool.{Pool}
use Rattle.sched_model.specs.declared.state.State.{State}
use Rattle.sched_model.specs.Places.{at_place, test_at}
use Rattle.sched_model.specs.Pool.{enabled_in}
use Rattle.sched_model.specs.Actions.{home_pool_of_action, home_pool_of_core, home_pool_of_domain}
use Rattle.sched_model.specs.CheckedMachine.{IsChecked}
use Rattle.sched_model.specs.Machine.{is_action_enabled, enabled_at_home, is_free_core_ready}
use Rattle.sched_model.specs.Runs.{IsRun}
use Rattle.sched_laws.specs.StateLaws.{state_after}
use Rattle.sched_laws.proofs.Choices.{at_unit}
use Rattle.sched_laws.specs.PoolFacts.{IfUnit}
use Rattle.sched_laws.proofs.Lists.{test_at-some, some-test_at, is_some_at}
use Rattle.sched_laws.proofs.OwnUnits.{there_if_staying}
use Rattle.sched_laws.specs.PoolFacts.{IsStaying, IsThere, UnitsAreOwn}
use Rattle.sched_laws.proofs.PoolsLaw.{pools_keep_their_own}
use Rattle.sched_laws.proofs.Reached.{home_of_its_core, home_of_its_domain, units_are_own}
use Rattle.state_ranges.specs.Records.{HasRecords, IsUnrecorded}
use Rattle.state_ranges.proofs.RecordsLaw.{has_records}
use Rattle.composition_laws.specs.OrderLaws.{ComesAtHome, ComesInPool}
use Rattle.composition_laws.proofs.Subjects.{HasRecord, RunsUnit, HasSubject, has_subject}

-- a record is of a domain that the pool has
is_of_pool : (domains : List (Option Domain)) (records : Records) (d : ℕ) → (at_place domains d ≡ None → IsUnrecorded records d) → HasRecord records d → (x : Domain) × (at_place domains d ≡ Some x)
is_of_pool domains (Credit2Pool records) d others has =
    elim (at_place domains d) as (λ o. at_place domains d ≡ o → (x : Domain) × (at_place domains d ≡ Some x)) [
      | None ↦ λ is. (let none = others is in let there = has.1 in absurd (cc))
      | Some x ↦ λ is. (x, is)
    ] refl
is_of_pool domains records d others has = absurd has

-- what may come by the pool of its subject may come
by_home : (m : Machine) (s : State) (t : ℕ) (action : Action) → enabled_at_home m s t action ≡ true → is_action_enabled m s t action ≡ true
by_home m s t Stall on = absurd (cc)
by_home m s t Xl on = absurd (cc)
by_home m s t (Moved r) on = either_way (test_at s.free r.0 (is_free_core_ready t)) (enabled_at_home m s t (Moved r)) on
  where
    either_way : (a b : Bool) → b ≡ true → (a || b) ≡ true
    either_way true b is = refl
    either_way false b is = is
by_home m s t action on = on

module _ (m : Machine) (checked : IsChecked m) (entries : List Entry) (run : IsRun m entries) (i t : ℕ) (pool : Pool) (at : at_place (state_after m entries).pools i ≡ Some pool) where
  abbrev g : ℕ
  g = m.config.granularity

  abbrev s : State
  s = state_after m entries

  own : UnitsAreOwn pool
  own = units_are_own m checked entries run i pool at

  home_of_core_at : (r : ℕ) (c : Resource) → at_place pool.resources r ≡ Some c → home_pool_of_core s r ≡ Some i
  home_of_core_at r c has =
      home_of_its_core m checked entries run i r (test_at-some s.pools i (λ p. is_some (at_place p.resources r)) pool at (is_some_at (at_place pool.resources r) c has))

  home_of_domain_at : (d : ℕ) (x : Domain) → at_place pool.domains d ≡ Some x → home_pool_of_domain s d ≡ Some i
  home_of_domain_at d x has =
      home_of_its_domain m checked entries run i d (test_at-some s.pools i (λ p. is_some (at_place p.domains d)) pool at (is_some_at (at_place pool.domains d) x has))

  home_if_there : (u : UnitId) → IsThere pool.domains u → home_pool_of_domain s u.dom.0 ≡ Some i
  home_if_there u there = (let f = some-test_at pool.domains u.dom.0 (λ d. true) there in home_of_domain_at u.dom.0 f.0 f.1)

  home_if_runs : (u : UnitId) → RunsUnit g t pool u → home_pool_of_domain s u.dom.0 ≡ Some i
  home_if_runs u runs = home_if_there u (subst (IfUnit (IsThere pool.domains)) runs.3 (own.cores runs.0 runs.1 runs.2).cur)

  home : (action : Action) → HasSubject g t pool action → home_pool_of_action g s action ≡ Some i
  home (Moved r) has = home_of_core_at r.0 has.0 has.1
  home (DomMoved d) has = home_of_domain_at d.0 has.0 has.1
  home (Wake v) has = home_of_domain_at v.dom.0 has.0 has.1
  home (Block p) has = home_of_core_at (p.0 / g) has.0 has.1
  home (Slice r) has = home_of_core_at r.0 has.0 has.1
  home (Repl u) (inl waits) = home_if_there u (there_if_staying pool.domains u (at_unit (IsStaying pool.domains) u pool.scheduler.queue waits own.queue))
  home (Repl u) (inr runs) = home_if_runs u runs
  home (Refill d) has =
      let known : HasRecords g pool = has_records m checked entries run i pool at in
      let x = is_of_pool pool.domains pool.scheduler.records d.0 (known.others d.0) has in
      home_of_domain_at d.0 x.0 x.1
  home (Arrive p) has = home_of_core_at (p.0 / g) has.0 has.1
  home (Decide r) has = home_of_core_at r.0 has.0 has.1
  home (Leave p) has = home_of_core_at (p.0 / g) has.0 has.1
  home (Save r) has = home_of_core_at r.0 has.0 has.1
  home action has = absurd has

  comes_at_home : (action : Action) → enabled_in g t pool action ≡ true → ComesAtHome m s t i action
  comes_at_home action on =
      let is : home_pool_of_action g s action ≡ Some i = home action (has_subject g t pool action on) in
      record {
        home = is;
        enabled = by_home m s t action
            (subst (λ (o : Option ℕ). elim o as (λ _. Bool) [ None ↦ false | Some j ↦ test_at s.pools j (λ p. enabled_in g t p action) ] ≡ true) (sym is)
            (test_at-some s.pools i (λ p. enabled_in g t p action) pool at on));
      }

-- what may come at its home may come in that pool; a free core has no home
module _ (m : Machine) (checked : IsChecked m) (entries : List Entry) (run : IsRun m entries) (i t : ℕ) where
  in_home : (action : Action) → home_pool_of_action m.config.granularity (state_after m entries) action ≡ Some i → enabled_at_home m (state_after m entries) t action ≡ true → ComesInPool m (state_after m entries) t i action
  in_home action is on =
      let pools : List (Option Pool) = (state_after m entries).pools in
      let test : Pool → Bool = λ pool. enabled_in m.config.granularity t pool action in
      let here : test_at pools i test ≡ true = subst (λ (o : Option ℕ). elim o as (λ _. Bool) [ None ↦ false | Some j ↦ test_at pools j test ] ≡ true) is on in
      let f = some-test_at pools i test here in
      record { pool = f.0; at = f.1; enabled = f.2 }

  comes_in_pool : (action : Action) → home_pool_of_action m.config.granularity (state_after m entries) action ≡ Some i → is_action_enabled m (state_after m entries) t action ≡ true → ComesInPool m (state_after m entries) t i action
  comes_in_pool Stall is on = absurd (cc)
  comes_in_pool Xl is on = absurd (cc)
  comes_in_pool (Moved r) is on = elim (or_cases (test_at (state_after m entries).free r.0 (is_free_core_ready t)) (enabled_at_home m (state_after m entries) t (Moved r)) on) [
    | inl free ↦ absurd (
        let c = some-test_at (state_after m entries).free r.0 (is_free_core_ready t) free in
        let none = (pools_keep_their_own m checked entries run).free r.0 c.0 c.1 in
        cc)
    | inr home ↦ in_home (Moved r) is home
  ]
  comes_in_pool action is on = in_home action is on

  pub pool_is_home : (action : Action) → ComesInPool m (state_after m entries) t i action ↔ ComesAtHome m (state_after m entries) t i action
  pool_is_home action = (
    λ c. comes_at_home m checked entries run i t c.pool c.at action c.enabled,
    λ h. comes_in_pool action h.home h.enabled,
  )
