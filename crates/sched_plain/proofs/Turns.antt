-- From when on an action may come in the whole machine, and what follows for the next moment.
use Rattle.std.proofs.Common.{◌≡◌, ◌≢◌, ◌≤◌, ◌<◌, ◌-◌, ◌∙◌, ◌⊎◌, ℕ, zero, suc, Bool, true, false, List, [], ◌∷◌, length, get_or, take, drop, refl, sym, ap, subst, inl, inr, arith}
use Rattle.std.specs.Prelude.{◌&&◌, not, nat_le, Option, Some, None, is_some, slice_get, if◌then◌else◌, Contains}
use Rattle.std.specs.Option.{ForSome}
use Rattle.std.proofs.lemmas.Bool.{or_cases}
use Rattle.std.proofs.lemmas.Bool.Decides.{nat_tests}
use Rattle.std.proofs.Math.Decide.{dec_le}
use Rattle.sched_base.specs.Numbers.{core, has_moment_come, moment}
use Rattle.sched_base.specs.declared.Moment.{Moment}
use Rattle.sched_base.proofs.Bools.{and_false, and_true, clash, or_more}
use Rattle.sched_model.specs.declared.action.Action.{Action}
use Rattle.sched_model.specs.declared.action.Action.TheVariants.{Stall, Xl, Moved}
use Rattle.sched_model.specs.declared.machine.Machine.{Machine}
use Rattle.sched_model.specs.declared.state.FreeCore.{FreeCore}
use Rattle.sched_model.specs.declared.state.Pool.{Pool}
use Rattle.sched_model.specs.declared.state.Records.{Records}
use Rattle.sched_model.specs.declared.state.Records.TheVariants.{Credit2Pool, RtdsPool, ArincPool, NullPool}
use Rattle.sched_model.specs.declared.state.State.{State}
use Rattle.sched_model.specs.declared.work.CommandLine.{CommandLine}
use Rattle.sched_model.specs.declared.work.StallLine.{StallLine}
use Rattle.sched_model.specs.Actions.{candidates, home_pool_of_action}
use Rattle.sched_model.specs.Machine.{enabled_at_home, first_enabled_action, is_free_core_ready, is_action_enabled, has_move_under_way, least_later_moment}
use Rattle.sched_model.specs.Places.{at_place, numbered_items, test_at}
use Rattle.sched_model.specs.Pool.{enabled_in}
use Rattle.sched_model.specs.Runs.{Reached}
use Rattle.sched_model.proofs.RunLemmas.{find_passes}
use Rattle.sched_laws.specs.EachPlace.{EachPlace}
use Rattle.sched_laws.proofs.Lists.{has_come-le, some-test_at, test_at-some}
use Rattle.composition_laws.specs.OrderLaws.{ComesInPool}
use Rattle.composition_laws.proofs.Candidates.{is_candidate}
use Rattle.composition_laws.proofs.FirstByOrder.{first_by_order}
use Rattle.composition_laws.proofs.Home.{pool_is_home}
use Rattle.pool_laws.specs.ReadyMoments.{guarded_moment, ready_in}
use Rattle.pool_laws.proofs.Readiness.{ready}
use Rattle.run_laws.specs.RunLaws.{IsNextMoment}
use Rattle.scheduler_records.specs.Fits.{RecordsFit}
use Rattle.plain_pool.specs.Ready.{AreFewRecords, AreWhole, IsLeastWith, IsReadyIn, ScanFits, lesser_moment}
use Rattle.plain_pool.proofs.Leasts.{AtPlace, IsAt, least_both, least_none, least_one, least_places, least_same}
use Rattle.sched_plain.specs.ReachedStates.{Stands}
use Rattle.sched_plain.specs.Soonest.{IsNextTurn, IsQuiet, IsReadyAmong, IsReadyAt, IsSoonest, command_ready, first_of, free_core_moment, last_moment, least_of_free, next_stall_moment}
use Rattle.sched_plain.proofs.Bridges.{stands-pool}
use Rattle.sched_plain.proofs.Domains.{behind}
use Rattle.sched_plain.proofs.Reaching.{reached-in_range}

-- the least so far and of the pools at places, of which there are none
pub pools_none : (g best : ℕ) (pools : List (Option Pool)) → length pools < 1 → IsLeastWith best (IsReadyAmong g pools) best
pools_none g best [] none = least_same (IsReadyAmong g []) (λ at none. absurd none) (λ at h. (let there = h.there in absurd (cc))) (least_none best)
pools_none g best (place ∷ pools) none = absurd (omega (arith, none))

-- of the first and then of the others
more_ready : (g at : ℕ) (first : Option Pool) (pools : List (Option Pool)) → IsReadyAt g first at ⊎ IsReadyAmong g pools at → IsReadyAmong g (first ∷ pools) at
more_ready g at None pools (inl has) = absurd has
more_ready g at (Some pool) pools (inl has) = record { place = 0; pool = pool; there = refl; ready = has }
more_ready g at first pools (inr h) = record { place = suc h.place; pool = h.pool; there = h.there; ready = h.ready }

which_ready : (g at : ℕ) (first : Option Pool) (pools : List (Option Pool)) (i : ℕ) (pool : Pool) → at_place (first ∷ pools) i ≡ Some pool → IsReadyIn g pool at → IsReadyAt g first at ⊎ IsReadyAmong g pools at
which_ready g at first pools zero pool there has = inl (subst (λ (o : Option Pool). IsReadyAt g o at) (sym there) has)
which_ready g at first pools (suc i) pool there has = inr (record { place = i; pool = pool; there = there; ready = has })

-- what each place has, the first has and the others have
pub first_place-has : (P : Pool → Type 0) (pools : List (Option Pool)) (place : Option Pool) → 1 ≤ length pools → place ≡ get_or pools 0 place → EachPlace P pools → ForSome place P
first_place-has P [] place some is each = absurd (omega (arith, some))
first_place-has P (first ∷ pools) place some is each = λ pool there. each 0 pool (sym is ∙ there)

pub others-have : (P : Pool → Type 0) (pools : List (Option Pool)) → 1 ≤ length pools → EachPlace P pools → EachPlace P (take (length pools - 1) (drop 1 pools))
others-have P [] some each = absurd (omega (arith, some))
others-have P (first ∷ pools) some each = subst (λ (xs : List (Option Pool)). EachPlace P xs) (sym (behind first pools)) (λ i pool there. each (suc i) pool there)

pub pools_more : (g best middle least : ℕ) (pools : List (Option Pool)) (place : Option Pool) → 1 ≤ length pools → place ≡ get_or pools 0 place
    → IsLeastWith best (IsReadyAt g place) middle → IsLeastWith middle (IsReadyAmong g (take (length pools - 1) (drop 1 pools))) least → IsLeastWith best (IsReadyAmong g pools) least
pools_more g best middle least [] place some is here rest = absurd (omega (arith, some))
pools_more g best middle least (first ∷ pools) place some is here rest =
    least_same (IsReadyAmong g (first ∷ pools)) (λ at h. more_ready g at first pools h) (λ at h. which_ready g at first pools h.place h.pool h.there h.ready)
    (least_both (subst (λ (o : Option Pool). IsLeastWith best (IsReadyAt g o) middle) is here) (subst (λ (xs : List (Option Pool)). IsLeastWith middle (IsReadyAmong g xs) least) (behind first pools) rest))

-- a moment that is there has come at itself
come_then : (at : ℕ) (o : Option Moment) → IsAt o at → has_moment_come at o ≡ true
come_then at o is = (let here : has_moment_come at (Some (moment at)) ≡ true = grind (arith, nat_tests) in ap (has_moment_come at) is ∙ here)

-- from when on the stall, the command and a core of no pool may come
stall_is : (m : Machine) (s : State) (t : ℕ) → is_action_enabled m s t Stall ≡ has_moment_come t (next_stall_moment m s)
stall_is m s t = by (slice_get m.work.stalls s.next_stall)
  where
    by : (o : Option StallLine) → elim o as (λ _. Bool) [ None ↦ false | Some line ↦ nat_le line.at.0 t ] ≡ has_moment_come t (elim o as (λ _. Option Moment) [ None ↦ None | Some line ↦ Some line.at ])
    by None = refl
    by (Some line) = refl

under_condition : (a b : Bool) (t : ℕ) (at : Moment) → nat_le at.0 t ≡ a → (a && b) ≡ has_moment_come t (guarded_moment b (Some at))
under_condition a true t at is = and_true a ∙ sym is
under_condition a false t at is = and_false a

command_is : (m : Machine) (s : State) (t : ℕ) → is_action_enabled m s t Xl ≡ has_moment_come t (command_ready m s)
command_is m s t = by (slice_get m.work.commands s.next_command)
  where
    by : (o : Option CommandLine)
        → elim o as (λ _. Bool) [ None ↦ false | Some line ↦ nat_le line.at.0 t && not (has_move_under_way s) ]
        ≡ has_moment_come t (elim o as (λ _. Option Moment) [ None ↦ None | Some line ↦ guarded_moment (not (has_move_under_way s)) (Some line.at) ])
    by None = refl
    by (Some line) = under_condition (nat_le line.at.0 t) (not (has_move_under_way s)) t line.at refl

free_is : (t : ℕ) (c : FreeCore) → is_free_core_ready t c ≡ has_moment_come t (free_core_moment c)
free_is t c = by (is_some c.target) c.stall_ends
  where
    by : (b : Bool) (ends : List Moment) → (b && elim ends as (λ _. Bool) [ [] ↦ false | end ∷ rest ↦ nat_le end.0 t ]) ≡ has_moment_come t (guarded_moment b (first_of ends))
    by true [] = refl
    by true (end ∷ ends) = refl
    by false ends = refl

-- the moments from which on actions may come
abbrev OfMachine : Machine → State → ℕ → Type 0
OfMachine m s at = ((IsAt (next_stall_moment m s) at ⊎ IsAt (command_ready m s) at) ⊎ AtPlace (λ r (c : FreeCore). IsAt (free_core_moment c) at) s.free) ⊎ IsReadyAmong m.config.granularity s.pools at

machine_least : (m : Machine) (s : State) (least : ℕ)
    → IsLeastWith (least_of_free (lesser_moment (lesser_moment last_moment (next_stall_moment m s)) (command_ready m s)) (numbered_items 0 s.free)) (IsReadyAmong m.config.granularity s.pools) least
    → IsLeastWith last_moment (OfMachine m s) least
machine_least m s least pools =
    let lines = least_both (least_one last_moment (next_stall_moment m s)) (least_one (lesser_moment last_moment (next_stall_moment m s)) (command_ready m s)) in
    let free = least_places (λ r so_far (c : FreeCore). lesser_moment so_far (free_core_moment c)) (λ r (c : FreeCore). IsAt (free_core_moment c)) 0 (λ r c k b e. least_one b (free_core_moment c)) (lesser_moment (lesser_moment last_moment (next_stall_moment m s)) (command_ready m s)) s.free in
    least_both (least_both lines free) pools

module _ (m : Machine) (s : State) (stands : Stands m s) where
  abbrev g : ℕ
  g = m.config.granularity

  -- the cores and the records of its pools
  few : (t : ℕ) (records : Records) → RecordsFit t records → AreFewRecords records
  few t (Credit2Pool records) fits = fits.few_domains
  few t (RtdsPool domains) fits = fits.few_domains
  few t (ArincPool records) fits = tt
  few t (NullPool kept) fits = tt

  pub scans_fit : EachPlace ScanFits s.pools
  scans_fit = λ i pool at. (let fits = stands-pool m s stands i pool at in record { fits = fits.fits; few_records = few s.now pool.scheduler.records fits.records })

  pub are_whole : EachPlace (AreWhole g) s.pools
  are_whole = λ i pool at r c there. (((reached-in_range m s stands).pools i pool at).cores r c there).count

  -- what may come is a candidate, and what a pool lets come may come
  candidate : (t : ℕ) (action : Action) → is_action_enabled m s t action ≡ true → Contains (candidates m.config) action
  candidate t action on = subst (λ (from : Reached). is_action_enabled m from.state t action ≡ true → Contains (candidates m.config) action) stands.reached.leads (is_candidate m stands.checked stands.reached.entries stands.reached.run t action) on

  none_comes : (t : ℕ) → first_enabled_action m s t ≡ None → (action : Action) → is_action_enabled m s t action ≡ true → ⊥
  none_comes t none action on = clash (is_action_enabled m s t action) on ((first_by_order m.config (is_action_enabled m s t) None).1 none action (candidate t action on))

  some_comes : (t : ℕ) → first_enabled_action m s t ≢ None → (action : Action) × (is_action_enabled m s t action ≡ true)
  some_comes t some = by (first_enabled_action m s t) refl
    where
      by : (o : Option Action) → first_enabled_action m s t ≡ o → (action : Action) × (is_action_enabled m s t action ≡ true)
      by None is = absurd (some is)
      by (Some action) is = (action, find_passes (is_action_enabled m s t) (candidates m.config) action is)

  none_first : (t : ℕ) → ((action : Action) → is_action_enabled m s t action ≡ true → ⊥) → first_enabled_action m s t ≡ None
  none_first t none = by (first_enabled_action m s t) refl
    where
      by : (o : Option Action) → first_enabled_action m s t ≡ o → o ≡ None
      by None is = refl
      by (Some action) is = absurd (none action (find_passes (is_action_enabled m s t) (candidates m.config) action is))

  from_pool : (t i : ℕ) (action : Action) → ComesInPool m s t i action → is_action_enabled m s t action ≡ true
  from_pool t i action comes =
      subst (λ (from : Reached). ComesInPool m from.state t i action → is_action_enabled m from.state t action ≡ true) stands.reached.leads
      (λ c. (let home = (pool_is_home m stands.checked stands.reached.entries stands.reached.run i t action).0 c in home.enabled)) comes

  -- from one of these moments on an action may come
  comes : (at : ℕ) → OfMachine m s at → (action : Action) × (is_action_enabled m s at action ≡ true)
  comes at (inl (inl (inl is))) = (Stall, stall_is m s at ∙ come_then at (next_stall_moment m s) is)
  comes at (inl (inl (inr is))) = (Xl, command_is m s at ∙ come_then at (command_ready m s) is)
  comes at (inl (inr h)) = (
    Moved (core h.place),
    or_more (test_at s.free h.place (is_free_core_ready at)) (enabled_at_home m s at (Moved (core h.place)))
        (test_at-some s.free h.place (is_free_core_ready at) h.item h.there (free_is at h.item ∙ come_then at (free_core_moment h.item) h.has)),
  )
  comes at (inr h) =
      (h.ready.action, from_pool at h.place h.ready.action (record { pool = h.pool; at = h.there; enabled = ready g at h.pool h.ready.action ∙ come_then at (ready_in g h.pool h.ready.action) h.ready.ready }))

  -- and what may come does so from one of them on
  abbrev Awaited : ℕ → Type 0
  Awaited t = (at : ℕ) × (at ≤ t) × OfMachine m s at

  at_home : (t : ℕ) (action : Action) → enabled_at_home m s t action ≡ true → Awaited t
  at_home t action on = by (home_pool_of_action g s action) on
    where
      by : (o : Option ℕ) → elim o as (λ _. Bool) [ None ↦ false | Some i ↦ test_at s.pools i (λ pool. enabled_in g t pool action) ] ≡ true → Awaited t
      by None may = absurd (cc)
      by (Some i) may =
          let p = some-test_at s.pools i (λ pool. enabled_in g t pool action) may in
          let x = has_come-le t (ready_in g p.0 action) (sym (ready g t p.0 action) ∙ p.2) in
          (x.0.0, x.2, inr (record { place = i; pool = p.0; there = p.1; ready = record { action = action; ready = x.1 } }))

  awaited : (t : ℕ) (action : Action) → is_action_enabled m s t action ≡ true → Awaited t
  awaited t Stall on = (let x = has_come-le t (next_stall_moment m s) (sym (stall_is m s t) ∙ on) in (x.0.0, x.2, inl (inl (inl x.1))))
  awaited t Xl on = (let x = has_come-le t (command_ready m s) (sym (command_is m s t) ∙ on) in (x.0.0, x.2, inl (inl (inr x.1))))
  awaited t (Moved r) on = elim (or_cases (test_at s.free r.0 (is_free_core_ready t)) (enabled_at_home m s t (Moved r)) on) [
    | inl free ↦ (
        let c = some-test_at s.free r.0 (is_free_core_ready t) free in
        let x = has_come-le t (free_core_moment c.0) (sym (free_is t c.0) ∙ c.2) in
        (x.0.0, x.2, inl (inr (record { place = r.0; item = c.0; there = c.1; has = x.1 }))))
    | inr home ↦ at_home t (Moved r) home
  ]
  awaited t action on = at_home t action on

  -- the least of them
  pub soonest_is : (least : ℕ) → IsLeastWith (least_of_free (lesser_moment (lesser_moment last_moment (next_stall_moment m s)) (command_ready m s)) (numbered_items 0 s.free)) (IsReadyAmong g s.pools) least → IsSoonest m s least
  soonest_is least pools =
      let is = machine_least m s least pools in
      record {
        none_before = λ t action on. (let x = awaited t action on in let low = is.no_later x.0 x.2 in let come = x.1 in omega (arith, low, come));
        one = elim is.one [ inl last ↦ inl last | inr h ↦ inr (comes least h) ];
      }

  -- it tells whether something may come now, and the next moment
  module _ (at : ℕ) (least : IsSoonest m s at) (stays : (t later : ℕ) (action : Action) → t ≤ later → is_action_enabled m s t action ≡ true → is_action_enabled m s later action ≡ true)
      (next : first_enabled_action m s s.now ≡ None → IsNextMoment m s s.now (least_later_moment m s s.now)) where
    early : s.now ≤ m.config.horizon.0
    early = (reached-in_range m s stands).now

    still : s.now < at → first_enabled_action m s s.now ≡ None
    still later = none_first s.now (λ action on. (let low = least.none_before s.now action on in absurd (omega (arith, low, later))))

    abbrev in_horizon : Option ℕ → Option ℕ
    in_horizon o = elim o as (λ _. Option ℕ) [ None ↦ None | Some n ↦ (if nat_le n m.config.horizon.0 then Some n else None) ]

    -- where an action may come from it on
    one_action : at ≤ m.config.horizon.0 → (action : Action) × (is_action_enabled m s at action ≡ true)
    one_action within = elim least.one [
      | inl last ↦ absurd (let most = stands.checked.config.horizon.most in omega (arith, last, most, within))
      | inr action ↦ action
    ]

    within_is : (o : Option ℕ) → s.now < at → at ≤ m.config.horizon.0 → IsNextMoment m s s.now o → in_horizon o ≡ Some at
    within_is None later within none = (let a = one_action within in absurd (none_comes at (none at later) a.0 a.1))
    within_is (Some n) later within is =
        let a = one_action within in
        let b = some_comes n is.something in
        let low : at ≤ n = least.none_before n b.0 b.1 in
        let high : n ≤ at = elim (dec_le n at) [ yes le ↦ le | no more ↦ absurd (none_comes at (is.nothing_between at later (omega (arith, more))) a.0 a.1) ] in
        let same : n ≡ at = omega (arith, low, high) in
        let test : nat_le n m.config.horizon.0 ≡ true = (let le : n ≤ m.config.horizon.0 = omega (arith, high, within) in grind (arith, nat_tests, le)) in
        ap (λ (b : Bool). if b then Some n else None) test ∙ ap (λ (k : ℕ). Some k) same

    past_is : (o : Option ℕ) → m.config.horizon.0 < at → IsNextMoment m s s.now o → in_horizon o ≡ None
    past_is None past none = refl
    past_is (Some n) past is =
        let b = some_comes n is.something in
        let low : at ≤ n = least.none_before n b.0 b.1 in
        let test : nat_le n m.config.horizon.0 ≡ false = (let more : m.config.horizon.0 < n = omega (arith, low, past) in grind (arith, nat_tests, more)) in
        ap (λ (b : Bool). if b then Some n else None) test

    pub turn_within : at ≤ m.config.horizon.0 → IsNextTurn m s at
    turn_within within = record {
      come = λ past none. (let a = one_action within in none_comes s.now none a.0 (stays at s.now a.0 past a.1));
      later = λ ahead. record { nothing = still ahead; next_is = within_is (least_later_moment m s s.now) ahead within (next (still ahead)) };
    }

    pub turn_past : m.config.horizon.0 < at → IsQuiet m s None
    turn_past past =
        let ahead : s.now < at = (let now = early in omega (arith, now, past)) in
        record { nothing = still ahead; next_is = past_is (least_later_moment m s s.now) past (next (still ahead)) }
