-- What a place tells of the machine's pool with its number.
use Rattle.std.proofs.Common.{◌≡◌, ◌<◌, ◌≤◌, ℕ, suc, Bool, false, List, length, refl, sym, ap, arith, ◌∙◌}
use Rattle.std.specs.Prelude.{Option, Some, None, option_map}
use Rattle.std.specs.Option.{ForSome}
use Rattle.std.proofs.Math.Decide.{dec_le}
use Rattle.std.proofs.Math.ListN.{get_or-eq_default}
use Rattle.sched_base.specs.declared.Moment.{Moment}
use Rattle.sched_model.specs.declared.action.Action.{Action}
use Rattle.sched_model.specs.declared.action.Action.TheVariants.{Moved}
use Rattle.sched_model.specs.declared.state.Pool.{Pool}
use Rattle.sched_model.specs.declared.state.State.{State}
use Rattle.sched_base.specs.Numbers.{pool as pool_number, core}
use Rattle.sched_base.specs.declared.PoolId.{PoolId}
use Rattle.sched_model.specs.declared.machine.Machine.{Machine}
use Rattle.sched_model.specs.Actions.{home_pool_of_action, home_pool_of_core, home_pool_of_domain}
use Rattle.sched_model.specs.Machine.{enabled_at_home}
use Rattle.sched_model.specs.Places.{at_place, test_at}
use Rattle.sched_model.specs.Pool.{enabled_in}
use Rattle.sched_laws.proofs.EachPlace.{found_at, place_below}
use Rattle.pool_laws.specs.ReadyMoments.{ready_in}
use Rattle.cpupool.specs.Tool.{Tool}
use Rattle.composition_laws.specs.WholeNext.{leaves_at}
use Rattle.pool_core.specs.Seen.{Seen}
use Rattle.machine_parts.specs.Told.{Told}
use Rattle.machine_parts.specs.Places.{SlotSuits, StandsAt, state_of}
use Rattle.machine_parts.proofs.Going.{range-of}
use Rattle.machine_parts.proofs.Standing.{pool_at, stands-there}
use Rattle.machine_parts.specs.Parts.{AreParts}

module _ (w : Told) (slots : List (Option Seen)) (tool : Tool) (parts : AreParts w slots tool) where
  abbrev s : State
  s = state_of w

  below : (i : ℕ) (pool : Pool) → at_place s.pools i ≡ Some pool → i < length slots
  below i pool at = (let low = place_below s.pools i pool at in let places = (range-of w parts.goes).pool_places in let count = parts.stand.count in omega (arith, low, places, count))

  -- the home of a core or a domain is one of the places
  pub core_below : (r i : ℕ) → home_pool_of_core s r ≡ Some i → i < length slots
  core_below r i is = (let f = found_at i _ s.pools is in below i f.0 f.1)

  pub domain_below : (d i : ℕ) → home_pool_of_domain s d ≡ Some i → i < length slots
  domain_below d i is = (let f = found_at i _ s.pools is in below i f.0 f.1)

  module _ (i : ℕ) (low : i < length slots) where
    stands : StandsAt w i (at_place slots i)
    stands = parts.stand.each i (let count = parts.stand.count in omega (arith, low, count))

    pub pool-there : at_place s.pools i ≡ pool_at (at_place slots i)
    pool-there = stands-there w i (at_place slots i) stands

    -- an answer of the place is that of the machine's pool
    pub told-there : (t : ℕ) (action : Action) (result : Bool) → ForSome (at_place slots i) (λ seen. result ≡ enabled_in seen.granularity t seen.pool action) → (at_place slots i ≡ None → result ≡ false)
        → result ≡ test_at s.pools i (λ pool. enabled_in w.input.config.granularity t pool action)
    told-there t action result some none = by_slot (at_place slots i) refl
      where
        may : Pool → Bool
        may pool = enabled_in w.input.config.granularity t pool action

        by_slot : (o : Option Seen) → at_place slots i ≡ o → result ≡ test_at s.pools i may
        by_slot None is =
            let there : at_place s.pools i ≡ None = pool-there ∙ ap pool_at is in
            none is ∙ sym (ap (λ (x : Option Pool). elim x as (λ _. Bool) [ None ↦ false | Some pool ↦ may pool ]) there)
        by_slot (Some seen) is =
            let there : at_place s.pools i ≡ Some seen.pool = pool-there ∙ ap pool_at is in
            let suits : SlotSuits w.input s.now seen = stands.suits seen is in
            some seen is ∙ ap (λ (g : ℕ). enabled_in g t seen.pool action) suits.granularity
            ∙ sym (ap (λ (x : Option Pool). elim x as (λ _. Bool) [ None ↦ false | Some pool ↦ may pool ]) there)

-- from when on a core may leave the pool of its home
pub leaves-there : (w : Told) (slots : List (Option Seen)) (tool : Tool) → AreParts w slots tool → (r i : ℕ) → i < length slots → (result : Option Moment) → home_pool_of_core (state_of w) r ≡ Some i
    → ForSome (at_place slots i) (λ seen. result ≡ ready_in seen.granularity seen.pool (Moved (core r))) → (at_place slots i ≡ None → result ≡ None) → result ≡ leaves_at w.input.config.granularity (state_of w) r
leaves-there w slots tool parts r i low result home some none = by_slot (at_place slots i) refl ∙ sym (ap (λ (o : Option ℕ). elim o as (λ _. Option Moment) [ None ↦ None | Some k ↦ by_pool (at_place s.pools k) ]) home)
  where
    s : State
    s = state_of w

    by_pool : Option Pool → Option Moment
    by_pool o = elim o as (λ _. Option Moment) [ None ↦ None | Some pool ↦ ready_in w.input.config.granularity pool (Moved (core r)) ]

    by_slot : (o : Option Seen) → at_place slots i ≡ o → result ≡ by_pool (at_place s.pools i)
    by_slot None is = none is ∙ sym (ap by_pool (pool-there w slots tool parts i low ∙ ap pool_at is))
    by_slot (Some seen) is =
        let suits : SlotSuits w.input s.now seen = (stands w slots tool parts i low).suits seen is in
        some seen is ∙ ap (λ (g : ℕ). ready_in g seen.pool (Moved (core r))) suits.granularity ∙ sym (ap by_pool (pool-there w slots tool parts i low ∙ ap pool_at is))

pub leaves-nowhere : (g : ℕ) (s : State) (r : ℕ) → home_pool_of_core s r ≡ None → None ≡ leaves_at g s r
leaves-nowhere g s r home =
    sym (ap (λ (o : Option ℕ). elim o as (λ _. Option Moment) [ None ↦ None | Some i ↦ elim (at_place s.pools i) as (λ _. Option Moment) [ None ↦ None | Some pool ↦ ready_in g pool (Moved (core r)) ] ]) home)

-- each place is the pool of its number, also past the last
module _ (w : Told) (slots : List (Option Seen)) (tool : Tool) (parts : AreParts w slots tool) where
  pub pool-anywhere : (i : ℕ) → at_place (state_of w).pools i ≡ pool_at (at_place slots i)
  pool-anywhere i = elim (dec_le (suc i) (length slots)) [
    | yes low ↦ pool-there w slots tool parts i low
    | no high ↦ past (let count = parts.stand.count in omega (arith, count, high))
  ]
    where
      past : 16 ≤ i → at_place (state_of w).pools i ≡ pool_at (at_place slots i)
      past high =
          let places = (range-of w parts.goes).pool_places in
          let count = parts.stand.count in
          get_or-eq_default (state_of w).pools None (omega (arith, places, high)) ∙ sym (ap pool_at (get_or-eq_default slots None (omega (arith, count, high))))

  -- the pool of a number is seen at its place
  pub seen-there : (i : ℕ) (pool : Pool) → at_place (state_of w).pools i ≡ Some pool → (seen : Seen) × (at_place slots i ≡ Some seen) × (seen.pool ≡ pool) × (seen.granularity ≡ w.input.config.granularity)
  seen-there i pool at = by_slot (at_place slots i) refl
    where
      by_slot : (o : Option Seen) → at_place slots i ≡ o → (seen : Seen) × (at_place slots i ≡ Some seen) × (seen.pool ≡ pool) × (seen.granularity ≡ w.input.config.granularity)
      by_slot None is = absurd (let there : at_place (state_of w).pools i ≡ None = pool-anywhere i ∙ ap pool_at is in cc)
      by_slot (Some seen) is =
          let there : at_place (state_of w).pools i ≡ Some seen.pool = pool-anywhere i ∙ ap pool_at is in
          let below = place_below (state_of w).pools i pool at in
          let places = (range-of w parts.goes).pool_places in
          let stands = parts.stand.each i (omega (arith, below, places)) in
          (seen, is, cc, (stands.suits seen is).granularity)

  pub nothing-there : (i : ℕ) → at_place (state_of w).pools i ≡ None → at_place slots i ≡ None
  nothing-there i none = by_slot (at_place slots i) refl
    where
      by_slot : (o : Option Seen) → at_place slots i ≡ o → at_place slots i ≡ None
      by_slot None is = is
      by_slot (Some seen) is = absurd (let there : at_place (state_of w).pools i ≡ Some seen.pool = pool-anywhere i ∙ ap pool_at is in cc)

-- an action with a home may come where the pool lets it, and one with none may not
pub at-home : (m : Machine) (s : State) (t : ℕ) (action : Action) (i : ℕ) (result : Bool) → home_pool_of_action m.config.granularity s action ≡ Some i
    → result ≡ test_at s.pools i (λ pool. enabled_in m.config.granularity t pool action) → result ≡ enabled_at_home m s t action
at-home m s t action i result home is =
    is ∙ sym (ap (λ (o : Option ℕ). elim o as (λ _. Bool) [ None ↦ false | Some k ↦ test_at s.pools k (λ pool. enabled_in m.config.granularity t pool action) ]) home)

pub no-home : (m : Machine) (s : State) (t : ℕ) (action : Action) → home_pool_of_action m.config.granularity s action ≡ None → false ≡ enabled_at_home m s t action
no-home m s t action home =
    sym (ap (λ (o : Option ℕ). elim o as (λ _. Bool) [ None ↦ false | Some k ↦ test_at s.pools k (λ pool. enabled_in m.config.granularity t pool action) ]) home)

-- the number of a pool that is there
pub number-of : (o : Option ℕ) (i : PoolId) → option_map pool_number o ≡ Some i → o ≡ Some i.0
number-of None i is = absurd (cc)
number-of (Some k) i is = (let same : pool_number k ≡ i = cc in ap (λ (x : PoolId). Some x.0) same)

pub no-number : (o : Option ℕ) → option_map pool_number o ≡ None → o ≡ None
no-number None is = refl
no-number (Some k) is = absurd (cc)
