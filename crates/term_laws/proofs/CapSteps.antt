-- What each entry of a run does to a domain's cap is as the law wants it.
use Rattle.std.proofs.Common.{◌≡◌, ◌<◌, ℕ, suc, true, length, refl, arith, sym, ◌∙◌}
use Rattle.std.specs.Prelude.{Some}
use Rattle.std.proofs.Math.Decide.{dec_le}
use Rattle.sched_model.specs.declared.action.Action.{Action}
use Rattle.sched_model.specs.declared.action.Action.TheVariants.{Decide}
use Rattle.sched_model.specs.declared.event.Event.{Event}
use Rattle.sched_model.specs.declared.event.Entry.{Entry}
use Rattle.sched_model.specs.declared.machine.Machine.{Machine}
use Rattle.sched_model.specs.declared.state.State.{State}
use Rattle.sched_model.specs.CheckedMachine.{IsChecked}
use Rattle.sched_model.specs.Opening.{machine_core_count}
use Rattle.sched_model.specs.Machine.{is_action_enabled, event_of, after}
use Rattle.sched_model.specs.Runs.{Reached, after_entry, IsNext}
use Rattle.term_laws.specs.Term.{late_of, late_now}
use Rattle.term_laws.proofs.Deciding.{decides}
use Rattle.term_laws.proofs.ReachedStates.{IsReached, reached_opening, reached_next, by_action}
use Rattle.term_laws.proofs.CapTracks.{CapTracks, on_core, decided_for}
use Rattle.term_laws.proofs.StepsState.{stands, HomeOf, home_here, on_is, on_one, on_low}
use Rattle.term_laws.proofs.StepsHolds.{StateHolds, StepGives}
use Rattle.term_laws.proofs.StepsDecide.{decides_here}
use Rattle.term_laws.proofs.StepsActions.{action_gives}
use Rattle.term_laws.proofs.StepsStill.{quiet_none, still_tracks, no_core, high_tracks}
use Rattle.term_laws.proofs.StepsBegun.{nobody_at_first, full_at_first}

-- what is known of the states of runs
pub record K (m : Machine) (d : ℕ) (s : State) : Type 0 where
  pub reached : IsReached m s
  pub holds : StateHolds d s

module _ (m : Machine) (checked : IsChecked m) (d : ℕ) where
  abbrev All : State → Event → State → Type 0
  All s e s2 = StepGives m d s s2 e

  -- an action, where the domain is one of the machine, and where it is none
  low_gives : d < length m.config.domains → (s : State) (action : Action) → IsReached m s → IsReached m (after m s s.now action) → is_action_enabled m s s.now action ≡ true → StateHolds d s → All s (event_of m s s.now action) (after m s s.now action)
  low_gives low s action r r2 on holds =
      let k = stands m checked s r in
      let k2 = stands m checked (after m s s.now action) r2 in
      action_gives m checked d s k (home_here m s d k.known low) holds action on k2 (home_here m (after m s s.now action) d k2.known low)

  prints : (s : State) (action : Action) → IsReached m s → IsReached m (after m s s.now action) → is_action_enabled m s s.now action ≡ true → (r late : ℕ) → late_of r (event_of m s s.now action) ≡ Some late
      → (late ≡ late_now s r) × (on_core (after m s s.now action) d r ≡ decided_for d (event_of m s s.now action))
  prints s (Decide n) r r2 on core late is = decides_here m checked d s n.0 (stands m checked s r) (stands m checked (after m s s.now (Decide n)) r2) (decides m s s.now n.0 on) core late is
  prints s action r r2 on core late is = absurd (cc)

  high_gives : (d < length m.config.domains → ⊥) → (s : State) (action : Action) → IsReached m s → IsReached m (after m s s.now action) → is_action_enabled m s s.now action ≡ true → All s (event_of m s s.now action) (after m s s.now action)
  high_gives high s action r r2 on =
      let k = stands m checked s r in
      let k2 = stands m checked (after m s s.now action) r2 in
      record {
        tracks = high_tracks m d high (event_of m s s.now action) s (after m s s.now action) k.known k2.known (prints s action r r2 on);
        holds = λ x is core n own. absurd (let none = no_core m d high (after m s s.now action) k2.known core in cc);
      }

  gives : (s : State) (action : Action) → IsReached m s → IsReached m (after m s s.now action) → is_action_enabled m s s.now action ≡ true → StateHolds d s → All s (event_of m s s.now action) (after m s s.now action)
  gives s action r r2 on holds = elim (dec_le (suc d) (length m.config.domains)) [
    | yes low ↦ low_gives (omega (arith, low)) s action r r2 on holds
    | no high ↦ high_gives (λ low. high (omega (arith, low))) s action r r2 on
  ]

  -- an entry
  entry_gives : (from : Reached) (entry : Entry) → IsNext m from entry → K m d from.state → All from.state entry.event (after_entry m from entry).state
  entry_gives from entry next k = by_action m (λ s e s2. StateHolds d s → All s e s2)
      (λ s e is holds. record { tracks = still_tracks m d e s s (quiet_none m d e is) (λ r. refl) refl; holds = holds })
      (λ s e n is holds. record { tracks = still_tracks m d e s (record s { now = n }) (quiet_none m d e is) (λ r. refl) refl; holds = holds })
      (λ s action r r2 on holds. gives s action r r2 on holds) from entry next k.reached k.holds

  -- no core has a unit of a number that is of no domain
  by_home : (s : State) → K m d s → (Q : Type 0) (r n : ℕ) → on_core s d r ≡ Some n → (HomeOf d s → Q) → Q
  by_home s k Q r n on here = elim (dec_le (suc d) (length m.config.domains)) [
    | yes low ↦ here (home_here m s d (stands m checked s k.reached).known (omega (arith, low)))
    | no high ↦ absurd (let none = no_core m d (λ low. high (omega (arith, low))) s (stands m checked s k.reached).known r in cc)
  ]

  pub cap_tracks : CapTracks m d (K m d)
  cap_tracks = record {
    opens = record { reached = reached_opening m; holds = λ x is r n on. absurd (let none = nobody_at_first m d r in cc) };
    nobody = nobody_at_first m d;
    full = full_at_first m d;
    low = λ s k r n on. by_home s k (r < machine_core_count m.config) r n on (λ home. (
        let known = (stands m checked s k.reached).known in
        on_low m s known d home.home home.pool home.at home.there r n (sym (on_is m s known d home.home home.pool home.at home.there r) ∙ on)));
    one = λ s k r j n on_r on_j. by_home s k (r ≡ j) r n on_r (λ home. (
        let known = (stands m checked s k.reached).known in
        on_one m s known d home.home home.pool home.at home.there r j n (sym (on_is m s known d home.home home.pool home.at home.there r) ∙ on_r) (sym (on_is m s known d home.home home.pool home.at home.there j) ∙ on_j)));
    holds = λ s k x is some r n on. (let it = k.holds x is r n on in (it.stop, it.stops, it.due, it.is, it.low some));
    known = λ from entry next k. record { reached = reached_next m from entry next k.reached; holds = (entry_gives from entry next k).holds };
    steps = λ from entry next k. (entry_gives from entry next k).tracks;
  }
