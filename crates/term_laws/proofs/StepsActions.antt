-- Each action, and what becomes of a domain that a pool has.
use Rattle.term_laws.proofs.AtHome.{IfOk}
use Rattle.sched_base.specs.Numbers.{domain}
use Rattle.std.proofs.Common.{◌≡◌, ℕ, true, refl, subst, sym, ◌∙◌}
use Rattle.std.specs.Prelude.{Option, Some, None, slice_get}
use Rattle.std.proofs.Math.Decide.{ℕ_discrete}
use Rattle.std.proofs.lemmas.Bool.{ne_eqb}
use Rattle.sched_model.specs.declared.action.Action.{Action}
use Rattle.sched_model.specs.declared.action.Action.TheVariants.{Xl, DomMoved, Refill, Decide}
use Rattle.sched_model.specs.declared.machine.Machine.{Machine}
use Rattle.sched_model.specs.declared.work.CommandLine.{CommandLine}
use Rattle.sched_model.specs.declared.state.State.{State}
use Rattle.sched_model.specs.CheckedMachine.{IsChecked}
use Rattle.sched_model.specs.Machine.{is_action_enabled, event_of, after, line_verdict}
use Rattle.term_laws.proofs.ActsIn.{acts_in}
use Rattle.term_laws.proofs.Deciding.{decides}
use Rattle.term_laws.proofs.StepsSame.{same_refl, SetsOther}
use Rattle.term_laws.proofs.StepsSame.{SameAt, LeavesIt, sat_after}
use Rattle.term_laws.proofs.Same.{PlanLeaves}
use Rattle.term_laws.proofs.StepsSame.{sat_dom_moved}
use Rattle.term_laws.proofs.StepsState.{Stands, HomeOf}
use Rattle.term_laws.proofs.StepsHolds.{StepGives, StateHolds, IsNone, holds_in, holds_out, pool_holds_same, none_tracks}
use Rattle.term_laws.proofs.StepsDecide.{decide_gives}
use Rattle.term_laws.proofs.StepsRefill.{refill_gives}
use Rattle.term_laws.proofs.StepsPlans.{verdict_cap, event_sets, verdict_leaves, sets_it}
use Rattle.term_laws.proofs.StepsXl.{line_is, set_gives}
use Rattle.term_laws.proofs.StepsMoved.{moved_gives}

module _ (m : Machine) (checked : IsChecked m) (d : ℕ) (s : State) (k : Stands m s) (home : HomeOf d s) (holds : StateHolds d s) where
  abbrev Gives : Action → Type 0
  Gives action = StepGives m d s (after m s s.now action) (event_of m s s.now action)

  -- a step that leaves the domain as it is
  by_same : (action : Action) → Stands m (after m s s.now action) → IsNone m d (event_of m s s.now action) → SameAt d home.home home.pool home.there (after m s s.now action) → Gives action
  by_same action k2 none a =
      record {
        tracks = none_tracks m d s (after m s s.now action) k.known k2.known home.home home.home home.pool a.pool home.at home.there a.at (a.same.there ∙ home.there) (event_of m s s.now action) none a.same;
        holds = holds_out m (after m s s.now action) k2.known d home.home a.pool a.at (a.same.there ∙ home.there) (pool_holds_same d home.pool a.pool a.same (holds_in m s k.known d home.home home.pool home.at home.there holds));
      }

  same_now : SameAt d home.home home.pool home.there s
  same_now = record { pool = home.pool; at = home.at; same = same_refl d home.pool }

  by_leaving : (action : Action) → LeavesIt d m s action → is_action_enabled m s s.now action ≡ true → Stands m (after m s s.now action) → IsNone m d (event_of m s s.now action) → Gives action
  by_leaving action leaves on k2 none = by_same action k2 none (sat_after d home.home home.pool home.there m s.now action s leaves k.known.apart on same_now)

  xl_gives : is_action_enabled m s s.now Xl ≡ true → Stands m (after m s s.now Xl) → Gives Xl
  xl_gives on k2 = (let l = line_is m s s.now on in go l.0 l.1 (verdict_cap d (line_verdict m s l.0)) refl)
    where
      go : (line : CommandLine) → slice_get m.work.commands s.next_command ≡ Some line → (o : Option ℕ) → verdict_cap d (line_verdict m s line) ≡ o → Gives Xl
      go line is None none =
          by_leaving Xl
          (λ line2 is2. (let e : Some line ≡ Some line2 = sym is ∙ is2 in let e2 : line ≡ line2 = cc in subst (λ (l : CommandLine). IfOk (PlanLeaves (SetsOther d)) (line_verdict m s l)) e2 (verdict_leaves d (line_verdict m s line) none)))
          on k2 (record { late = λ r. refl; stays = refl; sets = event_sets m s d s.now line is ∙ none; refill = refl })
      go line is (Some n) some = (let p = sets_it d n (line_verdict m s line) some in set_gives m d s k k2 home line is n p.0 p.1 p.2 holds)

  moved_any : (e : ℕ) → is_action_enabled m s s.now (DomMoved (domain e)) ≡ true → Stands m (after m s s.now (DomMoved (domain e))) → HomeOf d (after m s s.now (DomMoved (domain e))) → Gives (DomMoved (domain e))
  moved_any e on k2 home2 = elim (ℕ_discrete e d) [
    | yes same ↦ (
        let own : is_action_enabled m s s.now (DomMoved (domain d)) ≡ true → Stands m (after m s s.now (DomMoved (domain d))) → HomeOf d (after m s s.now (DomMoved (domain d))) → Gives (DomMoved (domain d)) = λ on2 k3 home3. moved_gives m d s k k3 (acts_in m s s.now (DomMoved (domain d)) on2) home3 in
        subst (λ (n : ℕ). is_action_enabled m s s.now (DomMoved (domain n)) ≡ true → Stands m (after m s s.now (DomMoved (domain n))) → HomeOf d (after m s s.now (DomMoved (domain n))) → Gives (DomMoved (domain n))) (sym same) own on k2 home2)
    | no other ↦ by_same (DomMoved (domain e)) k2 (record { late = λ r. refl; stays = ne_eqb e d other; sets = refl; refill = refl }) (sat_dom_moved d home.home home.pool home.there e other m.config.granularity s.now s same_now)
  ]

  refill_any : (e : ℕ) → is_action_enabled m s s.now (Refill (domain e)) ≡ true → Stands m (after m s s.now (Refill (domain e))) → Gives (Refill (domain e))
  refill_any e on k2 = elim (ℕ_discrete e d) [
    | yes same ↦ (
        let own : is_action_enabled m s s.now (Refill (domain d)) ≡ true → Stands m (after m s s.now (Refill (domain d))) → Gives (Refill (domain d)) = λ on2 k3. refill_gives m checked d s k k3 (acts_in m s s.now (Refill (domain d)) on2) home holds in
        subst (λ (n : ℕ). is_action_enabled m s s.now (Refill (domain n)) ≡ true → Stands m (after m s s.now (Refill (domain n))) → Gives (Refill (domain n))) (sym same) own on k2)
    | no other ↦ by_leaving (Refill (domain e)) other on k2 (record { late = λ r. refl; stays = refl; sets = refl; refill = ne_eqb e d other })
  ]

  pub action_gives : (action : Action) → is_action_enabled m s s.now action ≡ true → Stands m (after m s s.now action) → HomeOf d (after m s s.now action) → Gives action
  action_gives Xl on k2 home2 = xl_gives on k2
  action_gives (DomMoved e) on k2 home2 = moved_any e.0 on k2 home2
  action_gives (Refill e) on k2 home2 = refill_any e.0 on k2
  action_gives (Decide n) on k2 home2 = decide_gives m checked d s n.0 k k2 (decides m s s.now n.0 on) home holds
  action_gives action on k2 home2 = by_leaving action tt on k2 (record { late = λ r. refl; stays = refl; sets = refl; refill = refl })
