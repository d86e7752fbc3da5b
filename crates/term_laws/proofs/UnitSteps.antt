-- What each entry of a run does to an RTDS unit, put together.
use Rattle.std.proofs.Common.{◌≡◌, ◌<◌, ℕ, suc, true, false, length, refl, arith, ap, subst, sym, ◌∙◌}
use Rattle.std.specs.Prelude.{Some, None, Ok, Err, Result, option_map}
use Rattle.std.proofs.Math.Decide.{dec_le, ℕ_discrete}
use Rattle.std.proofs.lemmas.Bool.{eq-eqb}
use Rattle.sched_base.specs.Numbers.{domain}
use Rattle.sched_base.specs.declared.UnitId.{UnitId}
use Rattle.sched_base.proofs.Bools.{clash}
use Rattle.sched_model.specs.declared.action.Action.{Action}
use Rattle.sched_model.specs.declared.action.Action.TheVariants.{Xl, DomMoved, Repl, Decide}
use Rattle.sched_model.specs.declared.event.Event.{Event}
use Rattle.sched_model.specs.declared.event.Event.TheVariants as event
use Rattle.sched_model.specs.declared.event.Entry.{Entry}
use Rattle.sched_model.specs.declared.event.Refusal.{Refusal}
use Rattle.sched_model.specs.declared.plan.Plan.{Plan}
use Rattle.sched_model.specs.declared.plan.Plan.TheVariants as plan
use Rattle.term_laws.proofs.AtHome.{IfOk}
use Rattle.term_laws.proofs.Same.{PlanLeaves}
use Rattle.sched_model.specs.declared.machine.Machine.{Machine}
use Rattle.sched_model.specs.declared.state.State.{State}
use Rattle.sched_model.specs.declared.state.RtdsUnit.{RtdsUnit}
use Rattle.sched_model.specs.Places.{same_unit}
use Rattle.sched_model.specs.CheckedMachine.{IsChecked}
use Rattle.sched_model.specs.Opening.{opening}
use Rattle.sched_model.specs.Policy.{unit_rtds_record}
use Rattle.sched_model.specs.Machine.{is_action_enabled, event_of, after, line_verdict}
use Rattle.sched_model.specs.Runs.{Reached, event_action, after_entry, IsNext}
use Rattle.sched_laws.proofs.Choices.{same_unit_same}
use Rattle.term_laws.specs.Term.{late_of, moves}
use Rattle.term_laws.specs.RtdsTerm.{rtds_in}
use Rattle.term_laws.proofs.UnitFollowed.{same_refl, charged}
use Rattle.term_laws.proofs.UnitFollowed.{SameAt, LeavesIt, sat_after}
use Rattle.term_laws.proofs.UnitFollowed.{sat_dom_moved}
use Rattle.term_laws.proofs.ReachedStates as reached
use Rattle.term_laws.proofs.ReachedStates.{IsReached, by_action}
use Rattle.term_laws.proofs.ActsIn.{acts_in}
use Rattle.term_laws.proofs.Deciding.{decides}
use Rattle.term_laws.proofs.CapTracks.{due_at, EventTracks}
use Rattle.term_laws.proofs.StepsState.{Stands, stands, HomeOf, home_here}
use Rattle.term_laws.proofs.StepsStill.{no_read}
use Rattle.term_laws.proofs.CapSteps.{K, cap_tracks}
use Rattle.term_laws.proofs.UnitTracks.{HasIt, renews, UnitTracks, UnitHolds, holds_after}
use Rattle.term_laws.proofs.UnitSame.{same_tracks}
use Rattle.term_laws.proofs.UnitDecides.{decide_tracks}
use Rattle.term_laws.proofs.UnitRenewed.{own_renewed, other_renewed}

-- each plan leaves it
any_plan : (p : Plan) → PlanLeaves (λ e limit. Unit {0}) p
any_plan (plan.Credit2Dom e weight limit answer) = tt
any_plan p = tt

any_verdict : (v : Result Plan Refusal) → IfOk (PlanLeaves (λ e limit. Unit {0})) v
any_verdict (Ok p) = any_plan p
any_verdict (Err fault) = tt

module _ (m : Machine) (checked : IsChecked m) (u : UnitId) where
  -- the domain is one of the machine
  module _ (s : State) (k : Stands m s) (home : HomeOf u.dom.0 s) where
    abbrev Tracks : Action → Type 0
    Tracks action = UnitTracks m u (event_of m s s.now action) s (after m s s.now action)

    same_now : SameAt u home.home home.pool home.there s
    same_now = record { pool = home.pool; at = home.at; same = same_refl u home.pool }

    by_same : (action : Action) → Stands m (after m s s.now action) → ((r : ℕ) → late_of r (event_of m s s.now action) ≡ None) → renews u (event_of m s s.now action) ≡ false → SameAt u home.home home.pool home.there (after m s s.now action) → Tracks action
    by_same action k2 late_none not_renewed a =
        same_tracks m u (event_of m s s.now action) s (after m s s.now action) k.known k2.known home.home home.home home.pool a.pool home.at home.there a.at (a.same.there ∙ home.there) late_none not_renewed a.same

    moved_tracks : (e : ℕ) → EventTracks m u.dom.0 (event_of m s s.now (DomMoved (domain e))) s (after m s s.now (DomMoved (domain e))) → Stands m (after m s s.now (DomMoved (domain e))) → Tracks (DomMoved (domain e))
    moved_tracks e cores k2 = elim (ℕ_discrete e u.dom.0) [
      | yes own ↦ record {
        renewed = λ is. absurd (cc);
        decided = λ r late is. absurd (cc);
        taken = λ r late y is on y_is. absurd (cc);
        goes = λ none not_renewed stays. absurd (clash (moves u.dom.0 (event_of m s s.now (DomMoved (domain e)))) (eq-eqb e u.dom.0 own) stays);
        due = λ x r due x_is on none is. absurd (let nobody = cores.moved r (eq-eqb e u.dom.0 own) in let c : None ≡ Some u.n = sym nobody ∙ on in cc);
      }
      | no other ↦ by_same (DomMoved (domain e)) k2 (λ r. refl) refl (sat_dom_moved u home.home home.pool home.there e other m.config.granularity s.now s same_now)
    ]

    leaving_tracks : (action : Action) → LeavesIt u m s action → is_action_enabled m s s.now action ≡ true → Stands m (after m s s.now action) → ((r : ℕ) → late_of r (event_of m s s.now action) ≡ None) → renews u (event_of m s s.now action) ≡ false → Tracks action
    leaving_tracks action leaves on k2 late_none not_renewed = by_same action k2 late_none not_renewed (sat_after u home.home home.pool home.there m s.now action s leaves k.known.apart on same_now)

    home_tracks : (action : Action) → is_action_enabled m s s.now action ≡ true → EventTracks m u.dom.0 (event_of m s s.now action) s (after m s s.now action) → Stands m (after m s s.now action) → renews u (event_of m s s.now action) ≡ false → Tracks action
    home_tracks (Decide n) on cores k2 not_renewed = decide_tracks m checked u s n.0 k k2 (decides m s s.now n.0 on) home
    home_tracks (Repl v) on cores k2 not_renewed = other_renewed m u s v k k2 (acts_in m s s.now (Repl v) on) home not_renewed
    home_tracks (DomMoved e) on cores k2 not_renewed = moved_tracks e.0 cores k2
    home_tracks Xl on cores k2 not_renewed = leaving_tracks Xl (λ line is. any_verdict (line_verdict m s line)) on k2 (λ r. refl) refl
    home_tracks action on cores k2 not_renewed = leaving_tracks action tt on k2 (λ r. refl) refl

  -- a number that is of no domain
  high_tracks : (u.dom.0 < length m.config.domains → ⊥) → (e : Event) (s s2 : State) → reached.Known m s → reached.Known m s2 → renews u e ≡ false → UnitTracks m u e s s2
  high_tracks high e s s2 k k2 not_renewed =
      let none = no_read m u.dom.0 high s k RtdsUnit (λ records. unit_rtds_record records u) in
      let none2 = no_read m u.dom.0 high s2 k2 RtdsUnit (λ records. unit_rtds_record records u) in
      record {
        renewed = λ is. absurd (clash (renews u e) is not_renewed);
        decided = λ r late is. none2 ∙ sym (ap (option_map _) none);
        taken = λ r late y is on y_is. absurd (let c : None ≡ Some y = sym none2 ∙ y_is in cc);
        goes = λ late_none not_renewed2 stays. ap charged none2 ∙ sym (ap charged none);
        due = λ x r due x_is on late_none is. absurd (let c : None ≡ Some x = sym none ∙ x_is in cc);
      }

  -- another action than the unit's replenishment
  others : (s : State) (action : Action) → IsReached m s → IsReached m (after m s s.now action) → is_action_enabled m s s.now action ≡ true → EventTracks m u.dom.0 (event_of m s s.now action) s (after m s s.now action) → renews u (event_of m s s.now action) ≡ false → UnitTracks m u (event_of m s s.now action) s (after m s s.now action)
  others s action r r2 on cores not_renewed =
      let k = stands m checked s r in
      let k2 = stands m checked (after m s s.now action) r2 in
      elim (dec_le (suc u.dom.0) (length m.config.domains)) [
        | yes low ↦ home_tracks s k (home_here m s u.dom.0 k.known (omega (arith, low))) action on cores k2 not_renewed
        | no high ↦ high_tracks (λ low. high (omega (arith, low))) (event_of m s s.now action) s (after m s s.now action) k.known k2.known not_renewed
      ]

  renewed : (s : State) (v : UnitId) → IsReached m s → IsReached m (after m s s.now (Repl v)) → is_action_enabled m s s.now (Repl v) ≡ true → same_unit v u ≡ true → UnitTracks m u (event_of m s s.now (Repl v)) s (after m s s.now (Repl v))
  renewed s v r r2 on is =
      subst (λ (w : UnitId). IsReached m (after m s s.now (Repl w)) → is_action_enabled m s s.now (Repl w) ≡ true → UnitTracks m u (event_of m s s.now (Repl w)) s (after m s s.now (Repl w))) (sym (same_unit_same v u is))
      (λ r3 on2. own_renewed m u s (stands m checked s r) (stands m checked (after m s s.now (Repl u)) r3) (acts_in m s s.now (Repl u) on2)) r2 on

  unit_action : (s : State) (action : Action) → IsReached m s → IsReached m (after m s s.now action) → is_action_enabled m s s.now action ≡ true → EventTracks m u.dom.0 (event_of m s s.now action) s (after m s s.now action) → UnitTracks m u (event_of m s s.now action) s (after m s s.now action)
  unit_action s (Repl v) r r2 on cores = elim (same_unit v u) as (λ b. same_unit v u ≡ b → UnitTracks m u (event_of m s s.now (Repl v)) s (after m s s.now (Repl v))) [
    | true ↦ λ is. renewed s v r r2 on is
    | false ↦ λ is. others s (Repl v) r r2 on cores is
  ] refl
  unit_action s action r r2 on cores = others s action r r2 on cores refl

  -- an entry without an action
  quiet_is : (e : Event) → event_action e ≡ None → ((r : ℕ) → late_of r e ≡ None) × (renews u e ≡ false)
  quiet_is (event.End n) is = (λ r. refl, refl)
  quiet_is event.Finish is = (λ r. refl, refl)
  quiet_is _ is = absurd (cc)

  still_tracks : (e : Event) (s s2 : State) → event_action e ≡ None → rtds_in s2 u ≡ rtds_in s u → ((r : ℕ) → due_at s2 r ≡ due_at s r) → UnitTracks m u e s s2
  still_tracks e s s2 is same dues =
      let quiet = quiet_is e is in
      record {
        renewed = λ is2. absurd (clash (renews u e) is2 quiet.1);
        decided = λ r late is2. absurd (let no = quiet.0 r in cc);
        taken = λ r late y is2 on y_is. absurd (let no = quiet.0 r in cc);
        goes = λ none not_renewed stays. ap charged same;
        due = λ x r due x_is on none is2. (due, dues r ∙ is2, omega arith);
      }

  unit_entry : (from : Reached) (entry : Entry) → IsNext m from entry → IsReached m from.state → EventTracks m u.dom.0 entry.event from.state (after_entry m from entry).state → UnitTracks m u entry.event from.state (after_entry m from entry).state
  unit_entry = by_action m (λ s e s2. EventTracks m u.dom.0 e s s2 → UnitTracks m u e s s2)
      (λ s e is cores. still_tracks e s s is refl (λ r. refl))
      (λ s e n is cores. still_tracks e s (record s { now = n }) is refl (λ r. refl))
      (λ s action r r2 on. unit_action s action r r2 on)

  -- what is known of the states of runs
  pub record Known (s : State) : Type 0 where
    pub cores : K m u.dom.0 s
    pub holds : UnitHolds u s

  pub at_first : Known (opening m)
  at_first = record { cores = (cap_tracks m checked u.dom.0).opens; holds = λ x is r on. absurd (let none = (cap_tracks m checked u.dom.0).nobody r in let c : None ≡ Some u.n = sym none ∙ on in cc) }

  -- what an entry does to the cores, and to the unit
  pub cores_step : (from : Reached) (entry : Entry) → IsNext m from entry → Known from.state → EventTracks m u.dom.0 entry.event from.state (after_entry m from entry).state
  cores_step from entry next known = (cap_tracks m checked u.dom.0).steps from entry next known.cores

  pub unit_step : (from : Reached) (entry : Entry) → IsNext m from entry → Known from.state → UnitTracks m u entry.event from.state (after_entry m from entry).state
  unit_step from entry next known = unit_entry from entry next known.cores.reached (cores_step from entry next known)

  -- the unit is on one core at most
  pub one_core : (s : State) → Known s → (r n : ℕ) → HasIt u s r → HasIt u s n → r ≡ n
  one_core s known r n a b = (cap_tracks m checked u.dom.0).one s known.cores r n u.n a b

  pub known_next : (from : Reached) (entry : Entry) → IsNext m from entry → Known from.state → Known (after_entry m from entry).state
  known_next from entry next known =
      let cores = (cap_tracks m checked u.dom.0).known from entry next known.cores in
      record {
        cores = cores;
        holds = holds_after m u entry.event from.state (after_entry m from entry).state (cores_step from entry next known) (unit_step from entry next known) (one_core from.state known)
            (λ r n a b. (cap_tracks m checked u.dom.0).one (after_entry m from entry).state cores r n u.n a b) known.holds;
      }
