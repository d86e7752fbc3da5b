-- A core decides: what becomes of an RTDS unit.
use Rattle.std.proofs.Common.{◌≡◌, ◌≢◌, ◌+◌, ℕ, Bool, true, false, List, refl, arith, ap, subst, sym, ◌∙◌}
use Rattle.std.specs.Prelude.{Option, Some, None, option_map}
use Rattle.std.proofs.Math.Decide.{ℕ_discrete}
use Rattle.sched_base.specs.Numbers.{core, moment}
use Rattle.sched_base.specs.declared.UnitId.{UnitId}
use Rattle.sched_model.specs.declared.action.Action.TheVariants.{Decide}
use Rattle.sched_model.specs.declared.ask.Ask.{Ask}
use Rattle.sched_model.specs.declared.config.SchedKind.{SchedKind}
use Rattle.sched_model.specs.declared.config.SchedKind.TheVariants as kinds
use Rattle.sched_model.specs.declared.machine.Machine.{Machine}
use Rattle.sched_model.specs.declared.state.State.{State}
use Rattle.sched_model.specs.declared.state.Pool.{Pool}
use Rattle.sched_model.specs.declared.state.Resource.{Resource}
use Rattle.sched_model.specs.declared.state.Scheduler.{Scheduler}
use Rattle.sched_model.specs.declared.state.Records.{Records}
use Rattle.sched_model.specs.declared.state.Records.TheVariants.{Credit2Pool, RtdsPool, ArincPool, NullPool}
use Rattle.sched_model.specs.declared.state.RtdsUnit.{RtdsUnit}
use Rattle.sched_model.specs.CheckedMachine.{IsChecked}
use Rattle.sched_model.specs.Places.{at_place, test_at, is_unit}
use Rattle.sched_model.specs.EligibleUnits.{Decision, rtds_unit_at}
use Rattle.sched_model.specs.Policy.{decision_of, decision_by, records_kind, unit_rtds_record}
use Rattle.sched_model.specs.Pool.{core_ask, after_decide, decided_core}
use Rattle.sched_model.specs.Rtds.{own_burned_domains, unit_left_budget, rtds_choice, rtds_decision_for}
use Rattle.sched_model.specs.Machine.{after, event_of}
use Rattle.sched_laws.proofs.Choices.{same_unit_same}
use Rattle.record_laws.proofs.RtdsSeen.{burned_at, unit_decided}
use Rattle.term_laws.specs.RtdsTerm.{rtds_in}
use Rattle.term_laws.proofs.UnitFollowed.{Same, same_refl, same_settled, charged}
use Rattle.term_laws.proofs.Same.{cur_in}
use Rattle.term_laws.proofs.AtPlaces.{at_place-put_at}
use Rattle.term_laws.proofs.ActsIn.{home_pools_same}
use Rattle.term_laws.proofs.Deciding as deciding
use Rattle.term_laws.proofs.Deciding.{kind_decided}
use Rattle.term_laws.proofs.CapTracks.{number_in, on_core, due_at}
use Rattle.term_laws.proofs.Same.{due_in}
use Rattle.term_laws.proofs.StepsState.{Stands, HomeOf, on_is}
use Rattle.term_laws.proofs.StepsDeciding.{the_decision, next_pool, cur_there, core_there, due_decided}
use Rattle.term_laws.proofs.StepsDecide.{at_next, at_other, is_core, not_core, on_next, no_core}
use Rattle.term_laws.proofs.UnitTracks.{is_number, yes_number, HasIt, charged_if, after_decision, as_decided, UnitTracks}
use Rattle.term_laws.proofs.UnitSame.{number_unit, no_rtds, rtds_is, has_number, due_here, has_still}

map_self : (o : Option RtdsUnit) → option_map (λ (x : RtdsUnit). x) o ≡ o
map_self None = refl
map_self (Some x) = refl

module _ (u : UnitId) where
  -- what a decision does to the unit's record, and when the core is due that has the unit then
  pub record UnitDecides (t : ℕ) (had : Bool) (o : Option RtdsUnit) (d : Decision) : Type 0 where
    pub next : unit_rtds_record d.records u ≡ option_map (after_decision t had (is_unit d.unit u)) o
    pub due : (x : RtdsUnit) → o ≡ Some x → is_unit d.unit u ≡ true → d.due ≡ Some (moment (t + (charged_if had t x).left))

  rtds_decides : (ask : Ask) (domains : List (Option (List RtdsUnit))) (c : Option UnitId) → UnitDecides ask.at.0 (is_unit ask.cur u) (rtds_unit_at domains u) (rtds_decision_for ask (own_burned_domains ask.cur ask.at.0 domains) c)
  rtds_decides ask domains None = record { next = unit_decided ask domains None u; due = λ x at is. absurd (cc) }
  rtds_decides ask domains (Some w) = record {
    next = unit_decided ask domains (Some w) u;
    due = λ x at is. (
        let burned : List (Option (List RtdsUnit)) = own_burned_domains ask.cur ask.at.0 domains in
        let left : unit_left_budget burned u ≡ (charged_if (is_unit ask.cur u) ask.at.0 x).left = ap (λ (o : Option RtdsUnit). elim o as (λ _. ℕ) [ None ↦ 0 | Some z ↦ z.left ]) (burned_at u ask.cur ask.at.0 domains ∙ ap (option_map (charged_if (is_unit ask.cur u) ask.at.0)) at) in
        subst (λ (v : UnitId). Some (moment (ask.at.0 + unit_left_budget burned v)) ≡ Some (moment (ask.at.0 + (charged_if (is_unit ask.cur u) ask.at.0 x).left))) (sym (same_unit_same w u is))
        (ap (λ (n : ℕ). Some (moment (ask.at.0 + n))) left));
  }

  pub unit_decides : (ask : Ask) (scheduler : Scheduler) → UnitDecides ask.at.0 (is_unit ask.cur u) (unit_rtds_record scheduler.records u) (decision_of ask scheduler)
  unit_decides ask scheduler = go scheduler.records refl
    where
      other : (records : Records) (kind : SchedKind) → scheduler.records ≡ records → records_kind records ≡ kind → (kind ≡ kinds.Rtds → ⊥) → UnitDecides ask.at.0 (is_unit ask.cur u) (unit_rtds_record scheduler.records u) (decision_of ask scheduler)
      other records kind is kind_is differs =
          let kind_before : records_kind scheduler.records ≡ kind = ap records_kind is ∙ kind_is in
          let none = no_rtds scheduler.records u kind kind_before differs in
          let none2 = no_rtds (decision_of ask scheduler).records u kind (kind_decided ask scheduler ∙ kind_before) differs in
          record {
            next = none2 ∙ sym (ap (option_map (after_decision ask.at.0 (is_unit ask.cur u) (is_unit (decision_of ask scheduler).unit u))) none);
            due = λ x at is2. absurd (let e : None ≡ Some x = sym none ∙ at in cc);
          }

      go : (records : Records) → scheduler.records ≡ records → UnitDecides ask.at.0 (is_unit ask.cur u) (unit_rtds_record scheduler.records u) (decision_of ask scheduler)
      go (RtdsPool domains) is = subst (λ (r : Records). UnitDecides ask.at.0 (is_unit ask.cur u) (unit_rtds_record r u) (decision_by r ask scheduler)) (sym is) (rtds_decides ask domains (rtds_choice ask scheduler (own_burned_domains ask.cur ask.at.0 domains)))
      go (Credit2Pool own) is = other (Credit2Pool own) kinds.Credit2 is refl (λ e. cc)
      go (ArincPool own) is = other (ArincPool own) kinds.Arinc653 is refl (λ e. cc)
      go (NullPool kept) is = other (NullPool kept) kinds.Null is refl (λ e. cc)

module _ (m : Machine) (checked : IsChecked m) (u : UnitId) (s : State) (n : ℕ) (k : Stands m s) (k2 : Stands m (after m s s.now (Decide (core n)))) (dec : deciding.Decides m s s.now n) where
  abbrev d : ℕ
  d = u.dom.0

  abbrev s2 : State
  s2 = after m s s.now (Decide (core n))

  abbrev q : Pool
  q = dec.acts.pool

  abbrev decided : Pool
  decided = after_decide m.config.granularity s.now n dec.core dec.acts.pool

  abbrev next : Pool
  next = next_pool m.config.granularity s.now n dec.core dec.acts.pool dec.has u.dom.0

  abbrev choice : Decision
  choice = the_decision m.config.granularity s.now n dec.core dec.acts.pool dec.has u.dom.0

  -- the pool of the core has the unit's domain
  module _ (there : test_at dec.acts.pool.domains u.dom.0 (λ x. true) ≡ true) where
    next_is : at_place s2.pools dec.acts.j ≡ Some next
    next_is = at_next m checked u.dom.0 s n k k2 dec

    it_decides : UnitDecides u s.now (is_unit dec.core.cur u) (unit_rtds_record q.scheduler.records u) choice
    it_decides = unit_decides u (core_ask m.config.granularity s.now dec.acts.pool n dec.core) dec.acts.pool.scheduler

    was : rtds_in s u ≡ unit_rtds_record q.scheduler.records u
    was = rtds_is m u s k.known dec.acts.j q dec.acts.at there

    is_now : rtds_in s2 u ≡ unit_rtds_record choice.records u
    is_now = rtds_is m u s2 k2.known dec.acts.j next next_is there

    had_is : is_unit dec.core.cur u ≡ is_number u.n (on_core s d n)
    had_is = sym (number_unit u dec.core.cur) ∙ ap (is_number u.n) (sym (on_is m s k.known d dec.acts.j q dec.acts.at there n ∙ ap (λ (o : Option Resource). number_in d (cur_in o)) dec.has))

    has_is : is_unit choice.unit u ≡ is_number u.n (on_core s2 d n)
    has_is = sym (number_unit u choice.unit) ∙ ap (is_number u.n) (sym (on_next m checked d s n k k2 dec))

    settles : Same u decided next
    settles = same_settled u s.now decided decided (same_refl u decided)

    -- the record that is there before is there afterwards
    goes_on : (x : RtdsUnit) → rtds_in s u ≡ Some x → unit_rtds_record choice.records u ≡ Some (after_decision s.now (is_unit dec.core.cur u) (is_unit choice.unit u) x)
    goes_on x at = it_decides.next ∙ ap (option_map (after_decision s.now (is_unit dec.core.cur u) (is_unit choice.unit u))) (sym was ∙ at)

    came_from : (y : RtdsUnit) → rtds_in s2 u ≡ Some y → (x : RtdsUnit) × (unit_rtds_record q.scheduler.records u ≡ Some x) × (y.left ≡ (charged_if (is_unit dec.core.cur u) s.now x).left)
    came_from y at = go (unit_rtds_record q.scheduler.records u) refl
      where
        go : (o : Option RtdsUnit) → unit_rtds_record q.scheduler.records u ≡ o → (x : RtdsUnit) × (o ≡ Some x) × (y.left ≡ (charged_if (is_unit dec.core.cur u) s.now x).left)
        go None none = absurd (let e : None ≡ Some y = sym (it_decides.next ∙ ap (option_map (after_decision s.now (is_unit dec.core.cur u) (is_unit choice.unit u))) none) ∙ sym is_now ∙ at in cc)
        go (Some x) some =
            let e : Some y ≡ Some (after_decision s.now (is_unit dec.core.cur u) (is_unit choice.unit u) x) = sym at ∙ is_now ∙ it_decides.next ∙ ap (option_map (after_decision s.now (is_unit dec.core.cur u) (is_unit choice.unit u))) some in
            let e2 : y ≡ after_decision s.now (is_unit dec.core.cur u) (is_unit choice.unit u) x = cc in
            (x, refl, ap (λ (z : RtdsUnit). z.left) e2 ∙ (as_decided s.now (is_unit dec.core.cur u) (is_unit choice.unit u) x).left)

    own_decided : rtds_in s2 u ≡ option_map (after_decision s.now (is_number u.n (on_core s d n)) (is_number u.n (on_core s2 d n))) (rtds_in s u)
    own_decided =
        is_now ∙ it_decides.next ∙ ap (λ (b : Bool). option_map (after_decision s.now b (is_unit choice.unit u)) (unit_rtds_record q.scheduler.records u)) had_is
        ∙ ap (λ (b : Bool). option_map (after_decision s.now (is_number u.n (on_core s d n)) b) (unit_rtds_record q.scheduler.records u)) has_is
        ∙ ap (option_map (after_decision s.now (is_number u.n (on_core s d n)) (is_number u.n (on_core s2 d n)))) (sym was)

    own_taken : (y : RtdsUnit) → HasIt u s2 n → rtds_in s2 u ≡ Some y → due_at s2 n ≡ Some (moment (s.now + y.left))
    own_taken y on at =
        let x = came_from y at in
        let has : is_unit choice.unit u ≡ true = has_is ∙ yes_number u.n (on_core s2 d n) on in
        let put : at_place decided.resources n ≡ Some (decided_core s.now choice dec.core) = at_place-put_at n (decided_core s.now choice dec.core) dec.core q.resources dec.has in
        due_here m u s2 k2.known dec.acts.j next next_is there n on
        ∙ settles.dues (y, sym is_now ∙ at) n u.n (ap (number_in u.dom.0) (sym (settles.curs n)) ∙ has_number m u s2 k2.known dec.acts.j next next_is there n on)
        ∙ ap due_in put ∙ due_decided s.now choice dec.core ∙ it_decides.due x.0 x.1 has ∙ ap (λ (j : ℕ). Some (moment (s.now + j))) (sym x.2)

    own_tracks : UnitTracks m u (event_of m s s.now (Decide (core n))) s s2
    own_tracks = record {
      renewed = λ is. absurd (cc);
      decided = λ r late is. subst (λ (j : ℕ). rtds_in s2 u ≡ option_map (after_decision s.now (is_number u.n (on_core s d j)) (is_number u.n (on_core s2 d j))) (rtds_in s u)) (is_core m checked d s n k k2 dec r late is) own_decided;
      taken = λ r late y is. subst (λ (j : ℕ). HasIt u s2 j → rtds_in s2 u ≡ Some y → due_at s2 j ≡ Some (moment (s.now + y.left))) (is_core m checked d s n k k2 dec r late is) (own_taken y);
      goes = λ late_none not_renewed stays. absurd (not_core m checked d s n k k2 dec n (late_none n) refl);
      due = λ x r due x_is on none is. (
          let other : n ≢ r = not_core m checked d s n k k2 dec r none in
          let there_is = core_there m.config.granularity s.now n dec.core q dec.has d r other in
          let on2 = has_still m u (event_of m s s.now (Decide (core n))) s s2 k.known k2.known dec.acts.j dec.acts.j q next dec.acts.at there next_is there r (cur_there m.config.granularity s.now n dec.core q dec.has d r other) on in (
            due,
            due_here m u s2 k2.known dec.acts.j next next_is there r on2
                ∙ settles.dues (after_decision s.now (is_unit dec.core.cur u) (is_unit choice.unit u) x, goes_on x x_is) r u.n (ap (λ (o : Option Resource). number_in u.dom.0 (cur_in o)) there_is ∙ has_number m u s k.known dec.acts.j q dec.acts.at there r on)
                ∙ ap due_in there_is ∙ sym (due_here m u s k.known dec.acts.j q dec.acts.at there r on) ∙ is,
            omega arith,
          ));
    }

  -- another pool has it
  module _ (i : ℕ) (p : Pool) (at : at_place s.pools i ≡ Some p) (there : test_at p.domains u.dom.0 (λ x. true) ≡ true) (ne : dec.acts.j ≢ i) where
    still_at : at_place s2.pools i ≡ Some p
    still_at = at_other m checked d s n k k2 dec i ne ∙ at

    record_still : rtds_in s2 u ≡ rtds_in s u
    record_still = rtds_is m u s2 k2.known i p still_at there ∙ sym (rtds_is m u s k.known i p at there)

    not_on : (x : State) (kx : Stands m x) → at_place x.pools i ≡ Some p → on_core x d n ≡ None
    not_on x kx at_x = on_is m x kx.known d i p at_x there n ∙ ap (λ (o : Option Resource). number_in d (cur_in o)) (no_core m checked d s n k k2 dec i p at ne)

    other_decided : rtds_in s2 u ≡ option_map (after_decision s.now (is_number u.n (on_core s d n)) (is_number u.n (on_core s2 d n))) (rtds_in s u)
    other_decided =
        record_still ∙ sym (map_self (rtds_in s u))
        ∙ sym (ap (λ (o : Option ℕ). option_map (after_decision s.now (is_number u.n o) (is_number u.n (on_core s2 d n))) (rtds_in s u)) (not_on s k at)
        ∙ ap (λ (o : Option ℕ). option_map (after_decision s.now false (is_number u.n o)) (rtds_in s u)) (not_on s2 k2 still_at))

    other_tracks : UnitTracks m u (event_of m s s.now (Decide (core n))) s s2
    other_tracks = record {
      renewed = λ is. absurd (cc);
      decided = λ r late is. subst (λ (j : ℕ). rtds_in s2 u ≡ option_map (after_decision s.now (is_number u.n (on_core s d j)) (is_number u.n (on_core s2 d j))) (rtds_in s u)) (is_core m checked d s n k k2 dec r late is) other_decided;
      taken = λ r late y is on y_is. absurd (
          let here : HasIt u s2 n = subst (HasIt u s2) (sym (is_core m checked d s n k k2 dec r late is)) on in
          let e : None ≡ Some u.n = sym (not_on s2 k2 still_at) ∙ here in
          cc);
      goes = λ late_none not_renewed stays. ap charged record_still;
      due = λ x r due x_is on none is. (
          let on2 = has_still m u (event_of m s s.now (Decide (core n))) s s2 k.known k2.known i i p p at there still_at there r refl on in
          (due, due_here m u s2 k2.known i p still_at there r on2 ∙ sym (due_here m u s k.known i p at there r on) ∙ is, omega arith));
    }

  pub decide_tracks : HomeOf u.dom.0 s → UnitTracks m u (event_of m s s.now (Decide (core n))) s s2
  decide_tracks home =
      elim (ℕ_discrete dec.acts.j home.home) [
        | yes e ↦ (let same = home_pools_same s home.home dec.acts.j home.pool q home.at dec.acts.at (sym e) in own_tracks (subst (λ (p : Pool). test_at p.domains u.dom.0 (λ x. true) ≡ true) same home.there))
        | no ne ↦ other_tracks home.home home.pool home.at home.there ne
      ]
