-- A core decides: what becomes of a domain, in its pool and in the state.
use Rattle.sched_base.specs.Numbers.{core}
use Rattle.std.proofs.Common.{◌≡◌, ◌≢◌, ◌<◌, ℕ, true, refl, arith, ap, subst, sym, ◌∙◌}
use Rattle.std.specs.Prelude.{Option, Some, None, is_some, slice_get, pos, ◌+ℤ◌}
use Rattle.std.proofs.lemmas.Int.{ints}
use Rattle.std.proofs.Math.Decide.{ℕ_discrete}
use Rattle.sched_base.specs.Credit2Numbers.{positive_part}
use Rattle.sched_model.specs.declared.action.Action.TheVariants.{Decide}
use Rattle.sched_model.specs.declared.machine.Machine.{Machine}
use Rattle.sched_model.specs.declared.state.State.{State}
use Rattle.sched_model.specs.declared.state.Pool.{Pool}
use Rattle.sched_model.specs.declared.state.Resource.{Resource}
use Rattle.sched_model.specs.declared.state.Credit2Unit.{Credit2Unit}
use Rattle.sched_model.specs.declared.state.Credit2Domain.{Credit2Domain}
use Rattle.sched_model.specs.CheckedMachine.{IsChecked}
use Rattle.sched_model.specs.Places.{at_place, test_at}
use Rattle.sched_model.specs.EligibleUnits.{Decision}
use Rattle.sched_model.specs.Policy.{domain_credit2_record}
use Rattle.sched_model.specs.Pool.{settled_pool, lateness}
use Rattle.sched_model.specs.Machine.{after, event_of}
use Rattle.sched_laws.proofs.EachPlace.{is_empty}
use Rattle.sched_laws.proofs.Lists.{test_at-some, is_some_at}
use Rattle.term_laws.specs.Term.{late_of, late_now}
use Rattle.term_laws.proofs.Same.{cur_in}
use Rattle.term_laws.proofs.ActsIn.{core_is_in}
use Rattle.term_laws.proofs.ActsIn.{home_pools_same, acts_here, acts_elsewhere}
use Rattle.term_laws.proofs.Deciding as deciding
use Rattle.term_laws.proofs.Deciding.{late_other}
use Rattle.term_laws.specs.CapTerm.{credit2_in}
use Rattle.term_laws.proofs.CapTracks.{Decides, cap_at, number_in, on_core, decided_for}
use Rattle.term_laws.proofs.StepsDomain.{ArePast}
use Rattle.term_laws.proofs.StepsSame.{same_record}
use Rattle.term_laws.proofs.StepsState.{Stands, HomeOf, credit2_is, on_is, on_one, on_core_cur, are_past, is_recorded}
use Rattle.term_laws.proofs.StepsHolds.{StepGives, PoolHolds, StateHolds, holds_in, holds_out, cap_of, on_before, on_after, was, is_now, caps_same}
use Rattle.term_laws.proofs.StepsDeciding.{the_decision, next_pool, core_next, cur_here, cur_there, none_after, some_after, holds_decided, capped_decides}

module _ (m : Machine) (checked : IsChecked m) (d : ℕ) (s : State) (n : ℕ) (k : Stands m s) (k2 : Stands m (after m s s.now (Decide (core n)))) (dec : deciding.Decides m s s.now n) where
  abbrev s2 : State
  s2 = after m s s.now (Decide (core n))

  abbrev g : ℕ
  g = m.config.granularity

  abbrev q : Pool
  q = dec.acts.pool

  abbrev next : Pool
  next = next_pool g s.now n dec.core q dec.has d

  abbrev the_unit : Decision
  the_unit = the_decision g s.now n dec.core q dec.has d

  pub at_next : at_place s2.pools dec.acts.j ≡ Some next
  at_next = acts_here m s s.now (Decide (core n)) dec.acts ∙ ap (λ (x : Pool). Some (settled_pool s.now x)) dec.next

  pub at_other : (i : ℕ) → dec.acts.j ≢ i → at_place s2.pools i ≡ at_place s.pools i
  at_other = acts_elsewhere m s s.now (Decide (core n)) dec.acts

  -- what is printed
  prints : number_in d (the_unit).unit ≡ decided_for d (event_of m s s.now (Decide (core n)))
  prints = ap (λ (x : Decision). number_in d x.unit) dec.unit

  pub is_core : (r late : ℕ) → late_of r (event_of m s s.now (Decide (core n))) ≡ Some late → n ≡ r
  is_core r late is = elim (ℕ_discrete n r) [ yes e ↦ e | no ne ↦ absurd (let no = late_other m s s.now n r ne in let e : None ≡ Some late = sym no ∙ is in cc) ]

  pub not_core : (r : ℕ) → late_of r (event_of m s s.now (Decide (core n))) ≡ None → n ≢ r
  not_core r is e = (let here = dec.late in let is_n : late_of n (event_of m s s.now (Decide (core n))) ≡ None = subst (λ j. late_of j (event_of m s s.now (Decide (core n))) ≡ None) (sym e) is in let e2 : None ≡ Some (lateness s.now dec.core) = sym is_n ∙ here in cc)

  late_is : late_now s n ≡ lateness s.now dec.core
  late_is = ap (λ (o : Option Resource). elim o as (λ _. ℕ) [ None ↦ 0 | Some c ↦ lateness s.now c ]) (core_is_in s dec.acts.j n q dec.core k.known.apart dec.acts.at dec.has)

  pub on_next : on_core s2 d n ≡ number_in d (the_unit).unit
  on_next =
      let c2 = core_next g s.now n dec.core q dec.has d in
      on_core_cur s2 d n ∙ ap (λ (o : Option Resource). number_in d (cur_in o)) (core_is_in s2 dec.acts.j n next c2.0 k2.known.apart at_next c2.1 ∙ sym c2.1) ∙ ap (number_in d) (cur_here g s.now n dec.core q dec.has d)

  pub decides_here : (r late : ℕ) → late_of r (event_of m s s.now (Decide (core n))) ≡ Some late → (late ≡ late_now s r) × (on_core s2 d r ≡ decided_for d (event_of m s s.now (Decide (core n))))
  decides_here r late is =
      let e = is_core r late is in
      subst (λ j. (late ≡ late_now s j) × (on_core s2 d j ≡ decided_for d (event_of m s s.now (Decide (core n))))) e (
        (
            let is_n : late_of n (event_of m s s.now (Decide (core n))) ≡ Some late = subst (λ j. late_of j (event_of m s s.now (Decide (core n))) ≡ Some late) (sym e) is in
            let e2 : Some late ≡ Some (lateness s.now dec.core) = sym is_n ∙ dec.late in
            let e3 : late ≡ lateness s.now dec.core = cc in
            e3 ∙ sym late_is),
        on_next ∙ prints,
      )

  -- no other pool has the core
  pub no_core : (i : ℕ) (p : Pool) → at_place s.pools i ≡ Some p → dec.acts.j ≢ i → at_place p.resources n ≡ None
  no_core i p at ne = is_empty (at_place p.resources n) (λ c has. ne (k.known.apart.cores dec.acts.j i n (test_at-some s.pools dec.acts.j (λ x. is_some (at_place x.resources n)) q dec.acts.at (is_some_at (at_place q.resources n) dec.core dec.has)) (test_at-some s.pools i (λ x. is_some (at_place x.resources n)) p at (is_some_at (at_place p.resources n) c has))))

  -- the pool of the core has the domain
  module _ (there : test_at q.domains d (λ x. true) ≡ true) (holds : StateHolds d s) where
    pool_holds : PoolHolds d q
    pool_holds = holds_in m s k.known d dec.acts.j q dec.acts.at there holds

    past : (x : Credit2Domain) → domain_credit2_record q.scheduler.records d ≡ Some x → ArePast s.now x.units
    past x is = are_past m checked s k d dec.acts.j q dec.acts.at x is

    recorded : (y : Credit2Domain) → domain_credit2_record (the_unit).records d ≡ Some y → (r j : ℕ) → number_in d (cur_in (at_place next.resources r)) ≡ Some j → (z : Credit2Unit) × (slice_get y.units j ≡ Some z)
    recorded y is r j on = is_recorded m checked s2 k2 d dec.acts.j next at_next y is r j on

    one : (r k3 j : ℕ) → number_in d (cur_in (at_place q.resources r)) ≡ Some j → number_in d (cur_in (at_place q.resources k3)) ≡ Some j → r ≡ k3
    one r k3 j a b = on_one m s k.known d dec.acts.j q dec.acts.at there r k3 j a b

    one_next : (r k3 j : ℕ) → number_in d (cur_in (at_place next.resources r)) ≡ Some j → number_in d (cur_in (at_place next.resources k3)) ≡ Some j → r ≡ k3
    one_next r k3 j a b = on_one m s2 k2.known d dec.acts.j next at_next there r k3 j a b

    caps : cap_at s2 d ≡ cap_at s d
    caps = ap cap_of (credit2_is m s2 k2.known d dec.acts.j next at_next there) ∙ go (domain_credit2_record q.scheduler.records d) refl ∙ sym (ap cap_of (credit2_is m s k.known d dec.acts.j q dec.acts.at there))
      where
        go : (o : Option Credit2Domain) → domain_credit2_record q.scheduler.records d ≡ o → cap_of (domain_credit2_record (the_unit).records d) ≡ cap_of (domain_credit2_record q.scheduler.records d)
        go None is = ap cap_of (none_after g s.now n dec.core q dec.has d is) ∙ sym (ap cap_of is)
        go (Some x) is = (let y = some_after g s.now n dec.core q dec.has d x is (past x is) pool_holds in ap cap_of y.1 ∙ y.2.decides.cap ∙ sym (ap cap_of is))

    own_decides : StepGives m d s s2 (event_of m s s.now (Decide (core n)))
    own_decides = record {
      tracks = record {
        stays = λ r is. on_is m s2 k2.known d dec.acts.j next at_next there r ∙ ap (number_in d) (cur_there g s.now n dec.core q dec.has d r (not_core r is)) ∙ sym (on_is m s k.known d dec.acts.j q dec.acts.at there r);
        decides = decides_here;
        cap = caps;
        moved = λ r is. absurd (cc);
        set_budget = λ percent y is y_is. absurd (cc);
        set_stops = λ percent y is y_is i stop stops. absurd (cc);
        refilled = λ x y is x_is some y_is. absurd (cc);
        decided = λ r late x y is x_is some y_is. subst (λ j. Decides s.now (on_core s d j) (on_core s2 d j) x y) (is_core r late is) (decided_here x y x_is some y_is);
        goes = λ x y ends late x_is some y_is. absurd (not_core n (late n) refl);
      };
      holds = holds_out m s2 k2.known d dec.acts.j next at_next there (holds_decided g s.now n dec.core q dec.has d past pool_holds recorded one one_next);
    }
      where
        decided_here : (x y : Credit2Domain) → credit2_in s d ≡ Some x → 0 < x.cap → credit2_in s2 d ≡ Some y → Decides s.now (on_core s d n) (on_core s2 d n) x y
        decided_here x y x_is some y_is =
            let had_is : on_core s d n ≡ number_in d dec.core.cur = on_is m s k.known d dec.acts.j q dec.acts.at there n ∙ ap (λ (o : Option Resource). number_in d (cur_in o)) dec.has in
            subst (λ (o : Option ℕ). Decides s.now o (on_core s2 d n) x y) (sym had_is) (subst (λ (o : Option ℕ). Decides s.now (number_in d dec.core.cur) o x y) (sym on_next)
            (capped_decides g s.now n dec.core q dec.has d past pool_holds recorded one one_next x y (sym (credit2_is m s k.known d dec.acts.j q dec.acts.at there) ∙ x_is) some (sym (credit2_is m s2 k2.known d dec.acts.j next at_next there) ∙ y_is)))

  -- another pool has it
  module _ (i : ℕ) (p : Pool) (at : at_place s.pools i ≡ Some p) (there : test_at p.domains d (λ x. true) ≡ true) (ne : dec.acts.j ≢ i) (holds : StateHolds d s) where
    at2 : at_place s2.pools i ≡ Some p
    at2 = at_other i ne ∙ at

    nothing : (x y : Credit2Domain) → x ≡ y → Decides s.now None None x y
    nothing x y same = subst (λ (z : Credit2Domain). Decides s.now None None x z) same (record {
      given = pos 0;
      taken = pos 0;
      gives_back = refl;
      takes = refl;
      budget = (let e : x.budget +ℤ pos 0 ≡ x.budget = omega (arith, ints) in let e2 = ap positive_part e in omega (arith, e2));
      others = λ j stop a b stops. stops;
    })

    other_decides : StepGives m d s s2 (event_of m s s.now (Decide (core n)))
    other_decides = record {
      tracks = record {
        stays = λ r is. on_after m d s s2 k.known k2.known i i p p at there at2 there r ∙ sym (on_before m d s s2 k.known k2.known i i p p at there at2 there r);
        decides = decides_here;
        cap = caps_same m d s s2 k.known k2.known i i p p at there at2 there (same_record (domain_credit2_record p.scheduler.records d) (domain_credit2_record p.scheduler.records d) refl);
        moved = λ r is. absurd (cc);
        set_budget = λ percent y is y_is. absurd (cc);
        set_stops = λ percent y is y_is j stop stops. absurd (cc);
        refilled = λ x y is x_is some y_is. absurd (cc);
        decided = λ r late x y is x_is some y_is. subst (λ j. Decides s.now (on_core s d j) (on_core s2 d j) x y) (is_core r late is) (decided_there x y x_is y_is);
        goes = λ x y ends late x_is some y_is. absurd (not_core n (late n) refl);
      };
      holds = holds_out m s2 k2.known d i p at2 there (holds_in m s k.known d i p at there holds);
    }
      where
        decided_there : (x y : Credit2Domain) → credit2_in s d ≡ Some x → credit2_in s2 d ≡ Some y → Decides s.now (on_core s d n) (on_core s2 d n) x y
        decided_there x y x_is y_is =
            let e1 : Some x ≡ Some y = sym (was m d s s2 k.known k2.known i i p p at there at2 there x x_is) ∙ is_now m d s s2 k.known k2.known i i p p at there at2 there y y_is in
            let e2 : x ≡ y = cc in
            let none = ap (λ (o : Option Resource). number_in d (cur_in o)) (no_core i p at ne) in
            subst (λ (o : Option ℕ). Decides s.now o (on_core s2 d n) x y) (sym (on_before m d s s2 k.known k2.known i i p p at there at2 there n ∙ none))
            (subst (λ (o : Option ℕ). Decides s.now None o x y) (sym (on_after m d s s2 k.known k2.known i i p p at there at2 there n ∙ none)) (nothing x y e2))

  pub decide_gives : HomeOf d s → StateHolds d s → StepGives m d s s2 (event_of m s s.now (Decide (core n)))
  decide_gives home holds =
      elim (ℕ_discrete dec.acts.j home.home) [
        | yes e ↦ (
            let same : home.pool ≡ q = home_pools_same s home.home dec.acts.j home.pool q home.at dec.acts.at (sym e) in
            own_decides (subst (λ (p : Pool). test_at p.domains d (λ x. true) ≡ true) same home.there) holds)
        | no ne ↦ other_decides home.home home.pool home.at home.there ne holds
      ]
