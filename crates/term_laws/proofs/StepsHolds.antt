-- A unit that a core has runs, and the core is due when what it holds is used up, if not before; an entry that leaves the domain as it is.
use Rattle.std.proofs.Common.{◌≡◌, ◌<◌, ℕ, Bool, true, false, refl, ap, subst, sym, ◌∙◌, cond}
use Rattle.std.specs.Prelude.{Option, Some, None, ℤ, pos, ◌≤ℤ◌}
use Rattle.sched_base.specs.Numbers.{moment}
use Rattle.sched_base.specs.declared.Moment.{Moment}
use Rattle.sched_model.specs.declared.event.Event.{Event}
use Rattle.sched_model.specs.declared.machine.Machine.{Machine}
use Rattle.sched_model.specs.declared.state.State.{State}
use Rattle.sched_model.specs.declared.state.Pool.{Pool}
use Rattle.sched_model.specs.declared.state.Credit2Domain.{Credit2Domain}
use Rattle.sched_model.specs.Places.{at_place, test_at}
use Rattle.sched_model.specs.Policy.{domain_credit2_record}
use Rattle.sched_base.proofs.Bools.{clash}
use Rattle.term_laws.specs.Term.{late_of, moves}
use Rattle.term_laws.proofs.Same.{cur_in}
use Rattle.term_laws.proofs.ReachedStates.{Known}
use Rattle.term_laws.specs.CapTerm.{cap_set, refills, cap_after, credit2_in}
use Rattle.term_laws.proofs.CapTracks.{Stops, GoesOn, EventTracks, cap_at, number_in, on_core, due_at}
use Rattle.term_laws.proofs.StepsDomain.{Kept}
use Rattle.term_laws.proofs.Same.{due_in}
use Rattle.term_laws.proofs.StepsSame.{RecordGoes, SameRecord, Same}
use Rattle.term_laws.proofs.StepsState.{credit2_is, on_is, due_is}

-- the unit runs, and a core that has it is due in time
pub record OnIt (x : Credit2Domain) (n : ℕ) (o : Option Moment) : Type 0 where
  pub stop : ℤ
  pub stops : Stops x n stop
  pub due : ℕ
  pub is : o ≡ Some (moment due)
  pub low : 0 < x.cap → pos due ≤ℤ stop

-- each core of the pool, and of the state
abbrev pub PoolHolds : ℕ → Pool → Type 0
PoolHolds d p = (x : Credit2Domain) → domain_credit2_record p.scheduler.records d ≡ Some x → (r n : ℕ) → number_in d (cur_in (at_place p.resources r)) ≡ Some n → OnIt x n (due_in (at_place p.resources r))

abbrev pub StateHolds : ℕ → State → Type 0
StateHolds d s = (x : Credit2Domain) → credit2_in s d ≡ Some x → (r n : ℕ) → on_core s d r ≡ Some n → OnIt x n (due_at s r)

module _ (m : Machine) (s : State) (k : Known m s) (d i : ℕ) (p : Pool) (at : at_place s.pools i ≡ Some p) (there : test_at p.domains d (λ x. true) ≡ true) where
  pub holds_in : StateHolds d s → PoolHolds d p
  holds_in h x is r n on = subst (OnIt x n) (due_is m s k d i p at there r n on) (h x (credit2_is m s k d i p at there ∙ is) r n (on_is m s k d i p at there r ∙ on))

  pub holds_out : PoolHolds d p → StateHolds d s
  holds_out h x is r n on =
      let on2 : number_in d (cur_in (at_place p.resources r)) ≡ Some n = sym (on_is m s k d i p at there r) ∙ on in
      subst (OnIt x n) (sym (due_is m s k d i p at there r n on2)) (h x (sym (credit2_is m s k d i p at there) ∙ is) r n on2)

-- a running unit that goes on, in a record with the same cap
pub on_it_kept : (x y : Credit2Domain) (n : ℕ) (o o2 : Option Moment) → y.cap ≡ x.cap → Kept x y n → o2 ≡ o → OnIt x n o → OnIt y n o2
on_it_kept x y n o o2 cap kept same a =
    let b = kept.goes a.stop a.stops in
    record {
      stop = b.0;
      stops = b.1;
      due = a.due;
      is = same ∙ a.is;
      low = λ some. (let some_x : 0 < x.cap = subst (λ (c : ℕ). 0 < c) cap some in subst (λ (z : ℤ). pos a.due ≤ℤ z) (sym (b.2 some_x)) (a.low some_x));
    }

pub on_it_goes : (x y : Credit2Domain) (n : ℕ) (o o2 : Option Moment) → RecordGoes x y → o2 ≡ o → OnIt x n o → OnIt y n o2
on_it_goes x y n o o2 goes same a = on_it_kept x y n o o2 goes.cap (goes.units n) same a

-- the record that was there before
pub record_before : (o o2 : Option Credit2Domain) → SameRecord o o2 → (y : Credit2Domain) → o2 ≡ Some y → (x : Credit2Domain) × (o ≡ Some x) × RecordGoes x y
record_before None o2 same y is = absurd (let e : None ≡ Some y = sym (same.none refl) ∙ is in cc)
record_before (Some x) o2 same y is =
    let z = same.some x refl in
    let e : Some z.0 ≡ Some y = sym z.1 ∙ is in
    let e2 : z.0 ≡ y = cc in
    (x, refl, subst (RecordGoes x) e2 z.2)

pub pool_holds_same : (d : ℕ) (p q : Pool) → Same d p q → PoolHolds d p → PoolHolds d q
pool_holds_same d p q same h y is r n on =
    let b = record_before (domain_credit2_record p.scheduler.records d) (domain_credit2_record q.scheduler.records d) same.records y is in
    let on_p : number_in d (cur_in (at_place p.resources r)) ≡ Some n = ap (number_in d) (sym (same.curs r)) ∙ on in
    on_it_goes b.0 y n (due_in (at_place p.resources r)) (due_in (at_place q.resources r)) b.2 (same.dues (b.0, b.1) r n on_p) (h b.0 b.1 r n on_p)

-- the cap of a record that goes on
abbrev pub cap_of : Option Credit2Domain → ℕ
cap_of o = elim o [ None ↦ 0 | Some x ↦ x.cap ]

pub cap_same : (o o2 : Option Credit2Domain) → SameRecord o o2 → cap_of o2 ≡ cap_of o
cap_same None o2 same = ap cap_of (same.none refl)
cap_same (Some x) o2 same = (let y = same.some x refl in ap cap_of y.1 ∙ y.2.cap)

-- what a step leaves
pub record StepGives (m : Machine) (d : ℕ) (s s2 : State) (e : Event) : Type 0 where
  pub tracks : EventTracks m d e s s2
  pub holds : StateHolds d s2

-- the event is no decision, no refill of the domain, and neither sets its cap nor moves it
pub record IsNone (m : Machine) (d : ℕ) (e : Event) : Type 0 where
  pub late : (r : ℕ) → late_of r e ≡ None
  pub stays : moves d e ≡ false
  pub sets : cap_set m d e ≡ None
  pub refill : refills d e ≡ false

pub cap_stays : (m : Machine) (d n : ℕ) (e : Event) → moves d e ≡ false → cap_set m d e ≡ None → cap_after m d n e ≡ n
cap_stays m d n e stays sets = ap (λ (o : Option ℕ). elim o as (λ _. ℕ) [ Some given ↦ given | None ↦ cond (moves d e) 0 n ]) sets ∙ ap (λ (b : Bool). cond b 0 n) stays

-- a step from a state to the next one, in the pools that have the domain
module _ (m : Machine) (d : ℕ) (s s2 : State) (k : Known m s) (k2 : Known m s2) (i i2 : ℕ) (p q : Pool) (at : at_place s.pools i ≡ Some p) (there : test_at p.domains d (λ x. true) ≡ true) (at2 : at_place s2.pools i2 ≡ Some q) (there2 : test_at q.domains d (λ x. true) ≡ true) where
  pub on_before : (r : ℕ) → on_core s d r ≡ number_in d (cur_in (at_place p.resources r))
  on_before r = on_is m s k d i p at there r

  pub on_after : (r : ℕ) → on_core s2 d r ≡ number_in d (cur_in (at_place q.resources r))
  on_after r = on_is m s2 k2 d i2 q at2 there2 r

  pub was : (x : Credit2Domain) → credit2_in s d ≡ Some x → domain_credit2_record p.scheduler.records d ≡ Some x
  was x is = sym (credit2_is m s k d i p at there) ∙ is

  pub is_now : (y : Credit2Domain) → credit2_in s2 d ≡ Some y → domain_credit2_record q.scheduler.records d ≡ Some y
  is_now y is = sym (credit2_is m s2 k2 d i2 q at2 there2) ∙ is

  pub caps_same : SameRecord (domain_credit2_record p.scheduler.records d) (domain_credit2_record q.scheduler.records d) → cap_at s2 d ≡ cap_at s d
  caps_same same = ap cap_of (credit2_is m s2 k2 d i2 q at2 there2) ∙ cap_same (domain_credit2_record p.scheduler.records d) (domain_credit2_record q.scheduler.records d) same ∙ sym (ap cap_of (credit2_is m s k d i p at there))

  -- nothing is decided, set, refilled or moved
  pub none_tracks : (e : Event) → IsNone m d e → Same d p q → EventTracks m d e s s2
  none_tracks e none same = record {
    stays = λ r is. on_after r ∙ ap (number_in d) (same.curs r) ∙ sym (on_before r);
    decides = λ r late is. absurd (let no = none.late r in cc);
    cap = caps_same same.records ∙ sym (cap_stays m d (cap_at s d) e none.stays none.sets);
    moved = λ r is. absurd (clash (moves d e) is none.stays);
    set_budget = λ percent y is y_is. absurd (let no = none.sets in cc);
    set_stops = λ percent y is y_is n stop stops. absurd (let no = none.sets in cc);
    refilled = λ x y is x_is some y_is. absurd (clash (refills d e) is none.refill);
    decided = λ r late x y is x_is some y_is. absurd (let no = none.late r in cc);
    goes = λ x y ends late x_is some y_is. (
        let b = record_before (domain_credit2_record p.scheduler.records d) (domain_credit2_record q.scheduler.records d) same.records y (is_now y y_is) in
        let e1 : Some b.0 ≡ Some x = sym b.1 ∙ was x x_is in
        let e2 : b.0 ≡ x = cc in
        goes_on x y some (subst (λ (z : Credit2Domain). RecordGoes z y) e2 b.2));
  }
    where
      goes_on : (x y : Credit2Domain) → 0 < x.cap → RecordGoes x y → GoesOn x y
      goes_on x y some goes = record { budget = goes.budget; others = λ n stop stops. (let c = (goes.units n).goes stop stops in subst (Stops y n) (c.2 some) c.1) }
