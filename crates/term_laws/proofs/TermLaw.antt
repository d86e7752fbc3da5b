-- The law of the terms of an RTDS unit: what each entry of a run does to its legs and its budget, within its terms and outside of them.
use Rattle.std.proofs.Common.{◌≡◌, ◌≤◌, [], ◌∷◌, ◌+◌, ◌-◌, ℕ, Bool, true, false, List, refl, arith, ap, subst, sym, ◌∙◌, ◌⊎◌, inl, inr, cond, ◌==◌}
use Rattle.std.specs.Prelude.{Option, Some, None, is_some, option_map, max, min, ◌&&◌}
use Rattle.std.specs.List.{AllByRecursion}
use Rattle.std.proofs.Math.Decide.{ℕ_discrete}
use Rattle.sched_base.specs.declared.UnitId.{UnitId}
use Rattle.sched_base.proofs.Bools.{clash}
use Rattle.sched_base.proofs.Lists.{AllByRecursion-map}
use Rattle.sched_base.specs.Numbers.{moment}
use Rattle.sched_model.specs.declared.event.Event.{Event}
use Rattle.sched_model.specs.declared.event.Event.TheVariants as event
use Rattle.sched_model.specs.declared.event.Entry.{Entry}
use Rattle.sched_model.specs.declared.machine.Machine.{Machine}
use Rattle.sched_model.specs.declared.state.State.{State}
use Rattle.sched_model.specs.declared.state.RtdsUnit.{RtdsUnit}
use Rattle.sched_model.specs.Places.{same_unit}
use Rattle.sched_model.specs.Rtds.{unit_after_span, unit_burned_to, unit_after_replenish}
use Rattle.sched_model.specs.CheckedMachine.{IsChecked}
use Rattle.sched_model.specs.Runs.{Reached, after_entry, after_entries, IsNext, IsRunFrom}
use Rattle.sched_laws.proofs.Counts.{same_unit_refl}
use Rattle.sched_laws.proofs.Lists.{some_same}
use Rattle.term_laws.specs.Term.{Leg, Term, late_now, late_of, leg_from, moves}
use Rattle.term_laws.specs.RtdsTerm.{RtdsTerm, taken_by, legs, term_end, opened_by, opened_terms, rtds_in, KeepsTerm}
use Rattle.term_laws.specs.CapTerm.{taken_for}
use Rattle.term_laws.proofs.CapTracks.{decided_for, on_core, due_at, EventTracks}
use Rattle.term_laws.proofs.CapLegs.{DecidesNone, DecidesOne, decides}
use Rattle.term_laws.proofs.Time.{time_goes_on}
use Rattle.term_laws.proofs.CapStep.{late_is_due}
use Rattle.term_laws.proofs.TermSums.{Open, Fits, fits_nil, fits_unmet, fits_closed, fits_over, fits_later, leg_from-open, leg_from-closed, legs_with, with_closed, begun_at, legs-still, legs-decided, term_end-goes, term_end-moves, term_end-le}
use Rattle.term_laws.proofs.UnitFollowed.{charged, charged_back}
use Rattle.term_laws.proofs.UnitTracks.{is_number, yes_number, not_number, HasIt, charged_if, after_decision, as_decided, burned_to, less_left, renews, Renewed, UnitTracks, decided_is, decided_past, charged_still}
use Rattle.term_laws.proofs.UnitSteps.{Known, cores_step, unit_step, known_next, one_core}

-- the unit, which has an RTDS record, is on the core, which is due at a moment at the latest
pub record IsOn (u : UnitId) (r latest : ℕ) (s : State) : Type 0 where
  pub on : HasIt u s r
  pub unit : RtdsUnit
  pub at : rtds_in s u ≡ Some unit
  pub due : ℕ
  pub is_due : due_at s r ≡ Some (moment due)
  pub low : due ≤ latest

-- what is late of it now
pub late_at_least : (u : UnitId) (r latest : ℕ) (s : State) → IsOn u r latest s → s.now ≤ latest + late_now s r
late_at_least u r latest s on = (let e = late_is_due s r on.due on.is_due in let low = on.low in omega (arith, e, low))

-- the core that decides for the unit, if one does
taken_is : (u : UnitId) (e : Event) → taken_by u e ≡ cond (is_number u.n (decided_for u.dom.0 e)) (taken_for u.dom.0 e) None
taken_is u (event.Decide r None due late reset) = refl
taken_is u (event.Decide r (Some w) due late reset) =
    elim (w.dom.0 == u.dom.0) as (λ b. cond (b && (w.n == u.n)) (Some r.0) None ≡ cond (is_number u.n (cond b (Some w.n) None)) (cond b (Some r.0) None) None) [ true ↦ refl | false ↦ refl ]
taken_is u _ = refl

is_the_number : (n : ℕ) (o : Option ℕ) → is_number n o ≡ true → o ≡ Some n
is_the_number n None is = absurd (cc)
is_the_number n (Some k) is = (let e : k ≡ n = grind (arith, is) in ap (λ (j : ℕ). Some j) e)

taken_none : (u : UnitId) (e : Event) → DecidesNone u.dom.0 e → taken_by u e ≡ None
taken_none u e quiet = taken_is u e ∙ never (is_number u.n (decided_for u.dom.0 e)) (taken_for u.dom.0 e) quiet.taken
  where
    never : (b : Bool) (o : Option ℕ) → o ≡ None → cond b o None ≡ None
    never true o is = is
    never false o is = refl

-- a decision for another unit
taken_past : (u : UnitId) (e : Event) → is_number u.n (decided_for u.dom.0 e) ≡ false → taken_by u e ≡ None
taken_past u e other = taken_is u e ∙ ap (λ (b : Bool). cond b (taken_for u.dom.0 e) None) other

taken_here : (u : UnitId) (e : Event) (one : DecidesOne u.dom.0 e) → is_number u.n (decided_for u.dom.0 e) ≡ true → taken_by u e ≡ Some one.core
taken_here u e one own =
    taken_is u e ∙ ap (λ (b : Bool). cond b (taken_for u.dom.0 e) None) own ∙ one.taken ∙ ap (option_map (λ (k : ℕ). one.core)) (is_the_number u.n (decided_for u.dom.0 e) own)

-- a decision moves no domain
late_stays : (d r late : ℕ) (e : Event) → late_of r e ≡ Some late → moves d e ≡ false
late_stays d r late (event.Decide core unit due printed reset) is = refl
late_stays d r late _ is = absurd (cc)

-- an event that opens a term of the unit replenishes it
opens_renews : (u : UnitId) (t : ℕ) (e : Event) (entries : List Entry) (term : RtdsTerm) → opened_by u t e entries ≡ Some term → renews u e ≡ true
opens_renews u t (event.Repl w start deadline budget extra) entries term is = go (same_unit w u) is
  where
    go : (b : Bool) → cond b (Some (record { term = record { from = t; until = term_end u.dom.0 deadline.0 entries; budget = budget.0 }; delay = t - start.0; extra = extra })) None ≡ Some term → b ≡ true
    go true is2 = refl
    go false is2 = absurd (cc)
opens_renews u t _ entries term is = absurd (cc)

-- the term that is opened
abbrev opened_term : UnitId → ℕ → RtdsUnit → List Entry → RtdsTerm
opened_term u t x entries = record { term = record { from = t; until = term_end u.dom.0 x.deadline entries; budget = x.budget }; delay = t - (x.deadline - x.period); extra = x.extra }

-- a term begins at the moment of the entry that opens it
opened_by-starts : (u : UnitId) (t : ℕ) (e : Event) (entries : List Entry) (term : RtdsTerm) → opened_by u t e entries ≡ Some term → term.term.from ≡ t
opened_by-starts u t (event.Repl w start deadline budget extra) entries term is =
    elim (same_unit w u) as (λ b. cond b (Some (record { term = record { from = t; until = term_end u.dom.0 deadline.0 entries; budget = budget.0 }; delay = t - start.0; extra = extra })) None ≡ Some term → term.term.from ≡ t) [
      | true ↦ λ h. let same : record { term = record { from = t; until = term_end u.dom.0 deadline.0 entries; budget = budget.0 }; delay = t - start.0; extra = extra } ≡ term = cc in sym (ap (λ (x : RtdsTerm). x.term.from) same)
      | false ↦ λ h. absurd (cc)
    ] is
opened_by-starts u t _ entries term is = absurd (cc)

-- the unit is on this core, or on none
abbrev pub OnCore : UnitId → Open → State → Type 0
OnCore u None s = (r : ℕ) → HasIt u s r → ⊥
OnCore u (Some leg) s = HasIt u s leg.0

-- the leg has begun by a moment; the moment from which it counts in a term that began at one
abbrev pub HasBegun : Open → ℕ → Type 0
HasBegun None now = Unit {0}
HasBegun (Some leg) now = leg.1 ≤ now

abbrev pub counted : ℕ → Open → Option ℕ
counted from None = None
counted from (Some leg) = Some (max leg.1 from)

-- the unit's record is without extra time, with so much left at most, up to the deadline, and was charged last at this moment, if one is given
pub record HasLeft (u : UnitId) (left deadline : ℕ) (charged_at : Option ℕ) (s : State) : Type 0 where
  pub unit : RtdsUnit
  pub at : rtds_in s u ≡ Some unit
  pub few : unit.left ≤ left
  pub plain : unit.extra ≡ false
  pub ends : unit.deadline ≡ deadline
  pub runs : (b : ℕ) → charged_at ≡ Some b → unit.burned ≡ Some b

-- what is left after a decision
abbrev left_after : ℕ → Option ℕ → ℕ → ℕ
left_after left None t = left
left_after left (Some b) t = left - (t - b)

-- what an event leaves of a record
module _ (u : UnitId) (left deadline : ℕ) (s s2 : State) where
  left_charged : (b : Option ℕ) → charged (rtds_in s2 u) ≡ charged (rtds_in s u) → HasLeft u left deadline b s → HasLeft u left deadline b s2
  left_charged b same h =
      let c = charged_back (rtds_in s2 u) h.unit (sym (same ∙ ap charged h.at)) in
      let few = h.few in
      let e = c.2.left in
      record { unit = c.0; at = c.1; few = omega (arith, few, e); plain = sym c.2.extra ∙ h.plain; ends = sym c.2.deadline ∙ h.ends; runs = λ n is. sym c.2.burned ∙ h.runs n is }

  left_decided : (b : Option ℕ) (has : Bool) → rtds_in s2 u ≡ option_map (after_decision s.now (is_some b) has) (rtds_in s u) → HasLeft u left deadline b s → HasLeft u (left_after left b s.now) deadline (cond has (Some s.now) None) s2
  left_decided b has is h = record {
    unit = after_decision s.now (is_some b) has h.unit;
    at = is ∙ ap (option_map (after_decision s.now (is_some b) has)) h.at;
    few = (let e = (as_decided s.now (is_some b) has h.unit).left in let less = left_now b h.runs in omega (arith, e, less));
    plain = (as_decided s.now (is_some b) has h.unit).extra ∙ plain_now b h.runs ∙ h.plain;
    ends = (as_decided s.now (is_some b) has h.unit).deadline ∙ ends_now b h.runs ∙ h.ends;
    runs = runs_now has;
  }
    where
      charge : (n : ℕ) → h.unit.burned ≡ Some n → unit_burned_to s.now h.unit ≡ unit_after_span (s.now - n) (record h.unit { burned = Some s.now })
      charge n runs = burned_to s.now n h.unit runs

      left_now : (o : Option ℕ) → ((n : ℕ) → o ≡ Some n → h.unit.burned ≡ Some n) → (charged_if (is_some o) s.now h.unit).left ≤ left_after left o s.now
      left_now None runs = h.few
      left_now (Some n) runs = (let e = ap (λ (z : RtdsUnit). z.left) (charge n (runs n refl)) in let less = less_left left (s.now - n) h.unit h.few h.plain in omega (arith, e, less))

      plain_now : (o : Option ℕ) → ((n : ℕ) → o ≡ Some n → h.unit.burned ≡ Some n) → (charged_if (is_some o) s.now h.unit).extra ≡ h.unit.extra
      plain_now None runs = refl
      plain_now (Some n) runs = ap (λ (z : RtdsUnit). z.extra) (charge n (runs n refl))

      ends_now : (o : Option ℕ) → ((n : ℕ) → o ≡ Some n → h.unit.burned ≡ Some n) → (charged_if (is_some o) s.now h.unit).deadline ≡ h.unit.deadline
      ends_now None runs = refl
      ends_now (Some n) runs = ap (λ (z : RtdsUnit). z.deadline) (charge n (runs n refl))

      runs_now : (c : Bool) → (n : ℕ) → cond c (Some s.now) None ≡ Some n → (after_decision s.now (is_some b) c h.unit).burned ≡ Some n
      runs_now true n same = same
      runs_now false n same = absurd (cc)

-- an entry by which the unit's open leg goes on, as its record, or it is none yet
pub record Stays (u : UnitId) (leg : Open) (entry : Entry) (s s2 : State) : Type 0 where
  pub open_still : (l : ℕ × ℕ) → leg ≡ Some l → late_of l.0 entry.event ≡ None
  pub none : taken_by u entry.event ≡ None
  pub on : OnCore u leg s2
  pub account : renews u entry.event ≡ false → moves u.dom.0 entry.event ≡ false → charged (rtds_in s2 u) ≡ charged (rtds_in s u)

-- an entry by which the core of the open leg decides, or one that takes the unit
pub record Decided (u : UnitId) (leg : Open) (entry : Entry) (s s2 : State) : Type 0 where
  pub taken : Option ℕ
  pub closes : (l : ℕ × ℕ) → leg ≡ Some l → late_of l.0 entry.event ≡ Some (late_now s l.0)
  pub takes : taken_by u entry.event ≡ taken
  pub on : OnCore u (begun_at entry.at.0 taken) s2
  pub stays : moves u.dom.0 entry.event ≡ false
  pub account : rtds_in s2 u ≡ option_map (after_decision s.now (is_some leg) (is_some taken)) (rtds_in s u)

module _ (m : Machine) (checked : IsChecked m) (u : UnitId) where
  -- the unit is on a core, which is due in time
  is_on : (deadline left r b : ℕ) (s : State) → Known m checked u s → HasIt u s r → HasLeft u left deadline (Some b) s → IsOn u r (b + left) s
  is_on deadline left r b s known on h =
      let runs = known.holds h.unit h.at r on in
      let from : runs.from ≡ b = some_same (sym runs.burned ∙ h.runs b refl) in
      let low = runs.low h.plain in
      let few = h.few in
      record { on = on; unit = h.unit; at = h.at; due = runs.due; is_due = runs.is; low = omega (arith, from, low, few) }

  -- an entry
  module _ (from : Reached) (entry : Entry) (next : IsNext m from entry) (known : Known m checked u from.state) where
    abbrev s : State
    s = from.state

    abbrev s2 : State
    s2 = (after_entry m from entry).state

    abbrev e : Event
    e = entry.event

    cores : EventTracks m u.dom.0 entry.event from.state (after_entry m from entry).state
    cores = cores_step m checked u from entry next known

    unit : UnitTracks m u entry.event from.state (after_entry m from entry).state
    unit = unit_step m checked u from entry next known

    known2 : Known m checked u (after_entry m from entry).state
    known2 = known_next m checked u from entry next known

    one : (r k : ℕ) → HasIt u s r → HasIt u s k → r ≡ k
    one r k a b = one_core m checked u s known r k a b

    one2 : (r k : ℕ) → HasIt u s2 r → HasIt u s2 k → r ≡ k
    one2 r k a b = one_core m checked u s2 known2 r k a b

    -- a core that decides has the unit afterwards where it decides for it
    now_on : (r late : ℕ) → late_of r e ≡ Some late → is_number u.n (decided_for u.dom.0 e) ≡ true → HasIt u s2 r
    now_on r late is own = (cores.decides r late is).1 ∙ is_the_number u.n (decided_for u.dom.0 e) own

    not_on : (r late : ℕ) → late_of r e ≡ Some late → is_number u.n (decided_for u.dom.0 e) ≡ false → HasIt u s2 r → ⊥
    not_on r late is other on = clash (is_number u.n (decided_for u.dom.0 e)) (yes_number u.n (decided_for u.dom.0 e) (sym (cores.decides r late is).1 ∙ on)) other

    -- the unit is on a core afterwards that it was on before, or that decided for it
    came : is_number u.n (decided_for u.dom.0 e) ≡ false → (r : ℕ) → HasIt u s2 r → (late_of r e ≡ None) × HasIt u s r
    came other r on = go (late_of r e) refl
      where
        go : (o : Option ℕ) → late_of r e ≡ o → (late_of r e ≡ None) × HasIt u s r
        go None is = (is, sym (cores.stays r is) ∙ on)
        go (Some late) is = absurd (not_on r late is other on)

    -- what becomes of the open leg
    off_step : OnCore u None s → Stays u None entry s s2 ⊎ Decided u None entry s s2
    off_step off = elim (decides u.dom.0 e) [
      | inl quiet ↦ inl (record { open_still = λ l is. absurd (cc); none = taken_none u e quiet; on = λ r on. off r (sym (cores.stays r (quiet.none r)) ∙ on); account = λ not_renewed stays. unit.goes quiet.none not_renewed stays })
      | inr d ↦ by_choice d (is_number u.n (decided_for u.dom.0 e)) refl
    ]
      where
        by_choice : (d : DecidesOne u.dom.0 e) (b : Bool) → is_number u.n (decided_for u.dom.0 e) ≡ b → Stays u None entry s s2 ⊎ Decided u None entry s s2
        by_choice d true own = inr (record {
          taken = Some d.core;
          closes = λ l is. absurd (cc);
          takes = taken_here u e d own;
          on = now_on d.core d.late d.is_late own;
          stays = late_stays u.dom.0 d.core d.late e d.is_late;
          account = decided_is m u e s s2 cores unit d.core d.late false true d.is_late (not_number u.n (on_core s u.dom.0 d.core) (off d.core)) (yes_number u.n (on_core s2 u.dom.0 d.core) (now_on d.core d.late d.is_late own));
        })
        by_choice d false other = inl (record {
          open_still = λ l is. absurd (cc);
          none = taken_past u e other;
          on = λ r on. off r (came other r on).1;
          account = λ not_renewed stays. ap charged (decided_past m u e s s2 cores unit d.core d.late d.is_late (off d.core) (not_on d.core d.late d.is_late other));
        })

    on_step : (l : ℕ × ℕ) → HasIt u s l.0 → Stays u (Some l) entry s s2 ⊎ Decided u (Some l) entry s s2
    on_step l on = go (late_of l.0 e) refl
      where
        this_leg : (k : ℕ × ℕ) → Some l ≡ Some k → k ≡ l
        this_leg k same = sym (some_same same)

        no_other : late_of l.0 e ≡ None → taken_by u e ≡ None
        no_other is = elim (decides u.dom.0 e) [
          | inl quiet ↦ taken_none u e quiet
          | inr d ↦ taken_past u e (not_number u.n (decided_for u.dom.0 e) (λ own. (
              let here = one2 d.core l.0 ((cores.decides d.core d.late d.is_late).1 ∙ own) (cores.stays l.0 is ∙ on) in
              let late : late_of l.0 e ≡ Some d.late = subst (λ k. late_of k e ≡ Some d.late) here d.is_late in
              let c : None ≡ Some d.late = sym is ∙ late in
              cc)))
        ]

        again : (late : ℕ) → late_of l.0 e ≡ Some late → is_number u.n (decided_for u.dom.0 e) ≡ true → taken_by u e ≡ Some l.0
        again late is own = elim (decides u.dom.0 e) [
          | inl quiet ↦ absurd (let none = quiet.none l.0 in let c : None ≡ Some late = sym none ∙ is in cc)
          | inr d ↦ taken_here u e d own ∙ ap (λ (k : ℕ). Some k) (elim (ℕ_discrete l.0 d.core) [ yes same ↦ sym same | no ne ↦ absurd (let none = d.others l.0 ne in let c : None ≡ Some late = sym none ∙ is in cc) ])
        ]

        had : is_number u.n (on_core s u.dom.0 l.0) ≡ true
        had = yes_number u.n (on_core s u.dom.0 l.0) on

        printed : (late : ℕ) → late_of l.0 e ≡ Some late → late_of l.0 e ≡ Some (late_now s l.0)
        printed late is = is ∙ ap (λ (k : ℕ). Some k) (cores.decides l.0 late is).0

        by_choice : (late : ℕ) → late_of l.0 e ≡ Some late → (b : Bool) → is_number u.n (decided_for u.dom.0 e) ≡ b → Decided u (Some l) entry s s2
        by_choice late is true own = record {
          taken = Some l.0;
          closes = λ k same. subst (λ (j : ℕ × ℕ). late_of j.0 e ≡ Some (late_now s j.0)) (sym (this_leg k same)) (printed late is);
          takes = again late is own;
          on = now_on l.0 late is own;
          stays = late_stays u.dom.0 l.0 late e is;
          account = decided_is m u e s s2 cores unit l.0 late true true is had (yes_number u.n (on_core s2 u.dom.0 l.0) (now_on l.0 late is own));
        }
        by_choice late is false other = record {
          taken = None;
          closes = λ k same. subst (λ (j : ℕ × ℕ). late_of j.0 e ≡ Some (late_now s j.0)) (sym (this_leg k same)) (printed late is);
          takes = taken_past u e other;
          on = λ k on2. (
              let c = came other k on2 in
              let none : late_of l.0 e ≡ None = subst (λ j. late_of j e ≡ None) (one k l.0 c.1 on) c.0 in
              let c2 : None ≡ Some late = sym none ∙ is in
              cc);
          stays = late_stays u.dom.0 l.0 late e is;
          account = decided_is m u e s s2 cores unit l.0 late true false is had (not_number u.n (on_core s2 u.dom.0 l.0) (not_on l.0 late is other));
        }

        go : (o : Option ℕ) → late_of l.0 e ≡ o → Stays u (Some l) entry s s2 ⊎ Decided u (Some l) entry s s2
        go None is = inl (record { open_still = λ k same. subst (λ (j : ℕ × ℕ). late_of j.0 e ≡ None) (sym (this_leg k same)) is; none = no_other is; on = cores.stays l.0 is ∙ on; account = λ not_renewed stays. (charged_still m u e s s2 cores unit one one2 l.0 on is not_renewed).1 })
        go (Some late) is = inr (by_choice late is (is_number u.n (decided_for u.dom.0 e)) refl)

    leg_step : (leg : Open) → OnCore u leg s → Stays u leg entry s s2 ⊎ Decided u leg entry s s2
    leg_step None off = off_step off
    leg_step (Some l) on = on_step l on

    -- a replenishment comes when the term is over
    term_over : (left deadline : ℕ) (b : Option ℕ) → HasLeft u left deadline b s → renews u e ≡ true → (moves u.dom.0 e ≡ false) × (deadline ≤ s.now)
    term_over left deadline b h is =
        let n = unit.renewed is in
        let same : n.old ≡ h.unit = some_same (sym n.at ∙ h.at) in
        let ends = ap (λ (z : RtdsUnit). z.deadline) same ∙ h.ends in
        let over = n.over in
        (ap (moves u.dom.0) n.prints, omega (arith, ends, over))

    -- a core that the unit is on, and does not decide, is due no later
    on_still : (r latest : ℕ) → late_of r e ≡ None → IsOn u r latest s → IsOn u r latest s2
    on_still r latest is on =
        let y = record_next (renews u e) refl in
        let d = unit.due on.unit r on.due on.at on.on is on.is_due in
        let low = on.low in
        let less = d.2 in
        record { on = cores.stays r is ∙ on.on; unit = y.0; at = y.1; due = d.0; is_due = d.1; low = omega (arith, low, less) }
      where
        record_next : (b : Bool) → renews u e ≡ b → (y : RtdsUnit) × (rtds_in s2 u ≡ Some y)
        record_next true yes_it = (let n = unit.renewed yes_it in (unit_after_replenish s.now n.old, n.next))
        record_next false no_it = (let c = charged_back (rtds_in s2 u) on.unit (sym ((charged_still m u e s s2 cores unit one one2 r on.on is no_it).1 ∙ ap charged on.at)) in (c.0, c.1))

    no_leg_moves : (l : ℕ × ℕ) → HasIt u s l.0 → moves u.dom.0 e ≡ true → ⊥
    no_leg_moves l on is = (let none = cores.moved l.0 is in let c : None ≡ Some u.n = sym none ∙ on in cc)

    goes_over : (r latest : ℕ) → IsOn u r latest s → ((late_of r e ≡ None) × IsOn u r latest s2) ⊎ (late_of r e ≡ Some (late_now s r))
    goes_over r latest on = go (late_of r e) refl
      where
        go : (o : Option ℕ) → late_of r e ≡ o → ((late_of r e ≡ None) × IsOn u r latest s2) ⊎ (late_of r e ≡ Some (late_now s r))
        go None is = inl (is, on_still r latest is on)
        go (Some late) is = inr (is ∙ ap (λ (k : ℕ). Some k) (cores.decides r late is).0)

    -- where the entry opens a term
    module _ (entries : List Entry) (term : RtdsTerm) (opens : opened_by u entry.at.0 e entries ≡ Some term) (plain : term.extra ≡ false) where
      begins : Renewed u e s s2
      begins = unit.renewed (opens_renews u entry.at.0 e entries term opens)

      abbrev the_unit : RtdsUnit
      the_unit = unit_after_replenish s.now (begins).old

      none_late : (r : ℕ) → late_of r e ≡ None
      none_late r = ap (late_of r) (begins).prints

      none_taken : taken_by u e ≡ None
      none_taken = ap (taken_by u) (begins).prints

      is_term : term ≡ opened_term u entry.at.0 the_unit entries
      is_term =
          let told : opened_by u entry.at.0 e entries ≡ Some (opened_term u entry.at.0 the_unit entries) = ap (λ (x : Event). opened_by u entry.at.0 x entries) (begins).prints ∙ ap (λ (b : Bool). cond b (Some (opened_term u entry.at.0 the_unit entries)) None) (same_unit_refl u) in
          some_same (sym opens ∙ told)

      on_then : (leg : Open) → OnCore u leg s → OnCore u leg s2
      on_then None off = λ r on. off r (sym (cores.stays r (none_late r)) ∙ on)
      on_then (Some l) on = cores.stays l.0 (none_late l.0) ∙ on

      starts : term.term.from ≡ s.now
      starts = ap (λ (x : RtdsTerm). x.term.from) is_term ∙ next.moment

      has_full : (leg : Open) → OnCore u leg s → HasBegun leg s.now → HasLeft u term.term.budget the_unit.deadline (counted term.term.from leg) s2
      has_full leg on begun = record {
        unit = the_unit;
        at = (begins).next;
        few = (let budget = ap (λ (x : RtdsTerm). x.term.budget) is_term in let full : the_unit.left ≡ the_unit.budget = refl in omega (arith, budget, full));
        plain = sym (ap (λ (x : RtdsTerm). x.extra) is_term) ∙ plain;
        ends = refl;
        runs = runs leg on begun;
      }
        where
          runs : (o : Open) → OnCore u o s → HasBegun o s.now → (b : ℕ) → counted term.term.from o ≡ Some b → (the_unit).burned ≡ Some b
          runs None off begun2 b is = absurd (cc)
          runs (Some l) on2 begun2 b is =
              let r = known.holds (begins).old (begins).at l.0 on2 in
              let e2 : max l.1 term.term.from ≡ b = some_same is in
              let from_is = starts in
              let e3 : s.now ≡ b = omega (arith, e2, from_is, begun2) in
              ap (λ (z : RtdsUnit). z.burned) (burned_to s.now r.from (begins).old r.burned) ∙ ap (λ (k : ℕ). Some k) e3

  -- the legs from a state on
  abbrev legs_after : Reached → Open → List Entry → List Leg
  legs_after from leg entries = legs_with u (after_entries m from entries).state leg entries

  -- a term up to a deadline
  module _ (deadline : ℕ) (like : Term) where
    abbrev the_term : ℕ → Term
    the_term until = record like { until = until }

    -- the same sums, spelled otherwise
    fits_as : (until until2 allowed : ℕ) (ls ls2 : List Leg) → until ≡ until2 → ls ≡ ls2 → Fits (the_term until2) allowed ls2 → Fits (the_term until) allowed ls
    fits_as until until2 allowed ls ls2 e1 e2 fits = subst (λ n. Fits (the_term n) allowed ls) (sym e1) (subst (λ l. Fits (the_term until2) allowed l) (sym e2) fits)

    -- a leg that is open when the term is over
    fits_open : (until r a latest allowed : ℕ) (from : Reached) (entries : List Entry) (ls : List Leg) → IsRunFrom m from entries → Known m checked u from.state → until ≤ from.state.now → IsOn u r latest from.state → latest ≤ max a like.from + allowed
        → Fits (the_term until) 0 ls → Fits (the_term until) allowed (leg_from (after_entries m from entries).state r a entries ∷ ls)
    fits_open until r a latest allowed from [] ls run known over on low rest = fits_over (the_term until) (leg_from from.state r a []) ls allowed latest over (late_at_least u r latest from.state on) low rest
    fits_open until r a latest allowed from (entry ∷ entries) ls run known over on low rest =
        let last : State = (after_entries m from (entry ∷ entries)).state in
        let moment_is = run.0.moment in
        let later = time_goes_on m from entry run.0 in
        elim (goes_over from entry run.0 known r latest on) [
          | inl stays ↦ subst (λ leg. Fits (the_term until) allowed (leg ∷ ls)) (sym (leg_from-open last r a entry entries stays.0))
              (fits_open until r a latest allowed (after_entry m from entry) entries ls run.1 (known_next m checked u from entry run.0 known) (omega (arith, over, later)) stays.1 low rest)
          | inr closes ↦ subst (λ leg. Fits (the_term until) allowed (leg ∷ ls)) (sym (leg_from-closed last r a (late_now from.state r) entry entries closes))
              (let late = late_at_least u r latest from.state on in
              fits_over (the_term until) (record { from = a; until = entry.at.0; late = late_now from.state r }) ls allowed latest (omega (arith, over, moment_is)) (omega (arith, late, moment_is)) low rest)
        ]

    -- all that comes when the term is over
    fits_rest : (until allowed : ℕ) (leg : Open) (from : Reached) (entries : List Entry) → IsRunFrom m from entries → Known m checked u from.state → until ≤ from.state.now → ((l : ℕ × ℕ) → leg ≡ Some l → (latest : ℕ) × IsOn u l.0 latest from.state × (latest ≤ max l.1 like.from + allowed))
        → Fits (the_term until) allowed (legs_after from leg entries)
    fits_rest until allowed None from entries run known over on = fits_later m u (the_term until) from entries (after_entries m from entries).state allowed run over
    fits_rest until allowed (Some l) from entries run known over on =
        let it = on l refl in
        fits_open until l.0 l.1 it.0 allowed from entries (legs (after_entries m from entries).state u entries) run known over it.1 it.2 (fits_later m u (the_term until) from entries (after_entries m from entries).state 0 run over)

    -- what is to be shown of the entries that follow
    abbrev Follow : Reached → List Entry → Type 0
    Follow from entries = (left allowed : ℕ) (leg : Open) → left ≤ allowed → OnCore u leg from.state → HasLeft u left deadline (counted like.from leg) from.state → Fits (the_term (term_end u.dom.0 deadline entries)) allowed (legs_after from leg entries)

    module _ (from : Reached) (entry : Entry) (entries : List Entry) (run : IsRunFrom m from (entry ∷ entries)) (known : Known m checked u from.state) (begun : like.from ≤ from.state.now) (follow : Follow (after_entry m from entry) entries) where
      abbrev last : State
      last = (after_entries m (after_entry m from entry) entries).state

      abbrev next : Reached
      next = after_entry m from entry

      later : from.state.now ≤ (after_entry m from entry).state.now
      later = time_goes_on m from entry run.0

      known_then : Known m checked u (after_entry m from entry).state
      known_then = known_next m checked u from entry run.0 known

      within_stays : (left allowed : ℕ) (leg : Open) → left ≤ allowed → OnCore u leg from.state → HasLeft u left deadline (counted like.from leg) from.state → Stays u leg entry from.state next.state
          → Fits (the_term (term_end u.dom.0 deadline (entry ∷ entries))) allowed (legs_with u last leg (entry ∷ entries))
      within_stays left allowed leg few on h st = go (renews u entry.event) refl (moves u.dom.0 entry.event) refl
        where
          same : legs_with u last leg (entry ∷ entries) ≡ legs_with u last leg entries
          same = legs-still u last leg entry entries st.open_still st.none

          open_then : (l : ℕ × ℕ) → leg ≡ Some l → (latest : ℕ) × IsOn u l.0 latest next.state × (latest ≤ max l.1 like.from + allowed)
          open_then l is = (
            max l.1 like.from + left,
            on_still from entry run.0 known l.0 (max l.1 like.from + left) (st.open_still l is)
                (is_on deadline left l.0 (max l.1 like.from) from.state known (subst (λ (o : Open). OnCore u o from.state) is on) (subst (λ (o : Open). HasLeft u left deadline (counted like.from o) from.state) is h)),
            omega (arith, few),
          )

          go : (a : Bool) → renews u entry.event ≡ a → (b : Bool) → moves u.dom.0 entry.event ≡ b → Fits (the_term (term_end u.dom.0 deadline (entry ∷ entries))) allowed (legs_with u last leg (entry ∷ entries))
          go true renewed b moved =
              let over = term_over from entry run.0 known left deadline (counted like.from leg) h renewed in
              let le = term_end-le u.dom.0 deadline entries in
              let past = over.1 in
              let goes = later in
              fits_as _ _ allowed _ _ (term_end-goes u.dom.0 deadline entry entries over.0) same (fits_rest (term_end u.dom.0 deadline entries) allowed leg next entries run.1 known_then (omega (arith, le, past, goes)) open_then)
          go false renewed true moved =
              let moment_is = run.0.moment in
              let goes = later in
              fits_as _ _ allowed _ _ (term_end-moves u.dom.0 deadline entry entries moved) same
              (fits_rest (min entry.at.0 deadline) allowed leg next entries run.1 known_then (omega (arith, moment_is, goes)) (λ l is. absurd (no_leg_moves from entry run.0 known l (subst (λ (o : Open). OnCore u o from.state) is on) moved)))
          go false renewed false moved =
              fits_as _ _ allowed _ _ (term_end-goes u.dom.0 deadline entry entries moved) same (follow left allowed leg few st.on (left_charged u left deadline from.state next.state (counted like.from leg) (st.account renewed moved) h))

      within_decided : (left allowed : ℕ) (leg : Open) → left ≤ allowed → OnCore u leg from.state → HasLeft u left deadline (counted like.from leg) from.state → Decided u leg entry from.state next.state
          → Fits (the_term (term_end u.dom.0 deadline (entry ∷ entries))) allowed (legs_with u last leg (entry ∷ entries))
      within_decided left allowed leg few on h d =
          fits_as _ _ allowed _ _ (term_end-goes u.dom.0 deadline entry entries d.stays) (legs-decided u last from.state leg d.taken entry entries d.closes d.takes) (by_leg leg on h d.account)
        where
          left_counted : (l : ℕ) (o : Option ℕ) → HasLeft u l deadline (cond (is_some o) (Some from.state.now) None) next.state → HasLeft u l deadline (counted like.from (begun_at entry.at.0 o)) next.state
          left_counted l None has = has
          left_counted l (Some r) has = (let moment_is = run.0.moment in let e : from.state.now ≡ max entry.at.0 like.from = omega (arith, moment_is, begun) in subst (λ (n : ℕ). HasLeft u l deadline (Some n) next.state) e has)

          by_leg : (o : Open) → OnCore u o from.state → HasLeft u left deadline (counted like.from o) from.state → rtds_in next.state u ≡ option_map (after_decision from.state.now (is_some o) (is_some d.taken)) (rtds_in from.state u)
              → Fits (the_term (term_end u.dom.0 deadline entries)) allowed (with_closed entry.at.0 from.state o (legs_with u last (begun_at entry.at.0 d.taken) entries))
          by_leg None on2 h2 account = follow left allowed (begun_at entry.at.0 d.taken) few d.on (left_counted left d.taken (left_decided u left deadline from.state next.state None (is_some d.taken) account h2))
          by_leg (Some l) on2 h2 account =
              let b : ℕ = max l.1 like.from in
              let moment_is = run.0.moment in
              let late = late_at_least u l.0 (b + left) from.state (is_on deadline left l.0 b from.state known on2 h2) in
              fits_closed (the_term (term_end u.dom.0 deadline entries)) (record { from = l.1; until = entry.at.0; late = late_now from.state l.0 }) (legs_with u last (begun_at entry.at.0 d.taken) entries) allowed left few (omega (arith, late, moment_is))
              (λ n le. follow (left - (from.state.now - b)) n (begun_at entry.at.0 d.taken) (omega (arith, le, moment_is)) d.on (left_counted (left - (from.state.now - b)) d.taken (left_decided u left deadline from.state next.state (Some b) (is_some d.taken) account h2)))

    pub fits_within : (entries : List Entry) (from : Reached) → IsRunFrom m from entries → Known m checked u from.state → like.from ≤ from.state.now → Follow from entries
    fits_within [] from run known begun left allowed None few on h = fits_nil (the_term deadline) allowed
    fits_within [] from run known begun left allowed (Some leg) few on h =
        let late = late_at_least u leg.0 (max leg.1 like.from + left) from.state (is_on deadline left leg.0 (max leg.1 like.from) from.state known on h) in
        fits_closed (the_term deadline) (leg_from from.state leg.0 leg.1 []) [] allowed left few late (λ n le. fits_nil (the_term deadline) n)
    fits_within (entry ∷ entries) from run known begun left allowed leg few on h =
        let later = time_goes_on m from entry run.0 in
        let follow = fits_within entries (after_entry m from entry) run.1 (known_next m checked u from entry run.0 known) (omega (arith, begun, later)) in
        elim (leg_step from entry run.0 known leg on) [
          | inl stays ↦ within_stays from entry entries run known begun follow left allowed leg few on h stays
          | inr decided ↦ within_decided from entry entries run known begun follow left allowed leg few on h decided
        ]

  -- all terms that these entries open begin not before the moment, and are kept
  abbrev KeptFrom : ℕ → List Leg → RtdsTerm → Type 0
  KeptFrom now ls term = (now ≤ term.term.from) × KeepsTerm ls term

  kept_as : (now later : ℕ) (ls ls2 : List Leg) (term : RtdsTerm) → now ≤ later → ls2 ≡ ls → KeptFrom later ls term → KeptFrom now ls2 term
  kept_as now later ls ls2 term le same kept = (let after = kept.0 in (omega (arith, le, after), subst (λ l. KeepsTerm l term) (sym same) kept.1))

  -- a leg that ended before the terms adds nothing to them
  kept_closed : (now later t : ℕ) (s : State) (leg : Open) (ls : List Leg) (term : RtdsTerm) → now ≤ later → t ≤ later → KeptFrom later ls term → KeptFrom now (with_closed t s leg ls) term
  kept_closed now later t s None ls term le ended kept = (let after = kept.0 in (omega (arith, le, after), kept.1))
  kept_closed now later t s (Some l) ls term le ended kept =
      let after = kept.0 in
      (omega (arith, le, after), λ plain. fits_unmet term.term (record { from = l.1; until = t; late = late_now s l.0 }) ls (term.term.budget + term.delay) (omega (arith, ended, after)) (kept.1 plain))

  module _ (from : Reached) (entry : Entry) (entries : List Entry) (run : IsRunFrom m from (entry ∷ entries)) (known : Known m checked u from.state) (leg : Open) (begun : HasBegun leg from.state.now) (on : OnCore u leg from.state) where
    abbrev after : Reached
    after = after_entry m from entry

    goes : from.state.now ≤ (after_entry m from entry).state.now
    goes = time_goes_on m from entry run.0

    -- the term that the entry opens
    own_kept : (term : RtdsTerm) → opened_by u entry.at.0 entry.event entries ≡ Some term → KeptFrom from.state.now (legs_after from leg (entry ∷ entries)) term
    own_kept term opens = (
      (let starts = opened_by-starts u entry.at.0 entry.event entries term opens in let moment_is = run.0.moment in omega (arith, starts, moment_is)),
      λ plain. (
          let unit = the_unit from entry run.0 known entries term opens plain in
          let from_is = starts from entry run.0 known entries term opens plain in
          let later = goes in
          let until = ap (λ (x : RtdsTerm). x.term.until) (is_term from entry run.0 known entries term opens plain) in
          subst (λ ls. Fits term.term (term.term.budget + term.delay) ls)
          (sym (legs-still u (after_entries m after entries).state leg entry entries (λ l is. none_late from entry run.0 known entries term opens plain l.0) (none_taken from entry run.0 known entries term opens plain)))
          (subst (λ n. Fits (record term.term { until = n }) (term.term.budget + term.delay) (legs_after after leg entries)) (sym until)
          (fits_within unit.deadline term.term entries after run.1 (known_next m checked u from entry run.0 known) (omega (arith, from_is, later)) term.term.budget (term.term.budget + term.delay) leg (omega arith)
          (on_then from entry run.0 known entries term opens plain leg on) (has_full from entry run.0 known entries term opens plain leg on begun)))),
    )

    -- those that the entries after it open
    rest_kept : ((leg2 : Open) → HasBegun leg2 after.state.now → OnCore u leg2 after.state → AllByRecursion (KeptFrom after.state.now (legs_after after leg2 entries)) (opened_terms u entries))
        → AllByRecursion (KeptFrom from.state.now (legs_after from leg (entry ∷ entries))) (opened_terms u entries)
    rest_kept follow = elim (leg_step from entry run.0 known leg on) [
      | inl st ↦ AllByRecursion-map _ _ (λ term. kept_as from.state.now after.state.now (legs_after after leg entries) _ term goes (legs-still u (after_entries m after entries).state leg entry entries st.open_still st.none)) (opened_terms u entries) (follow leg (begun_later leg begun) st.on)
      | inr d ↦ (
          let moment_is = run.0.moment in
          let later = goes in
          let ls : List Leg = legs_after after (begun_at entry.at.0 d.taken) entries in
          AllByRecursion-map _ _ (λ term kept. kept_as from.state.now from.state.now (with_closed entry.at.0 from.state leg ls) _ term (omega arith) (legs-decided u (after_entries m after entries).state from.state leg d.taken entry entries d.closes d.takes)
          (kept_closed from.state.now after.state.now entry.at.0 from.state leg ls term goes (omega (arith, moment_is, later)) kept)) (opened_terms u entries) (follow (begun_at entry.at.0 d.taken) (begins_now d.taken) d.on))
    ]
      where
        begun_later : (o : Open) → HasBegun o from.state.now → HasBegun o after.state.now
        begun_later None begun2 = tt
        begun_later (Some l) begun2 = (let later = goes in omega (arith, begun2, later))

        begins_now : (o : Option ℕ) → HasBegun (begun_at entry.at.0 o) after.state.now
        begins_now None = tt
        begins_now (Some r) = (let moment_is = run.0.moment in let later = goes in omega (arith, moment_is, later))

  pub terms_kept : (entries : List Entry) (from : Reached) (leg : Open) → IsRunFrom m from entries → Known m checked u from.state → HasBegun leg from.state.now → OnCore u leg from.state → AllByRecursion (KeptFrom from.state.now (legs_after from leg entries)) (opened_terms u entries)
  terms_kept [] from leg run known begun on = tt
  terms_kept (entry ∷ entries) from leg run known begun on =
      let rest = rest_kept from entry entries run known leg begun on (λ leg2 begun2 on2. terms_kept entries (after_entry m from entry) leg2 run.1 (known_next m checked u from entry run.0 known) begun2 on2) in
      elim (opened_by u entry.at.0 entry.event entries) as (λ o. opened_by u entry.at.0 entry.event entries ≡ o → AllByRecursion (KeptFrom from.state.now (legs_after from leg (entry ∷ entries))) (elim o as (λ _. List RtdsTerm) [ Some term ↦ term ∷ opened_terms u entries | None ↦ opened_terms u entries ])) [
        | Some term ↦ λ is. (own_kept from entry entries run known leg begun on term is, rest)
        | None ↦ λ is. rest
      ] refl
