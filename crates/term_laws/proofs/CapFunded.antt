-- The budget and what the running units hold are together at most the total of the cap, wherever a term may begin.
use Rattle.sched_laws.proofs.Lists.{some_same}
use Rattle.std.proofs.Common.{◌≡◌, ◌≤◌, ◌<◌, ℕ, suc, Bool, true, false, refl, arith, ap, subst, sym, ◌∙◌, inl, inr, cond}
use Rattle.std.specs.Prelude.{Option, Some, None, option_map, max, is_some, ◌||◌, ℤ, pos, ◌-ℤ◌}
use Rattle.std.proofs.lemmas.Int.{ints}
use Rattle.sched_base.specs.Credit2Numbers.{positive_part, cap_budget}
use Rattle.sched_model.specs.declared.event.Entry.{Entry}
use Rattle.sched_model.specs.declared.machine.Machine.{Machine}
use Rattle.sched_model.specs.declared.state.State.{State}
use Rattle.sched_model.specs.declared.state.Credit2Domain.{Credit2Domain}
use Rattle.sched_model.specs.Opening.{machine_core_count}
use Rattle.sched_model.specs.Credit2.{running_budget}
use Rattle.term_laws.specs.Term.{moves}
use Rattle.term_laws.specs.CapTerm.{PlacedLeg, cap_set, refills, ends_term, credit2_in}
use Rattle.term_laws.proofs.CapTracks.{cap_at, Stops, EventTracks, CapTracks}
use Rattle.term_laws.proofs.CoreSums.{total_same, total_none, above, above_least, above_rises}
use Rattle.sched_laws.proofs.Counts.{total_over_le}
use Rattle.sched_laws.specs.Counts.{over, total_over}
use Rattle.term_laws.proofs.CapLegs.{OpenLeg, Opens, opens_after, decides, Tracked, late_is}
use Rattle.term_laws.proofs.CapStep.{left_over, budgeted, part, late_part, Within, closed_by, closes_here, in_term, cap_there, cap_of, cap_stays}
use Rattle.term_laws.proofs.HeldBy.{held_at_least}
use Rattle.term_laws.proofs.CapWithin.{refill_quiet}

-- the domain's budget, with what its running units have left from t on, is at most the total
pub record Funded (cores t : ℕ) (s : State) (d : ℕ) (x : Credit2Domain) (opens : Opens) : Type 0 where
  pub stop : ℕ → ℤ
  pub within : Within s d x opens stop
  pub fits : budgeted cores opens stop x.budget t ≤ cap_budget x.cap

pub funded_later : (cores t t2 : ℕ) (s : State) (d : ℕ) (x : Credit2Domain) (opens : Opens) → t ≤ t2 → Funded cores t s d x opens → Funded cores t2 s d x opens
funded_later cores t t2 s d x opens later f = (
    let fits = f.fits in
    let falls = total_over_le cores (left_over opens f.stop t2) (left_over opens f.stop t) (λ r low. less r (opens r)) in
    record { stop = f.stop; within = f.within; fits = omega (arith, fits, falls) })
  where
    less : (r : ℕ) (o : Option OpenLeg) → over (λ z. positive_part (f.stop r -ℤ pos (max z.from t2))) o ≤ over (λ z. positive_part (f.stop r -ℤ pos (max z.from t))) o
    less r None = omega arith
    less r (Some o) = above_rises (f.stop r -ℤ pos (max o.from t2)) (f.stop r -ℤ pos (max o.from t)) (omega (arith, ints, later))

module _ (m : Machine) (d : ℕ) (K : State → Type 0) (tracks : CapTracks m d K) (n : ℕ) (entry : Entry) (s s2 : State) (opens : Opens) (at : entry.at.0 ≡ s.now) (known : K s) (known2 : K s2)
    (step : EventTracks m d entry.event s s2) (tracked : Tracked d opens n s) (tracked2 : Tracked d (opens_after d n entry opens) (suc n) s2) where
  abbrev high : ℕ
  high = machine_core_count m.config

  abbrev after : Opens
  after = opens_after d n entry opens

  -- where the cap is set
  funded_set : (percent : ℕ) (y : Credit2Domain) → cap_set m d entry.event ≡ Some percent → credit2_in s2 d ≡ Some y → 0 < y.cap → Funded high s.now s2 d y after
  funded_set percent y is at2 capped =
      let sums = total_none high (left_over after (λ r. pos s.now) s.now) (λ r low. nothing (after r)) in
      let budget = ap positive_part (step.set_budget percent y is at2) in
      let percent_is : y.cap ≡ percent = sym (cap_of s2 d y at2) ∙ step.cap ∙ ap (λ (o : Option ℕ). elim o as (λ _. ℕ) [ Some given ↦ given | None ↦ cond (moves d entry.event) 0 (cap_at s d) ]) is in
      let same = ap cap_budget percent_is in
      record {
        stop = λ r. pos s.now;
        within = record {
          at = at2;
          capped = capped;
          stops = λ r o there. (let h = tracks.holds s2 known2 y at2 capped r o.unit (tracked2.on r ∙ ap (option_map (λ (z : OpenLeg). z.unit)) there) in subst (Stops y o.unit) (step.set_stops percent y is at2 o.unit h.0 h.1) h.1);
        };
        fits = omega (arith, sums, budget, same);
      }
    where
      nothing : (o : Option OpenLeg) → over (λ z. positive_part (pos s.now -ℤ pos (max z.from s.now))) o ≡ 0
      nothing None = refl
      nothing (Some o) = (let low = above_least (pos s.now -ℤ pos (max o.from s.now)) 0 (omega (arith, ints)) in omega (arith, low))

  -- where the budget is refilled
  funded_refilled : (x y : Credit2Domain) → refills d entry.event ≡ true → credit2_in s d ≡ Some x → 0 < x.cap → credit2_in s2 d ≡ Some y → y.cap ≡ x.cap → Funded high s.now s d x opens → Funded high s.now s2 d y after
  funded_refilled x y is at1 capped at2 same f =
      let refilled = step.refilled x y is at1 capped at2 in
      let unchanged : (r : ℕ) → after r ≡ opens r = λ r. late_is d n entry opens r None ((refill_quiet d entry.event is).none r) in
      let stops : (r : ℕ) (o : OpenLeg) → after r ≡ Some o → Stops y o.unit (f.stop r) = λ r o there. refilled.others o.unit (f.stop r) (f.within.stops r o (sym (unchanged r) ∙ there)) in
      let sums = total_same high (left_over after f.stop s.now) (left_over opens f.stop s.now) (λ r low. ap (over (λ o. positive_part (f.stop r -ℤ pos (max o.from s.now)))) (unchanged r)) in
      let held : total_over high (left_over after f.stop s.now) ≤ running_budget y = held_at_least high after (λ r o. positive_part (f.stop r -ℤ pos (max o.from s.now))) y.units
      (λ r o low there. (
      let st = stops r o there in
      let charged = refilled.charged o.unit st.from st.unit st.at st.burned in
      let sum = st.sum in
      record { unit = st.unit; at = st.at; from = st.from; runs = st.burned; enough = above_rises (f.stop r -ℤ pos (max o.from s.now)) st.unit.held (omega (arith, ints, charged, sum)) }))
      (λ r k o p one two e. tracks.one s2 known2 r k o.unit (tracked2.on r ∙ ap (option_map (λ (z : OpenLeg). z.unit)) one) (tracked2.on k ∙ ap (option_map (λ (z : OpenLeg). z.unit)) two ∙ ap Some (sym e))) in
      let fits = f.fits in
      let budget = refilled.budget in
      let totals = ap cap_budget same in
      record {
        stop = f.stop;
        within = record { at = at2; capped = omega (arith, capped, same); stops = stops };
        fits = elim (above y.budget) [
          | inl low ↦ (let none = low.0 in omega (arith, none, sums, fits, totals))
          | inr some ↦ omega (arith, ints, some, budget, held)
        ];
      }

  -- where the term goes on
  funded_goes : (x y : Credit2Domain) → ends_term m d entry.event ≡ false → credit2_in s2 d ≡ Some y → Funded high s.now s d x opens → Funded high s.now s2 d y after
  funded_goes x y stays at2 f =
      let goes = in_term m d K tracks n entry s s2 opens at known known2 step tracked tracked2 x f.stop f.within stays in
      let closes = closes_here m d K tracks n entry s s2 opens at known known2 step tracked tracked2 in
      let same : goes.record_after ≡ y = some_same (sym goes.within.at ∙ at2) in
      let pays = goes.pays s.now (omega arith) in
      let none = late_none (closed_by d n entry opens (decides d entry.event)) closes.ended in
      let totals = ap cap_budget goes.same_cap in
      let fits = f.fits in
      subst (λ z. Funded high s.now s2 d z after) same (record { stop = goes.stop_after; within = goes.within; fits = omega (arith, pays, none, totals, fits) })
    where
      late_none : (closed : Option PlacedLeg) → ((placed : PlacedLeg) → closed ≡ Some placed → placed.leg.until ≡ entry.at.0) → over (late_part s.now) closed ≡ 0
      late_none None ended = refl
      late_none (Some placed) ended =
          let e = ended placed refl in
          let short : part s.now placed ≡ 0 = omega (arith, e, at) in
          ap (λ (k : ℕ). cond (Rattle.std.specs.Prelude.nat_lt 0 k) placed.leg.late 0) short

  pub funded_after : ((x : Credit2Domain) → credit2_in s d ≡ Some x → 0 < x.cap → Funded high s.now s d x opens) → (y : Credit2Domain) → credit2_in s2 d ≡ Some y → 0 < y.cap → Funded high s.now s2 d y after
  funded_after funded y at2 capped = go (cap_set m d entry.event) (moves d entry.event) (refills d entry.event) refl refl refl
    where
      stayed : cap_set m d entry.event ≡ None → moves d entry.event ≡ false → (x : Credit2Domain) × (credit2_in s d ≡ Some x) × (x.cap ≡ y.cap)
      stayed none stays = cap_there s d y.cap (sym (cap_stays m d (cap_at s d) entry.event none stays) ∙ sym step.cap ∙ cap_of s2 d y at2) capped

      go : (set : Option ℕ) (moved refilled : Bool) → cap_set m d entry.event ≡ set → moves d entry.event ≡ moved → refills d entry.event ≡ refilled → Funded high s.now s2 d y after
      go (Some percent) moved refilled is_set is_moved is_refilled = funded_set percent y is_set at2 capped
      go None true refilled is_set is_moved is_refilled =
          absurd (
          let gone : y.cap ≡ 0 = sym (cap_of s2 d y at2) ∙ step.cap ∙ ap (λ (o : Option ℕ). elim o as (λ _. ℕ) [ Some given ↦ given | None ↦ cond (moves d entry.event) 0 (cap_at s d) ]) is_set ∙ ap (λ (b : Bool). cond b 0 (cap_at s d)) is_moved in
          omega (arith, gone, capped))
      go None false true is_set is_moved is_refilled =
          let x = stayed is_set is_moved in
          let same = x.2 in
          let capped1 : 0 < x.0.cap = omega (arith, capped, same) in
          funded_refilled x.0 y is_refilled x.1 capped1 at2 (sym same) (funded x.0 x.1 capped1)
      go None false false is_set is_moved is_refilled =
          let x = stayed is_set is_moved in
          let same = x.2 in
          let capped1 : 0 < x.0.cap = omega (arith, capped, same) in
          funded_goes x.0 y (ap (λ (b : Bool). b || is_some (cap_set m d entry.event) || moves d entry.event) is_refilled ∙ ap (λ (o : Option ℕ). is_some o || moves d entry.event) is_set ∙ is_moved) at2 (funded x.0 x.1 capped1)
