-- What an entry within a term does to the budget of a capped domain and to what its running units hold, taken together.
use Rattle.sched_laws.proofs.Lists.{some_same}
use Rattle.std.proofs.Common.{◌≡◌, ◌≢◌, ◌≤◌, ◌<◌, ◌+◌, ◌-◌, ℕ, suc, Bool, true, false, refl, arith, ap, subst, sym, ◌∙◌, ◌⊎◌, inl, inr, cond, ◌==◌, nat_lt}
use Rattle.std.specs.Prelude.{Option, Some, None, option_map, max, is_some, ◌||◌, ℤ, pos, ◌+ℤ◌, ◌-ℤ◌, ◌≤ℤ◌}
use Rattle.std.proofs.Math.Decide.{ℕ_discrete}
use Rattle.std.proofs.lemmas.Int.{ints}
use Rattle.sched_base.specs.Numbers.{moment}
use Rattle.sched_base.specs.declared.Moment.{Moment}
use Rattle.sched_base.specs.Credit2Numbers.{positive_part}
use Rattle.sched_model.specs.declared.event.Event.{Event}
use Rattle.sched_model.specs.declared.event.Entry.{Entry}
use Rattle.sched_model.specs.declared.machine.Machine.{Machine}
use Rattle.sched_model.specs.declared.state.State.{State}
use Rattle.sched_model.specs.declared.state.Resource.{Resource}
use Rattle.sched_model.specs.declared.state.Credit2Unit.{Credit2Unit}
use Rattle.sched_model.specs.declared.state.Credit2Domain.{Credit2Domain}
use Rattle.sched_model.specs.Opening.{machine_core_count}
use Rattle.sched_model.specs.Pool.{lateness}
use Rattle.term_laws.specs.Term.{core_in, late_now, moves}
use Rattle.term_laws.specs.CapTerm.{PlacedLeg, cap_set, refills, ends_term, cap_after, credit2_in}
use Rattle.term_laws.proofs.CapTracks.{cap_at, decided_for, on_core, due_at, Stops, HasLeft, Decides, EventTracks, CapTracks}
use Rattle.term_laws.proofs.CoreSums.{counts_or_not, total_same, total_changed, above_rises, given_back, given_now}
use Rattle.sched_laws.specs.Counts.{over, total_over}
use Rattle.term_laws.proofs.CapLegs.{OpenLeg, Opens, opens_after, closed_at, begun_at, DecidesNone, DecidesOne, decides, Tracked, Closes, closes_none, closes_one, late_is}

-- the budget, and what is left to the open legs of what they hold, counted from t0 on or from where they begin
abbrev pub left_over : Opens → (ℕ → ℤ) → ℕ → ℕ → ℕ
left_over opens stop t0 r = over (λ o. positive_part (stop r -ℤ pos (max o.from t0))) (opens r)

abbrev pub budgeted : ℕ → Opens → (ℕ → ℤ) → ℤ → ℕ → ℕ
budgeted cores opens stop budget t0 = positive_part budget + total_over cores (left_over opens stop t0)

-- how long a leg is from t0 on, and what is late of it where that is some time
abbrev pub part : ℕ → PlacedLeg → ℕ
part t0 placed = placed.leg.until - max placed.leg.from t0

abbrev pub late_part : ℕ → PlacedLeg → ℕ
late_part t0 placed = cond (nat_lt 0 (part t0 placed)) placed.leg.late 0

-- a unit stops at one moment
pub stops_same : (x : Credit2Domain) (n : ℕ) (a b : ℤ) → Stops x n a → Stops x n b → a ≡ b
stops_same x n a b s t =
    let units : s.unit ≡ t.unit = some_same (sym s.at ∙ t.at) in
    let from : s.from ≡ t.from = some_same (sym s.burned ∙ ap (λ (u : Credit2Unit). u.burned) units ∙ t.burned) in
    sym s.sum ∙ ap (λ (k : ℕ). pos k +ℤ s.unit.held) from ∙ ap (λ (u : Credit2Unit). pos t.from +ℤ u.held) units ∙ t.sum

pub late_is_due : (s : State) (r due : ℕ) → due_at s r ≡ Some (moment due) → late_now s r ≡ s.now - due
late_is_due s r due is = go (core_in s r) is
  where
    go : (o : Option Resource) → elim o as (λ _. Option Moment) [ None ↦ None | Some c ↦ c.due ] ≡ Some (moment due) → elim o as (λ _. ℕ) [ None ↦ 0 | Some c ↦ lateness s.now c ] ≡ s.now - due
    go None is2 = absurd (cc)
    go (Some c) is2 = ap (λ (o : Option Moment). elim o as (λ _. ℕ) [ None ↦ 0 | Some at ↦ s.now - at.0 ]) is2

pub cap_there : (s : State) (d cap : ℕ) → cap_at s d ≡ cap → 0 < cap → (y : Credit2Domain) × (credit2_in s d ≡ Some y) × (y.cap ≡ cap)
cap_there s d cap is some_cap = go (credit2_in s d) refl is
  where
    go : (o : Option Credit2Domain) → credit2_in s d ≡ o → elim o as (λ _. ℕ) [ None ↦ 0 | Some x ↦ x.cap ] ≡ cap → (y : Credit2Domain) × (credit2_in s d ≡ Some y) × (y.cap ≡ cap)
    go None at e = absurd (omega (arith, e, some_cap))
    go (Some y) at e = (y, at, e)

pub cap_of : (s : State) (d : ℕ) (x : Credit2Domain) → credit2_in s d ≡ Some x → cap_at s d ≡ x.cap
cap_of s d x is = ap (λ (o : Option Credit2Domain). elim o as (λ _. ℕ) [ None ↦ 0 | Some y ↦ y.cap ]) is

-- an event that ends no term
pub record StaysCapped (m : Machine) (d : ℕ) (e : Event) : Type 0 where
  pub refills : refills d e ≡ false
  pub sets : cap_set m d e ≡ None
  pub moves : moves d e ≡ false

pub stays_capped : (m : Machine) (d : ℕ) (e : Event) → ends_term m d e ≡ false → StaysCapped m d e
stays_capped m d e is = go (refills d e) (cap_set m d e) (moves d e) refl refl refl is
  where
    go : (a : Bool) (b : Option ℕ) (c : Bool) → refills d e ≡ a → cap_set m d e ≡ b → moves d e ≡ c → (a || is_some b || c) ≡ false → StaysCapped m d e
    go false None false a b c none = record { refills = a; sets = b; moves = c }
    go true b2 c2 a b c none = absurd (cc)
    go false (Some x) c2 a b c none = absurd (cc)
    go false None true a b c none = absurd (cc)

pub cap_stays : (m : Machine) (d cap : ℕ) (e : Event) → cap_set m d e ≡ None → moves d e ≡ false → cap_after m d cap e ≡ cap
cap_stays m d cap e none stays =
    ap (λ (o : Option ℕ). elim o as (λ _. ℕ) [ Some given ↦ given | None ↦ cond (moves d e) 0 cap ]) none ∙ ap (λ (b : Bool). cond b 0 cap) stays

-- the domain has a cap, and its running units on the cores stop there
pub record Within (s : State) (d : ℕ) (x : Credit2Domain) (opens : Opens) (stop : ℕ → ℤ) : Type 0 where
  pub at : credit2_in s d ≡ Some x
  pub capped : 0 < x.cap
  pub stops : (r : ℕ) (o : OpenLeg) → opens r ≡ Some o → Stops x o.unit (stop r)

-- the leg that ends with an entry
abbrev pub closed_by : (d n : ℕ) (entry : Entry) → Opens → DecidesNone d entry.event ⊎ DecidesOne d entry.event → Option PlacedLeg
closed_by d n entry opens (inl none) = None
closed_by d n entry opens (inr one) = option_map (closed_at entry.at.0 one.late n) (opens one.core)

-- what an entry within a term leaves: all that is used up by the leg that ends was held or is late
pub record InTerm (cores d n : ℕ) (entry : Entry) (s s2 : State) (x : Credit2Domain) (opens : Opens) (stop : ℕ → ℤ) (closed : Option PlacedLeg) : Type 0 where
  pub record_after : Credit2Domain
  pub stop_after : ℕ → ℤ
  pub within : Within s2 d record_after (opens_after d n entry opens) stop_after
  pub same_cap : record_after.cap ≡ x.cap
  pub pays : (t0 : ℕ) → t0 ≤ s.now → budgeted cores (opens_after d n entry opens) stop_after record_after.budget t0 + over (part t0) closed ≤ budgeted cores opens stop x.budget t0 + over (late_part t0) closed

module _ (m : Machine) (d : ℕ) (K : State → Type 0) (tracks : CapTracks m d K) where
  abbrev cores : ℕ
  cores = machine_core_count m.config

  -- a core that decides now is late by as much as its unit overran, or more
  pub late_enough : (s : State) (x : Credit2Domain) (r k : ℕ) (stop : ℤ) → K s → credit2_in s d ≡ Some x → 0 < x.cap → on_core s d r ≡ Some k → Stops x k stop → pos s.now ≤ℤ (stop +ℤ pos (late_now s r))
  late_enough s x r k stop known at capped on stops =
      let h = tracks.holds s known x at capped r k on in
      let same : h.0 ≡ stop = stops_same x k h.0 stop h.1 stops in
      let late = late_is_due s r h.2 h.3 in
      let below = h.4 in
      omega (arith, ints, same, late, below)

  -- a core that is none of the machine has no leg
  pub none_high : (s : State) (opens : Opens) (n r : ℕ) → K s → Tracked d opens n s → cores ≤ r → opens r ≡ None
  none_high s opens n r known tracked high = go (opens r) refl
    where
      go : (o : Option OpenLeg) → opens r ≡ o → o ≡ None
      go None is = refl
      go (Some o) is = absurd (let low = tracks.low s known r o.unit (tracked.on r ∙ ap (option_map (λ (x : OpenLeg). x.unit)) is) in omega (arith, low, high))

  module _ (n : ℕ) (entry : Entry) (s s2 : State) (opens : Opens) (at : entry.at.0 ≡ s.now) (known : K s) (known2 : K s2) (step : EventTracks m d entry.event s s2) (tracked : Tracked d opens n s) (tracked2 : Tracked d (opens_after d n entry opens) (suc n) s2) where
    abbrev after : Opens
    after = opens_after d n entry opens

    -- a decision at a core that is none of the machine's is for none of the domain's units
    pub high_core : (one : DecidesOne d entry.event) → cores ≤ one.core → (opens one.core ≡ None) × (decided_for d entry.event ≡ None)
    high_core one high = (
      none_high s opens n one.core known tracked high,
      unmapped (decided_for d entry.event) (sym (late_is d n entry opens one.core (Some one.late) one.is_late) ∙ none_high s2 after (suc n) one.core known2 tracked2 high),
    )
      where
        unmapped : (o : Option ℕ) → option_map (begun_at entry.at.0 n) o ≡ None → o ≡ None
        unmapped None is = refl
        unmapped (Some k) is = absurd (cc)

    pub closes_here : Closes cores d opens after n entry (closed_by d n entry opens (decides d entry.event))
    closes_here = go (decides d entry.event)
      where
        go : (v : DecidesNone d entry.event ⊎ DecidesOne d entry.event) → Closes cores d opens after n entry (closed_by d n entry opens v)
        go (inl none) = closes_none cores d n entry opens none
        go (inr one) = closes_one cores d n entry opens one (high_core one)

    module _ (x : Credit2Domain) (stop : ℕ → ℤ) (within : Within s d x opens stop) where
      -- another event
      in_term_goes : (none : DecidesNone d entry.event) (y : Credit2Domain) → credit2_in s2 d ≡ Some y → y.cap ≡ x.cap → ends_term m d entry.event ≡ false → InTerm cores d n entry s s2 x opens stop None
      in_term_goes none y at2 same stays =
          let goes = step.goes x y stays none.none within.at within.capped at2 in
          let capped = within.capped in
          let unchanged : (r : ℕ) → after r ≡ opens r = λ r. late_is d n entry opens r None (none.none r) in
          record {
            record_after = y;
            stop_after = stop;
            within = record { at = at2; capped = omega (arith, capped, same); stops = λ r o is. goes.others o.unit (stop r) (within.stops r o (sym (unchanged r) ∙ is)) };
            same_cap = same;
            pays = λ t0 le. (
                let e = ap positive_part goes.budget in
                let sums = total_same cores (left_over after stop t0) (left_over opens stop t0) (λ r low. ap (over (λ o. positive_part (stop r -ℤ pos (max o.from t0)))) (unchanged r)) in
                omega (arith, e, sums));
          }

      -- a core decides
      module _ (one : DecidesOne d entry.event) (y : Credit2Domain) (at2 : credit2_in s2 d ≡ Some y) (same : y.cap ≡ x.cap) where
        abbrev r0 : ℕ
        r0 = one.core

        decided : Decides s.now (on_core s d r0) (on_core s2 d r0) x y
        decided = step.decided r0 one.late x y one.is_late within.at within.capped at2

        abbrev stop2 : ℕ → ℤ
        stop2 r = cond (r == r0) (pos s.now +ℤ decided.taken) (stop r)

        stop2_own : stop2 r0 ≡ pos s.now +ℤ decided.taken
        stop2_own = (let e : (r0 == r0) ≡ true = grind arith in ap (λ (b : Bool). cond b (pos s.now +ℤ decided.taken) (stop r0)) e)

        stop2_other : (r : ℕ) → r ≢ r0 → stop2 r ≡ stop r
        stop2_other r other = (let e : (r == r0) ≡ false = grind (arith, other) in ap (λ (b : Bool). cond b (pos s.now +ℤ decided.taken) (stop r)) e)

        unchanged : (r : ℕ) → r ≢ r0 → after r ≡ opens r
        unchanged r other = late_is d n entry opens r None (one.others r other)

        has_on : (r : ℕ) (o : OpenLeg) → opens r ≡ Some o → on_core s d r ≡ Some o.unit
        has_on r o is = tracked.on r ∙ ap (option_map (λ (z : OpenLeg). z.unit)) is

        has_on2 : (r : ℕ) (o : OpenLeg) → after r ≡ Some o → on_core s2 d r ≡ Some o.unit
        has_on2 r o is = tracked2.on r ∙ ap (option_map (λ (z : OpenLeg). z.unit)) is

        stops2 : (r : ℕ) (o : OpenLeg) → after r ≡ Some o → Stops y o.unit (stop2 r)
        stops2 r o is =
            elim (ℕ_discrete r r0) [
              | yes e ↦ subst (λ k. Stops y o.unit (stop2 k)) (sym e) (subst (Stops y o.unit) (sym stop2_own) (subst (HasLeft s.now y decided.taken) (has_on2 r0 o (subst (λ k. after k ≡ Some o) e is)) decided.takes))
              | no ne ↦ (
                  let was : opens r ≡ Some o = sym (unchanged r ne) ∙ is in
                  subst (Stops y o.unit) (sym (stop2_other r ne))
                  (decided.others o.unit (stop r) (λ e. ne (tracks.one s known r r0 o.unit (has_on r o was) e)) (λ e. ne (tracks.one s2 known2 r r0 o.unit (has_on2 r o is) e)) (within.stops r o was)))
            ]

        fresh : (o : OpenLeg) → after r0 ≡ Some o → o.from ≡ s.now
        fresh o is = go (decided_for d entry.event) (sym (late_is d n entry opens r0 (Some one.late) one.is_late) ∙ is) ∙ at
          where
            go : (k : Option ℕ) → option_map (begun_at entry.at.0 n) k ≡ Some o → o.from ≡ entry.at.0
            go None is2 = absurd (cc)
            go (Some k) is2 = (let e : begun_at entry.at.0 n k ≡ o = cc in sym (ap (λ (z : OpenLeg). z.from) e))

        -- what the unit has that the core decided for
        takes : (t0 : ℕ) → t0 ≤ s.now → left_over after stop2 t0 r0 ≤ positive_part decided.taken
        takes t0 le = go (after r0) refl
          where
            go : (o : Option OpenLeg) → after r0 ≡ o → over (λ z. positive_part (stop2 r0 -ℤ pos (max z.from t0))) o ≤ positive_part decided.taken
            go None is = omega arith
            go (Some o) is = (let f = fresh o is in let e = stop2_own in above_rises (stop2 r0 -ℤ pos (max o.from t0)) decided.taken (omega (arith, ints, f, e, le)))

        -- the leg that ends
        ends : (t0 : ℕ) → t0 ≤ s.now → (o : Option OpenLeg) → opens r0 ≡ o
            → positive_part (x.budget +ℤ decided.given) + over (part t0) (option_map (closed_at entry.at.0 one.late n) o) ≤ positive_part x.budget + over (λ z. positive_part (stop r0 -ℤ pos (max z.from t0))) o + over (late_part t0) (option_map (closed_at entry.at.0 one.late n) o)
        ends t0 le None is =
            let none : decided.given ≡ pos 0 = subst (HasLeft s.now x decided.given) (tracked.on r0 ∙ ap (option_map (λ (z : OpenLeg). z.unit)) is) decided.gives_back in
            let rises = above_rises (x.budget +ℤ decided.given) x.budget (omega (arith, ints, none)) in
            omega (arith, rises)
        ends t0 le (Some o) is =
            let on = has_on r0 o is in
            let stops = within.stops r0 o is in
            let gives = stops_same x o.unit (stop r0) (pos s.now +ℤ decided.given) stops (subst (HasLeft s.now x decided.given) on decided.gives_back) in
            let begun = tracked.begun r0 o is in
            let late = (step.decides r0 one.late one.is_late).0 in
            let enough = late_enough s x r0 o.unit (stop r0) known within.at within.capped on stops in
            let closed : PlacedLeg = closed_at entry.at.0 one.late n o in
            elim (counts_or_not (part t0 closed) one.late) [
              | inl short ↦ (
                  let pays = given_now x.budget decided.given (stop r0) s.now (max o.from t0) gives (omega (arith, short, begun, le, at)) in
                  omega (arith, pays, short))
              | inr counts ↦ (
                  let pays = given_back x.budget decided.given (stop r0) s.now (max o.from t0) one.late gives (omega (arith, begun, le)) (omega (arith, ints, enough, late)) in
                  let late_is = counts.1 in
                  omega (arith, pays, late_is, at))
            ]

        pub in_term_decides : InTerm cores d n entry s s2 x opens stop (option_map (closed_at entry.at.0 one.late n) (opens r0))
        in_term_decides = record {
          record_after = y;
          stop_after = stop2;
          within = record { at = at2; capped = (let capped = within.capped in omega (arith, capped, same)); stops = stops2 };
          same_cap = same;
          pays = λ t0 le. (
              let a = ends t0 le (opens r0) refl in
              let b = takes t0 le in
              let c = decided.budget in
              let changed = total_changed cores r0 (left_over opens stop t0) (left_over after stop2 t0)
              (λ r other. ap (λ (z : ℤ). over (λ (o : OpenLeg). positive_part (z -ℤ pos (max o.from t0))) (opens r)) (sym (stop2_other r other)) ∙ ap (over (λ o. positive_part (stop2 r -ℤ pos (max o.from t0)))) (sym (unchanged r other)))
              (λ high. ap (over (λ o. positive_part (stop r0 -ℤ pos (max o.from t0)))) (none_high s opens n r0 known tracked high) ∙ sym (ap (over (λ o. positive_part (stop2 r0 -ℤ pos (max o.from t0)))) (none_high s2 after (suc n) r0 known2 tracked2 high))) in
              omega (arith, a, b, c, changed));
        }

      pub in_term : ends_term m d entry.event ≡ false → InTerm cores d n entry s s2 x opens stop (closed_by d n entry opens (decides d entry.event))
      in_term stays =
          let st = stays_capped m d entry.event stays in
          let capped = within.capped in
          let there = cap_there s2 d x.cap (step.cap ∙ cap_stays m d (cap_at s d) entry.event st.sets st.moves ∙ cap_of s d x within.at) capped in
          go there.0 there.1 there.2 (decides d entry.event)
        where
          go : (y : Credit2Domain) → credit2_in s2 d ≡ Some y → y.cap ≡ x.cap → (v : DecidesNone d entry.event ⊎ DecidesOne d entry.event) → InTerm cores d n entry s s2 x opens stop (closed_by d n entry opens v)
          go y at2 same (inl none) = in_term_goes none y at2 same stays
          go y at2 same (inr one) = in_term_decides one y at2 same
