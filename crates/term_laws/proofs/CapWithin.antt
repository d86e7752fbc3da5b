-- The bound of one term, by the entries that follow its beginning.
use Rattle.std.proofs.Common.{◌≡◌, ◌≤◌, ◌<◌, ◌+◌, ◌-◌, ℕ, suc, Bool, true, false, List, [], ◌∷◌, refl, arith, ap, subst, sym, ◌∙◌, ◌⊎◌, inl, inr, cond, nat_lt}
use Rattle.std.specs.Prelude.{Option, Some, None, option_map, max, is_some, ◌&&◌, ◌||◌, ℤ, pos, ◌-ℤ◌}
use Rattle.sched_base.specs.Credit2Numbers.{positive_part, cap_budget}
use Rattle.sched_model.specs.declared.event.Event.{Event}
use Rattle.sched_model.specs.declared.event.Event.TheVariants as event
use Rattle.sched_model.specs.declared.event.Entry.{Entry}
use Rattle.sched_model.specs.declared.machine.Machine.{Machine}
use Rattle.sched_model.specs.declared.state.State.{State}
use Rattle.sched_model.specs.declared.state.Credit2Domain.{Credit2Domain}
use Rattle.sched_model.specs.Opening.{machine_core_count}
use Rattle.sched_model.specs.Runs.{Reached, IsRunFrom, after_entry, after_entries}
use Rattle.term_laws.specs.Term.{moves, meets}
use Rattle.term_laws.proofs.Time.{time_goes_on}
use Rattle.term_laws.specs.CapTerm.{PlacedLeg, CapTerm, next_decision, cap_set, refills, ends_term, term_from, credit2_in, is_set_after}
use Rattle.term_laws.proofs.CapTracks.{cap_at, on_core, Stops, CapTracks}
use Rattle.term_laws.proofs.CoreSums.{total_same, total_one}
use Rattle.sched_laws.specs.Counts.{over, total_over}
use Rattle.term_laws.proofs.CapLegs.{OpenLeg, Opens, to_close, rest, opens_after, DecidesNone, decides, Tracked, closes_none, tracked_after, late_is}
use Rattle.term_laws.proofs.CapStep.{left_over, budgeted, part, late_part, Within, closed_by, closes_here, in_term, cap_there, cap_of, cap_stays}
use Rattle.term_laws.proofs.CapEnd.{span_in, late_of_met, disturbs, later_none, EndsLate, open_fits, Calm, calm_by, HasSettings, settings_follow, ends_late, some_clash}
use Rattle.sched_laws.proofs.Lists.{none_without}
use Rattle.sched_base.specs.Numbers.{one_if}

-- a term begins where it is said to, and does not end before the moment from which it is followed
pub term_starts : (m : Machine) (d : ℕ) (s : State) (entries : List Entry) (percent t0 n : ℕ) → (term_from m s d percent t0 n entries).term.from ≡ t0
term_starts m d s [] percent t0 n = refl
term_starts m d s (entry ∷ entries) percent t0 n =
    elim (ends_term m d entry.event) as (λ b. (elim b as (λ _. CapTerm) [
      | true ↦ record { term = record { from = t0; until = entry.at.0; budget = cap_budget percent }; last = n; ends_by_setting = is_some (cap_set m d entry.event) }
      | false ↦ term_from m s d percent t0 (suc n) entries
    ]).term.from ≡ t0) [ true ↦ refl | false ↦ term_starts m d s entries percent t0 (suc n) ]

pub term_budget : (m : Machine) (d : ℕ) (s : State) (entries : List Entry) (percent t0 n : ℕ) → (term_from m s d percent t0 n entries).term.budget ≡ cap_budget percent
term_budget m d s [] percent t0 n = refl
term_budget m d s (entry ∷ entries) percent t0 n =
    elim (ends_term m d entry.event) as (λ b. (elim b as (λ _. CapTerm) [
      | true ↦ record { term = record { from = t0; until = entry.at.0; budget = cap_budget percent }; last = n; ends_by_setting = is_some (cap_set m d entry.event) }
      | false ↦ term_from m s d percent t0 (suc n) entries
    ]).term.budget ≡ cap_budget percent) [ true ↦ refl | false ↦ term_budget m d s entries percent t0 (suc n) ]

term_lasts : (m : Machine) (d : ℕ) (entries : List Entry) (from : Reached) (percent t0 n : ℕ) → IsRunFrom m from entries → from.state.now ≤ (term_from m (after_entries m from entries).state d percent t0 n entries).term.until
term_lasts m d [] from percent t0 n run = omega arith
term_lasts m d (entry ∷ entries) from percent t0 n run =
    let moment_is = run.0.moment in
    let later = time_goes_on m from entry run.0 in
    let follow = term_lasts m d entries (after_entry m from entry) percent t0 (suc n) run.1 in
    elim (ends_term m d entry.event) as (λ b. from.state.now ≤ (elim b as (λ _. CapTerm) [
      | true ↦ record { term = record { from = t0; until = entry.at.0; budget = cap_budget percent }; last = n; ends_by_setting = is_some (cap_set m d entry.event) }
      | false ↦ term_from m (after_entries m from (entry ∷ entries)).state d percent t0 (suc n) entries
    ]).term.until) [ true ↦ omega (arith, moment_is) | false ↦ omega (arith, later, follow) ]

-- an event that ends a term decides for no core
pub refill_quiet : (d : ℕ) (e : Event) → refills d e ≡ true → DecidesNone d e
refill_quiet d (event.Refill domain periods budget) is = record { none = λ r. refl; taken = refl }
refill_quiet d _ is = absurd (cc)

move_quiet : (d : ℕ) (e : Event) → moves d e ≡ true → DecidesNone d e
move_quiet d (event.DomMoved domain to) is = record { none = λ r. refl; taken = refl }
move_quiet d _ is = absurd (cc)

-- an event that ends a term by no setting of the cap: a refill, or a move of the domain
abbrev pub EndsBy : ℕ → Event → Type 0
EndsBy d e = DecidesNone d e × ((refills d e ≡ true) × (moves d e ≡ false) ⊎ (moves d e ≡ true))

ends_by : (m : Machine) (d : ℕ) (e : Event) → ends_term m d e ≡ true → cap_set m d e ≡ None → EndsBy d e
ends_by m d e ends none = go (refills d e) (moves d e) refl refl
  where
    go : (a b : Bool) → refills d e ≡ a → moves d e ≡ b → EndsBy d e
    go a true is_a is_b = (move_quiet d e is_b, inr is_b)
    go true false is_a is_b = (refill_quiet d e is_a, inl (is_a, is_b))
    go false false is_a is_b = absurd (let all : ends_term m d e ≡ false = ap (λ (x : Bool). x || is_some (cap_set m d e) || moves d e) is_a ∙ ap (λ (o : Option ℕ). is_some o || moves d e) none ∙ is_b in cc)

over_none : {X : Type 0} (f g : X → ℕ) (o : Option X) → ((x : X) → o ≡ Some x → f x ≡ g x) → over f o ≡ over g o
over_none f g None same = refl
over_none f g (Some x) same = same x refl

module _ (m : Machine) (d : ℕ) (K : State → Type 0) (tracks : CapTracks m d K) (set : List ℕ) where
  abbrev high : ℕ
  high = machine_core_count m.config

  -- the sums over the open legs and those that follow
  abbrev pub time_rest : CapTerm → Opens → State → ℕ → List Entry → ℕ
  time_rest term opens s n entries = rest high d (span_in term) opens s n entries

  abbrev pub late_rest : CapTerm → Opens → State → ℕ → List Entry → ℕ
  late_rest term opens s n entries = rest high d (late_of_met term) opens s n entries

  abbrev pub disturbed_rest : CapTerm → Opens → State → ℕ → List Entry → ℕ
  disturbed_rest term opens s n entries = rest high d (disturbs set term) opens s n entries

  -- a leg that is not disturbed by a setting of the cap
  undisturbed : (term : CapTerm) (placed : PlacedLeg) → disturbs set term placed ≡ 0 → 0 < span_in term placed → is_set_after set term placed ≡ false
  undisturbed term placed none met =
      let is_met : meets term.term placed.leg ≡ true = grind (arith, met) in
      go (is_set_after set term placed) refl (sym (ap (λ (b : Bool). one_if (b && is_set_after set term placed)) is_met) ∙ none)
    where
      go : (b : Bool) → is_set_after set term placed ≡ b → one_if b ≡ 0 → is_set_after set term placed ≡ false
      go true is e = absurd (omega (arith, e))
      go false is e = is

  -- a term that is over: its open legs end late enough
  over_fits : (entries : List Entry) (from : Reached) (n : ℕ) (opens : Opens) (stop : ℕ → ℤ) (term : CapTerm) (allowed : ℕ) → IsRunFrom m from entries → K from.state → Tracked d opens n from.state
      → ((r : ℕ) (o : OpenLeg) → opens r ≡ Some o → (x : Credit2Domain) × (credit2_in from.state d ≡ Some x) × (0 < x.cap) × Stops x o.unit (stop r))
      → term.term.until ≤ from.state.now → (entries ≡ [] ⊎ (term.last < n)) → HasSettings m d set n entries
      → total_over high (left_over opens stop term.term.from) ≤ allowed → disturbed_rest term opens (after_entries m from entries).state n entries ≡ 0
      → time_rest term opens (after_entries m from entries).state n entries ≤ allowed + late_rest term opens (after_entries m from entries).state n entries
  over_fits entries from n opens stop term allowed run known tracked runs over_it past has few none =
      open_fits high d term opens stop (after_entries m from entries).state n allowed entries few ends
      (later_none m d term.term.until (span_in term) (λ placed starts. omega (arith, starts)) entries from (after_entries m from entries).state n run over_it)
    where
      calm : (r : ℕ) (o : OpenLeg) → opens r ≡ Some o → 0 < span_in term (to_close (after_entries m from entries).state r n entries o) → (entries ≡ [] ⊎ (term.last < n)) → Calm m d r entries
      calm r o is met (inl empty) = subst (Calm m d r) (sym empty) tt
      calm r o is met (inr later) =
          let placed : PlacedLeg = to_close (after_entries m from entries).state r n entries o in
          let low = tracks.low from.state known r o.unit (tracked.on r ∙ ap (option_map (λ (z : OpenLeg). z.unit)) is) in
          let one = total_one high r (λ k. over (λ z. disturbs set term (to_close (after_entries m from entries).state k n entries z)) (opens k)) low in
          let here = ap (over (λ z. disturbs set term (to_close (after_entries m from entries).state r n entries z))) is in
          let zero_here : disturbs set term placed ≡ 0 = omega (arith, none, one, here) in
          calm_by m d r term.last o.first entries n later (tracked.earlier r o is) (has (λ k. nat_lt term.last k && nat_lt o.first k && nat_lt k (next_decision r n entries)) (undisturbed term placed zero_here met))

      ends : (r : ℕ) (o : OpenLeg) → opens r ≡ Some o → EndsLate term (stop r) (to_close (after_entries m from entries).state r n entries o)
      ends r o is met =
          let h = runs r o is in
          let late = ends_late m d K tracks entries from n r o (stop r) h.0 run known h.1 h.2 (tracked.on r ∙ ap (option_map (λ (z : OpenLeg). z.unit)) is) h.3 (calm r o is met past) in
          let low = late.0 in
          (omega (arith, over_it, low), late.1)

  -- the leg that ends with an entry within the term
  closed_counts : (t0 t : ℕ) (term : CapTerm) (closed : Option PlacedLeg) → term.term.from ≡ t0 → t ≤ term.term.until → ((placed : PlacedLeg) → closed ≡ Some placed → placed.leg.until ≡ t)
      → (over (span_in term) closed ≡ over (part t0) closed) × (over (late_of_met term) closed ≡ over (late_part t0) closed)
  closed_counts t0 t term closed starts lasts ended =
      (over_none (span_in term) (part t0) closed same, over_none (late_of_met term) (late_part t0) closed (λ placed is. ap (λ (k : ℕ). cond (nat_lt 0 k) placed.leg.late 0) (same placed is)))
    where
      same : (placed : PlacedLeg) → closed ≡ Some placed → span_in term placed ≡ part t0 placed
      same placed is = (let e = ended placed is in omega (arith, e, starts, lasts))

  pub kept_within : (entries : List Entry) (from : Reached) (n : ℕ) (opens : Opens) (stop : ℕ → ℤ) (x : Credit2Domain) (percent t0 allowed : ℕ) (term : CapTerm) → IsRunFrom m from entries → K from.state → Tracked d opens n from.state → Within from.state d x opens stop
      → t0 ≤ from.state.now → budgeted high opens stop x.budget t0 ≤ allowed → HasSettings m d set n entries
      → term_from m (after_entries m from entries).state d percent t0 n entries ≡ term → term.ends_by_setting ≡ false → disturbed_rest term opens (after_entries m from entries).state n entries ≡ 0
      → time_rest term opens (after_entries m from entries).state n entries ≤ allowed + late_rest term opens (after_entries m from entries).state n entries
  kept_within [] from n opens stop x percent t0 allowed term run known tracked within begun few has is plain none =
      let starts : term.term.from ≡ t0 = sym (ap (λ (z : CapTerm). z.term.from) is) in
      let until : term.term.until ≡ from.state.now = sym (ap (λ (z : CapTerm). z.term.until) is) in
      over_fits [] from n opens stop term allowed run known tracked (λ r o there. (x, within.at, within.capped, within.stops r o there)) (omega (arith, until)) (inl refl) has
      (subst (λ t. total_over high (left_over opens stop t) ≤ allowed) (sym starts) (omega (arith, few))) none
  kept_within (entry ∷ entries) from n opens stop x percent t0 allowed term run known tracked within begun few has is plain none =
      elim (ends_term m d entry.event) as (λ b. ends_term m d entry.event ≡ b → time_rest term opens (after_entries m from (entry ∷ entries)).state n (entry ∷ entries) ≤ allowed + late_rest term opens (after_entries m from (entry ∷ entries)).state n (entry ∷ entries)) [
        | true ↦ λ ends. ended ends
        | false ↦ λ stays. (
            let next : Reached = after_entry m from entry in
            let step = tracks.steps from entry run.0 known in
            let known2 = tracks.known from entry run.0 known in
            let at = run.0.moment in
            let later = time_goes_on m from entry run.0 in
            let tracked2 = tracked_after m d n opens entry from.state next.state at later step tracked in
            let goes = in_term m d K tracks n entry from.state next.state opens at known known2 step tracked tracked2 x stop within stays in
            let closes = closes_here m d K tracks n entry from.state next.state opens at known known2 step tracked tracked2 in
            let last : State = (after_entries m next entries).state in
            let closed : Option PlacedLeg = closed_by d n entry opens (decides d entry.event) in
            let is2 : term_from m last d percent t0 (suc n) entries ≡ term = sym (ap (λ (b : Bool). elim b as (λ _. CapTerm) [
              | true ↦ record { term = record { from = t0; until = entry.at.0; budget = cap_budget percent }; last = n; ends_by_setting = is_some (cap_set m d entry.event) }
              | false ↦ term_from m last d percent t0 (suc n) entries
            ]) stays) ∙ is in
            let starts : term.term.from ≡ t0 = sym (ap (λ (z : CapTerm). z.term.from) is2) ∙ term_starts m d last entries percent t0 (suc n) in
            let until : (term_from m last d percent t0 (suc n) entries).term.until ≡ term.term.until = ap (λ (z : CapTerm). z.term.until) is2 in
            let lasts = term_lasts m d entries next percent t0 (suc n) run.1 in
            let counts = closed_counts t0 entry.at.0 term closed starts (omega (arith, at, later, lasts, until)) closes.ended in
            let time_counts = counts.0 in
            let late_counts = counts.1 in
            let pays = goes.pays t0 begun in
            let times = closes.parts (span_in term) last entries in
            let lates = closes.parts (late_of_met term) last entries in
            let disturbed = closes.parts (disturbs set term) last entries in
            let follow = kept_within entries next (suc n) (opens_after d n entry opens) goes.stop_after goes.record_after percent t0 (allowed + over (late_part t0) closed - over (part t0) closed) term run.1 known2 tracked2 goes.within
            (omega (arith, begun, later)) (omega (arith, pays, few)) (settings_follow m d set n entry entries has) is2 plain (omega (arith, disturbed, none)) in
            omega (arith, pays, few, times, lates, time_counts, late_counts, follow))
      ] refl
    where
      ended : ends_term m d entry.event ≡ true → time_rest term opens (after_entries m from (entry ∷ entries)).state n (entry ∷ entries) ≤ allowed + late_rest term opens (after_entries m from (entry ∷ entries)).state n (entry ∷ entries)
      ended ends =
          let next : Reached = after_entry m from entry in
          let step = tracks.steps from entry run.0 known in
          let known2 = tracks.known from entry run.0 known in
          let at = run.0.moment in
          let later = time_goes_on m from entry run.0 in
          let tracked2 = tracked_after m d n opens entry from.state next.state at later step tracked in
          let last : State = (after_entries m next entries).state in
          let is2 : record { term = record { from = t0; until = entry.at.0; budget = cap_budget percent }; last = n; ends_by_setting = is_some (cap_set m d entry.event) } ≡ term = sym (ap (λ (b : Bool). elim b as (λ _. CapTerm) [
            | true ↦ record { term = record { from = t0; until = entry.at.0; budget = cap_budget percent }; last = n; ends_by_setting = is_some (cap_set m d entry.event) }
            | false ↦ term_from m last d percent t0 (suc n) entries
          ]) ends) ∙ is in
          let starts : t0 ≡ term.term.from = ap (λ (z : CapTerm). z.term.from) is2 in
          let until : entry.at.0 ≡ term.term.until = ap (λ (z : CapTerm). z.term.until) is2 in
          let last_is : n ≡ term.last = ap (λ (z : CapTerm). z.last) is2 in
          let not_set : cap_set m d entry.event ≡ None = none_without (cap_set m d entry.event) (ap (λ (z : CapTerm). z.ends_by_setting) is2 ∙ plain) in
          let by = ends_by m d entry.event ends not_set in
          let closes = closes_none high d n entry opens by.0 in
          let times = closes.parts (span_in term) last entries in
          let lates = closes.parts (late_of_met term) last entries in
          let disturbed = closes.parts (disturbs set term) last entries in
          let unchanged : (r : ℕ) → opens_after d n entry opens r ≡ opens r = λ r. late_is d n entry opens r None (by.0.none r) in
          let sums = total_same high (left_over (opens_after d n entry opens) stop t0) (left_over opens stop t0) (λ r low. ap (over (λ o. positive_part (stop r -ℤ pos (max o.from t0)))) (unchanged r)) in
          let follow = over_fits entries next (suc n) (opens_after d n entry opens) stop term allowed run.1 known2 tracked2
          (λ r o there. runs_on by.1 not_set r o (sym (unchanged r) ∙ there)) (omega (arith, until, at, later)) (inr (omega (arith, last_is))) (settings_follow m d set n entry entries has)
          (subst (λ t. total_over high (left_over (opens_after d n entry opens) stop t) ≤ allowed) starts (omega (arith, sums, few))) (omega (arith, disturbed, none)) in
          omega (arith, times, lates, follow)
        where
          runs_on : ((refills d entry.event ≡ true) × (moves d entry.event ≡ false) ⊎ (moves d entry.event ≡ true)) → cap_set m d entry.event ≡ None → (r : ℕ) (o : OpenLeg) → opens r ≡ Some o
              → (y : Credit2Domain) × (credit2_in (after_entry m from entry).state d ≡ Some y) × (0 < y.cap) × Stops y o.unit (stop r)
          runs_on (inr moved) not_set r o there =
              absurd (some_clash o.unit (on_core from.state d r) (tracked.on r ∙ ap (option_map (λ (z : OpenLeg). z.unit)) there) ((tracks.steps from entry run.0 known).moved r moved))
          runs_on (inl refilled) not_set r o there =
              let step = tracks.steps from entry run.0 known in
              let capped = within.capped in
              let y = cap_there (after_entry m from entry).state d x.cap (step.cap ∙ cap_stays m d (cap_at from.state d) entry.event not_set refilled.1 ∙ cap_of from.state d x within.at) capped in
              let same = y.2 in
              (y.0, y.1, omega (arith, capped, same), (step.refilled x y.0 refilled.0 within.at capped y.1).others o.unit (stop r) (within.stops r o there))
