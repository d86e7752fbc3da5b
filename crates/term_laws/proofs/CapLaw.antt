-- The law of the terms of caps, of each run, from what each of its entries does.
use Rattle.std.proofs.Common.{◌≡◌, ◌≤◌, ◌<◌, ◌+◌, ℕ, suc, Bool, true, false, not, List, [], ◌∷◌, refl, arith, ap, subst, sym, ◌∙◌, cond, nat_lt}
use Rattle.std.specs.Prelude.{Option, Some, None, is_some, sum_by, ◌&&◌, ◌||◌, pos}
use Rattle.std.specs.List.{All, AllByRecursion, list_any}
use Rattle.std.proofs.lemmas.List.Elements.{All-from_recursion}
use Rattle.std.proofs.lemmas.List.Sums.{sum_by-cons}
use Rattle.std.proofs.lemmas.Bool.{not-true}
use Rattle.sched_base.specs.Credit2Numbers.{positive_part, cap_budget}
use Rattle.sched_model.specs.declared.event.Event.{Event}
use Rattle.sched_model.specs.declared.event.Entry.{Entry}
use Rattle.sched_model.specs.declared.machine.Machine.{Machine}
use Rattle.sched_model.specs.declared.state.State.{State}
use Rattle.sched_model.specs.declared.state.Credit2Domain.{Credit2Domain}
use Rattle.sched_model.specs.Opening.{opening, machine_core_count}
use Rattle.sched_model.specs.Runs.{Reached, run_start as begun, IsRunFrom, IsRun, after_entry, after_entries}
use Rattle.sched_laws.specs.StateLaws.{state_after}
use Rattle.sched_base.proofs.Lists.{AllByRecursion-map}
use Rattle.sched_base.proofs.Bools.{and_left, and_right, or_left, or_right}
use Rattle.term_laws.proofs.Time.{time_goes_on}
use Rattle.term_laws.specs.Term.{Leg, meets, shared_span, late_in}
use Rattle.term_laws.specs.CapTerm.{PlacedLeg, CapTerm, domain_legs, cap_set, settings, refills, cap_after, begins_term, term_from, terms_begun, credit2_in, first_cap, cap_terms, spans, is_set_after, KeepsCap}
use Rattle.term_laws.proofs.CapTracks.{cap_at, CapTracks}
use Rattle.term_laws.proofs.CoreSums.{total_none}
use Rattle.sched_laws.specs.Counts.{over}
use Rattle.term_laws.proofs.CapLegs.{Opens, rest, opens_after, decides, Tracked, Closes, tracked_after}
use Rattle.term_laws.proofs.CapStep.{left_over, budgeted, closed_by, closes_here, cap_there}
use Rattle.term_laws.proofs.CapEnd.{span_in, late_of_met, disturbs, HasSettings, settings_follow}
use Rattle.term_laws.proofs.CapWithin.{term_starts, term_budget, time_rest, late_rest, disturbed_rest, kept_within}
use Rattle.term_laws.proofs.CapFunded.{Funded, funded_later, funded_after}

module _ (m : Machine) (d : ℕ) (K : State → Type 0) (tracks : CapTracks m d K) (set : List ℕ) where
  abbrev high : ℕ
  high = machine_core_count m.config

  -- the term is kept, counted from a moment from which it may begin
  abbrev Kept : ℕ → Opens → State → ℕ → List Entry → CapTerm → Type 0
  Kept now opens s n entries term =
      (now ≤ term.term.from) × (term.ends_by_setting ≡ false → disturbed_rest m d K tracks set term opens s n entries ≡ 0 → time_rest m d K tracks set term opens s n entries ≤ term.term.budget + late_rest m d K tracks set term opens s n entries)

  -- a leg that ended before the term adds nothing to it
  kept_before : (n : ℕ) (entry : Entry) (entries : List Entry) (last : State) (opens opens2 : Opens) (closed : Option PlacedLeg) (now later : ℕ) (term : CapTerm) → Closes high d opens opens2 n entry closed → entry.at.0 ≡ now → now ≤ later
      → Kept later opens2 last (suc n) entries term → Kept now opens last n (entry ∷ entries) term
  kept_before n entry entries last opens opens2 closed now later term closes at le kept =
      let starts = kept.0 in (
        omega (arith, starts, le),
        λ plain none. (
            let times = closes.parts (span_in term) last entries in
            let lates = closes.parts (late_of_met term) last entries in
            let disturbed = closes.parts (disturbs set term) last entries in
            let time_none = unmet (span_in term) (λ placed e. e) closed closes.ended in
            let follow = kept.1 plain (omega (arith, disturbed, none)) in
            omega (arith, times, lates, time_none, follow)),
      )
    where
      unmet : (f : PlacedLeg → ℕ) → ((placed : PlacedLeg) → span_in term placed ≡ 0 → f placed ≡ 0) → (c : Option PlacedLeg) → ((placed : PlacedLeg) → c ≡ Some placed → placed.leg.until ≡ entry.at.0) → over f c ≡ 0
      unmet f none None ended = refl
      unmet f none (Some placed) ended = (let e = ended placed refl in let starts = kept.0 in none placed (omega (arith, e, at, le, starts)))

  begins : (percent : ℕ) (e : Event) → begins_term m d percent e ≡ true → 0 < percent
  begins percent e is = (let some_cap = and_right (refills d e || is_some (cap_set m d e)) (nat_lt 0 percent) is in grind (arith, some_cap))

  -- all terms that begin with these entries
  pub terms_kept : (entries : List Entry) (from : Reached) (n : ℕ) (opens : Opens) (percent : ℕ) → cap_at from.state d ≡ percent → IsRunFrom m from entries → K from.state → Tracked d opens n from.state → HasSettings m d set n entries
      → ((x : Credit2Domain) → credit2_in from.state d ≡ Some x → 0 < x.cap → Funded high from.state.now from.state d x opens)
      → AllByRecursion (Kept from.state.now opens (after_entries m from entries).state n entries) (terms_begun m (after_entries m from entries).state d percent n entries)
  terms_kept [] from n opens percent is run known tracked has funded = tt
  terms_kept (entry ∷ entries) from n opens percent is run known tracked has funded =
      let next : Reached = after_entry m from entry in
      let step = tracks.steps from entry run.0 known in
      let known2 = tracks.known from entry run.0 known in
      let at = run.0.moment in
      let later = time_goes_on m from entry run.0 in
      let tracked2 = tracked_after m d n opens entry from.state next.state at later step tracked in
      let closes = closes_here m d K tracks n entry from.state next.state opens at known known2 step tracked tracked2 in
      let last : State = (after_entries m next entries).state in
      let opens2 : Opens = opens_after d n entry opens in
      let closed : Option PlacedLeg = closed_by d n entry opens (decides d entry.event) in
      let percent2 : ℕ = cap_after m d percent entry.event in
      let is2 : cap_at next.state d ≡ percent2 = step.cap ∙ ap (λ (c : ℕ). cap_after m d c entry.event) is in
      let has2 = settings_follow m d set n entry entries has in
      let funded2 = funded_after m d K tracks n entry from.state next.state opens at known known2 step tracked tracked2 funded in
      let follow = AllByRecursion-map (Kept next.state.now opens2 last (suc n) entries) (Kept from.state.now opens last n (entry ∷ entries)) (λ term kept. kept_before n entry entries last opens opens2 closed from.state.now next.state.now term closes at later kept) (terms_begun m last d percent2 (suc n) entries)
      (terms_kept entries next (suc n) opens2 percent2 is2 run.1 known2 tracked2 has2 (λ y at2 capped. funded_later high from.state.now next.state.now next.state d y opens2 later (funded2 y at2 capped))) in
      elim (begins_term m d percent2 entry.event) as (λ b. begins_term m d percent2 entry.event ≡ b
      → AllByRecursion (Kept from.state.now opens last n (entry ∷ entries)) (elim b as (λ _. List CapTerm) [ true ↦ term_from m last d percent2 entry.at.0 (suc n) entries ∷ terms_begun m last d percent2 (suc n) entries | false ↦ terms_begun m last d percent2 (suc n) entries ])) [
        | true ↦ λ begin. (
            let y = cap_there next.state d percent2 is2 (begins percent2 entry.event begin) in
            let some_cap = begins percent2 entry.event begin in
            let same = y.2 in
            let f = funded2 y.0 y.1 (omega (arith, some_cap, same)) in
            let fits = f.fits in
            let totals = ap cap_budget same in
            let term : CapTerm = term_from m last d percent2 entry.at.0 (suc n) entries in
            let budget = term_budget m d last entries percent2 entry.at.0 (suc n) in
            let starts = term_starts m d last entries percent2 entry.at.0 (suc n) in
            let here : Kept from.state.now opens2 last (suc n) entries term = (
              omega (arith, starts, at),
              λ plain none. kept_within m d K tracks set entries next (suc n) opens2 f.stop y.0 percent2 entry.at.0 term.term.budget term run.1 known2 tracked2 f.within (omega (arith, at, later))
                  (subst (λ t. budgeted high opens2 f.stop y.0.budget t ≤ term.term.budget) (sym at) (omega (arith, fits, totals, budget))) has2 refl plain none,
            ) in
            (kept_before n entry entries last opens opens2 closed from.state.now from.state.now term closes at (omega arith) here, follow))
        | false ↦ λ begin. follow
      ] refl

-- the sum over all legs of the run
whole_sum : (high d : ℕ) (f : PlacedLeg → ℕ) (s : State) (entries : List Entry) → rest high d f (λ r. None) s 0 entries ≡ sum_by f (domain_legs s d 0 entries)
whole_sum high d f s entries = (let none = total_none high (λ r. 0) (λ r low. refl) in omega (arith, none))

-- and over the legs alone
span_sum : (f : Leg → ℕ) (placed : List PlacedLeg) → sum_by f (spans placed) ≡ sum_by (λ (p : PlacedLeg). f p.leg) placed
span_sum f [] = refl
span_sum f (p ∷ placed) =
    let a = sum_by-cons f p.leg (spans placed) in
    let b = sum_by-cons (λ (q : PlacedLeg). f q.leg) p placed in
    let follow = span_sum f placed in
    omega (arith, a, b, follow)

-- no leg disturbs the term
none_disturbs : (set : List ℕ) (term : CapTerm) (placed : List PlacedLeg) → list_any (λ leg. meets term.term leg.leg && is_set_after set term leg) placed ≡ false → sum_by (disturbs set term) placed ≡ 0
none_disturbs set term [] none = refl
none_disturbs set term (leg ∷ placed) none =
    let sum = sum_by-cons (disturbs set term) leg placed in
    let follow = none_disturbs set term placed (or_right (meets term.term leg.leg && is_set_after set term leg) (list_any (λ leg. meets term.term leg.leg && is_set_after set term leg) placed) none) in
    let first : disturbs set term leg ≡ 0 = ap (λ (b : Bool). cond b 1 0) (or_left (meets term.term leg.leg && is_set_after set term leg) (list_any (λ leg. meets term.term leg.leg && is_set_after set term leg) placed) none) in
    omega (arith, sum, follow, first)

module _ (m : Machine) (d : ℕ) (K : State → Type 0) (tracks : CapTracks m d K) (entries : List Entry) (run : IsRun m entries) where
  abbrev last : State
  last = state_after m entries

  abbrev set : List ℕ
  set = settings m d 0 entries

  abbrev placed : List PlacedLeg
  placed = domain_legs last d 0 entries

  abbrev nobody : Opens
  nobody r = None

  nobody_tracked : Tracked d nobody 0 (opening m)
  nobody_tracked = record { on = λ r. tracks.nobody r; begun = λ r o is. absurd (cc); earlier = λ r o is. absurd (cc) }

  funded_opening : (x : Credit2Domain) → credit2_in (opening m) d ≡ Some x → 0 < x.cap → Funded (machine_core_count m.config) (opening m).now (opening m) d x nobody
  funded_opening x at capped =
      let none = total_none (machine_core_count m.config) (left_over nobody (λ r. pos 0) (opening m).now) (λ r low. refl) in
      let budget = ap positive_part (tracks.full x at) in
      record { stop = λ r. pos 0; within = record { at = at; capped = capped; stops = λ r o is. absurd (cc) }; fits = omega (arith, none, budget) }

  -- what is kept of all legs is what the law says
  keeps : (term : CapTerm) → (term.ends_by_setting ≡ false → disturbed_rest m d K tracks set term nobody last 0 entries ≡ 0 → time_rest m d K tracks set term nobody last 0 entries ≤ term.term.budget + late_rest m d K tracks set term nobody last 0 entries) → KeepsCap set placed term
  keeps term kept spoken =
      let plain : term.ends_by_setting ≡ false = not-true term.ends_by_setting (and_left (not term.ends_by_setting) (not (list_any (λ leg. meets term.term leg.leg && is_set_after set term leg) placed)) spoken) in
      let clear = not-true (list_any (λ leg. meets term.term leg.leg && is_set_after set term leg) placed) (and_right (not term.ends_by_setting) (not (list_any (λ leg. meets term.term leg.leg && is_set_after set term leg) placed)) spoken) in
      let none = none_disturbs set term placed clear in
      let times = whole_sum (machine_core_count m.config) d (span_in term) last entries in
      let lates = whole_sum (machine_core_count m.config) d (late_of_met term) last entries in
      let disturbed = whole_sum (machine_core_count m.config) d (disturbs set term) last entries in
      let fits = kept plain (omega (arith, none, disturbed)) in
      let on_all = span_sum (shared_span term.term) placed in
      let late_all = span_sum (late_in term.term) placed in
      omega (arith, times, lates, fits, on_all, late_all)

  follow_kept : AllByRecursion (KeepsCap set placed) (terms_begun m last d (first_cap m d) 0 entries)
  follow_kept =
      AllByRecursion-map _ (KeepsCap set placed) (λ term kept. keeps term kept.1) (terms_begun m last d (first_cap m d) 0 entries)
      (terms_kept m d K tracks set entries (begun m) 0 nobody (first_cap m d) refl run tracks.opens nobody_tracked (λ test none. none) funded_opening)

  first_kept : 0 < first_cap m d → KeepsCap set placed (term_from m last d (first_cap m d) 0 0 entries)
  first_kept some_cap =
      let x = cap_there (opening m) d (first_cap m d) refl some_cap in
      let same = x.2 in
      let f = funded_opening x.0 x.1 (omega (arith, some_cap, same)) in
      let fits = f.fits in
      let totals = ap cap_budget same in
      let term : CapTerm = term_from m last d (first_cap m d) 0 0 entries in
      let budget = term_budget m d last entries (first_cap m d) 0 0 in
      keeps term (λ plain none. kept_within m d K tracks set entries (begun m) 0 nobody f.stop x.0 (first_cap m d) 0 term.term.budget term run tracks.opens nobody_tracked f.within (omega arith) (omega (arith, fits, totals, budget)) (λ test none2. none2) refl plain none)

  pub law_from_tracks : All (KeepsCap set placed) (cap_terms m last d entries)
  law_from_tracks =
      All-from_recursion (KeepsCap set placed) (cap_terms m last d entries)
      (elim (nat_lt 0 (first_cap m d)) as (λ b. nat_lt 0 (first_cap m d) ≡ b → AllByRecursion (KeepsCap set placed) (elim b as (λ _. List CapTerm) [
        | true ↦ term_from m last d (first_cap m d) 0 0 entries ∷ terms_begun m last d (first_cap m d) 0 entries
        | false ↦ terms_begun m last d (first_cap m d) 0 entries
      ])) [ true ↦ λ some_cap. (first_kept (grind (arith, some_cap)), follow_kept) | false ↦ λ none. follow_kept ] refl)
