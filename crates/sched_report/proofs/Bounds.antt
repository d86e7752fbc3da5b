-- The numbers of tallies stay small.
use Rattle.std.proofs.Common.{◌≡◌, ℕ, ◌+◌, ◌-◌, ◌≤◌, ◌<◌, true, false, cond, List, sym, subst, arith, length, get_or, ◌∙◌, inl, inr}
use Rattle.std.specs.Prelude.{Option, Some, None, IfSome, nat_lt, slice_index_or, slice_set}
use Rattle.std.proofs.lemmas.Bool.{cases_eq, cases_lt}
use Rattle.std.proofs.lemmas.List.{get_or-set_same, get_or-set_other, set_past, get_or_default}
use Rattle.sched_base.specs.declared.UnitId.{UnitId}
use Rattle.sched_model.specs.Pool.{same_choice}
use Rattle.sched_report.specs.declared.choice.CoreChoice.{CoreChoice}
use Rattle.sched_report.specs.declared.tally.UnitTally.{UnitTally}
use Rattle.sched_report.specs.declared.tally.CoreTally.{CoreTally}
use Rattle.sched_report.specs.Tallies.{nothing_done, undecided_core, unit_place_number, changed_at, with_ended_stay, with_begun_stay, with_renewal, ended_span, core_tally_after, after_found, after_picked, units_after, cores_with, units_with, units_renewed, UnitWithin, CoreWithin, UnitsWithin, CoresWithin, IsShort}

-- what holds of each tally before holds in its other form of each after, where the change gives that form
pub each_changed : (P Q : UnitTally → Type 0) (place : Option ℕ) (f : UnitTally → UnitTally) (units : List UnitTally)
    → ((t : UnitTally) → P t → Q t) → ((t : UnitTally) → P t → Q (f t))
    → ((i : ℕ) → P (slice_index_or units i nothing_done)) → (i : ℕ) → Q (slice_index_or (changed_at place f units) i nothing_done)
each_changed P Q None f units kept changed each i = kept _ (each i)
each_changed P Q (Some j) f units kept changed each i =
    let y : UnitTally = f (slice_index_or units j nothing_done) in
    elim (cases_eq i j) [
      | inl e ↦ elim (cases_lt j (length units)) [
        | inl low ↦ subst (λ k. Q (slice_index_or (slice_set units j y) k nothing_done)) (sym e) (subst Q (sym (get_or-set_same units j y nothing_done low)) (changed _ (each j)))
        | inr high ↦ subst (λ us. Q (slice_index_or us i nothing_done)) (sym (set_past units j y high)) (kept _ (each i))
      ]
      | inr apart ↦ subst Q (sym (get_or-set_other units j i y nothing_done apart)) (kept _ (each i))
    ]

-- no stay that a choice ends is longer than the choice is late in the run
ended-short : (core : CoreTally) (c : CoreChoice) → ended_span core c ≤ c.at.0
ended-short core c =
    elim core.cur as (λ o. elim o as (λ _. ℕ) [ None ↦ 0 | Some u ↦ cond (same_choice o c.unit) 0 (c.at.0 - core.since.0) ] ≤ c.at.0) [
      | None ↦ omega arith
      | Some u ↦ elim (same_choice (Some u) c.unit) as (λ b. cond b 0 (c.at.0 - core.since.0) ≤ c.at.0) [ true ↦ omega arith | false ↦ omega arith ]
    ]

module _ (times stays renewals : ℕ) (core : CoreTally) (c : CoreChoice) (units : List UnitTally) where
  pub within-found : IsShort c → UnitsWithin times stays renewals units → UnitsWithin (times + 1) stays renewals (after_found core c units)
  within-found short within =
      let ended_short = ended-short core c in
      elim core.cur as (λ o. UnitsWithin (times + 1) stays renewals (elim o as (λ _. List UnitTally) [ None ↦ units | Some u ↦ changed_at (unit_place_number u) (with_ended_stay (ended_span core c) c.late.0) units ])) [
        | None ↦ λ i. let w = within i in record { run = omega (arith, w.run); picks = w.picks; repl = w.repl; late = omega (arith, w.late) }
        | Some u ↦ each_changed (UnitWithin times stays renewals) (UnitWithin (times + 1) stays renewals) (unit_place_number u) (with_ended_stay (ended_span core c) c.late.0) units
            (λ t w. record { run = omega (arith, w.run); picks = w.picks; repl = w.repl; late = omega (arith, w.late) })
            (λ t w. record { run = omega (arith, w.run, ended_short, short.at); picks = w.picks; repl = w.repl; late = omega (arith, w.late, short.late) }) within
      ]

  pub within-picked : UnitsWithin times stays renewals units → UnitsWithin times (stays + 1) renewals (after_picked core c units)
  within-picked within =
      let more : UnitsWithin times (stays + 1) renewals units = λ i. let w = within i in record { run = w.run; picks = omega (arith, w.picks); repl = w.repl; late = w.late } in
      elim (same_choice core.cur c.unit) as (λ b. UnitsWithin times (stays + 1) renewals (cond b units (elim c.unit as (λ _. List UnitTally) [ None ↦ units | Some u ↦ changed_at (unit_place_number u) with_begun_stay units ]))) [
        | true ↦ more
        | false ↦ elim c.unit as (λ o. UnitsWithin times (stays + 1) renewals (elim o as (λ _. List UnitTally) [ None ↦ units | Some u ↦ changed_at (unit_place_number u) with_begun_stay units ])) [
          | None ↦ more
          | Some u ↦ each_changed (UnitWithin times stays renewals) (UnitWithin times (stays + 1) renewals) (unit_place_number u) with_begun_stay units
              (λ t w. record { run = w.run; picks = omega (arith, w.picks); repl = w.repl; late = w.late })
              (λ t w. record { run = w.run; picks = omega (arith, w.picks); repl = w.repl; late = w.late }) within
        ]
      ]

pub within-renewed : (times stays renewals : ℕ) (o : Option UnitId) (units : List UnitTally)
    → UnitsWithin times stays renewals units → UnitsWithin times stays (renewals + 1) (units_renewed o units)
within-renewed times stays renewals None units within = λ i. let w = within i in record { run = w.run; picks = w.picks; repl = omega (arith, w.repl); late = w.late }
within-renewed times stays renewals (Some u) units within =
    each_changed (UnitWithin times stays renewals) (UnitWithin times stays (renewals + 1)) (unit_place_number u) with_renewal units
    (λ t w. record { run = w.run; picks = w.picks; repl = omega (arith, w.repl); late = w.late })
    (λ t w. record { run = w.run; picks = w.picks; repl = omega (arith, w.repl); late = w.late }) within

pub within-with : (k : ℕ) (o : Option CoreChoice) (cores : List CoreTally) (units : List UnitTally)
    → IfSome o IsShort → UnitsWithin k k k units → UnitsWithin (k + 1) (k + 1) k (units_with o cores units)
within-with k None cores units short within = λ i. let w = within i in record { run = omega (arith, w.run); picks = omega (arith, w.picks); repl = w.repl; late = omega (arith, w.late) }
within-with k (Some c) cores units short within =
    elim (nat_lt c.core.0 (length cores)) as (λ b. UnitsWithin (k + 1) (k + 1) k (cond b (units_after (slice_index_or cores c.core.0 undecided_core) c units) units)) [
      | true ↦ within-picked (k + 1) k k (slice_index_or cores c.core.0 undecided_core) c _ (within-found k k k (slice_index_or cores c.core.0 undecided_core) c units short within)
      | false ↦ λ i. let w = within i in record { run = omega (arith, w.run); picks = omega (arith, w.picks); repl = w.repl; late = omega (arith, w.late) }
    ]

pub cores_within-with : (k : ℕ) (o : Option CoreChoice) (cores : List CoreTally) → IfSome o IsShort → CoresWithin k cores → CoresWithin (k + 1) (cores_with o cores)
cores_within-with k None cores short within i = let w = within i in record { run = omega (arith, w.run); decides = omega (arith, w.decides) }
cores_within-with k (Some c) cores short within i =
    let r = c.core.0 in
    let here : CoreTally = slice_index_or cores r undecided_core in
    let was = within r in
    let ended_short = ended-short here c in
    let now : CoreWithin (k + 1) (core_tally_after here c) = record { run = omega (arith, was.run, ended_short, short.at); decides = omega (arith, was.decides) } in
    let kept : CoreWithin (k + 1) (slice_index_or cores i undecided_core) = record { run = omega (arith, (within i).run); decides = omega (arith, (within i).decides) } in
    elim (cases_eq i r) [
      | inl e ↦ elim (cases_lt r (length cores)) [
        | inl low ↦
            subst (λ k'. CoreWithin (k + 1) (slice_index_or (slice_set cores r (core_tally_after here c)) k' undecided_core)) (sym e)
            (subst (CoreWithin (k + 1)) (sym (get_or-set_same cores r (core_tally_after here c) undecided_core low)) now)
        | inr high ↦ subst (λ cs. CoreWithin (k + 1) (slice_index_or cs i undecided_core)) (sym (set_past cores r (core_tally_after here c) high)) kept
      ]
      | inr apart ↦ subst (CoreWithin (k + 1)) (sym (get_or-set_other cores r i (core_tally_after here c) undecided_core apart)) kept
    ]

-- what is small is also less than more
pub within-more : (k m : ℕ) (units : List UnitTally) → k ≤ m → UnitsWithin k k k units → UnitsWithin m m m units
within-more k m units more within i = let w = within i in
    record { run = omega (arith, w.run, more); picks = omega (arith, w.picks, more); repl = omega (arith, w.repl, more); late = omega (arith, w.late, more) }

pub core_within-more : (k m : ℕ) (cores : List CoreTally) (r : ℕ) (core : CoreTally) → k ≤ m → CoresWithin k cores → r < length cores → core ≡ get_or cores r core → CoreWithin m core
core_within-more k m cores r core more within below is =
    let w : CoreWithin k core = subst (CoreWithin k) (sym (is ∙ get_or_default cores r core undecided_core below)) (within r) in
    record { run = omega (arith, w.run, more); decides = omega (arith, w.decides, more) }
