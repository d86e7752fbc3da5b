-- What one choice more makes of the choices, decisions and tallies of a core.
use Rattle.std.proofs.Common.{◌≡◌, ℕ, ◌+◌, Bool, true, false, cond, List, [], ◌∷◌, ◌++◌, refl, ap, ◌∙◌, arith, length, inl, inr}
use Rattle.std.specs.Prelude.{Option, Some, None, ◌==◌, fold, sum_by, filter, filter_map}
use Rattle.std.specs.List.{cons_option}
use Rattle.std.proofs.lemmas.List.Sums.{sum_by-cons}
use Rattle.std.proofs.lemmas.List.Elements.{filter_map-append, filter-append}
use Rattle.sched_base.specs.declared.Moment.{Moment}
use Rattle.sched_base.specs.declared.UnitId.{UnitId}
use Rattle.sched_model.specs.declared.event.Entry.{Entry}
use Rattle.sched_model.specs.Places.{same_unit, is_unit}
use Rattle.sched_model.specs.Pool.{same_choice}
use Rattle.sched_report.specs.declared.choice.CoreChoice.{CoreChoice}
use Rattle.sched_report.specs.declared.tally.CoreTally.{CoreTally}
use Rattle.sched_report.specs.Stays.{Decision, Stay, entry_choice, choices, decisions_from, stay_begun, stays_from, end_of_stay, last_or}
use Rattle.sched_report.specs.Tallies.{core_tally_after, ended_span, ended_time, begins}
use Rattle.sched_report.proofs.Folds.{told}

-- the choice, where it is one of the core r
abbrev pub chosen_at : ℕ → Option CoreChoice → List CoreChoice
chosen_at r None = []
chosen_at r (Some c) = cond (c.core.0 == r) (c ∷ []) []

chosen : (r : ℕ) (o : Option CoreChoice) → filter (λ (c : CoreChoice). c.core.0 == r) (cons_option o []) ≡ chosen_at r o
chosen r None = refl
chosen r (Some c) = refl

pub choices-more : (r : ℕ) (es : List Entry) (e : Entry) → choices r (es ++ e ∷ []) ≡ choices r es ++ chosen_at r (entry_choice e)
choices-more r es e =
    ap (filter (λ (c : CoreChoice). c.core.0 == r)) (filter_map-append entry_choice es (e ∷ []))
    ∙ filter-append (λ (c : CoreChoice). c.core.0 == r) (filter_map entry_choice es) (filter_map entry_choice (e ∷ []))
    ∙ ap (λ cs. choices r es ++ cs) (chosen r (entry_choice e))

-- the unit on the core after the choices
abbrev pub last_unit : Option UnitId → List CoreChoice → Option UnitId
last_unit before [] = before
last_unit before (c ∷ cs) = last_unit c.unit cs

pub decisions-more : (before : Option UnitId) (cs : List CoreChoice) (c : CoreChoice)
    → decisions_from before (cs ++ c ∷ []) ≡ decisions_from before cs ++ (record { before = last_unit before cs; choice = c }) ∷ []
decisions-more before [] c = refl
decisions-more before (x ∷ cs) c = ap (λ ds. (record { before = before; choice = x }) ∷ ds) (decisions-more x.unit cs c)

kept-same : (a b : Option UnitId) → cond (same_choice a b) a b ≡ b
kept-same None None = refl
kept-same None (Some w) = refl
kept-same (Some u) None = refl
kept-same (Some u) (Some w) = elim (told u w) [ inl same ↦ rw same.1 (ap Some same.0) | inr apart ↦ rw apart.0 refl ]

pub cur-is_last : (k : CoreTally) (cs : List CoreChoice) → (fold core_tally_after k cs).cur ≡ last_unit k.cur cs
cur-is_last k [] = refl
cur-is_last k (c ∷ cs) = cur-is_last (core_tally_after k c) cs ∙ ap (λ o. last_unit o cs) (kept-same k.cur c.unit)

-- the time that a choice ends on the core, of a unit that passes the test
abbrev pub charge : (UnitId → Bool) → CoreTally → CoreChoice → ℕ
charge p k c = elim k.cur [ None ↦ 0 | Some u ↦ cond (p u) (ended_span k c) 0 ]

pub ended_time-more : (p : UnitId → Bool) (k : CoreTally) (cs : List CoreChoice) (c : CoreChoice) → ended_time p k (cs ++ c ∷ []) ≡ ended_time p k cs + charge p (fold core_tally_after k cs) c
ended_time-more p k [] c = omega arith
ended_time-more p k (x ∷ cs) c = omega (arith, ended_time-more p (core_tally_after k x) cs c)

charge-all : (cur : Option UnitId) (since : Moment) (run decides : ℕ) (c : CoreChoice)
    → let k : CoreTally = record { cur = cur; since = since; run = run; decides = decides } in charge (λ u. true) k c ≡ ended_span k c
charge-all None since run decides c = refl
charge-all (Some u) since run decides c = refl

pub run-is_ended : (k : CoreTally) (cs : List CoreChoice) → (fold core_tally_after k cs).run ≡ k.run + ended_time (λ u. true) k cs
run-is_ended k [] = omega arith
run-is_ended k (c ∷ cs) = omega (arith, run-is_ended (core_tally_after k c) cs, charge-all k.cur k.since k.run k.decides c)

pub decides-count : (k : CoreTally) (cs : List CoreChoice) → (fold core_tally_after k cs).decides ≡ k.decides + length cs
decides-count k [] = omega arith
decides-count k (c ∷ cs) = omega (arith, decides-count (core_tally_after k c) cs)

-- 1 for a stay of the unit
abbrev pub is_of : UnitId → Stay → ℕ
is_of u s = cond (same_unit s.unit u) 1 0

begins-one : (last at : ℕ) (u : UnitId) (before chosen : Option UnitId) (ds : List Decision) (rest : List Stay)
    → sum_by (is_of u) (elim (stay_begun last at before chosen ds) as (λ _. List Stay) [ None ↦ rest | Some s ↦ s ∷ rest ])
    ≡ elim chosen as (λ _. ℕ) [ None ↦ 0 | Some w ↦ cond (is_unit before w) 0 (cond (same_unit w u) 1 0) ] + sum_by (is_of u) rest
begins-one last at u before None ds rest = omega arith
begins-one last at u before (Some w) ds rest =
    let stay : Stay = record { unit = w; begin = at; end = end_of_stay last w ds } in
    elim (is_unit before w) as (λ b. let o : Option Stay = cond b None (Some stay) in
    sum_by (is_of u) (elim o as (λ _. List Stay) [ None ↦ rest | Some s ↦ s ∷ rest ]) ≡ cond b 0 (cond (same_unit w u) 1 0) + sum_by (is_of u) rest) [
      | true ↦ omega arith
      | false ↦ sum_by-cons (is_of u) stay rest
    ]

-- a stay of the unit begins with each decision that picks it
pub begins-stays : (last : ℕ) (u : UnitId) (ds : List Decision) → sum_by (is_of u) (stays_from last ds) ≡ sum_by (begins u) ds
begins-stays last u [] = refl
begins-stays last u (d ∷ ds) =
    omega (arith, begins-one last d.choice.at.0 u d.before d.choice.unit ds (stays_from last ds), begins-stays last u ds, sum_by-cons (begins u) d ds)

pub last-more : (t : ℕ) (es : List Entry) (e : Entry) → last_or t (es ++ e ∷ []) ≡ e.at.0
last-more t [] e = refl
last-more t (x ∷ es) e = last-more x.at.0 es e
