-- The stays of a core, from its choices one after another.
use Rattle.std.proofs.Common.{◌≡◌, ℕ, ◌+◌, ◌-◌, Bool, true, false, cond, List, [], ◌∷◌, refl, sym, ap, subst, ◌∙◌, arith}
use Rattle.std.specs.Prelude.{Option, Some, None, ◌⊎◌, fold, sum_by}
use Rattle.std.proofs.Common.{inl, inr}
use Rattle.std.proofs.lemmas.List.Sums.{sum_by-cons}
use Rattle.std.proofs.lemmas.Bool.Decides.{eqb_tells}
use Rattle.std.proofs.lemmas.Bool.{and_from, and_left, and_right, eq-eqb, ne_eqb}
use Rattle.sched_base.specs.declared.Moment.{Moment}
use Rattle.sched_base.specs.declared.Span.{Span}
use Rattle.sched_base.specs.declared.ResId.{ResId}
use Rattle.sched_base.specs.declared.UnitId.{UnitId}
use Rattle.sched_model.specs.Places.{same_unit}
use Rattle.sched_report.specs.declared.choice.CoreChoice.{CoreChoice}
use Rattle.sched_report.specs.declared.tally.CoreTally.{CoreTally}
use Rattle.sched_report.specs.Stays.{Decision, Stay, decisions_from, stays_from, end_of_stay, span}
use Rattle.sched_report.specs.Tallies.{core_tally_after, open_stay_time, ended_time}

-- two units are the same, or the tests tell them apart in either order
abbrev pub Told : UnitId → UnitId → Type 0
Told u w = ((u ≡ w) × (same_unit u w ≡ true) × (same_unit w u ≡ true)) ⊎ ((same_unit u w ≡ false) × (same_unit w u ≡ false))

pub told : (u w : UnitId) → Told u w
told u w = elim (eqb_tells u.dom.0 w.dom.0) [
  | inl dom ↦ elim (eqb_tells u.n w.n) [
    | inl n ↦ inl ((λ i. record { dom = record { 0 = dom.1 i }; n = n.1 i }), and_from _ _ dom.0 n.0, and_from _ _ (eq-eqb _ _ (sym dom.1)) (eq-eqb _ _ (sym n.1)))
    | inr n ↦ inr (and_right _ _ n.0, and_right _ _ (ne_eqb _ _ (λ e. n.1 (sym e))))
  ]
  | inr dom ↦ inr (and_left _ _ dom.0, and_left _ _ (ne_eqb _ _ (λ e. dom.1 (sym e))))
]

-- the time of a stay whose unit passes the test
abbrev pub weigh : (UnitId → Bool) → Stay → ℕ
weigh p s = cond (p s.unit) (span s) 0

-- the time from the beginning of the stay that is under way to its end
abbrev pub front : (UnitId → Bool) → ℕ → ℕ → Option UnitId → List Decision → ℕ
front p last since None ds = 0
front p last since (Some u) ds = cond (p u) (end_of_stay last u ds - since) 0

no_time : (b : Bool) → let n : ℕ = cond b 0 0 in n ≡ 0
no_time true = refl
no_time false = refl

-- what is under way and what begins is what ends and what goes on
abbrev pub EndsAll : (UnitId → Bool) → ℕ → CoreTally → List CoreChoice → Type 0
EndsAll p last k cs =
    front p last k.since.0 k.cur (decisions_from k.cur cs) + sum_by (weigh p) (stays_from last (decisions_from k.cur cs)) ≡ ended_time p k cs + open_stay_time p last (fold core_tally_after k cs)

module _ (p : UnitId → Bool) (last : ℕ) (since : Moment) (run decides : ℕ) (core : ResId) (at : Moment) (late : Span) (cs : List CoreChoice) (rest : (k : CoreTally) → EndsAll p last k cs) where
  abbrev from : Option UnitId → CoreTally
  from cur = record { cur = cur; since = since; run = run; decides = decides }

  abbrev by : Option UnitId → CoreChoice
  by unit = record { core = core; at = at; unit = unit; late = late }

  abbrev behind : UnitId → List Decision
  behind w = decisions_from (Some w) cs

  abbrev stay : UnitId → Stay
  stay w = record { unit = w; begin = at.0; end = end_of_stay last w (behind w) }

  -- the time of the stays from the choice of w on, by whether it is the unit that is there
  abbrev begun : UnitId → Bool → ℕ
  begun w there =
      let o : Option Stay = cond there None (Some (stay w)) in
      sum_by (weigh p) (elim o as (λ _. List Stay) [ None ↦ stays_from last (behind w) | Some s ↦ s ∷ stays_from last (behind w) ])

  ends_same : (u : UnitId) → same_unit u u ≡ true → EndsAll p last (from (Some u)) (by (Some u) ∷ cs)
  ends_same u same =
      let begun : sum_by (weigh p) (stays_from last (decisions_from (Some u) (by (Some u) ∷ cs))) ≡ sum_by (weigh p) (stays_from last (decisions_from (Some u) cs)) =
      ap (begun u) same in
      simp same (omega (arith, begun, rest (record { cur = Some u; since = since; run = run + 0; decides = decides + 1 }), no_time (p u)))

  ends_more : (cur unit : Option UnitId) → EndsAll p last (from cur) (by unit ∷ cs)
  ends_more None None = omega (arith, rest (core_tally_after (from None) (by None)))
  ends_more None (Some w) =
      omega (arith, rest (core_tally_after (from None) (by (Some w))), sum_by-cons (weigh p) (stay w) (stays_from last (behind w)))
  ends_more (Some u) None = omega (arith, rest (core_tally_after (from (Some u)) (by None)))
  ends_more (Some u) (Some w) = elim (told u w) [
    | inl same ↦ subst (λ (x : UnitId). EndsAll p last (from (Some u)) (by (Some x) ∷ cs)) same.0 (ends_same u (subst (λ (x : UnitId). same_unit u x ≡ true) (sym same.0) same.1))
    | inr apart ↦
        let begun : sum_by (weigh p) (stays_from last (decisions_from (Some u) (by (Some w) ∷ cs))) ≡ weigh p (stay w) + sum_by (weigh p) (stays_from last (behind w)) =
        ap (begun w) apart.0 ∙ sum_by-cons (weigh p) (stay w) (stays_from last (behind w)) in
        simp (apart.0, apart.1) (omega (arith, begun, rest (record { cur = Some w; since = at; run = run + (at.0 - since.0); decides = decides + 1 })))
  ]

ends_nothing : (p : UnitId → Bool) (last since : ℕ) (cur : Option UnitId) → front p last since cur [] + 0 ≡ 0 + elim cur [ None ↦ 0 | Some u ↦ cond (p u) (last - since) 0 ]
ends_nothing p last since None = refl
ends_nothing p last since (Some u) = omega arith

pub ended-stays : (p : UnitId → Bool) (last : ℕ) (k : CoreTally) (cs : List CoreChoice) → EndsAll p last k cs
ended-stays p last k [] = ends_nothing p last k.since.0 k.cur
ended-stays p last k (c ∷ cs) = ends_more p last k.since k.run k.decides c.core c.at c.late cs (λ k'. ended-stays p last k' cs) k.cur c.unit
