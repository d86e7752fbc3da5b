-- What the units on cores hold is no more than what all running units of their domain hold.
use Rattle.std.proofs.Common.{◌≡◌, ◌≢◌, ◌≤◌, ◌<◌, ◌+◌, ℕ, zero, suc, List, [], ◌∷◌, refl, arith, ap, ◌∙◌, cond}
use Rattle.std.specs.Prelude.{Option, Some, None, is_some, slice_get, sum_by}
use Rattle.std.proofs.lemmas.List.Sums.{sum_by-cons}
use Rattle.sched_base.specs.Credit2Numbers.{positive_part}
use Rattle.sched_model.specs.declared.state.Credit2Unit.{Credit2Unit}
use Rattle.sched_model.specs.Places.{change_item}
use Rattle.sched_laws.specs.Counts.{over, total_over}
use Rattle.term_laws.proofs.CapLegs.{OpenLeg, Opens}
use Rattle.state_ranges.specs.Ranges.{held_running}

-- the unit, running no more
abbrev idle : Credit2Unit → Credit2Unit
idle x = record x { burned = None }

without_one : (units : List Credit2Unit) (i : ℕ) (z : Credit2Unit) (b : ℕ) → slice_get units i ≡ Some z → z.burned ≡ Some b → sum_by held_running (change_item i idle units) + positive_part z.held ≡ sum_by held_running units
without_one [] i z b at runs = absurd (cc)
without_one (x ∷ units) zero z b at runs =
    let e : x ≡ z = cc in
    let here : held_running x ≡ positive_part z.held = ap held_running e ∙ ap (λ (o : Option ℕ). cond (is_some o) (positive_part z.held) 0) runs in
    let a = sum_by-cons held_running x units in
    let c = sum_by-cons held_running (idle x) units in
    omega (arith, a, c, here)
without_one (x ∷ units) (suc i) z b at runs =
    let rest = without_one units i z b at runs in
    let a = sum_by-cons held_running x units in
    let c = sum_by-cons held_running x (change_item i idle units) in
    omega (arith, a, c, rest)

other_item : (units : List Credit2Unit) (i j : ℕ) → i ≢ j → slice_get (change_item i idle units) j ≡ slice_get units j
other_item [] i j other = refl
other_item (x ∷ units) zero zero other = absurd (other refl)
other_item (x ∷ units) zero (suc j) other = refl
other_item (x ∷ units) (suc i) zero other = refl
other_item (x ∷ units) (suc i) (suc j) other = other_item units i j (λ e. other (ap suc e))

-- the unit of an open leg runs, and holds at least so much
pub record Holds (units : List Credit2Unit) (n least : ℕ) : Type 0 where
  pub unit : Credit2Unit
  pub at : slice_get units n ≡ Some unit
  pub from : ℕ
  pub runs : unit.burned ≡ Some from
  pub enough : least ≤ positive_part unit.held

pub held_at_least : (cores : ℕ) (opens : Opens) (least : ℕ → OpenLeg → ℕ) (units : List Credit2Unit)
    → ((r : ℕ) (o : OpenLeg) → r < cores → opens r ≡ Some o → Holds units o.unit (least r o))
    → ((r k : ℕ) (o p : OpenLeg) → opens r ≡ Some o → opens k ≡ Some p → o.unit ≡ p.unit → r ≡ k)
    → total_over cores (λ r. over (least r) (opens r)) ≤ sum_by held_running units
held_at_least zero opens least units holds distinct = omega arith
held_at_least (suc n) opens least units holds distinct =
    elim (opens n) as (λ q. opens n ≡ q → total_over n (λ r. over (least r) (opens r)) + over (least n) (opens n) ≤ sum_by held_running units) [
      | None ↦ λ is. (
          let rest = held_at_least n opens least units (λ r o low at. holds r o (omega (arith, low)) at) distinct in
          let none = ap (over (least n)) is in
          omega (arith, rest, none))
      | Some p ↦ λ is. (
          let h = holds n p (omega arith) is in
          let whole = without_one units p.unit h.unit h.from h.at h.runs in
          let here = ap (over (least n)) is in
          let enough = h.enough in
          let rest = held_at_least n opens least (change_item p.unit idle units)
          (λ r o low at. (
          let g = holds r o (omega (arith, low)) at in
          record { unit = g.unit; at = other_item units p.unit o.unit (λ e. (let same = distinct n r p o is at e in omega (arith, low, same))) ∙ g.at; from = g.from; runs = g.runs; enough = g.enough }))
          distinct in
          omega (arith, whole, here, enough, rest))
    ] refl
