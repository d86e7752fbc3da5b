-- Whether a credit falls below another one by a charge, without a division.
use Rattle.std.proofs.Common.{◌≡◌, ◌<◌, ◌≤◌, ◌*◌, ◌/◌, ℕ, true, false, sym, ◌∙◌, arith, inl, inr}
use Rattle.std.specs.Prelude.{ℤ, pos, ◌+ℤ◌, ◌-ℤ◌, int_lt, nat_le}
use Rattle.std.proofs.lemmas.Int.{ints}
use Rattle.std.proofs.lemmas.Nat.{le-div, div_below}
use Rattle.std.proofs.lemmas.Bool.{cases_Bool}

-- a charge takes a credit below another one where it makes up for the step below it, times the weight
pub below_by_charge : (a b : ℤ) (step charge weight : ℕ) → 1 ≤ weight → pos step ≡ (a -ℤ b) +ℤ pos 1 → nat_le (step * weight) charge ≡ int_lt (a -ℤ pos (charge / weight)) b
below_by_charge a b step charge weight some is = elim (cases_Bool (nat_le (step * weight) charge)) [
  | inl enough ↦ (
      let within : step ≤ charge / weight = le-div step charge weight some (grind (arith, enough)) in
      let below : int_lt (a -ℤ pos (charge / weight)) b ≡ true = under (charge / weight) within in
      enough ∙ sym below
      )
  | inr short ↦ (
      let outside : charge / weight < step = div_below charge weight step some (grind (arith, short)) in
      let above : int_lt (a -ℤ pos (charge / weight)) b ≡ false = over (charge / weight) outside in
      short ∙ sym above
      )
]
  where
    under : (k : ℕ) → step ≤ k → int_lt (a -ℤ pos k) b ≡ true
    under k within = grind (arith, ints, is, within)

    over : (k : ℕ) → k < step → int_lt (a -ℤ pos k) b ≡ false
    over k outside = grind (arith, ints, is, outside)
