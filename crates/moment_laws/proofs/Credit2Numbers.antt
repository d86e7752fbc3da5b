-- Credits and budgets, compared.
use Rattle.std.proofs.Common.{◌≡◌, ◌<◌, ℕ, true, false, arith}
use Rattle.std.specs.Prelude.{ℤ, pos, int_lt, ◌+ℤ◌, ◌-ℤ◌}
use Rattle.std.proofs.lemmas.Int.{ints}
use Rattle.sched_base.specs.Credit2Numbers.{taken_budget}

pub lt_irrefl : (a : ℤ) → int_lt a a ≡ false
lt_irrefl a = grind (arith, ints)

pub lt_trans : (a b e : ℤ) → int_lt a b ≡ true → int_lt b e ≡ true → int_lt a e ≡ true
lt_trans a b e x y = grind (arith, ints)

pub sum_above : (b h : ℤ) → int_lt b (pos 0) ≡ false → int_lt (pos 0) h ≡ true → int_lt (pos 0) (b +ℤ h) ≡ true
sum_above b h x y = grind (arith, ints)

pub sum_least : (b h : ℤ) → int_lt b (pos 0) ≡ false → int_lt h (pos 0) ≡ false → int_lt (b +ℤ h) (pos 0) ≡ false
sum_least b h x y = grind (arith, ints)

pub take_above : (b : ℤ) (q : ℕ) → int_lt (pos 0) b ≡ true → 0 < q → int_lt (pos 0) (taken_budget b q) ≡ true
take_above b q x y = grind (arith, ints)

pub rest_least : (b : ℤ) (q : ℕ) → int_lt (pos 0) b ≡ true → int_lt (b -ℤ taken_budget b q) (pos 0) ≡ false
rest_least b q x = grind (arith, ints)

pub rest_less : (b : ℤ) (q : ℕ) → 0 < q → int_lt (pos 0) (b -ℤ taken_budget b q) ≡ true → int_lt (pos 0) b ≡ true
rest_less b q y x = grind (arith, ints)

pub rest_kept : (b h : ℤ) (q : ℕ) → int_lt (pos q) h ≡ false → int_lt (pos 0) ((b +ℤ h) -ℤ taken_budget (b +ℤ h) q) ≡ true → int_lt (pos 0) b ≡ true
rest_kept b h q x y = grind (arith, ints)

pub minus_none : (a : ℤ) → a -ℤ pos 0 ≡ a
minus_none a = omega (arith, ints)
