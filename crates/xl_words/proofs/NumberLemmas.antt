-- Bounds on numbers of few digits.
use Rattle.std.proofs.Common.{ℕ, ◌+◌, ◌^◌, ◌<◌, ◌≤◌, ◌*◌, arith, lit<}
use Rattle.std.proofs.Math.Nat.{pow-le-pow_right}

-- a power of ten
pub ten_to-le : (i j : ℕ) → i ≤ j → 10 ^ i ≤ 10 ^ j
ten_to-le i j h = pow-le-pow_right (lit< tt) h

-- one digit more leaves at most 15 digits
pub tenth : (i v : ℕ) → i < 15 → v < 10 ^ i → v * 10 + 9 < 10 ^ 15
tenth i v h small = omega (arith, ten_to-le i 14 (omega arith))
