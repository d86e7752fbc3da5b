-- The bits of a number that has one more at its front.
use Rattle.std.proofs.Common.{◌≡◌, ◌<◌, ◌+◌, ◌*◌, ◌/◌, ◌%◌, ℕ, suc, Bool, true, false, refl, arith, ◌∙◌, ap}
use Rattle.std.specs.Prelude.{◌^◌, ◌==◌}
use mir.Val.{bool_byte}
use Rattle.std.proofs.Math.Nat.{pow-succ'}
use Rattle.std.proofs.lemmas.Nat.{div-mul-add, mod-mul-add}
use Rattle.std.proofs.lemmas.Nat.Bits.{bit_at-suc, bit_at_lowest}
use Rattle.sched_model.specs.State.{has_core_bit}

bit_small : (b : Bool) → bool_byte b < 2
bit_small true = omega arith
bit_small false = omega arith

turned : (set : ℕ) (b : Bool) → 2 * set + bool_byte b ≡ set * 2 + bool_byte b
turned set b = omega arith

-- the bit at the front
pub front_first : (set : ℕ) (b : Bool) → has_core_bit (2 * set + bool_byte b) 0 ≡ b
front_first set b = ap (λ n. n == 1) (bit_at_lowest (2 * set + bool_byte b) ∙ ap (λ n. n % 2) (turned set b) ∙ mod-mul-add set 2 (bool_byte b) (bit_small b)) ∙ of_bit b
  where
    of_bit : (b : Bool) → (bool_byte b == 1) ≡ b
    of_bit true = refl
    of_bit false = refl

-- the bits after it
pub front_rest : (set : ℕ) (b : Bool) (k : ℕ) → has_core_bit (2 * set + bool_byte b) (suc k) ≡ has_core_bit set k
front_rest set b k =
    ap (λ n. n == 1) (bit_at-suc (2 * set + bool_byte b) k)
    ∙ ap (λ n. has_core_bit n k) (ap (λ n. n / 2) (turned set b) ∙ div-mul-add set 2 (bool_byte b) (bit_small b))

-- it is as long as before and one more
pub front_fits : (set n : ℕ) (b : Bool) → set < 2 ^ n → 2 * set + bool_byte b < 2 ^ suc n
front_fits set n b low = let p : 2 ^ suc n ≡ 2 * 2 ^ n = pow-succ' 2 n in let small = bit_small b in omega (arith, p, small, low)
