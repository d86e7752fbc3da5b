-- Sets of ids as words: what the operations on bits do to them.
use Rattle.std.proofs.Common.{◌≡◌, ℕ, zero, suc, ◌-◌, ◌*◌, ◌^◌, ◌%◌, ◌≤◌, ◌<◌, Bool, true, false, refl, sym, ◌∙◌, ap, inl, inr, arith, bit_and, bit_or, min, max, w64}
use Rattle.std.specs.Prelude.{◌==◌, ◌&&◌, ◌||◌, not}
use Rattle.std.specs.Int.{bit_at, bit_not, trailing_zeros}
use Rattle.std.proofs.lemmas.Bool.{cases_lt}
use Rattle.std.proofs.lemmas.Nat.{and_le_l}
use Rattle.std.proofs.lemmas.Nat.Bits.{bit_at-lt, bit_at_above, bit_at_and, bit_at_not, bit_at_or, bit_at_set_same, bit_at_set_other, bit_at_clear_same, bit_at_clear_other, bit_at-trailing_zeros}
use Rattle.due_heap.specs.Words.{ChangesId, IsLowest, has_core_bit}

-- whether a number is one
abbrev is_one : ℕ → Bool
is_one bit = bit == 1

put : (set id : ℕ) → id < 64 → ChangesId id true set (bit_or set (1 * 2 ^ id % 2 ^ 64))
put set id few = record {
  here = ap is_one (bit_at_set_same w64 set id few);
  others = λ other ne. ap is_one (bit_at_set_other w64 set id few other ne);
}

-- a number of 64 bits has no bit from 64 on, nor has one that has fewer bits
no_bit : (set mask id : ℕ) → set < 2 ^ 64 → 64 ≤ id → bit_at (bit_and set mask) id ≡ bit_at set id
no_bit set mask id fits past = (let none = bit_at_above set 64 id fits past in bit_at_and set mask id ∙ ap (λ (k : ℕ). min k (bit_at mask id)) none ∙ omega (arith, none))

pub cleared : (set id : ℕ) → set < 2 ^ 64 → id < 64 → ChangesId id false set (bit_and set (bit_not w64 (1 * 2 ^ id % 2 ^ 64)))
cleared set id fits few = record {
  here = ap is_one (bit_at_clear_same w64 set id few);
  others = λ other ne. ap is_one (elim (cases_lt other 64) [
    | inl low ↦ bit_at_clear_other w64 set id few other low ne
    | inr past ↦ no_bit set (bit_not w64 (1 * 2 ^ id % 2 ^ 64)) other fits past
  ]);
}

pub put_wanted : (set id : ℕ) (wanted : Bool) → id < 64 → wanted ≡ true → ChangesId id wanted set (bit_or set (1 * 2 ^ id % 2 ^ 64))
put_wanted set id true few is = put set id few
put_wanted set id false few is = let wrong : false ≡ true = is in absurd (cc)

pub put_unwanted : (set id : ℕ) (wanted : Bool) → set < 2 ^ 64 → id < 64 → wanted ≡ false → ChangesId id wanted set (bit_and set (bit_not w64 (1 * 2 ^ id % 2 ^ 64)))
put_unwanted set id true fits few is = let wrong : true ≡ false = is in absurd (cc)
put_unwanted set id false fits few is = cleared set id fits few

-- a set without an id that it had is a smaller number
pub less : (set id mask : ℕ) → has_core_bit set id ≡ true → ChangesId id false set (bit_and set mask) → bit_and set mask < set
less set id mask has change =
    elim (cases_lt (bit_and set mask) set) [
      | inl lt ↦ lt
      | inr ge ↦
          let le : bit_and set mask ≤ set = and_le_l set mask in
          let same : bit_and set mask ≡ set = omega (arith, ge, le) in
          let wrong : true ≡ false = sym has ∙ ap (λ (s : ℕ). has_core_bit s id) (sym same) ∙ change.here in
          absurd (cc)
    ]

pub lowest_is : (set : ℕ) → 0 < set → set < 2 ^ 64 → IsLowest set (trailing_zeros w64 set)
lowest_is set some few =
    let found = bit_at-trailing_zeros w64 set some few in
    record { few = found.0; has = ap is_one found.1; below = λ other h. ap is_one (found.2 other h) }

one_of_two : (x y : ℕ) → x < 2 → y < 2 → (max x y == 1) ≡ (x == 1 || y == 1)
one_of_two zero zero p q = refl
one_of_two zero (suc zero) p q = refl
one_of_two (suc zero) zero p q = refl
one_of_two (suc zero) (suc zero) p q = refl
one_of_two (suc (suc x)) y p q = absurd (omega (arith, p))
one_of_two zero (suc (suc y)) p q = absurd (omega (arith, q))
one_of_two (suc zero) (suc (suc y)) p q = absurd (omega (arith, q))

one_but : (x y : ℕ) → x < 2 → y < 2 → (min x (1 - y) == 1) ≡ (x == 1 && not (y == 1))
one_but zero zero p q = refl
one_but zero (suc zero) p q = refl
one_but (suc zero) zero p q = refl
one_but (suc zero) (suc zero) p q = refl
one_but (suc (suc x)) y p q = absurd (omega (arith, p))
one_but zero (suc (suc y)) p q = absurd (omega (arith, q))
one_but (suc zero) (suc (suc y)) p q = absurd (omega (arith, q))

pub union_has : (a b id : ℕ) → has_core_bit (bit_or a b) id ≡ (has_core_bit a id || has_core_bit b id)
union_has a b id = ap is_one (bit_at_or a b id) ∙ one_of_two (bit_at a id) (bit_at b id) (bit_at-lt a id) (bit_at-lt b id)

pub difference_has : (a b id : ℕ) → b < 2 ^ 64 → id < 64 → has_core_bit (bit_and a (bit_not w64 b)) id ≡ (has_core_bit a id && not (has_core_bit b id))
difference_has a b id fits few =
    ap is_one (bit_at_and a (bit_not w64 b) id ∙ ap (min (bit_at a id)) (bit_at_not w64 b id fits few))
    ∙ one_but (bit_at a id) (bit_at b id) (bit_at-lt a id) (bit_at-lt b id)
