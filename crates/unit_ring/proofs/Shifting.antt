-- A number of the chain goes before another, in two steps: it is taken out, and put in.
use Rattle.std.proofs.Common.{◌≡◌, ℕ, ◌<◌, List, ◌∷◌, length, set, sym, ◌∙◌, arith, length-set}
use Rattle.unit_ring.specs.Chains.{IsChain, Lacks, chain, link, numbers_without, put_before, after_without, before_without, after_with, before_with}
use Rattle.sched_base.specs.Lists.{Has}
use Rattle.unit_ring.proofs.Linking.{Below-Has, before-Has, after-Has, IsChain-without, IsChain-put_before, Has-without, Lacks-Has, Lacks-without_self, length-without, length-put_before, length-chain, chain-is}

-- a number of the chain, and the ones beside it, are below the length
pub below : (f g ys : List ℕ) → IsChain f g ys → (n : ℕ) → Has n ys → n < length f
below f g ys c n has = Below-Has (length f) n ys c.below.1 has

pub before_below : (f g ys : List ℕ) → IsChain f g ys → (n : ℕ) → Has n ys → link g n < length f
before_below f g ys c n has = Below-Has (length f) (link g n) (0 ∷ ys) c.below (before-Has f g 0 n ys c.path has)

pub after_below : (f g ys : List ℕ) → IsChain f g ys → (n : ℕ) → Has n ys → (n ≡ 3 → ⊥) → link f n < length f
after_below f g ys c n has inner = below f g ys c (link f n) (after-Has f g 0 n ys c.path c.ends inner has)

-- the links after both steps
abbrev pub after_shift : List ℕ → List ℕ → ℕ → ℕ → List ℕ
after_shift f g n at = after_with (after_without f g n) (before_without f g n) at n

abbrev pub before_shift : List ℕ → List ℕ → ℕ → ℕ → List ℕ
before_shift f g n at = before_with (after_without f g n) (before_without f g n) at n

-- what is known after each step
pub record Shifted (f g ys : List ℕ) (n at : ℕ) : Type 0 where
  pub out : IsChain (after_without f g n) (before_without f g n) (numbers_without n ys)
  pub place : Has at (numbers_without n ys)
  pub low : n < length (after_without f g n)
  pub in_again : IsChain (after_shift f g n at) (before_shift f g n at) (put_before at n (numbers_without n ys))
  pub size : length (put_before at n (numbers_without n ys)) ≡ length ys
  pub length_after : length (after_shift f g n at) ≡ length f

pub shifted : (f g ys : List ℕ) (n at : ℕ) → IsChain f g ys → Has n ys → (n ≡ 3 → ⊥) → Has at ys → (at ≡ n → ⊥)
    → Shifted f g ys n at
shifted f g ys n at c has inner place apart =
    let out : IsChain (after_without f g n) (before_without f g n) (numbers_without n ys) = IsChain-without f g ys n c has inner in
    let place_left : Has at (numbers_without n ys) = Has-without at n ys place apart in
    let length_out : length (after_without f g n) ≡ length f = length-set f (link g n) (link f n) in
    let low : n < length (after_without f g n) = omega (arith, length_out, below f g ys c n has) in
    let lacks : Lacks n (0 ∷ numbers_without n ys) = ((λ e. Lacks-Has 0 n ys c.distinct.0 has (sym e)), Lacks-without_self n ys) in
    let length_in : length (after_shift f g n at) ≡ length (after_without f g n) =
    length-set (set (after_without f g n) (link (before_without f g n) at) n) n at ∙ length-set (after_without f g n) (link (before_without f g n) at) n
    in
    record {
      out = out;
      place = place_left;
      low = low;
      in_again = IsChain-put_before (after_without f g n) (before_without f g n) (numbers_without n ys) at n out place_left lacks low;
      size = length-put_before at n (numbers_without n ys) out.distinct.1 place_left ∙ length-without n ys c.distinct.1 has;
      length_after = length_in ∙ length_out;
    }

-- the chain of the links after both steps
pub shifted_chain : (f g : List ℕ) (n at : ℕ) → IsChain f g (chain f) → Shifted f g (chain f) n at
    → chain (after_shift f g n at) ≡ put_before at n (numbers_without n (chain f))
shifted_chain f g n at c s =
    chain-is (after_shift f g n at) (before_shift f g n at) (put_before at n (numbers_without n (chain f))) s.in_again
    (omega (arith, s.size, s.length_after, length-chain f c.below.0))
