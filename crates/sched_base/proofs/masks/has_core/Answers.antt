use Rattle.std.proofs.Common.{◌≡◌, ◌∙◌, ◌<◌, ◌≤◌, ◌/◌, ◌%◌, ◌==◌, ◌^◌, zero, false, ap, sym, arith}
use Rattle.std.specs.Prelude.{ℕ, nat_lt}
use Rattle.std.proofs.Math.Nat.{div-eq_of_lt}
use Rattle.std.proofs.Math.Pow.{pow_mono}
use Rattle.std.proofs.lemmas.Bool.Decides.{nat_tests}
use Rattle.sched_base.specs.CoreSets.{has_core_bit}
use Rattle.sched_base.proofs.masks.has_core.Goals as goal

-- a number of 64 bits has no bit past them
has_core-past : (cores core : ℕ) → cores < 2 ^ 64 → 64 ≤ core → has_core_bit cores core ≡ false
has_core-past cores core small past =
    let none : cores / 2 ^ core ≡ zero = div-eq_of_lt (omega (arith, small, pow_mono past)) in
    ap (λ (n : ℕ). n % 2 == 1) none

pub returns-else-core-lt64 : goal.returns-else-core-lt64
returns-else-core-lt64 c =
    let past : nat_lt c.args.core.0 64 ≡ false = grind (arith, nat_tests, c.if-core-lt64.false) in
    past ∙ sym (has_core-past c.args.cores.0 c.args.core.0 (search arith) c.if-core-lt64.false)
