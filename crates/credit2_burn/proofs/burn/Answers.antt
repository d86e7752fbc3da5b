use Rattle.std.proofs.Common.{ℕ, ◌+◌, ◌*◌, ◌/◌, ◌<◌, ◌≤◌, arith}
use Rattle.std.proofs.Math.Nat.{div-lt_iff_lt-mul, le-mul_of_pos_right}
use Rattle.std.proofs.lemmas.Int.{ints}
use Rattle.credit2_burn.proofs.burn.Goals as goal

-- a residual below the weight adds nothing to what the whole charge is at least
part_adds_nothing : (x r w : ℕ) → r < w → (x + r) / w ≤ x
part_adds_nothing x r w part =
    let some : 0 < w = omega arith in
    let whole : x ≤ x * w = le-mul_of_pos_right x some in
    let small : x + r < (x + 1) * w = grind (arith, whole) in
    let below : (x + r) / w < x + 1 = (div-lt_iff_lt-mul some).1 small in
    omega arith

pub returns-clause-falls_by_span : goal.returns-clause-falls_by_span
returns-clause-falls_by_span c part = grind (arith, ints, part_adds_nothing (c.args.elapsed.0 * c.args.max_weight) c.args.c.residual c.args.weight part)
