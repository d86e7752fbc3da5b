use Rattle.std.proofs.Common.{◌≡◌, ◌*◌, refl, arith}
use Rattle.std.specs.Prelude.{ℤ, pos, negsuc, ◌+ℤ◌, ◌≤ℤ◌}
use Rattle.std.proofs.lemmas.Int.{ints, clamps, to_z-of_z}
use Rattle.sched_base.specs.Credit2Numbers.{positive_part}
use Rattle.credit2_cap.proofs.refill.Goals as goal

-- a number that is not below 0 is what of it is above 0
pos-above_zero : (z : ℤ) → pos 0 ≤ℤ z → pos (positive_part z) ≡ z
pos-above_zero (pos n) h = refl
pos-above_zero (negsuc n) h = absurd (omega (arith, ints))

pub overflow_cast-result : goal.overflow_cast-result
overflow_cast-result c = grind (arith, ints, clamps, c.min.ensures.value, c.grown.ensures)

pub returns-clause-exact : goal.returns-clause-exact
returns-clause-exact c =
    let grown : c.grown.result ≡ c.args.budget +ℤ pos (c.args.n * positive_part c.args.total) =
    grind (arith, to_z-of_z, c.grown.ensures)
    in
    let held = pos-above_zero c.args.held c.requires.held in
    let total : pos (positive_part c.args.total) ≡ c.args.total = pos-above_zero c.args.total (omega (arith, ints)) in
    omega (arith, ints, clamps, c.min.ensures.value, grown, held, total)

pub returns-clause-room : goal.returns-clause-room
returns-clause-room c = omega (arith, ints, clamps, c.min.ensures.value, c.grown.ensures)

pub returns-clause-grows : goal.returns-clause-grows
returns-clause-grows c low = omega (arith, ints, clamps, c.min.ensures.value, c.grown.ensures)
