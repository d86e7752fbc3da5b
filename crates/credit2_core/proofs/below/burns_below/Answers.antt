use Rattle.std.proofs.Common.{arith, rules, w64, FitsSigned}
use Rattle.std.specs.Prelude.{◌+◌, ◌*◌}
use Rattle.std.proofs.lemmas.Int.{ints}
use Rattle.credit2_core.proofs.Charges.{below_by_charge}
use Rattle.credit2_core.proofs.below.burns_below.Goals as goal

pub returns : goal.returns
returns c =
    let fits_own : FitsSigned w64 c.args.credit = search rules in
    let fits_other : FitsSigned w64 c.args.other = search rules in
    let high = c.requires.high in
    let no_less = c.if-credit-other.false in
    below_by_charge c.args.credit c.args.other _ (c.args.elapsed.0 * c.args.most + c.args.residual) c.args.weight c.requires.some_weight (grind (arith, ints, fits_own, fits_other, high, no_less))
