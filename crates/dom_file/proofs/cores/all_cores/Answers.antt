use Rattle.std.proofs.Common.{◌≡◌, ◌-◌, ◌/◌, ◌^◌, ◌≤◌, ap, ◌∙◌, arith}
use Rattle.std.proofs.Math.Nat.{div-le_self}
use Rattle.std.proofs.lemmas.Nat.Bits.{ones_shr}
use Rattle.dom_file.proofs.cores.all_cores.Goals as goal

pub returns : goal.returns
returns c =
    let count = c.args.head.now.processors / c.args.head.now.granularity in
    let few : count ≤ 64 = omega (arith, div-le_self c.args.head.now.processors c.args.head.now.granularity) in
    let back : 64 - (64 - count) ≡ count = omega arith in
    ones_shr 64 (64 - count) (omega arith) ∙ ap (λ k. 2 ^ k - 1) back
