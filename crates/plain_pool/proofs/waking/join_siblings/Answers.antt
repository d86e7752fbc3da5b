use Rattle.std.proofs.Common.{◌<◌, ◌≤◌, ◌*◌, ◌%◌, arith, sym, ◌∙◌, length}
use Rattle.std.proofs.Math.Nat.{mul-le-mul, mod-lt}
use Rattle.pool_records.proofs.FitsLemmas.{core_of-inside}
use Rattle.plain_pool.proofs.waking.join_siblings.Goals as goal

pub overflow_cast-p : goal.overflow_cast-p
overflow_cast-p c =
    let inside : c.in-Some.r < length c.as_slice.result.now = core_of-inside c.as_slice.result.now c.unit_of.result c.in-Some.r (sym c.core_of.ensures ∙ c.in-Some.is) in
    let few : length c.as_slice.result.now ≤ 64 = rw c.as_slice.ensures c.requires.cores in
    omega arith

pub overflow_mul-p : goal.overflow_mul-p
overflow_mul-p c =
    let inside : c.in-Some.r < length c.as_slice.result.now = core_of-inside c.as_slice.result.now c.unit_of.result c.in-Some.r (sym c.core_of.ensures ∙ c.in-Some.is) in
    let few : length c.as_slice.result.now ≤ 64 = rw c.as_slice.ensures c.requires.cores in
    let low : c.in-Some.r ≤ 63 = omega arith in
    let most : c.in-Some.r * c.args.granularity ≤ 63 * 4 = mul-le-mul {n₂ = 63} low c.requires.few in
    omega arith

pub overflow_add-p : goal.overflow_add-p
overflow_add-p c =
    let inside : c.in-Some.r < length c.as_slice.result.now = core_of-inside c.as_slice.result.now c.unit_of.result c.in-Some.r (sym c.core_of.ensures ∙ c.in-Some.is) in
    let few : length c.as_slice.result.now ≤ 64 = rw c.as_slice.ensures c.requires.cores in
    let low : c.in-Some.r ≤ 63 = omega arith in
    let most : c.in-Some.r * c.args.granularity ≤ 63 * 4 = mul-le-mul {n₂ = 63} low c.requires.few in
    let rest : c.args.v.n % c.args.granularity < c.args.granularity = mod-lt c.args.v.n c.requires.some in
    omega arith
