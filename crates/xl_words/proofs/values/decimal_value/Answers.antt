use Rattle.std.proofs.Common.{arith}
use Rattle.xl_words.proofs.NumberLemmas.{tenth, ten_to-le}
use Rattle.xl_words.proofs.values.decimal_value.Goals as goal

pub overflow_mul-value : goal.overflow_mul-value
overflow_mul-value c = omega (arith, tenth c.loop-b.b-index c.loop-b.value (omega arith) c.loop-b.invariant.1)

pub overflow_add-value : goal.overflow_add-value
overflow_add-value c = omega (arith, tenth c.loop-b.b-index c.loop-b.value (omega arith) c.loop-b.invariant.1, c.type_inv.digits c.loop-b.b-index)

pub returns-clause-small : goal.returns-clause-small
returns-clause-small c = omega (arith, c.loop-b.invariant.1, ten_to-le c.loop-b.b-index 15 (omega arith))
