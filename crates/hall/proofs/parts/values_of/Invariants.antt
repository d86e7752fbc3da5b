use Rattle.std.proofs.Common.{◌≡◌, map}
use Rattle.hall.specs.declared.value.PartState.TheVariants as value
use Rattle.hall.proofs.parts.values_of.Given as goal

abbrev pub invariant-loop-slot : goal.invariant-loop-slot
invariant-loop-slot l = l.values.items ≡ map value.Pool l.yielded
