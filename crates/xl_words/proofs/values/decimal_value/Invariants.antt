use Rattle.std.proofs.Common.{◌≡◌, ◌<◌, ◌^◌, take}
use Rattle.xl_words.specs.Values.{decimal}
use Rattle.xl_words.proofs.values.decimal_value.Given as goal

abbrev pub invariant-loop-b : goal.invariant-loop-b
invariant-loop-b l = (l.value ≡ decimal (take l.b-index l.digits)) × (l.value < 10 ^ l.b-index)
