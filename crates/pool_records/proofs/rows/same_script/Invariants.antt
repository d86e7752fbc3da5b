use Rattle.std.proofs.Common.{◌≡◌, take}
use Rattle.pool_records.proofs.rows.same_script.Given as goal

abbrev pub invariant-loop-span : goal.invariant-loop-span
invariant-loop-span l = l.spans.items ≡ take l.span-index l.span-items
