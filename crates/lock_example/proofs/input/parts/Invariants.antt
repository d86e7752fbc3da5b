use Rattle.std.proofs.Common.{◌≡◌, ◌≤◌, length, vec_capacity}
use Rattle.lock_example.specs.Counters.{AreNew}
use Rattle.lock_example.proofs.input.parts.Given as goal

abbrev pub invariant-loop-lock : goal.invariant-loop-lock
invariant-loop-lock l = (length l.parts.items ≡ l.lock) × AreNew l.parts.items × (17 ≤ vec_capacity l.parts)
