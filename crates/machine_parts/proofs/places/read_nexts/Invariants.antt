use Rattle.std.proofs.Common.{◌≡◌, ◌<◌, ℕ, length}
use Rattle.std.specs.Prelude.{None}
use Rattle.sched_model.specs.Places.{at_place}
use Rattle.machine_parts.specs.Parts.{IsNextOfPlace}
use Rattle.machine_parts.proofs.places.read_nexts.Given as goal

abbrev pub invariant-loop-i : goal.invariant-loop-i
invariant-loop-i l = (length l.nexts ≡ length l.fn.slots) × ((k : ℕ) → k < l.i → at_place l.fn.firsts k ≡ None → IsNextOfPlace (at_place l.fn.slots k) (at_place l.nexts k))
