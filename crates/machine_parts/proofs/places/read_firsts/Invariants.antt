use Rattle.std.proofs.Common.{◌≡◌, ◌<◌, ℕ, length}
use Rattle.sched_model.specs.Places.{at_place}
use Rattle.machine_parts.specs.Parts.{IsFirstOfPlace}
use Rattle.machine_parts.proofs.places.read_firsts.Given as goal

abbrev pub invariant-loop-i : goal.invariant-loop-i
invariant-loop-i l = (length l.firsts ≡ length l.fn.slots) × ((k : ℕ) → k < l.i → IsFirstOfPlace l.fn.t.0 (at_place l.fn.slots k) (at_place l.firsts k))
