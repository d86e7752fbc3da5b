use Rattle.std.proofs.Common.{◌≡◌, ◌<◌}
use Rattle.std.specs.Prelude.{◌&&◌, ◌==◌, nat_lt, if◌then◌else◌}
use Rattle.sched_base.specs.declared.UnitId.{UnitId}
use Rattle.unit_places.specs.Masks.{mask_of}
use Rattle.rtds_core.proofs.masks.mask_all.Given as goal

abbrev pub invariant-loop-n : goal.invariant-loop-n
invariant-loop-n l = (u : UnitId) → u.n < 256 → mask_of l.masks u ≡ (if u.dom.0 == l.dom.0 && nat_lt u.n l.n then l.cores else mask_of l.initial.masks u)
