use Rattle.std.proofs.Common.{◌≡◌, ◌<◌}
use Rattle.unit_places.specs.Masks.{mask_of}
use Rattle.sched_base.specs.declared.UnitId.{UnitId}
use Rattle.credit2_core.specs.Domains.{masked_cores}
use Rattle.credit2_core.proofs.domains.set_masks.Given as goal

abbrev pub invariant-loop-n : goal.invariant-loop-n
invariant-loop-n l = (u : UnitId) → u.n < 256 → mask_of l.masks u ≡ masked_cores l.initial.masks l.d.0 l.sets l.n u
