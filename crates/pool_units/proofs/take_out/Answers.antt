use Rattle.std.proofs.Common.{◌≡◌, ◌∙◌, false, List, subst, sym}
use Rattle.std.specs.Prelude.{Some, slice_get}
use Rattle.sched_base.specs.declared.UnitId.{UnitId}
use Rattle.sched_laws.proofs.Counts.{without_absent}
use Rattle.sched_model.specs.Places.{has_listed_unit}
use Rattle.pool_units.proofs.Taking.{taken_out}
use Rattle.pool_units.proofs.take_out.Goals as goal

pub returns-in-Some : goal.returns-in-Some
returns-in-Some c =
    c.remove.ensures.items
    ∙ taken_out c.args.u c.args.queue.now c.in-Some.place c.requires (subst (λ (us : List UnitId). slice_get us c.in-Some.place ≡ Some c.args.u) c.as_slice.ensures.items c.in-Some.ensures.here)

pub returns-in_default : goal.returns-in_default
returns-in_default c = sym (without_absent c.args.u c.args.queue.now (subst (λ (us : List UnitId). has_listed_unit us c.args.u ≡ false) c.as_slice.ensures.items c.in_default.ensures.absent))
