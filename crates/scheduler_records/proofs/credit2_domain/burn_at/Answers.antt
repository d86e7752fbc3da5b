use Rattle.std.proofs.Common.{◌≡◌, sym, ap, ◌∙◌}
use Rattle.std.specs.Prelude.{List, Some, slice_get, slice_set}
use Rattle.sched_model.specs.declared.state.Credit2Unit.{Credit2Unit}
use Rattle.sched_model.specs.declared.state.Credit2Domain.{Credit2Domain}
use Rattle.sched_model.specs.Credit2.{burned_unit}
use Rattle.scheduler_records.proofs.Items.{change_item-put, change_item-none}
use Rattle.scheduler_records.proofs.credit2_domain.burn_at.Goals as goal

pub returns-in-Some : goal.returns-in-Some
returns-in-Some c =
    let d : Credit2Domain = c.args.d.now in
    let is : slice_get d.units c.args.index ≡ Some c.in-Some.u = rw c.as_slice.ensures.items at (sym c.in-Some.ensures) in
    let set : c.set_unit.new.units ≡ slice_set d.units c.args.index c.burn_unit-burned.result = c.set_unit.ensures in
    let put = change_item-put c.args.index (burned_unit c.args.most c.args.t.0 d) d.units c.in-Some.u is in
    ap (λ (units : List Credit2Unit). record d { units = units }) (set ∙ ap (slice_set d.units c.args.index) c.burn_unit-burned.ensures ∙ put)

pub returns-in_default : goal.returns-in_default
returns-in_default c =
    let d : Credit2Domain = c.args.d.now in
    ap (λ (units : List Credit2Unit). record d { units = units }) (sym (change_item-none c.args.index _ d.units (rw c.as_slice.ensures.items at (sym c.in_default.ensures))))
