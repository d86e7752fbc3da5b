use Rattle.std.proofs.Common.{◌≡◌, ◌∙◌, sym, ap, rules, w64, FitsSigned}
use Rattle.std.specs.Prelude.{Option, Some, None, option_map, slice_get, ℤ, pos}
use Rattle.std.proofs.lemmas.Int.{to_z-of_z}
use Rattle.sched_model.specs.declared.state.Credit2Unit.{Credit2Unit}
use Rattle.sched_model.specs.declared.state.Credit2Domain.{Credit2Domain}
use Rattle.sched_model.specs.Credit2.{burned_unit}
use Rattle.sched_laws.proofs.Lists.{slice_get-change_item}
use Rattle.scheduler_records.proofs.credit2_running.burned_credit_in.Goals as goal

-- the credit of the unit that is there, or 0
credit_there : Option Credit2Unit → ℤ
credit_there o = elim o [ None ↦ pos 0 | Some x ↦ x.credit ]

pub returns-in-None : goal.returns-in-None
unfolding credit_there
returns-in-None c =
    let d : Credit2Domain = c.args.d.now in
    let is : slice_get d.units c.args.index ≡ None = rw c.as_slice.ensures.items at (sym c.in-None.ensures) in
    let f : Credit2Unit → Credit2Unit = burned_unit c.args.most c.args.t.0 d in
    ap credit_there (sym (slice_get-change_item c.args.index f d.units ∙ ap (option_map f) is))

pub returns-in-Some : goal.returns-in-Some
unfolding credit_there
returns-in-Some c =
    let d : Credit2Domain = c.args.d.now in
    let is : slice_get d.units c.args.index ≡ Some c.in-Some.x = rw c.as_slice.ensures.items at (sym c.in-Some.ensures) in
    let f : Credit2Unit → Credit2Unit = burned_unit c.args.most c.args.t.0 d in
    let fits : FitsSigned w64 c.burn_unit.result.credit = search rules in
    to_z-of_z w64 c.burn_unit.result.credit fits ∙ ap (λ (x : Credit2Unit). x.credit) c.burn_unit.ensures ∙ ap credit_there (sym (slice_get-change_item c.args.index f d.units ∙ ap (option_map f) is))
