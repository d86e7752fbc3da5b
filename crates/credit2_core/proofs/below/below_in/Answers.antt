use Rattle.std.proofs.Common.{Bool, length, ◌≡◌, ◌∙◌, sym, ap, refl, rules, w64, FitsSigned}
use Rattle.std.specs.Prelude.{Option, Some, None, option_map, slice_get, ℤ, pos, int_lt}
use Rattle.std.proofs.lemmas.Int.{to_z-of_z}
use Rattle.std.proofs.lemmas.Option.{slice_get_past, slice_get_read}
use Rattle.sched_model.specs.declared.state.Credit2Unit.{Credit2Unit}
use Rattle.sched_model.specs.declared.state.Credit2Domain.{Credit2Domain}
use Rattle.sched_model.specs.Credit2.{burned_unit}
use Rattle.sched_laws.proofs.Lists.{slice_get-change_item}
use Rattle.credit2_core.proofs.below.below_in.Goals as goal

-- whether the credit of the unit that is there, or 0, is below another one
is_credit_below : ℤ → Option Credit2Unit → Bool
is_credit_below credit o = int_lt (elim o as (λ _. ℤ) [ None ↦ pos 0 | Some x ↦ x.credit ]) credit

pub returns-in-None : goal.returns-in-None
unfolding is_credit_below
returns-in-None c =
    let d : Credit2Domain = c.args.d.now in
    let is : slice_get d.units c.args.index ≡ None = rw c.as_slice.ensures.items at (slice_get_past c.as_slice.result.now c.args.index c.in-None.ensures.lookup.3) in
    let f : Credit2Unit → Credit2Unit = burned_unit c.args.most c.args.t.0 d in
    let fits : FitsSigned w64 c.args.credit = search rules in
    ap (int_lt (pos 0)) (to_z-of_z w64 c.args.credit fits) ∙ ap (is_credit_below c.args.credit) (sym (slice_get-change_item c.args.index f d.units ∙ ap (option_map f) is))

pub returns-in-Some : goal.returns-in-Some
unfolding is_credit_below
returns-in-Some c =
    let d : Credit2Domain = c.args.d.now in
    let is : slice_get d.units c.args.index ≡ Some c.in-Some.x.now = rw c.as_slice.ensures.items at (slice_get_read c.as_slice.result.now (length c.as_slice.result.now) c.args.index c.in-Some.x.now refl c.in-Some.ensures.lookup.3.0 (c.in-Some.ensures.lookup.3.1 c.in-Some.x.now)) in
    let f : Credit2Unit → Credit2Unit = burned_unit c.args.most c.args.t.0 d in
    let fits : FitsSigned w64 c.args.credit = search rules in
    c.unit_below.ensures d refl ∙ ap (int_lt (f c.in-Some.x.now).credit) (to_z-of_z w64 c.args.credit fits) ∙ ap (is_credit_below c.args.credit) (sym (slice_get-change_item c.args.index f d.units ∙ ap (option_map f) is))
