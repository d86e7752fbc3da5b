use Rattle.std.proofs.Common.{◌≡◌, ◌∙◌, ap, sym, subst, w64, FitsSigned}
use Rattle.std.specs.Prelude.{Some, slice_get, ◌+ℤ◌}
use Rattle.sched_model.specs.declared.state.Credit2Domain.{Credit2Domain}
use Rattle.sched_model.specs.Places.{change_item}
use Rattle.sched_model.specs.Credit2.{burned_unit}
use Rattle.scheduler_records.specs.Bounds.{UnitFits}
use Rattle.scheduler_records.proofs.Items.{get-change_item_fits}
use Rattle.scheduler_records.proofs.Ranges.{unit_burned, budget_fits}
use Rattle.scheduler_records.proofs.credit2_domain.burn_own.Goals as goal

pub give_back-requires : goal.give_back-requires
give_back-requires c = record {
  room = λ u is.
      let d : Credit2Domain = c.args.d.now in
      let here : slice_get (change_item c.args.index (burned_unit c.args.most c.args.t.0 d) d.units) c.args.index ≡ Some u = ap (λ (e : Credit2Domain). slice_get e.units c.args.index) (sym c.burn_at.ensures) ∙ is in
      let fits : UnitFits c.args.t.0 u =
      get-change_item_fits (UnitFits c.args.t.0) c.args.index (burned_unit c.args.most c.args.t.0 d) d.units u (λ k x h. unit_burned c.args.most c.args.t.0 d _ c.requires.early c.requires.fits.params (c.requires.range.units k x h)) here
      in
      let sum : FitsSigned w64 (d.budget +ℤ u.held) = budget_fits c.args.most c.args.t.0 d u c.requires.early c.requires.range fits in
      subst (λ (e : Credit2Domain). FitsSigned w64 (e.budget +ℤ u.held)) (sym c.burn_at.ensures) sum;
}
