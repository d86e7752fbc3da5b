use Rattle.std.proofs.Common.{◌≡◌, Some, sym}
use Rattle.sched_model.specs.EligibleUnits.{rtds_unit_at}
use Rattle.state_ranges.proofs.Rtds.{fit_unit}
use Rattle.rtds_core.proofs.state.RtdsState.stored.Goals as goal

pub returns-in-Some-clause-range : goal.returns-in-Some-clause-range
returns-in-Some-clause-range c =
    let i = c.self.inside in
    let at : rtds_unit_at i.domains c.args.u ≡ Some c.in-Some.x.now = rw c.as_slice.ensures at (sym c.in-Some.ensures) in
    let fits = fit_unit i.latest i.domains c.args.u c.in-Some.x.now at c.self.invariant.fits in
    record { long = fits.next_period; share = fits.next_budget }
