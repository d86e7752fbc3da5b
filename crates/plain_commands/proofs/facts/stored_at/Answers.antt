use Rattle.std.proofs.Common.{◌∙◌, sym, ap}
use Rattle.sched_model.specs.Places.{at_place}
use Rattle.plain_commands.proofs.facts.stored_at.Goals as goal

pub push_stored_in-requires-clause-fits : goal.push_stored_in-requires-clause-fits
push_stored_in-requires-clause-fits c =
    c.requires.fits c.in-Some-pool.i.0 c.in-Some-item_at.pool.now (ap (λ places. at_place places c.in-Some-pool.i.0) (sym c.as_slice.ensures) ∙ sym c.in-Some-item_at.ensures)
