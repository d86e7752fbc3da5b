use Rattle.std.proofs.Common.{sym, ◌∙◌}
use Rattle.sched_null.proofs.Keeping.{kept_keep, kept_already}
use Rattle.sched_null.proofs.kept.Kept.keep.Goals as goal
use Rattle.sched_laws.proofs.Choices.{is_unit_same}

pub invariant_of-self : goal.invariant_of-self
invariant_of-self c = rw (c.set_place.ensures, c.release_unit.ensures, c.note_last.ensures) (kept_keep c.args.core c.args.u _ _ c.self.invariant)

pub returns-then-is_there : goal.returns-then-is_there
returns-then-is_there c =
    let at = rw (← c.self.view_is) at (sym c.at.ensures ∙ is_unit_same c.at.result c.args.u (sym c.is_there.ensures ∙ c.if-is_there.true)) in
    rw (← c.self.view_is) (kept_already c.args.core.0 c.args.u c.self.inside.places c.self.inside.lasts c.self.invariant at)
