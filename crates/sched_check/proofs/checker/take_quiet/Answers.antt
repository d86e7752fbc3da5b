use Rattle.std.proofs.Common.{◌≡◌, refl, subst, sym}
use Rattle.std.specs.Prelude.{None}
use Rattle.sched_model.specs.Machine.{first_enabled_action}
use Rattle.sched_model.specs.Standing.{Standing}
use Rattle.sched_check.proofs.checker.take_quiet.Goals as goal

pub pass_to-requires-clause-nothing : goal.pass_to-requires-clause-nothing
pass_to-requires-clause-nothing c =
    subst (λ (v : Standing). first_enabled_action v.machine v.state v.state.now ≡ None) (sym c.in-Ok.ensures.unchanged) (c.in-Ok.ensures.taken.0 refl).nothing
