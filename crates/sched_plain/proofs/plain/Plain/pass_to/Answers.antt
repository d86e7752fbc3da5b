use Rattle.std.proofs.Common.{◌≡◌, subst, sym}
use Rattle.std.specs.Prelude.{Some, None}
use Rattle.sched_model.specs.Machine.{first_enabled_action, next_in_horizon}
use Rattle.sched_model.specs.Standing.{Standing}
use Rattle.sched_plain.proofs.SeenLaw.{seen_then}
use Rattle.sched_plain.proofs.Reaching.{stands-next}
use Rattle.sched_plain.proofs.Settling.{none_settled}
use Rattle.sched_plain.proofs.plain.Plain.pass_to.Goals as goal

pub invariant_of-self : goal.invariant_of-self
invariant_of-self c =
    let m = c.self.inside.machine in
    let s = c.self.inside.state in (
      stands-next m s c.args.next.0 c.self.invariant.0
          (subst (λ (v : Standing). first_enabled_action v.machine v.state v.state.now ≡ None) (sym c.self.view_is) c.requires.nothing)
          (subst (λ (v : Standing). next_in_horizon v.machine v.state ≡ Some c.args.next.0) (sym c.self.view_is) c.requires.next),
      c.self.invariant.1,
      c.self.invariant.2,
      none_settled c.args.next.0 s.pools _ c.clear.ensures,
      seen_then m s c.args.next.0 c.self.inside.outlook _ c.pass.ensures c.self.invariant.4,
    )
