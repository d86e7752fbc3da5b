use Rattle.std.proofs.Common.{List, Option, sym, subst}
use Rattle.sched_model.specs.declared.state.Domain.{Domain}
use Rattle.sched_model.specs.Pool.{stopped_vcpu, change_among}
use Rattle.unit_state.specs.Seen.{Seen, IsNow}
use Rattle.unit_state.specs.Guests.{KeepsGuests, AreSleepers}
use Rattle.unit_state.proofs.GuestLemmas.{keeps_stopped}
use Rattle.unit_state.proofs.PlaceLemmas.{wake_among-same, stopped_wakes}
use Rattle.unit_state.proofs.SleeperLemmas.{sleepers_same}
use Rattle.unit_state.proofs.domains.Guests.stop.Goals as goal

pub invariant_of-self : goal.invariant_of-self
invariant_of-self c =
    let seen : Seen = record { domains = c.self.inside.domains; granularity = c.self.inside.granularity; spare = c.self.inside.spare; latest = c.self.inside.latest.0 } in
    let now : IsNow seen c.args.t.0 = subst (λ (s : Seen). IsNow s c.args.t.0) (sym c.self.view_is) c.requires.now in
    subst (λ (next : List (Option Domain)). KeepsGuests (record seen { domains = next; latest = c.args.t.0 }) × AreSleepers next c.self.inside.sleepers) (sym c.stop_vcpu.ensures)
    (keeps_stopped seen c.args.t.0 c.args.v now c.self.invariant.0, sleepers_same seen.domains (change_among c.args.v (stopped_vcpu c.args.t.0) seen.domains) c.self.inside.sleepers (λ w. wake_among-same c.args.v w (stopped_vcpu c.args.t.0) seen.domains (stopped_wakes c.args.t.0)) c.self.invariant.1)
