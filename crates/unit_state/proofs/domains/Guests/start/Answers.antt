use Rattle.std.proofs.Common.{◌≡◌, true, List, Option, Some, refl, sym, subst}
use Rattle.sched_base.specs.Numbers.{moment}
use Rattle.sched_model.specs.declared.state.Vcpu.{Vcpu}
use Rattle.sched_model.specs.declared.state.Domain.{Domain}
use Rattle.unit_state.specs.Seen.{Seen, IsNow, is_awake_among}
use Rattle.sched_model.specs.Pool.{change_among}
use Rattle.unit_state.specs.Guests.{KeepsGuests, AreSleepers}
use Rattle.unit_state.proofs.GuestLemmas.{keeps_started}
use Rattle.unit_state.proofs.PlaceLemmas.{wake_among-same}
use Rattle.unit_state.proofs.SleeperLemmas.{sleepers_same}
use Rattle.unit_state.proofs.domains.Guests.start.Goals as goal

pub invariant_of-self : goal.invariant_of-self
invariant_of-self c =
    let seen : Seen = record { domains = c.self.inside.domains; granularity = c.self.inside.granularity; spare = c.self.inside.spare; latest = c.self.inside.latest.0 } in
    let now : IsNow seen c.args.t.0 = subst (λ (s : Seen). IsNow s c.args.t.0) (sym c.self.view_is) c.requires.now in
    let awake : is_awake_among seen.domains c.args.v ≡ true = subst (λ (s : Seen). is_awake_among s.domains c.args.v ≡ true) (sym c.self.view_is) c.requires.awake in
    let f = λ (x : Vcpu). record x { started = Some (moment c.args.t.0) } in
    subst (λ (next : List (Option Domain)). KeepsGuests (record seen { domains = next; latest = c.args.t.0 }) × AreSleepers next c.self.inside.sleepers) (sym c.start_vcpu.ensures)
    (keeps_started seen c.args.t.0 c.args.v now awake c.self.invariant.0, sleepers_same seen.domains (change_among c.args.v f seen.domains) c.self.inside.sleepers (λ w. wake_among-same c.args.v w f seen.domains (λ x. refl)) c.self.invariant.1)
