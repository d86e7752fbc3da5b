use Rattle.std.proofs.Common.{List, Option, refl, sym, subst}
use Rattle.sched_model.specs.declared.state.Domain.{Domain}
use Rattle.sched_model.specs.Places.{change_at}
use Rattle.unit_state.specs.Seen.{Seen}
use Rattle.unit_state.specs.Guests.{KeepsGuests, AreSleepers}
use Rattle.unit_state.proofs.GuestLemmas.{keeps_domain}
use Rattle.unit_state.proofs.PlaceLemmas.{wake_among-change_at}
use Rattle.unit_state.proofs.SleeperLemmas.{sleepers_same}
use Rattle.unit_state.proofs.domains.Guests.set_moving.Goals as goal

pub invariant_of-self : goal.invariant_of-self
invariant_of-self c =
    let seen : Seen = record { domains = c.self.inside.domains; granularity = c.self.inside.granularity; spare = c.self.inside.spare; latest = c.self.inside.latest.0 } in
    let f = λ (x : Domain). record x { moving = c.args.to } in
    subst (λ (next : List (Option Domain)). KeepsGuests (record seen { domains = next }) × AreSleepers next c.self.inside.sleepers) (sym c.set_target.ensures)
    (keeps_domain seen c.args.d.0 f (λ x. refl) c.self.invariant.0, sleepers_same seen.domains (change_at c.args.d.0 f seen.domains) c.self.inside.sleepers (λ w. wake_among-change_at c.args.d.0 f w seen.domains (λ x. refl)) c.self.invariant.1)
