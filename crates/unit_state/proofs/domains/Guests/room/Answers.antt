use Rattle.std.proofs.Common.{List, Option, sym, subst}
use Rattle.std.specs.Prelude.{replicate, None}
use Rattle.sched_base.specs.declared.Moment.{Moment}
use Rattle.sched_model.specs.declared.state.Domain.{Domain}
use Rattle.unit_state.specs.Guests.{KeepsGuests, AreSleepers}
use Rattle.unit_state.proofs.GuestLemmas.{keeps_vacant}
use Rattle.unit_state.proofs.SleeperLemmas.{sleepers_none}
use Rattle.unit_state.proofs.domains.Guests.room.Goals as goal

pub invariant_of-result : goal.invariant_of-result
invariant_of-result c =
    subst (λ (dues : List (Option Moment)). KeepsGuests (record { domains = c.in_ok-domains.domains; granularity = c.args.granularity; spare = c.args.units; latest = 0 }) × AreSleepers c.in_ok-domains.domains dues) (sym c.in_ok-sleepers.ensures)
    (subst (λ (domains : List (Option Domain)). KeepsGuests (record { domains = domains; granularity = c.args.granularity; spare = c.args.units; latest = 0 }) × AreSleepers domains (replicate 2048 None)) (sym c.in_ok-domains.ensures)
    (keeps_vacant c.args.granularity c.args.places c.args.units c.requires.granularity c.requires.places c.requires.units, sleepers_none c.args.places))
