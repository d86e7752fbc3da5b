use Rattle.std.proofs.Common.{◌≡◌, ◌<◌, ◌+◌, ◌*◌, ℕ, List, Option, arith, sym, ◌∙◌, subst}
use Rattle.std.specs.Option.{ForSome}
use Rattle.sched_model.specs.declared.state.Domain.{Domain}
use Rattle.sched_model.specs.Places.{at_place, clear_at}
use Rattle.sched_model.specs.Pool.{domain_unit_count}
use Rattle.sched_laws.proofs.EachPlace.{place_below}
use Rattle.due_heap.specs.Dues.{armed_moment}
use Rattle.unit_state.specs.Seen.{Seen, wake_among}
use Rattle.unit_state.specs.Parts.{IsStill}
use Rattle.unit_state.specs.Guests.{KeepsGuests, AreSleepers, vcpu_id}
use Rattle.unit_state.proofs.GuestLemmas.{guests_still, keeps_taken}
use Rattle.unit_state.proofs.PlaceLemmas.{wake_among-clear_at_other}
use Rattle.unit_state.proofs.SleeperLemmas.{sleepers_replaced}
use Rattle.unit_state.proofs.domains.Guests.take.Goals as goal

pub invariant_of-self : goal.invariant_of-self
invariant_of-self c =
    let seen : Seen = record { domains = c.self.inside.domains; granularity = c.self.inside.granularity; spare = c.self.inside.spare; latest = c.self.inside.latest.0 } in
    let d = c.args.d.0 in
    let domain = c.take_out-domain.result in
    let next = clear_at d seen.domains in
    let own : (n : ℕ) → n < 32 → armed_moment c.rearm_domain.new.sleepers (d * 32 + n) ≡ wake_among next (vcpu_id d n) =
    subst (λ (ds : List (Option Domain)). (n : ℕ) → n < 32 → armed_moment c.rearm_domain.new.sleepers (d * 32 + n) ≡ wake_among ds (vcpu_id d n)) (c.as_slice.ensures ∙ c.take_out-domain.ensures.domains) c.rearm_domain.ensures.own
    in
    subst (λ (k : ℕ). KeepsGuests (record seen { domains = c.take_out-domain.new.domains; spare = seen.spare + k }) × AreSleepers c.take_out-domain.new.domains c.rearm_domain.new.sleepers) (sym c.unit_count.ensures.count)
    (subst (λ (ds : List (Option Domain)). KeepsGuests (record seen { domains = ds; spare = seen.spare + domain_unit_count seen.granularity domain }) × AreSleepers ds c.rearm_domain.new.sleepers) (sym c.take_out-domain.ensures.domains) (
      keeps_taken seen d domain c.take_out-domain.ensures.domain c.self.invariant.0,
      sleepers_replaced seen.domains next c.self.inside.sleepers c.rearm_domain.new.sleepers d c.rearm_domain.ensures.ids own c.rearm_domain.ensures.others (λ w other. wake_among-clear_at_other d w seen.domains other) c.self.invariant.1,
    ))

pub returns-clause-part : goal.returns-clause-part
returns-clause-part c =
    let d = c.args.d.0 in
    let domain = c.take_out-domain.result in
    let there = c.take_out-domain.ensures.domain in
    let still : ForSome (at_place c.self.inside.domains d) IsStill = subst (λ (s : Seen). ForSome (at_place s.domains d) IsStill) (sym c.self.view_is) c.requires.still in
    record {
      number = (let below = place_below c.self.inside.domains d domain there in let places = c.self.invariant.0.places in omega (arith, below, places));
      granularity = c.self.invariant.0.granularity;
      guests = guests_still c.self.inside.latest.0 0 domain (still domain there) (c.self.invariant.0.guests d domain there);
      still = still domain there;
    }
