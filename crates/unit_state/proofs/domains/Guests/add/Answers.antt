use Rattle.std.proofs.Common.{◌≡◌, ◌≤◌, ◌<◌, ◌+◌, ◌-◌, ◌*◌, ℕ, List, Option, None, length, arith, sym, ap, ◌∙◌, subst}
use Rattle.sched_model.specs.declared.state.Domain.{Domain}
use Rattle.sched_model.specs.Places.{at_place, put_at}
use Rattle.sched_model.specs.Pool.{domain_unit_count}
use Rattle.due_heap.specs.Dues.{armed_moment}
use Rattle.unit_state.specs.Seen.{Seen, wake_among}
use Rattle.unit_state.specs.Guests.{KeepsGuests, AreSleepers, vcpu_id}
use Rattle.unit_state.proofs.GuestLemmas.{guests_later, keeps_added}
use Rattle.unit_state.proofs.PlaceLemmas.{wake_among-put_at_other}
use Rattle.unit_state.proofs.SleeperLemmas.{sleepers_replaced}
use Rattle.unit_state.proofs.domains.Guests.add.Goals as goal

pub invariant_of-self : goal.invariant_of-self
invariant_of-self c =
    let seen : Seen = record { domains = c.self.inside.domains; granularity = c.self.inside.granularity; spare = c.self.inside.spare; latest = c.self.inside.latest.0 } in
    let d = c.args.part.d.0 in
    let domain = c.args.part.domain in
    let next = put_at d domain seen.domains in
    let own : (n : ℕ) → n < 32 → armed_moment c.rearm_domain.new.sleepers (d * 32 + n) ≡ wake_among next (vcpu_id d n) =
    subst (λ (ds : List (Option Domain)). (n : ℕ) → n < 32 → armed_moment c.rearm_domain.new.sleepers (d * 32 + n) ≡ wake_among ds (vcpu_id d n)) (c.as_slice.ensures ∙ c.replace-empty.ensures.new) c.rearm_domain.ensures.own
    in
    let inside : d < length seen.domains = subst (λ (s : Seen). d < length s.domains) (sym c.self.view_is) c.requires.place in
    let absent : at_place seen.domains d ≡ None = subst (λ (s : Seen). at_place s.domains d ≡ None) (sym c.self.view_is) c.requires.absent in
    let same : c.args.part.granularity ≡ seen.granularity = subst (λ (s : Seen). c.args.part.granularity ≡ s.granularity) (sym c.self.view_is) c.requires.granularity in
    let count : c.unit_count.result ≡ domain_unit_count seen.granularity domain = c.unit_count.ensures.count ∙ ap (λ g. domain_unit_count g domain) same in
    let spare : domain_unit_count c.args.part.granularity domain ≤ seen.spare = subst (λ (s : Seen). domain_unit_count c.args.part.granularity domain ≤ s.spare) (sym c.self.view_is) c.requires.room in
    let room : domain_unit_count seen.granularity domain ≤ seen.spare = subst (λ (g : ℕ). domain_unit_count g domain ≤ seen.spare) same spare in
    subst (λ (k : ℕ). KeepsGuests (record seen { domains = c.replace-empty.new.self; spare = seen.spare - k }) × AreSleepers c.replace-empty.new.self c.rearm_domain.new.sleepers) (sym count)
    (subst (λ (ds : List (Option Domain)). KeepsGuests (record seen { domains = ds; spare = seen.spare - domain_unit_count seen.granularity domain }) × AreSleepers ds c.rearm_domain.new.sleepers) (sym c.replace-empty.ensures.new) (
      keeps_added seen d domain inside absent room (guests_later 0 seen.latest domain (omega arith) c.requires.part.guests) c.self.invariant.0,
      sleepers_replaced seen.domains next c.self.inside.sleepers c.rearm_domain.new.sleepers d c.rearm_domain.ensures.ids own c.rearm_domain.ensures.others (λ w other. wake_among-put_at_other d domain w seen.domains other) c.self.invariant.1,
    ))
