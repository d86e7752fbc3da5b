use Rattle.std.proofs.Common.{◌≡◌, ◌+◌, ◌*◌, true, List, Option, sym, subst}
use Rattle.std.specs.Prelude.{slice_set}
use Rattle.sched_base.specs.declared.Moment.{Moment}
use Rattle.sched_model.specs.declared.state.Domain.{Domain}
use Rattle.sched_base.specs.Numbers.{has_moment_come}
use Rattle.sched_model.specs.Pool.{done_moment, put_to_sleep, vcpu_among}
use Rattle.unit_state.specs.Seen.{Seen, IsNow, done_among, wake_among}
use Rattle.unit_state.specs.Guests.{KeepsGuests, AreSleepers}
use Rattle.unit_state.proofs.GuestLemmas.{all_fit, come_among, keeps_slept}
use Rattle.unit_state.proofs.SleeperLemmas.{id_below, sleepers_changed}
use Rattle.unit_state.proofs.domains.Guests.block.Goals as goal

pub sleep_vcpu-requires-clause-fits : goal.sleep_vcpu-requires-clause-fits
sleep_vcpu-requires-clause-fits c = all_fit _ c.self.invariant.0

pub rearm-requires : goal.rearm-requires
rearm-requires c =
    let seen : Seen = record { domains = c.self.inside.domains; granularity = c.self.inside.granularity; spare = c.self.inside.spare; latest = c.self.inside.latest.0 } in
    let done : has_moment_come c.args.t.0 (done_among seen.domains c.args.v) ≡ true = subst (λ (s : Seen). has_moment_come c.args.t.0 (done_among s.domains c.args.v) ≡ true) (sym c.self.view_is) c.requires.done in
    let there = come_among done_moment c.args.t.0 (vcpu_among seen.domains c.args.v) done in
    id_below seen c.self.inside.sleepers c.args.v there.0 there.1 c.self.invariant.0 c.self.invariant.1

pub invariant_of-self : goal.invariant_of-self
invariant_of-self c =
    let seen : Seen = record { domains = c.self.inside.domains; granularity = c.self.inside.granularity; spare = c.self.inside.spare; latest = c.self.inside.latest.0 } in
    let now : IsNow seen c.args.t.0 = subst (λ (s : Seen). IsNow s c.args.t.0) (sym c.self.view_is) c.requires.now in
    let done : has_moment_come c.args.t.0 (done_among seen.domains c.args.v) ≡ true = subst (λ (s : Seen). has_moment_come c.args.t.0 (done_among s.domains c.args.v) ≡ true) (sym c.self.view_is) c.requires.done in
    let there = come_among done_moment c.args.t.0 (vcpu_among seen.domains c.args.v) done in
    subst (λ (dues : List (Option Moment)). KeepsGuests (record seen { domains = c.sleep_vcpu.new.domains; latest = c.args.t.0 }) × AreSleepers c.sleep_vcpu.new.domains dues) (sym c.rearm.ensures)
    (subst (λ (now : List (Option Domain)). KeepsGuests (record seen { domains = c.sleep_vcpu.new.domains; latest = c.args.t.0 }) × AreSleepers c.sleep_vcpu.new.domains (slice_set c.self.inside.sleepers (c.args.v.dom.0 * 32 + c.args.v.n) (wake_among now c.args.v))) (sym c.as_slice.ensures)
    (subst (λ (next : List (Option Domain)). KeepsGuests (record seen { domains = next; latest = c.args.t.0 }) × AreSleepers next (slice_set c.self.inside.sleepers (c.args.v.dom.0 * 32 + c.args.v.n) (wake_among next c.args.v))) (sym c.sleep_vcpu.ensures)
    (keeps_slept seen c.args.t.0 c.args.v now done c.self.invariant.0, sleepers_changed seen c.self.inside.sleepers c.args.v (put_to_sleep c.args.t.0) there.0 there.1 c.self.invariant.0 c.self.invariant.1)))
