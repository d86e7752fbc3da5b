use Rattle.std.proofs.Common.{◌≡◌, ◌≤◌, ◌/◌, ◌%◌, ◌+◌, ◌*◌, Some, None, subst}
use Rattle.sched_base.specs.declared.Moment.{Moment}
use Rattle.sched_base.specs.declared.VcpuId.{VcpuId}
use Rattle.unit_state.specs.Seen.{Seen, wake_among}
use Rattle.unit_state.specs.Guests.{vcpu_id}
use Rattle.unit_state.proofs.SleeperLemmas.{armed_sleeps, sleeps_armed, none_sleeps}
use Rattle.unit_state.proofs.domains.Guests.next_wake.Goals as goal

pub returns-in-Some-clause-some : goal.returns-in-Some-clause-some
returns-in-Some-clause-some c =
    let id = c.in-Some.field-0-1 in
    (vcpu_id (id / 32) (id % 32), subst (λ (s : Seen). wake_among s.domains (vcpu_id (id / 32) (id % 32)) ≡ Some c.in-Some.at) c.self.view_is (armed_sleeps c.self.inside.domains c.self.inside.sleepers id c.in-Some.at c.self.invariant.1 c.in-Some.ensures.armed).1)

pub returns-in-Some-clause-least : goal.returns-in-Some-clause-least
returns-in-Some-clause-least c =
    subst (λ (s : Seen). (v : VcpuId) (other : Moment) → wake_among s.domains v ≡ Some other → c.in-Some.at.0 ≤ other.0) c.self.view_is
    (λ v other sleeps. (c.in-Some.ensures.first (v.dom.0 * 32 + v.n) other (sleeps_armed _ c.self.inside.sleepers v other c.self.invariant.0 c.self.invariant.1 sleeps).1).by_moment)

pub returns-in-None-clause-none : goal.returns-in-None-clause-none
returns-in-None-clause-none c =
    subst (λ (s : Seen). (v : VcpuId) → wake_among s.domains v ≡ None) c.self.view_is
    (none_sleeps _ c.self.inside.sleepers c.self.invariant.0 c.self.invariant.1 c.in-None.ensures.none)
