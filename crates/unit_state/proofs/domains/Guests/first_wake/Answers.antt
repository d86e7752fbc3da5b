use Rattle.std.proofs.Common.{◌≡◌, ◌+◌, ◌*◌, true, false, sym, subst}
use Rattle.sched_base.specs.declared.VcpuId.{VcpuId}
use Rattle.unit_state.specs.Seen.{Seen, IsNotAfter, is_due_among}
use Rattle.unit_state.proofs.SleeperLemmas.{due_come, first_of_ids, none_due}
use Rattle.unit_state.proofs.domains.Guests.first_wake.Goals as goal

pub first_due-requires : goal.first_due-requires
first_due-requires c = record { power = record { exponent = 11; is = c.self.invariant.1.ids } }

pub returns-in-Some-clause-first : goal.returns-in-Some-clause-first
returns-in-Some-clause-first c =
    subst (λ (s : Seen). (w : VcpuId) → is_due_among c.args.t.0 s.domains w ≡ true → IsNotAfter c.vcpu_with.result w) c.self.view_is
    (λ w due. (
    let come = due_come _ c.self.inside.sleepers c.args.t.0 w c.self.invariant.0 c.self.invariant.1 due in
    subst (λ (v : VcpuId). IsNotAfter v w) (sym c.vcpu_with.ensures) (first_of_ids c.in-Some.id w come.0 (c.in-Some.ensures.first (w.dom.0 * 32 + w.n) come.1))))

pub returns-in-None-clause-none : goal.returns-in-None-clause-none
returns-in-None-clause-none c =
    subst (λ (s : Seen). (v : VcpuId) → is_due_among c.args.t.0 s.domains v ≡ false) c.self.view_is
    (none_due _ c.self.inside.sleepers c.args.t.0 c.self.invariant.0 c.self.invariant.1 c.in-None.ensures.none)
