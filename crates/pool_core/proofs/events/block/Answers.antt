use Rattle.std.proofs.Common.{◌≡◌, ℕ, true, refl, sym, ap, ◌∙◌}
use Rattle.std.specs.Prelude.{Option, Some, None, slice_set, unwrap_or}
use Rattle.sched_base.specs.declared.VcpuId.{VcpuId}
use Rattle.sched_model.specs.declared.action.Action.TheVariants.{Block}
use Rattle.sched_model.specs.declared.event.Event.TheVariants as event
use Rattle.sched_model.specs.declared.state.Pool.{Pool}
use Rattle.sched_model.specs.Pool.{absent_vcpu, running_guest}
use Rattle.settle_laws.proofs.Spared.{spared_block}
use Rattle.pool_core.specs.Seen.{guest_among, pool_of}
use Rattle.pool_core.proofs.Acting.{acted, block_done, block_happens, idle_blocks_not}
use Rattle.pool_core.proofs.ActedWorks.{works_block}
use Rattle.pool_core.proofs.events.block.Goals as goal

pub block-requires-clause-done : goal.block-requires-clause-done
block-requires-clause-done c =
    let pool : Pool = pool_of c.args.guests.now c.args.cores.now c.requires.0 in
    let guest : running_guest c.args.guests.now.granularity pool c.args.p.0 ≡ Some c.in-Some.v = ap (λ (k : ℕ). guest_among k c.args.cores.now.resources c.args.p.0) (sym c.requires.1.kept.linked.granularity) ∙ sym c.in-Some.ensures in
    block_done c.args.guests.now.granularity c.args.t.0 c.args.p.0 c.in-Some.v pool c.requires.1.enabled guest

pub unreachable-requires : goal.unreachable-requires
unreachable-requires c =
    let k = c.args.guests.now.granularity in
    let pool : Pool = pool_of c.args.guests.now c.args.cores.now c.requires.0 in
    let none : running_guest k pool c.args.p.0 ≡ None = ap (λ (i : ℕ). guest_among i c.args.cores.now.resources c.args.p.0) (sym c.requires.1.kept.linked.granularity) ∙ sym c.guest_of.ensures ∙ c.in_default.is in
    idle_blocks_not k c.args.t.0 c.args.p.0 pool c.requires.1.enabled none

pub returns : goal.returns
returns c s may =
    let pool : Pool = pool_of c.args.guests.now c.args.cores.now s in
    let k = c.args.guests.now.granularity in
    let t = c.args.t.0 in
    let p = c.args.p.0 in
    let guest : running_guest k pool p ≡ Some c.in-Some.v = ap (λ (i : ℕ). guest_among i c.args.cores.now.resources p) (sym may.kept.linked.granularity) ∙ sym c.in-Some.ensures in
    acted t c.args.guests.now c.block.new.guests c.args.cores.now c.block.new.cores s s (Block c.args.p) (slice_set c.args.cores.now.works p None) (event.Block c.args.p c.in-Some.v) (record { spares = true; came = None })
    may (ap (λ (o : Option VcpuId). event.Block c.args.p (unwrap_or o absent_vcpu)) (sym guest)) (c.block.ensures.pool s ∙ block_happens k t p c.in-Some.v pool guest) c.block.ensures.rest may.kept.linked.scheduler_latest refl c.block.ensures.works
    (works_block k t c.args.cores.now.works pool may.kept.pool.known may.kept.linked.works p c.in-Some.v guest)
    (λ spares before. spared_block k t pool before p)
