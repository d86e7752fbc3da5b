use Rattle.std.proofs.Common.{◌≡◌, ◌∙◌, sym, ap, subst}
use Rattle.std.specs.Prelude.{Some}
use Rattle.machine_parts.specs.Places.{state_of}
use Rattle.machine_parts.specs.Rooms.{IsPlaced}
use Rattle.machine_parts.proofs.Rooming.{some-out}
use Rattle.machine_parts.proofs.Shelving.{opened-is, opened-placed}
use Rattle.pool_core.specs.Seen.{reopened_pool}
use Rattle.machine_parts.proofs.slot.PoolSlot.open_with.Goals as goal

pub invariant_of-self : goal.invariant_of-self
invariant_of-self c x is =
    let made : c.open.new.self ≡ reopened_pool c.args.params.now c.args.spare.value = c.open.ensures ∙ ap (reopened_pool c.args.params.now) c.deref_mut.ensures.value in
    some-out (λ b. IsPlaced b.value) _ x is (subst IsPlaced (sym made) (opened-placed c.args.trail.now.input (state_of c.args.trail.now).now c.args.params.now c.args.spare.value c.requires.spare c.requires.params))

pub returns : goal.returns
returns c =
    let made : c.open.new.self ≡ reopened_pool c.args.params.now c.args.spare.value = c.open.ensures ∙ ap (reopened_pool c.args.params.now) c.deref_mut.ensures.value in
    ap Some (made ∙ opened-is c.args.trail.now.input (state_of c.args.trail.now).now c.args.params.now c.args.spare.value c.requires.spare c.requires.params)
