use Rattle.std.proofs.Common.{◌≡◌, ◌∙◌, sym, subst, arith, ℕ, length}
use Rattle.unit_places.specs.Masks.{mask_of}
use Rattle.credit2_core.specs.Domains.{masked_cores}
use Rattle.credit2_core.proofs.Tables.{masked_none}
use Rattle.unit_places.proofs.Written.{written_more}
use Rattle.sched_base.specs.Numbers.{core_set}
use Rattle.std.specs.Prelude.{slice_index_or}
use Rattle.credit2_core.proofs.domains.set_masks.Goals as goal
use Rattle.sched_laws.proofs.Lists.{same_read}

pub loop-n-init : goal.loop-n-init
loop-n-init c = λ u low. masked_none c.args.masks.now c.args.d.0 c.args.sets.now u

pub loop-n-preserved : goal.loop-n-preserved
loop-n-preserved c = λ u low.
    written_more (mask_of c.loop-n.masks) (mask_of c.set.new.self) c.args.d.0 c.loop-n.n u c.set.ensures.others (λ n. slice_index_or c.args.sets.now n (core_set 0)) (mask_of c.args.masks.now)
    (c.set.ensures.mask ∙ sym (same_read c.args.sets.now c.loop-n.n _ _ (omega arith))) (c.loop-n.invariant u low)

pub returns : goal.returns
returns c = λ u low. (
    let end : c.loop-n.n ≡ length c.args.sets.now = omega arith in
    subst (λ (k : ℕ). mask_of c.loop-n.masks u ≡ masked_cores c.args.masks.now c.args.d.0 c.args.sets.now k u) end (c.loop-n.invariant u low))
