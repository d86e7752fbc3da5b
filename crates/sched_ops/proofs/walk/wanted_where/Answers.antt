use Rattle.std.proofs.Common.{◌≡◌, ◌<◌, ◌+◌, ◌*◌, ◌-◌, ℕ, suc, length, arith, subst, ◌∙◌}
use Rattle.std.specs.Prelude.{◌^◌, None}
use mir.Val.{bool_byte}
use Rattle.std.proofs.lemmas.List.{get_or_default}
use Rattle.sched_model.specs.Places.{at_place}
use Rattle.sched_ops.proofs.Bits.{front_fits}
use Rattle.sched_ops.proofs.Wanting.{one_more}
use Rattle.sched_ops.proofs.walk.wanted_where.Goals as goal

pub loop-r-preserved : goal.loop-r-preserved
loop-r-preserved g c =
    let r : ℕ = c.loop-r.r in
    let some : 0 < r = omega arith in
    let inside : r - 1 < length c.args.cores.now = omega arith in
    let at : c.index-cores-r.result ≡ at_place c.args.cores.now (r - 1) = c.index-cores-r.is ∙ get_or_default c.args.cores.now (r - 1) c.index-cores-r.result None inside in
    let longer : suc (length c.args.cores.now - r) ≡ length c.args.cores.now - (r - 1) = omega arith in
    record {
      fits = subst (λ (n : ℕ). 2 * c.loop-r.set + bool_byte c.is_wanted-wanted.result < 2 ^ n) longer (front_fits c.loop-r.set (length c.args.cores.now - r) c.is_wanted-wanted.result c.loop-r.invariant.fits);
      answers = one_more c.is_wanted-wanted.result c.loop-r.invariant.answers some (rw (← at) c.is_wanted-wanted.ensures);
    }
