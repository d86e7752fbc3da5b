use Rattle.unit_places.specs.Masks.{mask_of}
use Rattle.unit_places.proofs.Written.{written_more}
use Rattle.rtds_core.proofs.masks.mask_all.Goals as goal

pub loop-n-preserved : goal.loop-n-preserved
loop-n-preserved c = λ u low.
    written_more (mask_of c.loop-n.masks) (mask_of c.set.new.self) c.args.dom.0 c.loop-n.n u c.set.ensures.others (λ n. c.args.cores) (mask_of c.args.masks.now) c.set.ensures.mask (c.loop-n.invariant u low)
