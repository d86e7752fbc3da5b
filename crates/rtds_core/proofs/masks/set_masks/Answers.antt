use Rattle.std.proofs.Common.{◌∙◌, ℕ, ap, sym}
use Rattle.std.specs.Prelude.{Option, if◌then◌else◌}
use Rattle.unit_places.specs.Masks.{mask_of}
use Rattle.unit_places.proofs.Written.{written_one}
use Rattle.rtds_core.specs.Masks.{is_named}
use Rattle.rtds_core.proofs.masks.set_masks.Goals as goal

pub returns-in-Some : goal.returns-in-Some
returns-in-Some c = λ u low.
    written_one (mask_of c.args.masks.now) (mask_of c.set.new.self) c.args.dom.0 c.in-Some.n u c.set.ensures.others c.args.cores c.set.ensures.mask
    ∙ ap (λ (unit : Option ℕ). if is_named c.args.dom.0 unit u then c.args.cores else mask_of c.args.masks.now u) (sym c.in-Some.is)
