use Rattle.std.proofs.Common.{◌≡◌, ◌++◌, ◌∷◌, [], ℕ, map}
use Rattle.std.proofs.lemmas.Result.{IfOk-weaker}
use Rattle.sched_model.specs.declared.config.Config.{Config}
use Rattle.sched_model.specs.declared.work.Work.{Work}
use Rattle.journal_core.specs.Books.{chronicle}
use Rattle.lock_moves.specs.TableContent.{AreParts}
use Rattle.hall.specs.declared.value.PartState.TheVariants as value
use Rattle.hall.specs.Values.{part_of_value, suits_value}
use Rattle.hall.proofs.Opening.{opened-parts}
use Rattle.hall.proofs.parts.open_values.Goals as goal

pub returns-in-Ok : goal.returns-in-Ok
returns-in-Ok c =
    let config : Config = c.args.config.now in let work : Work = c.args.work.now in
    let kept = c.in_ok-kept.kept in let slots = c.in-Ok.slots.items in
    IfOk-weaker c.values_of.result (λ values. values.items ≡ map value.Pool slots ++ value.Tool kept ∷ [])
    (λ values. (limit : ℕ) → AreParts part_of_value suits_value (chronicle config work [] limit) values.items)
    (λ values are limit. opened-parts config work limit slots kept values.items (c.in-Ok.ensures work) c.in_ok-kept.ensures.tool c.in_ok-kept.ensures.spares are)
    c.values_of.ensures
