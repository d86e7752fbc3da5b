use Rattle.std.proofs.Common.{◌≡◌, ◌∙◌, ℕ, List, ap}
use Rattle.std.specs.Prelude.{Option}
use Rattle.sched_base.specs.declared.Moment.{Moment}
use Rattle.sched_model.specs.declared.state.Processor.{Processor}
use Rattle.plain_pool.specs.Ready.{due_moment, least_of_blocks, lesser_moment}
use Rattle.plain_pool.proofs.Calm.{calm_least}
use Rattle.plain_pool.proofs.ready.of_calm.Goals as goal

pub returns : goal.returns
returns c =
    c.lesser.ensures
    ∙ ap (λ (o : Option Moment). lesser_moment c.of_blocks-blocks.result o) c.due_end.ensures
    ∙ ap (λ (n : ℕ). lesser_moment n (due_moment c.args.core.now)) (c.of_blocks-blocks.ensures ∙ ap (λ (qs : List Processor). least_of_blocks c.args.pool.now c.args.best qs) c.as_slice.ensures.items)
    ∙ calm_least c.args.pool.now c.args.core.now c.args.best c.requires.calm
