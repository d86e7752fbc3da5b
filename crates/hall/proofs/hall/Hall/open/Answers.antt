use Rattle.std.proofs.Common.{◌≡◌, [], sym, subst}
use Rattle.sched_model.specs.declared.config.Config.{Config}
use Rattle.sched_model.specs.declared.work.Work.{Work}
use Rattle.journal_core.specs.Books.{Chronicle, chronicle}
use Rattle.lock_moves.specs.TableContent.{AreParts}
use Rattle.hall.specs.Values.{part_of_value, suits_value}
use Rattle.hall.proofs.hall.Hall.open.Goals as goal

pub open-requires-clause-parts : goal.open-requires-clause-parts
open-requires-clause-parts c =
    let config : Config = c.args.config.now in let work : Work = c.args.work.now in
    let input = c.in_ok-book.ensures.input in let empty = c.in_ok-book.ensures.empty in let limit = c.in_ok-book.ensures.limit in
    let book : c.in_ok-book.book ≡ chronicle config work [] c.args.events = λ i. record { input = input i; history = empty i; limit = limit i } in
    subst (λ (b : Chronicle). AreParts part_of_value suits_value b c.in-Ok.values.items) (sym book) (c.in-Ok.ensures c.args.events)
