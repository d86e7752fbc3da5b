use Rattle.std.proofs.Common.{◌∙◌, drop, sym}
use Rattle.status_board.proofs.Begins.{given, taken_in, turns}
use Rattle.status_board.proofs.writer.published.Goals as goal

pub publish_as-author-requires : goal.publish_as-author-requires
publish_as-author-requires g c next is =
    let now = c.args.author.desk.shown.value in
    let more = drop c.args.author.behind c.args.author.log.items in
    turns _ _ now next (more, sym (is ∙ taken_in now more))

pub returns-clause-shown : goal.returns-clause-shown
returns-clause-shown g c =
    (given _ _ c.publish_as-author.result.1 (c.publish_as-author.ensures.succeeds tt) c.publish_as-author.ensures.values).0
    ∙ taken_in c.args.author.desk.shown.value (drop c.args.author.behind c.args.author.log.items)
