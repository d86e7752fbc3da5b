use Rattle.std.proofs.Common.{Some, ap, ◌∙◌, rules}
use Rattle.sched_io.specs.HeldBytes.{bytes_under}
use Rattle.sched_io.proofs.ShelfLemmas.{set_held, set_others}
use Rattle.sched_io.proofs.shelf.NamedBytes.set.Goals as goal

pub returns-clause-held : goal.returns-clause-held
returns-clause-held c =
    set_held c.in_ok-key.key c.in_ok-value.value c.self.inside.files c.insert.new.self c.in_ok-insert.ensures.updates
    c.args.name.now c.in_ok-key.ensures.ok
    ∙ ap (λ xs. Some xs) (search rules)

pub returns-clause-others : goal.returns-clause-others
returns-clause-others c = λ other differs.
    set_others c.in_ok-key.key c.in_ok-value.value c.self.inside.files c.insert.new.self c.in_ok-insert.ensures.updates
    c.args.name.now c.in_ok-key.ensures.ok other differs
    ∙ ap (λ files. bytes_under other files) c.self.view_is
