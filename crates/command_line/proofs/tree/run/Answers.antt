use Rattle.command_line.proofs.tree.run.Goals as goal

pub returns : goal.returns
returns c =
    let first = c.with_arg-command.ensures _ _ (c.new.ensures.app, c.new.ensures.local) c.ordered.ensures.rule c.ordered.ensures.local in
    let second = c.with_arg-command-2.ensures _ _ first c.events.ensures.rule c.events.ensures.local in
    let third = c.with_arg-command-3.ensures _ _ second c.name.ensures.rule c.name.ensures.local in
    c.with_arg.ensures _ _ third c.name-2.ensures.rule c.name-2.ensures.local
