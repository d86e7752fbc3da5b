use Rattle.std.specs.Prelude.{codes}
use Rattle.clap.specs.Words.{new_app, with_rule}
use Rattle.command_line.specs.Tree.{events_rule, name_rule}
use Rattle.command_line.proofs.tree.watch.Goals as goal

pub returns : goal.returns
returns c =
    let first = c.with_arg-command.ensures (new_app (codes "watch")) events_rule (c.new.ensures.app, c.new.ensures.local) c.events.ensures.rule c.events.ensures.local in
    let second = c.with_arg-command-2.ensures (with_rule (new_app (codes "watch")) events_rule) (name_rule (codes "domains")) first c.name.ensures.rule c.name.ensures.local in
    c.with_arg.ensures (with_rule (with_rule (new_app (codes "watch")) events_rule) (name_rule (codes "domains"))) (name_rule (codes "work")) second c.name-2.ensures.rule c.name-2.ensures.local
