use Rattle.std.specs.Prelude.{codes}
use Rattle.clap.specs.Words.{new_app, with_rule}
use Rattle.command_line.specs.Tree.{name_rule, ordered_rule}
use Rattle.command_line.proofs.tree.check.Goals as goal

pub returns : goal.returns
returns c =
    let first = c.with_arg-command.ensures (new_app (codes "check")) ordered_rule (c.new.ensures.app, c.new.ensures.local) c.ordered.ensures.rule c.ordered.ensures.local in
    let second = c.with_arg-command-2.ensures (with_rule (new_app (codes "check")) ordered_rule) (name_rule (codes "domains")) first c.name.ensures.rule c.name.ensures.local in
    let third = c.with_arg-command-3.ensures (with_rule (with_rule (new_app (codes "check")) ordered_rule) (name_rule (codes "domains"))) (name_rule (codes "work")) second c.name-2.ensures.rule c.name-2.ensures.local in
    c.with_arg.ensures (with_rule (with_rule (with_rule (new_app (codes "check")) ordered_rule) (name_rule (codes "domains"))) (name_rule (codes "work"))) (name_rule (codes "schedule")) third c.name-3.ensures.rule c.name-3.ensures.local
