use Rattle.std.specs.Prelude.{codes}
use Rattle.command_line.specs.Tree.{name_rule, numbers_app}
use Rattle.command_line.proofs.tree.make.Goals as goal

pub returns : goal.returns
returns c = c.with_arg.ensures (numbers_app (codes "make")) (name_rule (codes "text")) c.numbers.ensures c.name.ensures.rule c.name.ensures.local
