use Rattle.command_line.specs.Tree.{command_tree}
use Rattle.command_line.proofs.tree.tree.Goals as goal

pub returns : goal.returns
unfolding command_tree
returns c =
    let first = c.with_command-program.ensures _ _ c.program.ensures c.run.ensures in
    let second = c.with_command-program-2.ensures _ _ first c.run-2.ensures in
    let third = c.with_command-program-3.ensures _ _ second c.watch.ensures in
    let fourth = c.with_command-program-4.ensures _ _ third c.make.ensures in
    let fifth = c.with_command-program-5.ensures _ _ fourth c.numbers.ensures in
    c.with_command.ensures _ _ fifth c.check.ensures
