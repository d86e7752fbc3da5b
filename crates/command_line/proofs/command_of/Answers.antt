use Rattle.std.proofs.Common.{◌∙◌, map}
use Rattle.std.specs.Prelude.{string_bytes}
use Rattle.clap.specs.Words.{app_of}
use Rattle.command_line.specs.Commands.{asked_command}
use Rattle.command_line.proofs.Taking.{refused, taken}
use Rattle.command_line.proofs.command_of.Goals as goal

pub returns-in-Ok-clause-value : goal.returns-in-Ok-clause-value
unfolding asked_command
returns-in-Ok-clause-value c =
    taken (app_of c.in_ok-tree.field-0) (map string_bytes c.args.words.now) c.in-Ok.matches _ c.in_ok-tree.ensures.0
    c.in-Ok.ensures.matches c.in-Ok.ensures.kinds c.command_in.ensures.value

pub returns : goal.returns
unfolding asked_command
returns c = record {
  value = refused (app_of c.in_ok-tree.field-0) (map string_bytes c.args.words.now) c.in-Err.error c.in_ok-tree.ensures.0
      c.in-Err.ensures.kinds (λ memory. c.in_default.not-OutOfMemory (c.kind.ensures ∙ memory));
  ranges = tt;
}
