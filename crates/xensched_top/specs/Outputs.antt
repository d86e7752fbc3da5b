-- What is written of a run, and what it has of the entries so far.
use Rattle.std.specs.Prelude.{◌≡◌, [], ⊤}
use Rattle.command_line.specs.declared.command.Form.{Form}
use Rattle.command_line.specs.declared.command.Form.TheVariants as form
use Rattle.sched_model.specs.declared.config.Config.{Config}
use Rattle.xensched_top.specs.declared.output.Output.{Output}
use Rattle.xensched_top.specs.declared.output.Output.TheVariants as output

-- it is of this form, and its report, where it is one, is of a machine with this config
abbrev pub IsFor : Form → Config → Output → Type 0
IsFor form.Schedule config output.Schedule = ⊤
IsFor form.Report config (output.Report report) = report.config ≡ config
IsFor f config other = ⊥

-- no entry was added
abbrev pub HasNothing : Output → Type 0
HasNothing output.Schedule = ⊤
HasNothing (output.Report report) = report.entries ≡ []
