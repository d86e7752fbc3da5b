-- What every run prints.
use Rattle.std.specs.Prelude.{List}
use Rattle.std.specs.List.{All}
use Rattle.sched_model.specs.declared.event.Entry.{Entry}
use Rattle.sched_model.specs.declared.machine.Machine.{Machine}
use Rattle.sched_model.specs.CheckedMachine.{IsChecked}
use Rattle.sched_model.specs.Runs.{IsRun}
use Rattle.sched_print.specs.Ranges.{IsPrintable}

-- each entry of a run has its numbers in the ranges of lines
abbrev pub EntriesArePrintable : Type 0
EntriesArePrintable = (m : Machine) → IsChecked m → (entries : List Entry) → IsRun m entries → All IsPrintable entries
