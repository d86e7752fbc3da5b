use Rattle.std.proofs.Common.{◌≡◌, length}
use Rattle.std.specs.Str.Lines.{lines}
use Rattle.work_file.specs.Lines.{work_of}
use Rattle.work_file.specs.Reading.{IsCheckedReading, work_from}
use Rattle.work_file.proofs.read_work.Given as goal

abbrev pub invariant-loop-line : goal.invariant-loop-line
invariant-loop-line l = IsCheckedReading l.config l.reading × (work_from l.config l.reading (lines l.rest) ≡ work_of l.config l.bytes)

abbrev pub decreases-loop-line : goal.decreases-loop-line
decreases-loop-line l = length l.rest
