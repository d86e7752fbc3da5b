-- The scripts of a domain's vCPUs.
use Rattle.std.specs.Prelude.{◌%◌, ◌==◌, pos, codes, List, length, Result, Ok, Err, if◌then◌else◌}
use Rattle.sched_base.specs.Numbers.{span}
use Rattle.sched_base.specs.declared.Span.{Span}
use Rattle.sched_model.specs.CheckedMachine.{most_span}
use Rattle.toml.specs.Data.{Data, Members}
use Rattle.dom_file.specs.declared.fault.DomCause.{DomCause}
use Rattle.dom_file.specs.declared.fault.DomCause.TheVariants.{Range}
use Rattle.dom_file.specs.Steps.{◌>>=◌, each}
use Rattle.dom_file.specs.Values.{required_value, number_of, array_of}

-- a run or a sleep
abbrev pub span_of : Data → Result Span DomCause
span_of d = number_of 1 most_span d >>= λ n. Ok (span n)

-- runs and sleeps in turn: an even count, at most 64
abbrev pub script_of : Data → Result (List Span) DomCause
script_of d = do
  ds ← array_of 0 64 d
  if length ds % 2 == 0 then each span_of ds else Err (Range (pos (length ds)))

-- the scripts of 1 to 32 vCPUs
abbrev pub scripts_of : Members → Result (List (List Span)) DomCause
scripts_of table = do
  d ← required_value table (codes "guests")
  ds ← array_of 1 32 d
  each script_of ds
