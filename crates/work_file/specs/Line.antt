-- What one line of the work file says by itself.
use Rattle.std.specs.Prelude.{ℕ, ◌==◌, ◌&&◌, ◌||◌, Bool, List, [], ◌∷◌, Some, None, Result, Ok, Err, length, slice_index, bytes_eq, nat_lt, nat_le, codes, if◌then◌else◌}
use Rattle.std.specs.Option.{ok_or}
use Rattle.sched_base.specs.Numbers.{moment, span, processor}
use Rattle.sched_model.specs.CheckedMachine.{most_span, IsCheckedStall, IsCheckedCommandLine}
use Rattle.sched_model.specs.declared.config.Config.{Config}
use Rattle.xl_words.specs.Parts.{words}
use Rattle.xl_words.specs.Values.{number_of}
use Rattle.xl_words.specs.Grammar.{reading}
use Rattle.work_file.specs.declared.fault.WorkCause.{WorkCause}
use Rattle.work_file.specs.declared.fault.WorkCause.TheVariants as cause
use Rattle.work_file.specs.declared.line.Line.{Line}
use Rattle.work_file.specs.declared.line.Line.TheVariants.{Silent, Stall, Command}
pub use Rattle.sched_base.specs.Results.{◌>>=◌}

-- a line that says nothing: an empty one, and a comment, which begins with a number sign
abbrev pub is_silent_line : List ℕ → Bool
is_silent_line line = length line == 0 || slice_index line 0 == 35

-- a number in the range, or a fault
abbrev pub number_within : ℕ → ℕ → List ℕ → Result ℕ WorkCause
number_within low high word = elim (number_of word) [ None ↦ Err cause.Number | Some n ↦ (if nat_le low n && nat_le n high then Ok n else Err cause.Number) ]

-- a processor of the machine, or a fault
abbrev pub target_of : Config → ℕ → Result ℕ WorkCause
target_of config n = if nat_lt n config.processors then Ok n else Err cause.Target

-- CPU SPAN, behind the moment and `stall`
unfoldable pub stall_of : Config → ℕ → List (List ℕ) → Result Line WorkCause
stall_of config at (cpu ∷ length ∷ []) = do
  n ← ok_or (number_of cpu) cause.Number
  s ← number_within 1 most_span length
  p ← target_of config n
  Ok (Stall (record { at = moment at; cpu = processor p; span = span s }))
stall_of config at _ = Err cause.Word

-- the words of the command, behind the moment and `xl`
abbrev pub command_of : ℕ → List (List ℕ) → Result Line WorkCause
command_of at [] = Err cause.Word
command_of at (word ∷ words) = Ok (Command (record { at = moment at; command = reading (word ∷ words) }))

-- what stands behind the moment
abbrev pub said_at : Config → ℕ → List (List ℕ) → Result Line WorkCause
said_at config at [] = Err cause.Word
said_at config at (word ∷ words) =
    if bytes_eq word (codes "stall") then stall_of config at words
    else (if bytes_eq word (codes "xl") then command_of at words else Err cause.Word)

-- the words of a line that says something
abbrev pub said_by : Config → List (List ℕ) → Result Line WorkCause
said_by config [] = Err cause.Number
said_by config (word ∷ words) = number_within 0 most_span word >>= λ at. said_at config at words

-- what a line says, or the first of its faults
abbrev pub line_of : Config → List ℕ → Result Line WorkCause
line_of config line = if is_silent_line line then Ok Silent else said_by config (words line)

-- what the line says passes the checks
abbrev pub IsCheckedLine : Config → Line → Type 0
IsCheckedLine config Silent = Unit {0}
IsCheckedLine config (Stall s) = IsCheckedStall config s
IsCheckedLine config (Command c) = IsCheckedCommandLine c
