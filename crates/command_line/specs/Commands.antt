-- Which command the words of the command line are.
use Rattle.std.specs.Prelude.{ℕ, Bool, true, false, List, [], ◌∷◌, map, Option, Some, None, String, string_bytes, bytes_eq, codes, option_and_then, option_map, ◌≤◌, ⊤, if◌then◌else◌}
use Rattle.std.specs.declared.alloc.Global.{Global}
use Rattle.clap.specs.Words.{Kinds, Row, Text, fault_of, first_of, subcommand_of}
use Rattle.command_line.specs.declared.command.Form.{Form}
use Rattle.command_line.specs.declared.command.Form.TheVariants as form
use Rattle.command_line.specs.declared.command.Made.{Made}
use Rattle.command_line.specs.declared.command.Made.TheVariants as made
use Rattle.command_line.specs.declared.command.ProgramCommand.{ProgramCommand}
use Rattle.command_line.specs.declared.command.ProgramCommand.TheVariants as command
use Rattle.command_line.specs.Entries.{has_flag, entered_number}
use Rattle.command_line.specs.Tree.{command_tree}

-- a command: a run on two named files, the ordered one where that is asked, of which the schedule, the report or the looks are written, with at
-- most so many entries; one of the two texts that are made from a number; the report of the ordered run on both of them; or whether a schedule, the
-- third file, is a run on two files
pub data Asked : Type 0 where
  run : Bool → Form → ℕ → List ℕ → List ℕ → Asked
  make : ℕ → ℕ → ℕ → Made → Asked
  load : ℕ → ℕ → ℕ → Asked
  check : Bool → List ℕ → List ℕ → List ℕ → Asked

-- what a command asks for
abbrev pub asked_of : ProgramCommand → Asked
asked_of (command.Run ordered form limit domains work) = run ordered form limit domains.now work.now
asked_of (command.Make seed processors domains text) = make seed processors domains text
asked_of (command.Load seed processors domains) = load seed processors domains
asked_of (command.Check ordered domains work schedule) = check ordered domains.now work.now schedule.now

-- the names of the domain file and of the work file
abbrev pub entered_files : List Row → Option (List ℕ × List ℕ)
entered_files rows = option_and_then (λ domains. option_map (λ work. (domains, work)) (first_of (codes "work") rows)) (first_of (codes "domains") rows)

-- a run on two named files, the ordered one where that is asked
abbrev pub asked_run : Bool → Form → List Row → Option Asked
asked_run ordered form rows =
    option_and_then (λ limit. option_map (λ files. run ordered form limit files.0 files.1) (entered_files rows)) (entered_number 1 4000000 (codes "events") rows)

-- the same, the ordered one where the flag was given
abbrev pub entered_run : Form → List Row → Option Asked
entered_run form rows = asked_run (has_flag (codes "ordered") rows) form rows

-- the numbers that a text is made from: seed, processors and domains
abbrev pub Numbers : Type 0
Numbers = ℕ × (ℕ × ℕ)

abbrev pub entered_numbers : List Row → Option Numbers
entered_numbers rows =
    option_and_then (λ s. option_and_then (λ p. option_map (λ d. (s, (p, d))) (entered_number 1 64 (codes "domains") rows))
    (entered_number 1 64 (codes "processors") rows)) (entered_number 0 2147483647 (codes "seed") rows)

-- the text that the word names
abbrev pub named_text : List ℕ → Option Made
named_text word =
    if bytes_eq word (codes "domains") then Some made.Domains
    else if bytes_eq word (codes "work") then Some made.Work
    else None

abbrev pub entered_make : List Row → Option Asked
entered_make rows =
    option_and_then (λ (n : Numbers). option_map (make n.0 n.1.0 n.1.1) (option_and_then named_text (first_of (codes "text") rows))) (entered_numbers rows)

abbrev pub entered_load : List Row → Option Asked
entered_load rows = option_map (λ (n : Numbers). load n.0 n.1.0 n.1.1) (entered_numbers rows)

abbrev pub entered_check : List Row → Option Asked
entered_check rows =
    option_and_then (λ files. option_map (check (has_flag (codes "ordered") rows) files.0 files.1) (first_of (codes "schedule") rows)) (entered_files rows)

-- the command of this name, with the entries that it has
abbrev pub command_by_name : Text → List Row → Option Asked
command_by_name name rows =
    if bytes_eq name (codes "run") then entered_run form.Schedule rows
    else if bytes_eq name (codes "report") then entered_run form.Report rows
    else if bytes_eq name (codes "watch") then asked_run false form.Watch rows
    else if bytes_eq name (codes "make") then entered_make rows
    else if bytes_eq name (codes "load") then entered_load rows
    else if bytes_eq name (codes "check") then entered_check rows
    else None

abbrev pub entered_command : Option (Text × List Row) → Option Asked
entered_command entered = option_and_then (λ e. command_by_name e.0 e.1) entered

-- the command of what was entered, where nothing refuses the words
abbrev pub unless_refused : Kinds → Option (Text × List Row) → Option Asked
unless_refused [] entered = entered_command entered
unless_refused (kind ∷ kinds) entered = None

-- the command that the words are, where they are one: `clap` finds no fault in them, and the entries of the command that they name make it
unfoldable pub asked_command : List (String Global) → Option Asked
asked_command words = unless_refused (fault_of command_tree (map string_bytes words)) (subcommand_of command_tree (map string_bytes words))

-- a run of which that is written may be the ordered one, or not: a watched one is not
abbrev pub MayBe : Bool → Form → Type 0
MayBe false form = ⊤
MayBe true form.Watch = ⊥
MayBe true form = ⊤

-- the numbers of a command are in their ranges, and a watched run is not the ordered one
abbrev pub IsInRange : ProgramCommand → Type 0
IsInRange (command.Run ordered form limit domains work) = (1 ≤ limit) × (limit ≤ 4000000) × MayBe ordered form
IsInRange (command.Make seed processors domains text) = (seed ≤ 2147483647) × (1 ≤ processors) × (processors ≤ 64) × (1 ≤ domains) × (domains ≤ 64)
IsInRange (command.Load seed processors domains) = (seed ≤ 2147483647) × (1 ≤ processors) × (processors ≤ 64) × (1 ≤ domains) × (domains ≤ 64)
IsInRange (command.Check ordered domains work schedule) = ⊤
