-- What the place of a fault in a command's words is.
use Rattle.std.specs.Prelude.{◌≡◌, ◌+◌, ◌<◌, ◌≤◌, ℕ, List, ◌++◌, Ok, Err, length, take}
use Rattle.sched_model.specs.declared.command.Command.{Command}
use Rattle.sched_model.specs.declared.command.Syntax.{Syntax}
use Rattle.xl_words.specs.Grammar.{reading}

-- the words begin the words of some command
abbrev pub Begins : List (List ℕ) → Type 0
Begins words = (more : List (List ℕ)) × (command : Command) × (reading (words ++ more) ≡ Ok command)

-- the place is the count of the words that still begin a command: with one word more, no command's words go on
pub record IsFurthest (words : List (List ℕ)) (place : ℕ) : Type 0 where
  pub within : place ≤ length words
  pub begins : Begins (take place words)
  pub stops : place < length words → Begins (take (place + 1) words) → ⊥

-- words that are no command have this place
abbrev pub PlacesAreFurthest : Type 0
PlacesAreFurthest = (words : List (List ℕ)) (fault : Syntax) → reading words ≡ Err fault → IsFurthest words fault.place
