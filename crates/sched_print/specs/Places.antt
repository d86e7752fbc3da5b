-- Where a line stops to be the text of an entry.
use Rattle.std.specs.Prelude.{◌≡◌, ◌<◌, ◌≤◌, ℕ, List, ◌++◌, length, take}
use Rattle.sched_model.specs.declared.event.Entry.{Entry}
use Rattle.sched_print.specs.Line.{words}
use Rattle.sched_print.specs.Ranges.{IsPrintable}

-- the bytes are the text of the entry, whose numbers are in their ranges
pub record IsText (bytes : List ℕ) (e : Entry) : Type 0 where
  pub printable : IsPrintable e
  pub text : bytes ≡ words e

-- the text of some entry whose numbers are in their ranges begins with the bytes
abbrev pub BeginsText : List ℕ → Type 0
BeginsText front = (e : Entry) × (rest : List ℕ) × IsText (front ++ rest) e

-- the longest beginning of the bytes with which the text of some entry begins has this length
pub record IsPlace (bytes : List ℕ) (place : ℕ) : Type 0 where
  pub inside : place ≤ length bytes
  pub begins : BeginsText (take place bytes)
  pub longest : (k : ℕ) → place < k → k ≤ length bytes → BeginsText (take k bytes) → ⊥
