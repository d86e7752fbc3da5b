-- A board as contracts see it, and the rule that its writer and its readers keep.
use Rattle.std.specs.Prelude.{◌≡◌, ℕ, List, [], nat_lt, if◌then◌else◌}
use mathlib.Core.List.{IsPrefix}
use mathlib.Core.Option.{some}
use lib.ListN.{get_elem?}
use Rattle.sched_model.specs.declared.event.Entry.{Entry}
use Rattle.status_board.specs.Counts.{entry_count}

-- a writer: how many cores its board shows, the entries that it published, and those that it added since
pub record Desk : Type 0 where
  pub cores : ℕ
  pub published : List Entry
  pub pending : List Entry

-- a reader: how many cores its board shows, and the entries whose totals it shows
pub record Watch : Type 0 where
  pub cores : ℕ
  pub seen : List Entry

-- what a writer tells: how many cores its board shows, and the entries that were published
pub record News : Type 0 where
  pub cores : ℕ
  pub list : List Entry

-- a writer that added nothing yet, and a reader that has seen nothing
abbrev pub nothing_written : ℕ → Desk
nothing_written cores = record { cores = cores; published = []; pending = [] }

abbrev pub nothing_seen : ℕ → Watch
nothing_seen cores = record { cores = cores; seen = [] }

-- the longer of two lists, the first where both count the same
abbrev pub longer_list : List Entry → List Entry → List Entry
longer_list seen told = (if nat_lt (entry_count seen) (entry_count told) then told else seen)

-- the rule: what each thread has seen begins the published entries
abbrev pub BeginAll : List Entry → List (List Entry) → Type 0
BeginAll published views = (seat : ℕ) (seen : List Entry) → get_elem? views seat ≡ some seen → IsPrefix seen published

-- a look, and a publish: the entries that are then published are seen, and they continue what was seen
abbrev pub Sees : List Entry → List Entry → List Entry → List Entry → Type 0
Sees seen before published now = IsPrefix seen now × (now ≡ published)
