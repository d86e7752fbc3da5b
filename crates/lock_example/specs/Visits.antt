-- What a visit of a lock leaves.
use Rattle.std.specs.Prelude.{◌≡◌, ℕ, true, List, []}
use Rattle.lock_moves.specs.declared.content.NameId.{NameId}
use Rattle.lock_moves.specs.Words.{has_name}
use Rattle.lock_moves.specs.SeatSight.{Sitting, after_search}
use Rattle.lock_moves.specs.Sets.{LockTable, sitting_with}

-- the seat is of the set and holds nothing, and the input has the name
pub record CanVisit (set : LockTable) (name : NameId) (s : Sitting) : Type 0 where
  pub table : s.table ≡ set.table
  pub nothing : s.view.held ≡ []
  pub has : has_name s.view.input name ≡ true

-- the seat holds nothing and has all that it had, but for the tries that were refused and the moment
abbrev pub IsBack : Sitting → Sitting → Type 0
IsBack old new = (refused : List ℕ) × (t : ℕ) × (new ≡ sitting_with old (after_search refused t old.view))
