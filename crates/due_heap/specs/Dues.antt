-- The dues of a heap: for each id in turn its moment, where it is armed.
use Rattle.std.specs.Prelude.{ℕ, ◌≤◌, ◌≡◌, ◌^◌, Option, Some, None, List, slice_index_or}
use Rattle.sched_base.specs.declared.Moment.{Moment}

-- the moment at which an id is due, or none where it is not armed
abbrev pub armed_moment : List (Option Moment) → ℕ → Option Moment
armed_moment dues id = slice_index_or dues id None

-- the id is armed with that moment
abbrev pub IsArmed : List (Option Moment) → ℕ → Moment → Type 0
IsArmed dues id at = armed_moment dues id ≡ Some at

-- an id that is due at one moment goes before another that is due at the other moment, or is the same
pub record GoesFirst (at : Moment) (id : ℕ) (other : Moment) (other_id : ℕ) : Type 0 where
  pub by_moment : at.0 ≤ other.0
  pub then_by_id : at.0 ≡ other.0 → id ≤ other_id

-- the id is armed with a moment that has come at t
pub record HasCome (dues : List (Option Moment)) (t id : ℕ) : Type 0 where
  pub at : Moment
  pub armed : IsArmed dues id at
  pub come : at.0 ≤ t

-- the number is a power of two
pub record IsPowerOfTwo (n : ℕ) : Type 0 where
  pub exponent : ℕ
  pub is : n ≡ 2 ^ exponent

-- no id is due before the moment t
abbrev pub NoneBefore : ℕ → List (Option Moment) → Type 0
NoneBefore t dues = (id : ℕ) (at : Moment) → IsArmed dues id at → t ≤ at.0
