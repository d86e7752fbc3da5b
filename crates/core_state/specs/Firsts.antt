-- The first of moments by number that has come, and the least of moments.
use Rattle.std.specs.Prelude.{ℕ, ◌≡◌, ◌<◌, ◌≤◌, nat_le, true, false, Option, Some, None, if◌then◌else◌, option_map}
use Rattle.sched_base.specs.declared.Moment.{Moment}
use Rattle.sched_base.specs.Numbers.{core, processor, has_moment_come}
use Rattle.sched_base.specs.declared.ResId.{ResId}
use Rattle.sched_base.specs.declared.ProcId.{ProcId}

-- the number of a core, and of a processor, where there is one
abbrev pub number_of_core : Option ResId → Option ℕ
number_of_core first = option_map (λ (r : ResId). r.0) first

abbrev pub number_of_processor : Option ProcId → Option ℕ
number_of_processor first = option_map (λ (p : ProcId). p.0) first

-- the least number whose moment has come at t; none where none has
abbrev pub IsFirstCome : (ℕ → Option Moment) → ℕ → Option ℕ → Type 0
IsFirstCome ends t None = (i : ℕ) → has_moment_come t (ends i) ≡ false
IsFirstCome ends t (Some i) = (has_moment_come t (ends i) ≡ true) × ((j : ℕ) → j < i → has_moment_come t (ends j) ≡ false)

-- the same of moments by core, and by processor
abbrev pub IsFirstCore : (ResId → Option Moment) → ℕ → Option ResId → Type 0
IsFirstCore ends t first = IsFirstCome (λ (n : ℕ). ends (core n)) t (number_of_core first)

abbrev pub IsFirstProcessor : (ProcId → Option Moment) → ℕ → Option ProcId → Type 0
IsFirstProcessor ends t first = IsFirstCome (λ (n : ℕ). ends (processor n)) t (number_of_processor first)

-- a moment that is no later than another, if there is another
abbrev pub IsNotLater : Option Moment → Option Moment → Type 0
IsNotLater None None = Unit {0}
IsNotLater None (Some b) = ⊥
IsNotLater (Some a) None = Unit {0}
IsNotLater (Some a) (Some b) = a.0 ≤ b.0

-- one of these moments that is no later than any of them; none where there are none
pub record IsLeast {X : Type 0} (ends : X → Option Moment) (at : Option Moment) : Type 0 where
  pub first : (x : X) → IsNotLater at (ends x)
  pub one : (m : Moment) → at ≡ Some m → (x : X) × (ends x ≡ Some m)

-- the earlier of two moments
abbrev pub earlier_of_both : Option Moment → Option Moment → Option Moment
earlier_of_both None b = b
earlier_of_both (Some a) None = Some a
earlier_of_both (Some a) (Some b) = (if nat_le a.0 b.0 then Some a else Some b)
