-- Which cores of a pool are to decide anew.
use Rattle.std.specs.Prelude.{ℕ, ◌≡◌, ◌≤◌, ◌&&◌, not, Bool, false, Option, Some, None, MatchBool}
use Rattle.sched_base.specs.Numbers.{core}
use Rattle.sched_base.specs.declared.ResId.{ResId}
use Rattle.sched_base.specs.declared.Moment.{Moment}
use Rattle.sched_base.specs.declared.UnitId.{UnitId}
use Rattle.sched_model.specs.declared.state.Resource.{Resource}
use Rattle.sched_model.specs.declared.state.Scheduler.{Scheduler}
use Rattle.settle_laws.specs.Wanted.{is_wanted}
use Rattle.sched_ops.specs.Conditions.{IsOwnOf}

-- the core may ask its scheduler at t: its unit is one of the scheduler's that is on, since a moment that has come
pub record MayAsk (t : ℕ) (scheduler : Scheduler) (c : Resource) : Type 0 where
  pub own : IsOwnOf scheduler c.cur
  pub since : c.since.0 ≤ t

-- whether the core becomes pending
abbrev pub is_core_wanted : ℕ → ℕ → Scheduler → ℕ → Option Resource → Bool
is_core_wanted t home scheduler r None = false
is_core_wanted t home scheduler r (Some c) = is_wanted t home scheduler r c

-- a core is asked where it is neither leaving nor pending
abbrev pub is_asked : Resource → Bool
is_asked c = not c.leaving && not c.pending

-- yes where something stands at the place r, is asked, and that is the answer to its number, its own unit and its moment; and else no
abbrev pub IsAnswer : (ResId → Option UnitId → Moment → Bool → Type 0) → ℕ → Option Resource → Bool → Type 0
IsAnswer answers r None b = b ≡ false
IsAnswer answers r (Some c) b = MatchBool (is_asked c) (answers (core r) c.cur c.since b) (b ≡ false)
