-- What the looks of a run show.
use Rattle.std.specs.Prelude.{◌≡◌, ℕ, suc, ◌<◌, ◌≤◌, ◌^◌, List, Some, length, slice_get, take}
use Rattle.sched_base.specs.Numbers.{moment}
use Rattle.sched_model.specs.declared.event.Entry.{Entry}
use Rattle.sched_report.specs.Stays.{last_moment}
use Rattle.status_board.specs.Counts.{entry_count}
use Rattle.pcpu_watch.specs.declared.looks.Look.{Look}
use Rattle.pcpu_watch.specs.Moments.{ends, moment_of}

-- looks as contracts see them: the looks, and for how many there is room
pub record LookList : Type 0 where
  pub items : List Look
  pub room : ℕ

-- there is room for the looks, which was taken
pub record FitIn (looks : List Look) (room taken : ℕ) : Type 0 where
  pub fit : length looks ≤ room
  pub enough : room ≤ taken
  pub few : room < 2 ^ 32

-- what is seen of these entries: how many they are, and the moment of the last one
abbrev pub look_of : List Entry → Look
look_of entries = record { entries = entry_count entries; moment = moment (last_moment entries) }

-- the look is that of a beginning of the history
pub record ShowsBeginning (history : List Entry) (look : Look) : Type 0 where
  pub inside : look.entries ≤ length history
  pub last : look.moment.0 ≡ last_moment (take look.entries history)

-- a look made in the moment k, from 0: it is that of a beginning of the history that has at least all entries of the moments before the one before k, and
-- at most those of the moments before k
pub record IsLook (history : List Entry) (k : ℕ) (look : Look) : Type 0 where
  pub shows : ShowsBeginning history look
  pub least : (place : ℕ) → place < length history → suc (moment_of history place) < k → place < look.entries
  pub most : (place : ℕ) → place < look.entries → moment_of history place < k

-- look k was made in the moment k
abbrev pub EachIsLook : List Entry → List Look → Type 0
EachIsLook history looks = (k : ℕ) (look : Look) → slice_get looks k ≡ Some look → IsLook history k look

-- there is one look more than moments end with these entries
pub record LooksSoFar (entries : List Entry) (looks : List Look) : Type 0 where
  pub count : length looks ≡ suc (ends entries)
  pub each : EachIsLook entries looks

-- the same of a whole history: one look for each of its moments; and none shows less than the one before it
pub record AreLooks (history : List Entry) (looks : List Look) : Type 0 where
  pub all : LooksSoFar history looks
  pub rise : (k : ℕ) (one next : Look) → slice_get looks k ≡ Some one → slice_get looks (suc k) ≡ Some next → one.entries ≤ next.entries
