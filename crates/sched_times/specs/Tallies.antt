-- What is kept between entries: of each core and processor, and of each unit and vCPU.
use Rattle.std.specs.Prelude.{◌≡◌, ◌≤◌, ◌<◌, ◌+◌, ◌-◌, ℕ, Bool, false, not, ◌&&◌, List, Option, Some, None, reverse, length, slice_index_or, slice_set, is_some, if◌then◌else◌}
use Rattle.sched_model.specs.declared.config.Config.{Config}
use Rattle.sched_model.specs.declared.event.Event.{Event}
use Rattle.sched_model.specs.declared.event.Entry.{Entry}
use Rattle.sched_model.specs.CheckedMachine.{IsGranularity}
use Rattle.sched_times.specs.declared.range.Range.{Range}
use Rattle.sched_times.specs.declared.grant.Grant.{Grant}
use Rattle.sched_times.specs.declared.grant.Sleep.{Sleep}
use Rattle.sched_times.specs.declared.tally.ResourceTally.{ResourceTally}
use Rattle.sched_times.specs.declared.tally.UserTally.{UserTally}
use Rattle.sched_times.specs.Times.{told_until, told_of, time_held}
use Rattle.sched_times.specs.Present.{Rule, is_number, user_of, held_by, is_asleep, runs, waits, is_used, core_grant, processor_grant, sleep_of, no_sleep, is_idle}

-- a core or processor that was given to nobody
abbrev pub unused : ResourceTally
unused = record { user = None; since = 0; used = 0 }

-- a unit or vCPU at the beginning: it is awake and has nothing
abbrev pub awake : UserTally
awake = record { has = None; asleep = false; since = 0; runs = 0; waits = 0 }

abbrev pub resource_at : List ResourceTally → ℕ → ResourceTally
resource_at resources r = slice_index_or resources r unused

abbrev pub user_at : List UserTally → ℕ → UserTally
user_at users k = slice_index_or users k awake

-- the time that the tally of a core or processor has not counted yet, where it has a user
abbrev pub open_use : ℕ → ResourceTally → ℕ
open_use now t = (if is_some t.user then now - t.since else 0)

-- the same of a unit or vCPU, where it runs, and where it waits
abbrev pub open_run : ℕ → UserTally → ℕ
open_run now t = (if is_some t.has then now - t.since else 0)

abbrev pub open_wait : ℕ → UserTally → ℕ
open_wait now t = (if not (is_some t.has) && not t.asleep then now - t.since else 0)

-- a core or processor that is given to this user
abbrev pub given_to : Option ℕ → ℕ → ResourceTally → ResourceTally
given_to user now t = record { user = user; since = now; used = t.used + open_use now t }

-- all is counted up to now
abbrev pub settled : ℕ → UserTally → UserTally
settled now t = record { has = t.has; asleep = t.asleep; since = now; runs = t.runs + open_run now t; waits = t.waits + open_wait now t }

-- a unit or vCPU has this from now on
abbrev pub having : Option ℕ → ℕ → UserTally → UserTally
having has now t = record (settled now t) { has = has }

-- it sleeps from now on, or is awake
abbrev pub sleeping : Bool → ℕ → UserTally → UserTally
sleeping asleep now t = record (settled now t) { asleep = asleep }

-- the tally of the user with this number changed, where it is one
abbrev pub changed_at : Option ℕ → (UserTally → UserTally) → List UserTally → List UserTally
changed_at None f users = users
changed_at (Some k) f users = slice_set users k (f (user_at users k))

-- the user that loses what is given
abbrev pub loser : Grant → Option ℕ → List UserTally → Option ℕ
loser g None users = None
loser g (Some k) users = (if is_number (user_at users k).has g.on then Some k else None)

-- the cores or processors after something was given
abbrev pub resources_given : Grant → ℕ → List ResourceTally → List ResourceTally
resources_given g now resources = slice_set resources g.on (given_to g.to now (resource_at resources g.on))

-- and their users
abbrev pub users_given : Grant → ℕ → List ResourceTally → List UserTally → List UserTally
users_given g now resources users =
    changed_at g.to (having (Some g.on) now) (changed_at (loser g (resource_at resources g.on).user users) (having None now) users)

-- the same, where something was given
abbrev pub resources_with : Option Grant → ℕ → List ResourceTally → List ResourceTally
resources_with None now resources = resources
resources_with (Some g) now resources = resources_given g now resources

abbrev pub users_with : Option Grant → ℕ → List ResourceTally → List UserTally → List UserTally
users_with None now resources users = users
users_with (Some g) now resources users = users_given g now resources users

-- the users after a sleep began or ended
abbrev pub users_slept : Option Sleep → ℕ → List UserTally → List UserTally
users_slept None now users = users
users_slept (Some s) now users = changed_at s.who (sleeping s.asleep now) users

-- the sums of a tally are those of the time that it has counted
pub record ResourceWithin (now : ℕ) (t : ResourceTally) : Type 0 where
  pub since : t.since ≤ now
  pub sums : t.used ≤ t.since

pub record UserWithin (now : ℕ) (t : UserTally) : Type 0 where
  pub since : t.since ≤ now
  pub sums : t.runs + t.waits ≤ t.since

abbrev pub ResourcesWithin : ℕ → List ResourceTally → Type 0
ResourcesWithin now resources = (r : ℕ) → ResourceWithin now (resource_at resources r)

abbrev pub UsersWithin : ℕ → List UserTally → Type 0
UsersWithin now users = (k : ℕ) → UserWithin now (user_at users k)

-- the tally of a core or processor is that of the entries
pub record IsResource (rule : Rule) (range : Range) (horizon : ℕ) (before : List Entry) (r : ℕ) (t : ResourceTally) : Type 0 where
  pub user : t.user ≡ user_of rule r before
  pub used : t.used + open_use (told_of range horizon before) t ≡ time_held (is_used rule r) range horizon before

-- the tally of a unit or vCPU is that of the entries
pub record IsUser (rule : Rule) (sleep : Event → Option Sleep) (range : Range) (horizon : ℕ) (before : List Entry) (k : ℕ) (t : UserTally) : Type 0 where
  pub has : t.has ≡ held_by rule k before
  pub asleep : t.asleep ≡ is_asleep sleep k before
  pub runs : t.runs + open_run (told_of range horizon before) t ≡ time_held (runs rule k) range horizon before
  pub waits : t.waits + open_wait (told_of range horizon before) t ≡ time_held (waits rule sleep k) range horizon before

-- all of them are
pub record AreTallies (rule : Rule) (sleep : Event → Option Sleep) (range : Range) (horizon : ℕ) (before : List Entry) (resources : List ResourceTally) (users : List UserTally) : Type 0 where
  pub many_resources : length resources ≡ 256
  pub many_users : length users ≡ 2048
  pub resources_within : ResourcesWithin (told_of range horizon before) resources
  pub users_within : UsersWithin (told_of range horizon before) users
  pub resources_are : (r : ℕ) → r < 256 → IsResource rule range horizon before r (resource_at resources r)
  pub users_are : (k : ℕ) → k < 2048 → IsUser rule sleep range horizon before k (user_at users k)

-- what is kept is the tally of the entries
pub record IsTally (config : Config) (range : Range) (entries : List Entry) (granularity horizon until : ℕ) (cores : List ResourceTally) (units : List UserTally) (processors : List ResourceTally) (vcpus : List UserTally) (idle : List Bool) : Type 0 where
  pub granularity_is : granularity ≡ config.granularity
  pub is_granularity : IsGranularity granularity
  pub horizon_is : horizon ≡ config.horizon.0
  pub until_is : until ≡ told_until horizon (reverse entries)
  pub of_cores : AreTallies core_grant no_sleep range horizon (reverse entries) cores units
  pub of_processors : AreTallies (processor_grant granularity) sleep_of range horizon (reverse entries) processors vcpus
  pub many_idle : length idle ≡ 256
  pub idle_is : (p : ℕ) → slice_index_or idle p false ≡ is_idle p (reverse entries)
