-- For how long something holds of a machine, as its entries tell it. Entries that came before a moment stand last first.
use Rattle.std.specs.Prelude.{ℕ, ◌+◌, ◌-◌, Bool, true, false, List, [], ◌∷◌, reverse, min, max, if◌then◌else◌}
use Rattle.sched_model.specs.declared.config.Config.{Config}
use Rattle.sched_model.specs.declared.event.Event.{Event}
use Rattle.sched_model.specs.declared.event.Event.TheVariants as event
use Rattle.sched_model.specs.declared.event.Entry.{Entry}
use Rattle.sched_times.specs.declared.range.Range.{Range}

-- how much of the range is over at the moment
abbrev pub over_at : Range → ℕ → ℕ
over_at range t = min t range.until.0 - range.from.0

-- the event is the finish
abbrev pub is_finish : Event → Bool
is_finish event.Finish = true
is_finish _ = false

-- up to which moment the entry tells: the finish up to the horizon, since nothing changes behind it
abbrev pub told_by : ℕ → Entry → ℕ
told_by horizon e = (if is_finish e.event then horizon else e.at.0)

-- up to which moment the entries tell
abbrev pub told_until : ℕ → List Entry → ℕ
told_until horizon [] = 0
told_until horizon (e ∷ before) = max (told_until horizon before) (told_by horizon e)

-- how much of the range is over then
abbrev pub told_of : Range → ℕ → List Entry → ℕ
told_of range horizon before = over_at range (told_until horizon before)

-- for how long within the range the test held of the entries that came before: from each one to the next
abbrev pub time_held : (List Entry → Bool) → Range → ℕ → List Entry → ℕ
time_held test range horizon [] = 0
time_held test range horizon (e ∷ before) =
    time_held test range horizon before
    + (if test before then told_of range horizon (e ∷ before) - told_of range horizon before else 0)

-- the same of the entries of a machine, in order: to the horizon where they are a whole run, else to the last of them
abbrev pub time_while : (List Entry → Bool) → Range → Config → List Entry → ℕ
time_while test range config entries = time_held test range config.horizon.0 (reverse entries)
