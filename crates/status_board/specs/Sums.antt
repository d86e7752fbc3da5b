-- What the board keeps of the entries: of each core the tally of a report, as far as 64 bits hold it.
use Rattle.std.specs.Prelude.{◌≡◌, ℕ, ◌+◌, ◌-◌, ◌<◌, true, List, Option, Some, None, length, slice_index_or, slice_set}
use Rattle.sched_base.specs.Numbers.{span, core as core_number}
use Rattle.sched_base.specs.declared.Moment.{Moment}
use Rattle.sched_base.specs.declared.UnitId.{UnitId}
use Rattle.sched_model.specs.declared.event.Entry.{Entry}
use Rattle.sched_report.specs.declared.choice.CoreChoice.{CoreChoice}
use Rattle.sched_report.specs.declared.tally.CoreTally.{CoreTally}
use Rattle.sched_report.specs.Stays.{last_moment}
use Rattle.sched_report.specs.Tallies.{undecided_core, core_tally, core_tally_after, open_stay_time}
use Rattle.status_board.specs.declared.core_sums.CoreSums.{CoreSums}
use Rattle.status_board.specs.declared.totals.CoreTotals.{CoreTotals}
use Rattle.status_board.specs.Counts.{capped_sum, entry_count}

-- what is kept of the tally
abbrev pub kept_of : CoreTally → CoreSums
kept_of k = record { cur = k.cur; since = k.since; run = capped_sum k.run; decides = capped_sum k.decides }

-- the tally of these sums
abbrev pub tally_in : CoreSums → CoreTally
tally_in s = record { cur = s.cur; since = s.since; run = s.run; decides = s.decides }

-- the choice of the unit, or of none, at the moment
abbrev pub choice_of : Moment → Option UnitId → CoreChoice
choice_of at unit = record { core = core_number 0; at = at; unit = unit; late = span 0 }

-- a core after a choice
abbrev pub sums_after : CoreSums → CoreChoice → CoreSums
sums_after s c = kept_of (core_tally_after (tally_in s) c)

-- a core that has not decided
abbrev pub no_sums : CoreSums
no_sums = kept_of undecided_core

-- the cores after an entry that makes this choice, where it makes one; a core that is not there changes nothing
abbrev pub cores_after : Option CoreChoice → List CoreSums → List CoreSums
cores_after None cores = cores
cores_after (Some c) cores = slice_set cores c.core.0 (sums_after (slice_index_or cores c.core.0 no_sums) c)

-- what a core did up to the last moment
abbrev pub totals_in : ℕ → CoreSums → CoreTotals
totals_in last s =
    let run = capped_sum (s.run + open_stay_time (λ u. true) last (tally_in s)) in
    record { run = span run; idle = span (last - run); decides = s.decides }

-- what is kept is that of these entries
pub record AreSums (entries : List Entry) (count last : ℕ) (cores : List CoreSums) : Type 0 where
  pub count_is : count ≡ entry_count entries
  pub last_is : last ≡ last_moment entries
  pub all : length cores ≡ 64
  pub cores_are : (r : ℕ) → r < 64 → slice_index_or cores r no_sums ≡ kept_of (core_tally entries r)
