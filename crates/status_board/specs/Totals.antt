-- The totals of a list of entries: of each core what a report of these entries says, as far as 64 bits hold it.
use Rattle.std.specs.Prelude.{ℕ, ◌-◌, List, map}
use Rattle.sched_base.specs.Numbers.{moment, span}
use Rattle.sched_model.specs.declared.event.Entry.{Entry}
use Rattle.sched_model.specs.Places.{numbers_from}
use Rattle.sched_report.specs.declared.line.CoreLine.{CoreLine}
use Rattle.sched_report.specs.Reports.{line_of_core}
use Rattle.sched_report.specs.Stays.{last_moment}
use Rattle.status_board.specs.declared.totals.Totals.{Totals}
use Rattle.status_board.specs.declared.totals.CoreTotals.{CoreTotals}
use Rattle.status_board.specs.Counts.{capped_sum, entry_count}

-- a core whose line in the report this is: the time of the stays on it, the rest of the time up to the last moment, and the number
-- of its decisions
abbrev pub of_line : ℕ → CoreLine → CoreTotals
of_line last line = record { run = span (capped_sum line.run); idle = span (last - capped_sum line.run); decides = capped_sum line.decides }

-- the totals of the core r
abbrev pub totals_of_core : List Entry → ℕ → CoreTotals
totals_of_core entries r = of_line (last_moment entries) (line_of_core entries r)

-- the totals of the entries on a board of so many cores: how many entries, the moment of the last one, 0 where there is none, and
-- what each core did; an entry of another core counts as an entry alone
abbrev pub totals_of : ℕ → List Entry → Totals
totals_of cores entries =
    record {
      entries = entry_count entries;
      moment = moment (last_moment entries);
      cores = record { items = map (totals_of_core entries) (numbers_from 0 cores) };
    }
