-- The entries that a report was told.
use Rattle.std.specs.Prelude.{List, [], ◌∷◌, ◌++◌}
use Rattle.sched_model.specs.declared.config.Config.{Config}
use Rattle.sched_model.specs.declared.event.Entry.{Entry}
use Rattle.sched_report.specs.declared.past.Last.{Last}
use Rattle.sched_report.specs.declared.past.Last.TheVariants.{Nothing, After}

-- all of them
abbrev pub entries_of : Last → List Entry
entries_of Nothing = []
entries_of (After before e) = before.value ++ e ∷ []

-- how contracts see a report: the config of the machine, and the entries that were added
pub record Told : Type 0 where
  pub config : Config
  pub entries : List Entry

-- these
abbrev pub told_entries : Config → List Entry → Told
told_entries config entries = record { config = config; entries = entries }
