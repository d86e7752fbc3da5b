-- How contracts see a book.
use Rattle.std.specs.Prelude.{◌≡◌, ℕ, ◌<◌, ◌≤◌, List, length, slice_index}
use Rattle.sched_model.specs.declared.event.Entry.{Entry}
use Rattle.sched_model.specs.declared.machine.Machine.{Machine}
use Rattle.sched_model.specs.Runs.{IsRun}
use Rattle.sched_model.specs.declared.config.Config.{Config}
use Rattle.sched_model.specs.declared.work.Work.{Work}
use Rattle.journal_core.specs.Histories.{now_at, decides_at}

-- a book: the input of its run, the history, and the most entries that it may have
pub record Chronicle : Type 0 where
  pub input : Machine
  pub history : List Entry
  pub limit : ℕ

-- the book of these
abbrev pub chronicle : Config → Work → List Entry → ℕ → Chronicle
chronicle config work history limit = record { input = record { config = config; work = work }; history = history; limit = limit }

-- the history is a run of the input and has room up to the limit, and the moment and the counts are those that it leads to
pub record IsKept (c : Chronicle) (capacity now : ℕ) (decides : List ℕ) : Type 0 where
  pub run : IsRun c.input c.history
  pub fits : length c.history ≤ c.limit
  pub room : c.limit ≤ capacity
  pub few : c.limit ≤ 4000000
  pub now_is : now ≡ now_at c.input c.history
  pub cores : length decides ≡ 64
  pub decides_are : (r : ℕ) → r < 64 → slice_index decides r ≡ decides_at c.history r
