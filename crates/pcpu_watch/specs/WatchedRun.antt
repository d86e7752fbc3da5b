-- What a watched run answers.
use Rattle.std.specs.Prelude.{◌≡◌, List}
use Rattle.sched_model.specs.Runs.{IsRun, IsWholeRun}
use Rattle.journal_core.specs.Books.{Chronicle}
use Rattle.pcpu_threads.specs.declared.ends.RunEnd.{RunEnd}
use Rattle.pcpu_threads.specs.declared.ends.RunEnd.TheVariants as run_end
use Rattle.pcpu_threads.specs.Ends.{IsCutOff}
use Rattle.pcpu_watch.specs.declared.ends.WatchEnd.{WatchEnd}
use Rattle.pcpu_watch.specs.declared.ends.WatchEnd.TheVariants as end
use Rattle.pcpu_watch.specs.declared.looks.Look.{Look}
use Rattle.pcpu_watch.specs.Looks.{AreLooks}

-- the end of a run for which no memory was wanted
abbrev pub end_of : RunEnd → WatchEnd
end_of run_end.Finished = end.Finished
end_of run_end.Full = end.Full

-- how it ends: the run is over, or it is cut off where the book is full, and the looks are those of its moments; or memory was wanted
abbrev pub EndsAs : WatchEnd → Chronicle → List Look → Type 0
EndsAs end.Finished book looks = IsWholeRun book.input book.history × AreLooks book.history looks
EndsAs end.Full book looks = IsCutOff book × AreLooks book.history looks
EndsAs end.NoMemory book looks = Unit {0}

-- a watched run of the input with which the hall was opened: the book's history is the beginning of a run, and it ends so
pub record IsWatched (opened book : Chronicle) (how : WatchEnd) (looks : List Look) : Type 0 where
  pub input : book.input ≡ opened.input
  pub limit : book.limit ≡ opened.limit
  pub run : IsRun book.input book.history
  pub ends : EndsAs how book looks
