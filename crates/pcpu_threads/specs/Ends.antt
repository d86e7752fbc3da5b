-- How a run ends, and what a turn of the whole machine makes of the history that a seat has seen.
use Rattle.std.specs.Prelude.{◌≡◌, List, length, Option, Some, None, Result, Ok, Err}
use mathlib.Core.List.{IsPrefix}
use Rattle.sched_model.specs.declared.event.Entry.{Entry}
use Rattle.sched_model.specs.Runs.{IsNext, IsRun, IsWholeRun}
use Rattle.run_laws.specs.RunLaws.{IsOrderedRun}
use Rattle.journal_core.specs.Books.{Chronicle}
use Rattle.journal_core.specs.Histories.{reached_by}
use Rattle.lock_moves.specs.SeatSight.{Seen}
use Rattle.hall.specs.declared.turns.Full.{Full}
use Rattle.hall.specs.declared.turns.Turn.{Turn}
use Rattle.hall.specs.declared.turns.Turn.TheVariants as turn
use Rattle.hall.specs.Seats.{Seated, Stays}
use Rattle.pcpu_threads.specs.declared.ends.RunEnd.{RunEnd}
use Rattle.pcpu_threads.specs.declared.ends.RunEnd.TheVariants as run_end

-- how an answer of `close_or_step` ends the run, or none where the run goes on
abbrev pub run_end_after : Result Turn Full → Option RunEnd
run_end_after (Ok (turn.Stepped place e)) = None
run_end_after (Ok (turn.Closed place next)) = None
run_end_after (Ok (turn.Finished place)) = Some run_end.Finished
run_end_after (Ok (turn.Over place)) = Some run_end.Finished
run_end_after (Err full) = Some run_end.Full

-- the book is full, and a further entry may come next
pub record IsCutOff (b : Chronicle) : Type 0 where
  pub full : length b.history ≡ b.limit
  pub due : (e : Entry) × IsNext b.input (reached_by b.input b.history) e

-- what the end of a run says of its book
pub record IsEnded (end : RunEnd) (b : Chronicle) : Type 0 where
  pub run : IsRun b.input b.history
  pub finished : end ≡ run_end.Finished → IsWholeRun b.input b.history
  pub full : end ≡ run_end.Full → IsCutOff b

-- the book as far as a seat has seen it
abbrev pub book_seen : Seen → Chronicle
book_seen v = record { input = v.input; history = v.front; limit = v.limit }

-- the seat has gone on with the history; where it has all parts, an ordered run stays one
pub record Closes (old new : Seated) : Type 0 where
  pub stays : Stays old new
  pub begins : IsPrefix old.sitting.view.front new.sitting.view.front
  pub ordered : old.sitting.view.shares ≡ 1024 → IsOrderedRun old.sitting.view.input old.sitting.view.front → IsOrderedRun new.sitting.view.input new.sitting.view.front

-- where the history h is an ordered run, so is the whole one of the book
abbrev pub KeepsOrder : List Entry → Chronicle → Type 0
KeepsOrder h b = IsOrderedRun b.input h → IsOrderedRun b.input b.history
