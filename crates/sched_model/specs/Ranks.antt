-- The order of the kinds of event.
use Rattle.std.specs.Prelude.{ℕ}
use Rattle.sched_model.specs.declared.event.Event.{Event}
use Rattle.sched_model.specs.declared.event.Event.TheVariants as event

-- the rank of the event's kind: the order in which a run takes events, and End and Finish behind them
abbrev pub rank : Event → ℕ
rank (event.Stall p until) = 0
rank (event.Xl k answer) = 1
rank (event.Moved r to) = 2
rank (event.DomMoved d to) = 3
rank (event.Wake v) = 4
rank (event.Block p v) = 5
rank (event.Slice r) = 6
rank (event.Repl u start deadline budget extra) = 7
rank (event.Refill d periods budget) = 8
rank (event.Arrive p) = 9
rank (event.Decide r unit due late reset) = 10
rank (event.Leave p v) = 11
rank (event.Save r u queued) = 12
rank (event.End next) = 13
rank event.Finish = 14
