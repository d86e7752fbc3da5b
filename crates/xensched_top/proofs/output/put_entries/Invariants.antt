use Rattle.std.proofs.Common.{◌≡◌, length}
use Rattle.xensched_top.proofs.EntryLemmas.{PutUpTo}
use Rattle.xensched_top.proofs.output.put_entries.Given as goal

abbrev pub decreases-loop-entry : goal.decreases-loop-entry
decreases-loop-entry g l = length (g.E.Entries.coming l.entries)

abbrev pub invariant-loop-entry : goal.invariant-loop-entry
invariant-loop-entry g l =
    PutUpTo (g.E.Entries.coming l.fn.entries) (g.E.Entries.coming l.entries) (g.K.Sink.told l.fn.sink) (g.K.Sink.told l.sink) (g.K.Sink.faults l.fn.sink) (g.K.Sink.faults l.sink)
    × (g.E.Entries.ending l.entries ≡ g.E.Entries.ending l.fn.entries)
