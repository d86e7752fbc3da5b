use Rattle.std.proofs.Common.{◌≡◌, ◌++◌, length}
use Rattle.xensched_top.proofs.output.add_entries.Given as goal

abbrev pub decreases-loop-entry : goal.decreases-loop-entry
decreases-loop-entry g l = length (g.E.Entries.coming l.entries)

abbrev pub invariant-loop-entry : goal.invariant-loop-entry
invariant-loop-entry g l =
    (g.E.Entries.coming l.fn.entries ≡ l.report.entries ++ g.E.Entries.coming l.entries) × (l.report.config ≡ l.fn.report.config) × (g.E.Entries.ending l.entries ≡ g.E.Entries.ending l.fn.entries)
