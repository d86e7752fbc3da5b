use Rattle.xensched_top.proofs.ScheduleLemmas.{ends-schedule, fills-schedule}
use Rattle.xensched_top.proofs.laws.law_ordered_entries.Goals as goal

pub returns-clause-ends : goal.returns-clause-ends
returns-clause-ends c limit m entries h = ends-schedule limit m entries h

pub returns-clause-fills : goal.returns-clause-fills
returns-clause-fills c limit m entries h = fills-schedule limit m entries h
