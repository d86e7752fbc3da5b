use Rattle.std.proofs.Common.{ap, sym, ◌∙◌}
use Rattle.xensched_top.specs.Entries.{Coming}
use Rattle.xensched_top.proofs.EntryLemmas.{recorded_next}
use Rattle.xensched_top.proofs.entries.RecordedEntriesEntries.next.Goals as goal

pub returns-clause-some : goal.returns-clause-some
returns-clause-some c = ap (λ (v : Coming). v.entries) (sym c.self.view_is) ∙ recorded_next c.self.inside.book.history c.self.inside.place c.get-entry.result c.get-entry.ensures
