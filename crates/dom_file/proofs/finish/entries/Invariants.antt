use Rattle.std.proofs.Common.{◌≡◌, length}
use Rattle.dom_file.specs.Finish.{entry_of}
use Rattle.dom_file.proofs.Each.{Collects}
use Rattle.dom_file.proofs.finish.entries.Given as goal

abbrev pub invariant-loop-draft : goal.invariant-loop-draft
invariant-loop-draft l = record {
  value : Collects (entry_of l.granularity l.domains) l.drafts l.draft-index l.entries;
  count : length l.entries ≡ l.draft-index;
}
