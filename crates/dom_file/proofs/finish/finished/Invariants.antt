use Rattle.std.proofs.Common.{◌≡◌, [], drop, length}
use Rattle.dom_file.specs.Finish.{finished_pools}
use Rattle.dom_file.proofs.finish.finished.Given as goal

-- the pools so far, and those of the drafts that are left, are those of all drafts
abbrev pub invariant-loop-draft : goal.invariant-loop-draft
invariant-loop-draft l = record {
  value : finished_pools l.granularity l.domains [] l.drafts ≡ finished_pools l.granularity l.domains l.pools.items (drop l.draft-index l.drafts);
  count : length l.pools.items ≡ l.draft-index;
}
