use Rattle.std.proofs.Common.{◌≡◌, ◌+◌, ◌<◌, ◌^◌, drop}
use Rattle.cpupool.specs.Verdicts.{flags_from}
use Rattle.cpupool.proofs.pools.set_of.Given as goal

abbrev pub invariant-loop-r : goal.invariant-loop-r
invariant-loop-r l =
    record {
      so_far : l.set + flags_from l.r (drop l.r l.cores) ≡ flags_from 0 l.cores;
      below : l.set < 2 ^ l.r;
    }
