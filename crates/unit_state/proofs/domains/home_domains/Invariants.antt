use Rattle.std.proofs.Common.{◌≡◌, ◌+◌, ◌<◌, ◌^◌, drop}
use Rattle.unit_state.specs.Seen.{domains_from}
use Rattle.unit_state.proofs.domains.home_domains.Given as goal

abbrev pub invariant-loop-d : goal.invariant-loop-d
invariant-loop-d l =
    record {
      so_far : l.set + domains_from l.d (drop l.d l.domains) ≡ domains_from 0 l.domains;
      below : l.set < 2 ^ l.d;
    }
