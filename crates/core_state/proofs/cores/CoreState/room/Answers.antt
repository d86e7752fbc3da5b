use Rattle.core_state.proofs.ChangeLemmas.{seen_is, vacant_kept}
use Rattle.core_state.proofs.Counting.{none_counted}
use Rattle.core_state.proofs.cores.CoreState.room.Goals as goal

pub invariant_of-result : goal.invariant_of-result
invariant_of-result c =
    (vacant_kept c.args.granularity c.args.places c.in_ok-cores.cores c.in_ok-works.works c.in_ok-dues.dues c.requires.granularity c.requires.places c.in_ok-cores.ensures c.in_ok-works.ensures c.in_ok-dues.ensures, none_counted c.args.places c.in_ok-cores.cores c.in_ok-counts.counts c.in_ok-cores.ensures c.in_ok-counts.ensures)

pub returns : goal.returns
returns c = seen_is c.in_ok-cores.ensures c.in_ok-works.ensures
