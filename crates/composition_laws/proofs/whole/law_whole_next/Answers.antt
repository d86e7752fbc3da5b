use Rattle.sched_laws.specs.StateLaws.{state_after}
use Rattle.composition_laws.proofs.WholeNext.{whole_next}
use Rattle.composition_laws.proofs.whole.law_whole_next.Goals as goal

pub returns : goal.returns
returns c m checked entries run nexts due next still pools tool soonest =
    whole_next m checked entries run (λ t later action. c.law_enabled_stays.ensures m (state_after m entries) t later action) nexts due still pools tool next
    (c.law_next_moment.ensures m (state_after m entries) (state_after m entries).now still) soonest
