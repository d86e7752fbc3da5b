use Rattle.policy_laws.proofs.Kept as kept
use Rattle.policy_laws.proofs.pools.law_pool_kept.Goals as goal

pub returns : goal.returns
returns c =
    record {
      later = kept.later;
      settles = kept.settles;
      acts = kept.acts;
      stalls = λ g t. kept.stalls g t;
      leaves = λ g t. kept.leaves g t;
      moves = λ g t. kept.moves g t;
      pauses = λ g t. kept.pauses g t;
      unpauses = λ g t. kept.unpauses g t;
      changes = kept.changes;
      core_comes = λ g t. kept.core_comes g t;
      core_goes = λ g t. kept.core_goes g t;
      domain_comes = λ g t. kept.domain_comes g t;
      domain_goes = λ g t. kept.domain_goes g t;
      opened = λ g t. kept.opened g t;
    }
