-- What a core that moves leaves.
use Rattle.std.proofs.Common.{◌≡◌, ℕ, List, length, arith}
use Rattle.std.specs.Prelude.{Option}
use Rattle.sched_model.specs.declared.state.Resource.{Resource}
use Rattle.sched_model.specs.declared.state.Pool.{Pool}
use Rattle.sched_plain.specs.Fits.{PoolFitsAt}

-- as many places for cores keep the numbers of a pool in range
pub resources-fit : (t : ℕ) (pool : Pool) (cores : List (Option Resource)) → length cores ≡ length pool.resources → PoolFitsAt t pool → PoolFitsAt t (record pool { resources = cores })
resources-fit t pool cores same fits = record {
  fits = record { cores = (let few = fits.fits.cores in omega (arith, same, few)); few_domains = fits.fits.few_domains; domains = fits.fits.domains };
  records = fits.records;
  queue = fits.queue;
}
