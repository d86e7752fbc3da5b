-- The pools and domains that commands name, as the program hands them on.
use Rattle.cpupool.specs.declared.named.NamedPool.{NamedPool}
use Rattle.cpupool.specs.declared.named.NamedDomain.{NamedDomain}
use Rattle.cpupool.specs.Verdicts.{SeenPool, SeenDomain}

abbrev pub seen_named_pool : NamedPool → SeenPool
seen_named_pool x = record { i = x.i.0; pool = x.pool.now }

abbrev pub seen_named_domain : NamedDomain → SeenDomain
seen_named_domain x = record { d = x.d.0; i = x.i.0; pool = x.pool.now; vcpus = x.vcpus }
