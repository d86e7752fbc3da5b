use Rattle.std.proofs.Common.{◌≡◌, take}
use Rattle.std.specs.Prelude.{map, option_map}
use Rattle.cpupool.specs.Tool.{domain_size}
use Rattle.cpupool.proofs.reading.read_domains.Given as goal

abbrev pub invariant-loop-domain : goal.invariant-loop-domain
invariant-loop-domain l = l.sizes ≡ map (option_map domain_size) (take l.domain-index l.domains)
