use Rattle.std.proofs.Common.{◌≡◌, drop}
use Rattle.dom_file.specs.Domains.{named_pool_number}
use Rattle.dom_file.proofs.domain.place_named.Given as goal

abbrev pub invariant-loop-i : goal.invariant-loop-i
invariant-loop-i l = named_pool_number 0 l.pools l.name ≡ named_pool_number l.i (drop l.i l.pools) l.name
