use Rattle.std.proofs.Common.{◌≡◌, take}
use Rattle.std.specs.Prelude.{map}
use Rattle.cpupool.specs.Tool.{domain_entry}
use Rattle.cpupool.proofs.opening.opened_entries.Given as goal

abbrev pub invariant-loop-d : goal.invariant-loop-d
invariant-loop-d l = l.all.items ≡ map domain_entry (take l.d-index l.domains)
