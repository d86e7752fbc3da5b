use Rattle.std.proofs.Common.{◌≡◌, drop}
use Rattle.dom_file.specs.Domains.{has_domain_named}
use Rattle.dom_file.proofs.domain.has_name.Given as goal

abbrev pub invariant-loop-domain : goal.invariant-loop-domain
invariant-loop-domain l = has_domain_named l.domains l.name ≡ has_domain_named (drop l.domain-index l.domains) l.name
