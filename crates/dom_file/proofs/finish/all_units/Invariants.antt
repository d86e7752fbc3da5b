use Rattle.std.proofs.Common.{◌≡◌, ◌≤◌, ◌*◌, take}
use Rattle.dom_file.specs.Finish.{total_units}
use Rattle.dom_file.proofs.finish.all_units.Given as goal

abbrev pub invariant-loop-domain : goal.invariant-loop-domain
invariant-loop-domain l = record {
  units : l.units ≡ total_units l.granularity (take l.domain-index l.domains);
  bound : l.units ≤ l.domain-index * 32;
}
