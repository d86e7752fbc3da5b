use Rattle.std.proofs.Common.{◌≡◌, length}
use Rattle.toml.specs.View.{view}
use Rattle.dom_file.specs.Guests.{script_of}
use Rattle.dom_file.proofs.Each.{Gathers}
use Rattle.dom_file.proofs.guests.scripts.Given as goal

abbrev pub invariant-loop-value : goal.invariant-loop-value
invariant-loop-value l = record {
  value : Gathers script_of view l.values l.value-index l.scripts.items;
  count : length l.scripts.items ≡ l.value-index;
}
