use Rattle.std.proofs.Common.{◌≡◌, length}
use Rattle.toml.specs.View.{view}
use Rattle.dom_file.specs.Guests.{span_of}
use Rattle.dom_file.proofs.Each.{Gathers}
use Rattle.dom_file.proofs.guests.spans.Given as goal

abbrev pub invariant-loop-value : goal.invariant-loop-value
invariant-loop-value l = record {
  value : Gathers span_of view l.values l.value-index l.spans.items;
  count : length l.spans.items ≡ l.value-index;
}
