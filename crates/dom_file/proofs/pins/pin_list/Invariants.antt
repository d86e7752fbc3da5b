use Rattle.std.proofs.Common.{◌≡◌, length}
use Rattle.toml.specs.View.{view}
use Rattle.dom_file.specs.Pins.{pin_of}
use Rattle.dom_file.proofs.Each.{Gathers}
use Rattle.dom_file.proofs.pins.pin_list.Given as goal

abbrev pub invariant-loop-value : goal.invariant-loop-value
invariant-loop-value l = record {
  value : Gathers (pin_of l.head) view l.values l.value-index l.pins;
  count : length l.pins ≡ l.value-index;
}
