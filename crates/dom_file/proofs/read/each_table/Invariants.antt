use Rattle.std.proofs.Common.{◌≡◌, length, map}
use Rattle.toml.specs.View.{view, table_view}
use Rattle.dom_file.specs.Values.{table_of}
use Rattle.dom_file.proofs.Each.{Gathers}
use Rattle.dom_file.proofs.read.each_table.Given as goal

abbrev pub invariant-loop-value : goal.invariant-loop-value
invariant-loop-value l = record {
  value : Gathers table_of view l.values l.value-index (map (λ t. table_view t.now) l.tables.items);
  count : length l.tables.items ≡ l.value-index;
}
