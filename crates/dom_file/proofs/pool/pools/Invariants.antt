use Rattle.std.proofs.Common.{◌≡◌, [], drop, length, map}
use Rattle.toml.specs.View.{table_view}
use Rattle.dom_file.specs.Pools.{pools_in}
use Rattle.dom_file.proofs.pool.pools.Given as goal

-- the pools so far, and those of the tables that are left, are those of all tables
abbrev pub invariant-loop-table : goal.invariant-loop-table
invariant-loop-table l = record {
  value : pools_in l.head [] (map (λ t. table_view t.now) l.tables) ≡ pools_in l.head l.pools.items (map (λ t. table_view t.now) (drop l.table-index l.tables));
  count : length l.pools.items ≡ l.table-index;
}
