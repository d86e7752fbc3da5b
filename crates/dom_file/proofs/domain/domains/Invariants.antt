use Rattle.std.proofs.Common.{◌≡◌, ◌≤◌, [], drop, length, map}
use Rattle.std.specs.List.{All}
use Rattle.toml.specs.View.{table_view}
use Rattle.dom_file.specs.Domains.{domains_in}
use Rattle.dom_file.proofs.domain.domains.Given as goal

-- the domains so far, and those of the tables that are left, are those of all tables
abbrev pub invariant-loop-table : goal.invariant-loop-table
invariant-loop-table l = record {
  value : domains_in l.head l.pools [] (map (λ t. table_view t.now) l.tables) ≡ domains_in l.head l.pools l.domains.items (map (λ t. table_view t.now) (drop l.table-index l.tables));
  count : length l.domains.items ≡ l.table-index;
  guests : All (λ d. length d.guests ≤ 32) l.domains.items;
}
