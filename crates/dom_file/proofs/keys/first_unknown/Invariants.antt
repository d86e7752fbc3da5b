use Rattle.std.proofs.Common.{◌≡◌, map, not, string_bytes}
use Rattle.std.specs.Prelude.{find}
use Rattle.toml.specs.View.{table_view}
use Rattle.dom_file.specs.Keys.{first_unlisted_key, is_listed_key}
use Rattle.dom_file.proofs.keys.first_unknown.Given as goal

-- the first unknown key is the first unknown one of those that are left
abbrev pub invariant-loop-key : goal.invariant-loop-key
invariant-loop-key l =
    let keys = map (λ k. k.now) l.keys in
    first_unlisted_key keys (table_view l.table) ≡ find (λ key. not (is_listed_key keys key)) (map string_bytes l.key-iterator)
