-- Names with bytes.
use Rattle.std.specs.Prelude.{ℕ, Bool, true, List, [], length, Option, None, Some, nat_lt, bytes_eq, unwrap_or}
use Rattle.std.specs.Map.{lookup}

-- what a name holds, or None where it is not there
abbrev pub bytes_under : List ℕ → List (List ℕ × List ℕ) → Option (List ℕ)
bytes_under name files = lookup (bytes_eq name) files

-- what a name holds, where one that was never set holds no byte
abbrev pub bytes_if_set : List ℕ → List (List ℕ × List ℕ) → List ℕ
bytes_if_set name files = unwrap_or (bytes_under name files) []

-- the most bytes that one read gives
abbrev pub most_bytes : ℕ
most_bytes = 536870912

-- the name is not there, or holds more than one read gives
abbrev pub is_unreadable : Option (List ℕ) → Bool
is_unreadable None = true
is_unreadable (Some bytes) = nat_lt most_bytes (length bytes)

-- bytes that are not told
abbrev pub untold_bytes : Option (List ℕ)
untold_bytes = None
