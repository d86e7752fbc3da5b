-- What the entries of a command hold.
use Rattle.std.specs.Prelude.{ℕ, ◌&&◌, Bool, false, List, Option, Some, None, bytes_eq, codes, nat_le, option_and_then, if◌then◌else◌}
use Rattle.std.specs.Option.{option_map_or}
use Rattle.std.specs.Str.Parse.{digits_value, without_leading_plus}
use Rattle.clap.specs.ValueTests.{is_numeral}
use Rattle.clap.specs.Words.{Row, Text, one_of}

-- the flag was given
unfoldable pub has_flag : Text → List Row → Bool
has_flag id rows = option_map_or (λ text. bytes_eq text (codes "true")) (one_of id rows) false

-- the number, where it is one from low to high
abbrev pub ranged_number : ℕ → ℕ → ℕ → Option ℕ
ranged_number low high n = if nat_le low n && nat_le n high then Some n else None

-- the number that the text writes, where it is one from low to high: decimal digits, with a plus before them or none
abbrev pub number_of : ℕ → ℕ → Text → Option ℕ
number_of low high text =
    if is_numeral (without_leading_plus text) then ranged_number low high (digits_value 10 (without_leading_plus text)) else None

-- the number of an entry, where it is one from low to high
unfoldable pub entered_number : ℕ → ℕ → Text → List Row → Option ℕ
entered_number low high id rows = option_and_then (number_of low high) (one_of id rows)
