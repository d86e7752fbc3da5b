-- Names, as lists of bytes.
use Rattle.std.specs.Prelude.{ℕ, ◌≤◌, ◌==◌, ◌&&◌, ◌||◌, Bool, false, List, [], ◌∷◌, length, nat_le}
use Rattle.std.specs.List.{list_all}

-- a name has 1 to 32 bytes
pub record IsNameLength (bytes : List ℕ) : Type 0 where
  pub some : 1 ≤ length bytes
  pub most : length bytes ≤ 32

-- an ASCII letter
abbrev pub is_ascii_letter : ℕ → Bool
is_ascii_letter b = nat_le 65 b && nat_le b 90 || nat_le 97 b && nat_le b 122

-- a letter, a digit, a hyphen or an underscore
abbrev pub is_byte_of_name : ℕ → Bool
is_byte_of_name b = is_ascii_letter b || nat_le 48 b && nat_le b 57 || b == 45 || b == 95

-- a name in a file or a command: a letter, and up to 31 letters, digits, hyphens and underscores
abbrev pub is_valid_name : List ℕ → Bool
is_valid_name [] = false
is_valid_name (b ∷ bytes) = is_ascii_letter b && nat_le (length bytes) 31 && list_all is_byte_of_name bytes
