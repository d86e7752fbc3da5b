-- The keys that a table has and is not to have.
use Rattle.std.specs.Prelude.{ℕ, Bool, not, List, [], ◌∷◌, Option, Some, None, find, Result, Ok, Err, ⊤}
use Rattle.std.specs.List.{list_any}
use Rattle.std.specs.Str.{bytes_eq}
use Rattle.toml.specs.Data.{Members, no_members, member}
use Rattle.dom_file.specs.declared.fault.TableName.{TableName}
use Rattle.dom_file.specs.declared.fault.DomCause.TheVariants.{Unknown}
use Rattle.dom_file.specs.declared.fault.DomFault.{DomFault}
use Rattle.dom_file.specs.declared.fault.DomFault.TheVariants.{Bad}

-- the keys of a table, in byte order
abbrev pub keys_of : Members → List (List ℕ)
keys_of no_members = []
keys_of (member key d members) = key ∷ keys_of members

-- whether the key is one of these
abbrev pub is_listed_key : List (List ℕ) → List ℕ → Bool
is_listed_key keys key = list_any (λ k. bytes_eq k key) keys

-- the first key of the table that is none of these
abbrev pub first_unlisted_key : List (List ℕ) → Members → Option (List ℕ)
first_unlisted_key keys table = find (λ key. not (is_listed_key keys key)) (keys_of table)

-- every key of the table is one of these; else the fault of the first that is none
abbrev pub key_check : TableName → ℕ → List (List ℕ) → Members → Result ⊤ DomFault
key_check name index keys table = elim (first_unlisted_key keys table) [ None ↦ Ok tt | Some key ↦ Err (Bad name index key Unknown) ]
