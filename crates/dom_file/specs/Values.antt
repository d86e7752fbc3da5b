-- One value of a table: what it is, or why it is refused.
use Rattle.std.specs.Prelude.{ℕ, ℤ, pos, negsuc, ◌&&◌, Bool, nat_le, List, [], ◌∷◌, length, Option, Some, None, Result, Ok, Err, if◌then◌else◌}
use Rattle.sched_base.specs.Names.{is_valid_name}
use Rattle.toml.specs.Data.{Data, Items, no_items, item, Members, get_member, as_integer, as_bool, as_str, as_array, as_table}
use Rattle.dom_file.specs.declared.fault.DomCause.{DomCause}
use Rattle.dom_file.specs.declared.fault.DomCause.TheVariants.{Missing, Kind, Range}
use Rattle.dom_file.specs.Steps.{◌>>=◌}

-- what has this type of TOML; any other is refused
abbrev pub of_kind : {A : Type 0} → Option A → Result A DomCause
of_kind None = Err Kind
of_kind (Some x) = Ok x

-- the value at a key that has to be there
abbrev pub required_value : Members → List ℕ → Result Data DomCause
required_value table key = elim (get_member key table) [ None ↦ Err Missing | Some d ↦ Ok d ]

-- an integer of any size
abbrev pub integer_of : Data → Result ℤ DomCause
integer_of d = of_kind (as_integer d)

-- true or false
abbrev pub truth_of : Data → Result Bool DomCause
truth_of d = of_kind (as_bool d)

-- the bytes of a string
abbrev pub text_of : Data → Result (List ℕ) DomCause
text_of d = of_kind (as_str d)

-- a table within the table
abbrev pub table_of : Data → Result Members DomCause
table_of d = of_kind (as_table d)

-- the elements as a list
abbrev pub list_of : Items → List Data
list_of no_items = []
list_of (item d ds) = d ∷ list_of ds

-- the elements of an array
abbrev pub elements_of : Data → Result (List Data) DomCause
elements_of d = do
  items ← of_kind (as_array d)
  Ok (list_of items)

-- the elements of an array that has at least low and at most high
abbrev pub array_of : ℕ → ℕ → Data → Result (List Data) DomCause
array_of low high d = do
  ds ← elements_of d
  if nat_le low (length ds) && nat_le (length ds) high then Ok ds else Err (Range (pos (length ds)))

-- the number, where it is from low to high
abbrev pub number_within : ℕ → ℕ → ℤ → Result ℕ DomCause
number_within low high (pos n) = if nat_le low n && nat_le n high then Ok n else Err (Range (pos n))
number_within low high (negsuc n) = Err (Range (negsuc n))

-- a number from low to high
abbrev pub number_of : ℕ → ℕ → Data → Result ℕ DomCause
number_of low high d = integer_of d >>= number_within low high

-- the number from low to high at a key, or the default where the key is not there
abbrev pub number_or_default : List ℕ → ℕ → ℕ → ℕ → Members → Result ℕ DomCause
number_or_default key default low high table = elim (get_member key table) [ None ↦ Ok default | Some d ↦ number_of low high d ]

-- a name
abbrev pub name_of : Data → Result (List ℕ) DomCause
name_of d = do
  text ← text_of d
  if is_valid_name text then Ok text else Err Kind
