-- Readings that may fail, one behind another.
use Rattle.std.specs.Prelude.{Result, Ok, Err}

-- what follows a part that is read, or its fault
infixl 10 ◌>>=◌
abbrev pub ◌>>=◌ : {A B E : Type 0} → Result A E → (A → Result B E) → Result B E
(Ok x) >>= next = next x
(Err fault) >>= next = Err fault
