-- What a sink tells of its bytes after a put, beside what it told before.
use Rattle.std.specs.Prelude.{ℕ, ◌≡◌, List, ◌++◌, take, Option, IfSome, IsSomeAnd}

-- where the bytes are told afterwards, they were told before, and the piece was appended to them
pub record Adds (before after : Option (List ℕ)) (piece : List ℕ) : Type 0 where
  pub told : IfSome after (λ all. IsSomeAnd before (λ was. all ≡ was ++ piece))

-- where the bytes are told afterwards, they were told before, and a prefix of the piece was appended to them
pub record AddsPart (before after : Option (List ℕ)) (piece : List ℕ) : Type 0 where
  pub told : IfSome after (λ all. IsSomeAnd before (λ was. (count : ℕ) × (all ≡ was ++ take count piece)))
