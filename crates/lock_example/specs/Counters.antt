-- Lists of counters.
use Rattle.std.specs.Prelude.{◌≡◌, ℕ, List}
use mathlib.Core.Option.{some}
use lib.ListN.{get_elem?}
use Rattle.lock_example.specs.declared.counter.Counter.{Counter}

-- the counter at the place k has the lock k, and counts no entry
abbrev pub AreNew : List Counter → Type 0
AreNew counters = (k : ℕ) (x : Counter) → get_elem? counters k ≡ some x → (x.lock ≡ k) × (x.count ≡ 0)
