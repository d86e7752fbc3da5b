-- The names that a value lists, as two sets of bits.
use Rattle.std.specs.Prelude.{◌≡◌, ◌-◌, ℕ, ◌<◌, Bool, nat_lt, cond}
use Rattle.sched_model.specs.State.{has_core_bit}
use Rattle.journal_core.specs.Parts.{StatePart, lists}
use Rattle.lock_moves.specs.declared.names.Names.{Names}

-- whether the name n is in the sets
abbrev pub in_names : Names → ℕ → Bool
in_names names n = cond (nat_lt n 64) (has_core_bit names.res n) (has_core_bit names.dom (n - 64))

-- the sets have the names that the part lists, and no other
abbrev pub AreNamesOf : StatePart → Names → Type 0
AreNamesOf part names = (n : ℕ) → n < 128 → in_names names n ≡ lists part n
