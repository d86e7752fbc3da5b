-- Names, cores and words of the input have small numbers.
use Rattle.std.proofs.Common.{◌≡◌, ℕ, ◌<◌, true, arith}
use Rattle.std.specs.Prelude.{nat_lt}
use Rattle.std.proofs.lemmas.Bool.{ltb-true}
use Rattle.sched_base.proofs.Bools.{and_left}
use Rattle.sched_model.specs.declared.machine.Machine.{Machine}
use Rattle.lock_moves.specs.declared.content.NameId.{NameId}
use Rattle.lock_moves.specs.declared.content.NameId.TheVariants.{Res, Dom}
use Rattle.lock_moves.specs.Words.{has_core, has_name, name_number}

pub core_below : (m : Machine) (r : ℕ) → has_core m r ≡ true → r < 64
core_below m r e = ltb-true r 64 (and_left (nat_lt r 64) _ e)

pub name_below : (m : Machine) (name : NameId) → has_name m name ≡ true → name_number name < 128
name_below m (Res r) e = let low = core_below m r.0 e in omega (arith, low)
name_below m (Dom d) e = let low = ltb-true d.0 64 (and_left (nat_lt d.0 64) _ e) in omega (arith, low)
