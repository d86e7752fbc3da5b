use Rattle.std.proofs.Common.{◌≡◌, ◌<◌, ℕ}
use Rattle.std.specs.Prelude.{false}
use Rattle.unit_state.specs.Seen.{is_due_among}
use Rattle.pool_core.proofs.ByActor.{its}
use Rattle.pool_core.proofs.actors.first_of_domain.Given as goal

abbrev pub invariant-loop-n : goal.invariant-loop-n
invariant-loop-n l = (k : ℕ) → k < l.n → is_due_among l.t.0 l.guests.domains (its l.d k) ≡ false
