use Rattle.std.proofs.Common.{◌≡◌, ℕ, ◌<◌, eqb, false}
use Rattle.journal_core.specs.Histories.{home_at}
use Rattle.lock_moves.proofs.open.lock_listing.Given as goal

abbrev pub invariant-loop-k : goal.invariant-loop-k
invariant-loop-k g l = (j : ℕ) → j < l.k → eqb (home_at l.book.input l.book.history l.name) j ≡ false
