-- What holds of each granularity.
use Rattle.std.proofs.Common.{ℕ, inl, inr, subst, sym}
use Rattle.sched_model.specs.CheckedMachine.{IsGranularity}

-- what holds of 1, 2 and 4 holds of the granularity of a checked machine
pub by_granularity : (Q : ℕ → Type 0) (g : ℕ) → IsGranularity g → Q 1 → Q 2 → Q 4 → Q g
by_granularity Q g (inl is) one two four = subst Q (sym is) one
by_granularity Q g (inr (inl is)) one two four = subst Q (sym is) two
by_granularity Q g (inr (inr is)) one two four = subst Q (sym is) four
