use Rattle.std.proofs.Common.{ℕ, sym, subst}
use Rattle.lock_moves.specs.Sets.{IsAsKnown}
use Rattle.lock_example.specs.Example.{part_after}
use Rattle.lock_example.proofs.Visiting.{taken-known}
use Rattle.lock_trials.proofs.tests.the_command_is_done_beside_a_held_lock.Goals as goal

pub unlock-requires-clause-known : goal.unlock-requires-clause-known
unlock-requires-clause-known g c = let held = c.in-Some.held in let e = c.in-Some.ensures in let part = part_after held.value.lock held.value.count in
    subst (λ (k : ℕ). IsAsKnown k part c.try_lock.new.seat.view) (sym e.0) (taken-known 0 part c.split-b.result.view c.split-b.result c.try_lock.new.seat e.1)
