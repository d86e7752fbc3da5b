use Rattle.std.proofs.Common.{ℕ, sym, subst}
use Rattle.lock_moves.specs.Sets.{IsAsKnown}
use Rattle.lock_example.specs.Example.{part_after}
use Rattle.lock_example.proofs.Visiting.{taken-known}
use Rattle.lock_trials.proofs.tests.the_run_of_the_example_call_by_call.Goals as goal

pub unlock-requires-clause-known : goal.unlock-requires-clause-known
unlock-requires-clause-known g c = let held = c.in-Some.held in let e = c.in-Some.ensures in let part = part_after held.value.lock held.value.count in
    subst (λ (k : ℕ). IsAsKnown k part c.try_lock.new.seat.view) (sym e.0) (taken-known 0 part c.split-b.new.seat.view c.split-b.new.seat c.try_lock.new.seat e.1)

pub unlock-requires-2-clause-known : goal.unlock-requires-2-clause-known
unlock-requires-2-clause-known g c = let held = c.in-Some-try_lock.held in let e = c.in-Some-try_lock.ensures in let part = part_after held.value.lock held.value.count in
    subst (λ (k : ℕ). IsAsKnown k part c.try_lock-3.new.seat.view) (sym e.0) (taken-known 0 part c.try_lock-2.new.seat.view c.try_lock-2.new.seat c.try_lock-3.new.seat e.1)
