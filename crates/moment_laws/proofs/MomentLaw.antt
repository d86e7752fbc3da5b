-- The law of moments: a moment ends once, its resets are few, and so are its causes.
use Rattle.std.proofs.Common.{◌≡◌, ◌≤◌, ◌+◌, ℕ, true, List, ◌++◌, arith, length}
use Rattle.sched_model.specs.declared.event.Entry.{Entry}
use Rattle.sched_model.specs.declared.machine.Machine.{Machine}
use Rattle.sched_model.specs.CheckedMachine.{IsChecked}
use Rattle.sched_model.specs.Runs.{IsRun}
use Rattle.moment_laws.proofs.StretchLaw.{stretch_ends}
use Rattle.moment_laws.specs.Moments.{are_at, causes, most_in_moment, most_turns_in_moment}
use Rattle.moment_laws.proofs.FewResets.{resets_few}
use Rattle.moment_laws.proofs.MomentParts.{moment_turns, most_turns_in_moment_fit}
use Rattle.moment_laws.proofs.OneEnd.{one_end}

pub moment_in_turns : (m : Machine) → IsChecked m → (before moment : List Entry) (t : ℕ) → IsRun m (before ++ moment) → are_at t moment ≡ true → length moment + 1 ≤ most_turns_in_moment m (causes moment)
moment_in_turns m checked before moment t run at = moment_turns m (one_end m) (resets_few m checked) (stretch_ends m checked) before moment t run at

pub moment_ends : (m : Machine) → IsChecked m → (before moment : List Entry) (t : ℕ) → IsRun m (before ++ moment) → are_at t moment ≡ true → length moment ≤ most_in_moment m (causes moment)
moment_ends m checked before moment t run at = (let a = moment_in_turns m checked before moment t run at in let b = most_turns_in_moment_fit m (causes moment) in omega (arith, a, b))
