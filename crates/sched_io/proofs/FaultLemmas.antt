-- How counts of faults compose.
use Rattle.std.proofs.Common.{ℕ, ◌<◌, ◌≤◌, arith}
use Rattle.sched_io.specs.Faults.{Rose}

-- a count that rose has risen later too
pub rose_before : (old middle new : ℕ) → Rose old middle → middle ≤ new → Rose old new
rose_before old middle new rose later = record {
  kept = omega (arith, rose.kept);
  higher = λ below. let step : old < middle = rose.higher below in omega arith;
}

-- a count that rises has risen since earlier too
pub rose_after : (old middle new : ℕ) → old ≤ middle → Rose middle new → Rose old new
rose_after old middle new earlier rose = record {
  kept = omega (arith, rose.kept);
  higher = λ below. grind (arith, rose.higher, rose.kept);
}

-- a count that stays at 0 never rose
pub never_rose : Rose 0 0 → ⊥
never_rose rose = let step : 0 < 0 = rose.higher (λ e. cc) in omega arith

-- what a caller's proof needs of counts of faults
pub ruleset fault_steps = (rose_before, rose_after, never_rose)
