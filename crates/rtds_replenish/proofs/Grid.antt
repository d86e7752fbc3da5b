-- The next deadline is the first one after t that is whole periods after the old one.
use Rattle.std.proofs.Common.{◌≡◌, ◌≤◌, ◌+◌, ◌-◌, ◌*◌, ◌/◌, ℕ, arith}
use Rattle.std.proofs.Math.Nat.{mul-div-le, lt-mul-div-succ}
use Rattle.sched_base.specs.RtdsNumbers.{next_deadline}
use Rattle.rtds_replenish.specs.Grid.{IsTermAround}

pub term_around : (deadline period t : ℕ) → 1 ≤ period → deadline ≤ t → IsTermAround deadline period t (next_deadline deadline period t)
term_around deadline period t some late =
    let passed = mul-div-le (t - deadline) period in
    let not_yet = lt-mul-div-succ (t - deadline) {b = period} some in
    let e : period * ((t - deadline) / period + 1) ≡ period * ((t - deadline) / period) + period = grind arith in
    record {
      begun = omega (arith, passed, not_yet, e, late);
      not_over = omega (arith, passed, not_yet, e, late);
      after_old = omega (arith, passed, not_yet, e, late);
    }
