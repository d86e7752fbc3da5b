use Rattle.std.proofs.Common.{◌≡◌, ◌≤◌, ◌++◌, ℕ, take, drop, length}
use Rattle.sched_model.specs.Places.{at_place, change_each}
use Rattle.scheduler_records.specs.Bounds.{reset_by}
use Rattle.scheduler_records.proofs.credit2_running.reset_all.Given as goal

abbrev pub invariant-loop-r : goal.invariant-loop-r
invariant-loop-r l =
    let look = λ (n : ℕ). reset_by l.most l.t.0 l.resets in
    record {
      so_far : take l.r l.domains ++ change_each l.r look (drop l.r l.domains) ≡ change_each 0 look l.initial.domains;
      as_long : length l.domains ≡ length l.initial.domains;
      same_above : (k : ℕ) → l.r ≤ k → at_place l.domains k ≡ at_place l.initial.domains k;
    }
