-- A part of a run, from what holds up to its beginning and up to its end.
use Rattle.std.proofs.Common.{◌≡◌, ◌≤◌, ◌+◌, ◌*◌, ℕ, Bool, List, [], ◌∷◌, ◌++◌, arith, subst}
use Rattle.sched_base.specs.declared.UnitId.{UnitId}
use Rattle.sched_model.specs.declared.event.Entry.{Entry}
use Rattle.sched_model.specs.declared.machine.Machine.{Machine}
use Rattle.sched_model.specs.declared.state.State.{State}
use Rattle.sched_model.specs.Runs.{Reached, after_entries, after_entry, run_start}
use Rattle.service_laws.specs.Service.{has_unit, time_of}
use Rattle.share_laws.specs.Shares.{IsNearShare, IsWithinShare, longest_slice}

pub time_append : (m : Machine) (test : State → Bool) (from : Reached) (before entries : List Entry) → time_of m test from (before ++ entries) ≡ time_of m test from before + time_of m test (after_entries m from before) entries
time_append m test from [] entries = omega arith
time_append m test from (entry ∷ before) entries = (let rest = time_append m test (after_entry m from entry) before entries in omega (arith, rest))

part_of : (a x b y wu wv k : ℕ) → (a + x) * wv ≤ (b + y) * wu + k * wv → b * wu ≤ a * wv + k * wu → x * wv ≤ y * wu + k * (wu + wv)
part_of a x b y wu wv k whole first = omega (arith, whole, first)

pub near_share : (m : Machine) (i r rate : ℕ) (u v : UnitId) (wu wv : ℕ) (before entries : List Entry) → IsWithinShare m i r rate u wu v wv (before ++ entries) → IsWithinShare m i r rate v wv u wu before → IsNearShare m i r rate u wu v wv (after_entries m (run_start m) before) entries
near_share m i r rate u v wu wv before entries whole first =
    let from : Reached = after_entries m (run_start m) before in
    let a : ℕ = time_of m (has_unit i r u) (run_start m) before in
    let b : ℕ = time_of m (has_unit i r v) (run_start m) before in
    let x : ℕ = time_of m (has_unit i r u) from entries in
    let y : ℕ = time_of m (has_unit i r v) from entries in
    let all : (a + x) * wv ≤ (b + y) * wu + (longest_slice rate + 1) * wv =
    sum_whole (time_of m (has_unit i r u) (run_start m) (before ++ entries)) (time_of m (has_unit i r v) (run_start m) (before ++ entries)) a x b y (longest_slice rate + 1) (time_append m (has_unit i r u) (run_start m) before entries) (time_append m (has_unit i r v) (run_start m) before entries) whole in
    part_of a x b y wu wv (longest_slice rate + 1) all first
  where
    sum_whole : (p q a x b y k : ℕ) → p ≡ a + x → q ≡ b + y → p * wv ≤ q * wu + k * wv → (a + x) * wv ≤ (b + y) * wu + k * wv
    sum_whole p q a x b y k is_p is_q whole = subst (λ n. n * wv ≤ (b + y) * wu + k * wv) is_p (subst (λ n. p * wv ≤ n * wu + k * wv) is_q whole)
