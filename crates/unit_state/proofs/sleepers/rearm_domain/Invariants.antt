use Rattle.std.proofs.Common.{◌≡◌, ◌≢◌, ◌+◌, ◌*◌, ◌<◌, ℕ, length}
use Rattle.due_heap.specs.Dues.{armed_moment}
use Rattle.unit_state.specs.Seen.{wake_among}
use Rattle.unit_state.specs.Guests.{vcpu_id}
use Rattle.unit_state.proofs.sleepers.rearm_domain.Given as goal

abbrev pub invariant-loop-n : goal.invariant-loop-n
invariant-loop-n l = record {
  ids : length l.sleepers ≡ 2048;
  own : (k : ℕ) → k < l.n → armed_moment l.sleepers (l.d.0 * 32 + k) ≡ wake_among l.domains (vcpu_id l.d.0 k);
  others : (e k : ℕ) → e ≢ l.d.0 → k < 32 → armed_moment l.sleepers (e * 32 + k) ≡ armed_moment l.initial.sleepers (e * 32 + k);
}
