use Rattle.std.proofs.Common.{◌≡◌, ◌+◌, ◌-◌}
use Rattle.core_state.specs.Seen.{cleared_works}
use Rattle.core_state.proofs.changes.clear_works.Given as goal

abbrev pub invariant-loop-i : goal.invariant-loop-i
invariant-loop-i l = cleared_works (l.p + l.i) (l.count - l.i) l.works ≡ cleared_works l.p l.count l.initial.works
