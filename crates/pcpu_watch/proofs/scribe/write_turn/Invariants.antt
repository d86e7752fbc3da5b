use Rattle.pcpu_watch.specs.Scribes.{CanWrite, ReadsOn}
use Rattle.pcpu_watch.proofs.scribe.write_turn.Given as goal

abbrev pub invariant-loop : goal.invariant-loop
invariant-loop g l = record {
  on : ReadsOn l.fn.hall l.fn.scribe l.scribe;
  can : CanWrite l.fn.hall l.fn.moment l.scribe;
}
