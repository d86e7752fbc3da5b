use Rattle.std.proofs.Common.{◌≡◌, drop}
use Rattle.sched_print.specs.Readers.{word_at}
use Rattle.sched_print.proofs.scan.word.Given as goal

abbrev pub invariant-loop-c : goal.invariant-loop-c
invariant-loop-c l = word_at (drop l.c-index l.word) l.rest ≡ word_at l.word l.bytes
