use Rattle.std.proofs.Common.{◌≡◌, ◌≤◌, length}
use Rattle.xl_words.specs.Parts.{words}
use Rattle.xl_words.proofs.parts.next_word.Given as goal

abbrev pub invariant-loop-word : goal.invariant-loop-word
invariant-loop-word l = (words l.rest ≡ words l.fn.bytes) × (length l.rest ≤ length l.fn.bytes)

abbrev pub decreases-loop-word : goal.decreases-loop-word
decreases-loop-word l = length l.rest
