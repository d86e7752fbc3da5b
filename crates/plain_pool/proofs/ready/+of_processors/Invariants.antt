use Rattle.std.proofs.Common.{length}
use Rattle.plain_pool.proofs.ready.+of_processors.Given as goal

abbrev pub decreases-of_processors : goal.decreases-of_processors
decreases-of_processors l = length l.processors.now
