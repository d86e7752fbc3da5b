use Rattle.std.proofs.Common.{length}
use Rattle.xl_words.proofs.options.+read_options.Given as goal

abbrev pub decreases-read_options : goal.decreases-read_options
decreases-read_options g l = length l.rest.now
