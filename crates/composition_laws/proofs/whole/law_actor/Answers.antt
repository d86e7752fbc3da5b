use Rattle.composition_laws.proofs.Actors.{first_in_pool, none_of_free, tool_is_first}
use Rattle.composition_laws.proofs.whole.law_actor.Goals as goal

pub returns-clause-pool : goal.returns-clause-pool
returns-clause-pool c m checked entries run i pool actor found at has first = first_in_pool m checked entries run i pool actor at has found first

pub returns-clause-free : goal.returns-clause-free
returns-clause-free c m checked entries run p core at = none_of_free m checked entries run p core at

pub returns-clause-tool : goal.returns-clause-tool
returns-clause-tool c m checked entries run = tool_is_first m checked entries run
