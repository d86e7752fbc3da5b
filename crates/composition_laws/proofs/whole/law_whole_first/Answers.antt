use Rattle.composition_laws.proofs.WholeFirst.{first_of_tool, first_of_pools}
use Rattle.composition_laws.proofs.whole.law_whole_first.Goals as goal

pub returns-clause-tool : goal.returns-clause-tool
returns-clause-tool c m checked entries run t action is = first_of_tool m checked entries run t action is

pub returns-clause-pools : goal.returns-clause-pools
returns-clause-pools c m checked entries run t firsts found none has earliest = first_of_pools m checked entries run t firsts none has found earliest
