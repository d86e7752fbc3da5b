use Rattle.settle_laws.proofs.Freeing as freeing
use Rattle.settle_laws.proofs.laws.law_frees.Goals as goal

pub returns : goal.returns
returns c = freeing.frees_nothing
