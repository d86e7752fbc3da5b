use Rattle.moment_laws.proofs.Credit2Decision.{credit2_decides_well}
use Rattle.moment_laws.proofs.credit2.law_credit2_decides_well.Goals as goal

pub returns : goal.returns
returns c m t pool records is r core standing still = credit2_decides_well m t pool records is r core standing still
