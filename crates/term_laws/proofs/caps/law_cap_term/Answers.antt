use Rattle.term_laws.proofs.CapSteps.{K, cap_tracks}
use Rattle.term_laws.proofs.CapLaw.{law_from_tracks}
use Rattle.term_laws.proofs.caps.law_cap_term.Goals as goal

pub returns : goal.returns
returns c m checked entries run d = law_from_tracks m d (K m d) (cap_tracks m checked d) entries run
