use Rattle.term_laws.proofs.TermsKept.{all_kept}
use Rattle.term_laws.proofs.rtds.law_rtds_term.Goals as goal

pub returns : goal.returns
returns c m checked entries run u = all_kept m checked u entries run
