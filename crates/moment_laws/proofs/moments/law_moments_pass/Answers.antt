use Rattle.moment_laws.proofs.RunMoments.{run_by_moments, run_by_causes, causes_by_lines}
use Rattle.moment_laws.proofs.moments.law_moments_pass.Goals as goal

pub returns-clause-moments : goal.returns-clause-moments
returns-clause-moments c m checked entries run = run_by_moments m checked entries run

pub returns-clause-by_causes : goal.returns-clause-by_causes
returns-clause-by_causes c m checked entries run = run_by_causes m checked entries run

pub returns-clause-causes : goal.returns-clause-causes
returns-clause-causes c m checked entries run = causes_by_lines m checked entries run
