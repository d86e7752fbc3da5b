use Rattle.moment_laws.proofs.FewCauses.{causes_few}
use Rattle.moment_laws.proofs.MomentLaw.{moment_in_turns, moment_ends}
use Rattle.moment_laws.proofs.moments.law_moment_ends.Goals as goal

pub returns-clause-turns : goal.returns-clause-turns
returns-clause-turns c m checked t before moment of = moment_in_turns m checked before moment t of.run of.at

pub returns-clause-entries : goal.returns-clause-entries
returns-clause-entries c m checked t before moment of = moment_ends m checked before moment t of.run of.at

pub returns-clause-causes : goal.returns-clause-causes
returns-clause-causes c m checked t before moment of = causes_few m checked before moment t of.run of.at
