use Rattle.moment_laws.proofs.StretchLaw.{stretch_ends, stretch_in_numbers}
use Rattle.moment_laws.proofs.stretches.law_stretch_ends.Goals as goal

pub returns-clause-turns : goal.returns-clause-turns
returns-clause-turns c m checked before stretch is = stretch_ends m checked before stretch is.run is.goes_on

pub returns-clause-entries : goal.returns-clause-entries
returns-clause-entries c m checked before stretch is = stretch_in_numbers m checked before stretch is.run is.goes_on
