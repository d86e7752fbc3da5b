use Rattle.policy_laws.proofs.TimerLaw as law
use Rattle.policy_laws.proofs.timers.law_timers.Goals as goal

pub returns-clause-none : goal.returns-clause-none
returns-clause-none c = law.none

pub returns-clause-armed : goal.returns-clause-armed
returns-clause-armed c = law.armed

pub returns-clause-first : goal.returns-clause-first
returns-clause-first c = law.first

pub returns-clause-least : goal.returns-clause-least
returns-clause-least c = law.least
