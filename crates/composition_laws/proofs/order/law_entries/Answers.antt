use Rattle.composition_laws.proofs.Entries.{action_comes_next, action_leads, quiet_leads}
use Rattle.composition_laws.proofs.order.law_entries.Goals as goal

pub returns-clause-next : goal.returns-clause-next
returns-clause-next c m h action goes_on on = action_comes_next m h action goes_on on

pub returns-clause-leads : goal.returns-clause-leads
returns-clause-leads c m h entry action is = action_leads m h entry action is

pub returns-clause-quiet : goal.returns-clause-quiet
returns-clause-quiet c m h entry is = quiet_leads m h entry is
