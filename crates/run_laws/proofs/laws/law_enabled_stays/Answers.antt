use Rattle.run_laws.proofs.Rows.{Awaits-enabled}
use Rattle.run_laws.proofs.laws.law_enabled_stays.Goals as goal

pub returns : goal.returns
returns c m s t later action after on = let w = Awaits-enabled m s action in w.stays t later after on
