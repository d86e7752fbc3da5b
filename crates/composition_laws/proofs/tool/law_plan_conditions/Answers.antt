use Rattle.composition_laws.proofs.Added.{added_is_free}
use Rattle.composition_laws.proofs.Judged.{plan_finds}
use Rattle.composition_laws.proofs.tool.law_plan_conditions.Goals as goal

pub returns-clause-finds : goal.returns-clause-finds
returns-clause-finds c = plan_finds

pub returns-clause-free : goal.returns-clause-free
returns-clause-free c m checked entries run line i core answer says = added_is_free m checked entries run line i core answer says
