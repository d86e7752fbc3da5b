use Rattle.composition_laws.proofs.FirstByOrder.{first_by_order}
use Rattle.composition_laws.proofs.order.law_first_by_order.Goals as goal

pub returns : goal.returns
returns c config test found = first_by_order config test found
