use Rattle.reservation_laws.proofs.ExamplesComputed.{first_of_overbooked}
use Rattle.reservation_laws.proofs.examples.less_where_overbooked.Goals as goal

pub returns : goal.returns
returns c = first_of_overbooked
