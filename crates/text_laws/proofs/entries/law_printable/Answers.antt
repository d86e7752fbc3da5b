use Rattle.text_laws.proofs.Printable.{printable_entries}
use Rattle.text_laws.proofs.entries.law_printable.Goals as goal

pub returns : goal.returns
returns c = printable_entries
