use Rattle.dom_file.proofs.CheckedConfig.{gives_checked}
use Rattle.dom_file.proofs.read.read_domains.Goals as goal

pub returns-clause-checked : goal.returns-clause-checked
returns-clause-checked c = gives_checked c.config.result _ c.config.ensures
