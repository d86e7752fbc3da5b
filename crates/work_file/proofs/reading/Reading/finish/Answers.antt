use Rattle.std.proofs.Common.{[], ◌∙◌}
use Rattle.work_file.proofs.LastLemmas.{nothing_behind}
use Rattle.work_file.proofs.reading.Reading.finish.Goals as goal

pub returns-in-Ok-clause-work : goal.returns-in-Ok-clause-work
returns-in-Ok-clause-work c = c.in-Ok.ensures.ok [] ∙ nothing_behind c.args.config.now c.take.new.self

pub returns-in-Err-clause-fault : goal.returns-in-Err-clause-fault
returns-in-Err-clause-fault c = c.in-Err.ensures.fault []
