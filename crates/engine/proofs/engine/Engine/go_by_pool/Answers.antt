use Rattle.machine_parts.proofs.Performing.{first-comes}
use Rattle.engine.proofs.engine.Engine.go_by_pool.Goals as goal

pub perform_in_pool-event-requires-clause-enabled : goal.perform_in_pool-event-requires-clause-enabled
perform_in_pool-event-requires-clause-enabled c = first-comes c.args.self.now.machine c.args.self.now.state c.args.action c.requires.first
