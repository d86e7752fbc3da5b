use Rattle.sched_report.proofs.InOrder.{units-more}
use Rattle.sched_report.proofs.names.push_units.Goals as goal

pub loop-n-preserved : goal.loop-n-preserved
loop-n-preserved c = units-more c.args.d c.loop-n.n c.args.names.now.items c.loop-n.names.items c.push.new.self.items c.loop-n.invariant c.in_ok-push.ensures.items
