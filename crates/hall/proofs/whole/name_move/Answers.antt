use Rattle.sched_base.specs.Numbers.{core, domain}
use Rattle.hall.proofs.Handing.{hands-none, moves-nothing}
use Rattle.hall.proofs.whole.name_move.Goals as goal

pub returns-in_default : goal.returns-in_default
returns-in_default c = hands-none c.args.trail.now c.requires.goes c.args.action (moves-nothing c.args.action (λ r. c.in_default.not-Moved (core r)) (λ d. c.in_default.not-DomMoved (domain d)))
