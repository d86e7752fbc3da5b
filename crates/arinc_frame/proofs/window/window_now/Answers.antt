use Rattle.arinc_frame.proofs.Windows.{present_still}
use Rattle.arinc_frame.proofs.window.window_now.Goals as goal

pub returns : goal.returns
returns c =
    present_still c.args.records.now c.in-Some.last c.args.t.0 c.requires.frame (c.requires.present c.in-Some.last c.in-Some.is) c.if-last-t.true c.if-t-last.true
