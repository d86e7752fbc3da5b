use Rattle.std.proofs.Common.{refl}
use Rattle.pcpu_watch.proofs.Reading.{ahead-still, keeps-reading}
use Rattle.pcpu_watch.proofs.scribe.Scribe.moment_of_last.Goals as goal

pub returns-clause-reading : goal.returns-clause-reading
returns-clause-reading g c =
    let s = c.args.self.now in
    let on = c.moment_at.ensures.on in
    let is = c.requires.is in
    keeps-reading c.args.hall.now s _ on is refl refl refl refl
    (ahead-still s.seat.sitting.view.front c.moment_at.new.seat.sitting.view.front s.ahead on.begins is.ahead)
