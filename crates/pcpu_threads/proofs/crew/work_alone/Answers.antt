use Rattle.pcpu_threads.proofs.Serving.{acts_trans}
use Rattle.pcpu_threads.proofs.crew.work_alone.Goals as goal

pub loop-i-preserved : goal.loop-i-preserved
loop-i-preserved g c = (let e = c.serve.ensures in let i = c.loop-i.invariant in record { row = e.row; acts = acts_trans c.args.hall.now c.args.domains c.args.seats.now c.loop-i.seats c.serve.new.seats c.requires i.row i.acts e.acts })
