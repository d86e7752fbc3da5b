use Rattle.hall.proofs.Entering.{goes-on-with}
use Rattle.hall.proofs.book.add_and_keep.Goals as goal

pub returns : goal.returns
returns c =
    let added = c.add_entry.ensures in
    goes-on-with c.args.set.now c.args.book.now c.add_entry.new.book c.args.entry c.args.seat.now c.add_entry.new.seat c.commit_on.new.seat c.requires.has added.seat added.input added.limit added.history c.commit_on.ensures.on c.commit_on.ensures.current
