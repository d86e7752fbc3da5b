use Rattle.sched_model.specs.declared.machine.Machine.{Machine}
use Rattle.machine_opening.proofs.Stocking.{can_fill, spares_new}
use Rattle.machine_opening.proofs.spares.open_spares.Goals as goal

pub fill_up-requires-clause-room : goal.fill_up-requires-clause-room
fill_up-requires-clause-room c =
    let m : Machine = record { config = c.args.config.now; work = c.args.work.now } in
    can_fill m c.requires.checked c.most_of_each-most.result c.in_ok-spares.spares c.most_of_each-most.ensures c.in_ok-spares.ensures.pools c.in_ok-spares.ensures.capacity

pub returns-in-Ok : goal.returns-in-Ok
returns-in-Ok c =
    let m : Machine = record { config = c.args.config.now; work = c.args.work.now } in
    spares_new m c.requires.checked c.most_of_each-most.result c.in_ok-spares.spares c.fill_up.new.spares c.most_of_each-most.ensures
    (can_fill m c.requires.checked c.most_of_each-most.result c.in_ok-spares.spares c.most_of_each-most.ensures c.in_ok-spares.ensures.pools c.in_ok-spares.ensures.capacity) c.in-Ok.ensures
