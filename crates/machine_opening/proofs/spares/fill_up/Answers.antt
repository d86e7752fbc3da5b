use Rattle.std.proofs.Common.{refl}
use Rattle.sched_model.specs.declared.config.SchedKind.TheVariants as kinds
use Rattle.machine_opening.proofs.Stocking.{still_fits}
use Rattle.machine_opening.proofs.spares.fill_up.Goals as goal

pub fill_for-requires-clause-room : goal.fill_for-requires-clause-room
fill_for-requires-clause-room c = c.requires.room kinds.Credit2

pub fill_for-requires-2-clause-room : goal.fill_for-requires-2-clause-room
fill_for-requires-2-clause-room c =
    still_fits c.args.config.now c.args.most kinds.Rtds kinds.Credit2 c.args.spares.now c.fill_for.new.spares (record { differs = refl; stays = λ seen shelves. refl }) c.in_ok-fill_for.ensures (c.requires.room kinds.Rtds)

pub fill_for-requires-3-clause-room : goal.fill_for-requires-3-clause-room
fill_for-requires-3-clause-room c =
    still_fits c.args.config.now c.args.most kinds.Arinc653 kinds.Rtds c.fill_for.new.spares c.fill_for-2.new.spares (record { differs = refl; stays = λ seen shelves. refl }) c.in_ok-fill_for-2.ensures
    (still_fits c.args.config.now c.args.most kinds.Arinc653 kinds.Credit2 c.args.spares.now c.fill_for.new.spares (record { differs = refl; stays = λ seen shelves. refl }) c.in_ok-fill_for.ensures (c.requires.room kinds.Arinc653))

pub fill_for-requires-4-clause-room : goal.fill_for-requires-4-clause-room
fill_for-requires-4-clause-room c =
    still_fits c.args.config.now c.args.most kinds.Null kinds.Arinc653 c.fill_for-2.new.spares c.fill_for-3.new.spares (record { differs = refl; stays = λ seen shelves. refl }) c.in_ok-fill_for-3.ensures
    (still_fits c.args.config.now c.args.most kinds.Null kinds.Rtds c.fill_for.new.spares c.fill_for-2.new.spares (record { differs = refl; stays = λ seen shelves. refl }) c.in_ok-fill_for-2.ensures
    (still_fits c.args.config.now c.args.most kinds.Null kinds.Credit2 c.args.spares.now c.fill_for.new.spares (record { differs = refl; stays = λ seen shelves. refl }) c.in_ok-fill_for.ensures (c.requires.room kinds.Null)))
