use Rattle.credit2_core.proofs.Keeping.{sound_limit}
use Rattle.credit2_core.proofs.params.set_rate.Goals as goal

pub returns-clause-sound : goal.returns-clause-sound
returns-clause-sound c = sound_limit c.args.state.now c.args.limit c.args.t.0 c.args.state.now.records.last_reset c.requires.sound c.requires.now.after c.requires.limit
