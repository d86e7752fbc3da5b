use Rattle.std.proofs.Common.{◌≤◌, true, arith}
use Rattle.std.specs.Prelude.{None}
use Rattle.credit2_core.specs.declared.state.Credit2State.{Credit2State}
use Rattle.credit2_core.proofs.Keeping.{sound_limit, sound_unpinned, restarted_is}
use Rattle.credit2_core.proofs.queue.restart.Goals as goal

pub returns-clause-seen : goal.returns-clause-seen
returns-clause-seen c = restarted_is c.args.state.now c.args.limit c.requires.sound c.requires.vacant

pub returns-clause-sound : goal.returns-clause-sound
returns-clause-sound c =
    let h : Credit2State = c.args.state.now in
    let same : h.latest ≤ h.latest = omega arith in
    sound_limit (record h { unpinned = true }) c.args.limit h.latest None (sound_unpinned h c.requires.sound c.requires.vacant) same c.requires.limit
