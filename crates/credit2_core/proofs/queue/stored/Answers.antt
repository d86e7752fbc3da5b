use Rattle.std.proofs.Common.{◌≡◌, ◌∙◌, sym}
use Rattle.std.specs.Prelude.{Some, None}
use Rattle.sched_model.specs.Places.{at_place}
use Rattle.credit2_core.proofs.Members.{joined_record}
use Rattle.credit2_core.proofs.queue.stored.Goals as goal

pub returns-in-None : goal.returns-in-None
returns-in-None c =
    let none : at_place c.args.state.now.records.domains c.args.u.dom.0 ≡ None = rw c.as_slice.ensures at (sym c.in-None.ensures) in
    let r = joined_record c.args.state.now.affinity c.args.state.now.records.domains c.args.u c.requires.sound.counts c.requires.member in
    absurd (let e : None ≡ Some r.0 = sym none ∙ r.1 in cc)
