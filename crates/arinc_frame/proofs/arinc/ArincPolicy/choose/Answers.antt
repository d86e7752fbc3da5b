use Rattle.sched_model.specs.declared.state.Records.TheVariants.{ArincPool}
use Rattle.arinc_frame.proofs.Ready.{none_own, ready_found}
use Rattle.arinc_frame.proofs.arinc.ArincPolicy.choose.Goals as goal
use Rattle.arinc_frame.proofs.arinc.ArincPolicy.choose.Goals.{in-None, in-Some}

pub bare_choice-requires-clause-none : goal.bare_choice-requires-clause-none
bare_choice-requires-clause-none c =
    let r = rw (← c.self.view_is, c.in-None.is) at c.requires in
    none_own (ArincPool c.self.inside.records) c.args.ask.now.cur r.asked.own

pub invariant_of-self : goal.invariant_of-self
invariant_of-self c =
    let r = rw (← c.self.view_is) at c.requires in
    let i = c.self.inside in
    elim c.match-self.branch [
      | in-None w ↦ rw w.self-inside-is (ready_found i.records i.present c.found_at-self-inside.result i.latest c.args.ask.now.at.0 r.asked.now.after c.found_at-self-inside.ensures c.self.invariant)
      | in-Some w ↦ rw w.self-inside-is (ready_found i.records i.present c.found_at-self-inside.result i.latest c.args.ask.now.at.0 r.asked.now.after c.found_at-self-inside.ensures c.self.invariant)
    ]
