use Rattle.std.proofs.Common.{◌≡◌, true, false, sym, ◌∙◌}
use Rattle.sched_model.specs.declared.state.Records.TheVariants.{NullPool}
use Rattle.sched_model.specs.declared.state.Scheduler.{Scheduler}
use Rattle.sched_model.specs.Places.{at_place, has_listed_unit}
use Rattle.sched_model.specs.State.{has_core_bit}
use Rattle.scheduler_records.specs.Parts.{scheduler_of}
use Rattle.sched_ops.proofs.Coming.{wanted_alone, wanted_alone_by}
use Rattle.sched_null.specs.Coming.{is_open_to}
use Rattle.sched_null.proofs.Coming.{absent_asks, given_asks, no_core, open_asks}
use Rattle.sched_null.proofs.state.wanted_for.Goals as goal

pub given_core-requires : goal.given_core-requires
given_core-requires c = c.keeps.ensures.places c.args.u (c.keeps.ensures.members c.args.u (sym c.waits.ensures ∙ c.if-not-waits.false))

pub returns-then-not-waits : goal.returns-then-not-waits
returns-then-not-waits c r =
    let units = c.args.units.now in
    let kept = c.args.kept.now in
    let s : Scheduler = scheduler_of units.queue units.affinity (NullPool kept) in
    let place = at_place c.args.cores.now r in
    let absent : has_listed_unit units.queue c.args.u ≡ false = sym c.waits.ensures ∙ c.if-not-waits.true in
    no_core r
    ∙ sym (wanted_alone c.args.t.0 c.args.home.0 s c.args.u r place (c.requires.before r) ∙ absent_asks units.queue units.affinity kept c.args.home.0 c.args.u r c.args.t.0 place absent)

pub returns-in-Some : goal.returns-in-Some
returns-in-Some c r =
    let units = c.args.units.now in
    let kept = c.args.kept.now in
    let s : Scheduler = scheduler_of units.queue units.affinity (NullPool kept) in
    let place = at_place c.args.cores.now r in
    let waits : has_listed_unit units.queue c.args.u ≡ true = sym c.waits.ensures ∙ c.if-not-waits.false in
    c.if_idle.ensures r
    ∙ sym (wanted_alone c.args.t.0 c.args.home.0 s c.args.u r place (c.requires.before r) ∙ given_asks units.queue units.affinity kept c.args.home.0 c.args.u c.keeps-2.ensures c.in-Some.core.0 r c.args.t.0 place c.in-Some.ensures.given waits)

pub returns-in-None : goal.returns-in-None
returns-in-None c r =
    let units = c.args.units.now in
    let kept = c.args.kept.now in
    let s : Scheduler = scheduler_of units.queue units.affinity (NullPool kept) in
    let waits : has_listed_unit units.queue c.args.u ≡ true = sym c.waits.ensures ∙ c.if-not-waits.false in
    wanted_alone_by (λ core cur since answer. answer ≡ is_open_to s kept c.args.home.0 core.0 c.args.u cur) c.args.t.0 c.args.home.0 s c.args.u r (at_place c.args.cores.now r) (has_core_bit c.open_cores.result.0 r) (c.requires.before r)
    (λ x answer at asked is. is ∙ open_asks units.queue units.affinity kept c.args.home.0 c.args.u r c.args.t.0 x.since.0 x.cur c.in-None.ensures.none waits)
    (c.open_cores.ensures r)
