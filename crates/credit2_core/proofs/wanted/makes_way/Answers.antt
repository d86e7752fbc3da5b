use Rattle.std.proofs.Common.{◌≡◌, ◌∙◌, sym, ap, Bool, true, false, not, arith, rules, w64, FitsSigned}
use Rattle.std.specs.Prelude.{Option, ◌*◌, ◌&&◌, nat_lt, int_lt, ℤ}
use Rattle.std.proofs.lemmas.Int.{to_z-of_z}
use Rattle.sched_base.specs.declared.UnitId.{UnitId}
use Rattle.sched_model.specs.Policy.{has_better_waiting}
use Rattle.sched_model.specs.Credit2.{is_rate_limited, most_weight, change_unit, burned_unit, unit_credit}
use Rattle.scheduler_records.proofs.Ranges.{pool_in_range}
use Rattle.credit2_core.specs.Credit2State.{scheduler_in}
use Rattle.credit2_core.proofs.Ranges.{shared_fits, range_later}
use Rattle.credit2_core.proofs.Best.{some_waits, better_waits_by, has_run, has_not_run}
use Rattle.credit2_core.proofs.wanted.makes_way.Goals as goal

pub is_below-requires-clause-fits : goal.is_below-requires-clause-fits
is_below-requires-clause-fits c =
    pool_in_range c.args.t.0 c.args.state.now.records c.requires.now.early (shared_fits c.args.t.0 c.args.state.now.records (range_later c.args.state.now.latest c.args.t.0 c.args.state.now.records c.requires.now.after c.requires.sound.range))

pub returns-in-None : goal.returns-in-None
returns-in-None c core home low =
    let h = c.args.state.now in
    some_waits h c.args.rival.now.credit c.requires.rival.best c.args.since.0 c.args.t.0 core home low
    ∙ ap (λ (cur : Option UnitId). has_better_waiting cur c.args.since.0 c.args.t.0 core home (scheduler_in h)) (sym c.in-None.is)

pub returns-then-since-rival : goal.returns-then-since-rival
returns-then-since-rival c core home low =
    let h = c.args.state.now in
    let own : UnitId = c.in-Some.own in
    let run : is_rate_limited h.records c.args.since.0 c.args.t.0 ≡ false =
    has_run c.args.since.0 c.args.t.0 c.args.rival.now.started (h.records.limit * 1000) c.requires.rival.started c.requires.since c.if-since-rival.true
    in
    let left : ℤ = unit_credit (change_unit own (burned_unit (most_weight h.records) c.args.t.0) h.records) own in
    let burned : Bool = int_lt left c.args.rival.now.credit in
    let fits : FitsSigned w64 c.args.rival.now.credit = search rules in
    c.is_below.ensures
    ∙ ap (int_lt left) (to_z-of_z w64 c.args.rival.now.credit fits)
    ∙ ap (λ (b : Bool). not b && burned) (sym run)
    ∙ better_waits_by h c.args.rival.now.credit c.requires.rival.best own c.args.since.0 c.args.t.0 core home low c.requires.sound c.requires.rival.free (c.requires.own own c.in-Some.is).member
    ∙ ap (λ (cur : Option UnitId). has_better_waiting cur c.args.since.0 c.args.t.0 core home (scheduler_in h)) (sym c.in-Some.is)

pub returns-else-since-rival : goal.returns-else-since-rival
returns-else-since-rival c core home low =
    let h = c.args.state.now in
    let own : UnitId = c.in-Some.own in
    let within : is_rate_limited h.records c.args.since.0 c.args.t.0 ≡ true =
    has_not_run c.args.since.0 c.args.t.0 c.args.rival.now.started (h.records.limit * 1000) c.requires.rival.started c.requires.since c.if-since-rival.false
    in
    let burned : Bool = int_lt (unit_credit (change_unit own (burned_unit (most_weight h.records) c.args.t.0) h.records) own) c.args.rival.now.credit in
    let late = c.if-since-rival.false in
    let not_early : nat_lt c.args.since.0 c.args.rival.now.started ≡ false = grind (arith, late) in
    not_early
    ∙ ap (λ (b : Bool). not b && burned) (sym within)
    ∙ better_waits_by h c.args.rival.now.credit c.requires.rival.best own c.args.since.0 c.args.t.0 core home low c.requires.sound c.requires.rival.free (c.requires.own own c.in-Some.is).member
    ∙ ap (λ (cur : Option UnitId). has_better_waiting cur c.args.since.0 c.args.t.0 core home (scheduler_in h)) (sym c.in-Some.is)
