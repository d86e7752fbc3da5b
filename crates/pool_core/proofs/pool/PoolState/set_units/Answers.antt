use Rattle.std.proofs.Common.{◌≤◌, ◌+◌, ℕ, sym, ap, subst, ◌∙◌, arith}
use Rattle.sched_model.specs.declared.state.Pool.{Pool}
use Rattle.sched_model.specs.declared.state.Scheduler.{Scheduler}
use Rattle.sched_model.specs.Commands.{pool_with_rtds}
use Rattle.sched_model.specs.Places.{at_place, numbers_from}
use Rattle.sched_model.specs.Pool.{settled_pool}
use Rattle.unit_state.specs.Seen.{units_at}
use Rattle.pool_core.specs.declared.settling.Mark.{Mark}
use Rattle.pool_core.specs.Seen.{IsNow, Seen, pool_of, seen_at}
use Rattle.pool_core.proofs.Setting.{over_units, set_kept}
use Rattle.pool_core.proofs.Spared.{unsettled_at}
use Rattle.pool_core.proofs.Telling.{few_units}
use Rattle.pool_core.proofs.Withdrawing.{units_known}
use Rattle.pool_core.proofs.pool.PoolState.set_units.Goals as goal

pub set_units-requires-clause-few : goal.set_units-requires-clause-few
set_units-requires-clause-few g c =
    let here : c.args.first + c.args.count ≤ units_at c.self.inside.guests.granularity (at_place c.self.inside.guests.domains c.args.d.0) = subst (λ (x : Seen). c.args.first + c.args.count ≤ units_at x.granularity (at_place x.pool.domains c.args.d.0)) (sym c.self.view_is) c.requires.units in
    let few = few_units c.self.inside.guests c.args.d.0 c.keeps.ensures in
    omega (arith, here, few)

pub set_units-requires-clause-units : goal.set_units-requires-clause-units
set_units-requires-clause-units g c =
    let pool : Pool = pool_of c.self.inside.guests c.self.inside.cores (c.self.inside.policy) in
    let here : c.args.first + c.args.count ≤ units_at c.self.inside.guests.granularity (at_place c.self.inside.guests.domains c.args.d.0) = subst (λ (x : Seen). c.args.first + c.args.count ≤ units_at x.granularity (at_place x.pool.domains c.args.d.0)) (sym c.self.view_is) c.requires.units in
    subst (λ (k : ℕ). c.args.first + c.args.count ≤ k) (sym (units_known c.self.inside.guests.granularity c.args.d.0 pool c.self.invariant.kept.pool.members)) here

pub invariant_of-self : goal.invariant_of-self
invariant_of-self g c = unsettled_at c.args.t c.unsettled-self-inside.ensures (
    let s = c.self.inside.policy in
    let pool : Pool = pool_of c.self.inside.guests c.self.inside.cores s in
    let given = c.args.given in
    let now : IsNow (record { pool = pool; granularity = c.self.inside.guests.granularity; spare = c.self.inside.guests.spare; latest = c.self.inside.mark.latest.0; in_use = c.self.inside.in_use }) c.args.t.0 = subst (λ (x : Seen). IsNow x c.args.t.0) (sym c.self.view_is) c.requires.now in
    set_kept c.args.t.0 given.period given.budget given.extra c.self.inside.mark.latest.0 c.args.d.0 (numbers_from c.args.first c.args.count) c.self.inside.guests c.self.inside.cores s (c.set_units.new.policy) c.self.invariant.kept now.after now.early
    (ap (λ (x : Scheduler). record pool { scheduler = x }) c.set_units.ensures.scheduler ∙ sym (over_units c.args.t.0 given.period given.budget given.extra c.args.d.0 (numbers_from c.args.first c.args.count) pool))
    c.set_units.ensures.spare c.set_units.ensures.latest)

pub returns : goal.returns
returns g c =
    let inside = c.self.inside in
    let t = c.args.t.0 in
    let given = c.args.given in
    let pool : Pool = pool_of inside.guests inside.cores (inside.policy) in
    let after : Pool → Pool = λ p. pool_with_rtds t c.args.d.0 given.period given.budget given.extra (numbers_from c.args.first c.args.count) p in
    let made : ℕ → Pool → Seen = λ n p. record { pool = settled_pool n p; granularity = inside.guests.granularity; spare = inside.guests.spare; latest = n; in_use = inside.in_use } in
    c.look.ensures
    ∙ ap (λ (m : Mark). made m.latest.0 (pool_of inside.guests inside.cores (c.set_units.new.policy))) c.unsettled-self-inside.ensures
    ∙ ap (λ (x : Scheduler). made t (record pool { scheduler = x })) c.set_units.ensures.scheduler
    ∙ sym (ap (made t) (over_units t given.period given.budget given.extra c.args.d.0 (numbers_from c.args.first c.args.count) pool))
    ∙ ap (λ (x : Seen). seen_at t (settled_pool t (after x.pool)) x) c.self.view_is
