use Rattle.std.proofs.Common.{◌≡◌, ◌≤◌, true, false, sym, ap, subst, ◌∙◌, arith}
use Rattle.std.specs.Prelude.{Option, None}
use Rattle.sched_base.specs.declared.UnitId.{UnitId}
use Rattle.sched_model.specs.declared.action.Action.{Action}
use Rattle.sched_model.specs.declared.action.Action.TheVariants.{Repl, Save}
use Rattle.sched_model.specs.declared.state.Pool.{Pool}
use Rattle.sched_model.specs.Pool.{after_in}
use Rattle.core_state.specs.Seen.{Seen as CoresSeen}
use Rattle.pool_laws.specs.CoreLooks.{IsSettled}
use Rattle.pool_core.specs.CoreLooks.{pool_but}
use Rattle.pool_core.specs.declared.events.Outcome.{Outcome}
use Rattle.pool_core.specs.Events.{HasActed, MayAct}
use Rattle.pool_core.specs.Seen.{pool_of}
use Rattle.pool_core.specs.Wakes.{came_by_save}
use Rattle.pool_core.proofs.Acting.{acted, unmoved}
use Rattle.pool_core.proofs.ActedWorks.{works_replenish, works_save}
use Rattle.pool_core.proofs.Replenishing.{timer_is_due}
use Rattle.pool_core.proofs.Spared.{saved_but}
use Rattle.pool_core.proofs.events.act.Goals as goal

pub returns-in-Slice : goal.returns-in-Slice
returns-in-Slice g c =
    let s = g.P.Policy.seen c.args.policy.now in
    subst (λ (a : Action). HasActed c.args.t.0 a c.args.guests.now c.args.guests.now c.args.cores.now c.slice.new.cores s s c.slice.new.out c.slice.result) (sym c.in-Slice.is)
    (c.slice.ensures c.args.t.0 c.args.guests.now s (subst (λ (a : Action). MayAct c.args.t.0 a c.args.guests.now c.args.cores.now s) c.in-Slice.is c.requires.may))

pub replenish-requires-clause-due : goal.replenish-requires-clause-due
replenish-requires-clause-due g c =
    let s = g.P.Policy.seen c.args.policy.now in
    let may : MayAct c.args.t.0 (Repl c.in-Repl.u) c.args.guests.now c.args.cores.now s = subst (λ (a : Action). MayAct c.args.t.0 a c.args.guests.now c.args.cores.now s) c.in-Repl.is c.requires.may in
    timer_is_due c.args.guests.now.granularity c.args.t.0 (pool_of c.args.guests.now c.args.cores.now s) c.in-Repl.u may.kept.pool may.enabled

pub returns-in-Repl : goal.returns-in-Repl
returns-in-Repl g c =
    let s = g.P.Policy.seen c.args.policy.now in
    let s2 = g.P.Policy.seen c.replenish.new.policy in
    let guests = c.args.guests.now in
    let cores : CoresSeen = c.args.cores.now in
    let pool : Pool = pool_of guests cores s in
    let t = c.args.t.0 in
    let u = c.in-Repl.u in
    let outcome : Outcome = record { spares = false; came = None } in
    let may : MayAct t (Repl u) guests cores s = subst (λ (a : Action). MayAct t a guests cores s) c.in-Repl.is c.requires.may in
    let latest : s2.latest ≤ t = (let e = c.replenish.ensures.latest in omega (arith, e)) in
    subst (λ (a : Action). HasActed t a guests guests cores c.replenish.new.cores s s2 c.replenish.result outcome) (sym c.in-Repl.is)
    (acted t guests guests cores c.replenish.new.cores s s2 (Repl u) cores.works c.replenish.result outcome
    may (c.replenish.ensures.event guests) (c.replenish.ensures.pool guests)
    (unmoved t guests cores c.replenish.new.cores s may.kept (ap (λ (x : CoresSeen). x.granularity) c.replenish.ensures.cores))
    latest c.replenish.ensures.room (ap (λ (x : CoresSeen). x.works) c.replenish.ensures.cores)
    (works_replenish guests.granularity t cores.works pool may.kept.pool.known may.kept.linked.works u)
    (λ spares before. absurd (let clash : false ≡ true = spares in cc)))

pub save-requires : goal.save-requires
save-requires g c =
    let s = g.P.Policy.seen c.args.policy.now in
    subst (λ (a : Action). MayAct c.args.t.0 a c.args.guests.now c.args.cores.now s) c.in-Save.is c.requires.may

pub returns-in-Save : goal.returns-in-Save
returns-in-Save g c =
    let s = g.P.Policy.seen c.args.policy.now in
    let s2 = g.P.Policy.seen c.save.new.policy in
    let guests = c.args.guests.now in
    let cores : CoresSeen = c.args.cores.now in
    let pool : Pool = pool_of guests cores s in
    let k = guests.granularity in
    let t = c.args.t.0 in
    let r = c.in-Save.r in
    let outcome : Outcome = record { spares = true; came = c.save.result } in
    let may : MayAct t (Save r) guests cores s = subst (λ (a : Action). MayAct t a guests cores s) c.in-Save.is c.requires.may in
    let latest : s2.latest ≤ t = (let l = may.kept.linked.scheduler_latest in let e = c.save.ensures.room.latest in omega (arith, l, e)) in
    subst (λ (a : Action). HasActed t a guests guests cores c.save.new.cores s s2 c.save.new.out outcome) (sym c.in-Save.is)
    (acted t guests guests cores c.save.new.cores s s2 (Save r) cores.works c.save.new.out outcome
    may c.save.ensures.event c.save.ensures.pool
    (unmoved t guests cores c.save.new.cores s may.kept (ap (λ (x : CoresSeen). x.granularity) c.save.ensures.cores))
    latest c.save.ensures.room.spare (ap (λ (x : CoresSeen). x.works) c.save.ensures.cores)
    (works_save k t cores.works pool may.kept.pool.known may.kept.linked.works r.0)
    (λ spares before. subst (λ (came : Option UnitId). IsSettled t (pool_but came (after_in k t pool (Save r)))) (sym (c.save.ensures.came ∙ ap came_by_save c.save.ensures.event))
    (saved_but k t pool r.0 may.kept.pool may.enabled before)))
