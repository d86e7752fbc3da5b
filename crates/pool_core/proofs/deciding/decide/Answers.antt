use Rattle.std.proofs.Common.{◌≡◌, ◌<◌, ◌∙◌, length, sym, ap, subst, arith}
use Rattle.std.specs.Prelude.{Option, Some, None, option_map, slice_set}
use Rattle.sched_base.specs.Numbers.{span}
use Rattle.sched_base.specs.declared.Cores.{Cores}
use Rattle.sched_base.specs.declared.Moment.{Moment}
use Rattle.sched_base.specs.declared.Span.{Span}
use Rattle.sched_base.specs.declared.UnitId.{UnitId}
use Rattle.sched_model.specs.declared.ask.Ask.{Ask}
use Rattle.sched_model.specs.declared.event.Event.TheVariants.{Decide}
use Rattle.sched_model.specs.declared.state.Pool.{Pool}
use Rattle.sched_model.specs.declared.state.Resource.{Resource}
use Rattle.sched_model.specs.EligibleUnits.{Decision}
use Rattle.sched_model.specs.Places.{change_at}
use Rattle.sched_model.specs.Policy.{after_decision, decision_of}
use Rattle.sched_model.specs.Pool.{after_decide, core_ask, lateness}
use Rattle.sched_ops.specs.Seen.{Seen as SchedulerSeen}
use Rattle.core_state.specs.Seen.{Seen as CoresSeen, changed_core, chosen_core}
use Rattle.sched_laws.proofs.EachPlace.{place_below}
use Rattle.sched_ops.specs.Conditions.{IsAsked}
use Rattle.core_state.proofs.Arming.{few_places}
use Rattle.pool_core.specs.Seen.{pool_of}
use Rattle.pool_core.proofs.Asking.{may_ask}
use Rattle.pool_core.proofs.deciding.decide.Goals as goal

pub choose-choice-requires : goal.choose-choice-requires
choose-choice-requires g c =
    let asks = may_ask c.args.guests.now.granularity c.args.t.0 (pool_of c.args.guests.now c.args.cores.now (g.P.Policy.seen c.args.policy.now)) c.requires.may.kept.pool c.args.r.0 c.in-Some.c.now (sym c.in-Some.ensures) in
    let few = few_places c.args.cores.now.granularity (length c.args.cores.now.resources) c.keeps.ensures.granularity c.keeps.ensures.places in
    let below : c.args.r.0 < length c.args.cores.now.resources = place_below c.args.cores.now.resources c.args.r.0 c.in-Some.c.now (sym c.in-Some.ensures) in
    record { asked = subst (IsAsked (g.P.Policy.seen c.args.policy.now)) (sym c.ask_of-ask.ensures) (record { now = c.requires.now; since = asks.since; core = omega (arith, few, below); own = asks.own }) }

pub returns-clause-event : goal.returns-clause-event
returns-clause-event g c =
    let s = g.P.Policy.seen c.args.policy.now in
    let k = c.args.guests.now.granularity in
    let pool : Pool = pool_of c.args.guests.now c.args.cores.now s in
    let core = c.in-Some.c.now in
    let choice = c.choose-choice.result in
    let asked : c.ask_of-ask.result ≡ core_ask k c.args.t.0 pool c.args.r.0 core = c.ask_of-ask.ensures ∙ ap (λ (home : Cores). record (core_ask k c.args.t.0 pool c.args.r.0 core) { home = home }) c.home.ensures in
    let made : Option Resource → Decision = λ o. elim o as (λ _. Decision) [ None ↦ record { unit = None; due = None; reset = 0; records = s.scheduler.records } | Some x ↦ decision_of (core_ask k c.args.t.0 pool c.args.r.0 x) s.scheduler ] in
    let late : Option Resource → Span = λ o. elim o as (λ _. Span) [ None ↦ span 0 | Some x ↦ span (lateness c.args.t.0 x) ] in
    let unit : choice.unit ≡ (made (Some core)).unit = c.choose-choice.ensures.answer.unit ∙ ap (λ (a : Ask). (decision_of a s.scheduler).unit) asked in
    let due : choice.due ≡ (made (Some core)).due = c.choose-choice.ensures.answer.due ∙ ap (λ (a : Ask). (decision_of a s.scheduler).due) asked in
    let reset : choice.reset ≡ (made (Some core)).reset = c.choose-choice.ensures.answer.reset ∙ ap (λ (a : Ask). (decision_of a s.scheduler).reset) asked in
    subst (λ (o : Option Resource). Decide c.args.r choice.unit choice.due c.lateness_of-late.result choice.reset ≡ Decide c.args.r (made o).unit (made o).due (late o) (made o).reset) c.in-Some.ensures
    (ap (λ u. Decide c.args.r u choice.due c.lateness_of-late.result choice.reset) unit
    ∙ ap (λ d. Decide c.args.r (made (Some core)).unit d c.lateness_of-late.result choice.reset) due
    ∙ ap (λ l. Decide c.args.r (made (Some core)).unit (made (Some core)).due l choice.reset) c.lateness_of-late.ensures
    ∙ ap (λ n. Decide c.args.r (made (Some core)).unit (made (Some core)).due (late (Some core)) n) reset)

pub returns-clause-pool : goal.returns-clause-pool
returns-clause-pool g c =
    let s = g.P.Policy.seen c.args.policy.now in
    let k = c.args.guests.now.granularity in
    let r = c.args.r.0 in
    let t = c.args.t.0 in
    let cores : CoresSeen = c.args.cores.now in
    let pool : Pool = pool_of c.args.guests.now cores s in
    let core = c.in-Some.c.now in
    let choice = c.choose-choice.result in
    let asked : c.ask_of-ask.result ≡ core_ask k t pool r core = c.ask_of-ask.ensures ∙ ap (λ (home : Cores). record (core_ask k t pool r core) { home = home }) c.home.ensures in
    let made : Decision = decision_of (core_ask k t pool r core) s.scheduler in
    let unit : choice.unit ≡ made.unit = c.choose-choice.ensures.answer.unit ∙ ap (λ (a : Ask). (decision_of a s.scheduler).unit) asked in
    let due : choice.due ≡ made.due = c.choose-choice.ensures.answer.due ∙ ap (λ (a : Ask). (decision_of a s.scheduler).due) asked in
    subst (λ (o : Option Resource). pool_of c.args.guests.now c.decide.new.self (g.P.Policy.seen c.choose-choice.new.self) ≡ elim o as (λ _. Pool) [ None ↦ pool | Some x ↦ after_decide k t r x pool ]) c.in-Some.ensures
    (ap (λ (x : CoresSeen). pool_of c.args.guests.now x (g.P.Policy.seen c.choose-choice.new.self)) c.decide.ensures
    ∙ ap (λ (x : SchedulerSeen). pool_of c.args.guests.now (changed_core r (chosen_core t choice.unit choice.due) cores) x) c.choose-choice.ensures.after
    ∙ ap (λ (a : Ask). record pool { scheduler = after_decision (decision_of a s.scheduler) s.scheduler; resources = change_at r (chosen_core t choice.unit choice.due) cores.resources }) asked
    ∙ ap (λ (u : Option UnitId). record pool { scheduler = after_decision made s.scheduler; resources = change_at r (chosen_core t u choice.due) cores.resources }) unit
    ∙ ap (λ (d : Option Moment). record pool { scheduler = after_decision made s.scheduler; resources = change_at r (chosen_core t made.unit d) cores.resources }) due
    ∙ ap (λ (o : Option Resource). record pool { scheduler = after_decision made s.scheduler; resources = slice_set cores.resources r (option_map (chosen_core t made.unit made.due) o) }) (sym c.in-Some.ensures))
