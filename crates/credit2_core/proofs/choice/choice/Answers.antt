use Rattle.std.proofs.Common.{◌≡◌, ◌∙◌, sym, ap, true, false}
use Rattle.std.specs.Prelude.{Some, is_some, ◌&&◌, filter}
use Rattle.sched_model.specs.declared.ask.Ask.{Ask}
use Rattle.sched_model.specs.Credit2.{credit2_candidate, is_rate_limited}
use Rattle.queue_laws.specs.Arrivals.{arrivals}
use Rattle.credit2_core.specs.Credit2State.{scheduler_in}
use Rattle.credit2_core.specs.Choice.{may_take, richer_of}
use Rattle.credit2_core.proofs.Choosing.{choice_scans}
use Rattle.credit2_core.proofs.Waiting.{greatest_own}
use Rattle.credit2_core.proofs.choice.choice.Goals.{else-is_some-via-then-is_some+else-is_within_limit, else-is_some-via-else-is_some}
use Rattle.credit2_core.proofs.choice.choice.Goals as goal

pub returns-in-Some : goal.returns-in-Some
returns-in-Some c =
    let h = c.args.state.now in
    let ask : Ask = c.args.ask.now in
    let own : credit2_candidate ask (scheduler_in h) h.records ≡ Some c.in-Some.u = sym c.own_candidate-own.ensures ∙ c.in-Some.is in
    let scans : (true && is_rate_limited h.records ask.since.0 ask.at.0) ≡ false = elim c.else-is_some.branch [
      | else-is_some-via-then-is_some+else-is_within_limit w ↦ sym w.is_within_limit.ensures ∙ w.if-is_within_limit.false
      | else-is_some-via-else-is_some w ↦ absurd (let e : is_some c.own_candidate-own.result ≡ false = sym c.is_some.ensures ∙ w.if-is_some.false in let f : true ≡ false = ap is_some (sym c.in-Some.is) ∙ e in cc)
    ] in
    c.richer.ensures
    ∙ ap (richer_of h.records c.in-Some.u) c.best_ready-waiting.ensures
    ∙ sym (greatest_own h.records c.in-Some.u (filter (may_take h.affinity ask.home.0 ask.core.0 h.records) (arrivals h.queue.units)))
    ∙ sym (choice_scans ask (scheduler_in h) h.records (Some c.in-Some.u) c.if-ask.false own scans)
