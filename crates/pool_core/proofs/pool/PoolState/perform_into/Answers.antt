use Rattle.std.proofs.Common.{◌≡◌, ◌∙◌, true, sym, ap, subst}
use Rattle.sched_base.proofs.Bools.{and_left, and_right}
use Rattle.sched_model.specs.declared.state.Pool.{Pool}
use Rattle.sched_model.specs.Pool.{enabled_in, event_in}
use Rattle.pool_laws.specs.CoreLooks.{IsSettled}
use Rattle.pool_core.specs.declared.settling.Mark.{Mark}
use Rattle.pool_core.specs.CoreLooks.{pool_but}
use Rattle.pool_core.specs.Seen.{IsNow, Seen, pool_of}
use Rattle.pool_core.proofs.Acting.{happened_is, kept_later}
use Rattle.pool_core.proofs.Spared.{still_settled, unsettled_at}
use Rattle.pool_core.proofs.pool.PoolState.perform_into.Goals as goal

pub act-outcome-requires-clause-may : goal.act-outcome-requires-clause-may
act-outcome-requires-clause-may g c =
    let s = c.self.inside.policy in
    let pool : Pool = pool_of c.self.inside.guests c.self.inside.cores s in
    let k = c.self.inside.guests.granularity in
    let now : IsNow (record { pool = pool; granularity = k; spare = c.self.inside.guests.spare; latest = c.self.inside.mark.latest.0; in_use = c.self.inside.in_use }) c.args.t.0 = subst (λ (x : Seen). IsNow x c.args.t.0) (sym (c.self.view_is ∙ c.tell.ensures)) c.requires.now in
    record {
      kept = kept_later c.self.inside.mark.latest.0 c.args.t.0 c.self.inside.guests c.self.inside.cores s now.after now.early c.self.invariant.kept;
      enabled = subst (λ (x : Seen). enabled_in x.granularity c.args.t.0 x.pool c.args.action ≡ true) (sym (c.self.view_is ∙ c.tell.ensures)) c.requires.enabled;
    }

pub invariant_of-self : goal.invariant_of-self
invariant_of-self g c = unsettled_at c.args.t c.unsettled-self-inside.ensures c.act-outcome.ensures.kept

pub look-requires : goal.look-requires
look-requires g c = λ is.
    let s = c.self.inside.policy in
    let pool : Pool = pool_of c.self.inside.guests c.self.inside.cores s in
    let after : Pool = pool_of c.act-outcome.new.guests c.act-outcome.new.cores (c.act-outcome.new.policy) in
    let before : IsSettled c.args.t.0 pool = still_settled c.self.inside.mark c.args.t.0 pool c.self.invariant.settled (sym c.is_settled-settled.ensures ∙ and_left c.is_settled-settled.result c.act-outcome.result.spares is) in
    subst (λ (m : Mark). IsSettled m.latest.0 (pool_but c.act-outcome.result.came after)) (sym c.unsettled-self-inside.ensures)
    (c.act-outcome.ensures.settled (and_right c.is_settled-settled.result c.act-outcome.result.spares is) before)

pub returns-clause-event : goal.returns-clause-event
returns-clause-event g c =
    c.act-outcome.ensures.event ∙ ap (λ (x : Seen). event_in x.granularity c.args.t.0 x.pool c.args.action) (c.self.view_is ∙ c.tell.ensures)

pub returns-clause-after : goal.returns-clause-after
returns-clause-after g c =
    let s = c.self.inside.policy in
    c.remember.ensures
    ∙ c.look.ensures
    ∙ happened_is c.args.t.0 c.unsettled-self-inside.result.latest.0 c.self.inside.guests c.act-outcome.new.guests c.self.inside.cores c.act-outcome.new.cores s (c.act-outcome.new.policy) c.self.inside.mark.latest.0 c.self.inside.in_use c.args.action c.act-outcome.new.out c.act-outcome.result c.args.self.now
    c.act-outcome.ensures (ap (λ (m : Mark). m.latest.0) c.unsettled-self-inside.ensures) (c.self.view_is ∙ c.tell.ensures)
