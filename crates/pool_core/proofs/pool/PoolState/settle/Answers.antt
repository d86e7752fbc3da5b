use Rattle.std.proofs.Common.{◌∙◌, sym, subst}
use Rattle.sched_model.specs.declared.state.Pool.{Pool}
use Rattle.pool_core.specs.Seen.{IsNow, Seen, pool_of}
use Rattle.pool_laws.specs.CoreLooks.{IsSettled}
use Rattle.pool_core.proofs.Acting.{kept_later}
use Rattle.pool_core.proofs.Spared.{still_settled, unsettled_at}
use Rattle.pool_core.specs.declared.settling.Mark.{Mark}
use Rattle.pool_core.proofs.pool.PoolState.settle.Goals as goal

pub invariant_of-self : goal.invariant_of-self
invariant_of-self g c =
    let s = c.self.inside.policy in
    let pool : Pool = pool_of c.self.inside.guests c.self.inside.cores s in
    let now : IsNow (record { pool = pool; granularity = c.self.inside.guests.granularity; spare = c.self.inside.guests.spare; latest = c.self.inside.mark.latest.0; in_use = c.self.inside.in_use }) c.args.t.0 = subst (λ (x : Seen). IsNow x c.args.t.0) (sym (c.self.view_is ∙ c.tell.ensures)) c.requires.now in
    unsettled_at c.args.t c.unsettled-self-inside.ensures (kept_later c.self.inside.mark.latest.0 c.args.t.0 c.self.inside.guests c.self.inside.cores s now.after now.early c.self.invariant.kept)

pub look-requires : goal.look-requires
look-requires g c = λ is.
    let s = c.self.inside.policy in
    let pool : Pool = pool_of c.self.inside.guests c.self.inside.cores s in
    subst (λ (m : Mark). IsSettled m.latest.0 pool) (sym c.unsettled-self-inside.ensures) (still_settled c.self.inside.mark c.args.t.0 pool c.self.invariant.settled (sym c.is_settled-settled.ensures ∙ is))
