use Rattle.std.proofs.Common.{sym, subst}
use Rattle.pool_core.specs.Seen.{IsEmpty, Seen, pool_of}
use Rattle.pool_core.proofs.Coming.{is_vacant_if, open_kept}
use Rattle.pool_core.proofs.Spared.{unsettled}
use Rattle.pool_core.proofs.pool.PoolState.open.Goals as goal

pub restart-requires-clause-vacant : goal.restart-requires-clause-vacant
restart-requires-clause-vacant g c =
    let s = c.self.inside.policy in
    let empty : IsEmpty (pool_of c.self.inside.guests c.self.inside.cores s) = subst (λ (x : Seen). IsEmpty x.pool) (sym c.self.view_is) c.requires.empty in
    is_vacant_if c.self.inside.mark.latest.0 c.self.inside.guests c.self.inside.cores s c.self.invariant.kept empty

pub invariant_of-self : goal.invariant_of-self
invariant_of-self g c = unsettled c.self.inside.mark (
    let s = c.self.inside.policy in
    let empty : IsEmpty (pool_of c.self.inside.guests c.self.inside.cores s) = subst (λ (x : Seen). IsEmpty x.pool) (sym c.self.view_is) c.requires.empty in
    open_kept c.self.inside.mark.latest.0 c.args.params.now c.self.inside.guests c.self.inside.cores s (c.restart.new.self) c.self.invariant.kept empty c.restart.ensures)
