use Rattle.std.proofs.Common.{◌≡◌, ◌+◌, ℕ, true, sym, ap, subst, ◌∙◌}
use Rattle.sched_model.specs.declared.action.Action.TheVariants.{DomMoved}
use Rattle.sched_model.specs.declared.state.Pool.{Pool}
use Rattle.sched_model.specs.Places.{clear_at}
use Rattle.sched_model.specs.Pool.{enabled_in, domain_unit_count}
use Rattle.pool_core.specs.Seen.{Seen, pool_of}
use Rattle.pool_core.proofs.Goers.{goer_here, goer_idle, goer_joined, goer_still}
use Rattle.pool_core.proofs.Parting.{parted_seen, taken_kept}
use Rattle.pool_core.proofs.Spared.{unsettled}
use Rattle.pool_core.proofs.pool.PoolState.take_domain.Goals as goal

pub take-requires-clause-here : goal.take-requires-clause-here
take-requires-clause-here g c =
    let pool : Pool = pool_of c.self.inside.guests c.self.inside.cores (c.self.inside.policy) in
    let on : enabled_in c.self.inside.guests.granularity c.self.inside.mark.latest.0 pool (DomMoved c.args.d) ≡ true = subst (λ (x : Seen). enabled_in x.granularity x.latest x.pool (DomMoved c.args.d) ≡ true) (sym c.self.view_is) c.requires.ready in
    goer_here c.self.inside.guests.granularity c.self.inside.mark.latest.0 c.args.d.0 pool c.self.invariant.kept.pool on

pub take-requires-clause-still : goal.take-requires-clause-still
take-requires-clause-still g c =
    let pool : Pool = pool_of c.self.inside.guests c.self.inside.cores (c.self.inside.policy) in
    let on : enabled_in c.self.inside.guests.granularity c.self.inside.mark.latest.0 pool (DomMoved c.args.d) ≡ true = subst (λ (x : Seen). enabled_in x.granularity x.latest x.pool (DomMoved c.args.d) ≡ true) (sym c.self.view_is) c.requires.ready in
    goer_still c.self.inside.guests.granularity c.self.inside.mark.latest.0 c.args.d.0 pool c.self.invariant.kept.pool on

pub take-requires-clause-joined : goal.take-requires-clause-joined
take-requires-clause-joined g c =
    let pool : Pool = pool_of c.self.inside.guests c.self.inside.cores (c.self.inside.policy) in
    let on : enabled_in c.self.inside.guests.granularity c.self.inside.mark.latest.0 pool (DomMoved c.args.d) ≡ true = subst (λ (x : Seen). enabled_in x.granularity x.latest x.pool (DomMoved c.args.d) ≡ true) (sym c.self.view_is) c.requires.ready in
    goer_joined c.self.inside.guests.granularity c.self.inside.mark.latest.0 c.args.d.0 pool c.self.invariant.kept.pool on

pub take-requires-clause-idle : goal.take-requires-clause-idle
take-requires-clause-idle g c =
    let pool : Pool = pool_of c.self.inside.guests c.self.inside.cores (c.self.inside.policy) in
    let on : enabled_in c.self.inside.guests.granularity c.self.inside.mark.latest.0 pool (DomMoved c.args.d) ≡ true = subst (λ (x : Seen). enabled_in x.granularity x.latest x.pool (DomMoved c.args.d) ≡ true) (sym c.self.view_is) c.requires.ready in
    goer_idle c.self.inside.guests.granularity c.self.inside.mark.latest.0 c.args.d.0 pool c.self.invariant.kept.pool on

pub invariant_of-self : goal.invariant_of-self
invariant_of-self g c = unsettled c.self.inside.mark (
    let s = c.self.inside.policy in
    let pool : Pool = pool_of c.self.inside.guests c.self.inside.cores s in
    let on : enabled_in c.self.inside.guests.granularity c.self.inside.mark.latest.0 pool (DomMoved c.args.d) ≡ true = subst (λ (x : Seen). enabled_in x.granularity x.latest x.pool (DomMoved c.args.d) ≡ true) (sym c.self.view_is) c.requires.ready in
    taken_kept c.self.inside.mark.latest.0 c.args.d.0 c.self.inside.guests c.take.new.guests c.self.inside.cores s (c.take.new.policy) c.take.result.domain c.self.invariant.kept on c.take.ensures.domain (c.take.ensures.pool c.self.inside.cores)
    (c.take.ensures.guests ∙ ap (λ (i : ℕ). record c.self.inside.guests { domains = clear_at c.args.d.0 c.self.inside.guests.domains; spare = c.self.inside.guests.spare + domain_unit_count i c.take.result.domain }) c.take.ensures.granularity)
    c.take.ensures.spare c.take.ensures.latest)

pub returns-clause-after : goal.returns-clause-after
returns-clause-after g c =
    let s = c.self.inside.policy in
    parted_seen c.args.d.0 c.take.result.granularity c.self.inside.mark.latest.0 c.self.inside.in_use c.self.inside.guests c.take.new.guests c.self.inside.cores s (c.take.new.policy) c.take.result.domain c.args.self.now (c.take.ensures.pool c.self.inside.cores) c.take.ensures.guests c.self.view_is
