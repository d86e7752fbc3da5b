use Rattle.sched_base.specs.Numbers.{core}
use Rattle.std.proofs.Common.{◌≡◌, ◌*◌, ℕ, true, sym, ap, subst, ◌∙◌}
use Rattle.sched_model.specs.declared.action.Action.TheVariants.{Moved}
use Rattle.sched_model.specs.declared.state.Pool.{Pool}
use Rattle.sched_model.specs.Places.{clear_at}
use Rattle.sched_model.specs.Pool.{enabled_in}
use Rattle.core_state.specs.Seen.{Seen as CoresSeen, cleared_works}
use Rattle.policy_laws.proofs.Kept.{core_goes, later}
use Rattle.pool_core.specs.Seen.{IsNow, Seen, pool_of}
use Rattle.pool_core.proofs.Coming.{cores_kept, works_go}
use Rattle.pool_core.proofs.Spared.{unsettled_at}
use Rattle.pool_core.proofs.pool.PoolState.detach.Goals as goal

pub invariant_of-self : goal.invariant_of-self
invariant_of-self g c = unsettled_at c.args.t c.unsettled-self-inside.ensures (
    let s = c.self.inside.policy in
    let pool : Pool = pool_of c.self.inside.guests c.self.inside.cores s in
    let k = c.self.inside.guests.granularity in
    let now : IsNow (record { pool = pool; granularity = k; spare = c.self.inside.guests.spare; latest = c.self.inside.mark.latest.0; in_use = c.self.inside.in_use }) c.args.t.0 = subst (λ (x : Seen). IsNow x c.args.t.0) (sym c.self.view_is) c.requires.now in
    let r = c.args.r.0 in
    let on : enabled_in k c.args.t.0 pool (Moved (core r)) ≡ true = subst (λ (x : Seen). enabled_in x.granularity c.args.t.0 x.pool (Moved (core r)) ≡ true) (sym c.self.view_is) c.requires.ready in
    let cores : CoresSeen = c.self.inside.cores in
    let after : c.take.new.self ≡ record cores { resources = clear_at r cores.resources; works = cleared_works (r * k) k cores.works } =
    c.in-Some.ensures.after ∙ ap (λ (i : ℕ). record cores { resources = clear_at r cores.resources; works = cleared_works (r * i) i cores.works }) c.self.invariant.kept.linked.granularity in
    cores_kept c.self.inside.mark.latest.0 c.args.t.0 c.self.inside.guests cores c.take.new.self s (cleared_works (r * k) k cores.works) (clear_at r cores.resources) c.self.invariant.kept now.after now.early after
    (works_go k r cores.works pool c.self.invariant.kept.pool.some c.self.invariant.kept.linked.works)
    (core_goes k c.args.t.0 r pool on (later k c.self.inside.mark.latest.0 c.args.t.0 pool now.after c.self.invariant.kept.pool)))
