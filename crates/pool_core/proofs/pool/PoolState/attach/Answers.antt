use Rattle.std.proofs.Common.{◌≡◌, ◌<◌, ◌*◌, ℕ, sym, ap, subst, ◌∙◌, length}
use Rattle.std.specs.Prelude.{None}
use Rattle.sched_model.specs.declared.state.Pool.{Pool}
use Rattle.sched_model.specs.declared.state.Resource.{Resource}
use Rattle.sched_model.specs.Opening.{joined_core}
use Rattle.sched_model.specs.Places.{at_place, put_at}
use Rattle.core_state.specs.Seen.{Seen as CoresSeen, cleared_works}
use Rattle.policy_laws.proofs.Kept.{core_comes, later}
use Rattle.pool_core.specs.Seen.{IsNow, Seen, pool_of}
use Rattle.pool_core.proofs.Coming.{cores_kept, works_come}
use Rattle.pool_core.proofs.Spared.{unsettled_at}
use Rattle.pool_core.proofs.pool.PoolState.attach.Goals as goal

pub invariant_of-self : goal.invariant_of-self
invariant_of-self g c = unsettled_at c.args.t c.unsettled-self-inside.ensures (
    let s = c.self.inside.policy in
    let pool : Pool = pool_of c.self.inside.guests c.self.inside.cores s in
    let k = c.self.inside.guests.granularity in
    let r = c.args.core.now.r.0 in
    let ends = c.args.core.now.stall_ends in
    let now : IsNow (record { pool = pool; granularity = k; spare = c.self.inside.guests.spare; latest = c.self.inside.mark.latest.0; in_use = c.self.inside.in_use }) c.args.t.0 = subst (λ (x : Seen). IsNow x c.args.t.0) (sym c.self.view_is) c.requires.now in
    let place : r < length pool.resources = subst (λ (x : Seen). r < length x.pool.resources) (sym c.self.view_is) c.requires.place in
    let absent : at_place pool.resources r ≡ None = subst (λ (x : Seen). at_place x.pool.resources r ≡ None) (sym c.self.view_is) c.requires.absent in
    let cores : CoresSeen = c.self.inside.cores in
    let after : c.put.new.self ≡ record cores { resources = put_at r (joined_core ends) cores.resources; works = cleared_works (r * k) k cores.works } =
    c.put.ensures ∙ ap (λ (x : Resource). record cores { resources = put_at r x cores.resources; works = cleared_works (r * cores.granularity) cores.granularity cores.works }) c.fresh_core.ensures
    ∙ ap (λ (i : ℕ). record cores { resources = put_at r (joined_core ends) cores.resources; works = cleared_works (r * i) i cores.works }) c.self.invariant.kept.linked.granularity in
    cores_kept c.self.inside.mark.latest.0 c.args.t.0 c.self.inside.guests cores c.put.new.self s (cleared_works (r * k) k cores.works) (put_at r (joined_core ends) cores.resources) c.self.invariant.kept now.after now.early after
    (works_come k r ends cores.works pool c.self.invariant.kept.pool.some place c.self.invariant.kept.linked.works)
    (core_comes k c.args.t.0 r ends pool absent (later k c.self.inside.mark.latest.0 c.args.t.0 pool now.after c.self.invariant.kept.pool)))
