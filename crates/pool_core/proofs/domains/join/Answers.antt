use Rattle.std.proofs.Common.{◌≡◌, ◌<◌, ℕ, sym, ap, subst, ◌∙◌}
use Rattle.sched_model.specs.declared.state.Pool.{Pool}
use Rattle.sched_model.specs.declared.state.Scheduler.{Scheduler}
use Rattle.sched_model.specs.Places.{put_at}
use Rattle.sched_model.specs.Policy as policy
use Rattle.sched_model.specs.Pool.{domain_unit_count}
use Rattle.policy_laws.proofs.Members.{joined}
use Rattle.unit_state.specs.Seen as guests
use Rattle.pool_core.specs.Domains.{MayQueue}
use Rattle.sched_base.specs.Units.{unit_id}
use Rattle.pool_core.specs.Seen.{pool_of}
use Rattle.pool_core.proofs.Comers.{comers_may}
use Rattle.pool_core.proofs.domains.join.Goals as goal

pub queue_units-requires : goal.queue_units-requires
queue_units-requires g c =
    let before : Pool = pool_of c.args.guests.now c.args.cores.now (g.P.Policy.seen c.args.policy.now) in
    let count : c.unit_count-count.result ≡ domain_unit_count c.args.guests.now.granularity c.args.part.domain = c.unit_count-count.ensures.count ∙ ap (λ (k : ℕ). domain_unit_count k c.args.part.domain) c.requires.granularity in
    let scheduler : (g.P.Policy.seen c.join.new.self).scheduler ≡ policy.joined_scheduler c.args.part.d.0 (domain_unit_count c.args.guests.now.granularity c.args.part.domain) c.args.params.now c.args.t.0 (g.P.Policy.seen c.args.policy.now).scheduler =
    c.join.ensures.scheduler ∙ ap (λ (k : ℕ). policy.joined_scheduler c.args.part.d.0 k c.args.params.now c.args.t.0 (g.P.Policy.seen c.args.policy.now).scheduler) count in
    let after : pool_of c.add.new.self c.args.cores.now (g.P.Policy.seen c.join.new.self) ≡ joined c.args.guests.now.granularity c.args.t.0 c.args.part.d.0 c.args.part.domain c.args.params.now before =
    ap (λ (x : guests.Seen). pool_of x c.args.cores.now (g.P.Policy.seen c.join.new.self)) c.add.ensures
    ∙ ap (λ (s : Scheduler). record before { domains = put_at c.args.part.d.0 c.args.part.domain c.args.guests.now.domains; scheduler = s }) scheduler in
    record {
      may = λ n low. subst (λ (pool : Pool). MayQueue pool (unit_id c.args.part.d.0 n)) (sym after)
          (comers_may c.args.guests.now.granularity c.args.t.0 c.args.part.d.0 before c.requires.holds c.requires.absent n c.args.part.domain c.args.params.now c.requires.place (subst (λ (k : ℕ). n < k) count low));
    }
