use Rattle.std.proofs.Common.{◌≡◌, ◌<◌, ◌-◌, ℕ, sym, ap, subst, ◌∙◌, arith, length}
use Rattle.std.specs.Prelude.{None}
use Rattle.sched_model.specs.declared.state.Pool.{Pool}
use Rattle.sched_model.specs.Places.{at_place}
use Rattle.sched_model.specs.Policy.{records_kind}
use Rattle.sched_model.specs.Pool.{domain_unit_count, pool_with_domain}
use Rattle.sched_ops.specs.Conditions.{AreDomParams}
use Rattle.unit_state.specs.Seen.{Seen as GuestsSeen}
use Rattle.policy_laws.specs.Holds.{Holds}
use Rattle.policy_laws.proofs.Kept.{domain_comes, later}
use Rattle.pool_core.specs.PoolState.{AreWorks}
use Rattle.pool_core.specs.Seen.{IsNow, Seen, pool_of}
use Rattle.pool_core.proofs.Giving.{matches, works_given}
use Rattle.pool_core.proofs.Spared.{unsettled_at}
use Rattle.pool_core.proofs.pool.PoolState.give_domain.Goals as goal
use Rattle.pool_core.proofs.Comers.{some_units}

pub invariant_of-self : goal.invariant_of-self
invariant_of-self g c = unsettled_at c.args.t c.unsettled-self-inside.ensures (
    let s = c.self.inside.policy in
    let guests : GuestsSeen = c.self.inside.guests in
    let pool : Pool = pool_of guests c.self.inside.cores s in
    let k = guests.granularity in
    let d = c.args.part.d.0 in
    let domain = c.args.part.domain in
    let now : IsNow (record { pool = pool; granularity = k; spare = guests.spare; latest = c.self.inside.mark.latest.0; in_use = c.self.inside.in_use }) c.args.t.0 = subst (λ (x : Seen). IsNow x c.args.t.0) (sym c.self.view_is) c.requires.now in
    let place : d < length pool.domains = subst (λ (x : Seen). d < length x.pool.domains) (sym c.self.view_is) c.requires.place in
    let absent : at_place pool.domains d ≡ None = subst (λ (x : Seen). at_place x.pool.domains d ≡ None) (sym c.self.view_is) c.requires.absent in
    let params : AreDomParams (records_kind s.scheduler.records) c.args.params.now = subst (λ (x : Seen). AreDomParams (records_kind x.pool.scheduler.records) c.args.params.now) (sym c.self.view_is) c.requires.params in
    let linked = c.self.invariant.kept.linked in
    let next : Pool = pool_with_domain k c.args.t.0 d domain c.args.params.now pool in
    let is : pool_of c.join.new.guests c.self.inside.cores (c.join.new.policy) ≡ next = c.join.ensures.pool in
    let same : c.join.new.guests.granularity ≡ k = ap (λ (x : GuestsSeen). x.granularity) c.join.ensures.guests in
    let spare : c.join.new.guests.spare ≡ guests.spare - domain_unit_count c.args.part.granularity domain = ap (λ (x : GuestsSeen). x.spare) c.join.ensures.guests in
    let latest : c.join.new.guests.latest ≡ guests.latest = ap (λ (x : GuestsSeen). x.latest) c.join.ensures.guests in
    let holds : Holds k c.args.t.0 next = domain_comes k c.args.t.0 d domain c.args.params.now pool c.requires.stays c.requires.part.still absent place (some_units k domain c.self.invariant.kept.pool.some c.requires.part.guests.some) (matches s.scheduler.records c.args.params.now params) (later k c.self.inside.mark.latest.0 c.args.t.0 pool now.after c.self.invariant.kept.pool) in
    let works : AreWorks k c.self.inside.cores.works next = works_given k c.args.t.0 d domain c.args.params.now c.self.inside.cores.works pool absent c.requires.part.still linked.works in
    record {
      linked = record {
        granularity = linked.granularity ∙ sym same;
        guests_latest = (let l = linked.guests_latest in let a = now.after in omega (arith, latest, l, a));
        scheduler_latest = (let l = c.join.ensures.latest in omega (arith, l));
        early = now.early;
        spare = (let a = linked.spare in let b = c.join.ensures.spare in omega (arith, spare, a, b));
        works = subst (λ (i : ℕ). AreWorks i c.self.inside.cores.works (pool_of c.join.new.guests c.self.inside.cores (c.join.new.policy))) (sym same) (subst (AreWorks k c.self.inside.cores.works) (sym is) works);
      };
      pool = subst (λ (i : ℕ). Holds i c.args.t.0 (pool_of c.join.new.guests c.self.inside.cores (c.join.new.policy))) (sym same) (subst (Holds k c.args.t.0) (sym is) holds);
    })
