use Rattle.std.proofs.Common.{◌≡◌, ◌<◌, ◌≤◌, ◌+◌, ◌*◌, ◌%◌, ℕ, false, length, sym, ap, subst, ◌∙◌, arith}
use Rattle.std.specs.Prelude.{Some}
use Rattle.sched_base.specs.declared.UnitId.{UnitId}
use Rattle.sched_model.specs.declared.state.Resource.{Resource}
use Rattle.sched_model.specs.Places.{first_place, is_unit}
use Rattle.sched_model.specs.Pool.{vcpu_unit}
use Rattle.core_state.proofs.ChangeLemmas.{first_below}
use Rattle.pool_core.specs.Seen.{pool_of}
use Rattle.pool_core.specs.Wakes.{idles_among}
use Rattle.pool_core.proofs.Joining.{not_joined, sibling_below}
use Rattle.pool_core.proofs.waking.join_siblings.Goals as goal

pub overflow_mul-p : goal.overflow_mul-p
overflow_mul-p c =
    let inside = first_below 0 (λ (x : Resource). is_unit x.cur c.unit_of.result) c.args.cores.now.resources c.in-Some.r (sym c.in-Some.ensures) in
    let below = sibling_below c.args.guests.now.granularity c.in-Some.r c.args.v.n (length c.args.cores.now.resources) c.requires.some (subst (λ (k : ℕ). length c.args.cores.now.resources * k ≤ 64) c.requires.same c.keeps.ensures.places) (omega (arith, inside)) in
    let fits : c.in-Some.r * c.granularity-g.result < 256 = subst (λ (k : ℕ). c.in-Some.r * k < 256) (sym c.granularity-g.ensures) (omega (arith, below)) in
    omega (arith, fits)

pub overflow_add-p : goal.overflow_add-p
overflow_add-p c =
    let inside = first_below 0 (λ (x : Resource). is_unit x.cur c.unit_of.result) c.args.cores.now.resources c.in-Some.r (sym c.in-Some.ensures) in
    let below = sibling_below c.args.guests.now.granularity c.in-Some.r c.args.v.n (length c.args.cores.now.resources) c.requires.some (subst (λ (k : ℕ). length c.args.cores.now.resources * k ≤ 64) c.requires.same c.keeps.ensures.places) (omega (arith, inside)) in
    let fits : c.in-Some.r * c.granularity-g.result + c.args.v.n % c.granularity-g.result < 256 = subst (λ (k : ℕ). c.in-Some.r * k + c.args.v.n % k < 256) (sym c.granularity-g.ensures) (omega (arith, below)) in
    omega (arith, fits)

pub returns-else-is_idle_at-clause-pool : goal.returns-else-is_idle_at-clause-pool
returns-else-is_idle_at-clause-pool c s =
    let unit : c.unit_of.result ≡ vcpu_unit c.args.guests.now.granularity c.args.v = c.unit_of.ensures ∙ ap (λ (k : ℕ). vcpu_unit k c.args.v) c.granularity-g.ensures in
    let own : first_place 0 (λ (x : Resource). is_unit x.cur (vcpu_unit c.args.guests.now.granularity c.args.v)) c.args.cores.now.resources ≡ Some c.in-Some.r =
    ap (λ (u : UnitId). first_place 0 (λ (x : Resource). is_unit x.cur u) c.args.cores.now.resources) (sym unit) ∙ sym c.in-Some.ensures in
    let busy : idles_among c.args.guests.now.granularity c.args.cores.now.resources (c.in-Some.r * c.args.guests.now.granularity + c.args.v.n % c.args.guests.now.granularity) ≡ false =
    subst (λ (k : ℕ). idles_among k c.args.cores.now.resources (c.in-Some.r * c.args.guests.now.granularity + c.args.v.n % c.args.guests.now.granularity) ≡ false) c.requires.same
    (subst (λ (k : ℕ). idles_among c.args.cores.now.granularity c.args.cores.now.resources (c.in-Some.r * k + c.args.v.n % k) ≡ false) c.granularity-g.ensures (sym c.if-is_idle_at.ensures)) in
    not_joined c.args.guests.now.granularity c.args.t.0 c.in-Some.r c.args.v (pool_of c.args.guests.now c.args.cores.now s) own busy
