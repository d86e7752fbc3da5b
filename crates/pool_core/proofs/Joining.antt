-- The processor of a vCPU that wakes, among its siblings.
use Rattle.std.proofs.Common.{◌≡◌, ◌<◌, ◌≤◌, ◌+◌, ◌*◌, ◌%◌, ℕ, suc, Bool, true, false, refl, sym, subst, cond, arith}
use Rattle.std.specs.Prelude.{Option, Some, None}
use Rattle.std.proofs.lemmas.Nat.{mod_below, mul-le}
use Rattle.sched_base.specs.declared.VcpuId.{VcpuId}
use Rattle.sched_model.specs.declared.state.Pool.{Pool}
use Rattle.sched_model.specs.declared.state.Processor.{Processor}
use Rattle.sched_model.specs.Pool as pools
use Rattle.sched_model.specs.Pool.{unit_core, joined_siblings, pool_processor, started_on, vcpu_unit}
use Rattle.pool_core.specs.Wakes.{idles_among}

-- a sibling's processor is one of those of the places
pub sibling_below : (g r n places : ℕ) → 0 < g → places * g ≤ 64 → r < places → r * g + n % g < 64
sibling_below g r n places some few inside =
    let low : n % g < g = mod_below n g some in
    let most : suc r * g ≤ places * g = mul-le (suc r) g places g inside (omega arith) in
    let e : suc r * g ≡ r * g + g = grind arith in
    omega (arith, low, most, e, few)

-- where the processor does not idle, nothing happens
pub not_joined : (g t r : ℕ) (v : VcpuId) (pool : Pool) → unit_core pool (vcpu_unit g v) ≡ Some r → idles_among g pool.resources (r * g + v.n % g) ≡ false → pool ≡ joined_siblings g t v pool
not_joined g t r v pool own busy =
    subst (λ (o : Option ℕ). pool ≡ elim o as (λ _. Pool) [ None ↦ pool | Some k ↦ elim (pool_processor g pool (k * g + v.n % g)) as (λ _. Pool) [ None ↦ pool | Some q ↦ cond (pools.is_idling q) (started_on g t (k * g + v.n % g) v pool) pool ] ]) (sym own)
    (by_processor (pool_processor g pool (r * g + v.n % g)) busy)
  where
    by_idle : (b : Bool) → b ≡ false → pool ≡ cond b (started_on g t (r * g + v.n % g) v pool) pool
    by_idle false e = refl
    by_idle true e = absurd (cc)

    by_processor : (o : Option Processor) → elim o as (λ _. Bool) [ None ↦ false | Some q ↦ pools.is_idling q ] ≡ false → pool ≡ elim o as (λ _. Pool) [ None ↦ pool | Some q ↦ cond (pools.is_idling q) (started_on g t (r * g + v.n % g) v pool) pool ]
    by_processor None e = refl
    by_processor (Some q) e = by_idle (pools.is_idling q) e
