-- The queue of a pool only grows while domains join it.
use Rattle.std.proofs.Common.{◌≡◌, ◌≤◌, ◌+◌, ℕ, suc, true, false, ◌&&◌, List, [], ◌∷◌, ◌++◌, length, refl, sym, ap, subst, cond, arith}
use Rattle.std.specs.Prelude.{Some, None, map, ◌==◌}
use Rattle.std.proofs.lemmas.List.{length-append}
use Rattle.sched_base.specs.Numbers.{domain}
use Rattle.sched_base.specs.declared.UnitId.{UnitId}
use Rattle.sched_base.specs.declared.Cores.{Cores}
use Rattle.sched_model.specs.declared.config.DomConfig.{DomConfig}
use Rattle.sched_model.specs.declared.state.Vcpu.{Vcpu}
use Rattle.sched_model.specs.declared.state.Pool.{Pool}
use Rattle.sched_model.specs.Places.{numbers_from, put_at, change_at}
use Rattle.sched_model.specs.declared.config.ParamChange.TheVariants as changes
use Rattle.sched_model.specs.declared.state.Records.{Records}
use Rattle.sched_model.specs.declared.state.Records.TheVariants.{Credit2Pool, RtdsPool, ArincPool, NullPool}
use Rattle.sched_model.specs.Policy.{joined_scheduler, pinned_cores, changed_records}
use Rattle.sched_model.specs.State.{may_unit_run}
use Rattle.sched_model.specs.Pool.{pool_with_queued_if_off, pool_with_queued_units, queue_unit, is_unit_off, pool_with_domain, domain_unit_count, changed_pool}
use Rattle.plain_opening.specs.OpeningPool.{pool_after_domain}
use Rattle.sched_model.specs.Opening.{vcpu_at_opening, pool_with_pins, pool_with_configured, pool_with_domains, domain_at_opening}
pub use Rattle.sched_laws.proofs.Opened.{with_configured-resources as cores_by_configured}

-- how many units wait
abbrev pub waiting : Pool → ℕ
waiting pool = length pool.scheduler.queue

-- a unit may join
grows_if_off : (g : ℕ) (u : UnitId) (pool : Pool) → waiting pool ≤ waiting (pool_with_queued_if_off g u pool)
grows_if_off g u pool =
    elim (may_unit_run g pool u && is_unit_off pool u) as (λ b. waiting pool ≤ waiting (cond b (queue_unit u pool) pool)) [
      | true ↦ let more : length (pool.scheduler.queue ++ u ∷ []) ≡ length pool.scheduler.queue + 1 = length-append pool.scheduler.queue (u ∷ []) in omega arith
      | false ↦ omega arith
    ]

-- several may
grows_by_units : (g d : ℕ) (ns : List ℕ) (pool : Pool) → waiting pool ≤ waiting (pool_with_queued_units g d ns pool)
grows_by_units g d [] pool = omega arith
grows_by_units g d (n ∷ ns) pool =
    let u : UnitId = record { dom = domain d; n = n } in
    let first = grows_if_off g u pool in
    let rest = grows_by_units g d ns (pool_with_queued_if_off g u pool) in
    omega arith

-- pins leave it as it is
pins_keep : (d n : ℕ) (pins : List Cores) (pool : Pool) → (pool_with_pins d n pins pool).scheduler.queue ≡ pool.scheduler.queue
pins_keep d n [] pool = refl
pins_keep d n (cores ∷ pins) pool = pins_keep d (suc n) pins _

-- as many wait before its pins as after them
pub pinned_waiting : (g d : ℕ) (joining : DomConfig) (pool : Pool) → waiting (pool_with_configured g d joining pool) ≡ waiting (pool_with_domain g 0 d (domain_at_opening joining) joining.params pool)
pinned_waiting g d joining pool = ap (λ (queue : List UnitId). length queue) (pins_keep d 0 joining.pins (pool_with_domain g 0 d (domain_at_opening joining) joining.params pool))

-- one domain joins
grows_by_configured : (g d : ℕ) (joining : DomConfig) (pool : Pool) → waiting pool ≤ waiting (pool_with_configured g d joining pool)
grows_by_configured g d joining pool =
    let more = grows_by_units g d (numbers_from 0 (domain_unit_count g (domain_at_opening joining)))
    (record pool { domains = put_at d (domain_at_opening joining) pool.domains; scheduler = joined_scheduler d (domain_unit_count g (domain_at_opening joining)) joining.params 0 pool.scheduler }) in
    let same = pinned_waiting g d joining pool in
    omega arith

-- several domains join
pub grows_by_domains : (g i d : ℕ) (domains : List DomConfig) (pool : Pool) → waiting pool ≤ waiting (pool_with_domains g i d domains pool)
grows_by_domains g i d [] pool = omega arith
grows_by_domains g i d (joining ∷ domains) pool =
    elim (joining.home.0 == i) as (λ b. waiting pool ≤ waiting (pool_with_domains g i (suc d) domains (cond b (pool_with_configured g d joining pool) pool))) [
      | true ↦ let first = grows_by_configured g d joining pool in let rest = grows_by_domains g i (suc d) domains (pool_with_configured g d joining pool) in omega arith
      | false ↦ grows_by_domains g i (suc d) domains pool
    ]

-- a set of cores for one unit changes the sets of cores alone
pub pinned_once : (d n : ℕ) (cores : Cores) (pool : Pool)
    → let next : Pool = record pool { scheduler = record pool.scheduler { affinity = change_at d (pinned_cores (Some n) cores) pool.scheduler.affinity } } in
    next ≡ changed_pool (changes.Pin (domain d) (Some n) cores) 0 pool
pinned_once d n cores pool =
    let with : Records → Pool = λ records. record pool { scheduler = record pool.scheduler { affinity = change_at d (pinned_cores (Some n) cores) pool.scheduler.affinity; records = records } } in
    ap with (kept_by_pin d n cores pool.scheduler.records)
  where
    kept_by_pin : (d n : ℕ) (cores : Cores) (records : Records) → records ≡ changed_records records (changes.Pin (domain d) (Some n) cores) 0
    kept_by_pin d n cores (Credit2Pool records) = refl
    kept_by_pin d n cores (RtdsPool domains) = refl
    kept_by_pin d n cores (ArincPool records) = refl
    kept_by_pin d n cores (NullPool kept) = refl

-- where at most 256 units wait behind all domains, so they do behind the first
pub room_of_first : (g i d : ℕ) (joining : DomConfig) (domains : List DomConfig) (pool : Pool) → waiting (pool_with_domains g i d (joining ∷ domains) pool) ≤ 256 → waiting (pool_after_domain g i d joining pool) ≤ 256
room_of_first g i d joining domains pool room = let more = grows_by_domains g i (suc d) domains (pool_after_domain g i d joining pool) in omega arith

-- room for the units of a domain, whose vCPUs are those of the file
pub room_of_domain : (g d : ℕ) (joining : DomConfig) (pool : Pool) (vcpus : List Vcpu) → vcpus ≡ map vcpu_at_opening joining.guests → waiting (pool_with_configured g d joining pool) ≤ 256
    → waiting (pool_with_domain g 0 d (record { paused = false; moving = None; vcpus = vcpus }) joining.params pool) ≤ 256
room_of_domain g d joining pool vcpus are room =
    let same = pinned_waiting g d joining pool in
    let P : List Vcpu → Type 0 = λ v. waiting (pool_with_domain g 0 d (record { paused = false; moving = None; vcpus = v }) joining.params pool) ≤ 256 in
    subst P (sym are) (omega arith)
