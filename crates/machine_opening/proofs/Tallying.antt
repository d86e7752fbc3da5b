-- How many pools of a scheduler are in use at the opening.
use Rattle.std.proofs.Common.{◌≡◌, ◌≤◌, ◌∙◌, ℕ, zero, suc, ◌-◌, Bool, true, false, List, [], ◌∷◌, ◌++◌, length, refl, ap, arith}
use Rattle.std.specs.Prelude.{None, cond, filter, map, option_map, replicate, slice_index_or, ◌==◌}
use Rattle.std.specs.List.{All}
use Rattle.std.proofs.lemmas.List.Elements.{All-head, All-tail}
use Rattle.std.proofs.lemmas.Option.{slice_get-get_or}
use Rattle.sched_model.specs.declared.config.Config.{Config}
use Rattle.sched_model.specs.declared.config.DomConfig.{DomConfig}
use Rattle.sched_model.specs.declared.config.PoolConfig.{PoolConfig}
use Rattle.sched_model.specs.declared.config.SchedKind.{SchedKind}
use Rattle.sched_model.specs.declared.machine.Machine.{Machine}
use Rattle.sched_model.specs.declared.state.Pool.{Pool}
use Rattle.sched_model.specs.CheckedMachine.{IsChecked, IsCheckedConfig}
use Rattle.sched_model.specs.Commands.{is_same_kind}
use Rattle.sched_model.specs.Opening.{machine_core_count, opening, pool_at_opening, pools_at_opening, most_pools, pool_with_configured, pool_with_domains, domain_at_opening}
use Rattle.sched_model.specs.Policy.{records_kind}
use Rattle.sched_laws.proofs.EachPlace.{by_cond}
use Rattle.journal_core.specs.Parts.{pool_outline, tool_of}
use Rattle.sched_ops.specs.Conditions.{ArePoolParams}
use Rattle.machine_opening.proofs.Parameters.{pool_fits}
use Rattle.machine_opening.proofs.Pinning.{kind_joined, kind_pinned}
use Rattle.machine_opening.proofs.Restart.{kind_given}
use Rattle.machine_parts.specs.Counts.{configured_of, in_use_of}

-- the domains that come in leave the pool its scheduler
kind_domains : (g i d : ℕ) (domains : List DomConfig) (pool : Pool) → records_kind (pool_with_domains g i d domains pool).scheduler.records ≡ records_kind pool.scheduler.records
kind_domains g i d [] pool = refl
kind_domains g i d (joining ∷ domains) pool =
    kind_domains g i (suc d) domains (cond (joining.home.0 == i) (pool_with_configured g d joining pool) pool)
    ∙ by_cond (λ (p : Pool). records_kind p.scheduler.records ≡ records_kind pool.scheduler.records) (joining.home.0 == i) (pool_with_configured g d joining pool) pool
    (λ is. kind_pinned d 0 joining.pins _ ∙ kind_joined g d (domain_at_opening joining) joining.params pool) (λ is. refl)

-- a pool of the file has its own scheduler's parameters
abbrev Fits : PoolConfig → Type 0
Fits pool = ArePoolParams pool.kind pool.params

all_fit : (config : Config) → IsCheckedConfig config → All Fits config.pools
all_fit config checked = λ k d low. pool_fits config (slice_index_or config.pools k d) k (slice_get-get_or config.pools k d low) checked

kind_opened : (config : Config) (i : ℕ) (pool : PoolConfig) → Fits pool → records_kind (pool_at_opening config i pool).scheduler.records ≡ pool.kind
kind_opened config i pool fits = kind_domains config.granularity i 0 config.domains _ ∙ kind_given pool.kind pool.params (length config.domains) (machine_core_count config) fits

-- an empty place has no pool in use
none_in_use : (kind : SchedKind) (n : ℕ) → in_use_of kind (map (option_map pool_outline) (replicate n None)) ≡ 0
none_in_use kind zero = refl
none_in_use kind (suc n) = none_in_use kind n

counted : (kind : SchedKind) (test : Bool) (pool : PoolConfig) (n : ℕ) (rest : List PoolConfig) → n ≡ length rest → cond test (suc n) n ≡ length (cond test (pool ∷ rest) rest)
counted kind true pool n rest same = ap suc same
counted kind false pool n rest same = same

-- as many pools of the scheduler are in use as the file has
in_use_first : (config : Config) (kind : SchedKind) (i n : ℕ) (pools : List PoolConfig) → All Fits pools
    → in_use_of kind (map (option_map pool_outline) (pools_at_opening config i pools ++ replicate n None)) ≡ configured_of kind pools
in_use_first config kind i n [] fits = none_in_use kind n
in_use_first config kind i n (pool ∷ pools) fits =
    let rest = in_use_first config kind (suc i) n pools (All-tail Fits pool pools fits) in
    let same = kind_opened config i pool (All-head Fits pool pools fits) in
    ap (λ (k : SchedKind). cond (is_same_kind kind k) (suc (in_use_of kind (map (option_map pool_outline) (pools_at_opening config (suc i) pools ++ replicate n None)))) (in_use_of kind (map (option_map pool_outline) (pools_at_opening config (suc i) pools ++ replicate n None)))) same
    ∙ counted kind (is_same_kind kind pool.kind) pool _ (filter (λ (p : PoolConfig). is_same_kind kind p.kind) pools) rest

pub in_use_new : (m : Machine) → IsChecked m → (kind : SchedKind) → in_use_of kind (tool_of (opening m)).pools ≡ configured_of kind m.config.pools
in_use_new m checked kind = in_use_first m.config kind 0 (most_pools - length m.config.pools) m.config.pools (all_fit m.config checked.config)

-- the file has no more of a scheduler than it has
pub few_configured : (kind : SchedKind) (pools : List PoolConfig) → configured_of kind pools ≤ length pools
few_configured kind [] = omega arith
few_configured kind (pool ∷ pools) = (let rest = few_configured kind pools in by_cond (λ (xs : List PoolConfig). length xs ≤ length (pool ∷ pools)) (is_same_kind kind pool.kind) _ _ (λ is. omega (arith, rest)) (λ is. omega (arith, rest)))
