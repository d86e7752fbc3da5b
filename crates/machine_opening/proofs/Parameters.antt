-- The parameters of a checked file are in range.
use Rattle.std.proofs.Common.{inl, inr, ◌≡◌, ℕ, subst, arith}
use Rattle.std.proofs.lemmas.List.Elements.{recursion_from_All}
use Rattle.std.specs.Prelude.{Option, Some, None, slice_get}
use Rattle.std.specs.Option.{ForSome, IfSome}
use Rattle.sched_base.proofs.Lists.{each_get}
use Rattle.sched_model.specs.declared.config.Config.{Config}
use Rattle.sched_model.specs.declared.config.DomConfig.{DomConfig}
use Rattle.sched_model.specs.declared.config.DomParams.{DomParams}
use Rattle.sched_model.specs.declared.config.DomParams.TheVariants as dom_params
use Rattle.sched_model.specs.declared.config.Frame.{Frame}
use Rattle.sched_model.specs.declared.config.PoolConfig.{PoolConfig}
use Rattle.sched_model.specs.declared.config.PoolParams.{PoolParams}
use Rattle.sched_model.specs.declared.config.PoolParams.TheVariants as pool_params
use Rattle.sched_model.specs.declared.config.SchedKind.{SchedKind}
use Rattle.sched_model.specs.declared.config.SchedKind.TheVariants as kinds
use Rattle.sched_model.specs.CheckedMachine.{DomParamsPass, IsCheckedConfig, IsCheckedDomain, IsCheckedFrame, IsCheckedPool, PoolParamsPass}
use Rattle.sched_ops.specs.Conditions.{AreDomParams, ArePoolParams}
use Rattle.sched_laws.specs.RecordRanges.{IsFrame}

frame_fits : (config : Config) (frame : Option Frame) → IfSome frame (IsCheckedFrame config) → ForSome frame IsFrame
frame_fits config None fits = λ x e. absurd (cc)
frame_fits config (Some frame) fits = λ x e. (
    let same : frame ≡ x = cc in
    subst IsFrame same (record { some_span = fits.major.least; fits = fits.fits; bounded = fits.major.most }))

-- those of a pool
pool_params_fit : (config : Config) (kind : SchedKind) (params : PoolParams) → PoolParamsPass config kind params → ArePoolParams kind params
pool_params_fit config kinds.Credit2 (pool_params.Credit2 limit) (inl off) = omega (arith, off)
pool_params_fit config kinds.Credit2 (pool_params.Credit2 limit) (inr within) = within.most
pool_params_fit config kinds.Rtds pool_params.Rtds passes = tt
pool_params_fit config kinds.Arinc653 (pool_params.Arinc653 frame) passes = frame_fits config frame passes
pool_params_fit config kinds.Null pool_params.Null passes = tt
pool_params_fit config kinds.Credit2 pool_params.Rtds passes = elim passes [ ]
pool_params_fit config kinds.Credit2 (pool_params.Arinc653 frame) passes = elim passes [ ]
pool_params_fit config kinds.Credit2 pool_params.Null passes = elim passes [ ]
pool_params_fit config kinds.Rtds (pool_params.Credit2 limit) passes = elim passes [ ]
pool_params_fit config kinds.Rtds (pool_params.Arinc653 frame) passes = elim passes [ ]
pool_params_fit config kinds.Rtds pool_params.Null passes = elim passes [ ]
pool_params_fit config kinds.Arinc653 (pool_params.Credit2 limit) passes = elim passes [ ]
pool_params_fit config kinds.Arinc653 pool_params.Rtds passes = elim passes [ ]
pool_params_fit config kinds.Arinc653 pool_params.Null passes = elim passes [ ]
pool_params_fit config kinds.Null (pool_params.Credit2 limit) passes = elim passes [ ]
pool_params_fit config kinds.Null pool_params.Rtds passes = elim passes [ ]
pool_params_fit config kinds.Null (pool_params.Arinc653 frame) passes = elim passes [ ]

-- those of a domain
dom_params_fit : (kind : SchedKind) (params : DomParams) → DomParamsPass kind params → AreDomParams kind params
dom_params_fit kinds.Credit2 (dom_params.Credit2 weight cap) passes = passes
dom_params_fit kinds.Rtds (dom_params.Rtds period budget extra) passes = record { long = passes.0; within = passes.1 }
dom_params_fit kinds.Arinc653 dom_params.Arinc653 passes = tt
dom_params_fit kinds.Null dom_params.Null passes = tt
dom_params_fit kinds.Credit2 (dom_params.Rtds period budget extra) passes = elim passes [ ]
dom_params_fit kinds.Credit2 dom_params.Arinc653 passes = elim passes [ ]
dom_params_fit kinds.Credit2 dom_params.Null passes = elim passes [ ]
dom_params_fit kinds.Rtds (dom_params.Credit2 weight cap) passes = elim passes [ ]
dom_params_fit kinds.Rtds dom_params.Arinc653 passes = elim passes [ ]
dom_params_fit kinds.Rtds dom_params.Null passes = elim passes [ ]
dom_params_fit kinds.Arinc653 (dom_params.Credit2 weight cap) passes = elim passes [ ]
dom_params_fit kinds.Arinc653 (dom_params.Rtds period budget extra) passes = elim passes [ ]
dom_params_fit kinds.Arinc653 dom_params.Null passes = elim passes [ ]
dom_params_fit kinds.Null (dom_params.Credit2 weight cap) passes = elim passes [ ]
dom_params_fit kinds.Null (dom_params.Rtds period budget extra) passes = elim passes [ ]
dom_params_fit kinds.Null dom_params.Arinc653 passes = elim passes [ ]

module _ (config : Config) (home : PoolConfig) where
  -- the pool's own
  pub pool_fits : (i : ℕ) → slice_get config.pools i ≡ Some home → IsCheckedConfig config → ArePoolParams home.kind home.params
  pool_fits i at checked = pool_params_fit config home.kind home.params (each_get (IsCheckedPool config) config.pools i home (recursion_from_All (IsCheckedPool config) config.pools checked.pools) at).params

  -- its domain's
  pub domain_fits : (joining : DomConfig) → slice_get config.pools joining.home.0 ≡ Some home → IsCheckedDomain config joining → AreDomParams home.kind joining.params
  domain_fits joining at checked = dom_params_fit home.kind joining.params (checked.home_pool home at).1
