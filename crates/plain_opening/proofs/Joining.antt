-- The domains of a checked file may join their pools.
use Rattle.std.proofs.Common.{inl, inr, arith}
use Rattle.std.specs.List.{All}
use Rattle.std.proofs.lemmas.Option.{slice_get_cases}
use Rattle.sched_model.specs.declared.config.Config.{Config}
use Rattle.sched_model.specs.declared.config.DomConfig.{DomConfig}
use Rattle.sched_model.specs.declared.config.SchedKind.{SchedKind}
use Rattle.sched_model.specs.declared.config.SchedKind.TheVariants as kinds
use Rattle.sched_model.specs.declared.config.DomParams.{DomParams}
use Rattle.sched_model.specs.declared.config.DomParams.TheVariants as dom_params
use Rattle.sched_model.specs.CheckedMachine.{IsCheckedConfig, IsCheckedDomain, DomParamsPass}
use Rattle.plain_schedulers.specs.Parameters.{ParamsFit}
use Rattle.plain_opening.specs.OpeningPool.{JoinFits}

-- parameters that pass the checks of a scheduler are in range
params_fit : (kind : SchedKind) (params : DomParams) → DomParamsPass kind params → ParamsFit params
params_fit kinds.Credit2 (dom_params.Credit2 weight cap) pass = pass.1
params_fit kinds.Rtds (dom_params.Rtds period budget extra) pass = pass.0.most
params_fit kind dom_params.Arinc653 pass = tt
params_fit kind dom_params.Null pass = tt
params_fit kind params pass = absurd pass

-- a checked domain may join
join_fits : (config : Config) (domain : DomConfig) → IsCheckedDomain config domain → JoinFits domain
join_fits config domain checked = record {
  guests = checked.few_guests;
  params = elim (slice_get_cases config.pools domain.home.0).1 [
    | inl found ↦ params_fit found.0.kind domain.params (checked.home_pool found.0 found.2).1
    | inr past ↦ let home = checked.home in let far = past.0 in absurd (omega arith)
  ];
}

-- all of them
pub joins_fit : (config : Config) → IsCheckedConfig config → All JoinFits config.domains
joins_fit config checked k d inside = join_fits config _ (checked.domains k d inside)
