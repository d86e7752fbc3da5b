-- The ranges of the parameters that are given.
use Rattle.std.specs.Prelude.{◌≤◌, ℕ, Option}
use Rattle.std.specs.Option.{ForSome}
use Rattle.sched_model.specs.CheckedMachine.{IsWithin}
use Rattle.sched_model.specs.declared.config.DomParams.{DomParams}
use Rattle.sched_model.specs.declared.config.DomParams.TheVariants as dom_params
use Rattle.sched_model.specs.declared.config.ParamChange.{ParamChange}
use Rattle.sched_model.specs.declared.config.ParamChange.TheVariants as changes

-- the cap of a domain that joins is at most 64 processors, and its period at most 1000 seconds
abbrev pub ParamsFit : DomParams → Type 0
ParamsFit (dom_params.Credit2 weight cap) = cap ≤ 6400
ParamsFit (dom_params.Rtds period budget extra) = period.0 ≤ 1000000000000
ParamsFit dom_params.Arinc653 = Unit {0}
ParamsFit dom_params.Null = Unit {0}

-- a weight and a cap that are given
pub record WeightAndCapFit (new_weight new_cap : Option ℕ) : Type 0 where
  pub weight : ForSome new_weight (IsWithin 1 65535)
  pub cap : ForSome new_cap (λ (c : ℕ). c ≤ 6400)

-- the weight and the cap that a change gives are in range
abbrev pub ChangeFits : ParamChange → Type 0
ChangeFits (changes.Dom d weight cap) = WeightAndCapFit weight cap
ChangeFits (changes.Rate limit) = Unit {0}
ChangeFits (changes.«Unit» u period budget extra) = Unit {0}
ChangeFits (changes.Frame frame) = Unit {0}
ChangeFits (changes.Pin d unit cores) = Unit {0}
