-- What the sets of cores and the records of a pool have in common, and what is kept beside them.
use Rattle.std.specs.Prelude.{ℕ, List, Option, Some, None, option_map, map, length}
use Rattle.sched_base.specs.Numbers.{moment}
use Rattle.sched_base.specs.declared.Cores.{Cores}
use Rattle.sched_base.specs.declared.Moment.{Moment}
use Rattle.sched_model.specs.declared.state.Credit2Domain.{Credit2Domain}

-- how many units each domain has, by its sets of cores
abbrev pub set_counts : List (Option (List Cores)) → List (Option ℕ)
set_counts affinity = map (λ (o : Option (List Cores)). option_map length o) affinity

-- the same by its records
abbrev pub unit_counts : List (Option Credit2Domain) → List (Option ℕ)
unit_counts domains = map (λ (o : Option Credit2Domain). option_map (λ (d : Credit2Domain). length d.units) o) domains

-- the moment of the domain's next refill
abbrev pub refill_of : Option Credit2Domain → Option Moment
refill_of None = None
refill_of (Some d) = option_map moment d.refill

-- the same of each domain
abbrev pub refills_of : List (Option Credit2Domain) → List (Option Moment)
refills_of domains = map refill_of domains
