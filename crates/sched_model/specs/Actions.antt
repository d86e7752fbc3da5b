-- Where the subjects of actions are.
use Rattle.sched_base.specs.Numbers.{domain as domain_number, core, processor}
use Rattle.std.specs.Prelude.{ℕ, suc, ◌+◌, ◌-◌, ◌/◌, List, [], ◌∷◌, ◌++◌, Option, None, is_some, length, map}
use Rattle.sched_base.specs.declared.UnitId.{UnitId}
use Rattle.sched_base.specs.declared.VcpuId.{VcpuId}
use Rattle.sched_model.specs.declared.config.Config.{Config}
use Rattle.sched_model.specs.declared.config.DomConfig.{DomConfig}
use Rattle.sched_model.specs.Places.{at_place, change_at, first_place, numbers_from}
use Rattle.sched_model.specs.State.{Pool, State}
use Rattle.sched_model.specs.Opening.{machine_core_count}
use Rattle.sched_model.specs.Pool.{Action}
use Rattle.sched_model.specs.declared.action.Action.TheVariants.{Stall, Xl, Moved, DomMoved, Wake, Block, Slice, Repl, Refill, Arrive, Decide, Leave, Save}

-- the pool that has the core
abbrev pub home_pool_of_core : State → ℕ → Option ℕ
home_pool_of_core s r = first_place 0 (λ pool. is_some (at_place pool.resources r)) s.pools

-- the pool that has the domain
abbrev pub home_pool_of_domain : State → ℕ → Option ℕ
home_pool_of_domain s d = first_place 0 (λ pool. is_some (at_place pool.domains d)) s.pools

-- the pool of the action's subject
abbrev pub home_pool_of_action : ℕ → State → Action → Option ℕ
home_pool_of_action g s Stall = None
home_pool_of_action g s Xl = None
home_pool_of_action g s (Moved r) = home_pool_of_core s r.0
home_pool_of_action g s (DomMoved d) = home_pool_of_domain s d.0
home_pool_of_action g s (Wake v) = home_pool_of_domain s v.dom.0
home_pool_of_action g s (Block p) = home_pool_of_core s (p.0 / g)
home_pool_of_action g s (Slice r) = home_pool_of_core s r.0
home_pool_of_action g s (Repl u) = home_pool_of_domain s u.dom.0
home_pool_of_action g s (Refill d) = home_pool_of_domain s d.0
home_pool_of_action g s (Arrive p) = home_pool_of_core s (p.0 / g)
home_pool_of_action g s (Decide r) = home_pool_of_core s r.0
home_pool_of_action g s (Leave p) = home_pool_of_core s (p.0 / g)
home_pool_of_action g s (Save r) = home_pool_of_core s r.0

-- the vCPUs of all domains in order; the first domain of the list has the number d
abbrev pub vcpus_from : ℕ → List DomConfig → List VcpuId
vcpus_from d [] = []
vcpus_from d (domain ∷ domains) = map (λ n. record { dom = domain_number d; n = n }) (numbers_from 0 (length domain.guests)) ++ vcpus_from (suc d) domains

-- how many units a domain of the file has, where a unit has g vCPUs
abbrev pub configured_units : ℕ → DomConfig → ℕ
configured_units g domain = (length domain.guests + g - 1) / g

-- the units of all domains in order; the first domain of the list has the number d
abbrev pub units_from : ℕ → ℕ → List DomConfig → List UnitId
units_from g d [] = []
units_from g d (domain ∷ domains) = map (λ n. record { dom = domain_number d; n = n }) (numbers_from 0 (configured_units g domain)) ++ units_from g (suc d) domains

-- every action there may be, in the order in which a run takes them
abbrev pub candidates : Config → List Action
candidates config =
    let g = config.granularity in
    let cores = numbers_from 0 (machine_core_count config) in
    let processors = numbers_from 0 config.processors in
    let domains = numbers_from 0 (length config.domains) in
    Stall ∷ Xl ∷ map (λ n. Moved (core n)) cores ++ map (λ n. DomMoved (domain_number n)) domains ++ map Wake (vcpus_from 0 config.domains) ++ map (λ n. Block (processor n)) processors
    ++ map (λ n. Slice (core n)) cores ++ map Repl (units_from g 0 config.domains) ++ map (λ n. Refill (domain_number n)) domains ++ map (λ n. Arrive (processor n)) processors
    ++ map (λ n. Decide (core n)) cores ++ map (λ n. Leave (processor n)) processors ++ map (λ n. Save (core n)) cores

-- the pool i changed by f; all else stays
abbrev pub change_pool : ℕ → (Pool → Pool) → State → State
change_pool i f s = record s { pools = change_at i f s.pools }

-- an event of one pool: no stall, no command, and no move to another pool
abbrev pub IsOfPool : Action → Type 0
IsOfPool Stall = ⊥
IsOfPool Xl = ⊥
IsOfPool (Moved r) = ⊥
IsOfPool (DomMoved d) = ⊥
IsOfPool _ = Unit {0}
