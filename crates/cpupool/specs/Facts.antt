-- What a command is judged by besides the tool's part of the state.
use Rattle.sched_base.specs.Numbers.{domain as domain_number, pool as pool_number}
use Rattle.std.specs.Prelude.{◌≡◌, ◌≤◌, ℕ, zero, suc, length, List, [], ◌∷◌, Some, None, option_map}
use Rattle.std.specs.Option.{ForSome}
use Rattle.sched_model.specs.declared.command.Command.{Command}
use Rattle.sched_model.specs.declared.command.Command.TheVariants as command
use Rattle.sched_model.specs.declared.command.Which.{Which}
use Rattle.sched_model.specs.declared.facts.Facts.{Facts}
use Rattle.sched_model.specs.declared.facts.Subject.{Subject}
use Rattle.sched_model.specs.declared.facts.Stored.{Stored}
use Rattle.sched_model.specs.Places.{at_place}
use Rattle.sched_model.specs.declared.machine.Machine.{Machine}
use Rattle.sched_model.specs.declared.state.Domain.{Domain}
use Rattle.sched_model.specs.declared.state.Pool.{Pool}
use Rattle.sched_model.specs.declared.state.State.{State}
use Rattle.sched_model.specs.declared.state.Records.{Records}
use Rattle.sched_model.specs.Policy.{pool_rate_limit, unit_stored}
use Rattle.sched_model.specs.Pool.{domain_unit_count}
use Rattle.sched_model.specs.Actions.{home_pool_of_domain}
use Rattle.sched_model.specs.Commands.{meant_pool, meant_domain}

-- a command that names this pool
abbrev pub subject_of_pool : State → Which → Subject
subject_of_pool s which = record { pool = option_map pool_number (meant_pool s which); dom = None }

-- a command that names this domain, and otherwise what the subject is
abbrev pub subject_of_domain : Machine → State → Which → Subject → Subject
subject_of_domain m s which otherwise =
    elim (meant_domain m which) [ None ↦ otherwise | Some d ↦ record { pool = option_map pool_number (home_pool_of_domain s d); dom = Some (domain_number d) } ]

-- neither a pool nor a domain
abbrev pub no_subject : Subject
no_subject = record { pool = None; dom = None }

-- the domain that a command names and its home, or else the pool that it names; the domains in the entries of a frame do not count as named
abbrev pub subject_of : Machine → State → Command → Subject
subject_of m s (command.PoolList None) = no_subject
subject_of m s (command.PoolList (Some which)) = subject_of_pool s which
subject_of m s (command.PoolCreate name kind) = no_subject
subject_of m s (command.PoolDestroy which) = subject_of_pool s which
subject_of m s (command.PoolRename which name) = subject_of_pool s which
subject_of m s (command.CpuAdd which cpu) = subject_of_pool s which
subject_of m s (command.CpuRemove which cpu) = subject_of_pool s which
subject_of m s (command.Migrate which target) = subject_of_domain m s which (subject_of_pool s target)
subject_of m s (command.Credit2Dom which weight cap) = subject_of_domain m s which no_subject
subject_of m s (command.Credit2Pool which limit) = subject_of_pool s which
subject_of m s (command.RtdsDom which vcpu period budget extra) = subject_of_domain m s which no_subject
subject_of m s (command.Pause which) = subject_of_domain m s which no_subject
subject_of m s (command.Unpause which) = subject_of_domain m s which no_subject
subject_of m s (command.ArincSet which major entries) = subject_of_pool s which
subject_of m s (command.Pin which vcpu cpus) = subject_of_domain m s which no_subject

-- the set values of count units of the domain d from first on, up to the first without any
abbrev pub stored_from : Records → ℕ → ℕ → ℕ → List Stored
stored_from records d first zero = []
stored_from records d first (suc count) = elim (unit_stored records (record { dom = domain_number d; n = first })) [ None ↦ [] | Some x ↦ x ∷ stored_from records d (suc first) count ]

-- those of all units of the domain d of the pool
abbrev pub stored_in : ℕ → Pool → ℕ → List Stored
stored_in g pool d = elim (at_place pool.domains d) [ None ↦ [] | Some domain ↦ stored_from pool.scheduler.records d 0 (domain_unit_count g domain) ]

-- the rate limit of the pool, in microseconds, or 0 where there is none
abbrev pub subject_rate : State → Subject → ℕ
subject_rate s subject = elim subject.pool [ None ↦ 0 | Some i ↦ elim (at_place s.pools i.0) [ None ↦ 0 | Some pool ↦ pool_rate_limit pool.scheduler.records ] ]

-- the set values of the domain's units, or none where there is no domain
abbrev pub subject_stored : ℕ → State → Subject → List Stored
subject_stored g s subject =
    elim subject.dom [ None ↦ [] | Some d ↦ elim subject.pool [ None ↦ [] | Some i ↦ elim (at_place s.pools i.0) [ None ↦ [] | Some pool ↦ stored_in g pool d.0 ] ] ]

-- what the command is judged by: the rate limit of its subject's pool, and the set values of its domain's units
abbrev pub command_facts : Machine → State → Command → Facts
command_facts m s c = record { rate = subject_rate s (subject_of m s c); units = subject_stored m.config.granularity s (subject_of m s c) }

-- the domain d has a unit, and its scheduler keeps a value for each of its units
pub record HasValues (g d : ℕ) (pool : Pool) (domain : Domain) : Type 0 where
  pub some_unit : 1 ≤ domain_unit_count g domain
  pub all_units : length (stored_from pool.scheduler.records d 0 (domain_unit_count g domain)) ≡ domain_unit_count g domain

-- the same of the domain d, wherever it is
abbrev pub KeepsValues : ℕ → State → ℕ → Type 0
KeepsValues g s d =
    (i : ℕ) (pool : Pool) (domain : Domain) → home_pool_of_domain s d ≡ Some i → at_place s.pools i ≡ Some pool → at_place pool.domains d ≡ Some domain → HasValues g d pool domain

-- the same of the domain that the command names, if it names one
abbrev pub KeepsFacts : Machine → State → Command → Type 0
KeepsFacts m s c = ForSome (subject_of m s c).dom (λ d. KeepsValues m.config.granularity s d.0)
