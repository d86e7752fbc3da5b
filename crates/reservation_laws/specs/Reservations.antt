-- What an RTDS reservation promises on a pool of one core whose guests never sleep.
use Rattle.std.specs.Prelude.{ℕ, ◌^◌, ◌==◌, ◌≡◌, ◌≤◌, List, [], ◌∷◌, ◌++◌, Some, replicate, slice_get, if◌then◌else◌}
use Rattle.std.specs.List.{All}
use Rattle.sched_base.specs.declared.Span.{Span}
use Rattle.sched_base.specs.declared.UnitId.{UnitId}
use Rattle.sched_model.specs.declared.config.PoolConfig.{PoolConfig}
use Rattle.sched_model.specs.declared.config.DomConfig.{DomConfig}
use Rattle.sched_model.specs.declared.config.DomParams.{DomParams}
use Rattle.sched_model.specs.declared.config.DomParams.TheVariants as dom_params
use Rattle.sched_model.specs.declared.config.SchedKind.TheVariants as kinds
use Rattle.sched_model.specs.declared.event.Entry.{Entry}
use Rattle.sched_model.specs.declared.machine.Machine.{Machine}
use Rattle.sched_model.specs.Actions.{configured_units, home_pool_of_domain}
use Rattle.sched_model.specs.Opening.{opening}
use Rattle.sched_model.specs.Runs.{IsRun}
use Rattle.sched_model.specs.CheckedMachine.{IsChecked}
use Rattle.sched_laws.specs.StateLaws.{state_after}
use Rattle.term_laws.specs.Term.{Leg, time_on}
use Rattle.term_laws.specs.RtdsTerm.{RtdsTerm, legs, terms}
use Rattle.service_laws.specs.Demand.{FitOneProcessor}
use Rattle.undisturbed_laws.specs.Undisturbed.{IsUndisturbed}

-- what the parameters reserve: budget and period
abbrev pub reservation : DomParams → ℕ × ℕ
reservation (dom_params.Rtds period budget extra) = (budget.0, period.0)
reservation params = (0, 1)

-- the reservations of the units of the pool i
abbrev pub reservations : ℕ → ℕ → List DomConfig → List (ℕ × ℕ)
reservations g i [] = []
reservations g i (domain ∷ domains) = (if domain.home.0 == i then replicate (configured_units g domain) (reservation domain.params) else []) ++ reservations g i domains

-- the vCPUs of the domain run for ever
abbrev pub NeverSleeps : DomConfig → Type 0
NeverSleeps domain = All (λ (script : List Span). script ≡ []) domain.guests

-- the machine has this pool at i, with the core r alone
pub record HasOneCoreOf (m : Machine) (i r : ℕ) (pool : PoolConfig) : Type 0 where
  pub there : slice_get m.config.pools i ≡ Some pool
  pub core : pool.cores ≡ 2 ^ r

-- an RTDS pool of one core whose guests never sleep and whose reservations fit one processor
pub record IsFeasibleRtds (m : Machine) (i : ℕ) : Type 0 where
  pub undisturbed : IsUndisturbed m
  pub r : ℕ
  pub pool : PoolConfig
  pub has : HasOneCoreOf m i r pool
  pub kind : pool.kind ≡ kinds.Rtds
  pub awake : All (λ (domain : DomConfig). domain.home.0 ≡ i → NeverSleeps domain) m.config.domains
  pub fits : FitOneProcessor (reservations m.config.granularity i m.config.domains)

-- in a term that is over the unit was on a core for its budget at least
abbrev pub GetsBudget : ℕ → List Leg → RtdsTerm → Type 0
GetsBudget now legs t = t.term.until ≤ now → t.term.budget ≤ time_on t.term legs

-- each unit of the pool gets its whole budget in each of its terms
abbrev pub GetsEachBudget : Type 0
GetsEachBudget =
    (m : Machine) → IsChecked m → (i : ℕ) → IsFeasibleRtds m i → (entries : List Entry) → IsRun m entries →
    (u : UnitId) → home_pool_of_domain (opening m) u.dom.0 ≡ Some i → All (GetsBudget (state_after m entries).now (legs (state_after m entries) u entries)) (terms m u entries)
