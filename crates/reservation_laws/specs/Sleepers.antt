-- What an RTDS reservation promises on a pool of one core to a unit that never sleeps, beside others that may.
use Rattle.std.specs.Prelude.{ℕ, ◌+◌, ◌*◌, ◌/◌, ◌%◌, ◌==◌, ◌≡◌, ◌≤◌, Bool, false, not, List, [], ◌∷◌, Some, drop, length, min, slice_get, sum_by, take, if◌then◌else◌}
use Rattle.std.specs.List.{All, list_any}
use Rattle.sched_base.specs.declared.Span.{Span}
use Rattle.sched_base.specs.declared.UnitId.{UnitId}
use Rattle.sched_model.specs.declared.config.PoolConfig.{PoolConfig}
use Rattle.sched_model.specs.declared.config.DomConfig.{DomConfig}
use Rattle.sched_model.specs.declared.config.DomParams.{DomParams}
use Rattle.sched_model.specs.declared.config.DomParams.TheVariants as dom_params
use Rattle.sched_model.specs.declared.config.SchedKind.TheVariants as kinds
use Rattle.sched_model.specs.declared.event.Entry.{Entry}
use Rattle.sched_model.specs.declared.machine.Machine.{Machine}
use Rattle.sched_model.specs.Actions.{configured_units, home_pool_of_domain}
use Rattle.sched_model.specs.Opening.{opening}
use Rattle.sched_model.specs.Places.{numbers_from}
use Rattle.sched_model.specs.Runs.{IsRun}
use Rattle.sched_model.specs.CheckedMachine.{IsChecked}
use Rattle.sched_laws.specs.StateLaws.{state_after}
use Rattle.term_laws.specs.RtdsTerm.{legs, terms}
use Rattle.undisturbed_laws.specs.Undisturbed.{IsUndisturbed}
use Rattle.reservation_laws.specs.Reservations.{GetsBudget, HasOneCoreOf, reservation}

-- whether the unit n of the domain may sleep: no vCPU of it has an empty script
abbrev pub may_sleep : ℕ → DomConfig → ℕ → Bool
may_sleep g domain n = not (list_any (λ (script : List Span). length script == 0) (take g (drop (n * g) domain.guests)))

-- the most that a unit asks for in a span up to one of its deadlines: a budget for each whole period; and where it may sleep, what it has kept for the rest
abbrev pub claim : DomParams → Bool → ℕ → ℕ
claim (dom_params.Rtds period budget extra) sleeps span = budget.0 * (span / period.0) + (if sleeps then min budget.0 (span % period.0) else 0)
claim params sleeps span = 0

-- all units of a domain, and of the domains of the pool i
abbrev pub domain_claims : ℕ → DomConfig → ℕ → ℕ
domain_claims g domain span = sum_by (λ n. claim domain.params (may_sleep g domain n) span) (numbers_from 0 (configured_units g domain))

abbrev pub claims : ℕ → ℕ → List DomConfig → ℕ → ℕ
claims g i [] span = 0
claims g i (domain ∷ domains) span = (if domain.home.0 == i then domain_claims g domain span else 0) + claims g i domains span

-- the pool i is one of RTDS with one core, and nothing happens to the machine from outside
pub record IsCalmRtds (m : Machine) (i : ℕ) : Type 0 where
  pub undisturbed : IsUndisturbed m
  pub r : ℕ
  pub pool : PoolConfig
  pub has : HasOneCoreOf m i r pool
  pub kind : pool.kind ≡ kinds.Rtds

-- the unit never sleeps, and each span of its period and more has room for all claims of the pool
pub record HasRoom (m : Machine) (i : ℕ) (u : UnitId) : Type 0 where
  pub config : DomConfig
  pub there : slice_get m.config.domains u.dom.0 ≡ Some config
  pub wakes : may_sleep m.config.granularity config u.n ≡ false
  pub room : (span : ℕ) → (reservation config.params).1 ≤ span → claims m.config.granularity i m.config.domains span ≤ span

-- such a unit gets its whole budget in each of its terms
abbrev pub GetsBudgetBesideSleepers : Type 0
GetsBudgetBesideSleepers =
    (m : Machine) → IsChecked m → (i : ℕ) → IsCalmRtds m i → (u : UnitId) → HasRoom m i u → (entries : List Entry) → IsRun m entries →
    home_pool_of_domain (opening m) u.dom.0 ≡ Some i → All (GetsBudget (state_after m entries).now (legs (state_after m entries) u entries)) (terms m u entries)
