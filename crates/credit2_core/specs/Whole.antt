-- Credit2 with or without memory.
use Rattle.std.specs.Prelude.{ℕ, ◌≡◌, ◌+◌, ◌-◌, ◌*◌, ◌==◌, Bool, true, false, not, List, Option, Some, None}
use Rattle.std.specs.Option.{ForSome}
use Rattle.sched_model.specs.declared.config.PoolParams.TheVariants as pool_params
use Rattle.sched_model.specs.declared.state.Credit2Records.{Credit2Records}
use Rattle.sched_model.specs.Credit2.{most_weight}
use Rattle.arrival_queue.specs.Filters.{first_that, has_core_bit}
use Rattle.arrival_queue.specs.Queues.{Queued}
use Rattle.sched_ops.specs.Seen.{Seen, vacant_scheduler}
use Rattle.credit2_core.specs.declared.state.Credit2State.{Credit2State}
use Rattle.queue_laws.specs.Arrivals.{arrivals}
use Rattle.credit2_core.specs.declared.run_queue.Ready.{Ready}
use Rattle.credit2_core.specs.declared.wanted.Rival.{Rival}
use Rattle.credit2_core.specs.Choice.{first_ready_unit, HasBest}
use Rattle.credit2_core.specs.Domains.{AreRunnable, AreRunnableBut}
use Rattle.credit2_core.specs.Credit2State.{IsSound, seen_in}

-- a pool with this rate limit, without places for domains
abbrev pub bare_pool : ℕ → ℕ → Seen
bare_pool limit latest = record { scheduler = vacant_scheduler (pool_params.Credit2 limit) 0 0; spare = 0; latest = latest }

-- what callers see of what is kept; without memory a rate limit and the greatest moment given
abbrev pub seen_by : Option Credit2State → ℕ → ℕ → Seen
seen_by None limit early = bare_pool limit early
seen_by (Some h) limit early = seen_in h

-- what is kept, where there is any, holds
abbrev pub IsWhole : Option Credit2State → Type 0
IsWhole state = ForSome state IsSound

-- the set is that of the domains that may run, the unit the first that waits of one of them, and the weight the greatest
pub record IsReadyIn (h : Credit2State) (ready : Ready) : Type 0 where
  pub domains : AreRunnable h.records.domains ready.domains.0
  pub first : ready.first ≡ first_ready_unit h.records h.queue.units
  pub most : ready.most ≡ most_weight h.records

-- the same, where the record of a domain was written since; the unit, where it stands, is the first by the set that was
pub record IsReadyBut (d : ℕ) (stands : Bool) (records : Credit2Records) (es : List Queued) (ready : Ready) : Type 0 where
  pub domains : AreRunnableBut d records.domains ready.domains.0
  pub first : stands ≡ true → ready.first ≡ first_that (λ u. has_core_bit ready.domains.0 u.dom.0) es
  pub most : ready.most ≡ most_weight records

-- where none was pinned: the greatest weight, the moment before which a unit started that has run for the rate limit at t, and the credit of
-- the best unit that waits
pub record IsRival (h : Credit2State) (t : ℕ) (rival : Rival) : Type 0 where
  pub free : h.unpinned ≡ true
  pub most : rival.most ≡ most_weight h.records
  pub started : rival.started ≡ (t + 1) - h.records.limit * 1000
  pub best : HasBest (arrivals h.queue.units) h.affinity h.records rival.credit

-- whether the unit is the first also where the domain d may run now, or may not
abbrev pub stays_first : Ready → ℕ → Bool → Bool
stays_first ready d true = has_core_bit ready.domains.0 d
stays_first ready d false = elim ready.first [ None ↦ true | Some u ↦ not (u.dom.0 == d) ]

-- and so is what is kept beside it
pub record IsReady (state : Option Credit2State) (ready : Ready) : Type 0 where
  pub whole : IsWhole state
  pub rest : ForSome state (λ (h : Credit2State). IsReadyIn h ready)
