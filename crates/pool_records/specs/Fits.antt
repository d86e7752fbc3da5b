-- The numbers of a pool are in range.
use Rattle.sched_model.specs.CheckedMachine.{most_span}
use Rattle.std.specs.Prelude.{◌≤◌, ◌<◌, length}
use Rattle.std.specs.Option.{ForSome}
use Rattle.std.specs.List.{All, AllByRecursion}
use Rattle.sched_base.specs.declared.Moment.{Moment}
use Rattle.sched_base.specs.declared.Span.{Span}
use Rattle.sched_model.specs.declared.state.Vcpu.{Vcpu}
use Rattle.sched_model.specs.declared.state.Domain.{Domain}
use Rattle.sched_model.specs.declared.state.Pool.{Pool}
use Rattle.sched_laws.specs.EachPlace.{AllPlaces}

-- the spans of its script, the moment from which its work is counted and the work left are at most 10^13 nanoseconds, and its place is
-- one of at most 64
pub record VcpuFits (v : Vcpu) : Type 0 where
  pub spans : All (λ (s : Span). s.0 ≤ most_span) v.script
  pub place : v.place < 64
  pub started : ForSome v.started (λ (from : Moment). from.0 ≤ most_span)
  pub work_left : ForSome v.work_left (λ (work : Span). work.0 ≤ most_span)

-- a domain has at most 32 vCPUs, and each of them does
pub record DomainFits (domain : Domain) : Type 0 where
  pub few : length domain.vcpus ≤ 32
  pub vcpus : AllByRecursion VcpuFits domain.vcpus

-- the pool has places for at most 64 cores and 64 domains, and its domains fit
pub record PoolFits (pool : Pool) : Type 0 where
  pub cores : length pool.resources ≤ 64
  pub few_domains : length pool.domains ≤ 64
  pub domains : AllPlaces DomainFits pool.domains
