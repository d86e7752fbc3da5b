-- The scheduler of a pool has records of the domains that the pool has, and of no other.
use Rattle.std.proofs.Common.{◌≡◌, ℕ, true, List, refl, subst}
use Rattle.std.specs.Prelude.{Option, Some, None, is_some}
use Rattle.sched_model.specs.declared.event.Entry.{Entry}
use Rattle.sched_model.specs.declared.machine.Machine.{Machine}
use Rattle.sched_model.specs.declared.state.Domain.{Domain}
use Rattle.sched_model.specs.declared.state.Pool.{Pool}
use Rattle.sched_model.specs.declared.state.Credit2Domain.{Credit2Domain}
use Rattle.sched_model.specs.declared.state.Credit2Records.{Credit2Records}
use Rattle.sched_model.specs.declared.state.Records.{Records}
use Rattle.sched_model.specs.declared.state.Records.TheVariants.{Credit2Pool, RtdsPool}
use Rattle.sched_model.specs.declared.state.RtdsUnit.{RtdsUnit}
use Rattle.sched_model.specs.CheckedMachine.{IsChecked}
use Rattle.sched_model.specs.Places.{at_place}
use Rattle.sched_model.specs.Runs.{IsRun}
use Rattle.sched_laws.specs.StateLaws.{state_after}
use Rattle.state_ranges.specs.Records.{IsUnrecorded}
use Rattle.state_ranges.proofs.RecordsLaw.{has_records}
use Rattle.moment_laws.specs.Stretches.{units}

module _ (m : Machine) (checked : IsChecked m) (entries : List Entry) (run : IsRun m entries) (i : ℕ) (pool : Pool) (at : at_place (state_after m entries).pools i ≡ Some pool) where
  -- of a domain that the pool does not have there is no record
  unrecorded : (records : Records) → pool.scheduler.records ≡ records → (d : ℕ) → at_place pool.domains d ≡ None → IsUnrecorded records d
  unrecorded records is d none = subst (λ (y : Records). IsUnrecorded y d) is ((has_records m checked entries run i pool at).others d none)

  pub has_own_credit2 : (rs : Credit2Records) → pool.scheduler.records ≡ Credit2Pool rs → (d : ℕ) (x : Credit2Domain) → at_place rs.domains d ≡ Some x → is_some (at_place pool.domains d) ≡ true
  has_own_credit2 rs is d x has = by_place (at_place pool.domains d) refl
    where
      by_place : (o : Option Domain) → at_place pool.domains d ≡ o → is_some o ≡ true
      by_place None none = absurd (let nothing : at_place rs.domains d ≡ None = unrecorded (Credit2Pool rs) is d none in cc)
      by_place (Some y) there = refl

  pub has_own_rtds : (xs : List (Option (List RtdsUnit))) → pool.scheduler.records ≡ RtdsPool xs → (d : ℕ) (units : List RtdsUnit) → at_place xs d ≡ Some units → is_some (at_place pool.domains d) ≡ true
  has_own_rtds xs is d units has = by_place (at_place pool.domains d) refl
    where
      by_place : (o : Option Domain) → at_place pool.domains d ≡ o → is_some o ≡ true
      by_place None none = absurd (let nothing : at_place xs d ≡ None = unrecorded (RtdsPool xs) is d none in cc)
      by_place (Some y) there = refl
