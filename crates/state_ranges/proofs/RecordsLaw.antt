-- The law of records, from what is kept.
use Rattle.std.proofs.Common.{◌≡◌, ℕ, List}
use Rattle.std.specs.Prelude.{Option, Some, None, length}
use Rattle.sched_model.specs.declared.event.Entry.{Entry}
use Rattle.sched_model.specs.declared.machine.Machine.{Machine}
use Rattle.sched_model.specs.declared.state.Domain.{Domain}
use Rattle.sched_model.specs.declared.state.Records.{Records}
use Rattle.sched_model.specs.declared.state.Records.TheVariants.{Credit2Pool, RtdsPool, ArincPool, NullPool}
use Rattle.sched_model.specs.declared.state.Pool.{Pool}
use Rattle.sched_model.specs.Places.{at_place}
use Rattle.sched_model.specs.Pool.{domain_unit_count}
use Rattle.sched_model.specs.Runs.{IsRun}
use Rattle.sched_model.specs.CheckedMachine.{IsChecked}
use Rattle.sched_laws.specs.EachPlace.{EachPlace}
use Rattle.sched_laws.specs.StateLaws.{state_after}
use Rattle.sched_laws.proofs.ApartKept.{apart_after}
use Rattle.sched_laws.proofs.Induction.{kept_by_runs}
use Rattle.sched_laws.proofs.Opened.{apart_opening}
use Rattle.sched_laws.proofs.PoolsLaw.{IsKnown}
use Rattle.sched_laws.proofs.Steps.{step_after}
use Rattle.state_ranges.specs.Records.{IsRecorded, IsUnrecorded, HasRecords}
use Rattle.state_ranges.proofs.Measured.{read_measured, none_measured}
use Rattle.state_ranges.specs.Counts.{shape, units_in}
use Rattle.state_ranges.specs.Counts.{CountsFit, KeepsPool}
use Rattle.state_ranges.proofs.RecordsWalk.{records_steps}
use Rattle.state_ranges.proofs.Opening.{opening_keeps}

keeps_in_runs : (m : Machine) → IsChecked m → (entries : List Entry) → IsRun m entries → IsKnown (KeepsPool m.config.granularity) (state_after m entries)
keeps_in_runs m checked entries run =
    let K : Pool → Type 0 = KeepsPool m.config.granularity in
    kept_by_runs m (IsKnown K)
    (λ s action on here. record {
      apart = apart_after m s s.now action on here.apart;
      pools = step_after (records_steps m s.now) s action tt here.apart (λ r c at. tt) (λ l is. tt) on here.pools;
    })
    (λ s next here. record { apart = record { cores = here.apart.cores; domains = here.apart.domains; free = here.apart.free }; pools = here.pools })
    entries run (record { apart = apart_opening m checked; pools = opening_keeps m checked })

-- what is kept, in the words of the law
recorded : (g : ℕ) (domains : List (Option Domain)) (records : Records) → CountsFit g domains (shape records) → (d : ℕ) (x : Domain) → at_place domains d ≡ Some x → IsRecorded records d (domain_unit_count g x)
recorded g domains (Credit2Pool records) fit d x at = (let r = read_measured units_in d (domain_unit_count g x) records.domains (fit.counts_are d x at) in record { domain = r.0; at = r.1; units = r.2 })
recorded g domains (RtdsPool units) fit d x at = (let r = read_measured length d (domain_unit_count g x) units (fit.counts_are d x at) in record { records = r.0; at = r.1; units = r.2 })
recorded g domains (ArincPool records) fit d x at = tt
recorded g domains (NullPool kept) fit d x at = tt

-- and of no other domain
unrecorded : (g : ℕ) (domains : List (Option Domain)) (records : Records) → CountsFit g domains (shape records) → (d : ℕ) → at_place domains d ≡ None → IsUnrecorded records d
unrecorded g domains (Credit2Pool records) fit d none = none_measured units_in d records.domains (fit.others d none)
unrecorded g domains (RtdsPool units) fit d none = none_measured length d units (fit.others d none)
unrecorded g domains (ArincPool records) fit d none = tt
unrecorded g domains (NullPool kept) fit d none = tt

pub has_records : (m : Machine) → IsChecked m → (entries : List Entry) → IsRun m entries → EachPlace (HasRecords m.config.granularity) (state_after m entries).pools
has_records m checked entries run i pool at =
    let keeps : KeepsPool m.config.granularity pool = (keeps_in_runs m checked entries run).pools i pool at in
    record {
      some_unit = keeps.some_unit;
      recorded = recorded m.config.granularity pool.domains pool.scheduler.records keeps.fit;
      others = unrecorded m.config.granularity pool.domains pool.scheduler.records keeps.fit;
    }
