-- What an RTDS scheduler keeps of its parts.
use Rattle.std.specs.Prelude.{ℕ, ◌+◌, ◌≡◌, ◌≤◌, ◌<◌, ◌||◌, List, [], ◌∷◌, Option, Some, None, is_some, length, option_map, if◌then◌else◌}
use Rattle.sched_base.specs.Numbers.{moment}
use Rattle.sched_base.specs.declared.Cores.{Cores}
use Rattle.sched_base.specs.declared.Moment.{Moment}
use Rattle.sched_base.specs.declared.UnitId.{UnitId}
use Rattle.sched_model.specs.declared.config.SchedKind.TheVariants as kinds
use Rattle.sched_model.specs.Policy.{records_kind}
use Rattle.sched_model.specs.declared.config.PoolParams.TheVariants as pool_params
use Rattle.sched_model.specs.declared.state.RtdsUnit.{RtdsUnit}
use Rattle.sched_model.specs.declared.state.Records.TheVariants.{RtdsPool}
use Rattle.sched_model.specs.Places.{at_place, has_listed_unit}
use Rattle.sched_model.specs.CheckedMachine.{most_span}
use Rattle.sched_model.specs.EligibleUnits.{rtds_unit_at}
use Rattle.sched_laws.specs.EachPlace.{EachPlace}
use Rattle.state_ranges.specs.Fits.{RtdsFit}
use Rattle.due_heap.specs.Dues.{armed_moment}
use Rattle.rtds_queue.specs.Lists.{Lists, count, after_renew}
use Rattle.sched_ops.specs.Seen.{Seen, vacant_scheduler}
use Rattle.rtds_core.specs.Alarms.{with_due}
use Rattle.unit_places.specs.Places.{unit_index}
use Rattle.rtds_core.specs.Best.{queue_of, key_by, AreQueued, AreMasks}

-- the records and the sets of cores are of the same domains and units, at most 64 and 32 of them
pub record IsShaped (domains : List (Option (List RtdsUnit))) (affinity : List (Option (List Cores))) : Type 0 where
  pub places : length domains ≡ length affinity
  pub few : length affinity ≤ 64
  pub same : (d : ℕ) → option_map length (at_place domains d) ≡ option_map length (at_place affinity d)
  pub small : EachPlace (λ (units : List RtdsUnit). length units ≤ 32) domains

-- how many units there are at a place
abbrev pub size : {X : Type 0} → Option (List X) → ℕ
size None = 0
size (Some units) = length units

-- how many units there are at all places
abbrev pub total : {X : Type 0} → List (Option (List X)) → ℕ
total [] = 0
total (o ∷ domains) = size o + total domains

-- the moment at which a unit is replenished, while it waits or is on
abbrev pub due_for : List UnitId → List (Option (List RtdsUnit)) → UnitId → Option Moment
due_for queue domains u = elim (rtds_unit_at domains u) [ None ↦ None | Some x ↦ (if has_listed_unit queue u || is_some x.burned then Some (moment x.deadline) else None) ]

-- the armed moments are those
pub record AreArmed (queue : List UnitId) (domains : List (Option (List RtdsUnit))) (dues : List (Option Moment)) : Type 0 where
  pub count : length dues ≡ 2048
  pub each : (u : UnitId) → u.n < 32 → armed_moment dues (unit_index u) ≡ due_for queue domains u

-- what the parts keep
pub record IsKept (domains : List (Option (List RtdsUnit))) (affinity : List (Option (List Cores))) (q : Lists) (masks : List Cores) (dues : List (Option Moment)) (spare latest : ℕ) : Type 0 where
  pub shape : IsShaped domains affinity
  pub fits : RtdsFit latest domains
  pub early : latest ≤ most_span
  pub queued : AreQueued domains q
  pub room : q.spare + count q ≡ spare + total domains
  pub few : spare + total domains ≤ 256
  pub sets : AreMasks affinity masks
  pub armed : AreArmed (queue_of q) domains dues

-- what callers see of them
abbrev pub seen_of : List (Option (List RtdsUnit)) → List (Option (List Cores)) → Lists → ℕ → ℕ → Seen
seen_of domains affinity q spare latest = record { scheduler = record { queue = queue_of q; affinity = affinity; records = RtdsPool domains }; spare = spare; latest = latest }

-- what callers see where no memory was taken yet
abbrev pub bare_pool : ℕ → Seen
bare_pool latest = record { scheduler = vacant_scheduler pool_params.Rtds 0 0; spare = 0; latest = latest }

-- the queues after the unit was replenished: one that is not on is eligible
abbrev pub renewed_if : Option RtdsUnit → UnitId → Lists → Lists
renewed_if None u q = q
renewed_if (Some x) u q = (if is_some x.burned then q else after_renew q u (key_by x))

-- the dues after the unit was replenished
abbrev pub rearmed_dues : Option RtdsUnit → UnitId → List (Option Moment) → List (Option Moment)
rearmed_dues None u dues = dues
rearmed_dues (Some x) u dues = with_due u (Some (moment x.deadline)) dues

-- the records are of RTDS
abbrev pub IsRtds : Seen → Type 0
IsRtds seen = records_kind seen.scheduler.records ≡ kinds.Rtds
