-- What is kept of a frame, and the scheduler that begins anew with it.
use Rattle.std.proofs.Common.{◌≡◌, ◌≤◌, ◌<◌, ℕ, true, List, [], refl, arith, sym, ◌∙◌, ap, length}
use Rattle.std.specs.Prelude.{Option, Some, None, nat_lt, replicate}
use Rattle.std.specs.Option.{ForSome}
use Rattle.sched_base.specs.declared.UnitId.{UnitId}
use Rattle.sched_base.specs.declared.Cores.{Cores}
use Rattle.sched_model.specs.declared.config.Frame.{Frame}
use Rattle.sched_model.specs.declared.config.PoolParams.{PoolParams}
use Rattle.sched_model.specs.declared.state.ArincRecords.{ArincRecords}
use Rattle.sched_model.specs.declared.state.Records.{Records}
use Rattle.sched_model.specs.declared.state.Records.TheVariants.{ArincPool}
use Rattle.sched_model.specs.Places.{has_listed_unit}
use Rattle.sched_model.specs.Policy.{empty_records}
use Rattle.sched_laws.specs.RecordRanges.{IsFrame}
use Rattle.sched_ops.specs.Conditions.{IsOwnOf, is_vacant}
use Rattle.sched_ops.specs.Seen.{restarted_scheduler}
use Rattle.scheduler_records.specs.Parts.{scheduler_of}
use Rattle.sched_ops.specs.Affinity.{is_member_among}
use Rattle.pool_units.proofs.Whole.{affinity_of_vacant, queue_of_vacant}
use Rattle.arinc_frame.specs.declared.window.Present.{Present}
use Rattle.arinc_frame.specs.Frames.{IsPresent, IsReady}

pub ready_found : (records : ArincRecords) (present found : Option Present) (latest t : ℕ) → latest ≤ t → ForSome found (IsPresent records) → IsReady records present latest → IsReady records found t
ready_found records present found latest t past window ready = record { frame = ready.frame; installed = (let was = ready.installed in omega (arith, was, past)); window = window }

pub ready_later : (records : ArincRecords) (present : Option Present) (latest t : ℕ) → latest ≤ t → IsReady records present latest → IsReady records present t
ready_later records present latest t past ready = ready_found records present present latest t past ready.window ready

pub ready_installed : (frame : Frame) (t : ℕ) → IsFrame frame → IsReady (record { frame = Some frame; installed = t }) None t
ready_installed frame t fits = record { frame = λ x e. (let same : frame ≡ x = cc in rw (← same) fits); installed = omega arith; window = λ x e. absurd (cc) }

-- a pool without domains, with a frame that is installed at 0
pub begun_anew : (queue : List UnitId) (affinity : List (Option (List Cores))) (records : ArincRecords) (params : PoolParams) (frame : Option Frame)
    → ((u : UnitId) → has_listed_unit queue u ≡ true → is_member_among affinity u ≡ true) → is_vacant (scheduler_of queue affinity (ArincPool records)) ≡ true
    → ((domains cores : ℕ) → empty_records params domains cores ≡ ArincPool (record { frame = frame; installed = 0 }))
    → scheduler_of queue affinity (ArincPool (record { frame = frame; installed = 0 })) ≡ restarted_scheduler params (scheduler_of queue affinity (ArincPool records))
begun_anew queue affinity records params frame members vacant fresh =
    ap (λ (q : List UnitId). scheduler_of q affinity (ArincPool (record { frame = frame; installed = 0 }))) (queue_of_vacant queue affinity members vacant)
    ∙ ap (λ (a : List (Option (List Cores))). scheduler_of [] a (ArincPool (record { frame = frame; installed = 0 }))) (affinity_of_vacant affinity vacant)
    ∙ ap (λ (r : Records). scheduler_of [] (replicate (length affinity) None) r) (sym (fresh (length affinity) 0))

-- where no domain has joined, no core has a unit of its own
pub none_own : (records : Records) (cur : Option UnitId) → IsOwnOf (scheduler_of [] [] records) cur → cur ≡ None
none_own records None own = refl
none_own records (Some u) own = absurd (let member : nat_lt u.n 0 ≡ true = (own u refl).member in let low : u.n < 0 = grind (arith, member) in omega (arith, low))
