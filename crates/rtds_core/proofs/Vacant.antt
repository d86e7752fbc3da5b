-- A scheduler that no domain has joined.
use Rattle.std.proofs.Common.{◌≡◌, ℕ, zero, suc, true, false, List, [], ◌∷◌, ◌++◌, refl, ap, sym, ◌∙◌, length}
use Rattle.std.specs.Prelude.{Option, Some, None, is_some, replicate}
use Rattle.std.specs.List.{AllByRecursion}
use Rattle.sched_base.specs.declared.Cores.{Cores}
use Rattle.sched_base.specs.declared.Moment.{Moment}
use Rattle.sched_base.specs.declared.UnitId.{UnitId}
use Rattle.sched_model.specs.Places.{at_place}
use Rattle.sched_model.specs.declared.state.RtdsUnit.{RtdsUnit}
use Rattle.arrival_queue.specs.Queues.{Queued}
use Rattle.rtds_queue.specs.Lists.{Lists}
use Rattle.queue_laws.specs.Arrivals.{arrivals}
use Rattle.rtds_core.specs.Best.{queue_of, IsEligible, IsSpent}
use Rattle.rtds_core.specs.RtdsParts.{IsKept}
use Rattle.std.specs.List.{list_any}
use Rattle.std.proofs.lemmas.Bool.{not-true}
use Rattle.sched_model.specs.declared.config.PoolParams.TheVariants as pool_params
use Rattle.sched_model.specs.declared.state.Scheduler.{Scheduler}
use Rattle.sched_model.specs.declared.state.Records.TheVariants.{RtdsPool}
use Rattle.sched_ops.specs.Seen.{restarted_scheduler}
use Rattle.sched_ops.specs.Conditions.{is_vacant}
use Rattle.queue_laws.specs.Arrivals.{arrivals}
use Rattle.rtds_core.specs.RtdsParts.{seen_of}
use Rattle.rtds_core.proofs.Joining.{no_record, absent_size}

-- places that are all empty
all_none : {X : Type 0} (places : List (Option X)) → ((d : ℕ) → at_place places d ≡ None) → replicate (length places) None ≡ places
all_none [] none = refl
all_none {X} (o ∷ places) none = ap (λ (p : Option X). p ∷ replicate (length places) None) (sym (none 0)) ∙ ap (λ (xs : List (Option X)). o ∷ xs) (all_none places (λ d. none (suc d)))

none_some : {X : Type 0} (places : List (Option X)) → list_any is_some places ≡ false → (d : ℕ) → at_place places d ≡ None
none_some [] none d = refl
none_some (None ∷ places) none zero = refl
none_some (Some x ∷ places) none d = absurd (cc)
none_some (None ∷ places) none (suc d) = none_some places none d

abbrev with_parts : List UnitId → List (Option (List Cores)) → List (Option (List RtdsUnit)) → Scheduler
with_parts us a ds = record { queue = us; affinity = a; records = RtdsPool ds }

pub vacant_same : (domains : List (Option (List RtdsUnit))) (affinity : List (Option (List Cores))) (q : Lists) (masks : List Cores) (dues : List (Option Moment)) (spare latest : ℕ) → IsKept domains affinity q masks dues spare latest
    → is_vacant (seen_of domains affinity q spare latest).scheduler ≡ true → restarted_scheduler pool_params.Rtds (seen_of domains affinity q spare latest).scheduler ≡ (seen_of domains affinity q spare latest).scheduler
vacant_same domains affinity q masks dues spare latest kept vacant =
    let sets : (d : ℕ) → at_place affinity d ≡ None = none_some affinity (not-true (list_any is_some affinity) vacant) in
    let records : (d : ℕ) → at_place domains d ≡ None = λ d. absent_size (at_place domains d) (at_place affinity d) (kept.shape.same d) (sets d) in
    let both_empty : q.eligible ++ q.spent ≡ [] = ap (λ (es : List Queued). es ++ q.spent) (no_eligible records q.eligible kept.queued.eligible) ∙ no_spent records q.spent kept.queued.spent in
    ap (λ (us : List UnitId). with_parts us (replicate (length affinity) None) (replicate (length affinity) None)) (sym (ap arrivals both_empty))
    ∙ ap (λ (a : List (Option (List Cores))). with_parts (queue_of q) a (replicate (length affinity) None)) (all_none affinity sets)
    ∙ ap (λ (n : ℕ). with_parts (queue_of q) affinity (replicate n None)) (sym kept.shape.places)
    ∙ ap (λ (ds : List (Option (List RtdsUnit))). with_parts (queue_of q) affinity ds) (all_none domains records)
  where
    no_eligible : ((d : ℕ) → at_place domains d ≡ None) → (es : List Queued) → AllByRecursion (IsEligible domains) es → es ≡ []
    no_eligible none [] each = refl
    no_eligible none (e ∷ es) each = (let f : ◌≡◌ {A = Option RtdsUnit} None (Some each.0.unit) = sym (no_record domains e.unit (none e.unit.dom.0)) ∙ each.0.at in absurd (cc))

    no_spent : ((d : ℕ) → at_place domains d ≡ None) → (es : List Queued) → AllByRecursion (IsSpent domains) es → es ≡ []
    no_spent none [] each = refl
    no_spent none (e ∷ es) each = (let f : ◌≡◌ {A = Option RtdsUnit} None (Some each.0.unit) = sym (no_record domains e.unit (none e.unit.dom.0)) ∙ each.0.at in absurd (cc))
