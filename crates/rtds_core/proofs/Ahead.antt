-- What the first of the queue tells of the first that may have a core.
use Rattle.std.proofs.Common.{◌≡◌, ◌<◌, ◌-◌, ℕ, Bool, true, false, List, [], ◌∷◌, refl, sym, ◌∙◌, ap}
use Rattle.std.specs.Prelude.{Option, Some, None, not, ◌||◌, ◌==◌, ◌^◌, if◌then◌else◌}
use Rattle.std.specs.List.{AllByRecursion}
use Rattle.std.proofs.lemmas.Nat.Bits.{bit_at_ones}
use Rattle.sched_base.specs.CoreSets.{has_core_bit, is_core_allowed}
use Rattle.sched_base.specs.declared.Cores.{Cores}
use Rattle.sched_base.specs.declared.UnitId.{UnitId}
use Rattle.sched_model.specs.declared.state.RtdsUnit.{RtdsUnit}
use Rattle.sched_model.specs.EligibleUnits.{rtds_unit_at, is_allowed_by}
use Rattle.sched_model.specs.Policy.{has_better_waiting}
use Rattle.sched_model.specs.Rtds.{is_unit_before, is_record_before}
use Rattle.arrival_queue.specs.declared.key.Key.{Key}
use Rattle.arrival_queue.specs.Queues.{Queued, is_lesser_key, goes_before}
use Rattle.arrival_queue.specs.Filters.{first_of, first_that, may_run}
use Rattle.arrival_queue.specs.Order.{GoesBeforeAll, IsInOrder}
use Rattle.queue_laws.proofs.Keys.{less_back}
use Rattle.queue_laws.proofs.Scan.{not_after}
use Rattle.rtds_queue.specs.Lists.{Lists}
use Rattle.sched_ops.specs.Conditions.{IsOwnOf}
use Rattle.rtds_core.specs.Best.{queue_of, is_waiting_first, AreMasks, AreQueued, IsEligible}
use Rattle.rtds_core.specs.RtdsParts.{IsShaped, seen_of}
use Rattle.rtds_core.specs.WantedCores.{decides_anew}
use Rattle.rtds_core.proofs.Calls.{first_is}
use Rattle.rtds_core.proofs.Changed.{member_record, sets_of}
use Rattle.rtds_core.proofs.First.{IsKnown, before_by_key, first_ahead, key_in, key_is, some_first}
use Rattle.rtds_core.proofs.Queues.{IsOrdered}
use Rattle.std.proofs.Math.Bool.{or-true}

-- the set of all 64 cores has each of them
pub every_core : (r : ℕ) → r < 64 → has_core_bit (2 ^ 64 - 1) r ≡ true
every_core r low = ap (λ n. n == 1) (bit_at_ones 64 r low)

-- where a set has none of the pool's cores, each is allowed
pub all_open : (set home r : ℕ) → r < 64 → (is_none : (has_core_bit set r || true) ≡ is_core_allowed set r home) → has_core_bit (2 ^ 64 - 1) r ≡ is_core_allowed set r home
all_open set home r low is_none = every_core r low ∙ sym (or-true (has_core_bit set r)) ∙ is_none

module _ (domains : List (Option (List RtdsUnit))) (own : UnitId) (p : UnitId → Bool) where
  -- no unit goes before one without a record
  before_none : (u : UnitId) → rtds_unit_at domains own ≡ None → is_unit_before domains u own ≡ false
  before_none u none = by_record (rtds_unit_at domains u)
    where
      by_record : (o : Option RtdsUnit) → elim o as (λ _. Bool) [ None ↦ false | Some a ↦ elim (rtds_unit_at domains own) as (λ _. Bool) [ None ↦ false | Some b ↦ is_record_before a b ] ] ≡ false
      by_record None = refl
      by_record (Some a) = ap (λ (o : Option RtdsUnit). elim o as (λ _. Bool) [ None ↦ false | Some b ↦ is_record_before a b ]) none

  -- a unit behind one that does not go before the core's own does not either
  pub behind : (e x : Queued) → IsEligible domains e → IsEligible domains x → goes_before e x ≡ true → is_unit_before domains e.unit own ≡ false → is_unit_before domains x.unit own ≡ false
  behind e x first other before not_first = by_own (rtds_unit_at domains own) refl
    where
      by_own : (o : Option RtdsUnit) → rtds_unit_at domains own ≡ o → is_unit_before domains x.unit own ≡ false
      by_own None none = before_none x.unit none
      by_own (Some y) at =
          let known : IsKnown domains own = record { unit = y; at = at } in
          let own_key : e.key ≡ key_in domains e.unit = first.key ∙ sym (key_is domains e.unit first.unit first.at) in
          let other_key : x.key ≡ key_in domains x.unit = other.key ∙ sym (key_is domains x.unit other.unit other.at) in
          let after : is_lesser_key (key_in domains x.unit) (key_in domains e.unit) ≡ false =
          ap (λ (k : Key). is_lesser_key k (key_in domains e.unit)) (sym other_key) ∙ ap (is_lesser_key x.key) (sym own_key) ∙ not_after e x before in
          let no_less : is_lesser_key (key_in domains e.unit) (key_in domains own) ≡ false = sym (before_by_key domains e.unit own (record { unit = first.unit; at = first.at }) known) ∙ not_first in
          before_by_key domains x.unit own (record { unit = other.unit; at = other.at }) known ∙ less_back (key_in domains x.unit) (key_in domains e.unit) (key_in domains own) after no_less

  all_behind : (e : Queued) (es : List Queued) → IsEligible domains e → AllByRecursion (IsEligible domains) es → GoesBeforeAll e es → is_unit_before domains e.unit own ≡ false → is_waiting_first domains (first_that p es) own ≡ false
  all_behind e [] first each before not_first = refl
  all_behind e (x ∷ es) first each before not_first =
      elim (p x.unit) as (λ b. is_waiting_first domains (if b then Some x.unit else first_that p es) own ≡ false) [
        | true ↦ behind e x first each.0 before.0 not_first
        | false ↦ all_behind e es first each.1 before.1 not_first
      ]

  -- where the first of all does not go before the core's own, none that passes does
  pub none_ahead : (es : List Queued) (first : UnitId) → AllByRecursion (IsEligible domains) es → IsInOrder es → first_of es ≡ Some first → is_unit_before domains first own ≡ false → is_waiting_first domains (first_that p es) own ≡ false
  none_ahead [] first each order is not_first = refl
  none_ahead (e ∷ es) first each order is not_first =
      let same : first ≡ e.unit = cc in
      let not_own : is_unit_before domains e.unit own ≡ false = ap (λ (u : UnitId). is_unit_before domains u own) (sym same) ∙ not_first in
      elim (p e.unit) as (λ b. is_waiting_first domains (if b then Some e.unit else first_that p es) own ≡ false) [
        | true ↦ not_own
        | false ↦ all_behind e es each.0 each.1 order.0 not_own
      ]

module _ (domains : List (Option (List RtdsUnit))) (affinity : List (Option (List Cores))) (q : Lists) (masks : List Cores) (spare latest : ℕ) (shape : IsShaped domains affinity) (queued : AreQueued domains q) (are : AreMasks affinity masks) (order : IsOrdered q) where
  -- the core's own unit has its set of cores in the table
  pub own_set : (home core : ℕ) (u : UnitId) (x : RtdsUnit) → rtds_unit_at domains u ≡ Some x → may_run masks (record { 0 = core }) (record { 0 = home }) u ≡ is_allowed_by affinity home core u
  own_set home core u x at =
      let s = sets_of domains affinity u x shape at in
      ap (λ (k : ℕ). is_core_allowed k core home) (are.each u s.sets s.at s.inside)

  -- what the first that may have the core tells is what a scan of all that wait does
  pub decided_anew : (t home core : ℕ) (cur : Option UnitId) (since : ℕ) → IsOwnOf (seen_of domains affinity q spare latest).scheduler cur
      → decides_anew domains q masks cur (record { 0 = core }) (record { 0 = home }) ≡ has_better_waiting cur since t core home (seen_of domains affinity q spare latest).scheduler
  decided_anew t home core None since own = some_first domains affinity home core t (queue_of q) _ (first_is domains affinity q masks home core t order shape queued are)
  decided_anew t home core (Some u) since own =
      let known = member_record domains affinity u shape (own u refl).member in
      let first = first_is domains affinity q masks home core t order shape queued are in
      ap (λ (b : Bool). not b || is_waiting_first domains (first_that (λ w. may_run masks (record { 0 = core }) (record { 0 = home }) w) q.eligible) u) (own_set home core u known.0 known.1)
      ∙ ap (λ (b : Bool). not (is_allowed_by affinity home core u) || b) (first_ahead domains affinity home core t u (queue_of q) _ (record { unit = known.0; at = known.1 }) first)
