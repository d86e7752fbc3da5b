-- What one unit that comes to wait asks of the cores.
use Rattle.std.proofs.Common.{◌≡◌, ◌<◌, ℕ, Bool, true, false, List, refl, sym, ◌∙◌, ap, inl, inr}
use Rattle.std.specs.Prelude.{Option, Some, None, ◌&&◌, nat_lt}
use Rattle.std.proofs.lemmas.Bool.{cases_Bool}
use Rattle.sched_base.proofs.Bools.{and_false, and_left, and_right, and_true}
use Rattle.sched_base.specs.CoreSets.{has_core_bit, is_core_allowed}
use Rattle.sched_base.specs.declared.Cores.{Cores}
use Rattle.sched_base.specs.declared.UnitId.{UnitId}
use Rattle.unit_places.specs.Masks.{mask_of}
use Rattle.sched_model.specs.declared.state.RtdsUnit.{RtdsUnit}
use Rattle.sched_model.specs.declared.state.Scheduler.{Scheduler}
use Rattle.sched_model.specs.EligibleUnits.{rtds_unit_at, is_allowed_by, is_unit_eligible}
use Rattle.sched_model.specs.Places.{has_listed_unit}
use Rattle.sched_model.specs.Rtds.{is_unit_before, unit_left_budget}
use Rattle.settle_laws.specs.Wanted.{waits_for}
use Rattle.sched_ops.proofs.Coming.{is_wanted_alone}
use Rattle.sched_ops.specs.WantedCores.{is_asked}
use Rattle.sched_model.specs.declared.state.Resource.{Resource}
use Rattle.rtds_queue.specs.Lists.{Lists, holds}
use Rattle.rtds_core.specs.Best.{AreMasks, AreQueued}
use Rattle.rtds_core.specs.RtdsParts.{IsShaped, seen_of}
use Rattle.rtds_core.specs.WantedCores.{is_outrun, is_ready}
use Rattle.rtds_core.proofs.Ahead.{own_set}
use Rattle.rtds_core.proofs.First.{IsKnown}
use Rattle.rtds_core.proofs.Keeping.{low_queued}
use Rattle.rtds_core.proofs.Queues.{IsOrdered, waits}

-- whether some budget is left by a record
abbrev has_left : Option RtdsUnit → Bool
has_left o = elim o as (λ _. Bool) [ None ↦ false | Some x ↦ nat_lt 0 x.left ]

module _ (domains : List (Option (List RtdsUnit))) (u : UnitId) where
  left_is : has_left (rtds_unit_at domains u) ≡ nat_lt 0 (unit_left_budget domains u)
  left_is = by_record (rtds_unit_at domains u)
    where
      by_record : (o : Option RtdsUnit) → has_left o ≡ nat_lt 0 (elim o as (λ _. ℕ) [ None ↦ 0 | Some x ↦ x.left ])
      by_record None = refl
      by_record (Some x) = refl

  -- a unit with budget left has a record
  known_left : has_left (rtds_unit_at domains u) ≡ true → IsKnown domains u
  known_left = by_record (rtds_unit_at domains u) refl
    where
      by_record : (o : Option RtdsUnit) → rtds_unit_at domains u ≡ o → has_left o ≡ true → IsKnown domains u
      by_record None at some = absurd (cc)
      by_record (Some x) at some = record { unit = x; at = at }

module _ (domains : List (Option (List RtdsUnit))) (affinity : List (Option (List Cores))) (q : Lists) (masks : List Cores) (spare latest : ℕ) (shape : IsShaped domains affinity) (queued : AreQueued domains q) (are : AreMasks affinity masks) (order : IsOrdered q) (u : UnitId) (small : u.n < 256) where
  abbrev scheduler : Scheduler
  scheduler = (seen_of domains affinity q spare latest).scheduler

  listed_is : has_listed_unit scheduler.queue u ≡ holds q u
  listed_is = waits q u small (low_queued domains affinity q shape queued)

  -- one that waits with budget left asks for what it outruns
  pub ready_outruns : (t home core : ℕ) (cur : Option UnitId) (since : ℕ) (open_to : Cores) → is_ready domains q u ≡ true → has_core_bit open_to.0 core ≡ is_core_allowed (mask_of masks u).0 core home
      → is_outrun domains (record { unit = u; cores = open_to }) cur (record { 0 = core }) ≡ (has_listed_unit scheduler.queue u && waits_for cur since t core home scheduler u)
  ready_outruns t home core cur since open_to ready is_open = by_cur cur ∙ sym (ap (λ (b : Bool). b && waits_for cur since t core home scheduler u) (listed_is ∙ and_left (holds q u) (nat_lt 0 (unit_left_budget domains u)) ready))
    where
      some_left : has_left (rtds_unit_at domains u) ≡ true
      some_left = left_is domains u ∙ and_right (holds q u) (nat_lt 0 (unit_left_budget domains u)) ready

      eligible : has_core_bit open_to.0 core ≡ is_unit_eligible scheduler home core t u
      eligible =
          let known = known_left domains u some_left in
          let allowed : Bool = is_allowed_by affinity home core u in
          is_open ∙ own_set domains affinity q masks spare latest shape queued are order home core u known.unit known.at ∙ sym (and_true allowed) ∙ ap (λ (b : Bool). allowed && b) (sym some_left)

      by_cur : (cur : Option UnitId) → is_outrun domains (record { unit = u; cores = open_to }) cur (record { 0 = core }) ≡ waits_for cur since t core home scheduler u
      by_cur None = eligible
      by_cur (Some own) = ap (λ (b : Bool). b && is_unit_before domains u own) eligible

  -- one that does not, asks for nothing
  pub unready_asks : (t home core : ℕ) (cur : Option UnitId) (since : ℕ) → is_ready domains q u ≡ false → (has_listed_unit scheduler.queue u && waits_for cur since t core home scheduler u) ≡ false
  unready_asks t home core cur since unready =
      elim (cases_Bool (holds q u)) [
        | inl has ↦ (
            let spent : has_left (rtds_unit_at domains u) ≡ false = left_is domains u ∙ sym (ap (λ (b : Bool). b && nat_lt 0 (unit_left_budget domains u)) has) ∙ unready in
            ap (λ (b : Bool). has_listed_unit scheduler.queue u && b) (by_cur spent cur) ∙ and_false (has_listed_unit scheduler.queue u))
        | inr none ↦ ap (λ (b : Bool). b && waits_for cur since t core home scheduler u) (listed_is ∙ none)
      ]
    where
      eligible : has_left (rtds_unit_at domains u) ≡ false → is_unit_eligible scheduler home core t u ≡ false
      eligible spent = ap (λ (b : Bool). is_allowed_by affinity home core u && b) spent ∙ and_false (is_allowed_by affinity home core u)

      by_cur : has_left (rtds_unit_at domains u) ≡ false → (cur : Option UnitId) → waits_for cur since t core home scheduler u ≡ false
      by_cur spent None = eligible spent
      by_cur spent (Some own) = ap (λ (b : Bool). b && is_unit_before domains u own) (eligible spent)

  pub unready_alone : (t home r : ℕ) (place : Option Resource) → is_ready domains q u ≡ false → is_wanted_alone t home scheduler u r place ≡ false
  unready_alone t home r None unready = refl
  unready_alone t home r (Some c) unready = ap (λ (b : Bool). is_asked c && b) (unready_asks t home r c.cur c.since.0 unready) ∙ and_false (is_asked c)
