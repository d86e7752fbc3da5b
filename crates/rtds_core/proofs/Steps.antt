-- What the parts keep over the calls.
use Rattle.std.proofs.Common.{◌≡◌, ◌≤◌, ◌<◌, ℕ, Bool, true, false, List, [], ◌∷◌, ◌++◌, refl, arith, ap, subst, sym, ◌∙◌, inl, inr}
use Rattle.std.specs.Prelude.{Option, Some, None, is_some, ◌||◌, ◌&&◌, ◌==◌, not, if◌then◌else◌}
use Rattle.sched_base.specs.Numbers.{moment}
use Rattle.sched_base.specs.declared.Cores.{Cores}
use Rattle.sched_base.specs.declared.Moment.{Moment}
use Rattle.sched_base.specs.declared.UnitId.{UnitId}
use Rattle.sched_model.specs.CheckedMachine.{most_span}
use Rattle.sched_model.specs.Places.{has_listed_unit, same_unit, without_unit, change_item}
use Rattle.sched_model.specs.declared.state.RtdsUnit.{RtdsUnit}
use Rattle.sched_model.specs.EligibleUnits.{rtds_unit_at}
use Rattle.sched_model.specs.Rtds.{change_unit}
use Rattle.sched_laws.proofs.Choices.{same_unit_same}
use Rattle.sched_laws.proofs.Counts.{same_unit_refl, gone_without}
use Rattle.sched_laws.proofs.Lists.{length_change_item}
use Rattle.sched_base.proofs.Lists.{AllByRecursion-map}
use Rattle.sched_laws.proofs.RtdsUnits.{rtds_unit-same, rtds_unit-other}
use Rattle.state_ranges.proofs.Rtds.{rtds_later, fit_change_unit}
use Rattle.state_ranges.specs.Fits.{RtdsFits}
use Rattle.arrival_queue.specs.Queues.{queued_unit as queued}
use Rattle.rtds_queue.specs.Lists.{Lists, holds, lists_after_arrival, after_remove, after_renew}
use Rattle.rtds_core.specs.Alarms.{with_due}
use Rattle.rtds_core.specs.Best.{queue_of, key_by, AreQueued}
use Rattle.rtds_core.specs.RtdsParts.{IsKept, due_for}
use Rattle.rtds_core.proofs.Queues.{IsOrdered, waits, queue_put, queue_removed, queue_renewed}
use Rattle.rtds_core.proofs.Changed.{IsLow, low_unit, shape_changed, total_changed}
use Rattle.rtds_core.proofs.Units.{same_sym, has_pushed, has_without}
use Rattle.rtds_core.proofs.Timing.{due_alike, due_of_record, armed_changed, armed_alike}
use Rattle.scheduler_records.proofs.RtdsLemmas.{change_unit-none}
use Rattle.rtds_core.proofs.Keeping.{low_queued, waiting_known, queued_other, queued_put, queued_removed, queued_renewed, count_put, count_removed, count_renewed, room_left}
use Rattle.std.proofs.Math.Bool.{or-false, or-true}
use Rattle.std.proofs.lemmas.Bool.{cases_Bool}

-- the others of a list without a unit
others_stay : (u w : UnitId) (units : List UnitId) → same_unit u w ≡ false → has_listed_unit (without_unit u units) w ≡ has_listed_unit units w
others_stay u w units other = has_without u w units ∙ ap (λ (b : Bool). not b && has_listed_unit units w) other

module _ (domains : List (Option (List RtdsUnit))) (affinity : List (Option (List Cores))) (q : Lists) (masks : List Cores) (dues : List (Option Moment)) (spare : ℕ) where
  -- whether a unit waits is told by the queues
  pub tells_waiting : (latest : ℕ) (u : UnitId) (x : RtdsUnit) → IsKept domains affinity q masks dues spare latest → rtds_unit_at domains u ≡ Some x → has_listed_unit (queue_of q) u ≡ holds q u
  tells_waiting latest u x kept at = waits q u (low_unit domains affinity u x kept.shape at).byte (low_queued domains affinity q kept.shape kept.queued)

  -- a later moment
  pub kept_later : (latest t : ℕ) → latest ≤ t → t ≤ most_span → IsKept domains affinity q masks dues spare latest → IsKept domains affinity q masks dues spare t
  kept_later latest t past early kept = record {
    shape = kept.shape;
    fits = λ d units at. AllByRecursion-map (RtdsFits latest) (RtdsFits t) (λ x fit. rtds_later latest t x past fit) units (kept.fits d units at);
    early = early;
    queued = kept.queued;
    room = kept.room;
    few = kept.few;
    sets = kept.sets;
    armed = kept.armed;
  }

  -- a unit begins to wait
  pub kept_put : (latest : ℕ) (u : UnitId) (x : RtdsUnit) → IsOrdered q → rtds_unit_at domains u ≡ Some x → x.burned ≡ None → has_listed_unit (queue_of q) u ≡ false → IsKept domains affinity q masks dues spare latest
      → IsKept domains affinity (lists_after_arrival q u (key_by x) (x.left == 0)) masks (with_due u (Some (moment x.deadline)) dues) spare latest
  kept_put latest u x order at off none kept =
      let q2 : Lists = lists_after_arrival q u (key_by x) (x.left == 0) in
      let queue2 : queue_of q2 ≡ queue_of q ++ u ∷ [] = queue_put q u (key_by x) (x.left == 0) order in
      let some : 0 < q.spare = room_left domains affinity q masks dues spare latest u x kept order at none in
      record {
        shape = kept.shape;
        fits = kept.fits;
        early = kept.early;
        queued = queued_put domains q u x at off kept.queued;
        room = count_put q u x (x.left == 0) some ∙ kept.room;
        few = kept.few;
        sets = kept.sets;
        armed =
            armed_changed (queue_of q) (queue_of q2) domains domains dues u (Some (moment x.deadline)) (low_unit domains affinity u x kept.shape at) kept.armed
            (λ w other. due_alike (queue_of q) (queue_of q2) domains domains w refl
            (ap (λ (us : List UnitId). has_listed_unit us w) queue2 ∙ has_pushed u w (queue_of q) ∙ ap (λ (b : Bool). has_listed_unit (queue_of q) w || b) (same_sym w u ∙ other) ∙ or-false (has_listed_unit (queue_of q) w)))
            (due_of_record (queue_of q2) domains u x at
            ∙ ap (λ (b : Bool). if b || is_some x.burned then Some (moment x.deadline) else None) (ap (λ (us : List UnitId). has_listed_unit us u) queue2 ∙ has_pushed u u (queue_of q) ∙ ap (λ (b : Bool). has_listed_unit (queue_of q) u || b) (same_unit_refl u) ∙ or-true (has_listed_unit (queue_of q) u)));
      }

  -- a unit waits no more
  pub kept_removed : (latest : ℕ) (u : UnitId) → IsOrdered q → has_listed_unit (queue_of q) u ≡ true → IsKept domains affinity q masks dues spare latest → IsKept domains affinity (after_remove q u) masks (with_due u None dues) spare latest
  kept_removed latest u order has kept =
      let known = waiting_known domains q u kept.queued has in
      let low : IsLow u = low_unit domains affinity u known.0 kept.shape known.1 in
      let here : holds q u ≡ true = sym (tells_waiting latest u known.0 kept known.1) ∙ has in
      let queue2 : queue_of (after_remove q u) ≡ without_unit u (queue_of q) = queue_removed q u order low.byte (low_queued domains affinity q kept.shape kept.queued) here in
      record {
        shape = kept.shape;
        fits = kept.fits;
        early = kept.early;
        queued = queued_removed domains q u kept.queued;
        room = count_removed q u order here ∙ kept.room;
        few = kept.few;
        sets = kept.sets;
        armed =
            armed_changed (queue_of q) (queue_of (after_remove q u)) domains domains dues u None low kept.armed
            (λ w other. due_alike (queue_of q) (queue_of (after_remove q u)) domains domains w refl (ap (λ (us : List UnitId). has_listed_unit us w) queue2 ∙ others_stay u w (queue_of q) other))
            (due_of_record (queue_of (after_remove q u)) domains u known.0 known.1
            ∙ ap (λ (b : Bool). if b || is_some known.0.burned then Some (moment known.0.deadline) else None) (ap (λ (us : List UnitId). has_listed_unit us u) queue2 ∙ gone_without u (queue_of q))
            ∙ ap (λ (o : Option ℕ). if is_some o then Some (moment known.0.deadline) else None) known.2);
      }

  -- a change of a unit that keeps whether it is on, and its deadline
  pub kept_like : (latest : ℕ) (u : UnitId) (f : RtdsUnit → RtdsUnit) → ((x : RtdsUnit) → RtdsFits latest x → RtdsFits latest (f x)) → ((x : RtdsUnit) → (f x).deadline ≡ x.deadline) → ((x : RtdsUnit) → is_some (f x).burned ≡ is_some x.burned)
      → AreQueued (change_unit u f domains) q → IsKept domains affinity q masks dues spare latest → IsKept (change_unit u f domains) affinity q masks dues spare latest
  kept_like latest u f fits deadlines ons queued kept = record {
    shape = shape_changed u f domains affinity kept.shape;
    fits = fit_change_unit latest u f domains (λ x is. fits x) kept.fits;
    early = kept.early;
    queued = queued;
    room = (let t = total_changed u.dom.0 (change_item u.n f) domains (λ units. length_change_item u.n f units) in let r = kept.room in omega (arith, r, t));
    few = (let t = total_changed u.dom.0 (change_item u.n f) domains (λ units. length_change_item u.n f units) in let r = kept.few in omega (arith, r, t));
    sets = kept.sets;
    armed = armed_alike (queue_of q) (queue_of q) domains (change_unit u f domains) dues kept.armed (λ w. elim (cases_Bool (same_unit u w)) [
      | inl same ↦ subst (λ (v : UnitId). due_for (queue_of q) (change_unit u f domains) v ≡ due_for (queue_of q) domains v) (same_unit_same u w same) (own (rtds_unit_at domains u) refl)
      | inr other ↦ due_alike (queue_of q) (queue_of q) domains (change_unit u f domains) w (rtds_unit-other u w f domains other) refl
    ]);
  }
    where
      own : (o : Option RtdsUnit) → rtds_unit_at domains u ≡ o → due_for (queue_of q) (change_unit u f domains) u ≡ due_for (queue_of q) domains u
      own None at = ap (λ (ds : List (Option (List RtdsUnit))). due_for (queue_of q) ds u) (change_unit-none domains u f at)
      own (Some x) at =
          due_of_record (queue_of q) (change_unit u f domains) u (f x) (rtds_unit-same u f domains x at)
          ∙ ap (λ (b : Bool). if has_listed_unit (queue_of q) u || b then Some (moment (f x).deadline) else None) (ons x)
          ∙ ap (λ (d : ℕ). if has_listed_unit (queue_of q) u || is_some x.burned then Some (moment d) else None) (deadlines x)
          ∙ sym (due_of_record (queue_of q) domains u x at)

  -- a change of a unit that does not wait, whose moment is set to what is due then
  pub kept_set : (latest : ℕ) (u : UnitId) (f : RtdsUnit → RtdsUnit) (x : RtdsUnit) (o : Option Moment) → (RtdsFits latest x → RtdsFits latest (f x)) → rtds_unit_at domains u ≡ Some x → has_listed_unit (queue_of q) u ≡ false
      → (if is_some (f x).burned then Some (moment (f x).deadline) else None) ≡ o → IsKept domains affinity q masks dues spare latest → IsKept (change_unit u f domains) affinity q masks (with_due u o dues) spare latest
  kept_set latest u f x o fits at none due kept = record {
    shape = shape_changed u f domains affinity kept.shape;
    fits = fit_change_unit latest u f domains (λ y is fit. (let e : x ≡ y = some_same x y (sym at ∙ is) in subst (λ (z : RtdsUnit). RtdsFits latest (f z)) e (fits (subst (RtdsFits latest) (sym e) fit)))) kept.fits;
    early = kept.early;
    queued = queued_other u f domains q (sym (tells_waiting latest u x kept at) ∙ none) kept.queued;
    room = (let t = total_changed u.dom.0 (change_item u.n f) domains (λ units. length_change_item u.n f units) in let r = kept.room in omega (arith, r, t));
    few = (let t = total_changed u.dom.0 (change_item u.n f) domains (λ units. length_change_item u.n f units) in let r = kept.few in omega (arith, r, t));
    sets = kept.sets;
    armed =
        armed_changed (queue_of q) (queue_of q) domains (change_unit u f domains) dues u o (low_unit domains affinity u x kept.shape at) kept.armed
        (λ w other. due_alike (queue_of q) (queue_of q) domains (change_unit u f domains) w (rtds_unit-other u w f domains other) refl)
        (due_of_record (queue_of q) (change_unit u f domains) u (f x) (rtds_unit-same u f domains x at)
        ∙ ap (λ (b : Bool). if b || is_some (f x).burned then Some (moment (f x).deadline) else None) none ∙ due);
  }
    where
      some_same : (a b : RtdsUnit) → ◌≡◌ {A = Option RtdsUnit} (Some a) (Some b) → a ≡ b
      some_same a b e = cc

  -- a waiting unit is changed and renewed
  pub kept_renewed : (latest : ℕ) (u : UnitId) (f : RtdsUnit → RtdsUnit) (x : RtdsUnit) → (RtdsFits latest x → RtdsFits latest (f x)) → rtds_unit_at domains u ≡ Some x → IsOrdered q → has_listed_unit (queue_of q) u ≡ true
      → (f x).burned ≡ None → 0 < (f x).left → IsKept domains affinity q masks dues spare latest
      → IsKept (change_unit u f domains) affinity (after_renew q u (key_by (f x))) masks (with_due u (Some (moment (f x).deadline)) dues) spare latest
  kept_renewed latest u f x fits at order has off left kept =
      let here : holds q u ≡ true = sym (tells_waiting latest u x kept at) ∙ has in
      let low : IsLow u = low_unit domains affinity u x kept.shape at in
      let q2 : Lists = after_renew q u (key_by (f x)) in
      let queue2 : queue_of q2 ≡ queue_of q = queue_renewed q u (key_by (f x)) order low.byte (low_queued domains affinity q kept.shape kept.queued) here in
      record {
        shape = shape_changed u f domains affinity kept.shape;
        fits = fit_change_unit latest u f domains (λ y is fit. (let e : x ≡ y = some_same x y (sym at ∙ is) in subst (λ (z : RtdsUnit). RtdsFits latest (f z)) e (fits (subst (RtdsFits latest) (sym e) fit)))) kept.fits;
        early = kept.early;
        queued = queued_renewed domains q u f x at off left kept.queued;
        room = (let t = total_changed u.dom.0 (change_item u.n f) domains (λ units. length_change_item u.n f units) in let r = kept.room in let c = count_renewed q u (f x) order here in omega (arith, r, t, c));
        few = (let t = total_changed u.dom.0 (change_item u.n f) domains (λ units. length_change_item u.n f units) in let r = kept.few in omega (arith, r, t));
        sets = kept.sets;
        armed =
            armed_changed (queue_of q) (queue_of q2) domains (change_unit u f domains) dues u (Some (moment (f x).deadline)) low kept.armed
            (λ w other. due_alike (queue_of q) (queue_of q2) domains (change_unit u f domains) w (rtds_unit-other u w f domains other) (ap (λ (us : List UnitId). has_listed_unit us w) queue2))
            (due_of_record (queue_of q2) (change_unit u f domains) u (f x) (rtds_unit-same u f domains x at)
            ∙ ap (λ (b : Bool). if b || is_some (f x).burned then Some (moment (f x).deadline) else None) (ap (λ (us : List UnitId). has_listed_unit us u) queue2 ∙ has));
      }
    where
      some_same : (a b : RtdsUnit) → ◌≡◌ {A = Option RtdsUnit} (Some a) (Some b) → a ≡ b
      some_same a b e = cc
