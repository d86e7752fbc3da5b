-- What the parts keep over a decision, and a replenishment.
use Rattle.std.proofs.Common.{◌≡◌, ◌≤◌, ◌<◌, ℕ, zero, suc, Bool, true, false, List, [], ◌∷◌, refl, arith, ap, subst, sym, ◌∙◌, inl, inr}
use Rattle.std.specs.Prelude.{Option, Some, None, slice_set, is_some, ◌||◌, ◌&&◌, not, if◌then◌else◌}
use Rattle.std.specs.Option.{IfSome}
use Rattle.sched_base.specs.Numbers.{moment}
use Rattle.sched_base.specs.declared.Cores.{Cores}
use Rattle.sched_base.specs.declared.Moment.{Moment}
use Rattle.sched_base.specs.declared.UnitId.{UnitId}
use Rattle.sched_model.specs.Places.{has_listed_unit, same_unit, without_unit}
use Rattle.sched_model.specs.declared.state.RtdsUnit.{RtdsUnit}
use Rattle.sched_model.specs.EligibleUnits.{rtds_unit_at}
use Rattle.sched_model.specs.Rtds.{unit_burned_to, unit_after_replenish, change_unit, own_burned_domains, running_domains, off_domains}
use Rattle.sched_base.proofs.Bools.{clash}
use Rattle.sched_laws.proofs.Choices.{same_unit_same}
use Rattle.sched_laws.proofs.Counts.{same_unit_refl, without_absent}
use Rattle.sched_laws.proofs.EachPlace.{by_option}
use Rattle.sched_laws.proofs.RtdsUnits.{rtds_unit-same, rtds_unit-other, burned_on}
use Rattle.state_ranges.proofs.Rtds.{rtds_burned, rtds_running, rtds_off, rtds_replenished, fit_unit}
use Rattle.state_ranges.specs.Fits.{RtdsFits}
use Rattle.rtds_queue.specs.Lists.{Lists, holds, after_remove, after_renew}
use Rattle.rtds_core.specs.Alarms.{with_due}
use Rattle.unit_places.specs.Places.{unit_index}
use Rattle.rtds_core.specs.Best.{queue_of, key_by, queues_without, dues_with, dues_without, run_from, deadline_in}
use Rattle.rtds_core.specs.RtdsParts.{IsKept, renewed_if, rearmed_dues}
use Rattle.rtds_core.proofs.Queues.{IsOrdered, queue_removed, queue_renewed}
use Rattle.rtds_core.proofs.Changed.{low_unit}
use Rattle.rtds_core.proofs.Units.{has_without}
use Rattle.sched_model.specs.declared.ask.Ask.{Ask}
use Rattle.sched_model.specs.declared.state.Records.TheVariants.{RtdsPool}
use Rattle.sched_model.specs.Rtds.{rtds_choice, rtds_decision_for}
use Rattle.sched_model.specs.Policy.{decision_of, after_decision}
use Rattle.sched_ops.specs.Seen.{seen_at}
use Rattle.rtds_core.specs.RtdsParts.{seen_of}
use Rattle.rtds_core.proofs.First.{IsKnown}
use Rattle.rtds_core.proofs.Keeping.{low_queued, waiting_known, queued_other}
use Rattle.rtds_core.proofs.Steps.{tells_waiting, kept_removed, kept_like, kept_set, kept_renewed}
use Rattle.std.proofs.Math.Bool.{or-false}
use Rattle.std.proofs.lemmas.Bool.{cases_Bool}

-- a core's own unit: it has a record, is on, and does not wait
pub record IsOwnUnit (domains : List (Option (List RtdsUnit))) (q : Lists) (u : UnitId) : Type 0 where
  pub unit : RtdsUnit
  pub at : rtds_unit_at domains u ≡ Some unit
  pub on : is_some unit.burned ≡ true
  pub waits_not : has_listed_unit (queue_of q) u ≡ false

set_set : (i : ℕ) (a b : Option Moment) (dues : List (Option Moment)) → slice_set (slice_set dues i a) i b ≡ slice_set dues i b
set_set i a b [] = refl
set_set zero a b (o ∷ dues) = refl
set_set (suc i) a b (o ∷ dues) = ap (λ (xs : List (Option Moment)). o ∷ xs) (set_set i a b dues)

pub known_changed : (u w : UnitId) (f : RtdsUnit → RtdsUnit) (domains : List (Option (List RtdsUnit))) → IsKnown domains w → IsKnown (change_unit u f domains) w
known_changed u w f domains known = elim (cases_Bool (same_unit u w)) [
  | inl same ↦
      let e : u ≡ w = same_unit_same u w same in
      record { unit = f known.unit; at = subst (λ (v : UnitId). rtds_unit_at (change_unit u f domains) v ≡ Some (f known.unit)) e (rtds_unit-same u f domains known.unit (subst (λ (v : UnitId). rtds_unit_at domains v ≡ Some known.unit) (sym e) known.at)) }
  | inr other ↦ record { unit = known.unit; at = rtds_unit-other u w f domains other ∙ known.at }
]

-- a charge keeps the deadline, and whether the unit is on
pub burned_deadline : (t : ℕ) (x : RtdsUnit) → (unit_burned_to t x).deadline ≡ x.deadline
burned_deadline t x = by_option (λ (y : RtdsUnit). y.deadline ≡ x.deadline) x.burned _ _ (λ is. refl) (λ from is. refl)

module _ (affinity : List (Option (List Cores))) (q : Lists) (masks : List Cores) (spare t : ℕ) where
  -- the core's own unit is charged
  pub kept_charged : (cur : Option UnitId) (domains : List (Option (List RtdsUnit))) (dues : List (Option Moment)) → IfSome cur (IsOwnUnit domains q) → IsKept domains affinity q masks dues spare t → IsKept (own_burned_domains cur t domains) affinity q masks dues spare t
  kept_charged None domains dues own kept = kept
  kept_charged (Some u) domains dues own kept =
      kept_like domains affinity q masks dues spare t u (unit_burned_to t) (rtds_burned t) (burned_deadline t) (burned_on t)
      (queued_other u (unit_burned_to t) domains q (sym (tells_waiting domains affinity q masks dues spare t u own.unit kept own.at) ∙ own.waits_not) kept.queued) kept

  own_charged : (cur : Option UnitId) (domains : List (Option (List RtdsUnit))) → IfSome cur (IsOwnUnit domains q) → IfSome cur (IsOwnUnit (own_burned_domains cur t domains) q)
  own_charged None domains own = tt
  own_charged (Some u) domains own = record { unit = unit_burned_to t own.unit; at = rtds_unit-same u (unit_burned_to t) domains own.unit own.at; on = burned_on t own.unit ∙ own.on; waits_not = own.waits_not }

  -- it runs no more
  kept_stopped : (cur : Option UnitId) (domains : List (Option (List RtdsUnit))) (dues : List (Option Moment)) → IfSome cur (IsOwnUnit domains q) → IsKept domains affinity q masks dues spare t → IsKept (off_domains cur domains) affinity q masks (dues_without cur dues) spare t
  kept_stopped None domains dues own kept = kept
  kept_stopped (Some u) domains dues own kept =
      kept_set domains affinity q masks dues spare t u (λ x. record x { burned = None }) own.unit None (rtds_off t own.unit) own.at own.waits_not refl kept

  -- the chosen unit runs
  deadline_is : (domains : List (Option (List RtdsUnit))) (u : UnitId) (x : RtdsUnit) → rtds_unit_at domains u ≡ Some x → deadline_in domains u ≡ x.deadline
  deadline_is domains u x at = ap (λ (o : Option RtdsUnit). elim o as (λ _. ℕ) [ None ↦ 0 | Some y ↦ y.deadline ]) at

  kept_started : (chosen : Option UnitId) (domains : List (Option (List RtdsUnit))) (dues : List (Option Moment)) → IfSome chosen (IsKnown domains) → IsOrdered q → IsKept domains affinity q masks dues spare t
      → IsKept (run_from t chosen domains) affinity (queues_without chosen q) masks (dues_with domains chosen dues) spare t
  kept_started None domains dues known order kept = kept
  kept_started (Some u) domains dues known order kept =
      let run : RtdsUnit → RtdsUnit = λ x. record x { burned = Some t } in
      let x : RtdsUnit = known.unit in
      let domains2 : List (Option (List RtdsUnit)) = running_domains (Some t) u domains in
      let due : with_due u (Some (moment (deadline_in domains u))) dues ≡ with_due u (Some (moment x.deadline)) dues = ap (λ (d : ℕ). with_due u (Some (moment d)) dues) (deadline_is domains u x known.at) in
      subst (λ (ds : List (Option Moment)). IsKept domains2 affinity (queues_without (Some u) q) masks ds spare t) (sym due)
      (elim (cases_Bool (holds q u)) [
        | inl here ↦
            let waiting : has_listed_unit (queue_of q) u ≡ true = tells_waiting domains affinity q masks dues spare t u x kept known.at ∙ here in
            let gone = kept_removed domains affinity q masks dues spare t u order waiting kept in
            let off : has_listed_unit (queue_of (after_remove q u)) u ≡ false = gone_now u domains dues x known.at order here kept in
            let ran = kept_set domains affinity (after_remove q u) masks (with_due u None dues) spare t u run x (Some (moment x.deadline)) (rtds_running t x) known.at off refl gone in
            subst (λ (b : Bool). IsKept domains2 affinity (if b then after_remove q u else q) masks (with_due u (Some (moment x.deadline)) dues) spare t) (sym here)
            (subst (λ (ds : List (Option Moment)). IsKept domains2 affinity (after_remove q u) masks ds spare t) (set_set (unit_index u) None (Some (moment x.deadline)) dues) ran)
        | inr other ↦
            let off : has_listed_unit (queue_of q) u ≡ false = tells_waiting domains affinity q masks dues spare t u x kept known.at ∙ other in
            subst (λ (b : Bool). IsKept domains2 affinity (if b then after_remove q u else q) masks (with_due u (Some (moment x.deadline)) dues) spare t) (sym other)
            (kept_set domains affinity q masks dues spare t u run x (Some (moment x.deadline)) (rtds_running t x) known.at off refl kept)
      ])
    where
      gone_now : (u : UnitId) (domains : List (Option (List RtdsUnit))) (dues : List (Option Moment)) (x : RtdsUnit) → rtds_unit_at domains u ≡ Some x → IsOrdered q → holds q u ≡ true → IsKept domains affinity q masks dues spare t → has_listed_unit (queue_of (after_remove q u)) u ≡ false
      gone_now u domains dues x at order here kept =
          ap (λ (us : List UnitId). has_listed_unit us u) (queue_removed q u order (low_unit domains affinity u x kept.shape at).byte (low_queued domains affinity q kept.shape kept.queued) here)
          ∙ has_without u u (queue_of q) ∙ ap (λ (b : Bool). not b && has_listed_unit (queue_of q) u) (same_unit_refl u)

  -- the queue without the chosen unit
  queue_taken : (u : UnitId) (domains : List (Option (List RtdsUnit))) (dues : List (Option Moment)) → IsKnown domains u → IsOrdered q → IsKept domains affinity q masks dues spare t → queue_of (queues_without (Some u) q) ≡ without_unit u (queue_of q)
  queue_taken u domains dues known order kept = elim (cases_Bool (holds q u)) [
    | inl here ↦ ap (λ (b : Bool). queue_of (if b then after_remove q u else q)) here ∙ queue_removed q u order (low_unit domains affinity u known.unit kept.shape known.at).byte (low_queued domains affinity q kept.shape kept.queued) here
    | inr other ↦ ap (λ (b : Bool). queue_of (if b then after_remove q u else q)) other ∙ sym (without_absent u (queue_of q) (tells_waiting domains affinity q masks dues spare t u known.unit kept known.at ∙ other))
  ]

  known_off : (cur chosen : Option UnitId) (domains : List (Option (List RtdsUnit))) → IfSome chosen (IsKnown domains) → IfSome chosen (IsKnown (off_domains cur domains))
  known_off cur None domains known = tt
  known_off None (Some u) domains known = known
  known_off (Some w) (Some u) domains known = known_changed w u (λ x. record x { burned = None }) domains known

  -- all of a decision
  pub kept_chosen : (cur chosen : Option UnitId) (domains : List (Option (List RtdsUnit))) (dues : List (Option Moment)) → IfSome cur (IsOwnUnit domains q) → IfSome chosen (IsKnown (own_burned_domains cur t domains)) → IsOrdered q → IsKept domains affinity q masks dues spare t
      → IsKept (run_from t chosen (off_domains cur (own_burned_domains cur t domains))) affinity (queues_without chosen q) masks (dues_with (off_domains cur (own_burned_domains cur t domains)) chosen (dues_without cur dues)) spare t
  kept_chosen cur chosen domains dues own known order kept =
      let charged = kept_charged cur domains dues own kept in
      let off = kept_stopped cur (own_burned_domains cur t domains) dues (own_charged cur domains own) charged in
      kept_started chosen (off_domains cur (own_burned_domains cur t domains)) (dues_without cur dues) (known_off cur chosen (own_burned_domains cur t domains) known) order off

  -- what callers see of it
  pub seen_chosen : (ask : Ask) (chosen : Option UnitId) (domains : List (Option (List RtdsUnit))) (dues : List (Option Moment)) (latest : ℕ) → ask.at.0 ≡ t → IfSome ask.cur (IsOwnUnit domains q) → IfSome chosen (IsKnown (own_burned_domains ask.cur t domains)) → IsOrdered q → IsKept domains affinity q masks dues spare t
      → chosen ≡ rtds_choice ask (seen_of domains affinity q spare latest).scheduler (own_burned_domains ask.cur ask.at.0 domains)
      → seen_of (run_from ask.at.0 chosen (off_domains ask.cur (own_burned_domains ask.cur ask.at.0 domains))) affinity (queues_without chosen q) spare ask.at.0
      ≡ seen_at ask.at.0 (after_decision (decision_of ask (seen_of domains affinity q spare latest).scheduler) (seen_of domains affinity q spare latest).scheduler) (seen_of domains affinity q spare latest)
  seen_chosen ask chosen domains dues latest now own known order kept is =
      of_choice chosen known
      ∙ ap (λ (o : Option UnitId). seen_at ask.at.0 (after_decision (rtds_decision_for ask (own_burned_domains ask.cur ask.at.0 domains) o) (seen_of domains affinity q spare latest).scheduler) (seen_of domains affinity q spare latest)) is
    where
      of_choice : (chosen : Option UnitId) → IfSome chosen (IsKnown (own_burned_domains ask.cur t domains))
          → seen_of (run_from ask.at.0 chosen (off_domains ask.cur (own_burned_domains ask.cur ask.at.0 domains))) affinity (queues_without chosen q) spare ask.at.0
          ≡ seen_at ask.at.0 (after_decision (rtds_decision_for ask (own_burned_domains ask.cur ask.at.0 domains) chosen) (seen_of domains affinity q spare latest).scheduler) (seen_of domains affinity q spare latest)
      of_choice None known = refl
      of_choice (Some u) known =
          let charged = kept_charged ask.cur domains dues own kept in
          ap (λ (us : List UnitId). record { scheduler = record { queue = us; affinity = affinity; records = RtdsPool (running_domains (Some ask.at.0) u (off_domains ask.cur (own_burned_domains ask.cur ask.at.0 domains))) }; spare = spare; latest = ask.at.0 })
          (queue_taken u (own_burned_domains ask.cur t domains) dues known order charged)

-- a replenishment
full_left : (t : ℕ) (x : RtdsUnit) → RtdsFits t x → 0 < (unit_after_replenish t x).left
full_left t x fits = (let b = rtds_burned t x fits in let l = b.next_budget.least in omega (arith, l))

module _ (domains : List (Option (List RtdsUnit))) (affinity : List (Option (List Cores))) (q : Lists) (masks : List Cores) (dues : List (Option Moment)) (spare t : ℕ) where
  -- the unit that is replenished either waits, or is on and does not
  pub record IsReplenished (u : UnitId) : Type 0 where
    pub unit : RtdsUnit
    pub at : rtds_unit_at domains u ≡ Some unit
    pub come : unit.deadline ≤ t
    pub busy : (has_listed_unit (queue_of q) u || is_some unit.burned) ≡ true

  pub replenished_holds : (u : UnitId) (is : IsReplenished u) → IsKept domains affinity q masks dues spare t → (unit_after_replenish t is.unit).burned ≡ None → has_listed_unit (queue_of q) u ≡ true
  replenished_holds u is kept off =
      let on : is_some is.unit.burned ≡ false = sym (burned_on t is.unit) ∙ ap (λ (o : Option ℕ). is_some o) off in
      sym (or-false (has_listed_unit (queue_of q) u)) ∙ ap (λ (b : Bool). has_listed_unit (queue_of q) u || b) (sym on) ∙ is.busy

  pub kept_replenished : (u : UnitId) (is : IsReplenished u) → IsOrdered q → IsKept domains affinity q masks dues spare t
      → IsKept (change_unit u (unit_after_replenish t) domains) affinity (renewed_if (Some (unit_after_replenish t is.unit)) u q) masks (rearmed_dues (Some (unit_after_replenish t is.unit)) u dues) spare t
  kept_replenished u is order kept = by_on (unit_after_replenish t is.unit).burned refl
    where
      by_on : (o : Option ℕ) → (unit_after_replenish t is.unit).burned ≡ o
          → IsKept (change_unit u (unit_after_replenish t) domains) affinity (if is_some (unit_after_replenish t is.unit).burned then q else after_renew q u (key_by (unit_after_replenish t is.unit))) masks (with_due u (Some (moment (unit_after_replenish t is.unit).deadline)) dues) spare t
      by_on None off =
          subst (λ (o : Option ℕ). IsKept (change_unit u (unit_after_replenish t) domains) affinity (if is_some o then q else after_renew q u (key_by (unit_after_replenish t is.unit))) masks (with_due u (Some (moment (unit_after_replenish t is.unit).deadline)) dues) spare t) (sym off)
          (kept_renewed domains affinity q masks dues spare t u (unit_after_replenish t) is.unit (rtds_replenished t is.unit is.come) is.at order (replenished_holds u is kept off) off (full_left t is.unit (fit_there u is kept)) kept)
        where
          fit_there : (u : UnitId) (is : IsReplenished u) → IsKept domains affinity q masks dues spare t → RtdsFits t is.unit
          fit_there u is kept = fit_unit t domains u is.unit is.at kept.fits
      by_on (Some b) on =
          subst (λ (o : Option ℕ). IsKept (change_unit u (unit_after_replenish t) domains) affinity (if is_some o then q else after_renew q u (key_by (unit_after_replenish t is.unit))) masks (with_due u (Some (moment (unit_after_replenish t is.unit).deadline)) dues) spare t) (sym on)
          (kept_set domains affinity q masks dues spare t u (unit_after_replenish t) is.unit (Some (moment (unit_after_replenish t is.unit).deadline)) (rtds_replenished t is.unit is.come) is.at waits_not
          (ap (λ (o : Option ℕ). if is_some o then Some (moment (unit_after_replenish t is.unit).deadline) else None) on) kept)
        where
          waits_not : has_listed_unit (queue_of q) u ≡ false
          waits_not = elim (cases_Bool (has_listed_unit (queue_of q) u)) [
            | inl waiting ↦
                let k = waiting_known domains q u kept.queued waiting in
                let same : is.unit ≡ k.0 = some_same is.unit k.0 (sym is.at ∙ k.1) in
                let off : is_some is.unit.burned ≡ false = ap (λ (y : RtdsUnit). is_some y.burned) same ∙ ap (λ (o : Option ℕ). is_some o) k.2 in
                let still : is_some is.unit.burned ≡ true = sym (burned_on t is.unit) ∙ ap (λ (o : Option ℕ). is_some o) on in
                absurd (clash (is_some is.unit.burned) still off)
            | inr other ↦ other
          ]
            where
              some_same : (a b : RtdsUnit) → ◌≡◌ {A = Option RtdsUnit} (Some a) (Some b) → a ≡ b
              some_same a b e = cc

  pub queue_replenished : (u : UnitId) (is : IsReplenished u) → IsOrdered q → IsKept domains affinity q masks dues spare t → queue_of (renewed_if (Some (unit_after_replenish t is.unit)) u q) ≡ queue_of q
  queue_replenished u is order kept = by_on (unit_after_replenish t is.unit).burned refl
    where
      by_on : (o : Option ℕ) → (unit_after_replenish t is.unit).burned ≡ o → queue_of (if is_some (unit_after_replenish t is.unit).burned then q else after_renew q u (key_by (unit_after_replenish t is.unit))) ≡ queue_of q
      by_on None off =
          ap (λ (o : Option ℕ). queue_of (if is_some o then q else after_renew q u (key_by (unit_after_replenish t is.unit)))) off
          ∙ queue_renewed q u (key_by (unit_after_replenish t is.unit)) order (low_unit domains affinity u is.unit kept.shape is.at).byte (low_queued domains affinity q kept.shape kept.queued)
          (sym (tells_waiting domains affinity q masks dues spare t u is.unit kept is.at) ∙ replenished_holds u is kept off)
      by_on (Some b) on = ap (λ (o : Option ℕ). queue_of (if is_some o then q else after_renew q u (key_by (unit_after_replenish t is.unit)))) on
