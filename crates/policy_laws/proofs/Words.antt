-- What each change of the records makes of a word on whether a unit is on.
use Rattle.std.proofs.Common.{◌≡◌, ◌≢◌, ℕ, Bool, true, false, List, refl, ap, sym, ◌∙◌, cond}
use Rattle.std.specs.Prelude.{Option, Some, None, is_some, slice_get}
use Rattle.sched_base.specs.declared.UnitId.{UnitId}
use Rattle.sched_model.specs.declared.ask.Ask.{Ask}
use Rattle.sched_model.specs.declared.config.DomParams.{DomParams}
use Rattle.sched_model.specs.declared.config.DomParams.TheVariants as dom_params
use Rattle.sched_model.specs.declared.config.ParamChange.{ParamChange}
use Rattle.sched_model.specs.declared.config.ParamChange.TheVariants as changes
use Rattle.sched_model.specs.declared.state.Credit2Records.{Credit2Records}
use Rattle.sched_model.specs.declared.state.RtdsUnit.{RtdsUnit}
use Rattle.sched_model.specs.declared.state.Records.{Records}
use Rattle.sched_model.specs.declared.state.Records.TheVariants.{Credit2Pool, RtdsPool, ArincPool, NullPool}
use Rattle.sched_model.specs.declared.state.Scheduler.{Scheduler}
use Rattle.sched_model.specs.Places.{at_place, clear_at, is_unit}
use Rattle.sched_model.specs.Arinc.{Window, current_window}
use Rattle.sched_model.specs.EligibleUnits.{Decision}
use Rattle.sched_model.specs.Policy.{decision_by, arinc_decision, records_after_replenish, records_after_refill, changed_records, joined_records, parted_records}
use Rattle.sched_model.specs.Credit2 as credit2
use Rattle.sched_model.specs.Rtds as rtds
use Rattle.sched_model.specs.NullScheduler as null
use Rattle.sched_laws.proofs.EachPlace.{by_cond}
use Rattle.sched_laws.proofs.Lists.{test_at-put_at_other, test_at-clear_at}
use Rattle.sched_ops.specs.Conditions.{is_on}
use Rattle.policy_laws.specs.RunningUnits.{has_record}
use Rattle.policy_laws.proofs.OneUnit.{cond_same, test_item, test_unit_more, test_unit_false}
use Rattle.policy_laws.proofs.Credit2Units as of_credit2
use Rattle.policy_laws.proofs.Credit2Units.{credit2_word}
use Rattle.policy_laws.proofs.RtdsUnits as of_rtds
use Rattle.policy_laws.proofs.RtdsUnits.{rtds_word}

-- a word on whether the unit is on, of one that has a record
abbrev pub word_on : (Bool → Bool) → Records → UnitId → Bool
word_on says (Credit2Pool records) w = credit2_word says records w
word_on says (RtdsPool domains) w = rtds_word says domains w
word_on says (ArincPool records) w = false
word_on says (NullPool kept) w = false

-- that it is on, and that it has a record
abbrev pub itself : Bool → Bool
itself on = on

abbrev pub always : Bool → Bool → Bool
always b on = b

module _ (w : UnitId) where
  pub on_is : (records : Records) → is_on records w ≡ word_on itself records w
  on_is (RtdsPool domains) = there (at_place domains w.dom.0)
    where
      there : (o : Option (List RtdsUnit)) → elim (elim o as (λ _. Option RtdsUnit) [ None ↦ None | Some units ↦ slice_get units w.n ]) as (λ _. Bool) [ None ↦ false | Some x ↦ is_some x.burned ]
          ≡ elim o as (λ _. Bool) [ None ↦ false | Some units ↦ test_item units w.n (λ (x : RtdsUnit). is_some x.burned) ]
      there None = refl
      there (Some units) = refl
  on_is any = refl

  pub record_is : (records : Records) → has_record records w ≡ word_on (always true) records w
  record_is (RtdsPool domains) = there (at_place domains w.dom.0)
    where
      there : (o : Option (List RtdsUnit)) → is_some (elim o as (λ _. Option RtdsUnit) [ None ↦ None | Some units ↦ slice_get units w.n ]) ≡ elim o as (λ _. Bool) [ None ↦ false | Some units ↦ test_item units w.n (λ (x : RtdsUnit). true) ]
      there None = refl
      there (Some units) = refl
  record_is any = refl

  -- a unit that is on has a record
  pub on_recorded : (records : Records) → word_on itself records w ≡ true → word_on (always true) records w ≡ true
  on_recorded (Credit2Pool records) = test_unit_more of_credit2.units_in records.domains w (λ x. is_some x.burned) (λ x. true) (λ x is. refl)
  on_recorded (RtdsPool domains) = test_unit_more of_rtds.units_in domains w (λ x. is_some x.burned) (λ x. true) (λ x is. refl)
  on_recorded (ArincPool records) = λ is. is
  on_recorded (NullPool kept) = λ is. is

  pub never_said : (records : Records) → word_on (always false) records w ≡ false
  never_said (Credit2Pool records) = test_unit_false of_credit2.units_in records.domains w
  never_said (RtdsPool domains) = test_unit_false of_rtds.units_in domains w
  never_said (ArincPool records) = refl
  never_said (NullPool kept) = refl

-- the word after a decision, from the words before, where the unit was chosen or not, and is the core's own or not
abbrev pub word_after : (Bool → Bool) → Bool → Bool → ((Bool → Bool) → Bool) → Bool
word_after says chosen own word = cond chosen (word (always (says true))) (cond own (word (always (says false))) (word says))

word_after_same : (says : Bool → Bool) (chosen own : Bool) (word was : (Bool → Bool) → Bool) → ((k : Bool → Bool) → word k ≡ was k) → word_after says chosen own word ≡ word_after says chosen own was
word_after_same says true own word was same = same (always (says true))
word_after_same says false true word was same = same (always (says false))
word_after_same says false false word was same = same says

-- the core's own unit is off, and the chosen one is put on
put_on : (says : Bool → Bool) (chosen own : Bool) (off was : (Bool → Bool) → Bool) → ((k : Bool → Bool) → off k ≡ cond own (was (always (k false))) (was k)) → cond chosen (off (always (says true))) (off says) ≡ word_after says chosen own was
put_on says true own off was is = is (always (says true)) ∙ cond_same own (was (always (says true)))
put_on says false own off was is = is says

nothing_said : (says : Bool → Bool) (chosen own : Bool) → false ≡ word_after says chosen own (λ k. false)
nothing_said says true own = refl
nothing_said says false own = sym (cond_same own false)

module _ (says : Bool → Bool) (w : UnitId) where
  -- a decision
  credit2_decides : (ask : Ask) (scheduler : Scheduler) (records : Credit2Records) (chosen : Option UnitId)
      → word_on says (credit2.credit2_decision_for ask scheduler records chosen).records w ≡ word_after says (is_unit (credit2.credit2_decision_for ask scheduler records chosen).unit w) (is_unit ask.cur w) (λ k. credit2_word k records w)
  credit2_decides ask scheduler records None = of_credit2.word_off says w ask.cur records
  credit2_decides ask scheduler records (Some u) =
      let m : ℕ = credit2.reset_count ask.at.0 u records in
      let taken : Credit2Records = credit2.change_domain u.dom.0 (credit2.domain_after_take u.n) (credit2.reset_records ask.at.0 m records) in
      let off : Credit2Records = credit2.off_records ask.cur taken in
      of_credit2.word_running says w (Some ask.at.0) u off
      ∙ put_on says (is_unit (Some u) w) (is_unit ask.cur w) (λ k. credit2_word k off w) (λ k. credit2_word k taken w) (λ k. of_credit2.word_off k w ask.cur taken)
      ∙ word_after_same says (is_unit (Some u) w) (is_unit ask.cur w) (λ k. credit2_word k taken w) (λ k. credit2_word k records w) (λ k. of_credit2.kept_take k w u (credit2.reset_records ask.at.0 m records) ∙ of_credit2.kept_reset k w ask.at.0 m records)

  rtds_decides : (ask : Ask) (domains : List (Option (List RtdsUnit))) (chosen : Option UnitId)
      → word_on says (rtds.rtds_decision_for ask domains chosen).records w ≡ word_after says (is_unit (rtds.rtds_decision_for ask domains chosen).unit w) (is_unit ask.cur w) (λ k. rtds_word k domains w)
  rtds_decides ask domains None = of_rtds.word_off says w ask.cur domains
  rtds_decides ask domains (Some u) =
      let off : List (Option (List RtdsUnit)) = rtds.off_domains ask.cur domains in
      of_rtds.word_running says w (Some ask.at.0) u off
      ∙ put_on says (is_unit (Some u) w) (is_unit ask.cur w) (λ k. rtds_word k off w) (λ k. rtds_word k domains w) (λ k. of_rtds.word_off k w ask.cur domains)

  window_records : (ask : Ask) (scheduler : Scheduler) (window : Option Window) → (arinc_decision ask scheduler window).records ≡ scheduler.records
  window_records ask scheduler None = refl
  window_records ask scheduler (Some window) = refl

  null_silent : (core : ℕ) (kept : List (Option UnitId)) (chosen : Option UnitId) → word_on says (null.null_decision_for core kept chosen).records w ≡ false
  null_silent core kept None = refl
  null_silent core kept (Some u) = refl

  pub word_decides : (records : Records) (ask : Ask) (scheduler : Scheduler) → scheduler.records ≡ records
      → word_on says (decision_by records ask scheduler).records w ≡ word_after says (is_unit (decision_by records ask scheduler).unit w) (is_unit ask.cur w) (λ k. word_on k records w)
  word_decides (Credit2Pool records) ask scheduler is =
      let burned : Credit2Records = credit2.own_burned_records ask.cur ask.at.0 records in
      let chosen : Option UnitId = credit2.credit2_choice ask scheduler burned in
      credit2_decides ask scheduler burned chosen
      ∙ word_after_same says (is_unit (credit2.credit2_decision_for ask scheduler burned chosen).unit w) (is_unit ask.cur w) (λ k. credit2_word k burned w) (λ k. credit2_word k records w) (λ k. of_credit2.kept_burn_cur k w ask.cur ask.at.0 records)
  word_decides (RtdsPool domains) ask scheduler is =
      let burned : List (Option (List RtdsUnit)) = rtds.own_burned_domains ask.cur ask.at.0 domains in
      let chosen : Option UnitId = rtds.rtds_choice ask scheduler burned in
      rtds_decides ask burned chosen
      ∙ word_after_same says (is_unit (rtds.rtds_decision_for ask burned chosen).unit w) (is_unit ask.cur w) (λ k. rtds_word k burned w) (λ k. rtds_word k domains w) (λ k. of_rtds.kept_burn_cur k w ask.cur ask.at.0 domains)
  word_decides (ArincPool records) ask scheduler is =
      let window : Option Window = cond ask.leaving None (current_window records ask.at.0) in
      ap (λ r. word_on says r w) (window_records ask scheduler window ∙ is) ∙ nothing_said says (is_unit (arinc_decision ask scheduler window).unit w) (is_unit ask.cur w)
  word_decides (NullPool kept) ask scheduler is =
      by_cond (λ (d : Decision). word_on says d.records w ≡ false) ask.leaving (null.null_decision_for ask.core.0 (clear_at ask.core.0 kept) None) (null.null_decision_for ask.core.0 kept (null.null_choice ask scheduler kept))
      (λ leaves. refl) (λ stays. null_silent ask.core.0 kept (null.null_choice ask scheduler kept))
      ∙ nothing_said says (is_unit (null.null_decision ask scheduler kept).unit w) (is_unit ask.cur w)

  -- what leaves each unit on or off
  pub word_replenished : (records : Records) (t : ℕ) (u : UnitId) → word_on says (records_after_replenish records t u) w ≡ word_on says records w
  word_replenished (RtdsPool domains) t u = of_rtds.kept_replenished says w t u domains
  word_replenished any t u = refl

  pub word_refilled : (records : Records) (t d : ℕ) → word_on says (records_after_refill records t d) w ≡ word_on says records w
  word_refilled (Credit2Pool records) t d = of_credit2.kept_refilled says w t d records
  word_refilled records t d = refl

  pub word_changed : (records : Records) (change : ParamChange) (t : ℕ) → word_on says (changed_records records change t) w ≡ word_on says records w
  word_changed (Credit2Pool records) (changes.Dom d weight percent) t = of_credit2.kept_set_domain says w t d.0 weight percent records
  word_changed (RtdsPool domains) (changes.«Unit» u period budget extra) t = of_rtds.kept_unit says w u (λ x. record x { next_period = period.0; next_budget = budget.0; next_extra = extra }) domains (λ x. refl)
  word_changed (ArincPool records) (changes.Frame frame) t = refl
  word_changed records change t = refl

  -- a domain joins or parts: the units of others
  pub word_joined : (records : Records) (params : DomParams) (d count t : ℕ) → w.dom.0 ≢ d → word_on says (joined_records records params d count t) w ≡ word_on says records w
  word_joined (Credit2Pool records) (dom_params.Credit2 weight percent) d count t other =
      test_at-put_at_other d w.dom.0 (credit2.fresh_credit2_domain weight percent count t) (λ x. test_item x.units w.n (λ x. says (is_some x.burned))) records.domains other
  word_joined (RtdsPool domains) (dom_params.Rtds period budget extra) d count t other =
      test_at-put_at_other d w.dom.0 (rtds.fresh_rtds_units period.0 budget.0 extra count t) (λ units. test_item units w.n (λ x. says (is_some x.burned))) domains other
  word_joined records params d count t other = refl

  pub word_parted : (records : Records) (d : ℕ) → w.dom.0 ≢ d → word_on says (parted_records records d) w ≡ word_on says records w
  word_parted (Credit2Pool records) d other = test_at-clear_at d w.dom.0 (λ x. test_item x.units w.n (λ x. says (is_some x.burned))) records.domains other
  word_parted (RtdsPool domains) d other = test_at-clear_at d w.dom.0 (λ units. test_item units w.n (λ x. says (is_some x.burned))) domains other
  word_parted (ArincPool records) d other = refl
  word_parted (NullPool kept) d other = refl
