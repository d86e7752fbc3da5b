-- Which units the records of a scheduler have on a core, after each change of the records.
use Rattle.std.proofs.Common.{◌≡◌, ◌≢◌, ◌<◌, ℕ, Bool, true, false, not, List, refl, ap, subst, sym, ◌∙◌, cond, inl, inr}
use Rattle.std.specs.Prelude.{Option, is_some, ◌&&◌, ◌||◌}
use Rattle.sched_base.specs.declared.UnitId.{UnitId}
use Rattle.sched_model.specs.declared.ask.Ask.{Ask}
use Rattle.sched_model.specs.declared.config.DomParams.{DomParams}
use Rattle.sched_model.specs.declared.config.DomParams.TheVariants as dom_params
use Rattle.sched_model.specs.declared.config.ParamChange.{ParamChange}
use Rattle.sched_model.specs.declared.state.Records.{Records}
use Rattle.sched_model.specs.declared.state.Records.TheVariants.{Credit2Pool, RtdsPool, ArincPool, NullPool}
use Rattle.sched_model.specs.declared.state.Scheduler.{Scheduler}
use Rattle.sched_model.specs.Places.{put_at, clear_at, test_at, is_unit}
use Rattle.sched_model.specs.EligibleUnits.{Decision}
use Rattle.sched_model.specs.Policy.{decision_of, records_after_replenish, records_after_refill, changed_records, joined_records, parted_records}
use Rattle.sched_model.specs.Credit2 as credit2
use Rattle.sched_model.specs.Rtds as rtds
use Rattle.sched_base.proofs.Bools.{clash}
use Rattle.sched_laws.proofs.EachPlace.{read_put_at, read_clear_at}
use Rattle.sched_laws.proofs.Lists.{test_at-some, some-test_at}
use Rattle.state_ranges.specs.Records.{IsRecorded}
use Rattle.state_ranges.proofs.Shape.{shape_decision, shape_replenished, shape_refilled, shape_changed}
use Rattle.state_ranges.specs.Counts.{shape}
use Rattle.sched_ops.specs.Conditions.{is_on}
use Rattle.policy_laws.specs.RunningUnits.{keeps_records, has_record, is_on_after}
use Rattle.policy_laws.proofs.OneUnit.{cond_same, test_item, test_item-replicate, test_item_low}
use Rattle.policy_laws.proofs.Words.{word_on, itself, always, on_is, record_is, on_recorded, never_said, word_decides, word_replenished, word_refilled, word_changed, word_joined, word_parted}

-- a decision
on_after : (chosen own has on off : Bool) → (on ≡ true → has ≡ true) → off ≡ false → cond chosen has (cond own off on) ≡ ((chosen && has) || (on && not own))
on_after true own true on off to none = refl
on_after true own false true off to none = absurd (let e = to refl in cc)
on_after true own false false off to none = refl
on_after false true has true off to none = none
on_after false true has false off to none = none
on_after false false has true off to none = refl
on_after false false has false off to none = refl

pub decides : (ask : Ask) (scheduler : Scheduler) (w : UnitId) → is_on (decision_of ask scheduler).records w ≡ is_on_after ask (decision_of ask scheduler) scheduler.records w
decides ask scheduler w =
    let d : Decision = decision_of ask scheduler in
    let records : Records = scheduler.records in
    let chosen : Bool = is_unit d.unit w in
    let own : Bool = is_unit ask.cur w in
    on_is w d.records ∙ word_decides itself w records ask scheduler refl
    ∙ on_after chosen own (word_on (always true) records w) (word_on itself records w) (word_on (always false) records w) (on_recorded w records) (never_said w records)
    ∙ ap (λ has. (chosen && has) || (word_on itself records w && not own)) (sym (record_is w records)) ∙ ap (λ on. (chosen && has_record records w) || (on && not own)) (sym (on_is w records))

pub decides_records : (ask : Ask) (scheduler : Scheduler) (w : UnitId) → has_record (decision_of ask scheduler).records w ≡ has_record scheduler.records w
decides_records ask scheduler w =
    let d : Decision = decision_of ask scheduler in
    let has : Bool = word_on (always true) scheduler.records w in
    record_is w d.records ∙ word_decides (always true) w scheduler.records ask scheduler refl
    ∙ ap (cond (is_unit d.unit w) has) (cond_same (is_unit ask.cur w) has) ∙ cond_same (is_unit d.unit w) has ∙ sym (record_is w scheduler.records)

-- what leaves each unit on or off
as_before : (w : UnitId) (next old : Records) → word_on itself next w ≡ word_on itself old w → is_on next w ≡ is_on old w
as_before w next old same = on_is w next ∙ same ∙ sym (on_is w old)

pub replenishes : (records : Records) (t : ℕ) (u w : UnitId) → is_on (records_after_replenish records t u) w ≡ is_on records w
replenishes records t u w = as_before w (records_after_replenish records t u) records (word_replenished itself w records t u)

pub refills : (records : Records) (t d : ℕ) (w : UnitId) → is_on (records_after_refill records t d) w ≡ is_on records w
refills records t d w = as_before w (records_after_refill records t d) records (word_refilled itself w records t d)

pub changes : (records : Records) (change : ParamChange) (t : ℕ) (w : UnitId) → is_on (changed_records records change t) w ≡ is_on records w
changes records change t w = as_before w (changed_records records change t) records (word_changed itself w records change t)

-- a domain joins
off_put : {X : Type 0} (i j : ℕ) (x : X) (test : X → Bool) (places : List (Option X)) → test x ≡ false → test_at (put_at i x places) j test ≡ true → test_at places j test ≡ true
off_put i j x test places off on =
    let r = some-test_at (put_at i x places) j test on in
    elim (read_put_at i j x places r.0 r.1) [
      | inl was ↦ test_at-some places j test r.0 was r.2
      | inr put ↦ absurd (clash (test x) (subst (λ y. test y ≡ true) (sym put.1) r.2) off)
    ]

word_put : (records : Records) (params : DomParams) (d count t : ℕ) (w : UnitId) → word_on itself (joined_records records params d count t) w ≡ true → word_on itself records w ≡ true
word_put (Credit2Pool records) (dom_params.Credit2 weight percent) d count t w =
    off_put d w.dom.0 (credit2.fresh_credit2_domain weight percent count t) (λ x. test_item x.units w.n (λ y. is_some y.burned)) records.domains (test_item-replicate count w.n _ (λ y. is_some y.burned) refl)
word_put (RtdsPool domains) (dom_params.Rtds period budget extra) d count t w =
    off_put d w.dom.0 (rtds.fresh_rtds_units period.0 budget.0 extra count t) (λ units. test_item units w.n (λ y. is_some y.burned)) domains (test_item-replicate count w.n _ (λ y. is_some y.burned) refl)
word_put records params d count t w = λ on. on

pub joins : (records : Records) (params : DomParams) (d count t : ℕ) (w : UnitId) → w.dom.0 ≢ d → is_on (joined_records records params d count t) w ≡ is_on records w
joins records params d count t w other = as_before w (joined_records records params d count t) records (word_joined itself w records params d count t other)

pub joins_off : (records : Records) (params : DomParams) (d count t : ℕ) (w : UnitId) → w.dom.0 ≡ d → is_on (joined_records records params d count t) w ≡ true → is_on records w ≡ true
joins_off records params d count t w own on = on_is w records ∙ word_put records params d count t w (sym (on_is w (joined_records records params d count t)) ∙ on)

-- a domain parts
off_cleared : {X : Type 0} (i j : ℕ) (test : X → Bool) (places : List (Option X)) → test_at (clear_at i places) j test ≡ true → test_at places j test ≡ true
off_cleared i j test places on =
    let r = some-test_at (clear_at i places) j test on in
    test_at-some places j test r.0 (read_clear_at i j places r.0 r.1).1 r.2

word_cleared : (records : Records) (d : ℕ) (w : UnitId) → word_on itself (parted_records records d) w ≡ true → word_on itself records w ≡ true
word_cleared (Credit2Pool records) d w = off_cleared d w.dom.0 (λ x. test_item x.units w.n (λ y. is_some y.burned)) records.domains
word_cleared (RtdsPool domains) d w = off_cleared d w.dom.0 (λ units. test_item units w.n (λ y. is_some y.burned)) domains
word_cleared (ArincPool records) d w = λ on. on
word_cleared (NullPool kept) d w = λ on. on

pub parts : (records : Records) (d : ℕ) (w : UnitId) → w.dom.0 ≢ d → is_on (parted_records records d) w ≡ is_on records w
parts records d w other = as_before w (parted_records records d) records (word_parted itself w records d other)

pub parts_off : (records : Records) (d : ℕ) (w : UnitId) → w.dom.0 ≡ d → is_on (parted_records records d) w ≡ true → is_on records w ≡ true
parts_off records d w own on = on_is w records ∙ word_cleared records d w (sym (on_is w (parted_records records d)) ∙ on)

-- where a domain is recorded
pub recorded : (records : Records) (u : UnitId) (count : ℕ) → IsRecorded records u.dom.0 count → u.n < count → has_record records u ≡ keeps_records records
recorded (Credit2Pool records) u count has low =
    test_at-some records.domains u.dom.0 (λ d. test_item d.units u.n (λ y. true)) has.domain has.at (test_item_low has.domain.units u.n (λ y. true) (λ y. refl) (subst (λ n. u.n < n) (sym has.units) low))
recorded (RtdsPool domains) u count has low =
    record_is u (RtdsPool domains)
    ∙ test_at-some domains u.dom.0 (λ units. test_item units u.n (λ y. true)) has.records has.at (test_item_low has.records u.n (λ y. true) (λ y. refl) (subst (λ n. u.n < n) (sym has.units) low))
recorded (ArincPool records) u count has low = refl
recorded (NullPool kept) u count has low = refl

-- which scheduler it is
kept_shape : (records : Records) → keeps_records records ≡ is_some (shape records)
kept_shape (Credit2Pool records) = refl
kept_shape any = refl

same_kind : (next old : Records) → shape next ≡ shape old → keeps_records next ≡ keeps_records old
same_kind next old same = kept_shape next ∙ ap is_some same ∙ sym (kept_shape old)

pub decides_kind : (ask : Ask) (scheduler : Scheduler) → keeps_records (decision_of ask scheduler).records ≡ keeps_records scheduler.records
decides_kind ask scheduler = same_kind (decision_of ask scheduler).records scheduler.records (shape_decision scheduler.records ask scheduler refl)

pub replenishes_kind : (records : Records) (t : ℕ) (u : UnitId) → keeps_records (records_after_replenish records t u) ≡ keeps_records records
replenishes_kind records t u = same_kind (records_after_replenish records t u) records (shape_replenished records t u)

pub refills_kind : (records : Records) (t d : ℕ) → keeps_records (records_after_refill records t d) ≡ keeps_records records
refills_kind records t d = same_kind (records_after_refill records t d) records (shape_refilled records t d)

pub changes_kind : (records : Records) (change : ParamChange) (t : ℕ) → keeps_records (changed_records records change t) ≡ keeps_records records
changes_kind records change t = same_kind (changed_records records change t) records (shape_changed records change t)

pub joins_kind : (records : Records) (params : DomParams) (d count t : ℕ) → keeps_records (joined_records records params d count t) ≡ keeps_records records
joins_kind (Credit2Pool records) (dom_params.Credit2 weight percent) d count t = refl
joins_kind (RtdsPool domains) (dom_params.Rtds period budget extra) d count t = refl
joins_kind records params d count t = refl

pub parts_kind : (records : Records) (d : ℕ) → keeps_records (parted_records records d) ≡ keeps_records records
parts_kind (Credit2Pool records) d = refl
parts_kind any d = refl
