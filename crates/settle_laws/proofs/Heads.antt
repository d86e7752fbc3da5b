-- A unit that comes to wait behind one that may have every core and does not go before it.
use Rattle.std.proofs.Common.{◌≡◌, ℕ, Bool, true, false, not, refl, sym, ap, subst, ◌∙◌, arith, inl, inr}
use Rattle.std.specs.Prelude.{Option, Some, None, ◌&&◌, ◌||◌, ◌==◌, int_lt, nat_lt, ℤ}
use Rattle.std.proofs.lemmas.Bool.{or_cases}
use Rattle.std.proofs.lemmas.Bool.Decides.{nat_tests}
use Rattle.std.proofs.lemmas.Int.{ints}
use Rattle.sched_base.proofs.Bools.{and_left, and_right, false_before}
use Rattle.sched_base.specs.declared.UnitId.{UnitId}
use Rattle.sched_model.specs.declared.state.Pool.{Pool}
use Rattle.sched_model.specs.declared.state.Records.{Records}
use Rattle.sched_model.specs.declared.state.Records.TheVariants.{Credit2Pool, RtdsPool, ArincPool, NullPool}
use Rattle.sched_model.specs.declared.state.RtdsUnit.{RtdsUnit}
use Rattle.sched_model.specs.declared.state.Scheduler.{Scheduler}
use Rattle.sched_model.specs.Arinc.{current_window_unit}
use Rattle.sched_model.specs.Credit2 as credit2
use Rattle.sched_model.specs.Rtds.{is_record_before}
use Rattle.sched_model.specs.Places.{has_listed_unit, same_unit}
use Rattle.sched_model.specs.EligibleUnits.{is_unit_allowed, is_unit_eligible, may_have_core, rtds_unit_at}
use Rattle.sched_model.specs.Policy.{has_better_waiting, scheduler_with_queued, is_unit_better}
use Rattle.sched_model.specs.Pool.{pool_core_set, queue_unit}
use Rattle.sched_laws.proofs.Choices.{is_unit_same}
use Rattle.sched_laws.proofs.Lists.{some_same}
use Rattle.sched_laws.specs.EachPlace.{EachAt}
use Rattle.pool_laws.specs.CoreLooks.{IsSettled}
use Rattle.settle_laws.specs.Wanted.{goes_before, waits_for}
use Rattle.settle_laws.proofs.Fixed.{is_settled, none_wanted}
use Rattle.settle_laws.proofs.Comes.{answer_is, answer_with, not_allowed}
use Rattle.settle_laws.proofs.Waiting.{any_passes}
use Rattle.settle_laws.proofs.Tests.{or_last}

-- of two units that may have the core the one that goes before is better where the other is
ahead : (records : Records) (s : Scheduler) (home core t since : ℕ) (u w cur : UnitId) → may_have_core records s home core t u ≡ true → may_have_core records s home core t w ≡ true → goes_before records u w ≡ false
    → is_unit_better records cur since t u ≡ true → is_unit_better records cur since t w ≡ true
ahead (Credit2Pool records) s home core t since u w cur may_u may_w behind better =
    let within : Bool = not (credit2.is_rate_limited records since t) in
    let own : ℤ = credit2.unit_credit (credit2.change_unit cur (credit2.burned_unit (credit2.most_weight records) t) records) cur in
    let less = greater own (credit2.unit_credit records u) (credit2.unit_credit records w) (and_right within _ better) behind in
    ap (λ (b : Bool). b && int_lt own (credit2.unit_credit records w)) (and_left within _ better) ∙ less
  where
    greater : (a b c : ℤ) → int_lt a b ≡ true → int_lt c b ≡ false → int_lt a c ≡ true
    greater a b c f s = grind (arith, ints, f, s)
ahead (RtdsPool domains) s home core t since u w cur may_u may_w behind better = by_three (rtds_unit_at domains u) (rtds_unit_at domains w) (rtds_unit_at domains cur) may_w behind better
  where
    orders : (l d m e n h : ℕ) → (nat_lt l m || (l == m && nat_lt d e)) ≡ false → (nat_lt l n || (l == n && nat_lt d h)) ≡ true → (nat_lt m n || (m == n && nat_lt e h)) ≡ true
    orders l d m e n h f s = grind (arith, nat_tests, f, s)

    by_three : (a b c : Option RtdsUnit) → elim b as (λ _. Bool) [ None ↦ false | Some x ↦ nat_lt 0 x.left ] ≡ true
        → elim a as (λ _. Bool) [ None ↦ false | Some x ↦ elim b as (λ _. Bool) [ None ↦ false | Some y ↦ is_record_before x y ] ] ≡ false
        → elim a as (λ _. Bool) [ None ↦ false | Some x ↦ elim c as (λ _. Bool) [ None ↦ false | Some y ↦ is_record_before x y ] ] ≡ true
        → elim b as (λ _. Bool) [ None ↦ false | Some x ↦ elim c as (λ _. Bool) [ None ↦ false | Some y ↦ is_record_before x y ] ] ≡ true
    by_three a None c some f s = absurd (cc)
    by_three None (Some y) c some f s = absurd (cc)
    by_three (Some x) (Some y) None some f s = absurd (cc)
    by_three (Some x) (Some y) (Some z) some f s = orders x.level x.deadline y.level y.deadline z.level z.deadline f s
ahead (ArincPool records) s home core t since u w cur may_u may_w behind better =
    let same : u ≡ w = some_same (sym (is_unit_same (current_window_unit records t) u may_u) ∙ is_unit_same (current_window_unit records t) w may_w) in
    subst (λ (x : UnitId). not (same_unit x cur) ≡ true) same better
ahead (NullPool kept) s home core t since u w cur may_u may_w behind better = absurd (cc)

pub asks_too : (cur : Option UnitId) (since t core home : ℕ) (s : Scheduler) (u w : UnitId) → is_unit_eligible s home core t w ≡ true → goes_before s.records u w ≡ false
    → waits_for cur since t core home s u ≡ true → waits_for cur since t core home s w ≡ true
asks_too None since t core home s u w may behind is = may
asks_too (Some cur) since t core home s u w may behind is =
    let may_u : is_unit_eligible s home core t u ≡ true = and_left (is_unit_eligible s home core t u) (is_unit_better s.records cur since t u) is in
    ap (λ (b : Bool). b && is_unit_better s.records cur since t w) may
    ∙ ahead s.records s home core t since u w cur (and_right (is_unit_allowed s home core u) _ may_u) (and_right (is_unit_allowed s home core w) _ may) behind (and_right (is_unit_eligible s home core t u) _ is)

still_none : (l p x y : Bool) → (y ≡ true → x ≡ true) → (not l && not p && x) ≡ false → (not l && not p && y) ≡ false
still_none true p x y to is = refl
still_none false true x y to is = refl
still_none false false x y to is = false_before y x to is

pub settled_behind : (t : ℕ) (u w : UnitId) (pool : Pool) → IsSettled t pool → has_listed_unit pool.scheduler.queue w ≡ true → goes_before pool.scheduler.records u w ≡ false
    → EachAt (λ r c. is_unit_eligible pool.scheduler (pool_core_set pool) r t w ≡ true) pool.resources → IsSettled t (queue_unit u pool)
settled_behind t u w pool settled waits behind may = is_settled t (queue_unit u pool) (λ r c at.
    let s : Scheduler = pool.scheduler in
    let home : ℕ = pool_core_set pool in
    still_none c.leaving c.pending (has_better_waiting c.cur c.since.0 t r home s) (has_better_waiting c.cur c.since.0 t r home (scheduler_with_queued u s)) (λ is.
    elim (or_cases (has_better_waiting c.cur c.since.0 t r home s) (waits_for c.cur c.since.0 t r home s u) (sym (answer_with c.cur c.since.0 t r home u s) ∙ is)) [
      | inl before ↦ before
      | inr asks ↦
          answer_is c.cur c.since.0 t r home s
          ∙ or_last (not_allowed c.cur r home s) _ (any_passes (waits_for c.cur c.since.0 t r home s) s.queue w waits (asks_too c.cur c.since.0 t r home s u w (may r c at) behind asks))
    ]) (none_wanted t pool settled r c at))
