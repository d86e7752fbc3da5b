-- A look for one waiting unit, where without it no core was wanted.
use Rattle.std.proofs.Common.{◌≡◌, ℕ, Bool, true, false, not, List, [], ◌∷◌, refl, sym, ap, ◌∙◌, cond}
use Rattle.std.specs.Prelude.{Option, Some, None, ◌&&◌, ◌||◌, MatchBool}
use Rattle.std.specs.List.{list_any}
use Rattle.std.proofs.Math.Bool.{or_assoc}
use Rattle.sched_base.proofs.Bools.{and_left, and_right}
use Rattle.sched_base.specs.Numbers.{core}
use Rattle.sched_base.specs.declared.ResId.{ResId}
use Rattle.sched_base.specs.declared.Moment.{Moment}
use Rattle.sched_base.specs.declared.UnitId.{UnitId}
use Rattle.sched_model.specs.declared.state.Resource.{Resource}
use Rattle.sched_model.specs.declared.state.Scheduler.{Scheduler}
use Rattle.sched_model.specs.Places.{has_listed_unit, same_unit, without_unit}
use Rattle.sched_model.specs.EligibleUnits.{is_unit_eligible}
use Rattle.sched_model.specs.Policy.{has_better_waiting, is_unit_better}
use Rattle.sched_laws.proofs.Choices.{same_unit_same}
use Rattle.settle_laws.specs.Wanted.{goes_before, waits_for}
use Rattle.settle_laws.proofs.Comes.{answer_is, not_allowed, not_allowed_by, waits_by}
use Rattle.settle_laws.proofs.Heads.{asks_too}
use Rattle.settle_laws.proofs.Moments.{any_same}
use Rattle.settle_laws.proofs.Tests.{or_last}
use Rattle.settle_laws.proofs.Waiting.{any_passes, has_filter}
use Rattle.sched_ops.specs.Seen.{scheduler_without_unit}
use Rattle.sched_ops.specs.WantedCores.{is_asked, is_core_wanted, IsAnswer}

-- some unit of a list passes where one of the others does, or the unit itself, if it is there
any_without : (test : UnitId → Bool) (u : UnitId) (units : List UnitId) → list_any test units ≡ (list_any test (without_unit u units) || (has_listed_unit units u && test u))
any_without test u [] = refl
any_without test u (w ∷ units) =
    elim (same_unit u w) as (λ b. same_unit u w ≡ b → (test w || list_any test units) ≡ (list_any test (cond (not b) (w ∷ without_unit u units) (without_unit u units)) || ((b || has_listed_unit units u) && test u))) [
      | true ↦ λ same.
          ap (λ (b : Bool). b || list_any test units) (sym (ap test (same_unit_same u w same)))
          ∙ ap (λ (b : Bool). test u || b) (any_without test u units)
          ∙ itself (test u) (list_any test (without_unit u units)) (has_listed_unit units u)
      | false ↦ λ other. ap (λ (b : Bool). test w || b) (any_without test u units) ∙ sym (or_assoc (test w) (list_any test (without_unit u units)) (has_listed_unit units u && test u))
    ] refl
  where
    itself : (own others there : Bool) → (own || (others || (there && own))) ≡ (others || own)
    itself true true there = refl
    itself true false there = refl
    itself false true there = refl
    itself false false true = refl
    itself false false false = refl

-- whether the unit waits, and a core with this unit of its own, if any, is to decide anew for it
abbrev pub comes_for : Option UnitId → ℕ → ℕ → ℕ → ℕ → Scheduler → UnitId → Bool
comes_for cur since t core home s u = has_listed_unit s.queue u && waits_for cur since t core home s u

answer_left : (cur : Option UnitId) (since t core home : ℕ) (s : Scheduler) (u : UnitId) → has_better_waiting cur since t core home (scheduler_without_unit u s) ≡ (not_allowed cur core home s || list_any (waits_for cur since t core home s) (without_unit u s.queue))
answer_left cur since t core home s u =
    let others : List UnitId = without_unit u s.queue in
    let left : Scheduler = scheduler_without_unit u s in
    answer_is cur since t core home left
    ∙ ap (λ (b : Bool). b || list_any (waits_for cur since t core home left) others) (not_allowed_by cur core home s others)
    ∙ ap (λ (b : Bool). not_allowed cur core home s || b) (any_same (waits_for cur since t core home left) (waits_for cur since t core home s) others (waits_by cur since t core home s others))

-- a core's answer is that without the unit, or what the unit alone asks for
pub answer_without : (cur : Option UnitId) (since t core home : ℕ) (s : Scheduler) (u : UnitId) → has_better_waiting cur since t core home s ≡ (has_better_waiting cur since t core home (scheduler_without_unit u s) || comes_for cur since t core home s u)
answer_without cur since t core home s u =
    let others : Bool = list_any (waits_for cur since t core home s) (without_unit u s.queue) in
    answer_is cur since t core home s
    ∙ ap (λ (b : Bool). not_allowed cur core home s || b) (any_without (waits_for cur since t core home s) u s.queue)
    ∙ sym (or_assoc (not_allowed cur core home s) others (comes_for cur since t core home s u))
    ∙ ap (λ (b : Bool). b || comes_for cur since t core home s u) (sym (answer_left cur since t core home s u))

-- whether the core at the place is asked, and is to decide anew for the unit
abbrev pub is_wanted_alone : ℕ → ℕ → Scheduler → UnitId → ℕ → Option Resource → Bool
is_wanted_alone t home s u r None = false
is_wanted_alone t home s u r (Some c) = is_asked c && comes_for c.cur c.since.0 t r home s u

-- where no core was wanted without the unit, those are wanted that are to decide anew for it
pub wanted_alone : (t home : ℕ) (s : Scheduler) (u : UnitId) (r : ℕ) (place : Option Resource) → is_core_wanted t home (scheduler_without_unit u s) r place ≡ false → is_core_wanted t home s r place ≡ is_wanted_alone t home s u r place
wanted_alone t home s u r None before = refl
wanted_alone t home s u r (Some c) before =
    ap (λ (b : Bool). is_asked c && b) (answer_without c.cur c.since.0 t r home s u)
    ∙ without (is_asked c) (has_better_waiting c.cur c.since.0 t r home (scheduler_without_unit u s)) (comes_for c.cur c.since.0 t r home s u) before
  where
    without : (asked x y : Bool) → (asked && x) ≡ false → (asked && (x || y)) ≡ (asked && y)
    without false x y none = refl
    without true false y none = refl
    without true true y none = absurd (cc)

-- where each answer is whether the core is to decide anew for the unit, the set is that of the cores that are wanted
pub wanted_alone_by : (answers : ResId → Option UnitId → Moment → Bool → Type 0) (t home : ℕ) (s : Scheduler) (u : UnitId) (r : ℕ) (place : Option Resource) (b : Bool)
    → is_core_wanted t home (scheduler_without_unit u s) r place ≡ false
    → ((c : Resource) (x : Bool) → place ≡ Some c → is_asked c ≡ true → answers (core r) c.cur c.since x → x ≡ comes_for c.cur c.since.0 t r home s u)
    → IsAnswer answers r place b → b ≡ is_core_wanted t home s r place
wanted_alone_by answers t home s u r None b before says is = is
wanted_alone_by answers t home s u r (Some c) b before says is =
    elim (is_asked c) as (λ asked. is_asked c ≡ asked → MatchBool asked (answers (core r) c.cur c.since b) (b ≡ false) → b ≡ (asked && comes_for c.cur c.since.0 t r home s u)) [
      | true ↦ λ asked answer. says c b refl asked answer
      | false ↦ λ asked answer. answer
    ] refl is
    ∙ sym (wanted_alone t home s u r (Some c) before)

-- another unit that waits, may have the core, and before which the unit does not go
pub record IsBehind (s : Scheduler) (home core t : ℕ) (u : UnitId) : Type 0 where
  pub other : UnitId
  pub waits : has_listed_unit s.queue other ≡ true
  pub apart : same_unit u other ≡ false
  pub may : is_unit_eligible s home core t other ≡ true
  pub after : goes_before s.records u other ≡ false

may_have : (cur : Option UnitId) (since t core home : ℕ) (s : Scheduler) (u : UnitId) → waits_for cur since t core home s u ≡ true → is_unit_eligible s home core t u ≡ true
may_have None since t core home s u is = is
may_have (Some cur) since t core home s u is = and_left (is_unit_eligible s home core t u) (is_unit_better s.records cur since t u) is

-- a unit that does not wait, may not have the core, or stands behind another one changes no answer
pub same_without : (cur : Option UnitId) (since t core home : ℕ) (s : Scheduler) (u : UnitId) → (has_listed_unit s.queue u ≡ true → is_unit_eligible s home core t u ≡ true → IsBehind s home core t u)
    → has_better_waiting cur since t core home s ≡ has_better_waiting cur since t core home (scheduler_without_unit u s)
same_without cur since t core home s u behind = answer_without cur since t core home s u ∙ absorb (has_better_waiting cur since t core home (scheduler_without_unit u s)) (comes_for cur since t core home s u) already
  where
    absorb : (x y : Bool) → (y ≡ true → x ≡ true) → (x || y) ≡ x
    absorb true y to = refl
    absorb false true to = sym (to refl)
    absorb false false to = refl

    already : comes_for cur since t core home s u ≡ true → has_better_waiting cur since t core home (scheduler_without_unit u s) ≡ true
    already comes =
        let asks : waits_for cur since t core home s u ≡ true = and_right (has_listed_unit s.queue u) (waits_for cur since t core home s u) comes in
        let b = behind (and_left (has_listed_unit s.queue u) (waits_for cur since t core home s u) comes) (may_have cur since t core home s u asks) in
        let others : List UnitId = without_unit u s.queue in
        answer_left cur since t core home s u
        ∙ or_last (not_allowed cur core home s) (list_any (waits_for cur since t core home s) others)
        (any_passes (waits_for cur since t core home s) others b.other (has_filter (λ w. not (same_unit u w)) s.queue b.other b.waits (ap not b.apart)) (asks_too cur since t core home s u b.other b.may b.after asks))

-- so no core is wanted where each is behind
pub none_alone : (t home : ℕ) (s : Scheduler) (u : UnitId) (r : ℕ) (place : Option Resource) → is_core_wanted t home (scheduler_without_unit u s) r place ≡ false
    → ((c : Resource) → place ≡ Some c → has_listed_unit s.queue u ≡ true → is_unit_eligible s home r t u ≡ true → IsBehind s home r t u) → is_core_wanted t home s r place ≡ false
none_alone t home s u r None before behind = refl
none_alone t home s u r (Some c) before behind = ap (λ (b : Bool). is_asked c && b) (same_without c.cur c.since.0 t r home s u (behind c refl)) ∙ before
