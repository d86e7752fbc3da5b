-- The record of an RTDS unit after a decision, and what each step keeps of it.
use Rattle.std.proofs.Common.{◌≡◌, ℕ, Bool, true, false, List, refl, ap, subst, sym, ◌∙◌, cond}
use Rattle.std.specs.Prelude.{Option, Some, None, option_map, slice_get}
use Rattle.sched_base.specs.Numbers.{domain}
use Rattle.sched_base.specs.declared.UnitId.{UnitId}
use Rattle.sched_model.specs.declared.ask.Ask.{Ask}
use Rattle.sched_model.specs.declared.state.RtdsUnit.{RtdsUnit}
use Rattle.sched_model.specs.declared.state.Records.TheVariants.{RtdsPool}
use Rattle.sched_model.specs.Places.{at_place, is_unit, same_unit}
use Rattle.sched_model.specs.EligibleUnits.{rtds_unit_at}
use Rattle.sched_model.specs.Rtds.{change_unit, unit_burned_to, own_burned_domains, off_domains, running_domains, rtds_decision_for}
use Rattle.sched_laws.proofs.EachPlace.{by_option}
use Rattle.sched_laws.proofs.Choices.{same_unit_same}
use Rattle.sched_laws.proofs.RtdsUnits.{rtds_unit-same, rtds_unit-none, rtds_unit-other}
use Rattle.record_laws.specs.Decisions.{charged_if, off_if, on_if, after_decision}
use Rattle.record_laws.proofs.Changes.{map_same}

map_thrice : (f g h : RtdsUnit → RtdsUnit) (o : Option RtdsUnit) → option_map h (option_map g (option_map f o)) ≡ option_map (λ (x : RtdsUnit). h (g (f x))) o
map_thrice f g h None = refl
map_thrice f g h (Some x) = refl

abbrev Units : Type 0
Units = List (Option (List RtdsUnit))

module _ (u : UnitId) where
  -- the unit's record, where the record of some unit is changed
  pub changed : (w : UnitId) (f : RtdsUnit → RtdsUnit) (domains : Units) → rtds_unit_at (change_unit w f domains) u ≡ option_map (λ (x : RtdsUnit). cond (same_unit w u) (f x) x) (rtds_unit_at domains u)
  changed w f domains =
      elim (same_unit w u) as (λ b. same_unit w u ≡ b → rtds_unit_at (change_unit w f domains) u ≡ option_map (λ (x : RtdsUnit). cond b (f x) x) (rtds_unit_at domains u)) [
        | true ↦ λ is. subst (λ (v : UnitId). rtds_unit_at (change_unit v f domains) u ≡ option_map f (rtds_unit_at domains u)) (sym (same_unit_same w u is)) (own (rtds_unit_at domains u) refl)
        | false ↦ λ is. rtds_unit-other w u f domains is ∙ sym (map_same _ (rtds_unit_at domains u) (λ x. refl))
      ] refl
    where
      own : (o2 : Option RtdsUnit) → rtds_unit_at domains u ≡ o2 → rtds_unit_at (change_unit u f domains) u ≡ option_map f o2
      own None is = rtds_unit-none u f domains is
      own (Some x) is = rtds_unit-same u f domains x is

  pub burned_at : (cur : Option UnitId) (t : ℕ) (domains : Units) → rtds_unit_at (own_burned_domains cur t domains) u ≡ option_map (charged_if (is_unit cur u) t) (rtds_unit_at domains u)
  burned_at None t domains = sym (map_same _ (rtds_unit_at domains u) (λ x. refl))
  burned_at (Some w) t domains = changed w (unit_burned_to t) domains

  pub off_at : (cur : Option UnitId) (domains : Units) → rtds_unit_at (off_domains cur domains) u ≡ option_map (off_if (is_unit cur u)) (rtds_unit_at domains u)
  off_at None domains = sym (map_same _ (rtds_unit_at domains u) (λ x. refl))
  off_at (Some w) domains = changed w (λ x. record x { burned = None }) domains

module _ (ask : Ask) (domains : Units) where
  -- the records after the decision for a choice
  abbrev pub decided_units : Option UnitId → Units
  decided_units None = off_domains ask.cur (own_burned_domains ask.cur ask.at.0 domains)
  decided_units (Some w) = running_domains (Some ask.at.0) w (off_domains ask.cur (own_burned_domains ask.cur ask.at.0 domains))

  pub units_decided : (chosen : Option UnitId) → (rtds_decision_for ask (own_burned_domains ask.cur ask.at.0 domains) chosen).records ≡ RtdsPool (decided_units chosen)
  units_decided None = refl
  units_decided (Some w) = refl

  -- the footprint
  pub unit_decided : (chosen : Option UnitId) (u : UnitId) → rtds_unit_at (decided_units chosen) u ≡ option_map (after_decision ask.at.0 (is_unit ask.cur u) (is_unit chosen u)) (rtds_unit_at domains u)
  unit_decided None u = idle ∙ sym (map_same _ _ (λ x. refl)) ∙ map_thrice (charged_if (is_unit ask.cur u) ask.at.0) (off_if (is_unit ask.cur u)) (on_if false ask.at.0) (rtds_unit_at domains u)
    where
      idle : rtds_unit_at (off_domains ask.cur (own_burned_domains ask.cur ask.at.0 domains)) u ≡ option_map (off_if (is_unit ask.cur u)) (option_map (charged_if (is_unit ask.cur u) ask.at.0) (rtds_unit_at domains u))
      idle = off_at u ask.cur (own_burned_domains ask.cur ask.at.0 domains) ∙ ap (option_map (off_if (is_unit ask.cur u))) (burned_at u ask.cur ask.at.0 domains)
  unit_decided (Some w) u =
      changed u w (λ x. record x { burned = Some ask.at.0 }) (off_domains ask.cur (own_burned_domains ask.cur ask.at.0 domains))
      ∙ ap (option_map (on_if (same_unit w u) ask.at.0)) (off_at u ask.cur (own_burned_domains ask.cur ask.at.0 domains) ∙ ap (option_map (off_if (is_unit ask.cur u))) (burned_at u ask.cur ask.at.0 domains))
      ∙ map_thrice (charged_if (is_unit ask.cur u) ask.at.0) (off_if (is_unit ask.cur u)) (on_if (same_unit w u) ask.at.0) (rtds_unit_at domains u)

-- P is kept by each step on a unit that the core had, and that it takes
pub record UnitKeptByCharges (t : ℕ) (had has : Bool) (P : RtdsUnit → Type 0) : Type 0 where
  pub charges : (x : RtdsUnit) → had ≡ true → P x → P (unit_burned_to t x)
  pub stops : (x : RtdsUnit) → had ≡ true → P x → P (record x { burned = None })
  pub starts : (x : RtdsUnit) → has ≡ true → P x → P (record x { burned = Some t })

pub unit_kept : (t : ℕ) (had has : Bool) (P : RtdsUnit → Type 0) (x : RtdsUnit) → UnitKeptByCharges t had has P → P x → P (after_decision t had has x)
unit_kept t had has P x kept p = on has refl (off had refl)
  where
    off : (b : Bool) → had ≡ b → P (off_if b (charged_if b t x))
    off false is = p
    off true is = kept.stops (unit_burned_to t x) is (kept.charges x is p)

    on : (b : Bool) → has ≡ b → P (off_if had (charged_if had t x)) → P (on_if b t (off_if had (charged_if had t x)))
    on false is q = q
    on true is q = kept.starts _ is q

-- each unit has the property
abbrev pub EachUnit : (UnitId → RtdsUnit → Type 0) → Units → Type 0
EachUnit P domains = (u : UnitId) (x : RtdsUnit) → rtds_unit_at domains u ≡ Some x → P u x

-- the same of a property by domain and number
pub to_units : (P : ℕ → ℕ → RtdsUnit → Type 0) (domains : Units) → ((d : ℕ) (units : List RtdsUnit) → at_place domains d ≡ Some units → (n : ℕ) (x : RtdsUnit) → slice_get units n ≡ Some x → P d n x) → EachUnit (λ u. P u.dom.0 u.n) domains
to_units P domains each u x at = go (at_place domains u.dom.0) refl at
  where
    go : (o : Option (List RtdsUnit)) → at_place domains u.dom.0 ≡ o → elim o as (λ _. Option RtdsUnit) [ None ↦ None | Some units ↦ slice_get units u.n ] ≡ Some x → P u.dom.0 u.n x
    go None is none = absurd (cc)
    go (Some units) is get = each u.dom.0 units is u.n x get

pub from_units : (P : ℕ → ℕ → RtdsUnit → Type 0) (domains : Units) → EachUnit (λ u. P u.dom.0 u.n) domains → (d : ℕ) (units : List RtdsUnit) → at_place domains d ≡ Some units → (n : ℕ) (x : RtdsUnit) → slice_get units n ≡ Some x → P d n x
from_units P domains each d units at n x get =
    let u : UnitId = record { dom = domain d; n = n } in
    each u x (ap (λ (o : Option (List RtdsUnit)). elim o as (λ _. Option RtdsUnit) [ None ↦ None | Some ys ↦ slice_get ys n ]) at ∙ get)

pub units_kept : (ask : Ask) (domains : Units) (chosen : Option UnitId) (P : UnitId → RtdsUnit → Type 0) → ((u : UnitId) → UnitKeptByCharges ask.at.0 (is_unit ask.cur u) (is_unit chosen u) (P u)) → EachUnit P domains → EachUnit P (decided_units ask domains chosen)
units_kept ask domains chosen P kept each u y at = go (rtds_unit_at domains u) refl (sym (unit_decided ask domains chosen u) ∙ at)
  where
    F : RtdsUnit → RtdsUnit
    F = after_decision ask.at.0 (is_unit ask.cur u) (is_unit chosen u)

    go : (o : Option RtdsUnit) → rtds_unit_at domains u ≡ o → option_map F o ≡ Some y → P u y
    go None is none = absurd (cc)
    go (Some x) is some = subst (P u) (let e : Some (F x) ≡ Some y = some in cc) (unit_kept ask.at.0 (is_unit ask.cur u) (is_unit chosen u) (P u) x (kept u) (each u x is))

-- what no step touches
pub record UnitLeaves (x y : RtdsUnit) : Type 0 where
  pub deadline : y.deadline ≡ x.deadline
  pub period : y.period ≡ x.period
  pub budget : y.budget ≡ x.budget
  pub extra : y.extra ≡ x.extra

pub unit_leaves : (t : ℕ) (had has : Bool) (x : RtdsUnit) → UnitLeaves x (after_decision t had has x)
unit_leaves t had has x =
    unit_kept t had has (UnitLeaves x) x (record {
      charges = λ y is old. by_option (UnitLeaves x) y.burned _ _ (λ none. old) (λ from some. record { deadline = old.deadline; period = old.period; budget = old.budget; extra = old.extra });
      stops = λ y is old. record { deadline = old.deadline; period = old.period; budget = old.budget; extra = old.extra };
      starts = λ y is old. record { deadline = old.deadline; period = old.period; budget = old.budget; extra = old.extra };
    }) (record { deadline = refl; period = refl; budget = refl; extra = refl })
