-- What is followed of an RTDS unit in the pool of its domain: what is charged of its record, and the core that has it.
use Rattle.std.proofs.Common.{◌≡◌, ◌≢◌, ℕ, Bool, true, false, List, refl, ap, subst, sym, ◌∙◌}
use Rattle.std.specs.Prelude.{Option, Some, None, option_map, slice_get, slice_set}
use Rattle.sched_base.specs.declared.UnitId.{UnitId}
use Rattle.sched_model.specs.declared.config.DomParams.{DomParams}
use Rattle.sched_model.specs.declared.config.DomParams.TheVariants as dom_params
use Rattle.sched_model.specs.declared.config.ParamChange.{ParamChange}
use Rattle.sched_model.specs.declared.config.ParamChange.TheVariants as changes
use Rattle.sched_model.specs.declared.config.SchedKind.TheVariants as kinds
use Rattle.sched_model.specs.declared.action.Action.{Action}
use Rattle.sched_model.specs.declared.machine.Machine.{Machine}
use Rattle.sched_model.specs.declared.state.State.{State}
use Rattle.sched_model.specs.declared.state.Pool.{Pool}
use Rattle.sched_model.specs.Machine.{after, after_dom_moved, is_action_enabled}
use Rattle.sched_laws.proofs.Kept.{IsApart}
use Rattle.sched_model.specs.declared.state.Records.{Records}
use Rattle.sched_model.specs.declared.state.RtdsUnit.{RtdsUnit}
use Rattle.sched_model.specs.declared.state.Records.TheVariants.{Credit2Pool, RtdsPool}
use Rattle.sched_model.specs.Commands.{is_same_kind}
use Rattle.sched_model.specs.Places.{same_unit, test_at}
use Rattle.sched_model.specs.EligibleUnits.{rtds_unit_at}
use Rattle.sched_model.specs.Policy as policy
use Rattle.sched_model.specs.Policy.{records_kind, unit_rtds_record, joined_records, parted_records, changed_records, standard_dom_params}
use Rattle.sched_model.specs.Pool.{settled_pool}
use Rattle.sched_model.specs.Rtds as rtds
use Rattle.sched_laws.proofs.Choices.{same_unit_same}
use Rattle.sched_laws.proofs.RtdsUnits.{rtds_unit-same, rtds_unit-none, rtds_unit-other}
use Rattle.term_laws.proofs.AtPlaces.{at_place-set_other}
use Rattle.term_laws.proofs.Same as same
use Rattle.term_laws.proofs.Same.{Followed}

-- what is charged of a record
abbrev pub charged : Option RtdsUnit → Option (ℕ × Bool × ℕ × Option ℕ)
charged o = option_map (λ (x : RtdsUnit). (x.left, x.extra, x.deadline, x.burned)) o

-- a record of which as much is charged
pub record AsCharged (x y : RtdsUnit) : Type 0 where
  pub left : y.left ≡ x.left
  pub extra : y.extra ≡ x.extra
  pub deadline : y.deadline ≡ x.deadline
  pub burned : y.burned ≡ x.burned

pub charged_back : (o : Option RtdsUnit) (y : RtdsUnit) → charged (Some y) ≡ charged o → (x : RtdsUnit) × (o ≡ Some x) × AsCharged x y
charged_back None y same = absurd (cc)
charged_back (Some x) y same =
    let t1 : ℕ × Bool × ℕ × Option ℕ = (y.left, y.extra, y.deadline, y.burned) in
    let t2 : ℕ × Bool × ℕ × Option ℕ = (x.left, x.extra, x.deadline, x.burned) in
    let e : t1 ≡ t2 = cc in (
      x,
      refl,
      record {
        left = ap (λ (z : ℕ × Bool × ℕ × Option ℕ). z.0) e;
        extra = ap (λ (z : ℕ × Bool × ℕ × Option ℕ). z.1) e;
        deadline = ap (λ (z : ℕ × Bool × ℕ × Option ℕ). z.2) e;
        burned = ap (λ (z : ℕ × Bool × ℕ × Option ℕ). z.3) e;
      },
    )

-- the unit's RTDS record is there; as much is charged of it
abbrev pub HasRecord : UnitId → Records → Type 0
HasRecord u a = (x : RtdsUnit) × (unit_rtds_record a u ≡ Some x)

abbrev pub LikeRecord : UnitId → Records → Records → Type 0
LikeRecord u a b = charged (unit_rtds_record b u) ≡ charged (unit_rtds_record a u)

module _ (u : UnitId) where
  -- a change of an RTDS unit's parameters, which waits for the next replenishment
  charged_change : (v : UnitId) (f : RtdsUnit → RtdsUnit) (domains : List (Option (List RtdsUnit))) → ((x : RtdsUnit) → charged (Some (f x)) ≡ charged (Some x)) → charged (rtds_unit_at (rtds.change_unit v f domains) u) ≡ charged (rtds_unit_at domains u)
  charged_change v f domains same =
      elim (same_unit v u) as (λ b. same_unit v u ≡ b → charged (rtds_unit_at (rtds.change_unit v f domains) u) ≡ charged (rtds_unit_at domains u)) [
        | true ↦ λ is. subst (λ x. charged (rtds_unit_at (rtds.change_unit x f domains) u) ≡ charged (rtds_unit_at domains u)) (sym (same_unit_same v u is)) (here (rtds_unit_at domains u) refl)
        | false ↦ λ is. ap charged (rtds_unit-other v u f domains is)
      ] refl
    where
      here : (o : Option RtdsUnit) → rtds_unit_at domains u ≡ o → charged (rtds_unit_at (rtds.change_unit u f domains) u) ≡ charged (rtds_unit_at domains u)
      here None is = ap charged (rtds_unit-none u f domains is ∙ sym is)
      here (Some x) is = ap charged (rtds_unit-same u f domains x is) ∙ same x ∙ sym (ap charged is)

  changed : (a : Records) (change : ParamChange) (t : ℕ) → LikeRecord u a (changed_records a change t)
  changed (Credit2Pool own) (changes.Dom e weight limit) t = refl
  changed (Credit2Pool own) (changes.Rate limit) t = refl
  changed (RtdsPool domains) (changes.«Unit» v period budget extra) t = charged_change v (λ x. record x { next_period = period.0; next_budget = budget.0; next_extra = extra }) domains (λ x. refl)
  changed a (changes.Frame frame) t = framed a
    where
      framed : (b : Records) → LikeRecord u b (changed_records b (changes.Frame frame) t)
      framed (Credit2Pool own) = refl
      framed b = refl
  changed a change t = refl

  -- another domain's place is written
  set_other : (e : ℕ) → e ≢ u.dom.0 → (o : Option (List RtdsUnit)) (domains : List (Option (List RtdsUnit))) → charged (rtds_unit_at (slice_set domains e o) u) ≡ charged (rtds_unit_at domains u)
  set_other e other o domains = ap (λ (x : Option (List RtdsUnit)). charged (elim x as (λ _. Option RtdsUnit) [ None ↦ None | Some units ↦ slice_get units u.n ])) (at_place-set_other e u.dom.0 o domains other)

  parted : (e : ℕ) → e ≢ u.dom.0 → (a : Records) → LikeRecord u a (parted_records a e)
  parted e other (Credit2Pool own) = refl
  parted e other (RtdsPool domains) = set_other e other None domains
  parted e other a = refl

  joined : (e : ℕ) → e ≢ u.dom.0 → (a : Records) (params : DomParams) (count t : ℕ) → LikeRecord u a (joined_records a params e count t)
  joined e other (Credit2Pool own) (dom_params.Credit2 weight percent) count t = refl
  joined e other (RtdsPool domains) (dom_params.Rtds period budget extra) count t = set_other e other _ domains
  joined e other a params count t = refl

  refilled : (t e : ℕ) (a : Records) → LikeRecord u a (policy.records_after_refill a t e)
  refilled t e (Credit2Pool own) = refl
  refilled t e a = refl

  -- a pool of Credit2 has no record of RTDS
  not_rtds : (a : Records) (x : RtdsUnit) → is_same_kind kinds.Credit2 (records_kind a) ≡ true → unit_rtds_record a u ≡ Some x → ⊥
  not_rtds (RtdsPool domains) x kind is = cc
  not_rtds a x kind is = cc

  pub followed : Followed u.dom.0 (HasRecord u) (LikeRecord u) (λ e. Unit {0}) ⊥ (λ e limit. Unit {0})
  followed = record {
    itself = λ a. refl;
    joined = λ a b c like like2. like2 ∙ like;
    has = λ a b like x. (let y = charged_back (unit_rtds_record b u) x.0 (sym (like ∙ ap charged x.1)) in (y.0, y.1));
    parts = λ e other a. parted e other a;
    joins = λ e count t other a. joined e other a (standard_dom_params a) count t;
    refills = λ t e may a. refilled t e a;
    renews = λ t v none a. absurd none;
    no_dues = λ v x none a is has. none;
    changes_it = λ change t none a. changed a change t;
    sets = λ e weight limit t may a kind. changed a (changes.Dom e weight limit) t;
    marks = λ e n may a kind has. absurd (not_rtds a has.0 kind has.1);
  }

  -- the second pool is as the first one, for the unit
  abbrev pub Same : Pool → Pool → Type 0
  Same = same.Same u.dom.0 (HasRecord u) (LikeRecord u)

  pub same_refl : (p : Pool) → Same p p
  same_refl = same.same_refl u.dom.0 (HasRecord u) (LikeRecord u) followed

  pub same_settled : (t : ℕ) (p q : Pool) → Same p q → Same p (settled_pool t q)
  same_settled = same.same_settled u.dom.0 (HasRecord u) (LikeRecord u) followed

  abbrev pub LeavesIt : Machine → State → Action → Type 0
  LeavesIt = same.LeavesIt u.dom.0 (HasRecord u) (LikeRecord u) followed

  module _ (i : ℕ) (p : Pool) (there : test_at p.domains u.dom.0 (λ x. true) ≡ true) where
    -- the pool i is as it was
    abbrev pub SameAt : State → Type 0
    SameAt = same.SameAt u.dom.0 (HasRecord u) (LikeRecord u) followed i p there

    pub sat_after : (m : Machine) (t : ℕ) (action : Action) (s : State) → LeavesIt m s action → IsApart s → is_action_enabled m s t action ≡ true → SameAt s → SameAt (after m s t action)
    sat_after = same.sat_after u.dom.0 (HasRecord u) (LikeRecord u) followed i p there

    pub sat_dom_moved : (e : ℕ) → e ≢ u.dom.0 → (g t : ℕ) (s : State) → SameAt s → SameAt (after_dom_moved g t e s)
    sat_dom_moved = same.sat_dom_moved u.dom.0 (HasRecord u) (LikeRecord u) followed i p there
