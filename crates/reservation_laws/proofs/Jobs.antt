-- The reservation of an RTDS unit, as numbers, from its record: what is left to it up to a moment.
use Rattle.std.proofs.Common.{◌≡◌, ◌+◌, ◌-◌, ℕ, Bool, true, false, refl, arith, cond, sym, ◌∙◌, ap}
use Rattle.std.specs.Prelude.{Option, Some, None, nat_lt, ◌==◌}
use Rattle.sched_base.specs.RtdsNumbers.{burned_left, burned_level}
use Rattle.sched_model.specs.declared.state.RtdsUnit.{RtdsUnit}
use Rattle.sched_model.specs.Rtds.{unit_burned_to}
use Rattle.service_laws.specs.Demand.{Job}

-- for how long the unit has run since it was charged
abbrev pub since : ℕ → Option ℕ → ℕ
since t None = 0
since t (Some from) = t - from

-- what is left of a budget, of which nothing is left at a higher level than 0
abbrev pub first_left : ℕ → ℕ → ℕ
first_left level left = cond (level == 0) left 0

-- the unit's reservation at t
abbrev pub job : ℕ → RtdsUnit → Job
job t x = record { left = first_left x.level (x.left - since t x.burned); deadline = x.deadline; period = x.period; budget = x.budget }

-- what is left after a charge is what was left before it
none_left : (b : Bool) → ◌≡◌ {A = ℕ} (cond b 0 0) 0
none_left true = refl
none_left false = refl

left_charged : (level left budget e t : ℕ) (extra : Bool) → first_left (burned_level level left extra e) (burned_left left budget extra e - (t - t)) ≡ first_left level (left - e)
left_charged level left budget e t extra = go (nat_lt e left) refl extra
  where
    go : (b : Bool) → nat_lt e left ≡ b → (x : Bool) → first_left (cond b level (cond x (level + 1) level)) (cond b (left - e) (cond x budget 0) - (t - t)) ≡ first_left level (left - e)
    go true is x = (let same : left - e - (t - t) ≡ left - e = omega arith in ap (first_left level) same)
    go false is true =
        let none : left - e ≡ 0 = grind (arith, is) in
        let high : (level + 1 == 0) ≡ false = grind arith in
        ap (λ b. cond b (budget - (t - t)) 0) high ∙ sym (ap (first_left level) none ∙ none_left (level == 0))
    go false is false =
        let none : left - e ≡ 0 = grind (arith, is) in
        let zero2 : 0 - (t - t) ≡ 0 = omega arith in
        ap (first_left level) (zero2 ∙ sym none)

-- a charge up to t changes no reservation at t
pub job_charged : (t : ℕ) (x : RtdsUnit) → job t (unit_burned_to t x) ≡ job t x
job_charged t x = go x.burned refl
  where
    go : (o : Option ℕ) → x.burned ≡ o → job t (elim o as (λ _. RtdsUnit) [ None ↦ x | Some from ↦ record x { left = burned_left x.left x.budget x.extra (t - from); level = burned_level x.level x.left x.extra (t - from); burned = Some t } ]) ≡ job t x
    go None is = refl
    go (Some from) is =
        ap (λ (l : ℕ). record { left = l; deadline = x.deadline; period = x.period; budget = x.budget }) (left_charged x.level x.left x.budget (t - from) t x.extra ∙ ap (λ (o : Option ℕ). first_left x.level (x.left - since t o)) (sym is))

-- nor does it that the unit runs from t, or runs no more, where it is charged up to t
pub job_set : (t : ℕ) (x : RtdsUnit) (o : Option ℕ) → since t x.burned ≡ 0 → since t o ≡ 0 → job t (record x { burned = o }) ≡ job t x
job_set t x o was now = ap (λ (l : ℕ). record { left = first_left x.level (x.left - l); deadline = x.deadline; period = x.period; budget = x.budget }) (now ∙ sym was)
