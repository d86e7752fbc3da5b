-- Which domains of Credit2 may run after each step of a decision.
use Rattle.std.proofs.Common.{◌≡◌, ◌≢◌, ℕ, Bool, true, false, refl, sym, ap, ◌∙◌, cond, arith}
use Rattle.std.specs.Prelude.{Option, Some, None, ◌||◌, ◌==◌, option_map, int_lt, pos, ℤ, ◌-ℤ◌, length}
use Rattle.std.specs.Int.{int_min}
use Rattle.std.proofs.lemmas.Int.{ints, clamps}
use Rattle.sched_base.specs.Credit2Numbers.{budget_quota, taken_budget, cap_budget}
use Rattle.sched_base.specs.declared.UnitId.{UnitId}
use Rattle.sched_model.specs.declared.state.Credit2Domain.{Credit2Domain}
use Rattle.sched_model.specs.declared.state.Credit2Records.{Credit2Records}
use Rattle.sched_model.specs.Places.{at_place}
use Rattle.sched_model.specs.EligibleUnits.{has_cap_budget}
use Rattle.sched_model.specs.Credit2.{own_burned_records, burned_unit, change_domain, change_unit, has_domain_budget, domain_after_return, most_weight, domain_after_take}
use Rattle.record_laws.specs.Decisions.{chosen_domain, has_taken, now_from, own_charged, was_reset}
use Rattle.record_laws.proofs.Charges.{reset_budget}
use Rattle.sched_laws.proofs.EachPlace.{at_place-set_other, by_cond}

abbrev pub budget_at : Option Credit2Domain → Bool
budget_at o = elim o as (λ _. Bool) [ None ↦ false | Some d ↦ has_cap_budget d ]

pub budget_elsewhere : (i : ℕ) (f : Credit2Domain → Credit2Domain) (records : Credit2Records) (w : UnitId) → i ≢ w.dom.0 → has_domain_budget (change_domain i f records) w ≡ has_domain_budget records w
budget_elsewhere i f records w other = ap budget_at (at_place-set_other i w.dom.0 _ records.domains other)

-- a unit's budget that its domain gives away makes no domain run
taken_less : (n : ℕ) (d : Credit2Domain) → has_cap_budget (domain_after_take n d) ≡ true → has_cap_budget d ≡ true
taken_less n d = by_cond (λ (e : Credit2Domain). has_cap_budget e ≡ true → has_cap_budget d ≡ true) (d.cap == 0) d _ (λ is has. has)
    (λ is has. last (d.cap == 0) (int_lt (pos 0) d.budget) (lesser d.budget (budget_quota (cap_budget d.cap) (length d.units)) (second (d.cap == 0) (int_lt (pos 0) (d.budget -ℤ taken_budget d.budget (budget_quota (cap_budget d.cap) (length d.units)))) is has)))
  where
    second : (a b : Bool) → a ≡ false → (a || b) ≡ true → b ≡ true
    second true b none any = absurd (cc)
    second false b none any = any

    last : (a b : Bool) → b ≡ true → (a || b) ≡ true
    last true b is = refl
    last false b is = is

    lesser : (b : ℤ) (q : ℕ) → int_lt (pos 0) (b -ℤ int_min (pos q) b) ≡ true → int_lt (pos 0) b ≡ true
    lesser b q is = grind (arith, ints, clamps, is)

-- a decision lets no domain run that may not once the core's own unit is charged
pub budget_chosen : (most most2 t k : ℕ) (had has : Option ℕ) (o : Option Credit2Domain) → budget_at (option_map (chosen_domain most most2 t k had has) o) ≡ true → budget_at (option_map (own_charged most t had) o) ≡ true
budget_chosen most most2 t k had has None is = is
budget_chosen most most2 t k had has (Some x) is =
    let y : Credit2Domain = was_reset most2 t k (own_charged most t had x) in
    sym (reset_budget most2 t k (own_charged most t had x)) ∙ taken has y (sym (from None had (has_taken has y)) ∙ sym (from (Some t) has (now_from None had (has_taken has y))) ∙ is)
  where
    from : (o : Option ℕ) (unit : Option ℕ) (y : Credit2Domain) → has_cap_budget (now_from o unit y) ≡ has_cap_budget y
    from o None y = refl
    from o (Some i) y = refl

    taken : (unit : Option ℕ) (y : Credit2Domain) → has_cap_budget (has_taken unit y) ≡ true → has_cap_budget y ≡ true
    taken None y has = has
    taken (Some j) y has = taken_less j y has

-- the core's own unit gives back what it holds to its own domain alone
pub budget_burned : (v : UnitId) (t : ℕ) (records : Credit2Records) (w : UnitId) → v.dom.0 ≢ w.dom.0 → has_domain_budget (own_burned_records (Some v) t records) w ≡ has_domain_budget records w
budget_burned v t records w other =
    budget_elsewhere v.dom.0 (λ d. cond (d.cap == 0) d (domain_after_return v.n d)) (change_unit v (burned_unit (most_weight records) t) records) w other
    ∙ budget_elsewhere v.dom.0 _ records w other

pub budget_same : (records : Credit2Records) (v w : UnitId) → v.dom.0 ≡ w.dom.0 → has_domain_budget records v ≡ has_domain_budget records w
budget_same records v w e = ap (λ (k : ℕ). budget_at (at_place records.domains k)) e
