-- What a decision does to the record of one domain: its unit that the core had gives back what it holds, and the one that the core takes has a part of the budget.
use Rattle.sched_laws.proofs.Lists.{slice_get-change_item_other}
use Rattle.std.proofs.Common.{◌≡◌, ◌≢◌, ◌<◌, ◌≤◌, ◌+◌, ◌-◌, ℕ, zero, suc, Bool, true, List, refl, arith, ap, subst, sym, ◌∙◌, cond, inl, inr}
use Rattle.std.specs.Prelude.{Option, Some, None, slice_get, length, ◌==◌, ◌||◌, ℤ, pos, negsuc, ◌+ℤ◌, ◌-ℤ◌, ◌≤ℤ◌, int_lt}
use Rattle.std.proofs.lemmas.Int.{ints, clamps}
use Rattle.sched_base.specs.Credit2Numbers.{positive_part, raised_credit, taken_budget, budget_quota, cap_budget}
use Rattle.sched_model.specs.declared.state.Credit2Unit.{Credit2Unit}
use Rattle.sched_model.specs.declared.state.Credit2Domain.{Credit2Domain}
use Rattle.sched_model.specs.Places.{change_item}
use Rattle.sched_model.specs.EligibleUnits.{has_cap_budget}
use Rattle.sched_model.specs.Credit2.{burned_unit, burned_domain, domain_after_return, domain_after_take}
pub use Rattle.record_laws.specs.Decisions.{own_charged, was_reset, has_taken, now_from, chosen_domain}
use Rattle.sched_laws.proofs.EachPlace.{by_cond}
use Rattle.state_ranges.proofs.Budgets.{taken_low}
use Rattle.sched_laws.proofs.Sound.{read_change_item}
use Rattle.term_laws.proofs.StepsDomain.{item_at, ArePast, past_item, burned_now, held_after, is_capped, Kept, kept_same, kept_trans, kept_map, kept_burned}

-- what is taken
abbrev pub part_of : Credit2Domain → ℤ
part_of x = taken_budget x.budget (budget_quota (cap_budget x.cap) (length x.units))

-- a unit holds so much, where it is there
abbrev pub HoldsIt : ℕ → ℤ → List Credit2Unit → Type 0
HoldsIt j h units = (z : Credit2Unit) → slice_get units j ≡ Some z → z.held ≡ h

module _ (most t : ℕ) where
  pub own_cap : (had : Option ℕ) (x : Credit2Domain) → (own_charged most t had x).cap ≡ x.cap
  own_cap None x = refl
  own_cap (Some i) x =
      by_cond (λ (y : Credit2Domain). y.cap ≡ x.cap) (x.cap == 0) burned (domain_after_return i burned) (λ is. refl) (λ is. gives (slice_get burned.units i))
    where
      burned : Credit2Domain
      burned = record x { units = change_item i (burned_unit most t x) x.units }

      gives : (o : Option Credit2Unit) → (elim o as (λ _. Credit2Domain) [ None ↦ burned | Some u ↦ record burned { budget = burned.budget +ℤ u.held; units = change_item i (λ y. record y { held = pos 0 }) burned.units } ]).cap ≡ x.cap
      gives None = refl
      gives (Some u) = refl

  -- what it gives back, where it is one that runs in a capped domain
  abbrev pub given_by : ℕ → Credit2Unit → ℤ
  given_by b u = u.held -ℤ pos (t - b)

  pub own_is : (i b : ℕ) (x : Credit2Domain) (u : Credit2Unit) → 0 < x.cap → slice_get x.units i ≡ Some u → u.burned ≡ Some b
      → own_charged most t (Some i) x ≡ record x { budget = x.budget +ℤ given_by b u; units = change_item i (λ y. record y { held = pos 0 }) (change_item i (burned_unit most t x) x.units) }
  own_is i b x u some at is =
      ap (λ (c : Bool). cond c burned (domain_after_return i burned)) (is_capped x.cap some)
      ∙ ap (λ (o : Option Credit2Unit). elim o as (λ _. Credit2Domain) [ None ↦ burned | Some v ↦ record burned { budget = burned.budget +ℤ v.held; units = change_item i (λ y. record y { held = pos 0 }) burned.units } ]) (item_at i (burned_unit most t x) x.units u at)
      ∙ ap (λ (h : ℤ). record burned { budget = burned.budget +ℤ h; units = change_item i (λ y. record y { held = pos 0 }) burned.units }) (held_after most t b x u some is)
    where
      burned : Credit2Domain
      burned = record x { units = change_item i (burned_unit most t x) x.units }

  -- another unit of the domain
  pub own_other : (had : Option ℕ) (x : Credit2Domain) (n : ℕ) → (had ≡ Some n → ⊥) → slice_get (own_charged most t had x).units n ≡ slice_get x.units n
  own_other None x n other = refl
  own_other (Some i) x n other =
      by_cond (λ (y : Credit2Domain). slice_get y.units n ≡ slice_get x.units n) (x.cap == 0) burned (domain_after_return i burned) (λ is. first) (λ is. gives (slice_get burned.units i))
    where
      burned : Credit2Domain
      burned = record x { units = change_item i (burned_unit most t x) x.units }

      ne : i ≢ n
      ne e = other (ap (λ (k : ℕ). Some k) e)

      first : slice_get burned.units n ≡ slice_get x.units n
      first = slice_get-change_item_other i n (burned_unit most t x) x.units ne

      gives : (o : Option Credit2Unit) → slice_get (elim o as (λ _. Credit2Domain) [ None ↦ burned | Some u ↦ record burned { budget = burned.budget +ℤ u.held; units = change_item i (λ y. record y { held = pos 0 }) burned.units } ]).units n ≡ slice_get x.units n
      gives None = first
      gives (Some u) = slice_get-change_item_other i n (λ y. record y { held = pos 0 }) burned.units ne ∙ first

  pub own_past : (had : Option ℕ) (x : Credit2Domain) → ArePast t x.units → ArePast t (own_charged most t had x).units
  own_past None x past = past
  own_past (Some i) x past =
      by_cond (λ (y : Credit2Domain). ArePast t y.units) (x.cap == 0) burned (domain_after_return i burned) (λ is. first) (λ is. gives (slice_get burned.units i))
    where
      burned : Credit2Domain
      burned = record x { units = change_item i (burned_unit most t x) x.units }

      first : ArePast t burned.units
      first = past_item t i (burned_unit most t x) x.units (λ y b at is. (let e = burned_now most t b x y is in omega (arith, e))) past

      gives : (o : Option Credit2Unit) → ArePast t (elim o as (λ _. Credit2Domain) [ None ↦ burned | Some u ↦ record burned { budget = burned.budget +ℤ u.held; units = change_item i (λ y. record y { held = pos 0 }) burned.units } ]).units
      gives None = first
      gives (Some u) = past_item t i (λ y. record y { held = pos 0 }) burned.units (λ y b at is. first i b y at is) first

  pub reset_cap : (k : ℕ) (x : Credit2Domain) → (was_reset most t k x).cap ≡ x.cap
  reset_cap zero x = refl
  reset_cap (suc k) x = refl

  pub reset_budget : (k : ℕ) (x : Credit2Domain) → (was_reset most t k x).budget ≡ x.budget
  reset_budget zero x = refl
  reset_budget (suc k) x = refl

  pub reset_kept : (k : ℕ) (x : Credit2Domain) (n : ℕ) → ArePast t x.units → Kept x (was_reset most t k x) n
  reset_kept zero x n past = kept_same x x n refl
  reset_kept (suc k) x n past =
      kept_trans x (burned_domain most t x) (was_reset most t (suc k) x) n refl (kept_burned most t x n past)
      (kept_map (λ (y : Credit2Unit). record y { credit = raised_credit y.credit (suc k) }) (burned_domain most t x) n (λ y. (refl, refl)))

pub taken_cap : (has : Option ℕ) (x : Credit2Domain) → (has_taken has x).cap ≡ x.cap
taken_cap None x = refl
taken_cap (Some j) x = by_cond (λ (y : Credit2Domain). y.cap ≡ x.cap) (x.cap == 0) x _ (λ is. refl) (λ is. refl)

abbrev pub taken_of : ℕ → Credit2Domain → Credit2Domain
taken_of j x = record x { budget = x.budget -ℤ part_of x; units = change_item j (λ (y : Credit2Unit). record y { held = part_of x }) x.units }

pub taken_is : (j : ℕ) (x : Credit2Domain) → 0 < x.cap → domain_after_take j x ≡ taken_of j x
taken_is j x some = ap (λ (c : Bool). cond c x (taken_of j x)) (is_capped x.cap some)

pub taken_other : (has : Option ℕ) (x : Credit2Domain) (n : ℕ) → (has ≡ Some n → ⊥) → slice_get (has_taken has x).units n ≡ slice_get x.units n
taken_other None x n other = refl
taken_other (Some j) x n other =
    by_cond (λ (y : Credit2Domain). slice_get y.units n ≡ slice_get x.units n) (x.cap == 0) x (taken_of j x) (λ is. refl) (λ is. slice_get-change_item_other j n (λ y. record y { held = part_of x }) x.units (λ e. other (ap (λ (k : ℕ). Some k) e)))

holds_item : (j i : ℕ) (h : ℤ) (f : Credit2Unit → Credit2Unit) (units : List Credit2Unit) → ((y : Credit2Unit) → (f y).held ≡ y.held) → HoldsIt j h units → HoldsIt j h (change_item i f units)
holds_item j i h f units same it z at = elim (read_change_item i j f units z at) [
  | inl was ↦ it z was.1
  | inr r ↦ sym (ap (λ (w : Credit2Unit). w.held) r.3) ∙ same r.0 ∙ it r.0 (subst (λ k. slice_get units k ≡ Some r.0) (sym r.2) r.1)
]

pub holds_taken : (j : ℕ) (x : Credit2Domain) → 0 < x.cap → HoldsIt j (part_of x) (domain_after_take j x).units
holds_taken j x some =
    subst (λ (y : Credit2Domain). HoldsIt j (part_of x) y.units) (sym (taken_is j x some))
    (λ z at. elim (read_change_item j j (λ (y : Credit2Unit). record y { held = part_of x }) x.units z at) [ inl was ↦ absurd (was.0 refl) | inr r ↦ sym (ap (λ (w : Credit2Unit). w.held) r.3) ])

pub from_cap : (from had : Option ℕ) (x : Credit2Domain) → (now_from from had x).cap ≡ x.cap
from_cap from None x = refl
from_cap from (Some i) x = refl

pub from_budget : (from had : Option ℕ) (x : Credit2Domain) → (now_from from had x).budget ≡ x.budget
from_budget from None x = refl
from_budget from (Some i) x = refl

pub from_other : (from had : Option ℕ) (x : Credit2Domain) (n : ℕ) → (had ≡ Some n → ⊥) → slice_get (now_from from had x).units n ≡ slice_get x.units n
from_other from None x n other = refl
from_other from (Some i) x n other = slice_get-change_item_other i n (λ (y : Credit2Unit). record y { burned = from }) x.units (λ e. other (ap (λ (k : ℕ). Some k) e))

pub from_holds : (from had : Option ℕ) (x : Credit2Domain) (j : ℕ) (h : ℤ) → HoldsIt j h x.units → HoldsIt j h (now_from from had x).units
from_holds from None x j h it = it
from_holds from (Some i) x j h it = holds_item j i h (λ (y : Credit2Unit). record y { burned = from }) x.units (λ y. refl) it

pub from_burned : (t j : ℕ) (x : Credit2Domain) (z : Credit2Unit) → slice_get (now_from (Some t) (Some j) x).units j ≡ Some z → z.burned ≡ Some t
from_burned t j x z at = elim (read_change_item j j (λ (y : Credit2Unit). record y { burned = Some t }) x.units z at) [ inl was ↦ absurd (was.0 refl) | inr r ↦ sym (ap (λ (w : Credit2Unit). w.burned) r.3) ]

-- what is left of a budget, and the part that is taken of it
above_sum : (a b : ℤ) → pos 0 ≤ℤ a → pos 0 ≤ℤ b → positive_part a + positive_part b ≤ positive_part (a +ℤ b)
above_sum (pos a) (pos b) la lb = omega arith
above_sum (negsuc a) b la lb = absurd (omega (arith, ints, la))
above_sum (pos a) (negsuc b) la lb = absurd (omega (arith, ints, lb))

pub split_budget : (b : ℤ) (q : ℕ) → pos 0 ≤ℤ b → positive_part (b -ℤ taken_budget b q) + positive_part (taken_budget b q) ≤ positive_part b
split_budget b q low =
    let p = taken_low b q low in
    let r : pos 0 ≤ℤ (b -ℤ taken_budget b q) = omega (arith, ints, clamps, low) in
    let e : (b -ℤ taken_budget b q) +ℤ taken_budget b q ≡ b = rejoin b (taken_budget b q) in
    subst (λ (z : ℤ). positive_part (b -ℤ taken_budget b q) + positive_part (taken_budget b q) ≤ positive_part z) e (above_sum (b -ℤ taken_budget b q) (taken_budget b q) r p)
  where
    rejoin : (x y : ℤ) → (x -ℤ y) +ℤ y ≡ x
    rejoin x y = omega (arith, ints)

above_is : (b : ℤ) → int_lt (pos 0) b ≡ true → pos 0 ≤ℤ b
above_is (pos n) is = omega (arith, ints)
above_is (negsuc n) is = absurd (cc)

pub budget_above : (x : Credit2Domain) → 0 < x.cap → has_cap_budget x ≡ true → pos 0 ≤ℤ x.budget
budget_above x some has = above_is x.budget (sym (ap (λ (c : Bool). c || int_lt (pos 0) x.budget) (is_capped x.cap some)) ∙ has)
