-- What the parts of a Credit2 decision do to one domain of the pool.
use Rattle.std.proofs.Common.{◌≡◌, ◌≢◌, ◌<◌, ◌-◌, ◌/◌, ◌%◌, ℕ, zero, suc, Bool, true, false, not, List, [], ◌∷◌, refl, arith, ap, cond, subst, sym, ◌∙◌, length}
use Rattle.std.specs.Prelude.{Option, Some, None, is_some, ℤ, pos, int_lt, ◌+ℤ◌, ◌-ℤ◌, option_map, slice_get, ◌&&◌, ◌||◌, ◌==◌}
use Rattle.std.proofs.Math.Decide.{ℕ_discrete}
use Rattle.std.proofs.lemmas.Bool.{not-true, and_from}
use Rattle.sched_base.specs.declared.UnitId.{UnitId}
use Rattle.sched_base.specs.Credit2Numbers.{undivided_charge, burned_credit, burned_residual, cap_budget, budget_quota, taken_budget}
use Rattle.sched_model.specs.declared.state.Credit2Records.{Credit2Records}
use Rattle.sched_model.specs.declared.state.Credit2Domain.{Credit2Domain}
use Rattle.sched_model.specs.declared.state.Credit2Unit.{Credit2Unit}
use Rattle.sched_model.specs.Places.{at_place, change_at, change_item}
use Rattle.sched_model.specs.EligibleUnits.{has_cap_budget}
use Rattle.sched_model.specs.Credit2.{burned_unit, change_unit, domain_after_return, domain_after_take, unit_credit}
use Rattle.sched_base.proofs.Bools.{and_left, and_right, or_more}
use Rattle.sched_laws.proofs.EachPlace.{by_option, by_cond}
use Rattle.sched_laws.proofs.Lists.{length_change_item, slice_get-change_item}
use Rattle.moment_laws.specs.Turns.{is_funded}
use Rattle.moment_laws.proofs.Changed.{at_place-change_at, at_place-change_at_other}
use Rattle.moment_laws.proofs.Credit2Numbers.{sum_above, sum_least, take_above, rest_least, rest_less, rest_kept, minus_none}
use Rattle.moment_laws.proofs.Tests.{or_later}

-- one item of a list is changed
pub get_change_other : {X : Type 0} (i n : ℕ) (f : X → X) (xs : List X) → n ≢ i → slice_get (change_item i f xs) n ≡ slice_get xs n
get_change_other i n f [] other = refl
get_change_other zero zero f (x ∷ xs) other = absurd (other refl)
get_change_other zero (suc n) f (x ∷ xs) other = refl
get_change_other (suc i) zero f (x ∷ xs) other = refl
get_change_other (suc i) (suc n) f (x ∷ xs) other = get_change_other i n f xs (λ e. other (ap suc e))

pub change_item_same : {X : Type 0} (n : ℕ) (f : X → X) (xs : List X) → ((x : X) → slice_get xs n ≡ Some x → f x ≡ x) → change_item n f xs ≡ xs
change_item_same n f [] same = refl
change_item_same zero f (x ∷ xs) same = ap (λ y. y ∷ xs) (same x refl)
change_item_same (suc n) f (x ∷ xs) same = ap (λ ys. x ∷ ys) (change_item_same n f xs same)

pub change_at_same : {X : Type 0} (d : ℕ) (f : X → X) (places : List (Option X)) → ((x : X) → at_place places d ≡ Some x → f x ≡ x) → change_at d f places ≡ places
change_at_same d f [] same = refl
change_at_same zero f (None ∷ places) same = refl
change_at_same zero f (Some x ∷ places) same = ap (λ y. Some y ∷ places) (same x refl)
change_at_same (suc d) f (p ∷ places) same = ap (λ ps. p ∷ ps) (change_at_same d f places same)

-- a domain stands at the place, with a property
pub record Has (P : Credit2Domain → Type 0) (places : List (Option Credit2Domain)) (d : ℕ) : Type 0 where
  pub domain : Credit2Domain
  pub at : at_place places d ≡ Some domain
  pub fact : P domain

pub has_change : (P Q : Credit2Domain → Type 0) (d e : ℕ) (f : Credit2Domain → Credit2Domain) (places : List (Option Credit2Domain)) → Has P places d → (d ≡ e → (x : Credit2Domain) → at_place places e ≡ Some x → P x → Q (f x)) → (d ≢ e → (x : Credit2Domain) → P x → Q x) → Has Q (change_at e f places) d
has_change P Q d e f places has own other =
    elim (ℕ_discrete d e) [
      | yes same ↦ record {
        domain = f has.domain;
        at = subst (λ k. at_place (change_at e f places) k ≡ Some (f has.domain)) (sym same) (at_place-change_at e f places ∙ ap (option_map f) (subst (λ k. at_place places k ≡ Some has.domain) same has.at));
        fact = own same has.domain (subst (λ k. at_place places k ≡ Some has.domain) same has.at) has.fact;
      }
      | no ne ↦ record { domain = has.domain; at = at_place-change_at_other e d f places ne ∙ has.at; fact = other ne has.domain has.fact }
    ]

-- charging for no span changes nothing
div_none : (residual weight : ℕ) → residual < weight → residual / weight ≡ 0
div_none residual weight low = grind (arith, low)

mod_none : (residual weight : ℕ) → residual < weight → residual % weight ≡ residual
mod_none residual weight low = grind (arith, low)

pub charged_none : (t residual most : ℕ) → undivided_charge residual most (t - t) ≡ residual
charged_none t residual most = (let e : t - t ≡ 0 = omega arith in ap (undivided_charge residual most) e ∙ omega arith)

pub credit_kept : (t most residual weight : ℕ) (credit : ℤ) → residual < weight → burned_credit credit residual weight most (t - t) ≡ credit
credit_kept t most residual weight credit low =
    ap (λ k. credit -ℤ pos (k / weight)) (charged_none t residual most) ∙ ap (λ k. credit -ℤ pos k) (div_none residual weight low) ∙ minus_none credit

residual_kept : (t most residual weight : ℕ) → residual < weight → burned_residual residual weight most (t - t) ≡ residual
residual_kept t most residual weight low = ap (λ k. k % weight) (charged_none t residual most) ∙ mod_none residual weight low

held_kept : (t : ℕ) (b : Bool) (held : ℤ) → cond b held (held -ℤ pos (t - t)) ≡ held
held_kept t true held = refl
held_kept t false held = (let e : t - t ≡ 0 = omega arith in ap (λ k. held -ℤ pos k) e ∙ minus_none held)

pub burn_same : (most t : ℕ) (d : Credit2Domain) (x : Credit2Unit) → x.burned ≡ Some t → x.residual < d.weight → burned_unit most t d x ≡ x
burn_same most t d x now low =
    ap (λ (o : Option ℕ). elim o as (λ _. Credit2Unit) [
      | None ↦ x
      | Some from ↦ record x {
        credit = burned_credit x.credit x.residual d.weight most (t - from);
        residual = burned_residual x.residual d.weight most (t - from);
        held = cond (d.cap == 0) x.held (x.held -ℤ pos (t - from));
        burned = Some t;
      }
    ]) now
    ∙ ap (λ (k : ℤ). record x { credit = k; residual = burned_residual x.residual d.weight most (t - t); held = cond (d.cap == 0) x.held (x.held -ℤ pos (t - t)); burned = Some t }) (credit_kept t most x.residual d.weight x.credit low)
    ∙ ap (λ (k : ℕ). record x { residual = k; held = cond (d.cap == 0) x.held (x.held -ℤ pos (t - t)); burned = Some t }) (residual_kept t most x.residual d.weight low)
    ∙ ap (λ (k : ℤ). record x { held = k; burned = Some t }) (held_kept t (d.cap == 0) x.held)
    ∙ ap (λ (o : Option ℕ). record x { burned = o }) (sym now)

-- the credit of a unit charged to now
pub burn_credit : (most t : ℕ) (d : Credit2Domain) (x : Credit2Unit) → (burned_unit most t d x).credit ≡ elim x.burned as (λ _. ℤ) [ None ↦ x.credit | Some from ↦ burned_credit x.credit x.residual d.weight most (t - from) ]
burn_credit most t d x =
    by_burned x.burned
  where
    by_burned : (o : Option ℕ) → (elim o as (λ _. Credit2Unit) [
      | None ↦ x
      | Some from ↦ record x {
        credit = burned_credit x.credit x.residual d.weight most (t - from);
        residual = burned_residual x.residual d.weight most (t - from);
        held = cond (d.cap == 0) x.held (x.held -ℤ pos (t - from));
        burned = Some t;
      }
    ]).credit ≡ elim o as (λ _. ℤ) [ None ↦ x.credit | Some from ↦ burned_credit x.credit x.residual d.weight most (t - from) ]
    by_burned None = refl
    by_burned (Some from) = refl

pub credit_then : (records : Credit2Records) (u : UnitId) (f : Credit2Domain → Credit2Unit → Credit2Unit) (d : Credit2Domain) (x : Credit2Unit) → at_place records.domains u.dom.0 ≡ Some d → slice_get d.units u.n ≡ Some x → unit_credit (change_unit u f records) u ≡ (f d x).credit
credit_then records u f d x at get =
    let h : Credit2Domain → Credit2Domain = λ y. record y { units = change_item u.n (f y) y.units } in
    let a : at_place (change_at u.dom.0 h records.domains) u.dom.0 ≡ Some (h d) = at_place-change_at u.dom.0 h records.domains ∙ ap (option_map h) at in
    let b : slice_get (change_item u.n (f d) d.units) u.n ≡ Some (f d x) = slice_get-change_item u.n (f d) d.units ∙ ap (option_map (f d)) get in
    ap (λ (o : Option Credit2Domain). elim o as (λ _. ℤ) [ None ↦ pos 0 | Some y ↦ elim (slice_get y.units u.n) as (λ _. ℤ) [ None ↦ pos 0 | Some z ↦ z.credit ] ]) a
    ∙ ap (λ (o : Option Credit2Unit). elim o as (λ _. ℤ) [ None ↦ pos 0 | Some z ↦ z.credit ]) b

-- the core's own unit gives its budget back, where its domain is capped
abbrev pub gives : ℕ → Credit2Domain → Credit2Domain
gives n d = cond (d.cap == 0) d (domain_after_return n d)

abbrev pub held_above : Credit2Domain → ℕ → Bool
held_above d n = elim (slice_get d.units n) as (λ _. Bool) [ None ↦ false | Some x ↦ int_lt (pos 0) x.held ]

-- what is funded and capped
funded_parts : (d : Credit2Domain) (n : ℕ) → (d.cap == 0) ≡ false → is_funded d n ≡ true → (int_lt d.budget (pos 0) ≡ false) × (held_above d n ≡ true)
funded_parts d n capped funded =
    let two : (not (int_lt d.budget (pos 0)) && held_above d n) ≡ true = sym (ap (λ b. b || (not (int_lt d.budget (pos 0)) && held_above d n)) capped) ∙ funded in
    (not-true (int_lt d.budget (pos 0)) (and_left (not (int_lt d.budget (pos 0))) _ two), and_right (not (int_lt d.budget (pos 0))) _ two)

funded_of : (d : Credit2Domain) (n : ℕ) → int_lt d.budget (pos 0) ≡ false → held_above d n ≡ true → is_funded d n ≡ true
funded_of d n owes holds = or_later (d.cap == 0) (and_from (not (int_lt d.budget (pos 0))) _ (ap not owes) holds)

-- another unit of the domain stays funded while the core's own gives back, or a chosen one takes, or one goes on or off
pub funded_gives : (i n : ℕ) (d : Credit2Domain) → n ≢ i → ((x : Credit2Unit) → slice_get d.units i ≡ Some x → int_lt x.held (pos 0) ≡ false) → is_funded d n ≡ true → is_funded (gives i d) n ≡ true
funded_gives i n d other low funded =
    by_cond (λ (y : Credit2Domain). is_funded y n ≡ true) (d.cap == 0) d (domain_after_return i d) (λ is. funded)
    (λ capped. by_option (λ (y : Credit2Domain). is_funded y n ≡ true) (slice_get d.units i) d (λ u. record d { budget = d.budget +ℤ u.held; units = change_item i (λ x. record x { held = pos 0 }) d.units })
    (λ none. funded)
    (λ x is. (
    let parts = funded_parts d n capped funded in
    funded_of (record d { budget = d.budget +ℤ x.held; units = change_item i (λ y. record y { held = pos 0 }) d.units }) n (sum_least d.budget x.held parts.0 (low x is))
    (ap (λ (o : Option Credit2Unit). elim o as (λ _. Bool) [ None ↦ false | Some y ↦ int_lt (pos 0) y.held ]) (get_change_other i n (λ y. record y { held = pos 0 }) d.units other) ∙ parts.1))))

pub funded_takes : (i n : ℕ) (d : Credit2Domain) → n ≢ i → has_cap_budget d ≡ true → is_funded d n ≡ true → is_funded (domain_after_take i d) n ≡ true
funded_takes i n d other has funded =
    let taken : ℤ = taken_budget d.budget (budget_quota (cap_budget d.cap) (length d.units)) in
    by_cond (λ (y : Credit2Domain). is_funded y n ≡ true) (d.cap == 0) d (record d { budget = d.budget -ℤ taken; units = change_item i (λ x. record x { held = taken }) d.units }) (λ is. funded)
    (λ capped. (
    let parts = funded_parts d n capped funded in
    let some : int_lt (pos 0) d.budget ≡ true = sym (ap (λ b. b || int_lt (pos 0) d.budget) capped) ∙ has in
    funded_of (record d { budget = d.budget -ℤ taken; units = change_item i (λ x. record x { held = taken }) d.units }) n (rest_least d.budget (budget_quota (cap_budget d.cap) (length d.units)) some)
    (ap (λ (o : Option Credit2Unit). elim o as (λ _. Bool) [ None ↦ false | Some y ↦ int_lt (pos 0) y.held ]) (get_change_other i n (λ x. record x { held = taken }) d.units other) ∙ parts.1)))

-- a unit that takes is funded
pub takes_funded : (n : ℕ) (d : Credit2Domain) → has_cap_budget d ≡ true → is_some (slice_get d.units n) ≡ true → is_funded (domain_after_take n d) n ≡ true
takes_funded n d has there =
    let most : ℕ = budget_quota (cap_budget d.cap) (length d.units) in
    let taken : ℤ = taken_budget d.budget most in
    by_cond (λ (y : Credit2Domain). is_funded y n ≡ true) (d.cap == 0) d (record d { budget = d.budget -ℤ taken; units = change_item n (λ x. record x { held = taken }) d.units })
    (λ is. or_more (d.cap == 0) _ is)
    (λ capped. (
    let some : int_lt (pos 0) d.budget ≡ true = sym (ap (λ b. b || int_lt (pos 0) d.budget) capped) ∙ has in
    funded_of (record d { budget = d.budget -ℤ taken; units = change_item n (λ x. record x { held = taken }) d.units }) n (rest_least d.budget most some)
    (ap (λ (o : Option Credit2Unit). elim o as (λ _. Bool) [ None ↦ false | Some y ↦ int_lt (pos 0) y.held ]) (slice_get-change_item n (λ x. record x { held = taken }) d.units)
    ∙ by_unit taken (slice_get d.units n) there (take_above d.budget most some (grind arith)))))
  where
    by_unit : (taken : ℤ) (o : Option Credit2Unit) → is_some o ≡ true → int_lt (pos 0) taken ≡ true → elim (option_map (λ (x : Credit2Unit). record x { held = taken }) o) as (λ _. Bool) [ None ↦ false | Some y ↦ int_lt (pos 0) y.held ] ≡ true
    by_unit taken None is above = absurd (cc)
    by_unit taken (Some x) is above = above

pub funded_runs : (i n : ℕ) (b : Option ℕ) (d : Credit2Domain) → is_funded (record d { units = change_item i (λ x. record x { burned = b }) d.units }) n ≡ is_funded d n
funded_runs i n b d = ap (λ h. d.cap == 0 || (not (int_lt d.budget (pos 0)) && h)) (held_same i n d.units)
  where
    held_same : (i n : ℕ) (xs : List Credit2Unit) → elim (slice_get (change_item i (λ x. record x { burned = b }) xs) n) as (λ _. Bool) [ None ↦ false | Some x ↦ int_lt (pos 0) x.held ] ≡ elim (slice_get xs n) as (λ _. Bool) [ None ↦ false | Some x ↦ int_lt (pos 0) x.held ]
    held_same i n [] = refl
    held_same zero zero (x ∷ xs) = refl
    held_same zero (suc n) (x ∷ xs) = refl
    held_same (suc i) zero (x ∷ xs) = refl
    held_same (suc i) (suc n) (x ∷ xs) = held_same i n xs

-- a funded unit may go on once it has given back
pub gives_budget : (n : ℕ) (d : Credit2Domain) → is_funded d n ≡ true → has_cap_budget (gives n d) ≡ true
gives_budget n d funded =
    by_cond (λ (y : Credit2Domain). has_cap_budget y ≡ true) (d.cap == 0) d (domain_after_return n d) (λ is. or_more (d.cap == 0) _ is)
    (λ capped. (let parts = funded_parts d n capped funded in by_unit (slice_get d.units n) refl parts.0 parts.1))
  where
    by_unit : (o : Option Credit2Unit) → slice_get d.units n ≡ o → int_lt d.budget (pos 0) ≡ false → elim o as (λ _. Bool) [ None ↦ false | Some x ↦ int_lt (pos 0) x.held ] ≡ true
        → has_cap_budget (elim o as (λ _. Credit2Domain) [ None ↦ d | Some u ↦ record d { budget = d.budget +ℤ u.held; units = change_item n (λ x. record x { held = pos 0 }) d.units } ]) ≡ true
    by_unit None is low holds = absurd (cc)
    by_unit (Some x) is low holds = or_later (d.cap == 0) (sum_above d.budget x.held low holds)

-- giving back and taking again leaves no budget where there was none
pub again_no_more : (n : ℕ) (d : Credit2Domain) (x : Credit2Unit) → slice_get d.units n ≡ Some x → int_lt (pos (budget_quota (cap_budget d.cap) (length d.units))) x.held ≡ false → has_cap_budget (domain_after_take n (gives n d)) ≡ true → has_cap_budget d ≡ true
again_no_more n d x at low has = by_cap (d.cap == 0) refl
  where
    given : Credit2Domain
    given = record d { budget = d.budget +ℤ x.held; units = change_item n (λ y. record y { held = pos 0 }) d.units }

    by_cap : (b : Bool) → (d.cap == 0) ≡ b → has_cap_budget d ≡ true
    by_cap true is = or_more (d.cap == 0) _ is
    by_cap false is =
        let e : gives n d ≡ given = ap (λ b. cond b d (domain_after_return n d)) is ∙ ap (λ (o : Option Credit2Unit). elim o as (λ _. Credit2Domain) [ None ↦ d | Some u ↦ record d { budget = d.budget +ℤ u.held; units = change_item n (λ y. record y { held = pos 0 }) d.units } ]) at in
        let has2 : has_cap_budget (domain_after_take n given) ≡ true = subst (λ y. has_cap_budget (domain_after_take n y) ≡ true) e has in
        let taken : ℤ = taken_budget given.budget (budget_quota (cap_budget given.cap) (length given.units)) in
        let rest : Credit2Domain = record given { budget = given.budget -ℤ taken; units = change_item n (λ y. record y { held = taken }) given.units } in
        let has3 : has_cap_budget rest ≡ true = sym (ap (λ b. has_cap_budget (cond b given rest)) is) ∙ has2 in
        let above : int_lt (pos 0) rest.budget ≡ true = sym (ap (λ b. b || int_lt (pos 0) rest.budget) is) ∙ has3 in
        let above2 : int_lt (pos 0) ((d.budget +ℤ x.held) -ℤ taken_budget (d.budget +ℤ x.held) (budget_quota (cap_budget d.cap) (length d.units))) ≡ true =
        subst (λ k. int_lt (pos 0) ((d.budget +ℤ x.held) -ℤ taken_budget (d.budget +ℤ x.held) (budget_quota (cap_budget d.cap) k)) ≡ true) (length_change_item n (λ y. record y { held = pos 0 }) d.units) above in
        or_later (d.cap == 0) (rest_kept d.budget x.held (budget_quota (cap_budget d.cap) (length d.units)) low above2)

pub takes_less : (n : ℕ) (d : Credit2Domain) → has_cap_budget (domain_after_take n d) ≡ true → has_cap_budget d ≡ true
takes_less n d has = by_cap (d.cap == 0) refl
  where
    by_cap : (b : Bool) → (d.cap == 0) ≡ b → has_cap_budget d ≡ true
    by_cap true is = or_more (d.cap == 0) _ is
    by_cap false is =
        let taken : ℤ = taken_budget d.budget (budget_quota (cap_budget d.cap) (length d.units)) in
        let rest : Credit2Domain = record d { budget = d.budget -ℤ taken; units = change_item n (λ y. record y { held = taken }) d.units } in
        let has3 : has_cap_budget rest ≡ true = sym (ap (λ b. has_cap_budget (cond b d rest)) is) ∙ has in
        let above : int_lt (pos 0) rest.budget ≡ true = sym (ap (λ b. b || int_lt (pos 0) rest.budget) is) ∙ has3 in
        or_later (d.cap == 0) (rest_less d.budget (budget_quota (cap_budget d.cap) (length d.units)) (grind arith) above)

-- what the parts leave of a domain: its weight, and the units but one
pub record LeavesOthers (i : ℕ) (d e : Credit2Domain) : Type 0 where
  pub weight : e.weight ≡ d.weight
  pub units : (n : ℕ) → n ≢ i → slice_get e.units n ≡ slice_get d.units n
  pub own : (x : Credit2Unit) → slice_get d.units i ≡ Some x → (y : Credit2Unit) × (slice_get e.units i ≡ Some y) × (y.credit ≡ x.credit) × (y.residual ≡ x.residual)

changes_own : (i : ℕ) (f : Credit2Unit → Credit2Unit) (d : Credit2Domain) (b : ℤ) → ((x : Credit2Unit) → ((f x).credit ≡ x.credit) × ((f x).residual ≡ x.residual)) → LeavesOthers i d (record d { budget = b; units = change_item i f d.units })
changes_own i f d b same = record {
  weight = refl;
  units = λ n other. get_change_other i n f d.units other;
  own = λ x at. (f x, slice_get-change_item i f d.units ∙ ap (option_map f) at, (same x).0, (same x).1);
}

leaves_itself : (i : ℕ) (d : Credit2Domain) → LeavesOthers i d d
leaves_itself i d = record { weight = refl; units = λ n other. refl; own = λ x at. (x, at, refl, refl) }

pub gives_leaves : (i : ℕ) (d : Credit2Domain) → LeavesOthers i d (gives i d)
gives_leaves i d =
    by_cond (LeavesOthers i d) (d.cap == 0) d (domain_after_return i d) (λ is. leaves_itself i d)
    (λ is. by_option (LeavesOthers i d) (slice_get d.units i) d (λ u. record d { budget = d.budget +ℤ u.held; units = change_item i (λ x. record x { held = pos 0 }) d.units })
    (λ none. leaves_itself i d) (λ u some. changes_own i (λ x. record x { held = pos 0 }) d (d.budget +ℤ u.held) (λ x. (refl, refl))))

pub takes_leaves : (i : ℕ) (d : Credit2Domain) → LeavesOthers i d (domain_after_take i d)
takes_leaves i d =
    let taken : ℤ = taken_budget d.budget (budget_quota (cap_budget d.cap) (length d.units)) in
    by_cond (LeavesOthers i d) (d.cap == 0) d (record d { budget = d.budget -ℤ taken; units = change_item i (λ x. record x { held = taken }) d.units }) (λ is. leaves_itself i d)
    (λ is. changes_own i (λ x. record x { held = taken }) d (d.budget -ℤ taken) (λ x. (refl, refl)))

pub runs_leaves : (i : ℕ) (b : Option ℕ) (d : Credit2Domain) → LeavesOthers i d (record d { units = change_item i (λ (x : Credit2Unit). record x { burned = b }) d.units })
runs_leaves i b d = changes_own i (λ x. record x { burned = b }) d d.budget (λ x. (refl, refl))
