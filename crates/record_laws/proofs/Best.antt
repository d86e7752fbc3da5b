-- The best of some units: a scan that keeps the better of two units ends at one of them, and none of them is better.
use Rattle.std.proofs.Common.{◌≡◌, Bool, true, false, List, [], ◌∷◌, cond, refl, ap, subst, sym, ◌∙◌, ◌⊎◌, inl, inr}
use Rattle.std.specs.Prelude.{Option, Some, None, ◌||◌}
use Rattle.std.proofs.lemmas.Bool.{or_cases}
use Rattle.sched_base.specs.declared.UnitId.{UnitId}
use Rattle.sched_model.specs.Places.{has_listed_unit, same_unit}
use Rattle.sched_base.proofs.Bools.{or_more, false_before}
use Rattle.sched_laws.proofs.Choices.{same_unit_same}
use Rattle.sched_laws.proofs.Counts.{same_unit_refl}

or_later : {b : Bool} (a : Bool) → b ≡ true → (a || b) ≡ true
or_later true e = refl
or_later false e = e

-- no unit is better than itself, and who is better than a better one is better
pub record IsOrder (better : UnitId → UnitId → Bool) : Type 0 where
  pub irrefl : (u : UnitId) → better u u ≡ false
  pub trans : (a b e : UnitId) → better a b ≡ true → better b e ≡ true → better a e ≡ true

-- a scan that begins with the best one so far, and keeps the better one of two
pub record IsScan (better : UnitId → UnitId → Bool) (pick : Option UnitId → List UnitId → Option UnitId) : Type 0 where
  pub ends : (best : Option UnitId) → pick best [] ≡ best
  pub starts : (u : UnitId) (xs : List UnitId) → pick None (u ∷ xs) ≡ pick (Some u) xs
  pub goes_on : (b u : UnitId) (xs : List UnitId) → pick (Some b) (u ∷ xs) ≡ pick (Some (cond (better u b) u b)) xs

-- what it ends at: one of the units, than which none of them is better
pub record IsBest (better : UnitId → UnitId → Bool) (best : Option UnitId) (xs : List UnitId) (w : UnitId) : Type 0 where
  pub source : (best ≡ Some w) ⊎ (has_listed_unit xs w ≡ true)
  pub none_better : (e : UnitId) → has_listed_unit xs e ≡ true → better e w ≡ false
  pub over : (b : UnitId) → best ≡ Some b → (w ≡ b) ⊎ (better w b ≡ true)

module _ {better : UnitId → UnitId → Bool} {pick : Option UnitId → List UnitId → Option UnitId} (order : IsOrder better) (scan : IsScan better pick) where
  least : (a b e : UnitId) → better a b ≡ true → better e b ≡ false → better e a ≡ false
  least a b e above not = false_before (better e a) (better e b) (λ ahead. order.trans e a b ahead above) not

  not_better : (w b : UnitId) → (w ≡ b) ⊎ (better w b ≡ true) → better b w ≡ false
  not_better w b (inl e) = subst (λ x. better b x ≡ false) (sym e) (order.irrefl b)
  not_better w b (inr above) = least w b b above (order.irrefl b)

  -- a unit and those behind it
  with_first : (u : UnitId) (xs : List UnitId) (w : UnitId) → better u w ≡ false → ((e : UnitId) → has_listed_unit xs e ≡ true → better e w ≡ false) → (e : UnitId) → has_listed_unit (u ∷ xs) e ≡ true → better e w ≡ false
  with_first u xs w first behind e has = elim (or_cases (same_unit e u) (has_listed_unit xs e) has) [ inl same ↦ subst (λ x. better x w ≡ false) (sym (same_unit_same e u same)) first | inr rest ↦ behind e rest ]

  -- the scan went on with the unit
  from_unit : (best : Option UnitId) (u : UnitId) (xs : List UnitId) (w : UnitId) → IsBest better (Some u) xs w → ((b : UnitId) → best ≡ Some b → better u b ≡ true) → IsBest better best (u ∷ xs) w
  from_unit best u xs w r beats = record {
    source = inr (elim r.source [ inl e ↦ (let same : u ≡ w = cc in or_more (same_unit w u) _ (subst (λ x. same_unit x u ≡ true) same (same_unit_refl u))) | inr has ↦ or_later (same_unit w u) has ]);
    none_better = with_first u xs w (not_better w u (r.over u refl)) r.none_better;
    over = λ b is. inr (elim (r.over u refl) [ inl e ↦ subst (λ x. better x b ≡ true) (sym e) (beats b is) | inr above ↦ order.trans w u b above (beats b is) ]);
  }

  -- the scan went on with the better one of two
  from_better : (b u : UnitId) (xs : List UnitId) (w : UnitId) → (pick (Some u) xs ≡ Some w → IsBest better (Some u) xs w) → (pick (Some b) xs ≡ Some w → IsBest better (Some b) xs w)
      → (t : Bool) → better u b ≡ t → pick (Some (cond t u b)) xs ≡ Some w → IsBest better (Some b) (u ∷ xs) w
  from_better b u xs w with_u with_b true above h = from_unit (Some b) u xs w (with_u h) (λ b2 best_is. (let same : b ≡ b2 = cc in subst (λ x. better u x ≡ true) same above))
  from_better b u xs w with_u with_b false not h =
      let r = with_b h in
      record {
        source = elim r.source [ inl e ↦ inl e | inr has ↦ inr (or_later (same_unit w u) has) ];
        none_better = with_first u xs w (elim (r.over b refl) [ inl e ↦ subst (λ x. better u x ≡ false) (sym e) not | inr above ↦ least w b u above not ]) r.none_better;
        over = r.over;
      }

  pub is_best : (best : Option UnitId) (xs : List UnitId) (w : UnitId) → pick best xs ≡ Some w → IsBest better best xs w
  is_best best [] w is = record {
    source = inl (sym (scan.ends best) ∙ is);
    none_better = λ e has. absurd (cc);
    over = λ b best_is. inl (let e : Some w ≡ Some b = sym is ∙ scan.ends best ∙ best_is in cc);
  }
  is_best None (u ∷ xs) w is = from_unit None u xs w (is_best (Some u) xs w (sym (scan.starts u xs) ∙ is)) (λ b none. absurd (cc))
  is_best (Some b) (u ∷ xs) w is = from_better b u xs w (is_best (Some u) xs w) (is_best (Some b) xs w) (better u b) refl (sym (scan.goes_on b u xs) ∙ is)

  some_best : (b : UnitId) (xs : List UnitId) → pick (Some b) xs ≡ None → ⊥
  some_best b [] is = absurd (let e : Some b ≡ None = sym (scan.ends (Some b)) ∙ is in cc)
  some_best b (u ∷ xs) is = some_best (cond (better u b) u b) xs (sym (scan.goes_on b u xs) ∙ is)

  -- where it ends at none, there is none
  pub none_best : (best : Option UnitId) (xs : List UnitId) → pick best xs ≡ None → (best ≡ None) × (xs ≡ [])
  none_best best [] is = (sym (scan.ends best) ∙ is, refl)
  none_best None (u ∷ xs) is = absurd (some_best u xs (sym (scan.starts u xs) ∙ is))
  none_best (Some b) (u ∷ xs) is = absurd (some_best b (u ∷ xs) is)

  pub none_listed : (best : Option UnitId) (w : UnitId) (xs : List UnitId) → has_listed_unit xs w ≡ true → pick best xs ≡ None → ⊥
  none_listed best w xs has is = (let e : has_listed_unit xs w ≡ false = ap (λ (ys : List UnitId). has_listed_unit ys w) (none_best best xs is).1 in absurd (cc))
