-- What the budgets of a pool's domains keep at a decision, a refill and a change of parameters.
use Rattle.state_ranges.proofs.Rtds.{last_later, still_last}
use Rattle.std.proofs.Common.{◌≡◌, ◌≢◌, ◌≤◌, ◌*◌, ◌/◌, ◌%◌, ℕ, zero, suc, true, List, [], ◌∷◌, refl, arith, subst, sym, ap, cond, ◌⊎◌, inl, inr, length}
use Rattle.std.proofs.Math.Nat.{div-le_self}
use Rattle.std.specs.Prelude.{Option, Some, None, unwrap_or, slice_get, map, max, replicate, is_some, sum_by, ◌==◌, ℤ, pos, negsuc, neg_ℤ, ◌+ℤ◌, ◌-ℤ◌, ◌≤ℤ◌}
use Rattle.std.specs.Int.{int_min}
use Rattle.std.specs.Option.{IfSome}
use Rattle.std.proofs.lemmas.Int.{ints, clamps}
use Rattle.std.proofs.lemmas.List.{length-replicate, length-map}
use Rattle.std.proofs.lemmas.List.Sums.{sum_by-cons}
use Rattle.sched_base.specs.Credit2Numbers.{positive_part, start_credit, cap_budget, budget_quota, taken_budget}
use Rattle.sched_model.specs.declared.state.Credit2Unit.{Credit2Unit}
use Rattle.sched_model.specs.declared.state.Credit2Domain.{Credit2Domain}
use Rattle.sched_model.specs.Places.{change_item}
use Rattle.sched_model.specs.Credit2.{burned_domain, domain_after_take, passed_periods, running_budget, domain_after_refill, fresh_credit2_domain, domain_with_weight, domain_with_cap}
use Rattle.sched_laws.proofs.EachPlace.{by_cond}
use Rattle.sched_laws.proofs.Lists.{length_change_item}
use Rattle.sched_laws.proofs.Sound.{read_change_item}
use Rattle.state_ranges.proofs.Budget.{get_map, helds_item, lasts_item, held_weaker, b_weaker, b_burn_units, b_same, IsIt}
use Rattle.state_ranges.specs.Budgets.{lasts, helds, HeldFits, BudgetFits, Nobody}

-- the part that a unit takes of a budget above 0
quota_small : (cap units : ℕ) → cap ≤ 6400 → budget_quota (cap_budget cap) units ≤ 640000000
quota_small cap units low = max_low (cap_budget cap / units) (let d = div-le_self (cap_budget cap) units in omega (arith, d, low))
  where
    max_low : (a : ℕ) → a ≤ 640000000 → max a 500000 ≤ 640000000
    max_low a x = grind (arith, x)

pub taken_low : (b : ℤ) (q : ℕ) → pos 0 ≤ℤ b → pos 0 ≤ℤ taken_budget b q
taken_low b q low = omega (arith, ints, clamps, low)

taken_most : (b : ℤ) (q : ℕ) → q ≤ 640000000 → taken_budget b q ≤ℤ pos 640000000
taken_most b q low = omega (arith, ints, clamps, low)

module _ (t : ℕ) (IsCount : ℕ → Type 0) where
  -- a chosen unit takes its part: it held nothing before
  pub b_taken : (Zr : ℕ → Type 0) (i : ℕ) (x : Credit2Domain) (u : Credit2Unit) → slice_get x.units i ≡ Some u → u.held ≡ pos 0 → (x.cap ≡ 0) ⊎ (pos 0 ≤ℤ x.budget)
      → BudgetFits t IsCount Nobody Zr x → BudgetFits t IsCount (IsIt t IsCount i) (λ n. Zr n × (n ≢ i)) (domain_after_take i x)
  b_taken Zr i x u at none pays fits =
      by_cond (BudgetFits t IsCount (IsIt t IsCount i) (λ n. Zr n × (n ≢ i))) (x.cap == 0) x (record x { budget = x.budget -ℤ part; units = change_item i (λ y. record y { held = part }) x.units })
      (λ free. b_weaker t IsCount Nobody Zr (IsIt t IsCount i) (λ n. Zr n × (n ≢ i)) x (λ n e. absurd e) (λ n z. z.0) fits)
      (λ capped. (
      let some : pos 0 ≤ℤ x.budget = elim pays [ inl z ↦ absurd (let b : (x.cap == 0) ≡ true = grind (arith, z) in cc) | inr p ↦ p ] in
      let least = taken_low x.budget (budget_quota (cap_budget x.cap) (length x.units)) some in
      let most = taken_most x.budget (budget_quota (cap_budget x.cap) (length x.units)) (quota_small x.cap (length x.units) fits.cap) in
      let s = helds_item i part x.units u at in
      let k = lasts_item t i part x.units in
      let l = fits.low in
      let h = fits.high in
      record {
        cap = fits.cap;
        count = subst IsCount (sym (length_change_item i (λ y. record y { held = part }) x.units)) fits.count;
        units = λ n z has. elim (read_change_item i n (λ y. record y { held = part }) x.units z has) [
          | inl was ↦ held_weaker t x.cap ⊥ (Zr n) (n ≡ i) (Zr n × (n ≢ i)) z (λ e. absurd e) (λ e. e.0) (fits.units n z was.1)
          | inr r ↦ (
              let here = fits.units i r.0 r.1 in
              subst (HeldFits t x.cap (n ≡ i) (Zr n × (n ≢ i))) r.3 (record {
                last = here.last;
                idle = λ e. inr r.2;
                free = λ z. absurd (let b : (x.cap == 0) ≡ true = grind (arith, z) in cc);
                zero = λ z. absurd (z.1 r.2);
                most = most;
                least = omega (arith, ints, least);
              }))
        ];
        low = omega (arith, ints, s, k, l, none);
        high = omega (arith, ints, s, h, none);
      }))
    where
      part : ℤ
      part = taken_budget x.budget (budget_quota (cap_budget x.cap) (length x.units))

  -- what the running units hold, and what all hold
  run_held : (cap : ℕ) (Ex Zr : ℕ → Type 0) (ys : List Credit2Unit) → ((n : ℕ) → Ex n → ⊥) → ((n : ℕ) (y : Credit2Unit) → slice_get ys n ≡ Some y → HeldFits t cap (Ex n) (Zr n) y)
      → (helds ys ≤ℤ pos (sum_by (λ (y : Credit2Unit). cond (is_some y.burned) (positive_part y.held) 0) ys)) × (pos (sum_by (λ (y : Credit2Unit). cond (is_some y.burned) (positive_part y.held) 0) ys) ≤ℤ (helds ys +ℤ pos (lasts t ys)))
  run_held cap Ex Zr [] nobody fits = (omega (arith, ints), omega (arith, ints))
  run_held cap Ex Zr (y ∷ ys) nobody fits =
      let e = sum_by-cons (λ (x : Credit2Unit). cond (is_some x.burned) (positive_part x.held) 0) y ys in
      let rest = run_held cap (λ n. Ex (suc n)) (λ n. Zr (suc n)) ys (λ n. nobody (suc n)) (λ n z at. fits (suc n) z at) in
      let one = of_unit y.burned refl in
      let a = one.0 in
      let b = one.1 in
      let c = rest.0 in
      let d = rest.1 in
      (omega (arith, ints, e, a, c), omega (arith, ints, e, b, d))
    where
      by_sign : (h : ℤ) (k : ℕ) → neg_ℤ (pos k) ≤ℤ h → (h ≤ℤ pos (positive_part h)) × (pos (positive_part h) ≤ℤ (h +ℤ pos k))
      by_sign (pos n) k low = (omega (arith, ints), omega (arith, ints))
      by_sign (negsuc n) k low = (omega (arith, ints), omega (arith, ints, low))

      of_unit : (o : Option ℕ) → y.burned ≡ o → (y.held ≤ℤ pos (cond (is_some y.burned) (positive_part y.held) 0)) × (pos (cond (is_some y.burned) (positive_part y.held) 0) ≤ℤ (y.held +ℤ pos (unwrap_or y.burned t)))
      of_unit None is =
          let z : y.held ≡ pos 0 = elim ((fits 0 y refl).idle is) [ inl none ↦ none | inr ex ↦ absurd (nobody 0 ex) ] in
          rw is (omega (arith, ints, z), omega (arith, ints, z))
      of_unit (Some b) is =
          let low : neg_ℤ (pos b) ≤ℤ y.held = subst (λ (o : Option ℕ). neg_ℤ (pos (unwrap_or o t)) ≤ℤ y.held) is (fits 0 y refl).least in
          let s = by_sign y.held b low in
          rw is s

  total_low : (cap : ℕ) → cap ≤ 6400 → cap_budget cap ≤ 640000000
  total_low cap low = omega (arith, low)

  refill_sums : (budget h : ℤ) (run all n last : ℕ) → all ≤ 640000000 → h ≤ℤ pos run → pos run ≤ℤ (h +ℤ pos last) → neg_ℤ (pos last) ≤ℤ (budget +ℤ h)
      → (neg_ℤ (pos last) ≤ℤ (int_min (budget +ℤ pos (n * all)) (pos all -ℤ pos run) +ℤ h)) × ((int_min (budget +ℤ pos (n * all)) (pos all -ℤ pos run) +ℤ h) ≤ℤ pos 640000000)
  refill_sums budget h run all n last few a b c = (
    min_up (budget +ℤ pos (n * all)) (pos all -ℤ pos run) h (neg_ℤ (pos last)) (omega (arith, ints, c)) (omega (arith, ints, b)),
    min_down (budget +ℤ pos (n * all)) (pos all -ℤ pos run) h (omega (arith, ints, a, few)),
  )
    where
      min_up : (x y h low : ℤ) → low ≤ℤ (x +ℤ h) → low ≤ℤ (y +ℤ h) → low ≤ℤ (int_min x y +ℤ h)
      min_up x y h low p q = omega (arith, ints, clamps, p, q)

      min_down : (x y h : ℤ) → (y +ℤ h) ≤ℤ pos 640000000 → (int_min x y +ℤ h) ≤ℤ pos 640000000
      min_down x y h p = omega (arith, ints, clamps, p)

  pub b_refilled : (most : ℕ) (x : Credit2Domain) → BudgetFits t IsCount Nobody Nobody x → BudgetFits t IsCount Nobody Nobody (domain_after_refill most t x)
  b_refilled most x fits =
      let burned : BudgetFits t IsCount Nobody Nobody (burned_domain most t x) = b_burn_units t IsCount Nobody Nobody most x fits in
      let run = run_held x.cap Nobody Nobody (burned_domain most t x).units (λ n e. e) burned.units in
      let sums = refill_sums x.budget (helds (burned_domain most t x).units) (running_budget (burned_domain most t x)) (cap_budget x.cap) (passed_periods x t) (lasts t (burned_domain most t x).units) (total_low x.cap fits.cap) run.0 run.1 burned.low in
      record { cap = burned.cap; count = burned.count; units = burned.units; low = sums.0; high = sums.1 }

  pub b_weighed : (weight : Option ℕ) (x : Credit2Domain) → BudgetFits t IsCount Nobody Nobody x → BudgetFits t IsCount Nobody Nobody (domain_with_weight weight x)
  b_weighed None x fits = fits
  b_weighed (Some weight) x fits =
      let changed = b_same t IsCount Nobody Nobody (λ (y : Credit2Unit). record y { residual = y.residual % weight }) x (λ y. (refl, refl)) fits in
      record { cap = changed.cap; count = changed.count; units = changed.units; low = changed.low; high = changed.high }

  -- units that hold nothing
  none_held : (ys : List Credit2Unit) → ((n : ℕ) (y : Credit2Unit) → slice_get ys n ≡ Some y → y.held ≡ pos 0) → helds ys ≡ pos 0
  none_held [] none = refl
  none_held (y ∷ ys) none = (let a = none 0 y refl in let b = none_held ys (λ n z at. none (suc n) z at) in omega (arith, ints, a, b))

  pub b_capped : (most : ℕ) (percent : Option ℕ) (x : Credit2Domain) → IfSome percent (λ (c : ℕ). c ≤ 6400) → BudgetFits t IsCount Nobody Nobody x → BudgetFits t IsCount Nobody Nobody (domain_with_cap most t percent x)
  b_capped most None x good fits = fits
  b_capped most (Some percent) x good fits =
      let burned : BudgetFits t IsCount Nobody Nobody (burned_domain most t x) = b_burn_units t IsCount Nobody Nobody most x fits in
      let f : Credit2Unit → Credit2Unit = λ (y : Credit2Unit). record y { held = cond (is_some y.burned) (pos 0) y.held } in
      let ys : List Credit2Unit = (burned_domain most t x).units in
      let zero_of : (n : ℕ) (z : Credit2Unit) → slice_get (map f ys) n ≡ Some z → z.held ≡ pos 0 = λ n z at. (let r = get_map f ys n z at in subst (λ (w : Credit2Unit). w.held ≡ pos 0) r.2 (now_zero r.0 (burned.units n r.0 r.1))) in
      let none = none_held (map f ys) zero_of in
      let low = total_low percent good in
      record {
        cap = good;
        count = subst IsCount (sym (length-map ys f)) burned.count;
        units = λ n z at. (
            let r = get_map f ys n z at in
            let here = burned.units n r.0 r.1 in
            let z0 = zero_of n z at in
            record {
              last = subst (λ (w : Credit2Unit). unwrap_or w.burned t ≤ t) r.2 here.last;
              idle = λ e. inl z0;
              free = λ e. z0;
              zero = λ e. absurd e;
              most = omega (arith, ints, z0);
              least = omega (arith, ints, z0);
            });
        low = omega (arith, ints, none);
        high = omega (arith, ints, none, low);
      }
    where
      now_zero : (y : Credit2Unit) → HeldFits t x.cap ⊥ ⊥ y → cond (is_some y.burned) (pos 0) y.held ≡ pos 0
      now_zero y here = by_burned y.burned refl
        where
          by_burned : (o : Option ℕ) → y.burned ≡ o → cond (is_some o) (pos 0) y.held ≡ pos 0
          by_burned None is = elim (here.idle is) [ inl none ↦ none | inr ex ↦ absurd ex ]
          by_burned (Some b) is = refl

  pub b_fresh : (weight percent units : ℕ) → percent ≤ 6400 → IsCount units → BudgetFits t IsCount Nobody Nobody (fresh_credit2_domain weight percent units t)
  b_fresh weight percent units low count =
      let new : Credit2Unit = record { credit = pos start_credit; residual = 0; held = pos 0; burned = None } in
      let none = none_held (replicate units new) (λ n y at. fresh_zero units n y at) in
      let all = total_low percent low in
      record {
        cap = low;
        count = subst IsCount (sym (length-replicate units new)) count;
        units = λ n y at. (
            let z = fresh_zero units n y at in
            record { last = fresh_last units n y at; idle = λ e. inl z; free = λ e. z; zero = λ e. absurd e; most = omega (arith, ints, z); least = omega (arith, ints, z) });
        low = omega (arith, ints, none);
        high = omega (arith, ints, none, all);
      }
    where
      fresh_zero : (k n : ℕ) (y : Credit2Unit) → slice_get (replicate k (record { credit = pos start_credit; residual = 0; held = pos 0; burned = None })) n ≡ Some y → y.held ≡ pos 0
      fresh_zero zero n y at = absurd (cc)
      fresh_zero (suc k) zero y at = (let e : ◌≡◌ {A = Credit2Unit} (record { credit = pos start_credit; residual = 0; held = pos 0; burned = None }) y = cc in sym (ap (λ (z : Credit2Unit). z.held) e))
      fresh_zero (suc k) (suc n) y at = fresh_zero k n y at

      fresh_last : (k n : ℕ) (y : Credit2Unit) → slice_get (replicate k (record { credit = pos start_credit; residual = 0; held = pos 0; burned = None })) n ≡ Some y → unwrap_or y.burned t ≤ t
      fresh_last zero n y at = absurd (cc)
      fresh_last (suc k) zero y at = (let e : ◌≡◌ {A = Credit2Unit} (record { credit = pos start_credit; residual = 0; held = pos 0; burned = None }) y = cc in subst (λ (z : Credit2Unit). unwrap_or z.burned t ≤ t) e (omega arith))
      fresh_last (suc k) (suc n) y at = fresh_last k n y at

pub b_later : (t next : ℕ) (IsCount : ℕ → Type 0) (x : Credit2Domain) → t ≤ next → BudgetFits t IsCount Nobody Nobody x → BudgetFits next IsCount Nobody Nobody x
b_later t next IsCount x past fits = (
    let l = fits.low in
    let m = lasts_later x.units in
    record { cap = fits.cap; count = fits.count; units = λ n y at. held_later y (fits.units n y at); low = omega (arith, ints, l, m); high = fits.high })
  where
    lasts_later : (ys : List Credit2Unit) → lasts t ys ≤ lasts next ys
    lasts_later [] = omega arith
    lasts_later (y ∷ ys) = (let a = last_later t next past y.burned in let b = lasts_later ys in omega (arith, a, b))

    held_later : (y : Credit2Unit) → HeldFits t x.cap ⊥ ⊥ y → HeldFits next x.cap ⊥ ⊥ y
    held_later y here = record {
      last = still_last t next past y.burned here.last;
      idle = here.idle;
      free = here.free;
      zero = λ e. absurd e;
      most = here.most;
      least = (let l = here.least in let m = last_later t next past y.burned in omega (arith, ints, l, m));
    }
