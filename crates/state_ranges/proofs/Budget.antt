-- What the budgets of capped domains keep: a unit that runs holds a part of its domain's budget, and all parts together are the budget less what was used.
use Rattle.std.proofs.Common.{◌≡◌, ◌≢◌, ◌≤◌, ◌+◌, ◌-◌, ℕ, zero, suc, Bool, true, false, List, [], ◌∷◌, refl, arith, subst, sym, ◌∙◌, ap, cond, ◌⊎◌, inl, inr, length}
use Rattle.std.specs.Prelude.{Option, Some, None, unwrap_or, slice_get, map, ◌==◌, ℤ, pos, neg_ℤ, ◌+ℤ◌, ◌-ℤ◌, ◌≤ℤ◌}
use Rattle.std.proofs.lemmas.Int.{ints}
use Rattle.std.proofs.lemmas.List.{length-map}
use Rattle.sched_model.specs.declared.state.Credit2Unit.{Credit2Unit}
use Rattle.sched_model.specs.declared.state.Credit2Domain.{Credit2Domain}
use Rattle.sched_model.specs.Places.{change_item}
use Rattle.sched_model.specs.Credit2.{burned_unit, burned_domain, domain_after_return}
use Rattle.sched_laws.proofs.EachPlace.{by_option, by_cond}
use Rattle.sched_laws.proofs.Lists.{length_change_item}
use Rattle.sched_laws.proofs.Sound.{read_change_item}
use Rattle.state_ranges.specs.Budgets.{lasts, helds, HeldFits, BudgetFits, Nobody}

-- a unit after a step in which it lost no more than the moment of its last charge moved on
pub record Grows (t : ℕ) (x y : Credit2Unit) : Type 0 where
  pub sum : (pos (unwrap_or x.burned t) +ℤ x.held) ≤ℤ (pos (unwrap_or y.burned t) +ℤ y.held)
  pub fall : y.held ≤ℤ x.held

pub record Sums (t : ℕ) (xs ys : List Credit2Unit) : Type 0 where
  pub sum : (pos (lasts t xs) +ℤ helds xs) ≤ℤ (pos (lasts t ys) +ℤ helds ys)
  pub fall : helds ys ≤ℤ helds xs

sums_cons : (t : ℕ) (x y : Credit2Unit) (xs ys : List Credit2Unit) → Grows t x y → Sums t xs ys → Sums t (x ∷ xs) (y ∷ ys)
sums_cons t x y xs ys grows sums = (
    let a = grows.sum in
    let b = grows.fall in
    let c = sums.sum in
    let d = sums.fall in
    record { sum = omega (arith, ints, a, c); fall = omega (arith, ints, b, d) })

sums_itself : (t : ℕ) (xs : List Credit2Unit) → Sums t xs xs
sums_itself t xs = record { sum = omega (arith, ints); fall = omega (arith, ints) }

pub sums_map : (t : ℕ) (f : Credit2Unit → Credit2Unit) (xs : List Credit2Unit) → ((n : ℕ) (x : Credit2Unit) → slice_get xs n ≡ Some x → Grows t x (f x)) → Sums t xs (map f xs)
sums_map t f [] grows = sums_itself t []
sums_map t f (x ∷ xs) grows = sums_cons t x (f x) xs (map f xs) (grows 0 x refl) (sums_map t f xs (λ n y at. grows (suc n) y at))

pub sums_item : (t i : ℕ) (f : Credit2Unit → Credit2Unit) (xs : List Credit2Unit) → ((x : Credit2Unit) → slice_get xs i ≡ Some x → Grows t x (f x)) → Sums t xs (change_item i f xs)
sums_item t i f [] grows = sums_itself t []
sums_item t zero f (x ∷ xs) grows = sums_cons t x (f x) xs xs (grows x refl) (sums_itself t xs)
sums_item t (suc i) f (x ∷ xs) grows = sums_cons t x x xs (change_item i f xs) (record { sum = omega (arith, ints); fall = omega (arith, ints) }) (sums_item t i f xs grows)

pub get_map : (f : Credit2Unit → Credit2Unit) (xs : List Credit2Unit) (n : ℕ) (z : Credit2Unit) → slice_get (map f xs) n ≡ Some z → (y : Credit2Unit) × (slice_get xs n ≡ Some y) × (f y ≡ z)
get_map f [] n z at = absurd (cc)
get_map f (x ∷ xs) zero z at = (x, refl, cc)
get_map f (x ∷ xs) (suc n) z at = get_map f xs n z at

-- what one of the units holds, set
pub helds_item : (i : ℕ) (h : ℤ) (xs : List Credit2Unit) (u : Credit2Unit) → slice_get xs i ≡ Some u → helds (change_item i (λ x. record x { held = h }) xs) +ℤ u.held ≡ helds xs +ℤ h
helds_item i h [] u at = absurd (cc)
helds_item zero h (x ∷ xs) u at = (let e : x ≡ u = cc in subst (λ (w : Credit2Unit). (h +ℤ helds xs) +ℤ w.held ≡ (x.held +ℤ helds xs) +ℤ h) e (omega (arith, ints)))
helds_item (suc i) h (x ∷ xs) u at = (let r = helds_item i h xs u at in omega (arith, ints, r))

pub lasts_item : (t i : ℕ) (h : ℤ) (xs : List Credit2Unit) → lasts t (change_item i (λ x. record x { held = h }) xs) ≡ lasts t xs
lasts_item t i h [] = refl
lasts_item t zero h (x ∷ xs) = refl
lasts_item t (suc i) h (x ∷ xs) = ap (λ k. unwrap_or x.burned t + k) (lasts_item t i h xs)

module _ (t : ℕ) where
  -- a unit that is charged
  held_burned : (most : ℕ) (d : Credit2Domain) (Ex Zr : Type 0) (y : Credit2Unit) → HeldFits t d.cap Ex Zr y → HeldFits t d.cap Ex Zr (burned_unit most t d y)
  held_burned most d Ex Zr y fits =
      by_option (HeldFits t d.cap Ex Zr) y.burned _ _ (λ is. fits)
      (λ from is.
      let last : from ≤ t = subst (λ (o : Option ℕ). unwrap_or o t ≤ t) is fits.last in
      let least : neg_ℤ (pos from) ≤ℤ y.held = subst (λ (o : Option ℕ). neg_ℤ (pos (unwrap_or o t)) ≤ℤ y.held) is fits.least in
      let most2 = fits.most in
      record {
        last = omega arith;
        idle = λ e. absurd (cc);
        free = λ none. uncapped (t - from) y.held none (fits.free none);
        zero = λ z. (
            let old = fits.zero z in
            let now : from ≡ t = subst (λ (o : Option ℕ). unwrap_or o t ≡ t) is old.1 in
            (same_zero (d.cap == 0) (t - from) y.held old.0 (omega (arith, now)), refl));
        most = (let f = falls (d.cap == 0) (t - from) y.held in omega (arith, ints, f, most2));
        least = stays (d.cap == 0) (t - from) from y.held (omega (arith, last)) least;
      })
    where
      same_zero : (b : Bool) (k : ℕ) (h : ℤ) → h ≡ pos 0 → k ≡ 0 → cond b h (h -ℤ pos k) ≡ pos 0
      same_zero true k h e z = e
      same_zero false k h e z = omega (arith, ints, e, z)

      falls : (b : Bool) (k : ℕ) (h : ℤ) → cond b h (h -ℤ pos k) ≤ℤ h
      falls true k h = omega (arith, ints)
      falls false k h = omega (arith, ints)

      stays : (b : Bool) (k from : ℕ) (h : ℤ) → from + k ≡ t → neg_ℤ (pos from) ≤ℤ h → neg_ℤ (pos t) ≤ℤ cond b h (h -ℤ pos k)
      stays true k from h e low = omega (arith, ints, e, low)
      stays false k from h e low = omega (arith, ints, e, low)

      uncapped : (k : ℕ) (h : ℤ) → d.cap ≡ 0 → h ≡ pos 0 → cond (d.cap == 0) h (h -ℤ pos k) ≡ pos 0
      uncapped k h none e = (let b : (d.cap == 0) ≡ true = grind (arith, none) in rw b e)

  grows_burned : (most : ℕ) (d : Credit2Domain) (y : Credit2Unit) → unwrap_or y.burned t ≤ t → Grows t y (burned_unit most t d y)
  grows_burned most d y low =
      by_option (Grows t y) y.burned _ _ (λ is. record { sum = omega (arith, ints); fall = omega (arith, ints) })
      (λ from is.
      let last : from ≤ t = subst (λ (o : Option ℕ). unwrap_or o t ≤ t) is low in
      let l = less (d.cap == 0) (t - from) from y.held (omega (arith, last)) in
      let e : unwrap_or y.burned t ≡ from = ap (λ (o : Option ℕ). unwrap_or o t) is in
      let s = l.0 in
      record { sum = omega (arith, ints, s, e); fall = l.1 })
    where
      less : (b : Bool) (k from : ℕ) (h : ℤ) → from + k ≡ t → ((pos from +ℤ h) ≤ℤ (pos t +ℤ cond b h (h -ℤ pos k))) × (cond b h (h -ℤ pos k) ≤ℤ h)
      less true k from h e = (omega (arith, ints, e), omega (arith, ints))
      less false k from h e = (omega (arith, ints, e), omega (arith, ints))

  last_burned : (most : ℕ) (d : Credit2Domain) (y : Credit2Unit) → unwrap_or (burned_unit most t d y).burned t ≡ t
  last_burned most d y = by_option (λ (z : Credit2Unit). unwrap_or z.burned t ≡ t) y.burned _ _ (λ is. ap (λ (o : Option ℕ). unwrap_or o t) is) (λ from is. refl)

  pub held_weaker : (cap : ℕ) (Ex Zr Ex2 Zr2 : Type 0) (y : Credit2Unit) → (Ex → Ex2) → (Zr2 → Zr) → HeldFits t cap Ex Zr y → HeldFits t cap Ex2 Zr2 y
  held_weaker cap Ex Zr Ex2 Zr2 y more less fits = record {
    last = fits.last;
    idle = λ e. elim (fits.idle e) [ inl none ↦ inl none | inr ex ↦ inr (more ex) ];
    free = fits.free;
    zero = λ z. fits.zero (less z);
    most = fits.most;
    least = fits.least;
  }

  module _ (IsCount : ℕ → Type 0) where
    pub b_weaker : (Ex Zr Ex2 Zr2 : ℕ → Type 0) (x : Credit2Domain) → ((n : ℕ) → Ex n → Ex2 n) → ((n : ℕ) → Zr2 n → Zr n) → BudgetFits t IsCount Ex Zr x → BudgetFits t IsCount Ex2 Zr2 x
    b_weaker Ex Zr Ex2 Zr2 x more less fits = record {
      cap = fits.cap;
      count = fits.count;
      units = λ n y at. held_weaker x.cap (Ex n) (Zr n) (Ex2 n) (Zr2 n) y (more n) (less n) (fits.units n y at);
      low = fits.low;
      high = fits.high;
    }

    -- a domain of which only the units change
    pub b_units : (Ex Zr Ex2 Zr2 : ℕ → Type 0) (x : Credit2Domain) (ys : List Credit2Unit) → length ys ≡ length x.units → Sums t x.units ys → ((n : ℕ) (z : Credit2Unit) → slice_get ys n ≡ Some z → HeldFits t x.cap (Ex2 n) (Zr2 n) z)
        → BudgetFits t IsCount Ex Zr x → BudgetFits t IsCount Ex2 Zr2 (record x { units = ys })
    b_units Ex Zr Ex2 Zr2 x ys same sums units fits = (
        let s = sums.sum in
        let f = sums.fall in
        let l = fits.low in
        let h = fits.high in
        record { cap = fits.cap; count = subst IsCount (sym same) fits.count; units = units; low = omega (arith, ints, s, l); high = omega (arith, ints, f, h) })

    pub b_burn_units : (Ex Zr : ℕ → Type 0) (most : ℕ) (x : Credit2Domain) → BudgetFits t IsCount Ex Zr x → BudgetFits t IsCount Ex Zr (burned_domain most t x)
    b_burn_units Ex Zr most x fits =
        b_units Ex Zr Ex Zr x (map (burned_unit most t x) x.units) (length-map x.units (burned_unit most t x)) (sums_map t (burned_unit most t x) x.units (λ n y at. grows_burned most x y (fits.units n y at).last))
        (λ n z at. (let r = get_map (burned_unit most t x) x.units n z at in subst (HeldFits t x.cap (Ex n) (Zr n)) r.2 (held_burned most x (Ex n) (Zr n) r.0 (fits.units n r.0 r.1)))) fits

    -- units of which only the credit or the residual changes
    pub b_same : (Ex Zr : ℕ → Type 0) (f : Credit2Unit → Credit2Unit) (x : Credit2Domain) → ((y : Credit2Unit) → ((f y).held ≡ y.held) × ((f y).burned ≡ y.burned)) → BudgetFits t IsCount Ex Zr x → BudgetFits t IsCount Ex Zr (record x { units = map f x.units })
    b_same Ex Zr f x same fits =
        b_units Ex Zr Ex Zr x (map f x.units) (length-map x.units f)
        (sums_map t f x.units (λ n y at. (let e = (same y).0 in let b = ap (λ (o : Option ℕ). unwrap_or o t) (same y).1 in record { sum = omega (arith, ints, e, b); fall = omega (arith, ints, e) })))
        (λ n z at. (let r = get_map f x.units n z at in subst (HeldFits t x.cap (Ex n) (Zr n)) r.2 (kept n r.0 (fits.units n r.0 r.1)))) fits
      where
        kept : (n : ℕ) (y : Credit2Unit) → HeldFits t x.cap (Ex n) (Zr n) y → HeldFits t x.cap (Ex n) (Zr n) (f y)
        kept n y here = record {
          last = subst (λ (o : Option ℕ). unwrap_or o t ≤ t) (sym (same y).1) here.last;
          idle = λ e. elim (here.idle (sym (same y).1 ∙ e)) [ inl none ↦ inl ((same y).0 ∙ none) | inr ex ↦ inr ex ];
          free = λ none. (same y).0 ∙ here.free none;
          zero = λ z. (let o = here.zero z in ((same y).0 ∙ o.0, ap (λ (b : Option ℕ). unwrap_or b t) (same y).1 ∙ o.1));
          most = subst (λ (h : ℤ). h ≤ℤ pos 640000000) (sym (same y).0) here.most;
          least = subst (λ (h : ℤ). neg_ℤ (pos (unwrap_or (f y).burned t)) ≤ℤ h) (sym (same y).0) (subst (λ (o : Option ℕ). neg_ℤ (pos (unwrap_or o t)) ≤ℤ y.held) (sym (same y).1) here.least);
        }

    -- one unit runs from t, or runs no more; one that stops holds nothing, or is about to run
    pub b_running : (Ex Zr Ex2 : ℕ → Type 0) (i : ℕ) (from : Option ℕ) (x : Credit2Domain) → unwrap_or from t ≡ t → ((n : ℕ) → n ≢ i → Ex n → Ex2 n)
        → ((y : Credit2Unit) → slice_get x.units i ≡ Some y → from ≡ None → (y.held ≡ pos 0) ⊎ Ex2 i) → BudgetFits t IsCount Ex Zr x → BudgetFits t IsCount Ex2 Nobody (record x { units = change_item i (λ y. record y { burned = from }) x.units })
    b_running Ex Zr Ex2 i from x now more idle fits =
        b_units Ex Zr Ex2 Nobody x (change_item i (λ y. record y { burned = from }) x.units) (length_change_item i (λ y. record y { burned = from }) x.units)
        (sums_item t i (λ y. record y { burned = from }) x.units (λ y at. (let l = (fits.units i y at).last in record { sum = omega (arith, ints, l, now); fall = omega (arith, ints) })))
        (λ n z at. elim (read_change_item i n (λ y. record y { burned = from }) x.units z at) [
          | inl was ↦ held_weaker x.cap (Ex n) (Zr n) (Ex2 n) ⊥ z (more n was.0) (λ e. absurd e) (fits.units n z was.1)
          | inr r ↦ (
              let here = fits.units i r.0 r.1 in
              let least = here.least in
              let last = here.last in
              subst (HeldFits t x.cap (Ex2 n) ⊥) r.3 (subst (λ k. HeldFits t x.cap (Ex2 k) ⊥ (record r.0 { burned = from })) (sym r.2) (record {
                last = omega (arith, now);
                idle = λ e. idle r.0 r.1 e;
                free = here.free;
                zero = λ z. absurd z;
                most = here.most;
                least = omega (arith, ints, now, least, last);
              })))
        ]) fits

    -- the core's own unit: charged, and its budget given back
    abbrev pub IsIt : ℕ → ℕ → Type 0
    IsIt i n = n ≡ i

    abbrev pub own_domain : ℕ → ℕ → Credit2Domain → Credit2Domain
    own_domain most i x = (let burned : Credit2Domain = record x { units = change_item i (burned_unit most t x) x.units } in cond (burned.cap == 0) burned (domain_after_return i burned))

    pub b_own : (Zr : ℕ → Type 0) (most i : ℕ) (x : Credit2Domain) → BudgetFits t IsCount Nobody Zr x → BudgetFits t IsCount Nobody (λ n. Zr n ⊎ (n ≡ i)) (own_domain most i x)
    b_own Zr most i x fits =
        by_cond (BudgetFits t IsCount Nobody (λ n. Zr n ⊎ (n ≡ i))) (x.cap == 0) burned (domain_after_return i burned)
        (λ none. record {
          cap = first.cap;
          count = first.count;
          units = λ n y at. (
              let here = first.units n y at in
              record { last = here.last; idle = here.idle; free = here.free; zero = λ e. elim e [ inl z ↦ here.zero z | inr own ↦ (here.free (grind (arith, none)), now y (subst (λ k. slice_get burned.units k ≡ Some y) own at)) ]; most = here.most; least = here.least });
          low = first.low;
          high = first.high;
        })
        (λ capped. by_option (BudgetFits t IsCount Nobody (λ n. Zr n ⊎ (n ≡ i))) (slice_get burned.units i) burned _
        (λ none. no_zero none)
        (λ u at. (
        let s = helds_item i (pos 0) burned.units u at in
        let k = lasts_item t i (pos 0) burned.units in
        let l = first.low in
        let h = first.high in
        record {
          cap = first.cap;
          count = subst IsCount (sym (length_change_item i (λ y. record y { held = pos 0 }) burned.units)) first.count;
          units = λ n z has. elim (read_change_item i n (λ y. record y { held = pos 0 }) burned.units z has) [
            | inl was ↦ held_weaker x.cap ⊥ (Zr n) ⊥ (Zr n ⊎ (n ≡ i)) z (λ e. e) (λ e. elim e [ inl z2 ↦ z2 | inr own ↦ absurd (was.0 own) ]) (first.units n z was.1)
            | inr r ↦ (
                let here = first.units i r.0 r.1 in
                subst (HeldFits t x.cap ⊥ (Zr n ⊎ (n ≡ i))) r.3 (record {
                  last = here.last;
                  idle = λ e. inl refl;
                  free = λ e. refl;
                  zero = λ e. (refl, now r.0 r.1);
                  most = omega (arith, ints);
                  least = omega (arith, ints);
                }))
          ];
          low = omega (arith, ints, s, k, l);
          high = omega (arith, ints, s, h);
        })))
      where
        burned : Credit2Domain
        burned = record x { units = change_item i (burned_unit most t x) x.units }

        first : BudgetFits t IsCount Nobody Zr burned
        first = b_units Nobody Zr Nobody Zr x (change_item i (burned_unit most t x) x.units) (length_change_item i (burned_unit most t x) x.units)
            (sums_item t i (burned_unit most t x) x.units (λ y at. grows_burned most x y (fits.units i y at).last))
            (λ n z at. elim (read_change_item i n (burned_unit most t x) x.units z at) [
              | inl was ↦ fits.units n z was.1
              | inr r ↦ subst (HeldFits t x.cap ⊥ (Zr n)) r.3 (held_burned most x ⊥ (Zr n) r.0 (subst (λ k. HeldFits t x.cap ⊥ (Zr k) r.0) (sym r.2) (fits.units i r.0 r.1)))
            ]) fits

        now : (y : Credit2Unit) → slice_get burned.units i ≡ Some y → unwrap_or y.burned t ≡ t
        now y at = elim (read_change_item i i (burned_unit most t x) x.units y at) [ inl was ↦ absurd (was.0 refl) | inr r ↦ subst (λ (z : Credit2Unit). unwrap_or z.burned t ≡ t) r.3 (last_burned most x r.0) ]

        no_zero : slice_get burned.units i ≡ None → BudgetFits t IsCount Nobody (λ n. Zr n ⊎ (n ≡ i)) burned
        no_zero none = record {
          cap = first.cap;
          count = first.count;
          units = λ n y at. held_weaker x.cap ⊥ (Zr n) ⊥ (Zr n ⊎ (n ≡ i)) y (λ e. e) (λ e. elim e [ inl z ↦ z | inr own ↦ absurd (let f : slice_get burned.units i ≡ Some y = subst (λ k. slice_get burned.units k ≡ Some y) own at in cc) ]) (first.units n y at);
          low = first.low;
          high = first.high;
        }
