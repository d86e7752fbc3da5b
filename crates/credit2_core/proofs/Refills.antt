-- The first refill of a pool, by the heap of its domains' refills.
use Rattle.std.proofs.Common.{◌≡◌, ◌≤◌, ◌<◌, ◌+◌, ℕ, zero, suc, Bool, true, false, List, [], ◌∷◌, refl, ap, subst, sym, ◌∙◌, arith, cond, inl, inr}
use Rattle.std.specs.Prelude.{Option, Some, None, is_some, option_map, slice_index_or, nat_le, nat_lt}
use Rattle.std.proofs.lemmas.Bool.{cases_lt, lt-ltb, le-ltb}
use Rattle.sched_base.specs.Numbers.{moment, domain}
use Rattle.sched_base.specs.declared.Moment.{Moment}
use Rattle.sched_model.specs.declared.state.Credit2Domain.{Credit2Domain}
use Rattle.sched_model.specs.Places.{at_place, numbered_items}
use Rattle.sched_ops.specs.declared.timer.Timer.TheVariants.{Refill}
use Rattle.sched_ops.specs.Timers.{Armed, refills, first_due_timer, soonest_timer}
use Rattle.due_heap.specs.Dues.{GoesFirst}
use Rattle.credit2_core.specs.Places.{refill_of, refills_of}

pub due_is : (domains : List (Option Credit2Domain)) (i : ℕ) → slice_index_or (refills_of domains) i None ≡ refill_of (at_place domains i)
due_is [] i = refl
due_is (p ∷ domains) zero = refl
due_is (p ∷ domains) (suc i) = due_is domains i

le_true : (a b : ℕ) → a ≤ b → nat_le a b ≡ true
le_true a b low = grind (arith, low)

le_false : (a b : ℕ) → b < a → nat_le a b ≡ false
le_false a b high = grind (arith, high)

module _ (t : ℕ) where
  pub none_armed : (n : ℕ) (domains : List (Option Credit2Domain)) → ((i : ℕ) (at : Moment) → refill_of (at_place domains i) ≡ Some at → ⊥) → refills (numbered_items n domains) ≡ []
  none_armed n [] none = refl
  none_armed n (None ∷ domains) none = none_armed (suc n) domains (λ i at. none (suc i) at)
  none_armed n (Some x ∷ domains) none = by_refill (none_armed (suc n) domains (λ i at. none (suc i) at)) x.refill refl
    where
      by_refill : refills (numbered_items (suc n) domains) ≡ [] → (o : Option ℕ) → x.refill ≡ o → elim o as (λ _. List Armed) [ None ↦ refills (numbered_items (suc n) domains) | Some at ↦ (moment at, Refill (domain n)) ∷ refills (numbered_items (suc n) domains) ] ≡ []
      by_refill rest None is = rest
      by_refill rest (Some r) is = absurd (none 0 (moment r) (ap (option_map moment) is))

  pub none_due : (n : ℕ) (domains : List (Option Credit2Domain)) → ((i : ℕ) (at : Moment) → refill_of (at_place domains i) ≡ Some at → t < at.0) → first_due_timer t (refills (numbered_items n domains)) ≡ None
  none_due n [] later = refl
  none_due n (None ∷ domains) later = none_due (suc n) domains (λ i at. later (suc i) at)
  none_due n (Some x ∷ domains) later = by_refill (none_due (suc n) domains (λ i at. later (suc i) at)) x.refill refl
    where
      by_refill : first_due_timer t (refills (numbered_items (suc n) domains)) ≡ None → (o : Option ℕ) → x.refill ≡ o → first_due_timer t (elim o as (λ _. List Armed) [ None ↦ refills (numbered_items (suc n) domains) | Some at ↦ (moment at, Refill (domain n)) ∷ refills (numbered_items (suc n) domains) ]) ≡ None
      by_refill rest None is = rest
      by_refill rest (Some r) is = (let e = le_false r t (later 0 (moment r) (ap (option_map moment) is)) in rw e rest)

  pub some_due : (n : ℕ) (domains : List (Option Credit2Domain)) (i : ℕ) (at : Moment) → refill_of (at_place domains i) ≡ Some at → at.0 ≤ t → is_some (first_due_timer t (refills (numbered_items n domains))) ≡ true
  some_due n [] i at is come = absurd cc
  some_due n (None ∷ domains) zero at is come = absurd cc
  some_due n (None ∷ domains) (suc i) at is come = some_due (suc n) domains i at is come
  some_due n (Some x ∷ domains) zero at is come = by_refill x.refill is
    where
      by_refill : (o : Option ℕ) → option_map moment o ≡ Some at → is_some (first_due_timer t (elim o as (λ _. List Armed) [ None ↦ refills (numbered_items (suc n) domains) | Some at ↦ (moment at, Refill (domain n)) ∷ refills (numbered_items (suc n) domains) ])) ≡ true
      by_refill None e = absurd cc
      by_refill (Some r) e = (let same : ◌≡◌ {A = Moment} (moment r) at = cc in let low : r ≤ t = subst (λ (m : Moment). m.0 ≤ t) (sym same) come in let f = le_true r t low in rw f refl)
  some_due n (Some x ∷ domains) (suc i) at is come = by_refill (some_due (suc n) domains i at is come) x.refill
    where
      by_refill : is_some (first_due_timer t (refills (numbered_items (suc n) domains))) ≡ true → (o : Option ℕ) → is_some (first_due_timer t (elim o as (λ _. List Armed) [ None ↦ refills (numbered_items (suc n) domains) | Some at ↦ (moment at, Refill (domain n)) ∷ refills (numbered_items (suc n) domains) ])) ≡ true
      by_refill rest None = rest
      by_refill rest (Some r) =
          elim (nat_le r t) as (λ b. is_some (cond b (Some (moment r, Refill (domain n))) (first_due_timer t (refills (numbered_items (suc n) domains)))) ≡ true) [ true ↦ refl | false ↦ rest ]

-- no later one is sooner than the best so far
stays : (n : ℕ) (best : Armed) (domains : List (Option Credit2Domain)) → ((i : ℕ) (at : Moment) → refill_of (at_place domains i) ≡ Some at → best.0.0 ≤ at.0) → soonest_timer (Some best) (refills (numbered_items n domains)) ≡ Some best
stays n best [] low = refl
stays n best (None ∷ domains) low = stays (suc n) best domains (λ i at. low (suc i) at)
stays n best (Some x ∷ domains) low = by_refill (stays (suc n) best domains (λ i at. low (suc i) at)) x.refill refl
  where
    by_refill : soonest_timer (Some best) (refills (numbered_items (suc n) domains)) ≡ Some best → (o : Option ℕ) → x.refill ≡ o → soonest_timer (Some best) (elim o as (λ _. List Armed) [ None ↦ refills (numbered_items (suc n) domains) | Some at ↦ (moment at, Refill (domain n)) ∷ refills (numbered_items (suc n) domains) ]) ≡ Some best
    by_refill rest None is = rest
    by_refill rest (Some r) is = ap (λ (b : Bool). soonest_timer (Some (cond b (moment r, Refill (domain n)) best)) (refills (numbered_items (suc n) domains))) (le-ltb r best.0.0 (low 0 (moment r) (ap (option_map moment) is))) ∙ rest

-- the best so far, where there is one, is later
abbrev IsLater : Moment → Option Armed → Type 0
IsLater at None = Unit {0}
IsLater at (Some b) = at.0 < b.0.0

pub soonest_is : (n : ℕ) (best : Option Armed) (domains : List (Option Credit2Domain)) (i : ℕ) (at : Moment) → refill_of (at_place domains i) ≡ Some at → ((j : ℕ) (b : Moment) → refill_of (at_place domains j) ≡ Some b → GoesFirst at i b j) → IsLater at best
    → soonest_timer best (refills (numbered_items n domains)) ≡ Some (at, Refill (domain (n + i)))
soonest_is n best [] i at is first later = absurd cc
soonest_is n best (None ∷ domains) zero at is first later = absurd cc
soonest_is n best (None ∷ domains) (suc i) at is first later =
    soonest_is (suc n) best domains i at is (λ j b here. (let g = first (suc j) b here in record { by_moment = g.by_moment; then_by_id = λ e. (let k = g.then_by_id e in omega (arith, k)) })) later
    ∙ ap (λ (k : ℕ). Some (at, Refill (domain k))) (omega arith)
soonest_is n best (Some x ∷ domains) zero at is first later = by_refill x.refill refl is
  where
    rest : (i : ℕ) (b : Moment) → refill_of (at_place domains i) ≡ Some b → at.0 ≤ b.0
    rest i b here = (first (suc i) b here).by_moment

    alone : (r : ℕ) → moment r ≡ at → soonest_timer (Some (moment r, Refill (domain n))) (refills (numbered_items (suc n) domains)) ≡ Some (at, Refill (domain (n + 0)))
    alone r same =
        stays (suc n) (moment r, Refill (domain n)) domains (λ i b here. subst (λ (m : Moment). m.0 ≤ b.0) (sym same) (rest i b here))
        ∙ ap (λ (m : Moment). Some (m, Refill (domain n))) same ∙ ap (λ (k : ℕ). Some (at, Refill (domain k))) (omega arith)

    chosen : (r : ℕ) (best : Option Armed) → moment r ≡ at → IsLater at best → soonest_timer best ((moment r, Refill (domain n)) ∷ refills (numbered_items (suc n) domains)) ≡ Some (at, Refill (domain (n + 0)))
    chosen r None same later = alone r same
    chosen r (Some b) same later =
        let low : r < b.0.0 = subst (λ (m : Moment). m.0 < b.0.0) (sym same) later in
        let e = lt-ltb r b.0.0 low in
        ap (λ (z : Bool). soonest_timer (Some (cond z (moment r, Refill (domain n)) b)) (refills (numbered_items (suc n) domains))) e ∙ alone r same

    by_refill : (o : Option ℕ) → x.refill ≡ o → option_map moment o ≡ Some at → soonest_timer best (elim o as (λ _. List Armed) [ None ↦ refills (numbered_items (suc n) domains) | Some at ↦ (moment at, Refill (domain n)) ∷ refills (numbered_items (suc n) domains) ]) ≡ Some (at, Refill (domain (n + 0)))
    by_refill None has e = absurd cc
    by_refill (Some r) has e = chosen r best (cc) later
soonest_is n best (Some x ∷ domains) (suc i) at is first later =
    by_refill
    (λ next after.
    soonest_is (suc n) next domains i at is (λ j b here. (let g = first (suc j) b here in record { by_moment = g.by_moment; then_by_id = λ e. (let k = g.then_by_id e in omega (arith, k)) })) after
    ∙ ap (λ (k : ℕ). Some (at, Refill (domain k))) (omega arith)) x.refill refl
  where
    passed : ((b : Option Armed) → IsLater at b → soonest_timer b (refills (numbered_items (suc n) domains)) ≡ Some (at, Refill (domain (n + suc i)))) → (r : ℕ) (best : Option Armed) → at.0 < r → IsLater at best → soonest_timer best ((moment r, Refill (domain n)) ∷ refills (numbered_items (suc n) domains)) ≡ Some (at, Refill (domain (n + suc i)))
    passed next r None low later = next (Some (moment r, Refill (domain n))) low
    passed next r (Some b) low later =
        elim (nat_lt r b.0.0) as (λ z. soonest_timer (Some (cond z (moment r, Refill (domain n)) b)) (refills (numbered_items (suc n) domains)) ≡ Some (at, Refill (domain (n + suc i)))) [
          | true ↦ next (Some (moment r, Refill (domain n))) low
          | false ↦ next (Some b) later
        ]

    by_refill : ((b : Option Armed) → IsLater at b → soonest_timer b (refills (numbered_items (suc n) domains)) ≡ Some (at, Refill (domain (n + suc i)))) → (o : Option ℕ) → x.refill ≡ o → soonest_timer best (elim o as (λ _. List Armed) [ None ↦ refills (numbered_items (suc n) domains) | Some at ↦ (moment at, Refill (domain n)) ∷ refills (numbered_items (suc n) domains) ]) ≡ Some (at, Refill (domain (n + suc i)))
    by_refill next None has = next best later
    by_refill next (Some r) has =
        let g = first 0 (moment r) (ap (option_map moment) has) in
        let low : at.0 < r = strict at.0 r (suc i) g.by_moment (λ e. g.then_by_id e) in
        passed next r best low later
      where
        strict : (a r k : ℕ) → a ≤ r → (a ≡ r → suc i ≤ 0) → a < r
        strict a r k low same = elim (cases_lt a r) [ inl less ↦ less | inr more ↦ absurd (let e : a ≡ r = omega arith in let z = same e in omega (arith, z)) ]
