-- What a unit's credit rests on, and what each step of Credit2 makes of it.
use Rattle.std.proofs.Common.{◌≡◌, ◌≢◌, ◌<◌, ◌+◌, ◌-◌, ◌*◌, ◌/◌, ℕ, zero, suc, false, List, [], ◌∷◌, refl, ap, subst, ◌∙◌, cond, arith, map}
use Rattle.std.specs.Prelude.{Option, Some, None, ◌==◌, option_map, slice_get, pos, ℤ, ◌-ℤ◌}
use Rattle.std.proofs.Math.Decide.{ℕ_discrete}
use Rattle.std.proofs.Math.Nat.{mod-lt, div-eq_of_lt}
use Rattle.std.proofs.lemmas.Int.{ints}
use Rattle.std.proofs.lemmas.Option.{slice_get-map}
use Rattle.sched_base.specs.Credit2Numbers.{burned_credit, burned_residual, undivided_charge, raised_credit}
use Rattle.sched_base.specs.declared.UnitId.{UnitId}
use Rattle.sched_model.specs.declared.state.Credit2Domain.{Credit2Domain}
use Rattle.sched_model.specs.declared.state.Credit2Records.{Credit2Records}
use Rattle.sched_model.specs.declared.state.Credit2Unit.{Credit2Unit}
use Rattle.sched_model.specs.Places.{at_place, change_at, change_item, is_unit, same_unit}
use Rattle.sched_model.specs.Credit2.{burn_all, own_burned_records, burned_unit, burned_domain, change_domain, change_unit, unit_credit, domain_after_return, most_weight, reset_records, running_records, off_records, domain_after_take}
use Rattle.sched_laws.proofs.EachPlace.{at_place-change_at, at_place-change_each, at_place-set_other, by_cond, by_option}
use Rattle.sched_laws.proofs.Lists.{slice_get-change_item, slice_get-change_item_other}

pub record View : Type 0 where
  pub credit : ℤ
  pub residual : ℕ
  pub burned : Option ℕ
  pub weight : ℕ

abbrev pub view : ℕ → Credit2Unit → View
view weight x = record { credit = x.credit; residual = x.residual; burned = x.burned; weight = weight }

abbrev pub of_domain : ℕ → Option Credit2Domain → Option View
of_domain n None = None
of_domain n (Some d) = option_map (view d.weight) (slice_get d.units n)

abbrev pub view_of : Credit2Records → UnitId → Option View
view_of records u = of_domain u.n (at_place records.domains u.dom.0)

abbrev pub burn_view : ℕ → ℕ → View → View
burn_view most t v =
    elim v.burned [
      | None ↦ v
      | Some from ↦ record v { credit = burned_credit v.credit v.residual v.weight most (t - from); residual = burned_residual v.residual v.weight most (t - from); burned = Some t }
    ]

abbrev pub credit_in : Option View → ℤ
credit_in None = pos 0
credit_in (Some v) = v.credit

abbrev pub now_of : ℕ → ℕ → Option View → ℤ
now_of most t None = pos 0
now_of most t (Some v) = (burn_view most t v).credit

-- after m resets at once
abbrev pub up : ℕ → ℤ → ℤ
up zero credit = credit
up (suc m) credit = raised_credit credit (suc m)

abbrev pub reset_view : ℕ → ℕ → ℕ → View → View
reset_view most t zero v = v
reset_view most t (suc m) v = (let b : View = burn_view most t v in record b { credit = raised_credit b.credit (suc m) })

pub burned_view : (most t : ℕ) (d : Credit2Domain) (x : Credit2Unit) → view d.weight (burned_unit most t d x) ≡ burn_view most t (view d.weight x)
burned_view most t d x = by_burned x.burned
  where
    by_burned : (o : Option ℕ)
        → view d.weight (elim o as (λ _. Credit2Unit) [
          | None ↦ x
          | Some from ↦ record x {
            credit = burned_credit x.credit x.residual d.weight most (t - from);
            residual = burned_residual x.residual d.weight most (t - from);
            held = cond (d.cap == 0) x.held (x.held -ℤ pos (t - from));
            burned = Some t;
          }
        ])
        ≡ elim o as (λ _. View) [
          | None ↦ view d.weight x
          | Some from ↦ record (view d.weight x) { credit = burned_credit x.credit x.residual d.weight most (t - from); residual = burned_residual x.residual d.weight most (t - from); burned = Some t }
        ]
    by_burned None = refl
    by_burned (Some from) = refl

-- a undivided_charge of no time changes no credit
pub no_time : (c : ℤ) (residual weight most t : ℕ) → residual < weight → burned_credit c residual weight most (t - t) ≡ c
no_time c residual weight most t cut =
    let none : undivided_charge residual most (t - t) ≡ residual = (let e : t - t ≡ 0 = omega arith in let f : 0 * most + residual ≡ residual = omega arith in ap (λ (k : ℕ). k * most + residual) e ∙ f) in
    ap (λ (k : ℕ). c -ℤ pos (k / weight)) none
    ∙ ap (λ (k : ℕ). c -ℤ pos k) (div-eq_of_lt cut)
    ∙ minus c
  where
    minus : (c : ℤ) → c -ℤ pos 0 ≡ c
    minus c = grind (arith, ints)

-- what was charged up to t is not charged again
pub again : (most t : ℕ) (v : View) (c : ℤ) → v.residual < v.weight → (burn_view most t (record (burn_view most t v) { credit = c })).credit ≡ c
again most t v c cut = by_burned v.burned
  where
    by_burned : (o : Option ℕ)
        → (burn_view most t (record (elim o as (λ _. View) [
          | None ↦ record v { burned = o }
          | Some from ↦ record v { credit = burned_credit v.credit v.residual v.weight most (t - from); residual = burned_residual v.residual v.weight most (t - from); burned = Some t }
        ]) { credit = c })).credit ≡ c
    by_burned None = refl
    by_burned (Some from) = no_time c (burned_residual v.residual v.weight most (t - from)) v.weight most t (mod-lt (undivided_charge v.residual most (t - from)) (let l = cut in omega (arith, l)))

pub credit_is : (records : Credit2Records) (u : UnitId) → unit_credit records u ≡ credit_in (view_of records u)
credit_is records u = by_domain (at_place records.domains u.dom.0)
  where
    by_unit : (weight : ℕ) (o : Option Credit2Unit) → elim o as (λ _. ℤ) [ None ↦ pos 0 | Some x ↦ x.credit ] ≡ credit_in (option_map (view weight) o)
    by_unit weight None = refl
    by_unit weight (Some x) = refl

    by_domain : (o : Option Credit2Domain) → elim o as (λ _. ℤ) [ None ↦ pos 0 | Some d ↦ elim (slice_get d.units u.n) as (λ _. ℤ) [ None ↦ pos 0 | Some x ↦ x.credit ] ] ≡ credit_in (of_domain u.n o)
    by_domain None = refl
    by_domain (Some d) = by_unit d.weight (slice_get d.units u.n)

view_changed : (most t : ℕ) (u : UnitId) (records : Credit2Records) → view_of (change_unit u (burned_unit most t) records) u ≡ option_map (burn_view most t) (view_of records u)
view_changed most t u records =
    ap (of_domain u.n) (at_place-change_at u.dom.0 (λ (d : Credit2Domain). record d { units = change_item u.n (burned_unit most t d) d.units }) records.domains) ∙ by_domain (at_place records.domains u.dom.0)
  where
    by_unit : (d : Credit2Domain) (o : Option Credit2Unit) → option_map (view d.weight) (option_map (burned_unit most t d) o) ≡ option_map (burn_view most t) (option_map (view d.weight) o)
    by_unit d None = refl
    by_unit d (Some x) = ap (λ (v : View). Some v) (burned_view most t d x)

    by_domain : (o : Option Credit2Domain) → of_domain u.n (option_map (λ (d : Credit2Domain). record d { units = change_item u.n (burned_unit most t d) d.units }) o) ≡ option_map (burn_view most t) (of_domain u.n o)
    by_domain None = refl
    by_domain (Some d) = ap (option_map (view d.weight)) (slice_get-change_item u.n (burned_unit most t d) d.units) ∙ by_unit d (slice_get d.units u.n)

pub now_is : (most t : ℕ) (u : UnitId) (records : Credit2Records) → unit_credit (change_unit u (burned_unit most t) records) u ≡ now_of most t (view_of records u)
now_is most t u records = credit_is (change_unit u (burned_unit most t) records) u ∙ ap credit_in (view_changed most t u records) ∙ by_view (view_of records u)
  where
    by_view : (o : Option View) → credit_in (option_map (burn_view most t) o) ≡ now_of most t o
    by_view None = refl
    by_view (Some v) = refl

-- changes of one domain that the unit's view does not show
keep_view : (i : ℕ) (f : Credit2Domain → Credit2Domain) (records : Credit2Records) (w : UnitId) → ((d : Credit2Domain) → i ≡ w.dom.0 → of_domain w.n (Some (f d)) ≡ of_domain w.n (Some d)) → view_of (change_domain i f records) w ≡ view_of records w
keep_view i f records w same =
    elim (ℕ_discrete i w.dom.0) [
      | yes e ↦ subst (λ (k : ℕ). of_domain w.n (at_place (change_at i f records.domains) k) ≡ of_domain w.n (at_place records.domains k)) e (ap (of_domain w.n) (at_place-change_at i f records.domains) ∙ by_domain e (at_place records.domains i))
      | no ne ↦ ap (of_domain w.n) (at_place-set_other i w.dom.0 _ records.domains ne)
    ]
  where
    by_domain : i ≡ w.dom.0 → (o : Option Credit2Domain) → of_domain w.n (option_map f o) ≡ of_domain w.n o
    by_domain e None = refl
    by_domain e (Some d) = same d e

-- a change of one unit that no view shows
view_item : (i n weight : ℕ) (f : Credit2Unit → Credit2Unit) (units : List Credit2Unit) → ((x : Credit2Unit) → view weight (f x) ≡ view weight x) → option_map (view weight) (slice_get (change_item i f units) n) ≡ option_map (view weight) (slice_get units n)
view_item i n weight f [] same = refl
view_item zero zero weight f (x ∷ units) same = ap (λ (v : View). Some v) (same x)
view_item zero (suc n) weight f (x ∷ units) same = refl
view_item (suc i) zero weight f (x ∷ units) same = refl
view_item (suc i) (suc n) weight f (x ∷ units) same = view_item i n weight f units same

pub view_other : (v w : UnitId) (f : Credit2Domain → Credit2Unit → Credit2Unit) (records : Credit2Records) → same_unit v w ≡ false → view_of (change_unit v f records) w ≡ view_of records w
view_other v w f records other =
    keep_view v.dom.0 (λ (d : Credit2Domain). record d { units = change_item v.n (f d) d.units }) records w (λ d e.
    (let n : v.n ≢ w.n = λ e2. (grind (arith, e, e2, other)) in ap (option_map (view d.weight)) (slice_get-change_item_other v.n w.n (f d) d.units n)))

given_back : (i n : ℕ) (d : Credit2Domain) → of_domain n (Some (domain_after_return i d)) ≡ of_domain n (Some d)
given_back i n d = by_option (λ (e : Credit2Domain). of_domain n (Some e) ≡ of_domain n (Some d)) (slice_get d.units i) _ _ (λ none. refl) (λ x is. view_item i n d.weight (λ y. record y { held = pos 0 }) d.units (λ y. refl))

pub view_given : (i j : ℕ) (records : Credit2Records) (w : UnitId) → view_of (change_domain i (λ d. cond (d.cap == 0) d (domain_after_return j d)) records) w ≡ view_of records w
view_given i j records w =
    keep_view i (λ d. cond (d.cap == 0) d (domain_after_return j d)) records w (λ d e. by_cond (λ (x : Credit2Domain). of_domain w.n (Some x) ≡ of_domain w.n (Some d)) (d.cap == 0) d (domain_after_return j d) (λ is. refl) (λ is. given_back j w.n d))

pub view_taken : (i j : ℕ) (records : Credit2Records) (w : UnitId) → view_of (change_domain i (domain_after_take j) records) w ≡ view_of records w
view_taken i j records w =
    keep_view i (domain_after_take j) records w (λ d e. by_cond (λ (x : Credit2Domain). of_domain w.n (Some x) ≡ of_domain w.n (Some d)) (d.cap == 0) d _ (λ is. refl) (λ is. view_item j w.n d.weight _ d.units (λ x. refl)))

pub view_burned : (cur : Option UnitId) (t : ℕ) (records : Credit2Records) (w : UnitId) → is_unit cur w ≡ false → view_of (own_burned_records cur t records) w ≡ view_of records w
view_burned None t records w other = refl
view_burned (Some v) t records w other = view_given v.dom.0 v.n (change_unit v (burned_unit (most_weight records) t) records) w ∙ view_other v w (burned_unit (most_weight records) t) records other

pub view_own : (v : UnitId) (t : ℕ) (records : Credit2Records) → view_of (own_burned_records (Some v) t records) v ≡ option_map (burn_view (most_weight records) t) (view_of records v)
view_own v t records = view_given v.dom.0 v.n (change_unit v (burned_unit (most_weight records) t) records) v ∙ view_changed (most_weight records) t v records

pub view_off : (cur : Option UnitId) (records : Credit2Records) (w : UnitId) → is_unit cur w ≡ false → view_of (off_records cur records) w ≡ view_of records w
view_off None records w other = refl
view_off (Some v) records w other = view_other v w _ records other

-- a unit that runs, or runs no more
abbrev pub with_burned : Option ℕ → View → View
with_burned from v = record v { burned = from }

pub view_run : (from : Option ℕ) (u : UnitId) (records : Credit2Records) → view_of (running_records from u records) u ≡ option_map (with_burned from) (view_of records u)
view_run from u records =
    ap (of_domain u.n) (at_place-change_at u.dom.0 (λ (d : Credit2Domain). record d { units = change_item u.n (λ (x : Credit2Unit). record x { burned = from }) d.units }) records.domains) ∙ by_domain (at_place records.domains u.dom.0)
  where
    by_unit : (weight : ℕ) (o : Option Credit2Unit) → option_map (view weight) (option_map (λ (x : Credit2Unit). record x { burned = from }) o) ≡ option_map (with_burned from) (option_map (view weight) o)
    by_unit weight None = refl
    by_unit weight (Some x) = refl

    by_domain : (o : Option Credit2Domain) → of_domain u.n (option_map (λ (d : Credit2Domain). record d { units = change_item u.n (λ (x : Credit2Unit). record x { burned = from }) d.units }) o) ≡ option_map (with_burned from) (of_domain u.n o)
    by_domain None = refl
    by_domain (Some d) = ap (option_map (view d.weight)) (slice_get-change_item u.n (λ (x : Credit2Unit). record x { burned = from }) d.units) ∙ by_unit d.weight (slice_get d.units u.n)

-- a reset_records
pub view_reset : (t m : ℕ) (records : Credit2Records) (w : UnitId) → view_of (reset_records t m records) w ≡ option_map (reset_view (most_weight records) t m) (view_of records w)
view_reset t zero records w = same (view_of records w)
  where
    same : (o : Option View) → o ≡ option_map (λ v. v) o
    same None = refl
    same (Some v) = refl
view_reset t (suc m) records w =
    ap (of_domain w.n) (at_place-change_each 0 w.dom.0 (λ n (d : Credit2Domain). record d { units = map (λ (x : Credit2Unit). record x { credit = raised_credit x.credit (suc m) }) d.units }) (burn_all t records).domains
    ∙ ap (option_map (λ (d : Credit2Domain). record d { units = map (λ (x : Credit2Unit). record x { credit = raised_credit x.credit (suc m) }) d.units })) (at_place-change_each 0 w.dom.0 (λ n (d : Credit2Domain). burned_domain most t d) records.domains))
    ∙ by_domain (at_place records.domains w.dom.0)
  where
    most : ℕ
    most = most_weight records

    by_unit : (d : Credit2Domain) (o : Option Credit2Unit)
        → option_map (view d.weight) (option_map (λ (x : Credit2Unit). record x { credit = raised_credit x.credit (suc m) }) (option_map (burned_unit most t d) o)) ≡ option_map (reset_view most t (suc m)) (option_map (view d.weight) o)
    by_unit d None = refl
    by_unit d (Some x) = ap (λ (v : View). Some (record v { credit = raised_credit v.credit (suc m) })) (burned_view most t d x)

    by_domain : (o : Option Credit2Domain)
        → of_domain w.n (option_map (λ (d : Credit2Domain). record d { units = map (λ (x : Credit2Unit). record x { credit = raised_credit x.credit (suc m) }) d.units }) (option_map (λ (d : Credit2Domain). burned_domain most t d) o))
        ≡ option_map (reset_view most t (suc m)) (of_domain w.n o)
    by_domain None = refl
    by_domain (Some d) =
        ap (option_map (view d.weight)) (slice_get-map (λ (x : Credit2Unit). record x { credit = raised_credit x.credit (suc m) }) (map (burned_unit most t d) d.units) w.n
        ∙ ap (option_map (λ (x : Credit2Unit). record x { credit = raised_credit x.credit (suc m) })) (slice_get-map (burned_unit most t d) d.units w.n))
        ∙ by_unit d (slice_get d.units w.n)
