-- What one entry more makes of what a report keeps.
use Rattle.std.proofs.Common.{◌≡◌, ◌≢◌, ℕ, ◌+◌, Bool, true, false, true≢false, cond, List, [], ◌∷◌, ◌++◌, refl, sym, ap, subst, ◌∙◌, arith, length, get_or, inl, inr, add-zero}
use Rattle.std.specs.Prelude.{Option, Some, None, sum_by, nat_lt}
use Rattle.std.proofs.lemmas.Bool.{cases_lt, and_parts, and_from, eq-eqb, ne_eqb, ltb-true, lt-ltb, le-ltb}
use Rattle.std.proofs.lemmas.List.{get_or-set_same, get_or-set_other, length-set, append-nil}
use Rattle.sched_base.specs.declared.UnitId.{UnitId}
use Rattle.sched_model.specs.declared.event.Entry.{Entry}
use Rattle.sched_model.specs.Places.{same_unit, is_unit, numbers_from}
use Rattle.sched_model.specs.Pool.{same_choice}
use Rattle.sched_report.specs.declared.choice.CoreChoice.{CoreChoice}
use Rattle.sched_report.specs.declared.tally.UnitTally.{UnitTally}
use Rattle.sched_report.specs.declared.tally.CoreTally.{CoreTally}
use Rattle.sched_report.specs.Stays.{entry_choice, choices}
use Rattle.unit_places.specs.Places.{unit_index}
use Rattle.sched_report.specs.Tallies.{nothing_done, undecided_core, unit_place_number, has_unit_place, tally_at, changed_at, with_ended_stay, with_begun_stay, with_renewal, ended_span, after_found, units_after, units_renewed, units_with, begins, lateness_on}
use Rattle.sched_report.proofs.Folds.{told}
use Rattle.sched_report.proofs.Grows.{chosen_at, choices-more, charge}
use Rattle.sched_report.proofs.Sums.{sum_by-same, sum_at, sum_beyond}
use Rattle.unit_places.proofs.Placed.{low_index}

placed : (u : UnitId) → has_unit_place u ≡ true → unit_place_number u ≡ Some (unit_index u)
placed u has = ap (λ b. cond b (Some (unit_index u)) None) has

places-apart : (w u : UnitId) → has_unit_place w ≡ true → has_unit_place u ≡ true → same_unit w u ≡ false → unit_index u ≢ unit_index w
places-apart w u has_w has_u apart e =
    let of_w = and_parts (nat_lt w.dom.0 64) (nat_lt w.n 32) has_w in
    let of_u = and_parts (nat_lt u.dom.0 64) (nat_lt u.n 32) has_u in
    let n_w = ltb-true w.n 32 of_w.1 in
    let n_u = ltb-true u.n 32 of_u.1 in
    let dom : w.dom.0 ≡ u.dom.0 = omega (arith, e, n_w, n_u) in
    let n : w.n ≡ u.n = omega (arith, e, dom) in
    true≢false (sym (and_from _ _ (eq-eqb _ _ dom) (eq-eqb _ _ n)) ∙ apart)

-- a change of the tally of w is one of the tally of u where they are the same
pub tally_at-changed : (w u : UnitId) (f : UnitTally → UnitTally) (units : List UnitTally) → has_unit_place u ≡ true → length units ≡ 2048
    → tally_at (changed_at (unit_place_number w) f units) (unit_place_number u) ≡ cond (same_unit w u) (f (tally_at units (unit_place_number u))) (tally_at units (unit_place_number u))
tally_at-changed w u f units has all =
    let i = unit_index u in
    let was : UnitTally = get_or units i nothing_done in
    let here : unit_place_number u ≡ Some i = placed u has in
    let there : get_or (changed_at (unit_place_number w) f units) i nothing_done ≡ cond (same_unit w u) (f was) was = elim (told w u) [
      | inl same ↦
          subst (λ q. get_or (changed_at q f units) i nothing_done ≡ cond (same_unit w u) (f was) was) (sym (ap unit_place_number same.0 ∙ here))
          (get_or-set_same units i (f was) nothing_done (omega (arith, low_index u has, all)) ∙ ap (λ b. cond b (f was) was) (sym same.1))
      | inr apart ↦ stays (has_unit_place w) refl apart.0 ∙ ap (λ b. cond b (f was) was) (sym apart.0)
    ] in
    subst (λ q. tally_at (changed_at (unit_place_number w) f units) q ≡ cond (same_unit w u) (f (tally_at units q)) (tally_at units q)) (sym here) there
  where
    stays : (b : Bool) → has_unit_place w ≡ b → same_unit w u ≡ false → get_or (changed_at (cond b (Some (unit_index w)) None) f units) (unit_index u) nothing_done ≡ get_or units (unit_index u) nothing_done
    stays true has_w apart = get_or-set_other units (unit_index w) (unit_index u) (f (get_or units (unit_index w) nothing_done)) nothing_done (places-apart w u has_w has apart)
    stays false has_w apart = refl

length-changed : (o : Option ℕ) (f : UnitTally → UnitTally) (units : List UnitTally) → length (changed_at o f units) ≡ length units
length-changed None f units = refl
length-changed (Some i) f units = length-set units i (f (get_or units i nothing_done))

module _ (u : UnitId) (has : has_unit_place u ≡ true) where
  abbrev at : List UnitTally → UnitTally
  at units = tally_at units (unit_place_number u)

  found-at : (o : Option UnitId) (time late : ℕ) (units : List UnitTally) → length units ≡ 2048
      → at (elim o as (λ _. List UnitTally) [ None ↦ units | Some w ↦ changed_at (unit_place_number w) (with_ended_stay time late) units ])
      ≡ record (at units) { run = (at units).run + elim o as (λ _. ℕ) [ None ↦ 0 | Some w ↦ cond (same_unit w u) time 0 ]; late = (at units).late + cond (is_unit o u) late 0 }
  found-at None time late units all = λ i. record (at units) { run = sym (add-zero (at units).run) i; late = sym (add-zero (at units).late) i }
  found-at (Some w) time late units all =
      let t : UnitTally = at units in
      tally_at-changed w u (with_ended_stay time late) units has all
      ∙ elim (same_unit w u) as (λ b. cond b (with_ended_stay time late t) t ≡ record t { run = t.run + cond b time 0; late = t.late + cond b late 0 }) [
        | true ↦ refl
        | false ↦ λ i. record t { run = sym (add-zero t.run) i; late = sym (add-zero t.late) i }
      ]

  with_begun_stay-more : (w : UnitId) (units : List UnitTally) → length units ≡ 2048
      → at (changed_at (unit_place_number w) with_begun_stay units) ≡ record (at units) { picks = (at units).picks + cond (same_unit w u) 1 0 }
  with_begun_stay-more w units all =
      let t : UnitTally = at units in
      tally_at-changed w u with_begun_stay units has all
      ∙ elim (same_unit w u) as (λ b. cond b (with_begun_stay t) t ≡ record t { picks = t.picks + cond b 1 0 }) [ true ↦ refl | false ↦ λ i. record t { picks = sym (add-zero t.picks) i } ]

  with_begun_stay-at : (before chosen : Option UnitId) (units : List UnitTally) → length units ≡ 2048
      → at (cond (same_choice before chosen) units (elim chosen as (λ _. List UnitTally) [ None ↦ units | Some w ↦ changed_at (unit_place_number w) with_begun_stay units ]))
      ≡ record (at units) { picks = (at units).picks + elim chosen as (λ _. ℕ) [ None ↦ 0 | Some w ↦ cond (is_unit before w) 0 (cond (same_unit w u) 1 0) ] }
  with_begun_stay-at None None units all = λ i. record (at units) { picks = sym (add-zero (at units).picks) i }
  with_begun_stay-at (Some x) None units all = λ i. record (at units) { picks = sym (add-zero (at units).picks) i }
  with_begun_stay-at None (Some w) units all = with_begun_stay-more w units all
  with_begun_stay-at (Some x) (Some w) units all =
      elim (same_unit x w) as (λ b. at (cond b units (changed_at (unit_place_number w) with_begun_stay units)) ≡ record (at units) { picks = (at units).picks + cond b 0 (cond (same_unit w u) 1 0) }) [
        | true ↦ λ i. record (at units) { picks = sym (add-zero (at units).picks) i }
        | false ↦ with_begun_stay-more w units all
      ]

length-found : (o : Option UnitId) (f : UnitTally → UnitTally) (units : List UnitTally)
    → length (elim o as (λ _. List UnitTally) [ None ↦ units | Some w ↦ changed_at (unit_place_number w) f units ]) ≡ length units
length-found None f units = refl
length-found (Some w) f units = length-changed (unit_place_number w) f units

pub length-after : (k : CoreTally) (c : CoreChoice) (units : List UnitTally) → length (units_after k c units) ≡ length units
length-after k c units =
    let found_units : List UnitTally = after_found k c units in
    elim (same_choice k.cur c.unit) as (λ b. length (cond b found_units (elim c.unit as (λ _. List UnitTally) [ None ↦ found_units | Some w ↦ changed_at (unit_place_number w) with_begun_stay found_units ])) ≡ length found_units) [
      | true ↦ refl
      | false ↦ length-found c.unit with_begun_stay found_units
    ] ∙ length-found k.cur (with_ended_stay (ended_span k c) c.late.0) units

pub length-with : (cores : List CoreTally) (units : List UnitTally) (o : Option CoreChoice) → length (units_with o cores units) ≡ length units
length-with cores units None = refl
length-with cores units (Some c) =
    elim (nat_lt c.core.0 (length cores)) as (λ b. length (cond b (units_after (get_or cores c.core.0 undecided_core) c units) units) ≡ length units) [
      | true ↦ length-after (get_or cores c.core.0 undecided_core) c units
      | false ↦ refl
    ]

pub length-renewed : (units : List UnitTally) (o : Option UnitId) → length (units_renewed o units) ≡ length units
length-renewed units None = refl
length-renewed units (Some u) = length-changed (unit_place_number u) with_renewal units

-- the time, the stays and the lateness that a choice gives the unit, where the core was in this state
abbrev pub given : CoreTally → CoreChoice → UnitId → UnitTally → UnitTally
given k c u t = record t {
  run = t.run + charge (λ w. same_unit w u) k c;
  picks = t.picks + begins u (record { before = k.cur; choice = c });
  late = t.late + lateness_on u (record { before = k.cur; choice = c });
}

pub tally_at-after : (k : CoreTally) (c : CoreChoice) (u : UnitId) (units : List UnitTally) → has_unit_place u ≡ true → length units ≡ 2048
    → tally_at (units_after k c units) (unit_place_number u) ≡ given k c u (tally_at units (unit_place_number u))
tally_at-after k c u units has all =
    with_begun_stay-at u has k.cur c.unit (after_found k c units) (length-found k.cur (with_ended_stay (ended_span k c) c.late.0) units ∙ all)
    ∙ ap (λ (t : UnitTally). let after : UnitTally = record t { picks = t.picks + begins u (record { before = k.cur; choice = c }) } in after) (found-at u has k.cur (ended_span k c) c.late.0 units all)

-- what is summed over the cores, after one entry more
module _ (F : List CoreChoice → ℕ) (more : List CoreChoice → CoreChoice → ℕ) (grows : (cs : List CoreChoice) (c : CoreChoice) → F (cs ++ c ∷ []) ≡ F cs + more cs c) (es : List Entry) (e : Entry) where
  pub sum-more : (n : ℕ) (o : Option CoreChoice) → entry_choice e ≡ o
      → sum_by (λ r. F (choices r (es ++ e ∷ []))) (numbers_from 0 n)
      ≡ sum_by (λ r. F (choices r es)) (numbers_from 0 n) + elim o as (λ _. ℕ) [ None ↦ 0 | Some c ↦ cond (nat_lt c.core.0 n) (more (choices c.core.0 es) c) 0 ]
  sum-more n None is =
      sum_by-same (λ r. F (choices r (es ++ e ∷ []))) (λ r. F (choices r es)) (numbers_from 0 n)
      (λ r. ap F (choices-more r es e ∙ ap (λ o. choices r es ++ chosen_at r o) is ∙ append-nil (choices r es)))
      ∙ sym (add-zero (sum_by (λ r. F (choices r es)) (numbers_from 0 n)))
  sum-more n (Some c) is =
      let f : ℕ → ℕ = λ r. F (choices r es) in
      let g : ℕ → ℕ = λ r. F (choices r (es ++ e ∷ [])) in
      let gain = more (choices c.core.0 es) c in
      let same : (r : ℕ) → r ≢ c.core.0 → g r ≡ f r = λ r apart.
      ap F (choices-more r es e ∙ ap (λ o. choices r es ++ chosen_at r o) is ∙ ap (λ b. choices r es ++ cond b (c ∷ []) []) (ne_eqb c.core.0 r (λ i. apart (sym i))) ∙ append-nil (choices r es)) in
      let here : g c.core.0 ≡ f c.core.0 + gain =
      ap F (choices-more c.core.0 es e ∙ ap (λ o. choices c.core.0 es ++ chosen_at c.core.0 o) is ∙ ap (λ b. choices c.core.0 es ++ cond b (c ∷ []) []) (eq-eqb c.core.0 c.core.0 refl))
      ∙ grows (choices c.core.0 es) c in
      elim (cases_lt c.core.0 n) [
        | inl low ↦ sum_at f g c.core.0 gain 0 n same here (omega arith) (omega (arith, low)) ∙ ap (λ b. sum_by f (numbers_from 0 n) + cond b gain 0) (sym (lt-ltb c.core.0 n low))
        | inr high ↦ sum_beyond f g c.core.0 0 n same (omega (arith, high)) ∙ sym (add-zero (sum_by f (numbers_from 0 n))) ∙ ap (λ b. sum_by f (numbers_from 0 n) + cond b gain 0) (sym (le-ltb c.core.0 n high))
      ]
