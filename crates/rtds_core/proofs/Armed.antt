-- The timers of the ids, and the first of them.
use Rattle.std.proofs.Common.{◌≡◌, ◌≤◌, ◌<◌, ◌+◌, ℕ, zero, suc, Bool, true, false, List, [], ◌∷◌, refl, sym, ◌∙◌, ap, subst, arith, inl, inr}
use Rattle.std.specs.Prelude.{Option, Some, None, nat_le, nat_lt, if◌then◌else◌}
use Rattle.std.proofs.lemmas.Bool.{cases_eq, cases_lt, le-ltb, lt-ltb, lt-leb}
use Rattle.std.proofs.lemmas.Bool.Decides.{nat_tests}
use Rattle.sched_base.specs.declared.Moment.{Moment}
use Rattle.sched_ops.specs.declared.timer.Timer.TheVariants.{Repl}
use Rattle.sched_ops.specs.Timers.{Armed, first_due_timer, soonest_timer, next_armed}
use Rattle.due_heap.specs.Dues.{IsArmed, GoesFirst}
use Rattle.rtds_core.specs.Alarms.{armed_timers, unit_of_id, timer_of}

has_come : (t a : ℕ) → a ≤ t → nat_le a t ≡ true
has_come t a come = grind (arith, nat_tests, come)

-- where no id has a due, there is no timer
pub none_armed : (n : ℕ) (dues : List (Option Moment)) → ((id : ℕ) (at : Moment) → IsArmed dues id at → ⊥) → armed_timers n dues ≡ []
none_armed n [] none = refl
none_armed n (None ∷ dues) none = none_armed (suc n) dues (λ id at is. none (suc id) at is)
none_armed n (Some m ∷ dues) none = absurd (none 0 m refl)

-- where no due has come, none is found
pub none_due : (t n : ℕ) (dues : List (Option Moment)) → ((id : ℕ) (at : Moment) → IsArmed dues id at → t < at.0) → first_due_timer t (armed_timers n dues) ≡ None
none_due t n [] late = refl
none_due t n (None ∷ dues) late = none_due t (suc n) dues (λ id at is. late (suc id) at is)
none_due t n (Some m ∷ dues) late =
    ap (λ (b : Bool). if b then Some (m, Repl (unit_of_id n)) else first_due_timer t (armed_timers (suc n) dues)) (lt-leb m.0 t (late 0 m refl))
    ∙ none_due t (suc n) dues (λ id at is. late (suc id) at is)

-- the best so far stays the best where no due is sooner
keeps_best : (n : ℕ) (dues : List (Option Moment)) (best : Armed) → ((id : ℕ) (at : Moment) → IsArmed dues id at → best.0.0 ≤ at.0) → soonest_timer (Some best) (armed_timers n dues) ≡ Some best
keeps_best n [] best low = refl
keeps_best n (None ∷ dues) best low = keeps_best (suc n) dues best (λ id at is. low (suc id) at is)
keeps_best n (Some m ∷ dues) best low =
    ap (λ (b : Bool). soonest_timer (Some (if b then (m, Repl (unit_of_id n)) else best)) (armed_timers (suc n) dues)) (le-ltb m.0 best.0.0 (low 0 m refl))
    ∙ keeps_best (suc n) dues best (λ id at is. low (suc id) at is)

-- the least due by moment, then by id
pub record IsLeast (dues : List (Option Moment)) (id : ℕ) (at : Moment) : Type 0 where
  pub there : IsArmed dues id at
  pub least : (other : ℕ) (m : Moment) → IsArmed dues other m → GoesFirst at id m other

later_least : (o : Option Moment) (dues : List (Option Moment)) (id : ℕ) (at : Moment) → IsLeast (o ∷ dues) (suc id) at → IsLeast dues id at
later_least o dues id at is = record {
  there = is.there;
  least = λ other m has. (
      let g = is.least (suc other) m has in
      let by = g.by_moment in
      record { by_moment = by; then_by_id = λ (e : at.0 ≡ m.0). (let k = g.then_by_id e in omega (arith, k)) });
}

head_later : (m : Moment) (dues : List (Option Moment)) (id : ℕ) (at : Moment) → IsLeast (Some m ∷ dues) (suc id) at → at.0 < m.0
head_later m dues id at is =
    let g = is.least 0 m refl in
    let by = g.by_moment in
    elim (cases_eq at.0 m.0) [
      | inl same ↦ absurd (let k = g.then_by_id same in omega (arith, k))
      | inr other ↦ omega (arith, by, other)
    ]

-- the least is found behind a best so far that is later
overtakes : (n : ℕ) (dues : List (Option Moment)) (id : ℕ) (at : Moment) (best : Armed) → at.0 < best.0.0 → IsLeast dues id at → soonest_timer (Some best) (armed_timers n dues) ≡ Some (at, Repl (unit_of_id (n + id)))
overtakes n [] id at best late is = absurd (let there = is.there in cc)
overtakes n (None ∷ dues) zero at best late is = absurd (let there = is.there in cc)
overtakes n (None ∷ dues) (suc id) at best late is =
    let e : suc n + id ≡ n + suc id = omega arith in
    overtakes (suc n) dues id at best late (later_least None dues id at is) ∙ ap (λ (k : ℕ). Some (at, Repl (unit_of_id k))) e
overtakes n (Some m ∷ dues) zero at best late is =
    let same : m ≡ at = (let there = is.there in cc) in
    let e : n ≡ n + 0 = omega arith in
    let less : m.0 < best.0.0 = subst (λ (k : Moment). k.0 < best.0.0) (sym same) late in
    ap (λ (b : Bool). soonest_timer (Some (if b then (m, Repl (unit_of_id n)) else best)) (armed_timers (suc n) dues)) (lt-ltb m.0 best.0.0 less)
    ∙ keeps_best (suc n) dues (m, Repl (unit_of_id n)) (λ other k has. (let g = is.least (suc other) k has in let by = g.by_moment in subst (λ (x : Moment). x.0 ≤ k.0) (sym same) by))
    ∙ ap (λ (x : Moment). Some (x, Repl (unit_of_id n))) same ∙ ap (λ (k : ℕ). Some (at, Repl (unit_of_id k))) e
overtakes n (Some m ∷ dues) (suc id) at best late is =
    let e : suc n + id ≡ n + suc id = omega arith in
    let rest = later_least (Some m) dues id at is in
    let head = head_later m dues id at is in
    elim (nat_lt m.0 best.0.0) as (λ b. soonest_timer (Some (if b then (m, Repl (unit_of_id n)) else best)) (armed_timers (suc n) dues) ≡ Some (at, Repl (unit_of_id (n + suc id)))) [
      | true ↦ overtakes (suc n) dues id at (m, Repl (unit_of_id n)) head rest ∙ ap (λ (k : ℕ). Some (at, Repl (unit_of_id k))) e
      | false ↦ overtakes (suc n) dues id at best late rest ∙ ap (λ (k : ℕ). Some (at, Repl (unit_of_id k))) e
    ]

-- the least due is the soonest timer
pub soonest_is_least : (n : ℕ) (dues : List (Option Moment)) (id : ℕ) (at : Moment) → IsLeast dues id at → soonest_timer None (armed_timers n dues) ≡ Some (at, Repl (unit_of_id (n + id)))
soonest_is_least n [] id at is = absurd (let there = is.there in cc)
soonest_is_least n (None ∷ dues) zero at is = absurd (let there = is.there in cc)
soonest_is_least n (None ∷ dues) (suc id) at is =
    let e : suc n + id ≡ n + suc id = omega arith in
    soonest_is_least (suc n) dues id at (later_least None dues id at is) ∙ ap (λ (k : ℕ). Some (at, Repl (unit_of_id k))) e
soonest_is_least n (Some m ∷ dues) zero at is =
    let same : m ≡ at = (let there = is.there in cc) in
    let e : n ≡ n + 0 = omega arith in
    keeps_best (suc n) dues (m, Repl (unit_of_id n)) (λ other k has. (let g = is.least (suc other) k has in let by = g.by_moment in subst (λ (x : Moment). x.0 ≤ k.0) (sym same) by))
    ∙ ap (λ (x : Moment). Some (x, Repl (unit_of_id n))) same ∙ ap (λ (k : ℕ). Some (at, Repl (unit_of_id k))) e
soonest_is_least n (Some m ∷ dues) (suc id) at is =
    let e : suc n + id ≡ n + suc id = omega arith in
    overtakes (suc n) dues id at (m, Repl (unit_of_id n)) (head_later m dues id at is) (later_least (Some m) dues id at is) ∙ ap (λ (k : ℕ). Some (at, Repl (unit_of_id k))) e

-- where no due has come, the least is the next timer
pub next_later : (t : ℕ) (dues : List (Option Moment)) (id : ℕ) (at : Moment) → ((other : ℕ) (m : Moment) → IsArmed dues other m → t < m.0) → IsLeast dues id at → next_armed t (armed_timers 0 dues) ≡ Some (at, Repl (unit_of_id id))
next_later t dues id at late is =
    let e : 0 + id ≡ id = omega arith in
    ap (λ (o : Option Armed). elim o as (λ _. Option Armed) [ Some x ↦ Some x | None ↦ soonest_timer None (armed_timers 0 dues) ]) (none_due t 0 dues late)
    ∙ soonest_is_least 0 dues id at is ∙ ap (λ (k : ℕ). Some (at, Repl (unit_of_id k))) e

-- the least id whose due has come is the next timer
first_come : (t n : ℕ) (dues : List (Option Moment)) (id : ℕ) (at : Moment) → IsArmed dues id at → at.0 ≤ t → ((other : ℕ) (m : Moment) → IsArmed dues other m → m.0 ≤ t → id ≤ other) → first_due_timer t (armed_timers n dues) ≡ Some (at, Repl (unit_of_id (n + id)))
first_come t n [] id at there come first = absurd (cc)
first_come t n (None ∷ dues) zero at there come first = absurd (cc)
first_come t n (None ∷ dues) (suc id) at there come first =
    let e : suc n + id ≡ n + suc id = omega arith in
    first_come t (suc n) dues id at there come (λ other m is low. (let f = first (suc other) m is low in omega (arith, f))) ∙ ap (λ (k : ℕ). Some (at, Repl (unit_of_id k))) e
first_come t n (Some m ∷ dues) zero at there come first =
    let same : m ≡ at = cc in
    let e : n ≡ n + 0 = omega arith in
    ap (λ (b : Bool). if b then Some (m, Repl (unit_of_id n)) else first_due_timer t (armed_timers (suc n) dues)) (has_come t m.0 (subst (λ (k : Moment). k.0 ≤ t) (sym same) come))
    ∙ ap (λ (x : Moment). Some (x, Repl (unit_of_id n))) same ∙ ap (λ (k : ℕ). Some (at, Repl (unit_of_id k))) e
first_come t n (Some m ∷ dues) (suc id) at there come first =
    let e : suc n + id ≡ n + suc id = omega arith in
    let late : t < m.0 = elim (cases_lt t m.0) [
      | inl less ↦ less
      | inr low ↦ absurd (let f = first 0 m refl low in omega (arith, f))
    ] in
    ap (λ (b : Bool). if b then Some (m, Repl (unit_of_id n)) else first_due_timer t (armed_timers (suc n) dues)) (lt-leb m.0 t late)
    ∙ first_come t (suc n) dues id at there come (λ other k is low. (let f = first (suc other) k is low in omega (arith, f)))
    ∙ ap (λ (k : ℕ). Some (at, Repl (unit_of_id k))) e

pub next_due : (t : ℕ) (dues : List (Option Moment)) (id : ℕ) (at : Moment) → IsArmed dues id at → at.0 ≤ t → ((other : ℕ) (m : Moment) → IsArmed dues other m → m.0 ≤ t → id ≤ other) → timer_of dues id ≡ next_armed t (armed_timers 0 dues)
next_due t dues id at there come first =
    let e : 0 + id ≡ id = omega arith in
    let found : first_due_timer t (armed_timers 0 dues) ≡ Some (at, Repl (unit_of_id id)) = first_come t 0 dues id at there come first ∙ ap (λ (k : ℕ). Some (at, Repl (unit_of_id k))) e in
    ap (λ (o : Option Moment). elim o as (λ _. Option Armed) [ None ↦ None | Some m ↦ Some (m, Repl (unit_of_id id)) ]) there
    ∙ sym (ap (λ (o : Option Armed). elim o as (λ _. Option Armed) [ Some x ↦ Some x | None ↦ soonest_timer None (armed_timers 0 dues) ]) found)
