-- The next timer that was read stays so up to its moment.
use Rattle.std.proofs.Common.{◌≡◌, ◌≤◌, ◌<◌, ◌∙◌, ℕ, true, false, List, [], ◌∷◌, refl, ap, sym, arith, cond, inl, inr}
use Rattle.std.specs.Prelude.{Option, Some, None, nat_le}
use Rattle.std.specs.List.{AllByRecursion}
use Rattle.std.proofs.lemmas.Bool.{leb-true}
use Rattle.sched_ops.specs.Timers.{Armed, first_due_timer, soonest_timer, next_armed}
use Rattle.policy_laws.proofs.Scan.{next_none, next_least}

-- where each is later, none has come
none_due : (t from : ℕ) (xs : List Armed) → t < from → AllByRecursion (λ (e : Armed). from ≤ e.0.0) xs → first_due_timer t xs ≡ None
none_due t from [] late each = refl
none_due t from (y ∷ xs) late each =
    elim (nat_le y.0.0 t) as (λ b. nat_le y.0.0 t ≡ b → cond b (Some y) (first_due_timer t xs) ≡ None) [
      | true ↦ λ b. absurd (let come = leb-true y.0.0 t b in let least = each.0 in omega (arith, late, come, least))
      | false ↦ λ b. none_due t from xs late each.1
    ] refl

pub still_none : (t : ℕ) (xs : List Armed) → next_armed 0 xs ≡ None → next_armed t xs ≡ None
still_none t xs is = ap (next_armed t) (next_none 0 xs is)

-- the first that has come, or else the soonest
abbrev pick : List Armed → Option Armed → Option Armed
pick xs first = elim first [ Some x ↦ Some x | None ↦ soonest_timer None xs ]

pub still_next : (t : ℕ) (xs : List Armed) (x : Armed) → next_armed 0 xs ≡ Some x → t < x.0.0 → next_armed t xs ≡ Some x
still_next t xs x is late =
    elim (next_least 0 xs x is) [
      | inl come ↦ absurd (omega (arith, late, come))
      | inr each ↦
          let later = none_due t x.0.0 xs late each in
          let first = none_due 0 x.0.0 xs (omega (arith, late)) each in
          ap (pick xs) later ∙ sym (ap (pick xs) first) ∙ is
    ]
