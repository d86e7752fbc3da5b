-- The next moment is the least later one at which something may come.
use Rattle.std.proofs.Common.{◌≡◌, ◌≢◌, ℕ, ◌≤◌, Bool, true, false, List, [], ◌∷◌, refl, subst, sym, ◌∙◌, arith, inl, inr, cond}
use Rattle.std.specs.Prelude.{Option, Some, None, find, filter, is_some, nat_lt, min, ◌&&◌, ◌||◌}
use Rattle.std.specs.List.{list_any}
use Rattle.std.proofs.lemmas.Bool.{ltb-true, lt-ltb, false≢true, and_from}
use Rattle.std.proofs.lemmas.Bool.Decides.{leb_tells}
use Rattle.sched_base.proofs.Bools.{and_left, and_right}
use Rattle.sched_model.specs.declared.machine.Machine.{Machine}
use Rattle.sched_model.specs.declared.state.State.{State}
use Rattle.sched_model.specs.Places.{least_number}
use Rattle.sched_model.specs.Actions.{candidates}
use Rattle.sched_model.specs.Machine.{is_action_enabled, first_enabled_action, moments, least_later_moment}
use Rattle.run_laws.specs.RunLaws.{IsNextMoment}
use Rattle.sched_base.specs.Lists.{Has}
use Rattle.run_laws.proofs.Awaits.{Awaits, Awaits-any, Awaits-same}
use Rattle.run_laws.proofs.Rows.{Awaits-enabled}

-- something is found where something passes the test
is_some-find : {X : Type 0} (test : X → Bool) (xs : List X) → list_any test xs ≡ is_some (find test xs)
is_some-find test [] = refl
is_some-find {X} test (x ∷ xs) = elim (test x) as (λ b. (b || list_any test xs) ≡ is_some (cond b (Some x) (find test xs))) [ true ↦ refl | false ↦ is_some-find test xs ]

-- whether something may come at t waits for the moments that the state names
Awaits-something : (m : Machine) (s : State) → Awaits (moments m s) (λ t. is_some (first_enabled_action m s t))
Awaits-something m s =
    Awaits-same (moments m s) (λ t. list_any (is_action_enabled m s t) (candidates m.config)) (λ t. is_some (first_enabled_action m s t)) (λ t. is_some-find (is_action_enabled m s t) (candidates m.config))
    (Awaits-any (moments m s) (λ t a. is_action_enabled m s t a) (candidates m.config) (Awaits-enabled m s))

Has-filter : (test : ℕ → Bool) (ns : List ℕ) (n : ℕ) → Has n ns → test n ≡ true → Has n (filter test ns)
Has-filter test [] n h on = absurd h
Has-filter test (k ∷ ns) n h on =
    elim (test k) as (λ b. test k ≡ b → Has n (cond b (k ∷ filter test ns) (filter test ns))) [
      | true ↦ λ is. elim h [ inl e ↦ inl e | inr there ↦ inr (Has-filter test ns n there on) ]
      | false ↦ λ is. elim h [ inl e ↦ absurd (false≢true (sym is ∙ subst (λ z. test z ≡ true) e on)) | inr there ↦ Has-filter test ns n there on ]
    ] refl

passes-filter : (test : ℕ → Bool) (ns : List ℕ) (n : ℕ) → Has n (filter test ns) → test n ≡ true
passes-filter test [] n h = absurd h
passes-filter test (k ∷ ns) n h =
    elim (test k) as (λ b. test k ≡ b → Has n (cond b (k ∷ filter test ns) (filter test ns)) → test n ≡ true) [
      | true ↦ λ is there. elim there [ inl e ↦ subst (λ z. test z ≡ true) (sym e) is | inr later ↦ passes-filter test ns n later ]
      | false ↦ λ is there. passes-filter test ns n there
    ] refl h

-- the least of the numbers is one of them, and none is less; where there is no least, there is none
Has-least : (ns : List ℕ) (n : ℕ) → least_number ns ≡ Some n → Has n ns
Has-least [] n is = absurd (cc)
Has-least (k ∷ ns) n is =
    elim (least_number ns) as (λ o. least_number ns ≡ o → elim o [ None ↦ Some k | Some l ↦ Some (min k l) ] ≡ Some n → Has n (k ∷ ns)) [
      | None ↦ λ rest e. inl (cc)
      | Some l ↦ λ rest e. (
          let f : min k l ≡ n = cc in
          elim (leb_tells k l) [
            | inl a ↦ inl (omega (arith, f, a.1))
            | inr b ↦ inr (let g : l ≡ n = omega (arith, f, b.1) in subst (λ z. Has z ns) g (Has-least ns l rest))
          ])
    ] refl is

some-none : (n : ℕ) → Some n ≡ None → ⊥
some-none n is = cc

none-least : (ns : List ℕ) (k : ℕ) → least_number ns ≡ None → Has k ns → ⊥
none-least [] k is h = h
none-least (j ∷ ns) k is h = elim (least_number ns) as (λ o. let most : Option ℕ = elim o [ None ↦ Some j | Some l ↦ Some (min j l) ] in most ≡ None → ⊥) [ None ↦ λ e. some-none j e | Some l ↦ λ e. some-none (min j l) e ] is

least-le : (ns : List ℕ) (n k : ℕ) → least_number ns ≡ Some n → Has k ns → n ≤ k
least-le [] n k is h = absurd h
least-le (j ∷ ns) n k is h =
    elim (least_number ns) as (λ o. least_number ns ≡ o → elim o [ None ↦ Some j | Some l ↦ Some (min j l) ] ≡ Some n → n ≤ k) [
      | None ↦ λ rest e. (let f : j ≡ n = cc in elim h [ inl g ↦ omega (arith, f, g) | inr there ↦ absurd (none-least ns k rest there) ])
      | Some l ↦ λ rest e. (let f : min j l ≡ n = cc in elim h [ inl g ↦ omega (arith, f, g) | inr there ↦ omega (arith, f, least-le ns l k rest there) ])
    ] refl is

none_from : {X : Type 0} (o : Option X) → (is_some o ≡ true → ⊥) → o ≡ None
none_from None h = refl
none_from (Some x) h = absurd (h refl)

some_there : {X : Type 0} (o : Option X) → is_some o ≡ true → o ≢ None
some_there None on e = false≢true on
some_there (Some x) on e = cc

pub next_moment_is : (m : Machine) (s : State) (t : ℕ) → first_enabled_action m s t ≡ None → IsNextMoment m s t (least_later_moment m s t)
next_moment_is m s t still =
    let w = Awaits-something m s in
    let off : is_some (first_enabled_action m s t) ≡ false = rw still refl in
    let test : ℕ → Bool = λ later. nat_lt t later && is_some (first_enabled_action m s later) in
    elim (least_later_moment m s t) as (λ o. least_later_moment m s t ≡ o → IsNextMoment m s t o) [
      | None ↦ λ is later after. none_from (first_enabled_action m s later)
          (λ on. (let b = w.begins t later off on in none-least (filter test (moments m s)) b.at is (Has-filter test (moments m s) b.at b.named (and_from (nat_lt t b.at) (is_some (first_enabled_action m s b.at)) (lt-ltb t b.at b.later) b.passes))))
      | Some n ↦ λ is. (
          let passed = passes-filter test (moments m s) n (Has-least (filter test (moments m s)) n is) in
          record {
            later = ltb-true t n (and_left (nat_lt t n) (is_some (first_enabled_action m s n)) passed);
            something = some_there (first_enabled_action m s n) (and_right (nat_lt t n) (is_some (first_enabled_action m s n)) passed);
            nothing_between = λ between after before. none_from (first_enabled_action m s between)
                (λ on. (
                let b = w.begins t between off on in
                let h = least-le (filter test (moments m s)) n b.at is (Has-filter test (moments m s) b.at b.named (and_from (nat_lt t b.at) (is_some (first_enabled_action m s b.at)) (lt-ltb t b.at b.later) b.passes)) in
                omega (arith, h, b.soon, before)));
          })
    ] refl
