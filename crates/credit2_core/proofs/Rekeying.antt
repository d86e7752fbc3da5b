-- The keys of the run queue while its units are put at their places one after another.
use Rattle.std.proofs.Common.{◌≡◌, ◌<◌, ◌≤◌, ◌+◌, ℕ, zero, suc, true, false, List, [], ◌∷◌, length, refl, subst, arith, ◌⊎◌, inl, inr}
use Rattle.std.specs.Prelude.{Option, ◌==◌, ◌&&◌, if◌then◌else◌, nat_lt}
use Rattle.std.specs.List.{AllByRecursion}
use Rattle.std.proofs.lemmas.Bool.{cases_lt, eqb-true, ltb-true, lt-ltb, eq-eqb, or_cases}
use Rattle.unit_places.specs.Places.{number_of}
use Rattle.sched_base.specs.declared.Cores.{Cores}
use Rattle.sched_base.specs.declared.UnitId.{UnitId}
use Rattle.sched_model.specs.declared.state.Credit2Records.{Credit2Records}
use Rattle.sched_base.proofs.Bools.{and_left, and_right, or_left, or_right}
use Rattle.arrival_queue.specs.Queues.{Queued, queued_unit, list_with, list_without, is_of, has_unit}
use Rattle.queue_laws.specs.Arrivals.{arrivals}
use Rattle.credit2_core.specs.Keys.{KeysWhere, HasCredits, key_in, is_passed}
use Rattle.sched_ops.specs.Affinity.{joined_unit_count, is_member_among}
use Rattle.credit2_core.proofs.Lists.{All-put, queued_have}
use Rattle.std.proofs.Math.Bool.{or-true}

-- a unit that is passed was passed before, or is the next
passed_next : (d n : ℕ) (w : UnitId) → is_passed d (n + 1) w ≡ true → (is_passed d n w ≡ true) ⊎ ((w.dom.0 ≡ d) × (w.n ≡ n))
passed_next d n w is =
    elim (or_cases (nat_lt w.dom.0 d) (w.dom.0 == d && nat_lt w.n (n + 1)) is) [
      | inl low ↦ inl (rw low refl)
      | inr here ↦ (
          let at : (w.dom.0 == d) ≡ true = and_left (w.dom.0 == d) (nat_lt w.n (n + 1)) here in
          let before : w.n < n + 1 = ltb-true w.n (n + 1) (and_right (w.dom.0 == d) (nat_lt w.n (n + 1)) here) in
          elim (cases_lt w.n n) [
            | inl less ↦ inl (let e = lt-ltb w.n n less in rw (at, e) (or-true (nat_lt w.dom.0 d)))
            | inr more ↦ inr (eqb-true w.dom.0 d at, omega arith)
          ])
    ]

-- another unit that is passed was passed before
passed_other : (u : UnitId) (e : Queued) → is_of u e ≡ false → is_passed u.dom.0 (u.n + 1) e.unit ≡ true → is_passed u.dom.0 u.n e.unit ≡ true
passed_other u e other is = elim (passed_next u.dom.0 u.n e.unit is) [
  | inl before ↦ before
  | inr same ↦ absurd (
      let dom = same.0 in
      let n = same.1 in
      let s : is_of u e ≡ true = eq-eqb (number_of e.unit) (number_of u) (omega (arith, dom, n)) in
      cc)
]

module _ (records : Credit2Records) where
  pub keys_absent : (u : UnitId) (es : List Queued) → has_unit u es ≡ false → KeysWhere (is_passed u.dom.0 u.n) records es → KeysWhere (is_passed u.dom.0 (u.n + 1)) records es
  keys_absent u [] absent keys = tt
  keys_absent u (e ∷ es) absent keys = (λ is. keys.0 (passed_other u e (or_left _ _ absent) is), keys_absent u es (or_right (is_of u e) _ absent) keys.1)

  keys_gone : (u : UnitId) (es : List Queued) → KeysWhere (is_passed u.dom.0 u.n) records es → KeysWhere (is_passed u.dom.0 (u.n + 1)) records (list_without u es)
  keys_gone u [] keys = tt
  keys_gone u (e ∷ es) keys =
      elim (is_of u e) as (λ b. is_of u e ≡ b → KeysWhere (is_passed u.dom.0 (u.n + 1)) records (if b then list_without u es else e ∷ list_without u es)) [
        | true ↦ λ is. keys_gone u es keys.1
        | false ↦ λ is. (λ passed. keys.0 (passed_other u e is passed), keys_gone u es keys.1)
      ] refl

  pub keys_moved : (u : UnitId) (r : ℕ) (es : List Queued) → KeysWhere (is_passed u.dom.0 u.n) records es → KeysWhere (is_passed u.dom.0 (u.n + 1)) records (list_with (queued_unit u (key_in records u) r) (list_without u es))
  keys_moved u r es keys = All-put (λ (e : Queued). is_passed u.dom.0 (u.n + 1) e.unit ≡ true → e.key ≡ key_in records e.unit) _ (queued_unit u (key_in records u) r) (list_without u es) (λ _. refl) (keys_gone u es keys)

  -- all units of the domain are passed: the next domain
  pub keys_next : (affinity : List (Option (List Cores))) (d : ℕ) (es : List Queued) → AllByRecursion (λ u. is_member_among affinity u ≡ true) (arrivals es) → KeysWhere (is_passed d (joined_unit_count affinity d)) records es → KeysWhere (is_passed (d + 1) 0) records es
  keys_next affinity d es joined keys = each es (queued_have (λ u. is_member_among affinity u ≡ true) es joined) keys
    where
      passed : (w : UnitId) → is_member_among affinity w ≡ true → is_passed (d + 1) 0 w ≡ true → is_passed d (joined_unit_count affinity d) w ≡ true
      passed w there is = elim (or_cases (nat_lt w.dom.0 (d + 1)) (w.dom.0 == d + 1 && nat_lt w.n 0) is) [
        | inr here ↦ absurd (let l = ltb-true w.n 0 (and_right (w.dom.0 == d + 1) (nat_lt w.n 0) here) in omega (arith, l))
        | inl low ↦ elim (cases_lt w.dom.0 d) [
          | inl less ↦ (let e = lt-ltb w.dom.0 d less in rw e refl)
          | inr more ↦ (
              let l = ltb-true w.dom.0 (d + 1) low in
              let dom : w.dom.0 ≡ d = omega (arith, l, more) in
              let e : (w.dom.0 == d) ≡ true = eq-eqb w.dom.0 d dom in
              let n : nat_lt w.n (joined_unit_count affinity d) ≡ true = subst (λ k. nat_lt w.n (joined_unit_count affinity k) ≡ true) dom there in
              rw (e, n) (or-true (nat_lt w.dom.0 d)))
        ]
      ]

      each : (xs : List Queued) → AllByRecursion (λ (e : Queued). is_member_among affinity e.unit ≡ true) xs → KeysWhere (is_passed d (joined_unit_count affinity d)) records xs → KeysWhere (is_passed (d + 1) 0) records xs
      each [] there keys = tt
      each (e ∷ xs) there keys = (λ is. keys.0 (passed e.unit there.0 is), each xs there.1 keys.1)

  -- all domains are passed
  pub keys_all : (affinity : List (Option (List Cores))) (es : List Queued) → AllByRecursion (λ u. is_member_among affinity u ≡ true) (arrivals es) → KeysWhere (is_passed (length affinity) 0) records es → HasCredits records es
  keys_all affinity es joined keys = each es (queued_have (λ u. is_member_among affinity u ≡ true) es joined) keys
    where
      outside : (places : List (Option (List Cores))) (d : ℕ) → length places ≤ d → joined_unit_count places d ≡ 0
      outside [] d high = refl
      outside (p ∷ places) zero high = absurd (omega (arith, high))
      outside (p ∷ places) (suc d) high = outside places d (omega (arith, high))

      inside : (w : UnitId) → is_member_among affinity w ≡ true → is_passed (length affinity) 0 w ≡ true
      inside w there = elim (cases_lt w.dom.0 (length affinity)) [
        | inl low ↦ (let e = lt-ltb w.dom.0 (length affinity) low in rw e refl)
        | inr high ↦ absurd (let l = ltb-true w.n (joined_unit_count affinity w.dom.0) there in let z = outside affinity w.dom.0 high in omega (arith, l, z))
      ]

      each : (xs : List Queued) → AllByRecursion (λ (e : Queued). is_member_among affinity e.unit ≡ true) xs → KeysWhere (is_passed (length affinity) 0) records xs → HasCredits records xs
      each [] there keys = tt
      each (e ∷ xs) there keys = (keys.0 (inside e.unit there.0), each xs there.1 keys.1)
