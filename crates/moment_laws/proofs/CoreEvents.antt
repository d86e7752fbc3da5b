-- An event of one core lowers what is left to the machine.
use Rattle.std.proofs.Common.{◌≡◌, ◌≢◌, ◌≤◌, ◌<◌, ◌+◌, ℕ, zero, suc, Bool, true, false, List, [], ◌∷◌, refl, arith, ap, subst, ◌∙◌}
use Rattle.std.specs.Prelude.{Option, Some, None, is_some, option_map}
use Rattle.std.proofs.Math.Decide.{ℕ_discrete}
use Rattle.sched_model.specs.declared.machine.Machine.{Machine}
use Rattle.sched_model.specs.declared.state.State.{State}
use Rattle.sched_model.specs.declared.state.Pool.{Pool}
use Rattle.sched_model.specs.Places.{at_place, change_at, first_place}
use Rattle.sched_model.specs.Pool.{settled_pool}
use Rattle.sched_model.specs.Actions.{home_pool_of_core, change_pool}
use Rattle.moment_laws.specs.Stretches.{cores}
use Rattle.moment_laws.specs.Turns.{turns_in, core_turns, turns_left}
use Rattle.moment_laws.proofs.Sums.{many, falls}
use Rattle.moment_laws.proofs.Changed.{Falls, falls_settled, at_place-change_at, at_place-change_at_other}

-- a change of one place that the test does not see
first_place_same : {X : Type 0} (n i : ℕ) (f : X → X) (test : X → Bool) (places : List (Option X)) → ((x : X) → at_place places i ≡ Some x → test (f x) ≡ test x) → first_place n test (change_at i f places) ≡ first_place n test places
first_place_same n i f test [] same = refl
first_place_same n zero f test (None ∷ places) same = refl
first_place_same n zero f test (Some x ∷ places) same = ap (λ b. elim b as (λ _. Option ℕ) [ true ↦ Some n | false ↦ first_place (suc n) test places ]) (same x refl)
first_place_same n (suc i) f test (None ∷ places) same = first_place_same (suc n) i f test places same
first_place_same n (suc i) f test (Some x ∷ places) same = ap (λ (o : Option ℕ). elim (test x) as (λ _. Option ℕ) [ true ↦ Some n | false ↦ o ]) (first_place_same (suc n) i f test places same)

-- what is left to a core of the pool at a home
abbrev turns_at : Machine → ℕ → List (Option Pool) → ℕ → Option ℕ → ℕ
turns_at m t pools r home = elim home as (λ _. ℕ) [ None ↦ 0 | Some i ↦ elim (at_place pools i) as (λ _. ℕ) [ None ↦ 0 | Some pool ↦ turns_in m t pool r ] ]

pub state_falls : (m : Machine) (s : State) (i r : ℕ) (pool next : Pool) → r < cores m → home_pool_of_core s r ≡ Some i → at_place s.pools i ≡ Some pool → Falls m s.now pool next r
    → (f : Pool → Pool) → f pool ≡ settled_pool s.now next → turns_left m (change_pool i f s) + 1 ≤ turns_left m s
state_falls m s i r pool next low home at fall f is =
    let t : ℕ = s.now in
    let goes = falls_settled m t pool next r fall in
    let total = falls (cores m) goes.b (many (cores m) goes.b + 1) r (core_turns m s) (core_turns m (change_pool i f s)) low
    (let a = before r i home refl in let b = after r i home refl in let own = goes.own in omega (arith, a, b, own))
    (λ k other. by_home k other (home_pool_of_core s k) refl) in
    omega (arith, total)
  where
    new : List (Option Pool)
    new = change_at i f s.pools

    homes : (k : ℕ) → home_pool_of_core (change_pool i f s) k ≡ home_pool_of_core s k
    homes k = first_place_same 0 i f (λ (p : Pool). is_some (at_place p.resources k)) s.pools (λ x at_i. (
        let e : pool ≡ x = cc in
        let goes = falls_settled m s.now pool next r fall in
        subst (λ (y : Pool). is_some (at_place (f y).resources k) ≡ is_some (at_place y.resources k)) e (ap (λ (y : Pool). is_some (at_place y.resources k)) is ∙ goes.places k)))

    at_new : at_place new i ≡ Some (settled_pool s.now next)
    at_new = at_place-change_at i f s.pools ∙ ap (option_map f) at ∙ ap (λ (y : Pool). Some y) is

    before : (k j : ℕ) → home_pool_of_core s k ≡ Some j → j ≡ i → core_turns m s k ≡ turns_in m s.now pool k
    before k j home_k same =
        ap (turns_at m s.now s.pools k) home_k ∙ ap (λ (x : ℕ). turns_at m s.now s.pools k (Some x)) same ∙ ap (λ (o : Option Pool). elim o as (λ _. ℕ) [ None ↦ 0 | Some p ↦ turns_in m s.now p k ]) at

    after : (k j : ℕ) → home_pool_of_core s k ≡ Some j → j ≡ i → core_turns m (change_pool i f s) k ≡ turns_in m s.now (settled_pool s.now next) k
    after k j home_k same =
        ap (turns_at m s.now new k) (homes k ∙ home_k) ∙ ap (λ (x : ℕ). turns_at m s.now new k (Some x)) same ∙ ap (λ (o : Option Pool). elim o as (λ _. ℕ) [ None ↦ 0 | Some p ↦ turns_in m s.now p k ]) at_new

    by_home : (k : ℕ) → k ≢ r → (home_k : Option ℕ) → home_pool_of_core s k ≡ home_k → core_turns m (change_pool i f s) k ≤ core_turns m s k + (falls_settled m s.now pool next r fall).b
    by_home k other None is_k = (let a : core_turns m (change_pool i f s) k ≡ 0 = ap (turns_at m s.now new k) (homes k ∙ is_k) in omega (arith, a))
    by_home k other (Some j) is_k = elim (ℕ_discrete j i) [
      | yes e ↦ (let a = before k j is_k e in let b = after k j is_k e in let o = (falls_settled m s.now pool next r fall).others k other in omega (arith, a, b, o))
      | no ne ↦ (
          let a = ap (turns_at m s.now s.pools k) is_k in
          let b = ap (turns_at m s.now new k) (homes k ∙ is_k) in
          let c = ap (λ (o : Option Pool). elim o as (λ _. ℕ) [ None ↦ 0 | Some p ↦ turns_in m s.now p k ]) (at_place-change_at_other i j f s.pools ne) in
          omega (arith, a, b, c))
    ]
