-- A name of the input has a part as its home, and what is no name of the input stays none.
use Rattle.std.proofs.Common.{◌≡◌, ◌≢◌, ℕ, zero, suc, ◌+◌, ◌≤◌, Bool, true, false, true≢false, cond, List, [], ◌∷◌, refl, sym, ◌∙◌, arith}
use Rattle.std.specs.Prelude.{Option, Some, None, take}
use Rattle.sched_model.specs.declared.config.Config.{Config}
use Rattle.sched_model.specs.declared.event.Entry.{Entry}
use Rattle.sched_model.specs.declared.machine.Machine.{Machine}
use Rattle.sched_model.specs.declared.state.State.{State}
use Rattle.sched_model.specs.Places.{first_place}
use Rattle.journal_core.specs.Parts.{home_in, is_name, pool_lists}
use Rattle.journal_core.specs.Histories.{home_at, state_at}

-- the place that is found, or 16, is at most 16
abbrev or_last : Option ℕ → ℕ
or_last o = elim o as (λ _. ℕ) [ Some i ↦ i | None ↦ 16 ]

place_below : {X : Type 0} (n k : ℕ) (test : X → Bool) (places : List (Option X)) → n + k ≡ 16 → or_last (first_place n test (take k places)) ≤ 16
place_below n zero test places sum = omega arith
place_below n (suc k) test [] sum = omega arith
place_below n (suc k) test (None ∷ places) sum = place_below (suc n) k test places (omega (arith, sum))
place_below n (suc k) test (Some x ∷ places) sum =
    elim (test x) as (λ b. or_last (elim b as (λ _. Option ℕ) [ true ↦ Some n | false ↦ first_place (suc n) test (take k places) ]) ≤ 16) [
      | true ↦ omega (arith, sum)
      | false ↦ place_below (suc n) k test places (omega (arith, sum))
    ]

-- by whether the input has the name
home_cases : (P : ℕ → Type 0) (config : Config) (s : State) (n : ℕ) → (is_name config n ≡ true → (k : ℕ) → k ≤ 16 → P k) → (is_name config n ≡ false → P 255) → P (home_in config s n)
home_cases P config s n named unnamed =
    elim (is_name config n) as (λ b. is_name config n ≡ b → P (cond b (or_last (first_place 0 (pool_lists n) (take 16 s.pools))) 255)) [
      | true ↦ λ is. named is (or_last (first_place 0 (pool_lists n) (take 16 s.pools))) (place_below 0 16 (pool_lists n) s.pools refl)
      | false ↦ λ is. unnamed is
    ] refl

-- no name's home is the book's lock
pub home-apart : (m : Machine) (h : List Entry) (n : ℕ) → home_at m h n ≢ 17
unfolding home_at
home-apart m h n = home_cases (λ (k : ℕ). k ≢ 17) m.config (state_at m h) n (λ is k low e. absurd (omega (arith, low, e))) (λ is e. absurd (omega (arith, e)))

-- what has no part as its home is nowhere
pub home-none : (m : Machine) (h : List Entry) (n : ℕ) → 17 ≤ home_at m h n → home_at m h n ≡ 255
unfolding home_at
home-none m h n = home_cases (λ (k : ℕ). 17 ≤ k → k ≡ 255) m.config (state_at m h) n (λ is k low high. absurd (omega (arith, low, high))) (λ is high. refl)

-- and is so after every history
pub home-stays : (m : Machine) (h other : List Entry) (n : ℕ) → 17 ≤ home_at m h n → home_at m other n ≡ home_at m h n
unfolding home_at
home-stays m h other n =
    home_cases (λ (k : ℕ). 17 ≤ k → home_in m.config (state_at m other) n ≡ k) m.config (state_at m h) n
    (λ is k low high. absurd (omega (arith, low, high)))
    (λ unnamed high. home_cases (λ (k : ℕ). k ≡ 255) m.config (state_at m other) n (λ is k low. absurd (true≢false (sym is ∙ unnamed))) (λ is. refl))
