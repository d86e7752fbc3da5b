-- No unit that passes goes before the best, and the best is one of those that pass.
use Rattle.std.proofs.Common.{◌≡◌, Bool, true, false, List, [], ◌∷◌, refl, sym, subst, ◌∙◌}
use Rattle.std.specs.Prelude.{Option, Some, None, ◌&&◌, ◌||◌, if◌then◌else◌, ⊤}
use Rattle.std.specs.List.{AllByRecursion, list_any}
use Rattle.std.proofs.lemmas.Bool.{false_from_ne_true}
use Rattle.sched_base.specs.declared.UnitId.{UnitId}
use Rattle.sched_base.proofs.Bools.{and_left, and_right, clash}
use Rattle.plain_pool.specs.Looks.{better, best_from}
use Rattle.plain_pool.proofs.Lists.{more_right}
use Rattle.std.proofs.Math.Bool.{or-false}

-- whether the best is there and passes a test
abbrev pub best_is : (UnitId → Bool) → Option UnitId → Bool
best_is f best = elim best [ None ↦ false | Some b ↦ f b ]

module _ (passes : UnitId → Bool) (before : UnitId → UnitId → Bool) where
  -- there is a best, and the unit does not go before it
  abbrev pub IsBehind : UnitId → Option UnitId → Type 0
  IsBehind u None = ⊥
  IsBehind u (Some b) = before u b ≡ false

  -- the best, if there is one, passes
  abbrev pub Passes : Option UnitId → Type 0
  Passes None = ⊤
  Passes (Some b) = passes b ≡ true

  better_passes : (best : Option UnitId) (u : UnitId) → Passes best → Passes (better passes before best u)
  better_passes best u old =
      elim (passes u && elim best as (λ _. Bool) [ None ↦ true | Some b ↦ before u b ]) as (λ t. (passes u && elim best as (λ _. Bool) [ None ↦ true | Some b ↦ before u b ]) ≡ t → Passes (if t then Some u else best)) [
        | true ↦ λ is. and_left _ _ is
        | false ↦ λ is. old
      ] refl

  pub best_passes : (best : Option UnitId) (units : List UnitId) → Passes best → Passes (best_from passes before best units)
  best_passes best [] old = old
  best_passes best (u ∷ units) old = best_passes (better passes before best u) units (better_passes best u old)

  -- the best passes each test that neither the best so far nor one of the units fails
  pub best_found : (f : UnitId → Bool) (best : Option UnitId) (units : List UnitId) → best_is f (best_from passes before best units) ≡ true → (best_is f best || list_any f units) ≡ true
  best_found f best [] is = or-false (best_is f best) ∙ is
  best_found f best (u ∷ units) is =
      elim (passes u && elim best as (λ _. Bool) [ None ↦ true | Some b ↦ before u b ]) as (λ t. (best_is f (if t then Some u else best) || list_any f units) ≡ true → (best_is f best || (f u || list_any f units)) ≡ true) [
        | true ↦ λ later. more_right (best_is f best) (f u || list_any f units) later
        | false ↦ λ later. skipped (best_is f best) (f u) (list_any f units) later
      ] (best_found f (better passes before best u) units is)
    where
      skipped : (a b c : Bool) → (a || c) ≡ true → (a || (b || c)) ≡ true
      skipped true b c is = refl
      skipped false b c is = more_right b c is

  module _ (irreflexive : (u : UnitId) → before u u ≡ false) (chain : (u v w : UnitId) → before u v ≡ true → before v w ≡ true → before u w ≡ true) where
    behind_stays : (u v : UnitId) (best : Option UnitId) → IsBehind u best → IsBehind u (better passes before best v)
    behind_stays u v None behind = absurd behind
    behind_stays u v (Some b) behind =
        elim (passes v && before v b) as (λ t. (passes v && before v b) ≡ t → IsBehind u (if t then Some v else Some b)) [
          | true ↦ λ is. false_from_ne_true (before u v) (λ e. clash (before u b) (chain u v b e (and_right _ _ is)) behind)
          | false ↦ λ is. behind
        ] refl

    behind_from : (u : UnitId) (best : Option UnitId) (units : List UnitId) → IsBehind u best → IsBehind u (best_from passes before best units)
    behind_from u best [] behind = behind
    behind_from u best (v ∷ units) behind = behind_from u (better passes before best v) units (behind_stays u v best behind)

    behind_now : (u : UnitId) (best : Option UnitId) → passes u ≡ true → IsBehind u (better passes before best u)
    behind_now u None is = subst (λ t. IsBehind u (if t && true then Some u else None)) (sym is) (irreflexive u)
    behind_now u (Some b) is =
        elim (before u b) as (λ t. before u b ≡ t → IsBehind u (if passes u && t then Some u else Some b)) [
          | true ↦ λ e. subst (λ t. IsBehind u (if t && true then Some u else Some b)) (sym is) (irreflexive u)
          | false ↦ λ e. subst (λ t. IsBehind u (if t && false then Some u else Some b)) (sym is) e
        ] refl

    -- none of the units that pass goes before the best
    pub all_behind : (best : Option UnitId) (units : List UnitId) → AllByRecursion (λ u. passes u ≡ true → IsBehind u (best_from passes before best units)) units
    all_behind best [] = tt
    all_behind best (u ∷ units) = (λ is. behind_from u (better passes before best u) units (behind_now u best is), all_behind (better passes before best u) units)
