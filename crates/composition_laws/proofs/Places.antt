-- Which places have something, and what is seen of it, after a change.
use Rattle.std.proofs.Common.{◌≡◌, ◌+◌, ℕ, zero, suc, List, [], ◌∷◌, refl, ap, sym, ◌∙◌}
use Rattle.std.specs.Prelude.{Option, Some, None, is_some, option_map}
use Rattle.sched_model.specs.Places.{at_place, put_at, change_at, change_each}
use Rattle.sched_model.proofs.PlaceLemmas.{is_some-option_map}
pub use Rattle.sched_model.proofs.PlaceLemmas.{at_place-change_at_other}
use Rattle.sched_laws.proofs.EachPlace.{at_place-change_each}
pub use Rattle.sched_laws.proofs.EachPlace.{at_place-change_at}

pub some_change_at : {X : Type 0} (i j : ℕ) (f : X → X) (places : List (Option X)) → is_some (at_place (change_at i f places) j) ≡ is_some (at_place places j)
some_change_at zero j f [] = refl
some_change_at (suc i) j f [] = refl
some_change_at zero zero f (None ∷ places) = refl
some_change_at zero zero f (Some x ∷ places) = refl
some_change_at zero (suc j) f (p ∷ places) = refl
some_change_at (suc i) zero f (p ∷ places) = refl
some_change_at (suc i) (suc j) f (p ∷ places) = some_change_at i j f places

pub seen_change_at : {X Y : Type 0} (i j : ℕ) (f : X → X) (look : X → Y) → ((x : X) → look (f x) ≡ look x) → (places : List (Option X)) → option_map look (at_place (change_at i f places) j) ≡ option_map look (at_place places j)
seen_change_at zero j f look same [] = refl
seen_change_at (suc i) j f look same [] = refl
seen_change_at zero zero f look same (None ∷ places) = refl
seen_change_at zero zero f look same (Some x ∷ places) = ap (λ y. Some y) (same x)
seen_change_at zero (suc j) f look same (p ∷ places) = refl
seen_change_at (suc i) zero f look same (p ∷ places) = refl
seen_change_at (suc i) (suc j) f look same (p ∷ places) = seen_change_at i j f look same places

pub some_change_each : {X : Type 0} (j : ℕ) (f : ℕ → X → X) (places : List (Option X)) → is_some (at_place (change_each 0 f places) j) ≡ is_some (at_place places j)
some_change_each j f places = ap is_some (at_place-change_each 0 j f places) ∙ is_some-option_map (f (0 + j)) (at_place places j)

-- where something stands at i already
pub some_put_at : {X : Type 0} (i j : ℕ) (x y : X) (places : List (Option X)) → at_place places i ≡ Some y → is_some (at_place (put_at i x places) j) ≡ is_some (at_place places j)
some_put_at zero j x y [] at = refl
some_put_at (suc i) j x y [] at = refl
some_put_at zero zero x y (p ∷ places) at = sym (ap is_some at)
some_put_at zero (suc j) x y (p ∷ places) at = refl
some_put_at (suc i) zero x y (p ∷ places) at = refl
some_put_at (suc i) (suc j) x y (p ∷ places) at = some_put_at i j x y places at
