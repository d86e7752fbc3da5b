-- A step that only adds to the published entries keeps the rule.
use Rattle.std.proofs.Common.{◌≡◌, ◌≢◌, ℕ, List, [], ◌∷◌, ◌++◌, fold, set, refl, sym, subst, ap, ◌∙◌, ⊎_elim, append_assoc, append-nil, true≢false}
use Rattle.std.specs.Prelude.{Result, Ok, Err, IsOk, MatchResult}
use mathlib.Core.List.{IsPrefix}
use mathlib.Core.Option.{some}
use lib.ListN.{get_elem?}
use Rattle.crossbeam_utils.specs.Register.{Admits, TurnsAt, Forks, Merges}
use Rattle.atomic_table.proofs.Lists.{at_set, at_snoc}
use Rattle.sched_model.specs.declared.event.Entry.{Entry}
use Rattle.status_board.specs.Boards.{BeginAll, Sees}

pub begins_itself : (xs : List Entry) → IsPrefix xs xs
begins_itself xs = ([], append-nil xs)

pub begins_more : (xs ys zs : List Entry) → IsPrefix xs ys → IsPrefix ys zs → IsPrefix xs zs
begins_more xs ys zs p q = (p.0 ++ q.0, sym (append_assoc xs p.0 q.0) ∙ ap (λ (l : List Entry). l ++ q.0) p.1 ∙ q.1)

pub admits : Admits BeginAll []
admits x views h seat v at = ⊎_elim (h seat v) (λ (e : [] ≡ v). subst (λ (z : List Entry). IsPrefix z x) e (x, refl)) (at_snoc views [] v seat at)

pub turns : (seat : ℕ) (v x y : List Entry) → IsPrefix x y → TurnsAt BeginAll seat v x y Sees
turns seat v x y up views h at = (
  y,
  (λ j u e. ⊎_elim (λ (t : (j ≡ seat) × (y ≡ u)). subst (λ (z : List Entry). IsPrefix z y) t.1 (begins_itself y)) (λ (t : (j ≢ seat) × (get_elem? views j ≡ some u)). begins_more u x y (h j u t.1) up)
      (at_set views seat j y u e)),
  (begins_more v x y (h seat v at) up, refl),
)

set_begins : (x : List Entry) (views : List (List Entry)) (seat : ℕ) (v : List Entry) → BeginAll x views → IsPrefix v x → BeginAll x (set views seat v)
set_begins x views seat v h p j u e = ⊎_elim (λ (t : (j ≡ seat) × (v ≡ u)). subst (λ (z : List Entry). IsPrefix z x) t.1 p) (λ (t : (j ≢ seat) × (get_elem? views j ≡ some u)). h j u t.1) (at_set views seat j v u e)

pub forks : (seat : ℕ) (v : List Entry) → Forks BeginAll seat v v v
forks seat v x views h at j u e = ⊎_elim (set_begins x views seat v h (h seat v at) j u) (λ (same : v ≡ u). subst (λ (z : List Entry). IsPrefix z x) same (h seat v at)) (at_snoc (set views seat v) v u j e)

pub merges : (seat : ℕ) (v : List Entry) (other : ℕ) (w : List Entry) → Merges BeginAll seat v other w w []
merges seat v other w x views h at apart there =
    let told : IsPrefix w x = ⊎_elim (λ (t : (other ≡ seat) × (w ≡ w)). absurd (apart t.0)) (λ (t : (other ≢ seat) × (get_elem? views other ≡ some w)). h other w t.1) (at_set views seat other w w there) in
    set_begins x (set views seat w) other [] (set_begins x views seat w h told) (x, refl)

-- entries that are taken in one by one are appended
pub taken_in : (xs ys : List Entry) → fold (λ (entries : List Entry) (e : Entry). entries ++ e ∷ []) xs ys ≡ xs ++ ys
taken_in xs [] = sym (append-nil xs)
taken_in xs (y ∷ ys) = taken_in (xs ++ y ∷ []) ys ∙ append_assoc xs (y ∷ []) ys

-- what holds of an answer that is given
pub given : {X E : Type 0} (A B : Type 0) (r : Result X E) → IsOk r → MatchResult r (λ _. A) (λ _. B) → A
given A B (Ok x) ok m = m
given A B (Err e) ok m = absurd (true≢false (sym ok))
