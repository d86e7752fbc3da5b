-- The cores that came in so far, and the places that are still empty.
use Rattle.std.proofs.Common.{◌≡◌, ◌+◌, ◌-◌, ◌<◌, ℕ, zero, suc, Bool, true, false, List, [], ◌∷◌, ◌++◌, refl, sym, ap, subst, ◌∙◌, cond, arith, length}
use Rattle.std.specs.Prelude.{Option, Some, None, map, replicate, slice_set}
use Rattle.std.proofs.lemmas.List.{length-append, length-replicate, set-get_or, append_assoc}
use Rattle.sched_base.specs.Numbers.{moment}
use Rattle.sched_model.specs.declared.state.Resource.{Resource}
use Rattle.sched_model.specs.Opening.{joined_core}
use Rattle.sched_model.specs.Places.{at_place, numbers_from}
use Rattle.sched_model.specs.Pool.{settled_pool}
use Rattle.sched_model.specs.State.{has_core_bit}
use Rattle.sched_laws.proofs.EachPlace.{EachPlace-empty, EachPlace-put_at}
use Rattle.sched_laws.proofs.Opened.{length_map_numbers}
use Rattle.sched_laws.specs.EachPlace.{EachPlace}
use Rattle.pool_records.specs.OpeningCores.{opening_core}
use Rattle.pool_records.proofs.Growing.{numbers_one_more}
use Rattle.pool_core.specs.Seen.{Seen, seen_at, with_core}
use Rattle.machine_opening.specs.OpeningPool.{IsPending, IsStill, with_cores}
use Rattle.machine_opening.proofs.Steady.{stays}

-- a core that is in the set came in
pub core_came : (cores g r : ℕ) (seen : Seen) → IsStill seen → has_core_bit cores r ≡ true
    → seen_at 0 (settled_pool 0 (with_core r (replicate g (moment 0)) seen.pool)) seen ≡ with_cores (slice_set seen.pool.resources r (opening_core g cores r)) seen
core_came cores g r seen still is =
    stays (with_core r (replicate g (moment 0)) seen.pool) seen still.early (EachPlace-put_at IsPending r (joined_core (replicate g (moment 0))) seen.pool.resources still.pending refl)
    ∙ ap (λ (b : Bool). with_cores (slice_set seen.pool.resources r (cond b (Some (joined_core (replicate g (moment 0)))) None)) seen) (sym is)

-- another does not
pub no_core_came : (cores g r : ℕ) (seen : Seen) → at_place seen.pool.resources r ≡ None → has_core_bit cores r ≡ false → seen ≡ with_cores (slice_set seen.pool.resources r (opening_core g cores r)) seen
no_core_came cores g r seen absent is =
    ap (λ (list : List (Option Resource)). with_cores list seen) (sym (set-get_or seen.pool.resources r None))
    ∙ ap (λ (o : Option Resource). with_cores (slice_set seen.pool.resources r o) seen) absent
    ∙ ap (λ (b : Bool). with_cores (slice_set seen.pool.resources r (cond b (Some (joined_core (replicate g (moment 0)))) None)) seen) (sym is)

-- the places below r made by f, and so many empty ones
abbrev pub places_to : {X : Type 0} → (ℕ → Option X) → ℕ → ℕ → List (Option X)
places_to f r rest = map f (numbers_from 0 r) ++ replicate rest None

set_between : {X : Type 0} (xs : List X) (y z : X) (ys : List X) → slice_set (xs ++ y ∷ ys) (length xs) z ≡ xs ++ z ∷ ys
set_between [] y z ys = refl
set_between (x ∷ xs) y z ys = ap (λ (rest : List _). x ∷ rest) (set_between xs y z ys)

none_between : {X : Type 0} (xs ys : List (Option X)) → at_place (xs ++ None ∷ ys) (length xs) ≡ None
none_between [] ys = refl
none_between (x ∷ xs) ys = none_between xs ys

module _ {X : Type 0} (f : ℕ → Option X) where
  -- the next place is empty
  pub next_empty : (r rest : ℕ) → at_place (places_to f r (suc rest)) r ≡ None
  next_empty r rest =
      let none : Option X = None in
      subst (λ (k : ℕ). at_place (places_to f r (suc rest)) k ≡ None) (length_map_numbers f 0 r) (none_between (map f (numbers_from 0 r)) (replicate rest none))

  -- one place more
  pub next_made : (r rest : ℕ) → slice_set (places_to f r (suc rest)) r (f r) ≡ places_to f (r + 1) rest
  next_made r rest =
      let none : Option X = None in
      subst (λ (k : ℕ). slice_set (places_to f r (suc rest)) k (f r) ≡ map f (numbers_from 0 r) ++ f r ∷ replicate rest none) (length_map_numbers f 0 r)
      (set_between (map f (numbers_from 0 r)) none (f r) (replicate rest none))
      ∙ sym (append_assoc (map f (numbers_from 0 r)) (f r ∷ []) (replicate rest none))
      ∙ ap (λ (xs : List (Option X)). xs ++ replicate rest none) (numbers_one_more f r)

  -- as many places as ever
  pub places_stay : (r rest : ℕ) → length (places_to f r rest) ≡ r + rest
  places_stay r rest =
      let none : Option X = None in
      let all : length (places_to f r rest) ≡ length (map f (numbers_from 0 r)) + length (replicate rest none) = length-append (map f (numbers_from 0 r)) (replicate rest none) in
      let made : length (map f (numbers_from 0 r)) ≡ r = length_map_numbers f 0 r in
      let empty : length (replicate rest none) ≡ rest = length-replicate rest none in
      omega (arith, all, made, empty)

core_pending : (g cores r : ℕ) (c : Resource) → opening_core g cores r ≡ Some c → c.pending ≡ true
core_pending g cores r c is = by_set (has_core_bit cores r) is
  where
    by_set : (b : Bool) → cond b (Some (joined_core (replicate g (moment 0)))) None ≡ Some c → c.pending ≡ true
    by_set true e = let same : joined_core (replicate g (moment 0)) ≡ c = cc in sym (ap (λ (x : Resource). x.pending) same)
    by_set false e = absurd (cc)

-- those that came are to decide
pub all_pending : (g cores k n rest : ℕ) → EachPlace IsPending (map (opening_core g cores) (numbers_from k n) ++ replicate rest None)
all_pending g cores k zero rest i c at = EachPlace-empty IsPending rest i c at
all_pending g cores k (suc n) rest zero c at = core_pending g cores k c at
all_pending g cores k (suc n) rest (suc i) c at = all_pending g cores (suc k) n rest i c at

module _ (g cores r count : ℕ) (before now : Seen) (is : now ≡ with_cores (places_to (opening_core g cores) r (count - r)) before) where
  -- another core may come
  pub still_so_far : before.in_use ≡ true → before.latest ≡ 0 → IsStill now
  still_so_far used early = subst IsStill (sym is) (record { used = used; early = early; pending = all_pending g cores 0 r (count - r) })

  pub place_left : r < count → r < length now.pool.resources
  place_left inside =
      let all : length (places_to (opening_core g cores) r (count - r)) ≡ r + (count - r) = places_stay (opening_core g cores) r (count - r) in
      subst (λ (s : Seen). r < length s.pool.resources) (sym is) (omega (arith, all, inside))

  pub place_empty : r < count → at_place now.pool.resources r ≡ None
  place_empty inside =
      let left : count - r ≡ suc (count - (r + 1)) = omega (arith, inside) in
      subst (λ (s : Seen). at_place s.pool.resources r ≡ None) (sym is)
      (subst (λ (k : ℕ). at_place (places_to (opening_core g cores) r k) r ≡ None) (sym left) (next_empty (opening_core g cores) r (count - (r + 1))))

  -- it came
  pub came_next : r < count → with_cores (slice_set now.pool.resources r (opening_core g cores r)) now ≡ with_cores (places_to (opening_core g cores) (r + 1) (count - (r + 1))) before
  came_next inside =
      let left : count - r ≡ suc (count - (r + 1)) = omega (arith, inside) in
      ap (λ (s : Seen). with_cores (slice_set s.pool.resources r (opening_core g cores r)) s) is
      ∙ ap (λ (k : ℕ). with_cores (slice_set (places_to (opening_core g cores) r k) r (opening_core g cores r)) before) left
      ∙ ap (λ (list : List (Option Resource)). with_cores list before) (next_made (opening_core g cores) r (count - (r + 1)))
