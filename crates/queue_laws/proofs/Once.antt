-- What a queue tells of itself, in the form that the laws ask for, and keys after its changes.
use Rattle.std.proofs.Common.{◌≡◌, ℕ, ◌≤◌, List, [], ◌∷◌, length, map, refl, ◌∙◌, ap, inl, inr, arith}
use Rattle.std.specs.Prelude.{count_by, nat_lt}
use Rattle.std.specs.List.{AllByRecursion}
use Rattle.std.proofs.lemmas.Bool.{cases_Bool, eq-eqb, le-ltb}
use Rattle.sched_base.specs.declared.UnitId.{UnitId}
use Rattle.unit_places.specs.Places.{number_of}
use Rattle.arrival_queue.specs.declared.key.Key.{Key}
use Rattle.arrival_queue.specs.Queues.{Queued, queued_unit, goes_before, is_of, list_with, list_without, closed_up}
use Rattle.arrival_queue.specs.Order.{has_rank, EachRankOnce, EachUnitOnce}
use Rattle.arrival_queue.proofs.Counting.{count-cons}
use Rattle.sched_base.proofs.Bools.{one_if_most}
use Rattle.sched_base.specs.Numbers.{one_if}
use Rattle.arrival_queue.proofs.Ordered.{ranks-below, lacks-rank}
use Rattle.queue_laws.specs.Arrivals.{HasRanks, RanksBelow, LacksUnit, HasUnits, HasKeys}
use Rattle.queue_laws.proofs.Arrivals.{each_put}
use Rattle.queue_laws.proofs.Removed.{each_without}

ranks_most : (es : List Queued) → ((r : ℕ) → count_by (has_rank r) es ≤ 1) → HasRanks es
ranks_most [] most = tt
ranks_most (e ∷ es) most =
    let one : one_if (has_rank e.rank e) ≡ 1 = ap one_if (eq-eqb e.rank e.rank refl) in
    (lacks-rank e.rank es (omega (arith, one, most e.rank, count-cons (has_rank e.rank) e es)), ranks_most es (λ r. omega (arith, most r, count-cons (has_rank r) e es)))

-- no two units have one rank
pub once_ranks : (es : List Queued) → EachRankOnce es → HasRanks es
once_ranks es once = ranks_most es (λ r. omega (arith, once r, one_if_most (nat_lt r (length es))))

-- each rank is below the count of the units
pub once_below : (es : List Queued) → EachRankOnce es → RanksBelow (length es) es
once_below es once = ranks-below (length es) es (λ r more. once r ∙ ap one_if (le-ltb r (length es) more))

lacks_unit : (u : UnitId) (es : List Queued) → count_by (is_of u) es ≡ 0 → LacksUnit u es
lacks_unit u [] none = tt
lacks_unit u (e ∷ es) none = (
  elim (cases_Bool (is_of u e)) [
    | inl is ↦ let one : one_if (is_of u e) ≡ 1 = ap one_if is in absurd (omega (arith, one, none, count-cons (is_of u) e es))
    | inr other ↦ other
  ],
  lacks_unit u es (omega (arith, none, count-cons (is_of u) e es)),
)

-- no two items are of one unit
pub once_units : (es : List Queued) → EachUnitOnce es → HasUnits es
once_units [] once = tt
once_units (e ∷ es) once =
    let one : one_if (is_of e.unit e) ≡ 1 = ap one_if (eq-eqb (number_of e.unit) (number_of e.unit) refl) in
    (lacks_unit e.unit es (omega (arith, one, once e.unit, count-cons (is_of e.unit) e es)), once_units es (λ u. omega (arith, once u, count-cons (is_of u) e es)))

-- a fact of each item that is no matter of ranks stays where one is put, where one goes, and where ranks close up
pub each_placed : (P : Queued → Type 0) (e : Queued) (es : List Queued) → P e → AllByRecursion P es → AllByRecursion P (list_with e es)
each_placed P e es mine each = each_put P (goes_before e) e es mine each

pub each_closed : (P : Queued → Type 0) (r : ℕ) (es : List Queued) → ((e : Queued) → P e → P (closed_up r e)) → AllByRecursion P es → AllByRecursion P (map (closed_up r) es)
each_closed P r [] keeps each = tt
each_closed P r (e ∷ es) keeps each = (keeps e each.0, each_closed P r es keeps each.1)

pub keys_placed : (key : UnitId → Key) (u : UnitId) (r : ℕ) (es : List Queued) → HasKeys key es → HasKeys key (list_with (queued_unit u (key u) r) es)
keys_placed key u r es keys = each_placed (λ (e : Queued). e.key ≡ key e.unit) (queued_unit u (key u) r) es refl keys

pub keys_removed : (key : UnitId → Key) (u : UnitId) (r : ℕ) (es : List Queued) → HasKeys key es → HasKeys key (map (closed_up r) (list_without u es))
keys_removed key u r es keys =
    each_closed (λ (e : Queued). e.key ≡ key e.unit) r (list_without u es) (λ e is. is) (each_without (λ (e : Queued). e.key ≡ key e.unit) u es keys)
