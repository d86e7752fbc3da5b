-- The order of arrival of the units of a sorted queue, and the scan that such a queue spares.
use Rattle.std.specs.Prelude.{ℕ, ◌≡◌, ◌≢◌, ◌<◌, false, if◌then◌else◌, List, [], ◌∷◌, Option, Some, None, map, nat_lt}
use Rattle.std.specs.List.{AllByRecursion}
use Rattle.sched_base.specs.declared.UnitId.{UnitId}
use Rattle.arrival_queue.specs.declared.key.Key.{Key}
use Rattle.arrival_queue.specs.Queues.{Queued, is_lesser_key, is_of, put_first}

-- the queued units, that of the least rank first
abbrev pub arrival_order : List Queued → List Queued
arrival_order [] = []
arrival_order (e ∷ es) = put_first (λ x. nat_lt e.rank x.rank) e (arrival_order es)

-- the units in order of arrival
abbrev pub arrivals : List Queued → List UnitId
arrivals es = map (λ e. e.unit) (arrival_order es)

-- no item of the list has that rank
abbrev pub LacksRank : ℕ → List Queued → Type 0
LacksRank r es = AllByRecursion (λ e. e.rank ≢ r) es

-- no two items have the same rank
abbrev pub HasRanks : List Queued → Type 0
HasRanks [] = Unit {0}
HasRanks (e ∷ es) = LacksRank e.rank es × HasRanks es

-- each rank is below a number
abbrev pub RanksBelow : ℕ → List Queued → Type 0
RanksBelow n es = AllByRecursion (λ e. e.rank < n) es

-- no item of the list is that unit's
abbrev pub LacksUnit : UnitId → List Queued → Type 0
LacksUnit u es = AllByRecursion (λ e. is_of u e ≡ false) es

-- no two items are of the same unit
abbrev pub HasUnits : List Queued → Type 0
HasUnits [] = Unit {0}
HasUnits (e ∷ es) = LacksUnit e.unit es × HasUnits es

-- each unit's index is below 256
abbrev pub HasIndices : List Queued → Type 0
HasIndices es = AllByRecursion (λ e. e.unit.n < 256) es

-- each item has the key of its unit
abbrev pub HasKeys : (UnitId → Key) → List Queued → Type 0
HasKeys key es = AllByRecursion (λ e. e.key ≡ key e.unit) es

-- the unit of the least key: the best so far, or one of those that follow; among equals the earlier
abbrev pub least_by : (UnitId → Key) → Option UnitId → List UnitId → Option UnitId
least_by key best [] = best
least_by key None (u ∷ units) = least_by key (Some u) units
least_by key (Some best) (u ∷ units) = least_by key (Some (if is_lesser_key (key u) (key best) then u else best)) units

-- the core's own unit, where no unit that waits has a lesser key; or else the one that waits
abbrev pub own_or : (UnitId → Key) → UnitId → Option UnitId → UnitId
own_or key own None = own
own_or key own (Some u) = (if is_lesser_key (key u) (key own) then u else own)
