-- What holds of every queue: its lists are in order, no unit is there twice, and the ranks are the numbers below the count of the units.
use Rattle.std.specs.Prelude.{ℕ, ◌≡◌, ◌<◌, ◌≤◌, ◌==◌, Bool, true, if◌then◌else◌, List, [], ◌∷◌, ◌++◌, length, count_by, nat_lt}
use Rattle.sched_base.specs.declared.UnitId.{UnitId}
use Rattle.arrival_queue.specs.Queues.{Queued, Queues, goes_before, is_of}

-- one goes before each of the list: by key, then by arrival
abbrev pub GoesBeforeAll : Queued → List Queued → Type 0
GoesBeforeAll a [] = Unit {0}
GoesBeforeAll a (b ∷ es) = (goes_before a b ≡ true) × GoesBeforeAll a es

-- the units are in order of key, then of arrival
abbrev pub IsInOrder : List Queued → Type 0
IsInOrder [] = Unit {0}
IsInOrder (e ∷ es) = GoesBeforeAll e es × IsInOrder es

-- one arrived before each of the list
abbrev pub ArrivedBeforeAll : Queued → List Queued → Type 0
ArrivedBeforeAll a [] = Unit {0}
ArrivedBeforeAll a (b ∷ es) = (a.rank < b.rank) × ArrivedBeforeAll a es

-- the units are in order of arrival
abbrev pub IsInArrival : List Queued → Type 0
IsInArrival [] = Unit {0}
IsInArrival (e ∷ es) = ArrivedBeforeAll e es × IsInArrival es

-- whether the unit has that rank
abbrev pub has_rank : ℕ → Queued → Bool
has_rank r e = e.rank == r

-- each number below the count of the units is the rank of one of them, and no other number is a rank
abbrev pub EachRankOnce : List Queued → Type 0
EachRankOnce es = (r : ℕ) → count_by (has_rank r) es ≡ (if nat_lt r (length es) then 1 else 0)

-- no unit is there twice
abbrev pub EachUnitOnce : List Queued → Type 0
EachUnitOnce es = (u : UnitId) → count_by (is_of u) es ≤ 1

-- all of that of a queue, whose ranks are of both lists together
pub record IsOrdered (q : Queues) : Type 0 where
  pub sorted : IsInOrder q.sorted
  pub others : IsInArrival q.others
  pub ranks : EachRankOnce (q.sorted ++ q.others)
  pub units : EachUnitOnce (q.sorted ++ q.others)
