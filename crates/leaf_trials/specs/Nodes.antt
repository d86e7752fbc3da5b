-- The lists of a ring of four nodes after each part of its trial. Its units are the first ones of domains 1, 2 and 3.
use Rattle.std.specs.Prelude.{[], ◌∷◌}
use Rattle.sched_base.specs.Units.{unit_id}
use Rattle.unit_ring.specs.Lists.{Lists, item}

-- three nodes on list 0
abbrev pub three_items : Lists
three_items =
    record { first = item 4 (unit_id 1 0) ∷ item 6 (unit_id 3 0) ∷ item 5 (unit_id 2 0) ∷ []; second = []; spare = 1 }

-- the first of them on list 1
abbrev pub one_moved : Lists
one_moved =
    record { first = item 6 (unit_id 3 0) ∷ item 5 (unit_id 2 0) ∷ []; second = item 4 (unit_id 1 0) ∷ []; spare = 1 }

-- and the next one gone
abbrev pub one_gone : Lists
one_gone = record { first = item 5 (unit_id 2 0) ∷ []; second = item 4 (unit_id 1 0) ∷ []; spare = 2 }
