-- The queues of RTDS: the eligible units in order of level, deadline and arrival, and the spent ones in order of arrival.
use Rattle.std.specs.Prelude.{ℕ, ◌+◌, ◌-◌, ◌||◌, Bool, pos, if◌then◌else◌, List, [], ◌∷◌, ◌++◌, length, map}
use Rattle.sched_base.specs.declared.UnitId.{UnitId}
use Rattle.sched_base.specs.Numbers.{moment}
use Rattle.arrival_queue.specs.declared.key.Key.{Key}
use Rattle.arrival_queue.specs.Queues.{Queued, queued_unit, list_with, list_without, has_unit, rank_in, closed_up}
use Rattle.rtds_queue.specs.declared.RtdsKey.{RtdsKey}

-- the eligible units and the spent ones, each with its key and how many of all others arrived earlier, and how many more there is room for
pub record Lists : Type 0 where
  pub eligible : List Queued
  pub spent : List Queued
  pub spare : ℕ

-- the key by level, then by deadline
abbrev pub key_of : RtdsKey → Key
key_of key = record { first = pos key.level; second = key.deadline.0 }

-- whether the unit is in either list
abbrev pub holds : Lists → UnitId → Bool
holds q u = has_unit u q.eligible || has_unit u q.spent

-- how many units there are
abbrev pub count : Lists → ℕ
count q = length q.eligible + length q.spent

-- how many arrived before a unit of either list
abbrev pub rank_of : Lists → UnitId → ℕ
rank_of q u = (if has_unit u q.eligible then rank_in u q.eligible else rank_in u q.spent)

-- with a unit that arrives, among the spent ones or at its place
abbrev pub lists_after_arrival : Lists → UnitId → RtdsKey → Bool → Lists
lists_after_arrival q u key spent =
    (if spent
    then record { eligible = q.eligible; spent = q.spent ++ queued_unit u (key_of key) (count q) ∷ []; spare = q.spare - 1 }
    else record { eligible = list_with (queued_unit u (key_of key) (count q)) q.eligible; spent = q.spent; spare = q.spare - 1 })

-- without a unit
abbrev pub after_remove : Lists → UnitId → Lists
after_remove q u =
    record {
      eligible = map (closed_up (rank_of q u)) (list_without u q.eligible);
      spent = map (closed_up (rank_of q u)) (list_without u q.spent);
      spare = q.spare + 1;
    }

-- with a unit of either list at its place among the eligible; its arrival stays
abbrev pub after_renew : Lists → UnitId → RtdsKey → Lists
after_renew q u key =
    record {
      eligible = list_with (queued_unit u (key_of key) (rank_of q u)) (list_without u q.eligible);
      spent = list_without u q.spent;
      spare = q.spare;
    }

-- no unit, and room for so many
abbrev pub empty_lists : ℕ → Lists
empty_lists units = record { eligible = []; spent = []; spare = units }

-- the key of that level and deadline
abbrev pub rtds_key : ℕ → ℕ → RtdsKey
rtds_key level deadline = record { level = level; deadline = moment deadline }
