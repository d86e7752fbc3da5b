-- A run queue: units in order of their keys, then of arrival.
use Rattle.std.specs.Prelude.{ℕ, ◌+◌, ◌-◌, ℤ, List, [], length, map}
use Rattle.sched_base.specs.declared.UnitId.{UnitId}
use Rattle.arrival_queue.specs.declared.key.Key.{Key}
use Rattle.arrival_queue.specs.Queues.{Queued, queued_unit, list_with, list_without, rank_in, closed_up}

-- the units in their order, each with its key and how many of the others arrived earlier, and how many more there is room for
pub record Queue : Type 0 where
  pub units : List Queued
  pub spare : ℕ

-- a key of one number
abbrev pub single_key : ℤ → Key
single_key key = record { first = key; second = 0 }

-- with a unit that arrives
abbrev pub after_insert : Queue → UnitId → ℤ → Queue
after_insert q u key = record { units = list_with (queued_unit u (single_key key) (length q.units)) q.units; spare = q.spare - 1 }

-- without a unit
abbrev pub after_remove : Queue → UnitId → Queue
after_remove q u = record { units = map (closed_up (rank_in u q.units)) (list_without u q.units); spare = q.spare + 1 }

-- with a unit of the queue at its place by another key; its arrival stays
abbrev pub after_rekey : Queue → UnitId → ℤ → Queue
after_rekey q u key = record { units = list_with (queued_unit u (single_key key) (rank_in u q.units)) (list_without u q.units); spare = q.spare }

-- no unit, and room for so many
abbrev pub empty_queue : ℕ → Queue
empty_queue units = record { units = []; spare = units }
