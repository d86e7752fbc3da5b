-- The stores and sinks, as contracts see them.
use Rattle.std.specs.Prelude.{ℕ, ◌+◌, ◌==◌, Bool, true, ◌||◌, List, ◌++◌, length, nat_lt, if◌then◌else◌}
use Rattle.std.specs.List.{list_any}
use Rattle.sched_io.specs.Faults.{one_more}
use Rattle.sched_io.specs.HeldBytes.{bytes_under, is_unreadable}

-- names with bytes, the numbers of the calls that fail, how many calls were made and how many of them failed
pub record StoreState : Type 0 where
  pub files : List (List ℕ × List ℕ)
  pub fails : List ℕ
  pub calls : ℕ
  pub faults : ℕ

-- what was put, its room, the numbers of the calls that fail, how many calls were made and how many of them failed
pub record SinkState : Type 0 where
  pub bytes : List ℕ
  pub room : ℕ
  pub fails : List ℕ
  pub calls : ℕ
  pub faults : ℕ

-- what was put, its room, and whether a put would have passed it
pub record SureState : Type 0 where
  pub bytes : List ℕ
  pub room : ℕ
  pub over : Bool

-- how many bytes an output keeps, and how many of its calls failed
pub record OutState : Type 0 where
  pub kept : ℕ
  pub faults : ℕ

-- the number of the next call is among those that fail
abbrev pub is_listed : List ℕ → ℕ → Bool
is_listed fails calls = list_any (λ number. number == one_more calls) fails

-- the next read of this name fails
abbrev pub read_fails : StoreState → List ℕ → Bool
read_fails store name = is_listed store.fails store.calls || is_unreadable (bytes_under name store.files)

-- the next put of this piece fails
abbrev pub put_fails : SinkState → List ℕ → Bool
put_fails sink piece = is_listed sink.fails sink.calls || nat_lt sink.room (length sink.bytes + length piece)

-- the sink that never fails, after a put
abbrev pub after_sure_put : SureState → List ℕ → SureState
after_sure_put sink piece =
    if sink.over || nat_lt sink.room (length sink.bytes + length piece) then record sink { over = true }
    else record sink { bytes = sink.bytes ++ piece }
