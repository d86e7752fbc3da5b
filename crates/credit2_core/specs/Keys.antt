-- The keys of a run queue whose first unit has the greatest credit.
use Rattle.std.specs.Prelude.{◌≡◌, ◌||◌, ◌&&◌, ◌==◌, ℕ, Bool, true, List, nat_lt, neg_ℤ}
use Rattle.std.specs.List.{AllByRecursion}
use Rattle.sched_base.specs.declared.UnitId.{UnitId}
use Rattle.arrival_queue.specs.declared.key.Key.{Key}
use Rattle.arrival_queue.specs.Queues.{Queued}
use Rattle.runq.specs.Queue.{single_key}
use Rattle.sched_model.specs.declared.state.Credit2Records.{Credit2Records}
use Rattle.sched_model.specs.Credit2.{unit_credit}

-- the key of a unit of these records
abbrev pub key_in : Credit2Records → UnitId → Key
key_in records u = single_key (neg_ℤ (unit_credit records u))

-- each queued unit that passes the test has its key
abbrev pub KeysWhere : (UnitId → Bool) → Credit2Records → List Queued → Type 0
KeysWhere test records es = AllByRecursion (λ (e : Queued). test e.unit ≡ true → e.key ≡ key_in records e.unit) es

-- each queued unit has its key
abbrev pub HasCredits : Credit2Records → List Queued → Type 0
HasCredits records es = AllByRecursion (λ (e : Queued). e.key ≡ key_in records e.unit) es

-- the unit is of a domain below d, or is one of the first n of the domain d
abbrev pub is_passed : ℕ → ℕ → UnitId → Bool
is_passed d n u = nat_lt u.dom.0 d || (u.dom.0 == d && nat_lt u.n n)
