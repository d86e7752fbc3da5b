-- In which moment of a run an entry stands.
use Rattle.std.specs.Prelude.{ℕ, Bool, true, false, List, take, count_by}
use Rattle.sched_model.specs.declared.event.Event.{Event}
use Rattle.sched_model.specs.declared.event.Event.TheVariants as event
use Rattle.sched_model.specs.declared.event.Entry.{Entry}

-- whether it ends a moment that another one follows
abbrev pub has_next_moment : Event → Bool
has_next_moment (event.End next) = true
has_next_moment _ = false

-- how many moments end with these entries
abbrev pub ends : List Entry → ℕ
ends entries = count_by (λ (e : Entry). has_next_moment e.event) entries

-- the number, from 0, of the moment in which the entry at the place stands: as many moments end before it
abbrev pub moment_of : List Entry → ℕ → ℕ
moment_of history place = ends (take place history)
