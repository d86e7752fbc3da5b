-- Which units a search passes over.
use Rattle.std.specs.Prelude.{Bool, true, if◌then◌else◌, List, [], ◌∷◌, Option, Some, None}
use Rattle.sched_base.specs.declared.Cores.{Cores}
use Rattle.sched_base.specs.declared.ResId.{ResId}
use Rattle.sched_base.specs.declared.UnitId.{UnitId}
use Rattle.sched_base.specs.CoreSets.{is_core_allowed}
pub use Rattle.sched_base.specs.CoreSets.{has_core_bit}
use Rattle.unit_places.specs.Masks.{mask_of}
use Rattle.arrival_queue.specs.declared.walks.Allowed.{Allowed}
use Rattle.arrival_queue.specs.Queues.{Queued}

-- whether the domain is in the set, where there is one
abbrev pub in_domains : Option Allowed → UnitId → Bool
in_domains None u = true
in_domains (Some allowed) u = has_core_bit allowed.0 u.dom.0

-- whether the unit's set of cores lets it run on the core of a pool
abbrev pub may_run : List Cores → ResId → Cores → UnitId → Bool
may_run masks core home u = is_core_allowed (mask_of masks u).0 core.0 home.0

-- the first unit that passes
abbrev pub first_that : (UnitId → Bool) → List Queued → Option UnitId
first_that p [] = None
first_that p (e ∷ es) = (if p e.unit then Some e.unit else first_that p es)

-- the first unit
abbrev pub first_of : List Queued → Option UnitId
first_of [] = None
first_of (e ∷ es) = Some e.unit
