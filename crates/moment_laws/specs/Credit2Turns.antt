-- A Credit2 pool in a stretch: what a core of it finds that decides, and what such decisions leave as it was.
use Rattle.std.specs.Prelude.{◌≡◌, ◌≢◌, ◌≤◌, ◌<◌, ℕ, ℤ, true, false, List, Option, Some, map, option_map, pos, int_lt, length, slice_get}
use Rattle.sched_base.specs.Credit2Numbers.{cap_budget, budget_quota}
use Rattle.sched_base.specs.declared.UnitId.{UnitId}
use Rattle.sched_model.specs.declared.machine.Machine.{Machine}
use Rattle.sched_model.specs.declared.state.Credit2Domain.{Credit2Domain}
use Rattle.sched_model.specs.declared.state.Credit2Records.{Credit2Records}
use Rattle.sched_model.specs.declared.state.Credit2Unit.{Credit2Unit}
use Rattle.sched_model.specs.declared.state.Pool.{Pool}
use Rattle.sched_model.specs.declared.state.Resource.{Resource}
use Rattle.sched_model.specs.Places.{at_place, has_listed_unit}
use Rattle.sched_laws.specs.Counts.{total}
use Rattle.moment_laws.specs.Stretches.{units}
use Rattle.moment_laws.specs.Turns.{how_many}
use Rattle.moment_laws.specs.GoodDecisions.{decision}

-- what a decision without a reset leaves of a domain as it is, its face: its weight, its cap, and the credits of its units
abbrev pub Face : Type 0
Face = ℕ × ℕ × List ℤ

abbrev pub credits : List Credit2Unit → List ℤ
credits units = map (λ (x : Credit2Unit). x.credit) units

abbrev pub face : Credit2Domain → Face
face d = (d.weight, d.cap, credits d.units)

abbrev pub Faces : Type 0
Faces = List (Option Face)

abbrev pub faces : List (Option Credit2Domain) → Faces
faces domains = map (λ (o : Option Credit2Domain). option_map face o) domains

-- how many units they have
abbrev pub unit_total : Faces → ℕ
unit_total fs = total (λ (f : Face). how_many (λ c. true) f.2) fs

-- the unit has a record
pub record HasUnit (records : Credit2Records) (u : UnitId) : Type 0 where
  pub domain : Credit2Domain
  pub at : at_place records.domains u.dom.0 ≡ Some domain
  pub record_of : Credit2Unit
  pub get : slice_get domain.units u.n ≡ Some record_of

-- the record of a unit that was charged at this moment, with less than its domain's weight left over, and that holds its domain's quota at most
pub record IsFresh (t : ℕ) (d : Credit2Domain) (x : Credit2Unit) : Type 0 where
  pub burned : x.burned ≡ Some t
  pub residual : x.residual < d.weight
  pub held : int_lt x.held (pos 0) ≡ false
  pub most : int_lt (pos (budget_quota (cap_budget d.cap) (length d.units))) x.held ≡ false

-- what a core finds that decides: its own unit is fresh, the units that may come have records, and so have those of the other cores; there are no more
-- records than the machine has units; and the decision resets nothing
pub record IsStill (m : Machine) (t : ℕ) (pool : Pool) (records : Credit2Records) (r : ℕ) (c : Resource) : Type 0 where
  pub fresh : (u : UnitId) (d : Credit2Domain) (x : Credit2Unit) → c.cur ≡ Some u → at_place records.domains u.dom.0 ≡ Some d → slice_get d.units u.n ≡ Some x → IsFresh t d x
  pub own_has : (u : UnitId) → c.cur ≡ Some u → HasUnit records u
  pub waiting_has : (u : UnitId) → has_listed_unit pool.scheduler.queue u ≡ true → HasUnit records u
  pub other_has : (k : ℕ) (x : Resource) (u : UnitId) → k ≢ r → at_place pool.resources k ≡ Some x → x.cur ≡ Some u → HasUnit records u
  pub count : unit_total (faces records.domains) ≤ units m
  pub no_reset : (decision m t pool r c).reset ≡ 0
