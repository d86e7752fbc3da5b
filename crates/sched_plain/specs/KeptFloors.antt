-- What is known of the order of the events that may come at the present moment: for each core and each domain, before which kind of event none
-- of it may come. g is the number of a core's processors.
use Rattle.std.specs.Prelude.{ℕ, suc, ◌≡◌, ◌≤◌, ◌<◌, ◌+◌, ◌/◌, ◌⊎◌, true, false, List, [], ◌∷◌, Option, Some, None, length, slice_index_or, slice_set, min, nat_lt, if◌then◌else◌}
use Rattle.sched_base.specs.declared.UnitId.{UnitId}
use Rattle.sched_base.specs.declared.VcpuId.{VcpuId}
use Rattle.sched_model.specs.declared.action.Action.{Action}
use Rattle.sched_model.specs.declared.action.Action.TheVariants.{Stall, Xl, Moved, DomMoved, Wake, Block, Slice, Repl, Refill, Arrive, Decide, Leave, Save}
use Rattle.sched_model.specs.declared.machine.Machine.{Machine}
use Rattle.sched_model.specs.declared.state.FreeCore.{FreeCore}
use Rattle.sched_model.specs.declared.state.Pool.{Pool}
use Rattle.sched_model.specs.declared.state.Resource.{Resource}
use Rattle.sched_model.specs.declared.state.State.{State}
use Rattle.sched_model.specs.Actions.{home_pool_of_action}
use Rattle.sched_model.specs.Machine.{is_action_enabled, is_free_core_ready}
use Rattle.sched_model.specs.Places.{at_place}
use Rattle.sched_model.specs.Pool.{enabled_in, running_guest, saving_among, unit_core, vcpu_unit}
use Rattle.pool_laws.specs.Order.{kind_place}
use Rattle.sched_plain.specs.PoolFloors.{IsCoreFloor, IsDomainFloor, IsFirstSibling}
use Rattle.sched_plain.specs.declared.floors.Floors.{Floors}

-- what is known of a core or a domain by its number; 0 says nothing
abbrev pub floor_at : List ℕ → ℕ → ℕ
floor_at floors n = slice_index_or floors n 0

-- what is known of the event's core or domain
abbrev pub floor_of : ℕ → Floors → Action → ℕ
floor_of g floors (Moved r) = floor_at floors.cores r.0
floor_of g floors (DomMoved d) = floor_at floors.domains d.0
floor_of g floors (Wake v) = floor_at floors.domains v.dom.0
floor_of g floors (Block p) = floor_at floors.cores (p.0 / g)
floor_of g floors (Slice r) = floor_at floors.cores r.0
floor_of g floors (Repl u) = floor_at floors.domains u.dom.0
floor_of g floors (Refill d) = floor_at floors.domains d.0
floor_of g floors (Arrive p) = floor_at floors.cores (p.0 / g)
floor_of g floors (Decide r) = floor_at floors.cores r.0
floor_of g floors (Leave p) = floor_at floors.cores (p.0 / g)
floor_of g floors (Save r) = floor_at floors.cores r.0
floor_of g floors _ = 0

-- each event of a pool that may come at t is of no earlier kind than what is known of its core or domain
pub record AreKept (g t : ℕ) (pools : List (Option Pool)) (floors : Floors) : Type 0 where
  pub each : (i : ℕ) (pool : Pool) (action : Action) → at_place pools i ≡ Some pool → enabled_in g t pool action ≡ true → floor_of g floors action ≤ kind_place action

-- where less is known than before, and of each event that may come in the next pool, but not in the old one, nothing but its kind's place at most
pub record IsTouched (g t : ℕ) (old next : Pool) (before after : Floors) : Type 0 where
  pub lower : (action : Action) → floor_of g after action ≤ floor_of g before action
  pub each : (action : Action) → enabled_in g t next action ≡ true → (floor_of g after action ≤ kind_place action) ⊎ (enabled_in g t old action ≡ true)

-- the kind that is at least asked for at a number, where an event of this kind and number is to be the first: a later one at lesser numbers
abbrev pub least_kind : ℕ → ℕ → ℕ → ℕ
least_kind kind own n = (if nat_lt n own then suc kind else kind)

-- from a number on the floors have these kinds at least
abbrev pub AreBehind : ℕ → ℕ → ℕ → List ℕ → Type 0
AreBehind kind own from floors = (n : ℕ) → from ≤ n → n < 64 → least_kind kind own n ≤ floor_at floors n

-- the same of these floors, of which the first has the number n
abbrev pub AreAsked : ℕ → ℕ → ℕ → List ℕ → Type 0
AreAsked kind own n floors = (k : ℕ) → k < length floors → least_kind kind own (n + k) ≤ floor_at floors k

-- the number of the event's core or domain, and 64 where it is none of a core, or of a domain
abbrev pub core_number : ℕ → Action → ℕ
core_number g (Moved r) = r.0
core_number g (Block p) = p.0 / g
core_number g (Slice r) = r.0
core_number g (Arrive p) = p.0 / g
core_number g (Decide r) = r.0
core_number g (Leave p) = p.0 / g
core_number g (Save r) = r.0
core_number g _ = 64

abbrev pub domain_number : Action → ℕ
domain_number (DomMoved d) = d.0
domain_number (Wake v) = v.dom.0
domain_number (Repl u) = u.dom.0
domain_number (Refill d) = d.0
domain_number _ = 64

-- the core and the domain whose events an event of the pool may let come: its own, and what it changes beside; a decision lets none of a domain come
abbrev pub touched_core : ℕ → Pool → Action → Option ℕ
touched_core g pool (Wake v) = unit_core pool (vcpu_unit g v)
touched_core g pool (Block p) = Some (p.0 / g)
touched_core g pool (Slice r) = Some r.0
touched_core g pool (Repl u) = unit_core pool u
touched_core g pool (Arrive p) = Some (p.0 / g)
touched_core g pool (Decide r) = Some r.0
touched_core g pool (Leave p) = Some (p.0 / g)
touched_core g pool (Save r) = Some r.0
touched_core g pool _ = None

abbrev pub domain_of_vcpu : Option VcpuId → Option ℕ
domain_of_vcpu None = None
domain_of_vcpu (Some v) = Some v.dom.0

abbrev pub domain_of_unit : Option UnitId → Option ℕ
domain_of_unit None = None
domain_of_unit (Some u) = Some u.dom.0

abbrev pub touched_domain : ℕ → Pool → Action → Option ℕ
touched_domain g pool (Wake v) = Some v.dom.0
touched_domain g pool (Block p) = domain_of_vcpu (running_guest g pool p.0)
touched_domain g pool (Repl u) = Some u.dom.0
touched_domain g pool (Refill d) = Some d.0
touched_domain g pool (Save r) = domain_of_unit (saving_among pool.resources r.0)
touched_domain g pool _ = None

-- nothing is known of the core or domain with this number
abbrev pub forgotten : Option ℕ → List ℕ → List ℕ
forgotten None floors = floors
forgotten (Some n) floors = slice_set floors n 0

-- what is known after the event of the pool, before its cores are looked at
abbrev pub touched : ℕ → Pool → Action → Floors → Floors
touched g pool action floors = record {
  cores = forgotten (touched_core g pool action) floors.cores;
  domains = forgotten (touched_domain g pool action) floors.domains;
}

-- of each of these cores that is pending, of which the first has the number r, no more is known than this
abbrev pub lowered : ℕ → ℕ → List ℕ → List ℕ
lowered most r floors = slice_set floors r (min (floor_at floors r) most)

abbrev pub pended : ℕ → ℕ → List (Option Resource) → List ℕ → List ℕ
pended most r [] floors = floors
pended most r (None ∷ cores) floors = pended most (suc r) cores floors
pended most r (Some c ∷ cores) floors = pended most (suc r) cores (if c.pending then lowered most r floors else floors)

-- no event of the core that may come in one of these pools is of an earlier kind, and none of the domain
abbrev pub IsCoreFloorAmong : ℕ → ℕ → List (Option Pool) → ℕ → ℕ → Type 0
IsCoreFloorAmong g t pools r floor = (i : ℕ) (pool : Pool) → at_place pools i ≡ Some pool → IsCoreFloor g t pool r floor

abbrev pub IsDomainFloorAmong : ℕ → ℕ → List (Option Pool) → ℕ → ℕ → Type 0
IsDomainFloorAmong g t pools d floor = (i : ℕ) (pool : Pool) → at_place pools i ≡ Some pool → IsDomainFloor g t pool d floor

-- what is known of lesser numbers is as it was
abbrev pub SameBefore : ℕ → List ℕ → List ℕ → Type 0
SameBefore n old new = (k : ℕ) → k < n → floor_at new k ≡ floor_at old k

-- neither a stall nor a command nor a core of no pool may come now
pub record IsToolQuiet (m : Machine) (s : State) : Type 0 where
  pub stall : is_action_enabled m s s.now Stall ≡ false
  pub command : is_action_enabled m s s.now Xl ≡ false
  pub free : (r : ℕ) (c : FreeCore) → at_place s.free r ≡ Some c → is_free_core_ready s.now c ≡ false

-- the pool of the event's subject lets no sibling of it come before it
pub record IsFirstAtHome (m : Machine) (s : State) (action : Action) : Type 0 where
  pub place : ℕ
  pub pool : Pool
  pub home : home_pool_of_action m.config.granularity s action ≡ Some place
  pub there : at_place s.pools place ≡ Some pool
  pub first : IsFirstSibling m.config.granularity s.now pool action
