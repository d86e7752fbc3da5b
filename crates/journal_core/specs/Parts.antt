-- The state cut into parts, of which each is guarded by one lock: a pool is a part, with the pool's number, and what the tool keeps is the part 16.
-- A name is the number of a core, or 64 more than that of a domain. Each name is listed by the part of its home.
use Rattle.std.specs.Prelude.{ℕ, suc, ◌-◌, ◌&&◌, Bool, false, eqb, List, [], ◌∷◌, Option, Some, None, is_some, option_map, length, map, take, nat_lt, if◌then◌else◌}
use Rattle.sched_base.specs.declared.Name.{Name}
use Rattle.sched_base.specs.declared.Moment.{Moment}
use Rattle.sched_model.specs.declared.config.Config.{Config}
use Rattle.sched_model.specs.declared.config.SchedKind.{SchedKind}
use Rattle.sched_model.specs.declared.state.Domain.{Domain}
use Rattle.sched_model.specs.declared.state.Resource.{Resource}
use Rattle.sched_model.specs.declared.state.FreeCore.{FreeCore}
use Rattle.sched_model.specs.declared.state.Pool.{Pool}
use Rattle.sched_model.specs.declared.state.State.{State}
use Rattle.sched_model.specs.Places.{at_place, first_place}
use Rattle.sched_model.specs.Opening.{machine_core_count}
use Rattle.sched_model.specs.Policy.{records_kind}

-- a pool as the tool knows it: its scheduler, which cores it has, and for each domain that it has the number of its vCPUs
pub record Outline : Type 0 where
  pub kind : SchedKind
  pub cores : List Bool
  pub domains : List (Option ℕ)

-- what is on its way: a core to a pool or to none, or a domain to a pool
pub data UnderWay : Type 0 where
  core_to : ℕ → Option ℕ → UnderWay
  domain_to : ℕ → ℕ → UnderWay

-- what the tool keeps: the names and the outlines of the pools, the ends of stalls of the cores of no pool, what is on its way,
-- and how many stalls and commands were done
pub record ToolPart : Type 0 where
  pub names : List (Option Name)
  pub pools : List (Option Outline)
  pub free : List (Option (List Moment))
  pub under_way : Option UnderWay
  pub next_stall : ℕ
  pub next_command : ℕ

-- a part: a pool, or nothing where there is no pool with this number; or what the tool keeps
pub data StatePart : Type 0 where
  pool_part : Option Pool → StatePart
  tool_part : ToolPart → StatePart

-- the part of a lock that guards none
abbrev pub no_part : StatePart
no_part = pool_part None

-- the tool's part has the number after those of the pools
abbrev pub tool_lock : ℕ
tool_lock = 16

-- how the tool knows a pool
abbrev pub pool_outline : Pool → Outline
pool_outline pool = record { kind = records_kind pool.scheduler.records; cores = map is_some pool.resources; domains = map (option_map (λ (d : Domain). length d.vcpus)) pool.domains }

-- the first answer for something that stands at a place, with the number of its place; the first place has the number n
abbrev pub first_answer : {X Y : Type 0} → (ℕ → X → Option Y) → ℕ → List (Option X) → Option Y
first_answer f n [] = None
first_answer f n (None ∷ places) = first_answer f (suc n) places
first_answer f n (Some x ∷ places) = elim (f n x) [ Some y ↦ Some y | None ↦ first_answer f (suc n) places ]

-- whether the core is leaving its pool; that it does
abbrev pub is_leaving : Resource → Bool
is_leaving c = c.leaving

abbrev pub core_to_leave : ℕ → Resource → Option UnderWay
core_to_leave r c = (if is_leaving c then Some (core_to r None) else None)

-- the domain moves to a pool
abbrev pub domain_to_move : ℕ → Domain → Option UnderWay
domain_to_move d domain = option_map (λ i. domain_to d i.0) domain.moving

-- the core of no pool is to join one
abbrev pub core_to_join : ℕ → FreeCore → Option UnderWay
core_to_join r c = option_map (λ (i : ℕ). core_to r (Some i)) c.target

-- the first answer, or else the second
abbrev pub or_else : Option UnderWay → Option UnderWay → Option UnderWay
or_else first second = elim first [ Some way ↦ Some way | None ↦ second ]

-- what is on its way from the pool
abbrev pub pool_under_way : ℕ → Pool → Option UnderWay
pool_under_way i pool = or_else (first_answer core_to_leave 0 pool.resources) (first_answer domain_to_move 0 pool.domains)

-- what is on its way
abbrev pub state_under_way : State → Option UnderWay
state_under_way s = or_else (first_answer pool_under_way 0 s.pools) (first_answer core_to_join 0 s.free)

-- what the tool keeps of the state
abbrev pub tool_of : State → ToolPart
tool_of s =
    record {
      names = s.names;
      pools = map (option_map pool_outline) s.pools;
      free = map (option_map (λ (c : FreeCore). c.stall_ends)) s.free;
      under_way = state_under_way s;
      next_stall = s.next_stall;
      next_command = s.next_command;
    }

-- the part k of the state
abbrev pub part_of : State → ℕ → StatePart
part_of s k = (if eqb k tool_lock then tool_part (tool_of s) else pool_part (at_place s.pools k))

-- whether the pool has what the name n names
abbrev pub pool_lists : ℕ → Pool → Bool
pool_lists n pool = (if nat_lt n 64 then is_some (at_place pool.resources n) else is_some (at_place pool.domains (n - 64)))

-- whether the part lists the name n
abbrev pub lists : StatePart → ℕ → Bool
lists (pool_part None) n = false
lists (pool_part (Some pool)) n = pool_lists n pool
lists (tool_part tool) n = nat_lt n 64 && is_some (at_place tool.free n)

-- whether the input has what the name n names
abbrev pub is_name : Config → ℕ → Bool
is_name config n = (if nat_lt n 64 then nat_lt n (machine_core_count config) else nat_lt (n - 64) (length config.domains))

-- the home of a name that names nothing of the input
abbrev pub no_home : ℕ
no_home = 255

-- the part that is the home of the name n: the pool that lists it, or the tool's part where no pool does
abbrev pub home_in : Config → State → ℕ → ℕ
home_in config s n = (if is_name config n then elim (first_place 0 (pool_lists n) (take tool_lock s.pools)) [ Some i ↦ i | None ↦ tool_lock ] else no_home)
