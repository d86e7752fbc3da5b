-- Which unit each core has, which vCPU each processor runs, and which vCPUs sleep, as the entries themselves tell it. They stand last first.
use Rattle.std.specs.Prelude.{ℕ, ◌+◌, ◌*◌, ◌%◌, ◌==◌, ◌&&◌, Bool, true, false, not, List, [], ◌∷◌, Option, Some, None, if◌then◌else◌, is_some, is_none}
use Rattle.sched_base.specs.declared.UnitId.{UnitId}
use Rattle.sched_base.specs.declared.VcpuId.{VcpuId}
use Rattle.sched_model.specs.declared.event.Event.{Event}
use Rattle.sched_model.specs.declared.event.Event.TheVariants as event
use Rattle.sched_model.specs.declared.event.Entry.{Entry}
use Rattle.sched_model.specs.Pool.{vcpu_unit}
use Rattle.unit_places.specs.Places.{unit_place_number}
use Rattle.sched_times.specs.declared.grant.Grant.{Grant}
use Rattle.sched_times.specs.declared.grant.Sleep.{Sleep}

-- the place of a vCPU in a table, as a unit has one
abbrev pub vcpu_place : VcpuId → UnitId
vcpu_place v = record { dom = v.dom; n = v.n }

abbrev pub vcpu_number : VcpuId → Option ℕ
vcpu_number v = unit_place_number (vcpu_place v)

abbrev pub chosen_number : Option UnitId → Option ℕ
chosen_number None = None
chosen_number (Some u) = unit_place_number u

abbrev pub shown_number : Option VcpuId → Option ℕ
shown_number None = None
shown_number (Some v) = vcpu_number v

-- whether the number is k
abbrev pub is_number : Option ℕ → ℕ → Bool
is_number None k = false
is_number (Some n) k = n == k

-- a rule says what an entry gives, and to whom, where these entries came before: a core to a unit, or a processor to a vCPU
abbrev pub Rule : Type 0
Rule = Entry → List Entry → Option Grant

-- the user that has the core or processor: the one to which it was given last
abbrev pub user_of : Rule → ℕ → List Entry → Option ℕ
user_of rule r [] = None
user_of rule r (e ∷ before) =
    elim (rule e before) [ None ↦ user_of rule r before | Some g ↦ (if g.on == r then g.to else user_of rule r before) ]

-- what the user has once something is given: that, where it is given to it; nothing, where it is taken from it; or as before
abbrev pub has_after : Grant → ℕ → Option ℕ → Option ℕ
has_after g k had = (if is_number g.to k then Some g.on else if is_number had g.on then None else had)

-- the core or processor that the user has
abbrev pub held_by : Rule → ℕ → List Entry → Option ℕ
held_by rule k [] = None
held_by rule k (e ∷ before) =
    elim (rule e before) [ None ↦ held_by rule k before | Some g ↦ has_after g k (held_by rule k before) ]

-- a core is given by its decision, to the unit that this chooses
abbrev pub core_given : Event → Option Grant
core_given (event.Decide r unit due late reset) = Some (record { on = r.0; to = chosen_number unit })
core_given _ = None

abbrev pub core_grant : Rule
core_grant e before = core_given e.event

-- what an entry says of a processor: that it idles, after a leave for nobody and after a block, or that it does not
abbrev pub idles_after : ℕ → Event → Option Bool
idles_after p (event.Arrive q) = (if q.0 == p then Some false else None)
idles_after p (event.Leave q v) = (if q.0 == p then Some (is_none v) else None)
idles_after p (event.Block q v) = (if q.0 == p then Some true else None)
idles_after p _ = None

-- whether it idles then, where it did or did not before
abbrev pub idles_then : ℕ → Event → Bool → Bool
idles_then p e was = elim (idles_after p e) [ None ↦ was | Some idles ↦ idles ]

-- whether the processor idles
abbrev pub is_idle : ℕ → List Entry → Bool
is_idle p [] = false
is_idle p (e ∷ before) = idles_then p e.event (is_idle p before)

-- the vCPU's own processor of the core that its unit has, where a core has g processors
abbrev pub own_processor : ℕ → (ℕ → Option ℕ) → VcpuId → Option ℕ
own_processor g core_of v =
    elim (unit_place_number (vcpu_unit g v)) [ None ↦ None | Some k ↦ elim (core_of k) [ None ↦ None | Some r ↦ Some (r * g + v.n % g) ] ]

-- what a vCPU gets that wakes: its own processor, if its unit has a core and that processor idles. It runs at once, and no other line says so
abbrev pub given_to_woken : (ℕ → Bool) → VcpuId → Option ℕ → Option Grant
given_to_woken idles v None = None
given_to_woken idles v (Some p) = (if idles p then Some (record { on = p; to = vcpu_number v }) else None)

-- a processor is given to the vCPU that it leaves the scheduler for, to one that wakes and finds it idle, and else to nobody; by the
-- core of each unit, and whether each processor idles
abbrev pub grant_by : ℕ → (ℕ → Option ℕ) → (ℕ → Bool) → Event → Option Grant
grant_by g core_of idles (event.Arrive p) = Some (record { on = p.0; to = None })
grant_by g core_of idles (event.Leave p v) = Some (record { on = p.0; to = shown_number v })
grant_by g core_of idles (event.Block p v) = Some (record { on = p.0; to = None })
grant_by g core_of idles (event.Wake v) = given_to_woken idles v (own_processor g core_of v)
grant_by g core_of idles _ = None

abbrev pub processor_grant : ℕ → Rule
processor_grant g e before = grant_by g (λ k. held_by core_grant k before) (λ p. is_idle p before) e.event

-- whose sleep the event begins, or ends
abbrev pub sleep_of : Event → Option Sleep
sleep_of (event.Wake v) = Some (record { who = vcpu_number v; asleep = false })
sleep_of (event.Block p v) = Some (record { who = vcpu_number v; asleep = true })
sleep_of _ = None

-- of units nobody sleeps
abbrev pub no_sleep : Event → Option Sleep
no_sleep e = None

-- whether the user has blocked and not woken since
abbrev pub is_asleep : (Event → Option Sleep) → ℕ → List Entry → Bool
is_asleep sleep k [] = false
is_asleep sleep k (e ∷ before) =
    elim (sleep e.event) [ None ↦ is_asleep sleep k before | Some s ↦ (if is_number s.who k then s.asleep else is_asleep sleep k before) ]

-- whether it runs: it has a core or processor. If not, whether it waits or sleeps
abbrev pub runs : Rule → ℕ → List Entry → Bool
runs rule k before = is_some (held_by rule k before)

abbrev pub waits : Rule → (Event → Option Sleep) → ℕ → List Entry → Bool
waits rule sleep k before = not (runs rule k before) && not (is_asleep sleep k before)

abbrev pub sleeps : Rule → (Event → Option Sleep) → ℕ → List Entry → Bool
sleeps rule sleep k before = not (runs rule k before) && is_asleep sleep k before

-- whether somebody has the core or processor
abbrev pub is_used : Rule → ℕ → List Entry → Bool
is_used rule r before = is_some (user_of rule r before)
