-- Whether an action may come is a test that waits for the moments that the state names.
use Rattle.std.proofs.Common.{◌≡◌, ℕ, ◌/◌, ◌%◌, Bool, true, false, List, [], ◌∷◌, ◌++◌, refl, subst, sym, inl}
use Rattle.std.specs.Prelude.{Option, Some, None, nat_le, ◌&&◌, ◌||◌, not, is_none, is_some, slice_get, map, option_map}
use Rattle.std.specs.List.{list_any, list_all}
use Rattle.sched_base.specs.Numbers.{moment, has_moment_come}
use Rattle.sched_base.specs.declared.Moment.{Moment}
use Rattle.sched_base.specs.declared.UnitId.{UnitId}
use Rattle.sched_base.specs.declared.VcpuId.{VcpuId}
use Rattle.sched_model.specs.declared.action.Action.{Action}
use Rattle.sched_model.specs.declared.action.Action.TheVariants.{Stall, Xl, Moved, DomMoved, Wake, Block, Slice, Repl, Refill, Arrive, Decide, Leave, Save}
use Rattle.sched_model.specs.declared.machine.Machine.{Machine}
use Rattle.sched_model.specs.declared.state.State.{State}
use Rattle.sched_model.specs.declared.state.Pool.{Pool}
use Rattle.sched_model.specs.declared.state.Processor.{Processor}
use Rattle.sched_model.specs.declared.state.Resource.{Resource}
use Rattle.sched_model.specs.declared.state.Vcpu.{Vcpu}
use Rattle.sched_model.specs.declared.state.Domain.{Domain}
use Rattle.sched_model.specs.declared.state.FreeCore.{FreeCore}
use Rattle.sched_model.specs.declared.state.Records.{Records}
use Rattle.sched_model.specs.declared.state.Records.TheVariants.{Credit2Pool, RtdsPool}
use Rattle.sched_model.specs.declared.state.Credit2Domain.{Credit2Domain}
use Rattle.sched_model.specs.declared.state.RtdsUnit.{RtdsUnit}
use Rattle.sched_model.specs.declared.work.StallLine.{StallLine}
use Rattle.sched_model.specs.declared.work.CommandLine.{CommandLine}
use Rattle.sched_model.specs.Places.{at_place, numbered_items, test_at, first_place, has_listed_unit}
use Rattle.sched_model.specs.State.{is_not_stalled}
use Rattle.sched_model.specs.EligibleUnits.{rtds_unit_at}
use Rattle.sched_model.specs.Policy as policy
use Rattle.sched_model.specs.Pool.{is_first_processor_up, is_lowest_processor_up, pool_processor, pool_vcpu, running_guest, done_moment, is_held_back, is_gathering, unit_core, enabled_in}
use Rattle.sched_model.specs.Actions.{home_pool_of_action}
use Rattle.sched_model.specs.Machine.{joined_lists, some_of, core_moments, vcpu_moments, records_moments, pool_moments, moments, is_free_core_ready, enabled_at_home, is_action_enabled, has_move_under_way}
use Rattle.run_laws.proofs.Named.{Has-map, Has-joined, Has-placed, Has-filter_map-placed, Has-first, Has-second}
use Rattle.sched_base.proofs.Lists.{Has-left, Has-right}
use Rattle.sched_base.specs.Lists.{Has}
use Rattle.run_laws.proofs.Awaits.{Awaits, Awaits-fixed, Awaits-moment, Awaits-wider, Awaits-and, Awaits-or, Awaits-there}

-- what a core of the pool names, the pool names
core_in_pool : (pool : Pool) (r : ℕ) (c : Resource) (n : ℕ) → at_place pool.resources r ≡ Some c → Has n (core_moments c) → Has n (pool_moments pool)
core_in_pool pool r c n at h =
    let cores : List ℕ = joined_lists (λ e. core_moments e.1) (numbered_items 0 pool.resources) in
    let domains : List ℕ = joined_lists (λ e. joined_lists vcpu_moments e.1.vcpus) (numbered_items 0 pool.domains) in
    Has-left n (cores ++ domains) (records_moments pool.scheduler.records) (Has-left n cores domains (Has-placed core_moments 0 pool.resources r c n at h))

-- what a vCPU of the pool names, the pool names
vcpu_in_pool : (pool : Pool) (v : VcpuId) (x : Vcpu) (n : ℕ) → pool_vcpu pool v ≡ Some x → Has n (vcpu_moments x) → Has n (pool_moments pool)
vcpu_in_pool pool v x n at h =
    let cores : List ℕ = joined_lists (λ e. core_moments e.1) (numbered_items 0 pool.resources) in
    let domains : List ℕ = joined_lists (λ e. joined_lists vcpu_moments e.1.vcpus) (numbered_items 0 pool.domains) in
    elim (at_place pool.domains v.dom.0) as (λ o. at_place pool.domains v.dom.0 ≡ o → elim o [ None ↦ None | Some d ↦ slice_get d.vcpus v.n ] ≡ Some x → Has n (pool_moments pool)) [
      | None ↦ λ is e. absurd (cc)
      | Some d ↦ λ is e.
          Has-left n (cores ++ domains) (records_moments pool.scheduler.records)
          (Has-right n cores domains (Has-placed (λ (y : Domain). joined_lists vcpu_moments y.vcpus) 0 pool.domains v.dom.0 d n is (Has-joined vcpu_moments d.vcpus v.n x n e h)))
    ] refl at

-- what the scheduler names, the pool names
records_in_pool : (pool : Pool) (n : ℕ) → Has n (records_moments pool.scheduler.records) → Has n (pool_moments pool)
records_in_pool pool n h =
    let cores : List ℕ = joined_lists (λ e. core_moments e.1) (numbered_items 0 pool.resources) in
    let domains : List ℕ = joined_lists (λ e. joined_lists vcpu_moments e.1.vcpus) (numbered_items 0 pool.domains) in
    Has-right n (cores ++ domains) (records_moments pool.scheduler.records) h

-- what a pool names, the state names
pool_in_state : (m : Machine) (s : State) (i : ℕ) (pool : Pool) (n : ℕ) → at_place s.pools i ≡ Some pool → Has n (pool_moments pool) → Has n (moments m s)
pool_in_state m s i pool n at h =
    let pools : List ℕ = joined_lists (λ e. pool_moments e.1) (numbered_items 0 s.pools) in
    let free : List ℕ = joined_lists (λ e. map (λ (end : Moment). end.0) e.1.stall_ends) (numbered_items 0 s.free) in
    let work : List ℕ = some_of (option_map (λ line. line.at) (slice_get m.work.stalls s.next_stall) ∷ option_map (λ line. line.at) (slice_get m.work.commands s.next_command) ∷ []) in
    Has-left n (pools ++ free) work (Has-left n pools free (Has-placed pool_moments 0 s.pools i pool n at h))

-- what a core of no pool names, the state names
free_in_state : (m : Machine) (s : State) (r : ℕ) (c : FreeCore) (n : ℕ) → at_place s.free r ≡ Some c → Has n (map (λ (end : Moment). end.0) c.stall_ends) → Has n (moments m s)
free_in_state m s r c n at h =
    let pools : List ℕ = joined_lists (λ e. pool_moments e.1) (numbered_items 0 s.pools) in
    let free : List ℕ = joined_lists (λ e. map (λ (end : Moment). end.0) e.1.stall_ends) (numbered_items 0 s.free) in
    let work : List ℕ = some_of (option_map (λ line. line.at) (slice_get m.work.stalls s.next_stall) ∷ option_map (λ line. line.at) (slice_get m.work.commands s.next_command) ∷ []) in
    Has-left n (pools ++ free) work (Has-right n pools free (Has-placed (λ (y : FreeCore). map (λ (end : Moment). end.0) y.stall_ends) 0 s.free r c n at h))

-- the state names the moment of the next stall
stall_in_state : (m : Machine) (s : State) (line : StallLine) → slice_get m.work.stalls s.next_stall ≡ Some line → Has line.at.0 (moments m s)
stall_in_state m s line at =
    let pools : List ℕ = joined_lists (λ e. pool_moments e.1) (numbered_items 0 s.pools) in
    let free : List ℕ = joined_lists (λ e. map (λ (end : Moment). end.0) e.1.stall_ends) (numbered_items 0 s.free) in
    let stalls : Option Moment = option_map (λ l. l.at) (slice_get m.work.stalls s.next_stall) in
    let commands : Option Moment = option_map (λ l. l.at) (slice_get m.work.commands s.next_command) in
    Has-right line.at.0 (pools ++ free) (some_of (stalls ∷ commands ∷ [])) (Has-first line.at stalls (commands ∷ []) (rw at refl))

-- and that of the next command
command_in_state : (m : Machine) (s : State) (line : CommandLine) → slice_get m.work.commands s.next_command ≡ Some line → Has line.at.0 (moments m s)
command_in_state m s line at =
    let pools : List ℕ = joined_lists (λ e. pool_moments e.1) (numbered_items 0 s.pools) in
    let free : List ℕ = joined_lists (λ e. map (λ (end : Moment). end.0) e.1.stall_ends) (numbered_items 0 s.free) in
    let stalls : Option Moment = option_map (λ l. l.at) (slice_get m.work.stalls s.next_stall) in
    let commands : Option Moment = option_map (λ l. l.at) (slice_get m.work.commands s.next_command) in
    Has-right line.at.0 (pools ++ free) (some_of (stalls ∷ commands ∷ [])) (Has-second line.at.0 stalls (commands ∷ []) (Has-first line.at commands [] (rw at refl)))

-- a moment that is there or not
Awaits-come : (ms : List ℕ) (o : Option Moment) → ((at : Moment) → o ≡ Some at → Has at.0 ms) → Awaits ms (λ t. has_moment_come t o)
Awaits-come ms None h = Awaits-fixed ms false
Awaits-come ms (Some at) h = Awaits-moment ms at.0 (h at refl)

-- a core of the pool whose first processor is up
Awaits-first_up : (pool : Pool) (r : ℕ) (c : Resource) → at_place pool.resources r ≡ Some c → Awaits (pool_moments pool) (λ t. is_first_processor_up t c)
Awaits-first_up pool r c at =
    elim c.processors as (λ ps. c.processors ≡ ps → Awaits (pool_moments pool) (λ t. elim ps [ [] ↦ false | p ∷ qs ↦ is_not_stalled t p ])) [
      | [] ↦ λ is. Awaits-fixed (pool_moments pool) false
      | p ∷ qs ↦ λ is. Awaits-moment (pool_moments pool) p.stall_end.0
          (core_in_pool pool r c p.stall_end.0 at (Has-right p.stall_end.0 (some_of (c.due ∷ [])) (map (λ (q : Processor). q.stall_end.0) c.processors)
          (subst (λ rs. Has p.stall_end.0 (map (λ (q : Processor). q.stall_end.0) rs)) (sym is) (inl refl))))
    ] refl

-- a pool whose lowest processor is up
Awaits-lowest_up : (pool : Pool) → Awaits (pool_moments pool) (λ t. is_lowest_processor_up t pool)
Awaits-lowest_up pool =
    Awaits-there (pool_moments pool) (λ t r. test_at pool.resources r (is_first_processor_up t)) (first_place 0 (λ c. true) pool.resources)
    (λ r is. Awaits-there (pool_moments pool) (λ t c. is_first_processor_up t c) (at_place pool.resources r) (λ c at. Awaits-first_up pool r c at))

-- a processor of the pool that is up
processor_named : (g : ℕ) (pool : Pool) (p : ℕ) (q : Processor) → pool_processor g pool p ≡ Some q → Has q.stall_end.0 (pool_moments pool)
processor_named g pool p q at =
    elim (at_place pool.resources (p / g)) as (λ o. at_place pool.resources (p / g) ≡ o → elim o [ None ↦ None | Some c ↦ slice_get c.processors (p % g) ] ≡ Some q → Has q.stall_end.0 (pool_moments pool)) [
      | None ↦ λ is e. absurd (cc)
      | Some c ↦ λ is e.
          core_in_pool pool (p / g) c q.stall_end.0 is
          (Has-right q.stall_end.0 (some_of (c.due ∷ [])) (map (λ (y : Processor). y.stall_end.0) c.processors) (Has-map (λ (y : Processor). y.stall_end.0) c.processors (p % g) q e))
    ] refl at

-- the deadline of an RTDS unit, and the refill of a Credit2 domain
deadline_named : (domains : List (Option (List RtdsUnit))) (u : UnitId) (x : RtdsUnit) → rtds_unit_at domains u ≡ Some x → Has x.deadline (records_moments (RtdsPool domains))
deadline_named domains u x at =
    elim (at_place domains u.dom.0) as (λ o. at_place domains u.dom.0 ≡ o → elim o [ None ↦ None | Some units ↦ slice_get units u.n ] ≡ Some x → Has x.deadline (records_moments (RtdsPool domains))) [
      | None ↦ λ is e. absurd (cc)
      | Some units ↦ λ is e. Has-placed (λ (ys : List RtdsUnit). map (λ (y : RtdsUnit). y.deadline) ys) 0 domains u.dom.0 units x.deadline is (Has-map (λ (y : RtdsUnit). y.deadline) units u.n x e)
    ] refl at

Awaits-replenish_due : (records : Records) (u : UnitId) → Awaits (records_moments records) (λ t. policy.is_replenish_due records t u)
Awaits-replenish_due (RtdsPool domains) u =
    Awaits-there (records_moments (RtdsPool domains)) (λ t (x : RtdsUnit). nat_le x.deadline t) (rtds_unit_at domains u) (λ x at. Awaits-moment (records_moments (RtdsPool domains)) x.deadline (deadline_named domains u x at))
Awaits-replenish_due any u = Awaits-fixed (records_moments any) false

refill_named : (records : Records) (d : ℕ) (at : Moment) → policy.next_refill_moment records d ≡ Some at → Has at.0 (records_moments records)
refill_named (Credit2Pool records) d at is =
    elim (at_place records.domains d) as (λ o. at_place records.domains d ≡ o → elim o [ None ↦ None | Some domain ↦ option_map moment domain.refill ] ≡ Some at → Has at.0 (records_moments (Credit2Pool records))) [
      | None ↦ λ there e. absurd (cc)
      | Some domain ↦ λ there e. Has-filter_map-placed (λ (y : Credit2Domain). y.refill) 0 records.domains d domain at.0 there (refill_of domain.refill at e)
    ] refl is
  where
    refill_of : (o : Option ℕ) (at : Moment) → option_map moment o ≡ Some at → o ≡ Some at.0
    refill_of None at e = absurd (cc)
    refill_of (Some n) at e = let f : moment n ≡ at = cc in rw (sym f) refl
refill_named records d at is = absurd (cc)

-- a test of a core, of which only its first processor waits
Awaits-core : (pool : Pool) (r : ℕ) (fixed : Resource → Bool) → Awaits (pool_moments pool) (λ t. test_at pool.resources r (λ c. fixed c && is_first_processor_up t c))
Awaits-core pool r fixed =
    Awaits-there (pool_moments pool) (λ t c. fixed c && is_first_processor_up t c) (at_place pool.resources r)
    (λ c at. Awaits-and (pool_moments pool) (λ t. fixed c) (λ t. is_first_processor_up t c) (Awaits-fixed (pool_moments pool) (fixed c)) (Awaits-first_up pool r c at))

-- the same of a processor
Awaits-processor : (g : ℕ) (pool : Pool) (p : ℕ) (fixed : Processor → Bool) → Awaits (pool_moments pool) (λ t. elim (pool_processor g pool p) [ None ↦ false | Some q ↦ fixed q && is_not_stalled t q ])
Awaits-processor g pool p fixed =
    Awaits-there (pool_moments pool) (λ t q. fixed q && is_not_stalled t q) (pool_processor g pool p)
    (λ q at. Awaits-and (pool_moments pool) (λ t. fixed q) (λ t. is_not_stalled t q) (Awaits-fixed (pool_moments pool) (fixed q)) (Awaits-moment (pool_moments pool) q.stall_end.0 (processor_named g pool p q at)))

-- an event of the pool
Awaits-in : (g : ℕ) (pool : Pool) (action : Action) → Awaits (pool_moments pool) (λ t. enabled_in g t pool action)
Awaits-in g pool Stall = Awaits-fixed (pool_moments pool) false
Awaits-in g pool Xl = Awaits-fixed (pool_moments pool) false
Awaits-in g pool (Moved r) = Awaits-core pool r.0 (λ c. c.leaving && is_none c.cur && is_none c.saving && not c.pending && is_gathering c)
Awaits-in g pool (DomMoved d) = Awaits-fixed (pool_moments pool) (enabled_in g 0 pool (DomMoved d))
Awaits-in g pool (Wake v) =
    Awaits-there (pool_moments pool) (λ t x. has_moment_come t x.asleep_until) (pool_vcpu pool v)
    (λ x at. Awaits-come (pool_moments pool) x.asleep_until (λ end is. vcpu_in_pool pool v x end.0 at (Has-first end x.asleep_until (done_moment x ∷ []) is)))
Awaits-in g pool (Block p) =
    Awaits-and (pool_moments pool)
    (λ t. elim (running_guest g pool p.0) [ None ↦ false | Some v ↦ elim (pool_vcpu pool v) [ None ↦ false | Some x ↦ has_moment_come t (done_moment x) ] ])
    (λ t. elim (pool_processor g pool p.0) [ None ↦ false | Some q ↦ is_not_stalled t q ])
    (Awaits-there (pool_moments pool) (λ t v. elim (pool_vcpu pool v) [ None ↦ false | Some x ↦ has_moment_come t (done_moment x) ]) (running_guest g pool p.0)
    (λ v is. Awaits-there (pool_moments pool) (λ t x. has_moment_come t (done_moment x)) (pool_vcpu pool v)
    (λ x at. Awaits-come (pool_moments pool) (done_moment x) (λ end is. vcpu_in_pool pool v x end.0 at (Has-second end.0 x.asleep_until (done_moment x ∷ []) (Has-first end (done_moment x) [] is))))))
    (Awaits-there (pool_moments pool) (λ t q. is_not_stalled t q) (pool_processor g pool p.0) (λ q at. Awaits-moment (pool_moments pool) q.stall_end.0 (processor_named g pool p.0 q at)))
Awaits-in g pool (Slice r) =
    Awaits-there (pool_moments pool) (λ t c. has_moment_come t c.due && not c.pending && is_first_processor_up t c) (at_place pool.resources r.0)
    (λ c at. Awaits-and (pool_moments pool) (λ t. has_moment_come t c.due && not c.pending) (λ t. is_first_processor_up t c)
    (Awaits-and (pool_moments pool) (λ t. has_moment_come t c.due) (λ t. not c.pending)
    (Awaits-come (pool_moments pool) c.due (λ due is. core_in_pool pool r.0 c due.0 at (Has-left due.0 (some_of (c.due ∷ [])) (map (λ (q : Processor). q.stall_end.0) c.processors) (Has-first due c.due [] is))))
    (Awaits-fixed (pool_moments pool) (not c.pending)))
    (Awaits-first_up pool r.0 c at))
Awaits-in g pool (Repl u) =
    let ms : List ℕ = pool_moments pool in
    Awaits-and ms (λ t. (has_listed_unit pool.scheduler.queue u || is_some (unit_core pool u)) && policy.is_replenish_due pool.scheduler.records t u) (λ t. is_lowest_processor_up t pool)
    (Awaits-and ms (λ t. has_listed_unit pool.scheduler.queue u || is_some (unit_core pool u)) (λ t. policy.is_replenish_due pool.scheduler.records t u)
    (Awaits-fixed ms (has_listed_unit pool.scheduler.queue u || is_some (unit_core pool u)))
    (Awaits-wider (records_moments pool.scheduler.records) ms (λ t. policy.is_replenish_due pool.scheduler.records t u) (λ n h. records_in_pool pool n h) (Awaits-replenish_due pool.scheduler.records u)))
    (Awaits-lowest_up pool)
Awaits-in g pool (Refill d) =
    let ms : List ℕ = pool_moments pool in
    Awaits-and ms (λ t. has_moment_come t (policy.next_refill_moment pool.scheduler.records d.0)) (λ t. is_lowest_processor_up t pool)
    (Awaits-come ms (policy.next_refill_moment pool.scheduler.records d.0) (λ at is. records_in_pool pool at.0 (refill_named pool.scheduler.records d.0 at is)))
    (Awaits-lowest_up pool)
Awaits-in g pool (Arrive p) =
    let ms : List ℕ = pool_moments pool in
    let core : Bool = test_at pool.resources (p.0 / g) (λ c. c.pending && is_gathering c && is_none c.saving) in
    Awaits-and ms (λ t. core) (λ t. elim (pool_processor g pool p.0) [ None ↦ false | Some q ↦ not (is_held_back q) && is_not_stalled t q ]) (Awaits-fixed ms core) (Awaits-processor g pool p.0 (λ q. not (is_held_back q)))
Awaits-in g pool (Decide r) = Awaits-core pool r.0 (λ c. list_all is_held_back c.processors && is_gathering c)
Awaits-in g pool (Leave p) =
    let ms : List ℕ = pool_moments pool in
    let core : Bool = test_at pool.resources (p.0 / g) (λ c. not (is_gathering c)) in
    Awaits-and ms (λ t. core) (λ t. elim (pool_processor g pool p.0) [ None ↦ false | Some q ↦ is_held_back q && is_not_stalled t q ]) (Awaits-fixed ms core) (Awaits-processor g pool p.0 is_held_back)
Awaits-in g pool (Save r) = Awaits-core pool r.0 (λ c. is_some c.saving && not (list_any is_held_back c.processors))

-- an event at its subject's home
Awaits-home : (m : Machine) (s : State) (action : Action) → Awaits (moments m s) (λ t. enabled_at_home m s t action)
Awaits-home m s action =
    let g = m.config.granularity in
    Awaits-there (moments m s) (λ t i. test_at s.pools i (λ pool. enabled_in g t pool action)) (home_pool_of_action g s action)
    (λ i is. Awaits-there (moments m s) (λ t pool. enabled_in g t pool action) (at_place s.pools i)
    (λ pool at. Awaits-wider (pool_moments pool) (moments m s) (λ t. enabled_in g t pool action) (λ n h. pool_in_state m s i pool n at h) (Awaits-in g pool action)))

-- a core of no pool that is leaving, and whose first processor is up
Awaits-free : (m : Machine) (s : State) (r : ℕ) (c : FreeCore) → at_place s.free r ≡ Some c → Awaits (moments m s) (λ t. is_free_core_ready t c)
Awaits-free m s r c at =
    Awaits-and (moments m s) (λ t. is_some c.target) (λ t. elim c.stall_ends [ [] ↦ false | end ∷ ends ↦ nat_le end.0 t ]) (Awaits-fixed (moments m s) (is_some c.target))
    (elim c.stall_ends as (λ es. c.stall_ends ≡ es → Awaits (moments m s) (λ t. elim es [ [] ↦ false | end ∷ ends ↦ nat_le end.0 t ])) [
      | [] ↦ λ is. Awaits-fixed (moments m s) false
      | end ∷ ends ↦ λ is. Awaits-moment (moments m s) end.0
          (free_in_state m s r c end.0 at (subst (λ es. Has end.0 (map (λ (e : Moment). e.0) es)) (sym is) (inl refl)))
    ] refl)

-- any action
pub Awaits-enabled : (m : Machine) (s : State) (action : Action) → Awaits (moments m s) (λ t. is_action_enabled m s t action)
Awaits-enabled m s Stall = Awaits-there (moments m s) (λ t line. nat_le line.at.0 t) (slice_get m.work.stalls s.next_stall) (λ line at. Awaits-moment (moments m s) line.at.0 (stall_in_state m s line at))
Awaits-enabled m s Xl =
    Awaits-there (moments m s) (λ t line. nat_le line.at.0 t && not (has_move_under_way s)) (slice_get m.work.commands s.next_command)
    (λ line at. Awaits-and (moments m s) (λ t. nat_le line.at.0 t) (λ t. not (has_move_under_way s)) (Awaits-moment (moments m s) line.at.0 (command_in_state m s line at)) (Awaits-fixed (moments m s) (not (has_move_under_way s))))
Awaits-enabled m s (Moved r) =
    Awaits-or (moments m s) (λ t. test_at s.free r.0 (is_free_core_ready t)) (λ t. enabled_at_home m s t (Moved r))
    (Awaits-there (moments m s) (λ t c. is_free_core_ready t c) (at_place s.free r.0) (λ c at. Awaits-free m s r.0 c at))
    (Awaits-home m s (Moved r))
Awaits-enabled m s action = Awaits-home m s action
