-- What the end of a move does to the tool's part is what it does to the state.
use Rattle.sched_base.specs.Numbers.{pool as pool_number}
use Rattle.std.proofs.Common.{◌≡◌, ◌+◌, ℕ, zero, suc, Bool, true, false, List, [], ◌∷◌, Option, Some, None, length, map, refl, sym, ◌∙◌, ap, cond, subst, add-zero, zero-add, arith}
use Rattle.std.specs.Prelude.{is_some, option_map}
use Rattle.std.proofs.lemmas.List.{map-set}
use Rattle.sched_base.specs.declared.Moment.{Moment}
use Rattle.sched_base.specs.declared.Name.{Name}
use Rattle.sched_base.specs.declared.PoolId.{PoolId}
use Rattle.sched_model.specs.declared.config.DomParams.{DomParams}
use Rattle.sched_model.specs.declared.machine.Machine.{Machine}
use Rattle.sched_model.specs.declared.state.Domain.{Domain}
use Rattle.sched_model.specs.declared.state.FreeCore.{FreeCore}
use Rattle.sched_model.specs.declared.state.Pool.{Pool}
use Rattle.sched_model.specs.declared.state.Records.{Records}
use Rattle.sched_model.specs.declared.state.Records.TheVariants.{Credit2Pool, RtdsPool, ArincPool, NullPool}
use Rattle.sched_model.specs.declared.state.Resource.{Resource}
use Rattle.sched_model.specs.declared.state.State.{State}
use Rattle.sched_model.specs.Places.{at_place, change_at, put_at, clear_at, first_place, numbers_from}
use Rattle.sched_model.specs.Policy.{records_kind, parted_records, standard_dom_params}
use Rattle.sched_model.specs.Pool as pools
use Rattle.sched_model.specs.Pool.{settled_pool, pool_with_queued_units, domain_unit_count}
use Rattle.sched_model.specs.Actions.{home_pool_of_core, change_pool}
use Rattle.sched_model.specs.Opening.{joined_core}
use Rattle.sched_model.specs.Policy as policy
use Rattle.sched_model.specs.Machine.{after, state_after_moved, after_dom_moved, with_core_in, without_core_in, left_by, joined_by, is_null_pool, has_move_under_way}
use Rattle.sched_model.proofs.PlaceLemmas.{at_place-map}
use Rattle.journal_core.specs.Parts.{Outline, UnderWay, core_to, domain_to, pool_outline, first_answer, pool_under_way, core_to_leave, domain_to_move, core_to_join, state_under_way}
use Rattle.cpupool.specs.Tool.{Tool, tool_of}
use Rattle.cpupool.specs.Verdicts.{outlined_core_home}
use Rattle.cpupool.specs.ToolArrival.{with_core, outline_with_domain, outline_without_domain, outlined_size, handed_over, pools_after, after_arrival, action_of, but_for_free, EndsTheMove}
use Rattle.cpupool.proofs.OpenedLemmas.{joined_kind}
use Rattle.cpupool.proofs.AlikeLemmas.{IsAlike, queued_alike}
use Rattle.cpupool.proofs.SightLemmas.{domain_sight, outline_still, settled_still}
use Rattle.cpupool.proofs.SubjectLemmas.{core_home-seen, domain_home-seen}
use Rattle.cpupool.proofs.WayLemmas.{under_way-seen}
use Rattle.cpupool.proofs.StallLemmas.{map_changed}
use Rattle.cpupool.proofs.AnswerLemmas.{none_at, none_either}
use Rattle.cpupool.specs.Tool.{domain_size}
use Rattle.journal_core.specs.Parts.{is_leaving}
use Rattle.journal_core.specs.Parts.{or_else}

-- the place that answers
abbrev Found : {X Y : Type 0} → (ℕ → X → Option Y) → ℕ → List (Option X) → Y → Type 0
Found {X} {Y} h n places y = (i : ℕ) × (x : X) × (at_place places i ≡ Some x) × (h (n + i) x ≡ Some y)

one_on : (n i : ℕ) → n + suc i ≡ suc n + i
one_on n i = omega arith

behind : {X Y : Type 0} (h : ℕ → X → Option Y) (n : ℕ) (first : Option X) (places : List (Option X)) (y : Y) → Found h (suc n) places y → Found h n (first ∷ places) y
behind h n first places y found = (suc found.0, found.1, found.2, ap (λ k. h k found.1) (one_on n found.0) ∙ found.3)

answer_there : {X Y : Type 0} (h : ℕ → X → Option Y) (n : ℕ) (places : List (Option X)) (y : Y) → first_answer h n places ≡ Some y → Found h n places y
answer_there h n [] y found = cc
answer_there h n (None ∷ places) y found = behind h n None places y (answer_there h (suc n) places y found)
answer_there {X} {Y} h n (Some x ∷ places) y found = by_answer (h n x) found refl (answer_there h (suc n) places y)
  where
    by_answer : (o : Option Y) → (elim o [ Some z ↦ Some z | None ↦ first_answer h (suc n) places ]) ≡ Some y → h n x ≡ o → (first_answer h (suc n) places ≡ Some y → Found h (suc n) places y) → Found h n (Some x ∷ places) y
    by_answer (Some z) found is rest = (zero, x, refl, ap (λ k. h k x) (add-zero n) ∙ is ∙ found)
    by_answer None found is rest = behind h n (Some x) places y (rest found)

-- some place passes the test
some_place : {X : Type 0} (test : X → Bool) (n : ℕ) (places : List (Option X)) (i : ℕ) (x : X) → at_place places i ≡ Some x → test x ≡ true → is_some (first_place n test places) ≡ true
some_place test n [] i x there passes = cc
some_place test n (None ∷ places) zero x there passes = cc
some_place test n (Some y ∷ places) zero x there passes =
    let same : y ≡ x = cc in
    ap (λ b. is_some (elim b [ true ↦ Some n | false ↦ first_place (suc n) test places ])) (ap test same ∙ passes)
some_place test n (None ∷ places) (suc i) x there passes = some_place test (suc n) places i x there passes
some_place test n (Some y ∷ places) (suc i) x there passes = elim (test y) as (λ b. is_some (elim b [ true ↦ Some n | false ↦ first_place (suc n) test places ]) ≡ true) [
  | true ↦ refl
  | false ↦ some_place test (suc n) places i x there passes
]

-- what each answer tells
leaving_core : (b : Bool) (k r : ℕ) (to : Option ℕ) → cond b (Some (core_to k None)) None ≡ Some (core_to r to) → (k ≡ r) × (to ≡ None)
leaving_core true k r to found = (cc, cc)
leaving_core false k r to found = cc

leaving_no_domain : (b : Bool) (k d j : ℕ) → cond b (Some (core_to k None)) None ≡ Some (domain_to d j) → true ≡ false
leaving_no_domain true k d j found = cc
leaving_no_domain false k d j found = cc

moving_domain : (o : Option PoolId) (k d j : ℕ) → option_map (λ (i : PoolId). domain_to k i.0) o ≡ Some (domain_to d j) → (k ≡ d) × (o ≡ Some (pool_number j))
moving_domain None k d j found = cc
moving_domain (Some i) k d j found =
    let same : i.0 ≡ j = cc in
    let here : k ≡ d = cc in
    (here, ap (λ n. Some (pool_number n)) same)

moving_no_core : (o : Option PoolId) (k r : ℕ) (to : Option ℕ) → option_map (λ (i : PoolId). domain_to k i.0) o ≡ Some (core_to r to) → true ≡ false
moving_no_core None k r to found = cc
moving_no_core (Some i) k r to found = cc

joining_core : (o : Option ℕ) (k r : ℕ) (to : Option ℕ) → option_map (λ (i : ℕ). core_to k (Some i)) o ≡ Some (core_to r to) → (k ≡ r) × (o ≡ to)
joining_core None k r to found = cc
joining_core (Some i) k r to found = (cc, cc)

joining_no_domain : (o : Option ℕ) (k d j : ℕ) → option_map (λ (i : ℕ). core_to k (Some i)) o ≡ Some (domain_to d j) → true ≡ false
joining_no_domain None k d j found = cc
joining_no_domain (Some i) k d j found = cc

-- a core that is on its way from a pool is one of the pool's, and is to have none
pool_core : (n : ℕ) (pool : Pool) (r : ℕ) (to : Option ℕ) → pool_under_way n pool ≡ Some (core_to r to) → (is_some (at_place pool.resources r) ≡ true) × (to ≡ None)
pool_core n pool r to found = by_core (first_answer core_to_leave 0 pool.resources) found refl
  where
    by_core : (a : Option UnderWay) → or_else a (first_answer domain_to_move 0 pool.domains) ≡ Some (core_to r to) → first_answer core_to_leave 0 pool.resources ≡ a → (is_some (at_place pool.resources r) ≡ true) × (to ≡ None)
    by_core (Some way) found is =
        let there = answer_there core_to_leave 0 pool.resources (core_to r to) (is ∙ found) in
        let told = leaving_core (there.1).leaving (0 + there.0) r to there.3 in
        (ap (λ k. is_some (at_place pool.resources k)) (sym (sym (zero-add there.0) ∙ told.0)) ∙ ap is_some there.2, told.1)
    by_core None found is =
        let there = answer_there domain_to_move 0 pool.domains (core_to r to) found in
        let never = moving_no_core (there.1).moving (0 + there.0) r to there.3 in
        cc never

-- a domain that is on its way from a pool is one of the pool's
pool_domain : (n : ℕ) (pool : Pool) (d j : ℕ) → pool_under_way n pool ≡ Some (domain_to d j) → (domain : Domain) × (at_place pool.domains d ≡ Some domain) × (domain.moving ≡ Some (pool_number j))
pool_domain n pool d j found = by_core (first_answer core_to_leave 0 pool.resources) found refl
  where
    by_core : (a : Option UnderWay) → or_else a (first_answer domain_to_move 0 pool.domains) ≡ Some (domain_to d j) → first_answer core_to_leave 0 pool.resources ≡ a
        → (domain : Domain) × (at_place pool.domains d ≡ Some domain) × (domain.moving ≡ Some (pool_number j))
    by_core (Some way) found is =
        let there = answer_there core_to_leave 0 pool.resources (domain_to d j) (is ∙ found) in
        let never = leaving_no_domain (there.1).leaving (0 + there.0) d j there.3 in
        cc never
    by_core None found is =
        let there = answer_there domain_to_move 0 pool.domains (domain_to d j) found in
        let told = moving_domain (there.1).moving (0 + there.0) d j there.3 in
        (there.1, ap (at_place pool.domains) (sym (sym (zero-add there.0) ∙ told.0)) ∙ there.2, told.1)

-- a core that is to join a pool is one of none, and that pool is its target
pub core_joins : (s : State) (r i : ℕ) → state_under_way s ≡ Some (core_to r (Some i)) → (c : FreeCore) × (at_place s.free r ≡ Some c) × (c.target ≡ Some i)
core_joins s r i found = by_pools (first_answer pool_under_way 0 s.pools) found refl
  where
    by_pools : (a : Option UnderWay) → or_else a (first_answer core_to_join 0 s.free) ≡ Some (core_to r (Some i)) → first_answer pool_under_way 0 s.pools ≡ a
        → (c : FreeCore) × (at_place s.free r ≡ Some c) × (c.target ≡ Some i)
    by_pools (Some way) found is =
        let there = answer_there pool_under_way 0 s.pools (core_to r (Some i)) (is ∙ found) in
        let told = pool_core (0 + there.0) there.1 r (Some i) there.3 in
        let never = told.1 in
        cc never
    by_pools None found is =
        let there = answer_there core_to_join 0 s.free (core_to r (Some i)) found in
        let told = joining_core (there.1).target (0 + there.0) r (Some i) there.3 in
        (there.1, ap (at_place s.free) (sym (sym (zero-add there.0) ∙ told.0)) ∙ there.2, told.1)

-- a core that is to have no pool is in one
core_leaves : (s : State) (r : ℕ) → state_under_way s ≡ Some (core_to r None) → is_some (home_pool_of_core s r) ≡ true
core_leaves s r found = by_pools (first_answer pool_under_way 0 s.pools) found refl
  where
    by_pools : (a : Option UnderWay) → or_else a (first_answer core_to_join 0 s.free) ≡ Some (core_to r None) → first_answer pool_under_way 0 s.pools ≡ a → is_some (home_pool_of_core s r) ≡ true
    by_pools (Some way) found is =
        let there = answer_there pool_under_way 0 s.pools (core_to r None) (is ∙ found) in
        let told = pool_core (0 + there.0) there.1 r None there.3 in
        some_place (λ (pool : Pool). is_some (at_place pool.resources r)) 0 s.pools there.0 there.1 there.2 told.0
    by_pools None found is =
        let there = answer_there core_to_join 0 s.free (core_to r None) found in
        let told = joining_core (there.1).target (0 + there.0) r None there.3 in
        let back = ap (option_map (λ (i : ℕ). core_to (0 + there.0) (Some i))) told.1 in
        let never = sym back ∙ there.3 in
        cc never

-- the home of a domain that is on its way, and where that goes, if anywhere
abbrev HomeFound : ℕ → ℕ → ℕ → List (Option Pool) → Type 0
HomeFound d j n places =
    (i : ℕ) × (pool : Pool) × (domain : Domain) × (first_place n (λ (p : Pool). is_some (at_place p.domains d)) places ≡ Some (n + i)) × (at_place places i ≡ Some pool)
    × (at_place pool.domains d ≡ Some domain) × ((to : PoolId) → domain.moving ≡ Some to → to.0 ≡ j)

home_behind : (d j n : ℕ) (first : Option Pool) (places : List (Option Pool)) → first_place n (λ (p : Pool). is_some (at_place p.domains d)) (first ∷ places) ≡ first_place (suc n) (λ (p : Pool). is_some (at_place p.domains d)) places
    → HomeFound d j (suc n) places → HomeFound d j n (first ∷ places)
home_behind d j n first places same found = (suc found.0, found.1, found.2, same ∙ found.3 ∙ ap (λ k. Some k) (sym (one_on n found.0)), found.4, found.5, found.6)

home_here : (d j n : ℕ) (pool : Pool) (places : List (Option Pool)) (domain : Domain) → at_place pool.domains d ≡ Some domain → ((to : PoolId) → domain.moving ≡ Some to → to.0 ≡ j) → HomeFound d j n (Some pool ∷ places)
home_here d j n pool places domain there goes =
    let by_domain : Option Domain → Option ℕ = λ o. elim (is_some o) [ true ↦ Some n | false ↦ first_place (suc n) (λ (p : Pool). is_some (at_place p.domains d)) places ] in
    (zero, pool, domain, ap by_domain there ∙ ap (λ k. Some k) (sym (add-zero n)), refl, there, goes)

target_is : (o : Option PoolId) (j : ℕ) → o ≡ Some (pool_number j) → (to : PoolId) → o ≡ Some to → to.0 ≡ j
target_is o j is to goes = ap (λ (x : Option PoolId). elim x [ None ↦ j | Some p ↦ p.0 ]) (sym goes ∙ is)

goes_nowhere : (o : Option PoolId) (d j : ℕ) → option_map (λ (i : PoolId). domain_to d i.0) o ≡ None → (to : PoolId) → o ≡ Some to → to.0 ≡ j
goes_nowhere None d j none to goes = cc
goes_nowhere (Some i) d j none to goes = cc

home_found : (d j n : ℕ) (places : List (Option Pool)) → first_answer pool_under_way n places ≡ Some (domain_to d j) → HomeFound d j n places
home_found d j n [] found = cc
home_found d j n (None ∷ places) found = home_behind d j n None places refl (home_found d j (suc n) places found)
home_found d j n (Some pool ∷ places) found = by_pool (pool_under_way n pool) found refl (home_found d j (suc n) places)
  where
    by_domain : (o : Option Domain) → at_place pool.domains d ≡ o → pool_under_way n pool ≡ None → HomeFound d j (suc n) places → HomeFound d j n (Some pool ∷ places)
    by_domain (Some domain) there none rest =
        let quiet = none_either (first_answer core_to_leave 0 pool.resources) (first_answer domain_to_move 0 pool.domains) none in
        home_here d j n pool places domain there (goes_nowhere domain.moving (0 + d) j (none_at domain_to_move d 0 pool.domains domain quiet.1 there))
    by_domain None there none rest =
        let by_place : Option Domain → Option ℕ = λ o. elim (is_some o) [ true ↦ Some n | false ↦ first_place (suc n) (λ (p : Pool). is_some (at_place p.domains d)) places ] in
        home_behind d j n (Some pool) places (ap by_place there) rest

    by_pool : (a : Option UnderWay) → or_else a (first_answer pool_under_way (suc n) places) ≡ Some (domain_to d j) → pool_under_way n pool ≡ a
        → (first_answer pool_under_way (suc n) places ≡ Some (domain_to d j) → HomeFound d j (suc n) places) → HomeFound d j n (Some pool ∷ places)
    by_pool (Some way) found is rest =
        let told = pool_domain n pool d j (is ∙ found) in
        home_here d j n pool places told.0 told.1 (target_is (told.0).moving j told.2)
    by_pool None found is rest = by_domain (at_place pool.domains d) refl is (rest found)

domain_goes : (s : State) (d j : ℕ) → state_under_way s ≡ Some (domain_to d j) → HomeFound d j 0 s.pools
domain_goes s d j found = by_pools (first_answer pool_under_way 0 s.pools) found refl
  where
    by_pools : (a : Option UnderWay) → or_else a (first_answer core_to_join 0 s.free) ≡ Some (domain_to d j) → first_answer pool_under_way 0 s.pools ≡ a → HomeFound d j 0 s.pools
    by_pools (Some way) found is = home_found d j 0 s.pools (is ∙ found)
    by_pools None found is =
        let there = answer_there core_to_join 0 s.free (domain_to d j) found in
        let never = joining_no_domain (there.1).target (0 + there.0) d j there.3 in
        cc never

-- the outlines of a pool that a core or a domain joins or leaves
core_joined : (t r : ℕ) (x : Resource) (pool : Pool) → pool_outline (settled_pool t (record pool { resources = put_at r x pool.resources })) ≡ with_core r true (pool_outline pool)
core_joined t r x pool =
    let next : Pool = record pool { resources = put_at r x pool.resources } in
    outline_still (settled_pool t next) next (settled_still t next) ∙ ap (λ (cores : List Bool). record (pool_outline pool) { cores = cores }) (map-set is_some pool.resources r (Some x))

core_parted : (t r : ℕ) (pool : Pool) → pool_outline (settled_pool t (record pool { resources = clear_at r pool.resources })) ≡ with_core r false (pool_outline pool)
core_parted t r pool =
    let next : Pool = record pool { resources = clear_at r pool.resources } in
    outline_still (settled_pool t next) next (settled_still t next) ∙ ap (λ (cores : List Bool). record (pool_outline pool) { cores = cores }) (map-set is_some pool.resources r None)

parted_kind : (records : Records) (d : ℕ) → records_kind (parted_records records d) ≡ records_kind records
parted_kind (Credit2Pool records) d = refl
parted_kind (RtdsPool domains) d = refl
parted_kind (ArincPool records) d = refl
parted_kind (NullPool kept) d = refl

without_seen : (d : ℕ) (pool : Pool) → pool_outline (pools.pool_without_domain d pool) ≡ outline_without_domain d (pool_outline pool)
without_seen d pool =
    ap (λ kind. record (pool_outline (pools.pool_without_domain d pool)) { kind = kind }) (parted_kind pool.scheduler.records d)
    ∙ ap (λ domains. record (pool_outline pool) { domains = domains }) (map-set (option_map domain_size) pool.domains d None)

domain_parted : (t d : ℕ) (pool : Pool) → pool_outline (left_by t d pool) ≡ outline_without_domain d (pool_outline pool)
domain_parted t d pool =
    let next : Pool = pools.pool_without_domain d pool in
    elim (is_null_pool pool.scheduler.records) as (λ b. pool_outline (cond b (settled_pool t next) next) ≡ outline_without_domain d (pool_outline pool)) [
      | true ↦ outline_still (settled_pool t next) next (settled_still t next) ∙ without_seen d pool
      | false ↦ without_seen d pool
    ]

alike_outline : (p q : Pool) → IsAlike p q → pool_outline p ≡ pool_outline q
alike_outline p q same = outline_still p q (record { kind = same.kind; cores = ap (map (option_map is_leaving)) same.resources; domains = ap (map (option_map domain_sight)) same.domains })

domain_joined : (g t d : ℕ) (domain : Domain) (pool : Pool) → pool_outline (joined_by g t d domain pool) ≡ outline_with_domain d (length domain.vcpus) (pool_outline pool)
domain_joined g t d domain pool =
    let joining : Domain = record domain { moving = None } in
    let params : DomParams = standard_dom_params pool.scheduler.records in
    let base : Pool = record pool { domains = put_at d joining pool.domains; scheduler = policy.joined_scheduler d (domain_unit_count g joining) params t pool.scheduler } in
    let next : Pool = pool_with_queued_units g d (numbers_from 0 (domain_unit_count g joining)) base in
    outline_still (settled_pool t next) next (settled_still t next)
    ∙ alike_outline next base (queued_alike g d (numbers_from 0 (domain_unit_count g joining)) base)
    ∙ ap (λ kind. record (pool_outline base) { kind = kind }) (joined_kind pool.scheduler.records params d (domain_unit_count g joining) t)
    ∙ ap (λ domains. record (pool_outline pool) { domains = domains }) (map-set (option_map domain_size) pool.domains d (Some joining))

-- the state after, whose pools have these outlines
record IsAfter (s next : State) (outlines : List (Option Outline)) : Type 0 where
  names : next.names ≡ s.names
  seen : map (option_map pool_outline) next.pools ≡ outlines
  stall : next.next_stall ≡ s.next_stall
  command : next.next_command ≡ s.next_command

-- what the tool knows of such a state
abbrev tool_with : Machine → List (Option (List Moment)) → List (Option Name) → List (Option Outline) → Option UnderWay → ℕ → ℕ → Tool
tool_with m free names outlines way stall command =
    record (tool_of m (record { now = 0; pools = []; names = []; free = []; next_stall = 0; next_command = 0 })) {
      part = record { names = names; pools = outlines; free = free; under_way = way; next_stall = stall; next_command = command };
    }

same_after : (m : Machine) (s next : State) (outlines : List (Option Outline)) (free : List (Option (List Moment))) → IsAfter s next outlines → state_under_way next ≡ None
    → tool_with m free s.names outlines None s.next_stall s.next_command ≡ but_for_free free (tool_of m next)
same_after m s next outlines free seen none =
    ap (λ names. tool_with m free names outlines None s.next_stall s.next_command) (sym seen.names)
    ∙ ap (λ pools. tool_with m free next.names pools None s.next_stall s.next_command) (sym seen.seen)
    ∙ ap (λ way. tool_with m free next.names (map (option_map pool_outline) next.pools) way s.next_stall s.next_command) (sym none)
    ∙ ap (λ stall. tool_with m free next.names (map (option_map pool_outline) next.pools) (state_under_way next) stall s.next_command) (sym seen.stall)
    ∙ ap (λ command. tool_with m free next.names (map (option_map pool_outline) next.pools) (state_under_way next) next.next_stall command) (sym seen.command)

no_way : (s : State) → has_move_under_way s ≡ false → state_under_way s ≡ None
no_way s none = by_way (state_under_way s) (under_way-seen s ∙ none)
  where
    by_way : (o : Option UnderWay) → is_some o ≡ false → o ≡ None
    by_way None e = refl
    by_way (Some way) e = cc

-- a state in which something is on its way is none in which nothing is
stuck : (s next : State) (way : UnderWay) → state_under_way s ≡ Some way → has_move_under_way next ≡ false → next ≡ s → true ≡ false
stuck s next way is none same =
    let still : state_under_way s ≡ None = no_way s (ap has_move_under_way (sym same) ∙ none) in
    let never : Some way ≡ None = sym is ∙ still in
    cc never

-- the pools as the tool knows them
abbrev seen_pools : State → List (Option Outline)
seen_pools s = map (option_map pool_outline) s.pools

-- a core joins a pool
joined_seen : (s : State) (t r i : ℕ) → state_under_way s ≡ Some (core_to r (Some i)) → IsAfter s (state_after_moved t r s) (pools_after (seen_pools s) (core_to r (Some i)))
joined_seen s t r i is =
    let found = core_joins s r i is in
    let c : FreeCore = found.0 in
    let by_home : State = elim (home_pool_of_core s r) [
      | None ↦ s
      | Some k ↦ elim (at_place s.pools k) [ None ↦ s | Some pool ↦ elim (at_place pool.resources r) [ None ↦ s | Some x ↦ without_core_in t r k x s ] ]
    ] in
    let by_free : Option FreeCore → State = λ o. elim o [ Some x ↦ elim x.target [ None ↦ s | Some k ↦ with_core_in t r k x s ] | None ↦ by_home ] in
    let by_target : Option ℕ → State = λ o. elim o [ None ↦ s | Some k ↦ with_core_in t r k c s ] in
    let same : state_after_moved t r s ≡ with_core_in t r i c s = ap by_free found.1 ∙ ap by_target found.2 in
    let change : Pool → Pool = λ pool. settled_pool t (record pool { resources = put_at r (joined_core c.stall_ends) pool.resources }) in
    let seen : IsAfter s (with_core_in t r i c s) (pools_after (seen_pools s) (core_to r (Some i))) = record {
      names = refl;
      seen = map_changed pool_outline change (with_core r true) (core_joined t r (joined_core c.stall_ends)) i s.pools;
      stall = refl;
      command = refl;
    } in
    subst (λ next. IsAfter s next (pools_after (seen_pools s) (core_to r (Some i)))) (sym same) seen

-- a core leaves its pool
module _ (m : Machine) (s : State) (t r : ℕ) (is : state_under_way s ≡ Some (core_to r None)) (ends : EndsTheMove m s t (action_of (core_to r None))) where
  abbrev Left : Type 0
  Left = IsAfter s (state_after_moved t r s) (pools_after (seen_pools s) (core_to r None))

  abbrev left_resource : ℕ → Option Resource → State
  left_resource k o = elim o [ None ↦ s | Some x ↦ without_core_in t r k x s ]

  abbrev left_pool : ℕ → Option Pool → State
  left_pool k o = elim o [ None ↦ s | Some pool ↦ left_resource k (at_place pool.resources r) ]

  abbrev left_home : Option ℕ → State
  left_home o = elim o [ None ↦ s | Some k ↦ left_pool k (at_place s.pools k) ]

  abbrev left_free : Option FreeCore → State
  left_free o = elim o [ Some x ↦ elim x.target [ None ↦ s | Some k ↦ with_core_in t r k x s ] | None ↦ left_home (home_pool_of_core s r) ]

  abbrev left_outlines : Option ℕ → List (Option Outline)
  left_outlines o = elim o [ None ↦ seen_pools s | Some k ↦ change_at k (with_core r false) (seen_pools s) ]

  detached_seen : (i : ℕ) (c : Resource) → home_pool_of_core s r ≡ Some i → state_after_moved t r s ≡ without_core_in t r i c s → Left
  detached_seen i c home same =
      let change : Pool → Pool = λ pool. settled_pool t (record pool { resources = clear_at r pool.resources }) in
      let there : outlined_core_home (seen_pools s) r ≡ Some i = core_home-seen m s r ∙ home in
      let seen : IsAfter s (without_core_in t r i c s) (pools_after (seen_pools s) (core_to r None)) = record {
        names = refl;
        seen = map_changed pool_outline change (with_core r false) (core_parted t r) i s.pools ∙ sym (ap left_outlines there);
        stall = refl;
        command = refl;
      } in
      subst (λ next. IsAfter s next (pools_after (seen_pools s) (core_to r None))) (sym same) seen

  left_by_resource : (i : ℕ) (o : Option Resource) → home_pool_of_core s r ≡ Some i → state_after_moved t r s ≡ left_resource i o → Left
  left_by_resource i None home same =
      let never : true ≡ false = stuck s (state_after_moved t r s) (core_to r None) is ends.last same in
      cc never
  left_by_resource i (Some c) home same = detached_seen i c home same

  left_by_pool : (i : ℕ) (o : Option Pool) → home_pool_of_core s r ≡ Some i → state_after_moved t r s ≡ left_pool i o → Left
  left_by_pool i None home same =
      let never : true ≡ false = stuck s (state_after_moved t r s) (core_to r None) is ends.last same in
      cc never
  left_by_pool i (Some pool) home same = left_by_resource i (at_place pool.resources r) home same

  left_by_free : (i : ℕ) (o : Option FreeCore) → at_place s.free r ≡ o → home_pool_of_core s r ≡ Some i → Left
  left_by_free i (Some c) there home =
      let none : home_pool_of_core s r ≡ None = ends.free r c there in
      let never : Some i ≡ None = sym home ∙ none in
      cc never
  left_by_free i None there home = left_by_pool i (at_place s.pools i) home (ap left_free there ∙ ap left_home home)

  left_by_home : (o : Option ℕ) → home_pool_of_core s r ≡ o → is_some (home_pool_of_core s r) ≡ true → Left
  left_by_home None home some =
      let never : true ≡ false = sym some ∙ ap is_some home in
      cc never
  left_by_home (Some i) home some = left_by_free i (at_place s.free r) refl home

  left_seen : Left
  left_seen = left_by_home (home_pool_of_core s r) refl (core_leaves s r is)

-- a domain goes to another pool
module _ (m : Machine) (s : State) (t d j : ℕ) (is : state_under_way s ≡ Some (domain_to d j)) (ends : EndsTheMove m s t (action_of (domain_to d j))) (found : HomeFound d j 0 s.pools) where
  abbrev g : ℕ
  g = m.config.granularity

  abbrev i : ℕ
  i = 0 + found.0

  abbrev pool_there : Pool
  pool_there = found.1

  abbrev domain_there : Domain
  domain_there = found.2

  abbrev Gone : Type 0
  Gone = IsAfter s (after_dom_moved g t d s) (pools_after (seen_pools s) (domain_to d j))

  abbrev gone_moving : ℕ → Domain → Option PoolId → State
  gone_moving k domain o = elim o [ None ↦ s | Some to ↦ change_pool to.0 (joined_by g t d domain) (change_pool k (left_by t d) s) ]

  abbrev gone_domain : ℕ → Option Domain → State
  gone_domain k o = elim o [ None ↦ s | Some domain ↦ gone_moving k domain domain.moving ]

  abbrev gone_pool : ℕ → Option Pool → State
  gone_pool k o = elim o [ None ↦ s | Some pool ↦ gone_domain k (at_place pool.domains d) ]

  abbrev gone_home : Option ℕ → State
  gone_home o = elim o [ None ↦ s | Some k ↦ gone_pool k (at_place s.pools k) ]

  pool_is : at_place s.pools i ≡ Some pool_there
  pool_is = ap (at_place s.pools) (zero-add found.0) ∙ found.4

  gone_same : after_dom_moved g t d s ≡ gone_moving i domain_there domain_there.moving
  gone_same = ap gone_home found.3 ∙ ap (gone_pool i) pool_is ∙ ap (gone_domain i) found.5

  abbrev gone_outlines : Option ℕ → List (Option Outline)
  gone_outlines o = elim o [ None ↦ seen_pools s | Some k ↦ handed_over d k j (seen_pools s) ]

  abbrev gone_size : Option ℕ → List (Option Outline)
  gone_size o = elim o [ None ↦ seen_pools s | Some vcpus ↦ change_at j (outline_with_domain d vcpus) (change_at i (outline_without_domain d) (seen_pools s)) ]

  abbrev size_in : Option Outline → Option ℕ
  size_in o = elim o [ None ↦ None | Some x ↦ at_place x.domains d ]

  size_is : outlined_size (seen_pools s) i d ≡ Some (length domain_there.vcpus)
  size_is = ap size_in (at_place-map pool_outline s.pools i ∙ ap (option_map pool_outline) pool_is) ∙ at_place-map domain_size pool_there.domains d ∙ ap (option_map domain_size) found.5

  seen_after : pools_after (seen_pools s) (domain_to d j) ≡ change_at j (outline_with_domain d (length domain_there.vcpus)) (change_at i (outline_without_domain d) (seen_pools s))
  seen_after = ap gone_outlines (domain_home-seen m s d ∙ found.3) ∙ ap gone_size size_is

  moved_seen : (to : PoolId) → domain_there.moving ≡ Some to → Gone
  moved_seen to goes =
      let next : State = change_pool to.0 (joined_by g t d domain_there) (change_pool i (left_by t d) s) in
      let vcpus : ℕ = length domain_there.vcpus in
      let pools_seen =
      map_changed pool_outline (joined_by g t d domain_there) (outline_with_domain d vcpus) (domain_joined g t d domain_there) to.0 (change_at i (left_by t d) s.pools)
      ∙ ap (change_at to.0 (outline_with_domain d vcpus)) (map_changed pool_outline (left_by t d) (outline_without_domain d) (domain_parted t d) i s.pools)
      ∙ ap (λ k. change_at k (outline_with_domain d vcpus) (change_at i (outline_without_domain d) (seen_pools s))) (found.6 to goes) in
      let seen : IsAfter s next (pools_after (seen_pools s) (domain_to d j)) = record { names = refl; seen = pools_seen ∙ sym seen_after; stall = refl; command = refl } in
      subst (λ x. IsAfter s x (pools_after (seen_pools s) (domain_to d j))) (sym (gone_same ∙ ap (gone_moving i domain_there) goes)) seen

  gone_by_moving : (o : Option PoolId) → domain_there.moving ≡ o → Gone
  gone_by_moving None goes =
      let never : true ≡ false = stuck s (after_dom_moved g t d s) (domain_to d j) is ends.last (gone_same ∙ ap (gone_moving i domain_there) goes) in
      cc never
  gone_by_moving (Some to) goes = moved_seen to goes

  gone_seen : Gone
  gone_seen = gone_by_moving domain_there.moving refl

module _ (m : Machine) (s : State) (t : ℕ) where
  way_seen : (way : UnderWay) → state_under_way s ≡ Some way → EndsTheMove m s t (action_of way) → IsAfter s (after m s t (action_of way)) (pools_after (seen_pools s) way)
  way_seen (core_to r None) is ends = left_seen m s t r is ends
  way_seen (core_to r (Some i)) is ends = joined_seen s t r i is
  way_seen (domain_to d j) is ends = gone_seen m s t d j is ends (domain_goes s d j is)

  -- what the end of the move does
  pub arrived-seen : (way : UnderWay) (free : List (Option (List Moment))) → state_under_way s ≡ Some way → EndsTheMove m s t (action_of way)
      → after_arrival (but_for_free free (tool_of m s)) ≡ but_for_free free (tool_of m (after m s t (action_of way)))
  arrived-seen way free is ends =
      let tool : Tool = but_for_free free (tool_of m s) in
      let by_under_way : Option UnderWay → Tool = λ o. elim o [ None ↦ tool | Some w ↦ record tool { part = record tool.part { pools = pools_after (seen_pools s) w; under_way = None } } ] in
      ap by_under_way is ∙ same_after m s (after m s t (action_of way)) (pools_after (seen_pools s) way) free (way_seen way is ends) (no_way (after m s t (action_of way)) ends.last)
