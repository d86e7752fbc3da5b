-- The move of a domain: what it finds, what it leaves of its two pools, and what the tool knows after it.
use Rattle.std.proofs.Common.{◌≡◌, ◌≢◌, ◌≤◌, ◌<◌, ◌∙◌, ◌+◌, ◌-◌, ℕ, zero, suc, Bool, true, false, List, [], ◌∷◌, length, map, refl, sym, ap, subst, arith, cond, get_or-set_other, length-set}
use Rattle.std.specs.Prelude.{Option, Some, None, is_some, option_map, slice_index_or, slice_set, unwrap_or}
use Rattle.std.specs.Option.{ForSome}
use Rattle.std.proofs.lemmas.List.Elements.{recursion_from_All}
use Rattle.sched_base.specs.Numbers.{domain as domain_number, pool as pool_number, span}
use Rattle.sched_base.specs.declared.DomId.{DomId}
use Rattle.sched_base.specs.declared.Moment.{Moment}
use Rattle.sched_base.specs.declared.PoolId.{PoolId}
use Rattle.sched_base.specs.declared.UnitId.{UnitId}
use Rattle.sched_base.proofs.Lists.{each_get}
use Rattle.sched_model.specs.declared.action.Action.TheVariants.{DomMoved}
use Rattle.sched_model.specs.declared.config.DomParams.{DomParams}
use Rattle.sched_model.specs.declared.config.SchedKind.{SchedKind}
use Rattle.sched_model.specs.declared.config.SchedKind.TheVariants as kinds
use Rattle.sched_model.specs.declared.event.Entry.{Entry}
use Rattle.sched_model.specs.declared.event.Event.TheVariants as event
use Rattle.sched_model.specs.declared.facts.Stored.{Stored}
use Rattle.sched_model.specs.declared.facts.Stored.TheVariants as stored
use Rattle.sched_model.specs.declared.machine.Machine.{Machine}
use Rattle.sched_model.specs.declared.state.Credit2Domain.{Credit2Domain}
use Rattle.sched_model.specs.declared.state.Domain.{Domain}
use Rattle.sched_model.specs.declared.state.FreeCore.{FreeCore}
use Rattle.sched_model.specs.declared.state.Pool.{Pool}
use Rattle.sched_model.specs.declared.state.Records.{Records}
use Rattle.sched_model.specs.declared.state.Records.TheVariants.{Credit2Pool, RtdsPool, ArincPool, NullPool}
use Rattle.sched_model.specs.declared.state.RtdsUnit.{RtdsUnit}
use Rattle.sched_model.specs.declared.state.State.{State}
use Rattle.sched_model.specs.Actions.{home_pool_of_domain}
use Rattle.sched_model.specs.CheckedMachine.{IsChecked, IsCheckedDomain}
use Rattle.sched_model.specs.Machine.{after, event_of, home_pool, is_action_enabled, is_null_pool, joined_by, left_by}
use Rattle.sched_model.specs.Opening.{absent_pool}
use Rattle.sched_model.specs.Places.{at_place, numbers_from}
use Rattle.sched_model.specs.Policy.{domain_credit2_record, standard_dom_params, records_kind, unit_rtds_record}
use Rattle.sched_model.specs.Pool.{enabled_in, event_in, settled_pool, domain_unit_count, pool_with_domain, pool_without_domain}
use Rattle.sched_model.specs.Runs.{IsRun, run_start}
use Rattle.sched_laws.specs.StateLaws.{state_after}
use Rattle.sched_laws.proofs.EachPlace.{is_empty, place_below}
use Rattle.sched_laws.proofs.Lists.{is_some_at, some_is, test_at-some, same_read}
use Rattle.sched_laws.proofs.PoolsLaw.{pools_keep_their_own}
use Rattle.sched_laws.proofs.SiblingsLaw.{some_processor}
use Rattle.sched_ops.specs.Conditions.{AreDomParams}
use Rattle.sched_model.specs.Policy.{unit_stored}
use Rattle.sched_model.proofs.PlaceLemmas.{at_place-map}
use Rattle.state_ranges.specs.Ranges.{DomainInRange}
use Rattle.journal_core.specs.Parts.{Outline, ToolPart, UnderWay, domain_to, pool_outline, tool_of as part_of_tool, state_under_way}
use Rattle.composition_laws.proofs.Alike.{mover_of}
use Rattle.composition_laws.proofs.Begun.{housed_opening}
use Rattle.composition_laws.proofs.NamesLaw.{housed_from, moves-away}
use Rattle.composition_laws.proofs.Counted.{in_all, in_all_is}
use Rattle.composition_laws.proofs.Ending.{Moving, domain_found}
use Rattle.composition_laws.proofs.MoveLaw.{has_one_move}
use Rattle.composition_laws.proofs.Whose.{moving_answers}
use Rattle.composition_laws.specs.ToolSteps.{DomainSteps}
use Rattle.composition_laws.proofs.ToolSteps.{tool_steps}
use Rattle.cpupool.specs.ToolArrival.{EndsTheMove, action_of, but_for_free}
use Rattle.cpupool.specs.Steps.{outlined_kind, move_of}
use Rattle.cpupool.specs.Tool.{Tool, tool_of}
use Rattle.cpupool.specs.declared.moves.Move.TheVariants as move
use Rattle.unit_state.specs.declared.part.DomPart.{DomPart}
use Rattle.unit_state.specs.Parts.{IsPart}
use Rattle.unit_state.specs.Seen.{units_at}
use Rattle.sched_base.specs.Units.{unit_id}
use Rattle.pool_core.specs.Params.{stored_units}
use Rattle.pool_core.specs.Seen.{IsNow, Seen, seen_at, with_spare}
use Rattle.pool_core.proofs.Comers.{some_units}
use Rattle.machine_parts.specs.Counts.{KeepsCounts}
use Rattle.machine_parts.specs.Told.{Told}
use Rattle.machine_parts.specs.Places.{GoesOn, SlotSuits, StandsAt, state_of}
use Rattle.machine_parts.proofs.AtHome.{comes-there}
use Rattle.machine_parts.proofs.Going.{early, range-of, state_of-is}
use Rattle.machine_parts.proofs.Rooming.{some-out}
use Rattle.machine_parts.proofs.Standing.{pool_at, stands-there}
use Rattle.machine_parts.specs.Parts.{AreParts}
use Rattle.machine_parts.proofs.AtPlaces.{domain_below}
use Rattle.tool_actions.specs.Acts.{Begins, HasActed}
use Rattle.tool_actions.specs.DomainMoves.{HasLeft, MovesDomain, looked_at, told_moved}
use Rattle.tool_actions.specs.declared.domains.DomainRoute.{DomainRoute}
use Rattle.tool_actions.proofs.Acting.{acted, parts-both, stands-next}
use Rattle.tool_actions.proofs.Arriving.{keeps-moved}
use Rattle.tool_actions.proofs.Stalling.{place-has}

-- what the move of the domain d from the pool i to the pool j finds: the domain there, which is on its way; another pool, which is there
-- and has no such domain; and nothing is on its way after it
pub record Finds (m : Machine) (s : State) (d i j : ℕ) : Type 0 where
  pub pool : Pool
  pub domain : Domain
  pub home : home_pool_of_domain s d ≡ Some i
  pub pool_at : at_place s.pools i ≡ Some pool
  pub domain_at : at_place pool.domains d ≡ Some domain
  pub moving : domain.moving ≡ Some (pool_number j)
  pub way : state_under_way s ≡ Some (domain_to d j)
  pub other : j ≢ i
  pub target : is_some (at_place s.pools j) ≡ true
  pub absent : ForSome (at_place s.pools j) (λ pool. at_place pool.domains d ≡ None)
  pub ends : EndsTheMove m s s.now (DomMoved (domain_number d))

-- in every state of a run
module _ (m : Machine) (checked : IsChecked m) (entries : List Entry) (run : IsRun m entries) (d : ℕ) where
  abbrev at_end : State
  at_end = state_after m entries

  few : in_all at_end ≤ 1
  few = let same = in_all_is at_end in let most = (has_one_move m checked entries run).most in omega (arith, same, most)

  absent-there : (i j : ℕ) (pool : Pool) (domain : Domain) → at_place at_end.pools i ≡ Some pool → at_place pool.domains d ≡ Some domain → j ≢ i → ForSome (at_place at_end.pools j) (λ (q : Pool). at_place q.domains d ≡ None)
  absent-there i j pool domain at has other q there = is_empty (at_place q.domains d) (λ x here. other
      ((pools_keep_their_own m checked entries run).domains j i d
      (test_at-some at_end.pools j (λ (p : Pool). is_some (at_place p.domains d)) q there (is_some_at (at_place q.domains d) x here))
      (test_at-some at_end.pools i (λ (p : Pool). is_some (at_place p.domains d)) pool at (is_some_at (at_place pool.domains d) domain has))))

  finds-here : (on : is_action_enabled m at_end at_end.now (DomMoved (domain_number d)) ≡ true) (f : Moving at_end d) → Finds m at_end d f.home f.target.0
  finds-here on f =
      let other : f.target.0 ≢ f.home = moves-away m checked entries run f.home d f.pool f.domain f.target f.pool_at f.domain_at f.moving in
      record {
        pool = f.pool;
        domain = f.domain;
        home = f.is_home;
        pool_at = f.pool_at;
        domain_at = f.domain_at;
        moving = f.moving;
        way = moving_answers at_end few d f;
        other = other;
        target = (housed_from m checked [] entries (run_start m) refl tt run (housed_opening m checked)).movers f.home d f.target
            (ap (λ (o : Option Pool). mover_of o d) f.pool_at ∙ ap (option_map (λ (x : Domain). x.moving)) f.domain_at ∙ ap (λ (o : Option PoolId). Some o) f.moving);
        absent = absent-there f.home f.target.0 f.pool f.domain f.pool_at f.domain_at other;
        ends = record { free = (pools_keep_their_own m checked entries run).free; last = (has_one_move m checked entries run).after_domain at_end.now d on };
      }

  finds-any : is_action_enabled m at_end at_end.now (DomMoved (domain_number d)) ≡ true → (i : ℕ) × (j : ℕ) × Finds m at_end d i j
  finds-any on = (let f = domain_found m at_end at_end.now d on in (f.home, f.target.0, finds-here on f))

-- where the move may come
pub finds-some : (w : Told) → GoesOn w → (d : ℕ) → is_action_enabled w.input (state_of w) (state_of w).now (DomMoved (domain_number d)) ≡ true → (i : ℕ) × (j : ℕ) × Finds w.input (state_of w) d i j
finds-some w goes d =
    subst (λ (s : State). is_action_enabled w.input s s.now (DomMoved (domain_number d)) ≡ true → (i : ℕ) × (j : ℕ) × Finds w.input s d i j) (sym (state_of-is w)) (finds-any w.input goes.checked w.history goes.run d)

same-some : {X : Type 0} (o : Option X) (a b : X) → o ≡ Some a → o ≡ Some b → a ≡ b
same-some o a b is too = cc

way-target : (d j k : ℕ) → Some (domain_to d j) ≡ Some (domain_to d k) → j ≡ k
way-target d j k is = cc

-- the route, as the tool tells it
pub route-is : (w : Told) (tool : Tool) (t : ℕ) (d : DomId) → Begins w tool t (DomMoved d) → (n : DomId) (from to : PoolId) (kind : SchedKind) → option_map (move_of tool.part) tool.part.under_way ≡ Some (move.Dom n to kind) → home_pool_of_domain (state_of w) d.0 ≡ Some from.0
    → MovesDomain w t (record { d = d; from = from; to = to; kind = kind })
route-is w tool t d begins n from to kind told home =
    let f = finds-some w begins.goes d.0 begins.enabled in
    let j : ℕ = f.1 in
    let part : tool.part ≡ part_of_tool (state_of w) = ap (λ (x : Tool). x.part) (sym begins.known) in
    let way : tool.part.under_way ≡ Some (domain_to d.0 j) = ap (λ (x : ToolPart). x.under_way) part ∙ f.2.way in
    let is : Some (move.Dom d (pool_number j) (outlined_kind tool.part j)) ≡ Some (move.Dom n to kind) = ap (option_map (move_of tool.part)) (sym way) ∙ told in
    let target : pool_number j ≡ to = cc in
    let scheduler : outlined_kind tool.part j ≡ kind = cc in
    record {
      goes = begins.goes;
      now = begins.now;
      enabled = begins.enabled;
      home = home;
      way = f.2.way ∙ ap (λ (x : PoolId). Some (domain_to d.0 x.0)) target;
      kind_is = sym scheduler ∙ ap (λ (x : ToolPart). outlined_kind x j) part ∙ ap (λ (x : PoolId). outlined_kind (part_of_tool (state_of w)) x.0) target;
    }

-- something is told: a domain
pub domain-told : (w : Told) (tool : Tool) (t d : ℕ) → Begins w tool t (DomMoved (domain_number d)) → (j : ℕ) × (option_map (move_of tool.part) tool.part.under_way ≡ Some (move.Dom (domain_number d) (pool_number j) (outlined_kind tool.part j)))
domain-told w tool t d begins =
    let f = finds-some w begins.goes d begins.enabled in
    (f.1, ap (λ (x : Tool). option_map (move_of tool.part) x.part.under_way) (sym begins.known) ∙ ap (option_map (move_of tool.part)) f.2.way)

-- it has a home
pub home-told : (w : Told) (tool : Tool) (t d : ℕ) → Begins w tool t (DomMoved (domain_number d)) → home_pool_of_domain (state_of w) d ≡ None → ⊥
home-told w tool t d begins none = (let f = finds-some w begins.goes d begins.enabled in let home = f.2.home in cc)

-- what a pool tells of the first unit of a domain
pub first-told : (records : Records) (d n : ℕ) (units : List Stored) → 1 ≤ n → map (λ (x : Stored). Some x) units ≡ stored_units records d (numbers_from 0 n) → (x : Stored) × (rest : List Stored) × (units ≡ x ∷ rest) × (unit_stored records (unit_id d 0) ≡ Some x)
first-told records d zero units some is = absurd (omega (arith, some))
first-told records d (suc n) [] some is = absurd (cc)
first-told records d (suc n) (x ∷ rest) some is = (x, rest, refl, cc)

no-null-credit2 : (o : Option Credit2Domain) → option_map (λ (x : Credit2Domain). stored.Credit2 x.weight x.cap) o ≡ Some stored.Null → ⊥
no-null-credit2 None is = absurd (cc)
no-null-credit2 (Some x) is = absurd (cc)

no-null-rtds : (o : Option RtdsUnit) → option_map (λ (x : RtdsUnit). stored.Rtds (span x.next_period) (span x.next_budget) x.next_extra) o ≡ Some stored.Null → ⊥
no-null-rtds None is = absurd (cc)
no-null-rtds (Some x) is = absurd (cc)

-- null alone tells so
pub told-null : (records : Records) (u : UnitId) → unit_stored records u ≡ Some stored.Null → true ≡ is_null_pool records
told-null (Credit2Pool records) u is = absurd (no-null-credit2 (domain_credit2_record (Credit2Pool records) u.dom.0) is)
told-null (RtdsPool domains) u is = absurd (no-null-rtds (unit_rtds_record (RtdsPool domains) u) is)
told-null (ArincPool records) u is = absurd (cc)
told-null (NullPool kept) u is = refl

pub told-other : (records : Records) (u : UnitId) (x : Stored) → unit_stored records u ≡ Some x → (x ≡ stored.Null → ⊥) → false ≡ is_null_pool records
told-other (Credit2Pool records) u x is other = refl
told-other (RtdsPool domains) u x is other = refl
told-other (ArincPool records) u x is other = refl
told-other (NullPool kept) u x is other = absurd (other (cc))

-- the pool of a slot that is there
pub slot-there : (w : Told) (i : ℕ) (slot : Option Seen) → StandsAt w i slot → is_some (at_place (state_of w).pools i) ≡ true → (seen : Seen) × (slot ≡ Some seen) × (at_place (state_of w).pools i ≡ Some seen.pool)
slot-there w i slot stands there =
    let pool = some_is (at_place (state_of w).pools i) there in
    let here = place-has w i slot stands pool.0 pool.1 in
    (here.0, here.1, pool.1 ∙ ap (λ (p : Pool). Some p) (sym here.2))

-- a place whose cores are looked at, where that is asked
looked-pool : (looks : Bool) (t : ℕ) (seen : Seen) → pool_at (looked_at looks t (Some seen)) ≡ Some (cond looks (settled_pool t seen.pool) seen.pool)
looked-pool true t seen = refl
looked-pool false t seen = refl

looked-suits : (m : Machine) (now t : ℕ) → t ≡ now → (looks : Bool) (seen : Seen) → SlotSuits m now seen → ForSome (looked_at looks t (Some seen)) (SlotSuits m now)
looked-suits m now t is true seen suits x at = some-out (SlotSuits m now) (seen_at t (settled_pool t seen.pool) seen) x at (record { granularity = suits.granularity; latest = omega (arith, is) })
looked-suits m now t is false seen suits x at = some-out (SlotSuits m now) seen x at suits

-- the move of a route
module _ (w : Told) (t : ℕ) (route : DomainRoute) (moves : MovesDomain w t route) where
  abbrev m : Machine
  m = w.input

  abbrev s : State
  s = state_of w

  abbrev d : ℕ
  d = route.d.0

  abbrev i : ℕ
  i = route.from.0

  abbrev j : ℕ
  j = route.to.0

  pub finds : Finds m s d i j
  finds =
      let f = finds-some w moves.goes d moves.enabled in
      let home : f.0 ≡ i = same-some (home_pool_of_domain s d) f.0 i f.2.home moves.home in
      let to : f.1 ≡ j = way-target d f.1 j (sym f.2.way ∙ moves.way) in
      subst (λ (k : ℕ). Finds m s d k j) home (subst (λ (k : ℕ). Finds m s d f.0 k) to f.2)

  pub begins : Begins w (tool_of m s) t (DomMoved (domain_number d))
  begins = record { goes = moves.goes; now = moves.now; known = refl; enabled = moves.enabled }

  abbrev after_it : State
  after_it = after m s s.now (DomMoved (domain_number d))

  steps : DomainSteps m s s.now d i j finds.domain
  steps = (tool_steps m s s.now).domain d i finds.pool finds.domain (pool_number j) finds.home finds.pool_at finds.domain_at finds.moving

  left-there : at_place after_it.pools i ≡ option_map (left_by s.now d) (at_place s.pools i)
  left-there = steps.joins.others i (λ is. finds.other (sym is)) ∙ steps.leaves.own

  joined-there : at_place after_it.pools j ≡ option_map (joined_by m.config.granularity s.now d finds.domain) (at_place s.pools j)
  joined-there = steps.joins.own ∙ ap (option_map (joined_by m.config.granularity s.now d finds.domain)) (steps.leaves.others j finds.other)

  others-there : (k : ℕ) → k ≢ i → k ≢ j → at_place after_it.pools k ≡ at_place s.pools k
  others-there k first second = steps.joins.others k second ∙ steps.leaves.others k first

  now-there : after_it.now ≡ s.now
  now-there = steps.joins.now ∙ steps.leaves.now

  -- what is printed
  pub event-is : event.DomMoved route.d route.to ≡ event_of m s s.now (DomMoved (domain_number d))
  event-is =
      let home : home_pool m s (DomMoved (domain_number d)) ≡ finds.pool =
      ap (λ (o : Option ℕ). elim o as (λ _. Pool) [ None ↦ absent_pool m.config | Some k ↦ unwrap_or (at_place s.pools k) (absent_pool m.config) ]) finds.home ∙ ap (λ (o : Option Pool). unwrap_or o (absent_pool m.config)) finds.pool_at in
      let printed : event_in m.config.granularity s.now finds.pool (DomMoved (domain_number d)) ≡ event.DomMoved (domain_number d) (pool_number j) =
      ap (λ (o : Option Domain). event.DomMoved (domain_number d) (elim o as (λ _. PoolId) [ None ↦ pool_number 0 | Some x ↦ unwrap_or x.moving (pool_number 0) ])) finds.domain_at
      ∙ ap (λ (o : Option PoolId). event.DomMoved (domain_number d) (unwrap_or o (pool_number 0))) finds.moving in
      sym (ap (λ (p : Pool). event_in m.config.granularity s.now p (DomMoved (domain_number d))) home ∙ printed)

  -- the slot that the domain leaves
  module _ (old : Option Seen) (stands : StandsAt w i old) where
    pub from-there : (seen : Seen) × (old ≡ Some seen) × (at_place s.pools i ≡ Some seen.pool)
    from-there = slot-there w i old stands (is_some_at (at_place s.pools i) finds.pool finds.pool_at)

    pub from-some : is_some old ≡ true
    from-some = is_some_at old from-there.0 from-there.1

    same-seen : (seen : Seen) → old ≡ Some seen → seen.pool ≡ finds.pool
    same-seen seen is = (let there : at_place s.pools i ≡ Some seen.pool = stands-there w i old stands ∙ ap pool_at is in same-some (at_place s.pools i) seen.pool finds.pool there finds.pool_at)

    domain-in : (seen : Seen) → old ≡ Some seen → at_place seen.pool.domains d ≡ Some finds.domain
    domain-in seen is = ap (λ (p : Pool). at_place p.domains d) (same-seen seen is) ∙ finds.domain_at

    -- it has a unit there
    pub units-there : ForSome old (λ seen. 1 ≤ units_at seen.granularity (at_place seen.pool.domains d))
    units-there seen is =
        let range : DomainInRange m s.now d finds.domain = ((range-of w moves.goes).pools i finds.pool finds.pool_at).domains d finds.domain finds.domain_at in
        let file : IsCheckedDomain m.config range.config = each_get (IsCheckedDomain m.config) m.config.domains d range.config (recursion_from_All (IsCheckedDomain m.config) m.config.domains moves.goes.checked.config.domains) range.at in
        let some : 1 ≤ length finds.domain.vcpus = (let count = range.count in let guest = file.some_guest in omega (arith, count, guest)) in
        let has : 1 ≤ domain_unit_count m.config.granularity finds.domain = some_units m.config.granularity finds.domain (some_processor m.config.granularity moves.goes.checked.config.granularity) some in
        subst (λ (g : ℕ). 1 ≤ units_at g (at_place seen.pool.domains d)) (sym (stands.suits seen is).granularity)
        (subst (λ (o : Option Domain). 1 ≤ units_at m.config.granularity o) (sym (domain-in seen is)) has)

    -- it may be taken
    pub may-leave : ForSome old (λ seen. enabled_in seen.granularity seen.latest seen.pool (DomMoved (domain_number d)) ≡ true)
    may-leave seen is =
        let comes = comes-there w moves.goes (DomMoved (domain_number d)) i moves.enabled moves.home in
        let same : comes.pool ≡ seen.pool = same-some (at_place s.pools i) comes.pool seen.pool comes.at (stands-there w i old stands ∙ ap pool_at is) in
        subst (λ (p : Pool). enabled_in m.config.granularity s.now p (DomMoved (domain_number d)) ≡ true) same comes.enabled

    -- the pool that it has left
    abbrev taken : DomPart → Seen → Seen
    taken part seen = with_spare (seen.spare + domain_unit_count part.granularity part.domain) (record seen { pool = pool_without_domain d seen.pool })

    pub now-taken : (part : DomPart) (mid : Option Seen) → mid ≡ option_map (taken part) old → ForSome mid (λ seen. IsNow seen t)
    now-taken part mid is x at =
        let f = from-there in
        let there : mid ≡ Some (taken part f.0) = is ∙ ap (option_map (taken part)) f.1 in
        let now = moves.now in
        some-out (λ (seen : Seen). IsNow seen t) (taken part f.0) x (sym there ∙ at)
        (record { after = (let late = (stands.suits f.0 f.1).latest in omega (arith, late, now)); early = (let limit = early w moves.goes in omega (arith, limit, now)) })

    pub stands-left : (part : DomPart) (looks : Bool) (mid new : Option Seen) → ForSome old (λ seen. looks ≡ is_null_pool seen.pool.scheduler.records) → mid ≡ option_map (taken part) old → new ≡ looked_at looks t mid
        → StandsAt (told_moved w t route) i new
    stands-left part looks mid new tells is looked =
        let f = from-there in
        let gone : Seen = taken part f.0 in
        let made : new ≡ looked_at looks t (Some gone) = looked ∙ ap (looked_at looks t) (is ∙ ap (option_map (taken part)) f.1) in
        let pool : pool_at new ≡ at_place after_it.pools i =
        ap pool_at made ∙ looked-pool looks t gone ∙ ap (λ (b : Bool). Some (cond b (settled_pool t gone.pool) gone.pool)) (tells f.0 f.1) ∙ ap (λ (n : ℕ). Some (left_by n d f.0.pool)) moves.now
        ∙ sym (left-there ∙ ap (option_map (left_by s.now d)) f.2) in
        let fits : SlotSuits m s.now gone = record { granularity = (stands.suits f.0 f.1).granularity; latest = (stands.suits f.0 f.1).latest } in
        let suits : ForSome new (SlotSuits m s.now) = subst (λ (o : Option Seen). ForSome o (SlotSuits m s.now)) (sym made) (looked-suits m s.now t moves.now looks gone fits) in
        stands-next w (tool_of m s) t (DomMoved (domain_number d)) begins (event_of m s s.now (DomMoved (domain_number d))) refl i new stands.place pool suits now-there

    pub has-left : (part : DomPart) → part.d ≡ route.d → ForSome old (λ seen. part.granularity ≡ seen.granularity) → ForSome old (λ seen. at_place seen.pool.domains d ≡ Some part.domain) → IsPart part → HasLeft w route part
    has-left part number granularity domain is =
        let f = from-there in
        record {
          number = number;
          granularity = granularity f.0 f.1 ∙ (stands.suits f.0 f.1).granularity;
          domain = λ pool at. subst (λ (p : Pool). at_place p.domains d ≡ Some part.domain) (same-some (at_place s.pools i) f.0.pool pool f.2 at) (domain f.0 f.1);
          is_part = is;
        }

  -- the slot that it joins
  module _ (part : DomPart) (gone : HasLeft w route part) where
    same-domain : part.domain ≡ finds.domain
    same-domain = same-some (at_place finds.pool.domains d) part.domain finds.domain (gone.domain finds.pool finds.pool_at) finds.domain_at

    -- it moves no more
    abbrev joining : Domain
    joining = record part.domain { moving = None }

    pub joining-range : DomainInRange m s.now part.d.0 joining
    joining-range =
        let range : DomainInRange m s.now d finds.domain = ((range-of w moves.goes).pools i finds.pool finds.pool_at).domains d finds.domain finds.domain_at in
        let still : DomainInRange m s.now d (record finds.domain { moving = None }) = record { config = range.config; at = range.at; count = range.count; vcpus = range.vcpus } in
        subst (λ (x : DomId). DomainInRange m s.now x.0 joining) (sym gone.number) (subst (λ (x : Domain). DomainInRange m s.now d (record x { moving = None })) (sym same-domain) still)

    module _ (old : Option Seen) (stands : StandsAt w j old) where
      to-there : (seen : Seen) × (old ≡ Some seen) × (at_place s.pools j ≡ Some seen.pool)
      to-there = slot-there w j old stands finds.target

      pub to-some : is_some old ≡ true
      to-some = is_some_at old to-there.0 to-there.1

      pub none-there : ForSome old (λ seen. at_place seen.pool.domains part.d.0 ≡ None)
      none-there seen is = subst (λ (x : DomId). at_place seen.pool.domains x.0 ≡ None) (sym gone.number) (finds.absent seen.pool (stands-there w j old stands ∙ ap pool_at is))

      kind-there : (seen : Seen) → old ≡ Some seen → records_kind seen.pool.scheduler.records ≡ route.kind
      kind-there seen is =
          let there : at_place s.pools j ≡ Some seen.pool = stands-there w j old stands ∙ ap pool_at is in
          let told : outlined_kind (part_of_tool s) j ≡ records_kind seen.pool.scheduler.records =
          ap (λ (o : Option Outline). elim o as (λ _. SchedKind) [ None ↦ kinds.Null | Some x ↦ x.kind ]) (at_place-map pool_outline s.pools j ∙ ap (option_map pool_outline) there) in
          sym told ∙ sym moves.kind_is

      pub params-fit : (params : DomParams) → AreDomParams route.kind params → ForSome old (λ seen. AreDomParams (records_kind seen.pool.scheduler.records) params)
      params-fit params fit seen is = subst (λ (kind : SchedKind). AreDomParams kind params) (sym (kind-there seen is)) fit

      -- the pool that it has joined
      abbrev given : DomParams → Seen → Seen
      given params seen = with_spare (seen.spare - domain_unit_count part.granularity joining) (seen_at t (settled_pool t (pool_with_domain seen.granularity t part.d.0 joining params seen.pool)) seen)

      pub stands-joined : (params : DomParams) (new : Option Seen) → ((records : Records) → records_kind records ≡ route.kind → params ≡ standard_dom_params records) → new ≡ option_map (given params) old → StandsAt (told_moved w t route) j new
      stands-joined params new default is =
          let f = to-there in
          let suits = stands.suits f.0 f.1 in
          let here : Seen = given params f.0 in
          let made : new ≡ Some here = is ∙ ap (option_map (given params)) f.1 in
          let pool : pool_at new ≡ at_place after_it.pools j =
          ap pool_at made
          ∙ ap (λ (g : ℕ). Some (settled_pool t (pool_with_domain g t part.d.0 joining params f.0.pool))) suits.granularity
          ∙ ap (λ (n : ℕ). Some (settled_pool n (pool_with_domain m.config.granularity n part.d.0 joining params f.0.pool))) moves.now
          ∙ ap (λ (x : DomId). Some (settled_pool s.now (pool_with_domain m.config.granularity s.now x.0 joining params f.0.pool))) gone.number
          ∙ ap (λ (x : Domain). Some (settled_pool s.now (pool_with_domain m.config.granularity s.now d (record x { moving = None }) params f.0.pool))) same-domain
          ∙ ap (λ (p : DomParams). Some (settled_pool s.now (pool_with_domain m.config.granularity s.now d (record finds.domain { moving = None }) p f.0.pool))) (default f.0.pool.scheduler.records (kind-there f.0 f.1))
          ∙ sym (joined-there ∙ ap (option_map (joined_by m.config.granularity s.now d finds.domain)) f.2) in
          let now = moves.now in
          let fits : SlotSuits m s.now here = record { granularity = suits.granularity; latest = omega (arith, now) } in
          stands-next w (tool_of m s) t (DomMoved (domain_number d)) begins (event_of m s s.now (DomMoved (domain_number d))) refl j new stands.place pool (λ x at. some-out (SlotSuits m s.now) here x (sym made ∙ at) fits) now-there

  -- the tool after it
  module _ (tool : Tool) (known : tool_of m s ≡ tool) where
    pub way-there : tool.part.under_way ≡ Some (domain_to d j)
    way-there = ap (λ (x : Tool). x.part.under_way) (sym known) ∙ moves.way

    abbrev free : List (Option (List Moment))
    free = (part_of_tool s).free

    pub told-after : (new : Tool)
        → ((m2 : Machine) (s2 : State) (t2 : ℕ) (way : UnderWay) (ends : List (Option (List Moment))) → but_for_free ends (tool_of m2 s2) ≡ tool → tool.part.under_way ≡ Some way → EndsTheMove m2 s2 t2 (action_of way)
        → new ≡ but_for_free ends (tool_of m2 (after m2 s2 t2 (action_of way))))
        → new ≡ but_for_free free (tool_of m after_it)
    told-after new done = done m s s.now (domain_to d j) free known way-there finds.ends

    pub known-after : (new : Tool) → new ≡ but_for_free free (tool_of m after_it) → tool_of m after_it ≡ new
    known-after new is =
        let ends : List (Option FreeCore) → Tool = λ cores. but_for_free (map (option_map (λ (c : FreeCore). c.stall_ends)) cores) (tool_of m after_it) in
        sym (is ∙ ap ends (sym steps.free))

    pub acted-after : (new : Tool) → new ≡ but_for_free free (tool_of m after_it) → HasActed w i j (told_moved w t route) new
    acted-after new is = acted w (tool_of m s) t (DomMoved (domain_number d)) begins (event_of m s s.now (DomMoved (domain_number d))) refl i j new now-there others-there (known-after new is)

    pub counts-after : (new : Tool) → new ≡ but_for_free free (tool_of m after_it) → KeepsCounts tool.part new.part
    counts-after new is = keeps-moved m s s.now (domain_to d j) free tool new moves.way finds.ends known is

  -- the places of the two pools
  module _ (slots : List (Option Seen)) (tool : Tool) (parts : AreParts w slots tool) where
    pub from-below : i < length slots
    from-below = domain_below w slots tool parts d i moves.home

    pub to-below : j < length slots
    to-below =
        let q = some_is (at_place s.pools j) finds.target in
        let low = place_below s.pools j q.0 q.1 in
        let places = (range-of w moves.goes).pool_places in
        let count = parts.stand.count in
        omega (arith, low, places, count)

    pub from-stands : (default : Option Seen) → StandsAt w i (slice_index_or slots i default)
    from-stands default = subst (StandsAt w i) (same_read slots i None default from-below) (parts.stand.each i (let low = from-below in let count = parts.stand.count in omega (arith, low, count)))

    pub to-stands : (new default : Option Seen) → StandsAt w j (slice_index_or (slice_set slots i new) j default)
    to-stands new default =
        let inside : j < length (slice_set slots i new) = (let low = to-below in let same = length-set slots i new in omega (arith, low, same)) in
        let here : at_place slots j ≡ slice_index_or (slice_set slots i new) j default = sym (get_or-set_other slots i j new None finds.other) ∙ same_read (slice_set slots i new) j None default inside in
        subst (StandsAt w j) here (parts.stand.each j (let low = to-below in let count = parts.stand.count in omega (arith, low, count)))

    pub parts-moved : (a b : Option Seen) (new : Tool) → HasActed w i j (told_moved w t route) new → StandsAt (told_moved w t route) i a → StandsAt (told_moved w t route) j b → AreParts (told_moved w t route) (slice_set (slice_set slots i a) j b) new
    parts-moved a b new acts first second = parts-both w slots parts.stand (told_moved w t route) new refl i j a b acts first second (λ same. absurd (finds.other (sym same)))
