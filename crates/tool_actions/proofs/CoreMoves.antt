-- The move of a core: what it makes of the place of its pool, and of what the tool knows.
use Rattle.std.proofs.Common.{◌≡◌, ◌<◌, ◌∙◌, ℕ, Bool, true, false, List, length, map, refl, sym, ap, subst, arith, cond}
use Rattle.std.specs.Prelude.{◌||◌, Option, Some, None, is_some, option_map}
use Rattle.std.specs.Option.{ForSome, IsSome}
use Rattle.std.proofs.lemmas.List.{map-set}
use Rattle.sched_base.specs.Numbers.{core as core_number, pool as pool_number}
use Rattle.sched_base.specs.declared.Moment.{Moment}
use Rattle.sched_base.specs.declared.PoolId.{PoolId}
use Rattle.sched_base.specs.declared.ResId.{ResId}
use Rattle.sched_model.specs.declared.action.Action.{Action}
use Rattle.sched_model.specs.declared.action.Action.TheVariants.{Moved}
use Rattle.sched_model.specs.declared.event.Event.{Event}
use Rattle.sched_model.specs.declared.event.Event.TheVariants as event
use Rattle.sched_model.specs.declared.machine.Machine.{Machine}
use Rattle.sched_model.specs.declared.state.FreeCore.{FreeCore}
use Rattle.sched_model.specs.declared.state.Pool.{Pool}
use Rattle.sched_model.specs.declared.state.Resource.{Resource}
use Rattle.sched_model.specs.declared.state.State.{State}
use Rattle.sched_model.specs.Actions.{home_pool_of_core}
use Rattle.sched_model.specs.Machine.{after, enabled_at_home, event_of, is_free_core_ready, is_action_enabled}
use Rattle.sched_model.specs.Places.{at_place, clear_at, put_at, test_at}
use Rattle.sched_model.specs.Pool.{enabled_in, settled_pool}
use Rattle.sched_model.proofs.PlaceLemmas.{at_place-map}
use Rattle.sched_laws.specs.StateLaws.{PoolsKeepTheirOwn}
use Rattle.sched_laws.proofs.EachPlace.{found_at, is_empty, none_found, place_below}
use Rattle.sched_laws.proofs.Lists.{some_is, none_without}
use Rattle.sched_laws.proofs.PoolsLaw.{pools_keep_their_own}
use Rattle.journal_core.specs.Parts.{ToolPart, UnderWay, core_to, state_under_way}
use Rattle.pool_records.specs.Cores as shared
use Rattle.cpupool.specs.ToolArrival.{EndsTheMove, but_for_free}
use Rattle.cpupool.specs.Steps.{move_of}
use Rattle.cpupool.specs.Tool.{Tool, free_core_ends, tool_of}
use Rattle.cpupool.specs.declared.moves.Move.{Move}
use Rattle.cpupool.specs.declared.moves.Move.TheVariants as move
use Rattle.cpupool.proofs.ArrivedLemmas.{core_joins}
use Rattle.cpupool.proofs.SubjectLemmas.{length-map}
use Rattle.composition_laws.specs.WholeFirst.{first_tool_move}
use Rattle.composition_laws.specs.Moves.{HasOneMove}
use Rattle.composition_laws.proofs.MoveLaw.{has_one_move}
use Rattle.sched_model.specs.Machine as machine
use Rattle.composition_laws.specs.ToolSteps.{JoinSteps, LeaveSteps}
use Rattle.composition_laws.proofs.ToolSteps.{tool_steps}
use Rattle.pool_core.specs.Seen as pools
use Rattle.pool_core.specs.Seen.{IsNow, Seen, seen_at}
use Rattle.machine_parts.specs.Counts.{KeepsCounts}
use Rattle.machine_parts.specs.Told.{Told}
use Rattle.machine_parts.specs.Places.{GoesOn, SlotSuits, StandsAt, state_of}
use Rattle.machine_parts.proofs.Going.{early, range-of, state_of-is}
use Rattle.machine_parts.proofs.Standing.{pool_at, stands-there}
use Rattle.machine_parts.specs.Parts.{AreParts}
use Rattle.machine_parts.proofs.AtPlaces.{no-home, no-number}
use Rattle.machine_parts.proofs.Moving.{core-way, leaving-first}
use Rattle.tool_actions.specs.Acts.{Begins, HasActedOn, told_event}
use Rattle.tool_actions.proofs.Acting.{acted-on, stands-changed, suits-seen}
use Rattle.tool_actions.proofs.Arriving.{keeps-moved}
use Rattle.tool_actions.proofs.Stalling.{known-of, place-has}

-- an action that may come begins where the parts stand
pub parts-begin : (w : Told) (slots : List (Option Seen)) (tool : Tool) → AreParts w slots tool → (t : ℕ) (action : Action) → t ≡ (state_of w).now → is_action_enabled w.input (state_of w) (state_of w).now action ≡ true → Begins w tool t action
parts-begin w slots tool parts t action now on = record { goes = parts.goes; now = now; known = parts.known; enabled = on }

-- what is on its way is that core, and goes where the program tells
pub way-told : (part : ToolPart) (o : Option UnderWay) (r : ℕ) (to : Option ℕ) (k : ResId) (target : Option PoolId) → o ≡ Some (core_to r to) → option_map (move_of part) o ≡ Some (move.Res k target)
    → o ≡ Some (core_to r (option_map (λ (i : PoolId). i.0) target))
way-told part o r to k target is told =
    let goes = core-way part o k target told in
    let same : k.0 ≡ r = cc in
    goes ∙ ap (λ (n : ℕ). Some (core_to n (option_map (λ (i : PoolId). i.0) target))) same

-- so the program tells of a core
pub move-told : (part : ToolPart) (o : Option UnderWay) (r : ℕ) (to : Option ℕ) (told : Option Move) → o ≡ Some (core_to r to) → told ≡ option_map (move_of part) o → told ≡ Some (move.Res (core_number r) (option_map pool_number to))
move-told part o r to told is tells = tells ∙ ap (option_map (move_of part)) is

-- a core that is to have no pool is in one, where it may move
pub leaves-some : (w : Told) (goes : GoesOn w) (tool : Tool) → tool_of w.input (state_of w) ≡ tool → (r : ℕ) → is_action_enabled w.input (state_of w) (state_of w).now (Moved (core_number r)) ≡ true → tool.part.under_way ≡ Some (core_to r None)
    → (home : Option PoolId) → home ≡ option_map pool_number (home_pool_of_core (state_of w) r) → home ≡ None → ⊥
leaves-some w goes tool known r on way home told none =
    let m : Machine = w.input in
    let s : State = state_of w in
    let under : state_under_way s ≡ Some (core_to r None) = ap (λ (x : Tool). x.part.under_way) known ∙ way in
    let nowhere : home_pool_of_core s r ≡ None = no-number _ (sym told ∙ none) in
    let first : None ≡ first_tool_move m s s.now (state_under_way s) = leaving-first w goes s.now r false under (no-home m s s.now (Moved (core_number r)) nowhere) in
    let moves : first_tool_move m s s.now (state_under_way s) ≡ Some (Moved (core_number r)) = ap (first_tool_move m s s.now) under ∙ ap (λ (b : Bool). cond b (Some (Moved (core_number r))) None) on in
    let never : None ≡ Some (Moved (core_number r)) = first ∙ moves in
    cc

module _ (w : Told) (goes : GoesOn w) where
  pub one-move-of : HasOneMove w.input (state_of w)
  one-move-of = subst (HasOneMove w.input) (sym (state_of-is w)) (has_one_move w.input goes.checked w.history goes.run)

  pub own-of : PoolsKeepTheirOwn (state_of w)
  own-of = subst PoolsKeepTheirOwn (sym (state_of-is w)) (pools_keep_their_own w.input goes.checked w.history goes.run)

mapped-some : {X Y : Type 0} (f : X → Y) (o : Option X) (x : X) (y : Y) → o ≡ Some x → option_map f o ≡ Some y → y ≡ f x
mapped-some f o x y at is = (let same : Some (f x) ≡ Some y = sym (ap (option_map f) at) ∙ is in cc)

-- a core that may move
module _ (w : Told) (tool : Tool) (t r : ℕ) (begins : Begins w tool t (Moved (core_number r))) where
  abbrev m : Machine
  m = w.input

  abbrev s : State
  s = state_of w

  abbrev left : State
  left = after w.input (state_of w) (state_of w).now (Moved (core_number r))

  pub ends-it : EndsTheMove m s s.now (Moved (core_number r))
  ends-it = record { free = λ k c at. (own-of w begins.goes).free k c at; last = (one-move-of w begins.goes).after_core s.now r begins.enabled }

  -- what is on its way
  pub way-there : (to : Option ℕ) × (tool.part.under_way ≡ Some (core_to r to))
  way-there = (let law = (one-move-of w begins.goes).core s.now r begins.enabled in (law.0, ap (λ (x : Tool). x.part.under_way) (sym begins.known) ∙ law.1))

  way-of : (to : Option ℕ) → tool.part.under_way ≡ Some (core_to r to) → state_under_way s ≡ Some (core_to r to)
  way-of to is = ap (λ (x : Tool). x.part.under_way) begins.known ∙ is

  -- what the tool knows in the end, with the cores that no pool has then
  knows-left : (free : List (Option (List Moment))) (new : Tool) → new ≡ but_for_free free (tool_of m left) → map (option_map free_core_ends) left.free ≡ free → tool_of m left ≡ new
  knows-left free new is same = ap (λ (l : List (Option (List Moment))). but_for_free l (tool_of m left)) same ∙ sym is

  free-of : (k : ℕ) → at_place tool.part.free k ≡ option_map free_core_ends (at_place s.free k)
  free-of k = ap (λ (x : Tool). at_place x.part.free k) (sym begins.known) ∙ at_place-map free_core_ends s.free k

  is-now : (i : ℕ) (slot : Option Seen) → StandsAt w i slot → ForSome slot (λ seen. IsNow seen t)
  is-now i slot stands seen here =
      let late = (stands.suits seen here).latest in
      let limit = early w begins.goes in
      let now = begins.now in
      record { after = omega (arith, late, now); early = omega (arith, limit, now) }

  -- to the pool i
  module _ (i : ℕ) (way : tool.part.under_way ≡ Some (core_to r (Some i))) where
    joining : (c : FreeCore) × (at_place s.free r ≡ Some c) × (c.target ≡ Some i)
    joining = core_joins s r i (way-of (Some i) way)

    abbrev coming : FreeCore
    coming = joining.0

    join-steps : JoinSteps m s s.now r coming i
    join-steps = (tool_steps m s s.now).joins r coming i joining.1 joining.2

    pub free-there : IsSome (at_place tool.part.free r)
    free-there = ap is_some (free-of r ∙ ap (option_map free_core_ends) joining.1)

    pub event-joins : event.Moved (core_number r) (Some (pool_number i)) ≡ event_of m s s.now (Moved (core_number r))
    event-joins =
        sym (ap (λ (o : Option FreeCore). event.Moved (core_number r) (elim o as (λ _. Option PoolId) [ None ↦ None | Some c ↦ option_map pool_number c.target ])) joining.1
        ∙ ap (λ (o : Option ℕ). event.Moved (core_number r) (option_map pool_number o)) joining.2)

    -- the pool is there
    pub target-there : i < 16
    target-there =
        let there = some_is (at_place s.pools i) ((known-of w begins.goes).housed.aims r i (ap (option_map (λ (c : FreeCore). c.target)) joining.1 ∙ ap (λ (o : Option ℕ). Some o) joining.2)) in
        let low = place_below s.pools i there.0 there.1 in
        let places = (range-of w begins.goes).pool_places in
        omega (arith, low, places)

    module _ (ends : List Moment) (taken : at_place tool.part.free r ≡ Some ends) where
      ends-joining : ends ≡ coming.stall_ends
      ends-joining = mapped-some free_core_ends (at_place s.free r) coming ends joining.1 (sym (free-of r) ∙ taken)

      module _ (slot : Option Seen) (stands : StandsAt w i slot) where
        pool-here : (seen : Seen) → slot ≡ Some seen → at_place s.pools i ≡ Some seen.pool
        pool-here seen here = stands-there w i slot stands ∙ ap pool_at here

        pub joins-now : ForSome slot (λ seen. IsNow seen t)
        joins-now = is-now i slot stands

        pub joins-place : ForSome slot (λ seen. r < length seen.pool.resources)
        joins-place seen here =
            let range = range-of w begins.goes in
            let places = (range.pools i seen.pool (pool-here seen here)).core_places in
            let all = range.free_places in
            let low = place_below s.free r coming joining.1 in
            omega (arith, places, all, low)

        pub joins-absent : ForSome slot (λ seen. at_place seen.pool.resources r ≡ None)
        joins-absent seen here = none_without (at_place seen.pool.resources r) (none_found 0 i (λ p. is_some (at_place p.resources r)) s.pools seen.pool ((own-of w begins.goes).free r coming joining.1) (pool-here seen here))

        pub joins-siblings : ForSome slot (λ seen. length ends ≡ seen.granularity)
        joins-siblings seen here = ap length ends-joining ∙ ((range-of w begins.goes).free r coming joining.1).count ∙ sym (stands.suits seen here).granularity

        module _ (event : Event) (ev : event ≡ event_of m s s.now (Moved (core_number r))) (new : Option Seen) (made : new ≡ option_map (λ seen. seen_at t (settled_pool t (pools.with_core r ends seen.pool)) seen) slot) where
          joined-at : (o : Option Seen) → pool_at (option_map (λ seen. seen_at t (settled_pool t (pools.with_core r ends seen.pool)) seen) o) ≡ option_map (machine.pool_with_core s.now r coming.stall_ends) (pool_at o)
          joined-at None = refl
          joined-at (Some seen) =
              ap (λ (n : ℕ). Some (settled_pool n (pools.with_core r ends seen.pool))) begins.now
              ∙ ap (λ (l : List Moment). Some (settled_pool s.now (pools.with_core r l seen.pool))) ends-joining

          pub stands-joined : StandsAt (told_event w t event) i new
          stands-joined =
              stands-changed w tool t (Moved (core_number r)) begins event ev i (option_map (machine.pool_with_core s.now r coming.stall_ends)) slot new join-steps.own stands (ap pool_at made ∙ joined-at slot)
              (subst (λ (o : Option Seen). ForSome o (SlotSuits m s.now)) (sym made) (suits-seen m s.now t (λ seen. settled_pool t (pools.with_core r ends seen.pool)) begins.now slot stands.suits))

    -- the tool, which has the core no more
    module _ (new : Tool) (done : new ≡ but_for_free (clear_at r tool.part.free) (tool_of m left)) where
      pub acted-joins : (event : Event) → event ≡ event_of m s s.now (Moved (core_number r)) → HasActedOn w i (told_event w t event) new
      acted-joins event ev =
          acted-on w tool t (Moved (core_number r)) begins event ev i (option_map (machine.pool_with_core s.now r coming.stall_ends)) new join-steps.own
          (knows-left (clear_at r tool.part.free) new done (ap (map (option_map free_core_ends)) join-steps.free ∙ map-set (option_map free_core_ends) s.free r None ∙ ap (λ (x : Tool). clear_at r x.part.free) begins.known))

      pub counts-joins : KeepsCounts tool.part new.part
      counts-joins = keeps-moved m s s.now (core_to r (Some i)) (clear_at r tool.part.free) tool new (way-of (Some i) way) ends-it begins.known done

  -- out of the pool i
  module _ (i : ℕ) (way : tool.part.under_way ≡ Some (core_to r None)) (home : home_pool_of_core s r ≡ Some i) (slot : Option Seen) (stands : StandsAt w i slot) where
    not-free : at_place s.free r ≡ None
    not-free = is_empty (at_place s.free r) (λ c at. absurd (let none = (own-of w begins.goes).free r c at in cc))

    there : (pool : Pool) × (at_place s.pools i ≡ Some pool) × (is_some (at_place pool.resources r) ≡ true)
    there = found_at i _ s.pools home

    abbrev pool : Pool
    pool = there.0

    core-there : (c : Resource) × (at_place pool.resources r ≡ Some c)
    core-there = some_is (at_place pool.resources r) there.2

    abbrev going : Resource
    going = core-there.0

    leave-steps : LeaveSteps m s s.now r i going
    leave-steps = (tool_steps m s s.now).leaves r i pool going not-free home there.1 core-there.1

    seen-here : (seen : Seen) × (slot ≡ Some seen) × (seen.pool ≡ pool)
    seen-here = place-has w i slot stands pool there.1

    pub has-pool : IsSome slot
    has-pool = ap is_some seen-here.1

    same-pool : (seen : Seen) → slot ≡ Some seen → seen.pool ≡ pool
    same-pool seen here = (let known = seen-here in let at = known.1 in let same : known.0 ≡ seen = cc in ap (λ (x : Seen). x.pool) (sym same) ∙ known.2)

    pub event-leaves : event.Moved (core_number r) None ≡ event_of m s s.now (Moved (core_number r))
    event-leaves = sym (ap (λ (o : Option FreeCore). event.Moved (core_number r) (elim o as (λ _. Option PoolId) [ None ↦ None | Some c ↦ option_map pool_number c.target ])) not-free)

    pub leaves-now : ForSome slot (λ seen. IsNow seen t)
    leaves-now = is-now i slot stands

    may-leave : enabled_in m.config.granularity s.now pool (Moved (core_number r)) ≡ true
    may-leave =
        let may : Pool → Bool = λ p. enabled_in m.config.granularity s.now p (Moved (core_number r)) in
        let by_free : Option FreeCore → Bool = λ o. elim o [ None ↦ false | Some c ↦ is_free_core_ready s.now c ] in
        let by_home : Option ℕ → Bool = λ o. elim o [ None ↦ false | Some k ↦ test_at s.pools k may ] in
        let by_pool : Option Pool → Bool = λ o. elim o [ None ↦ false | Some p ↦ may p ] in
        sym (ap (λ (o : Option FreeCore). by_free o || enabled_at_home m s s.now (Moved (core_number r))) not-free ∙ ap by_home home ∙ ap by_pool there.1) ∙ begins.enabled

    pub leaves-ready : ForSome slot (λ seen. enabled_in seen.granularity t seen.pool (Moved (core_number r)) ≡ true)
    leaves-ready seen here =
        ap (λ (g : ℕ). enabled_in g t seen.pool (Moved (core_number r))) (stands.suits seen here).granularity
        ∙ ap (λ (n : ℕ). enabled_in m.config.granularity n seen.pool (Moved (core_number r))) begins.now
        ∙ ap (λ (p : Pool). enabled_in m.config.granularity s.now p (Moved (core_number r))) (same-pool seen here)
        ∙ may-leave

    -- the tool has a place for the core, and not the core
    pub place-free : r < length tool.part.free
    place-free =
        let range = range-of w begins.goes in
        let places = (range.pools i pool there.1).core_places in
        let all = range.free_places in
        let low = place_below pool.resources r going core-there.1 in
        let count : length tool.part.free ≡ length s.free = ap (λ (x : Tool). length x.part.free) (sym begins.known) ∙ length-map (option_map free_core_ends) s.free in
        omega (arith, places, all, low, count)

    pub none-free : at_place tool.part.free r ≡ None
    none-free = free-of r ∙ ap (option_map free_core_ends) not-free

    module _ (event : Event) (ev : event ≡ event_of m s s.now (Moved (core_number r))) where
      module _ (new : Option Seen) (made : new ≡ option_map (λ seen. seen_at t (settled_pool t (pools.without_core r seen.pool)) seen) slot) where
        left-at : (o : Option Seen) → pool_at (option_map (λ seen. seen_at t (settled_pool t (pools.without_core r seen.pool)) seen) o) ≡ option_map (machine.without_core s.now r) (pool_at o)
        left-at None = refl
        left-at (Some seen) = ap (λ (n : ℕ). Some (settled_pool n (pools.without_core r seen.pool))) begins.now

        pub stands-left : StandsAt (told_event w t event) i new
        stands-left =
            stands-changed w tool t (Moved (core_number r)) begins event ev i (option_map (machine.without_core s.now r)) slot new leave-steps.own stands (ap pool_at made ∙ left-at slot)
            (subst (λ (o : Option Seen). ForSome o (SlotSuits m s.now)) (sym made) (suits-seen m s.now t (λ seen. settled_pool t (pools.without_core r seen.pool)) begins.now slot stands.suits))

    -- the tool, which has the core
    module _ (ends : List Moment) (is : ForSome slot (λ seen. option_map shared.ends_of (at_place seen.pool.resources r) ≡ Some ends)) (new : Tool) (done : new ≡ but_for_free (put_at r ends tool.part.free) (tool_of m left)) where
      ends-going : ends ≡ shared.ends_of going
      ends-going =
          let known = seen-here in
          mapped-some shared.ends_of (at_place pool.resources r) going ends core-there.1 (ap (λ (p : Pool). option_map shared.ends_of (at_place p.resources r)) (sym known.2) ∙ is known.0 known.1)

      pub acted-leaves : (event : Event) → event ≡ event_of m s s.now (Moved (core_number r)) → HasActedOn w i (told_event w t event) new
      acted-leaves event ev =
          let free : FreeCore = record { target = None; stall_ends = shared.ends_of going } in
          acted-on w tool t (Moved (core_number r)) begins event ev i (option_map (machine.without_core s.now r)) new leave-steps.own
          (knows-left (put_at r ends tool.part.free) new done
          (ap (map (option_map free_core_ends)) leave-steps.free ∙ map-set (option_map free_core_ends) s.free r (Some free)
          ∙ ap (λ (l : List Moment). put_at r l (map (option_map free_core_ends) s.free)) (sym ends-going) ∙ ap (λ (x : Tool). put_at r ends x.part.free) begins.known))

      pub counts-leaves : KeepsCounts tool.part new.part
      counts-leaves = keeps-moved m s s.now (core_to r None) (put_at r ends tool.part.free) tool new (way-of None way) ends-it begins.known done
