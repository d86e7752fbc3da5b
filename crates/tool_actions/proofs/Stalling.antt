-- A stall of the workload: what it makes of the place of the pool that has the processor, or of what the tool knows.
use Rattle.std.proofs.Common.{◌≡◌, ◌≤◌, ◌<◌, ◌∙◌, ℕ, suc, Bool, true, false, List, length, refl, sym, ap, subst, arith, inl, inr}
use Rattle.std.specs.Prelude.{◌+◌, ◌/◌, ◌%◌, Option, Some, None, is_some, max, nat_le, option_map, slice_get, slice_index_or, slice_set}
use Rattle.std.specs.Option.{ForSome, IsSome}
use Rattle.std.proofs.lemmas.List.Elements.{recursion_from_All}
use Rattle.std.proofs.lemmas.Option.{slice_get_within}
use Rattle.sched_base.specs.Numbers.{moment, pool as pool_number, processor}
use Rattle.sched_base.specs.declared.Moment.{Moment}
use Rattle.sched_base.specs.declared.PoolId.{PoolId}
use Rattle.sched_base.specs.declared.ProcId.{ProcId}
use Rattle.sched_model.specs.declared.action.Action.TheVariants.{Stall}
use Rattle.sched_model.specs.declared.event.Event.{Event}
use Rattle.sched_model.specs.declared.event.Event.TheVariants as event
use Rattle.sched_model.specs.declared.machine.Machine.{Machine}
use Rattle.sched_model.specs.declared.state.FreeCore.{FreeCore}
use Rattle.sched_model.specs.declared.state.Pool.{Pool}
use Rattle.sched_model.specs.declared.state.Processor.{Processor}
use Rattle.sched_model.specs.declared.state.State.{State}
use Rattle.sched_model.specs.declared.work.StallLine.{StallLine}
use Rattle.sched_model.specs.Actions.{change_pool, home_pool_of_core}
use Rattle.sched_model.specs.CheckedMachine.{IsCheckedStall}
use Rattle.sched_model.specs.Machine.{after, after_stall, event_of, is_action_enabled, later_stall_end, state_with_stall}
use Rattle.sched_model.specs.Opening.{machine_core_count}
use Rattle.sched_model.specs.Places.{at_place, change_at, change_item}
use Rattle.sched_model.specs.Pool.{change_processor, pool_processor}
use Rattle.sched_model.proofs.PlaceLemmas.{at_place-map}
use Rattle.sched_base.proofs.Bools.{clash}
use Rattle.sched_base.proofs.Lists.{each_get}
use Rattle.sched_laws.proofs.EachPlace.{found_at, none_found}
use Rattle.sched_laws.proofs.Granularity.{by_granularity}
use Rattle.sched_laws.proofs.Lists.{same_read}
use Rattle.journal_core.specs.Parts.{ToolPart}
use Rattle.composition_laws.proofs.Alike.{core_of}
use Rattle.cpupool.specs.Tool.{Tool, free_core_ends, tool_of}
use Rattle.composition_laws.specs.ToolSteps as steps
use Rattle.composition_laws.specs.ToolSteps.{StallSteps, end_of_stall, stall_end_in}
use Rattle.composition_laws.proofs.Moving.{IsKnown, known_in_runs}
use Rattle.composition_laws.proofs.ToolSteps.{tool_steps}
use Rattle.pool_core.specs.Seen.{Seen, extended_stall_end, with_stall}
use Rattle.machine_parts.specs.Counts.{KeepsCounts, in_use_of}
use Rattle.machine_parts.specs.Told.{Told}
use Rattle.machine_parts.specs.Places.{AllStand, GoesOn, SlotSuits, StandsAt, state_of, with_pool}
use Rattle.machine_parts.proofs.Going.{early, state_of-is}
use Rattle.machine_parts.proofs.Standing.{pool_at, stands-there}
use Rattle.machine_parts.specs.Parts.{AreParts}
use Rattle.machine_parts.proofs.AtPlaces.{core_below, no-number, number-of}
use Rattle.tool_actions.specs.Acts.{Begins, HasActedAlone, HasActedOn, told_event}
use Rattle.tool_actions.specs.Stalls.{IsNextStall, one_stall_more}
use Rattle.tool_actions.proofs.Acting.{acted-alone, acted-on, parts-on, stands-changed}

-- each core of the machine is one of no pool or is in a pool, in the state that a trail leads to
pub known-of : (w : Told) → GoesOn w → IsKnown w.input (state_of w)
known-of w goes = subst (IsKnown w.input) (sym (state_of-is w)) (known_in_runs w.input goes.checked w.history goes.run)

-- where the machine has a pool, its place has one
pub place-has : (w : Told) (i : ℕ) (slot : Option Seen) → StandsAt w i slot → (pool : Pool) → at_place (state_of w).pools i ≡ Some pool → (seen : Seen) × (slot ≡ Some seen) × (seen.pool ≡ pool)
place-has w i None stands pool at = absurd (let there = stands-there w i None stands in cc)
place-has w i (Some seen) stands pool at = (seen, refl, (let there = stands-there w i (Some seen) stands in cc))

-- the state with one stall more done
abbrev pub counted_state : Told → State
counted_state w = record (state_of w) { next_stall = suc (state_of w).next_stall }

-- the place that is read
pub stands-read : (w : Told) (slots : List (Option Seen)) → AllStand w slots → (i : ℕ) (default : Option Seen) → i < length slots → StandsAt w i (slice_index_or slots i default)
stands-read w slots all i default low =
    let few : i < 16 = (let count = all.count in omega (arith, low, count)) in
    subst (StandsAt w i) (same_read slots i None default low) (all.each i few)

-- the later end, where the processor is there
until-is : (o : Option Processor) (end : ℕ) → extended_stall_end o (moment end) ≡ moment (elim o as (λ _. ℕ) [ None ↦ end | Some q ↦ max q.stall_end.0 end ])
until-is None end = refl
until-is (Some q) end = refl

module _ (w : Told) (t : ℕ) (line : StallLine) (home : Option ℕ) (next : IsNextStall w t line home) where
  abbrev m : Machine
  m = w.input

  abbrev s : State
  s = state_of w

  abbrev g : ℕ
  g = m.config.granularity

  abbrev tool : Tool
  tool = tool_of m s

  checked-line : IsCheckedStall m.config line
  checked-line = each_get (IsCheckedStall m.config) m.work.stalls s.next_stall line (recursion_from_All (IsCheckedStall m.config) m.work.stalls next.goes.checked.work.stalls) next.line_is

  -- the end of a stall fits a moment
  pub end-early : t + line.span.0 ≤ 20000000000000
  end-early =
      let limit = early w next.goes in
      let now = next.now in
      let most = checked-line.span.most in
      omega (arith, limit, now, most)

  begins : Begins w tool t Stall
  begins = record { goes = next.goes; now = next.now; known = refl; enabled = next.enabled }

  -- the event, by its end
  event-is : (end : Moment) → end ≡ moment (end_of_stall m s s.now line) → event.Stall line.cpu end ≡ event_of m s s.now Stall
  event-is end is =
      subst (λ (o : Option StallLine). event.Stall line.cpu end ≡ event.Stall
      (elim o as (λ _. ProcId) [ None ↦ processor 0 | Some x ↦ x.cpu ])
      (elim o as (λ _. Moment) [ None ↦ moment 0 | Some x ↦ moment (end_of_stall m s s.now x) ])) (sym next.line_is)
      (ap (λ (e : Moment). event.Stall line.cpu e) is)

  stall-steps : StallSteps m s s.now line
  stall-steps = (tool_steps m s s.now).stall line next.line_is

-- in the pool that has the processor
module _ (w : Told) (t : ℕ) (line : StallLine) (i : ℕ) (next : IsNextStall w t line (Some i)) (slot : Option Seen) (stands : StandsAt w i slot) where
  there : (pool : Pool) × (at_place (state_of w).pools i ≡ Some pool)
  there = (let f = found_at i _ (state_of w).pools next.home_is in (f.0, f.1))

  abbrev pool : Pool
  pool = there.0

  module _ (end : Moment) (is : ForSome slot (λ seen. end ≡ extended_stall_end (pool_processor seen.granularity seen.pool line.cpu.0) (moment (t + line.span.0)))) where
    end-there : end ≡ moment (end_of_stall w.input (state_of w) (state_of w).now line)
    end-there =
        let here = place-has w i slot stands pool there.1 in
        let seen : Seen = here.0 in
        let suits = stands.suits seen here.1 in
        let g : ℕ = w.input.config.granularity in
        is seen here.1
        ∙ ap (λ (k : ℕ). extended_stall_end (pool_processor k seen.pool line.cpu.0) (moment (t + line.span.0))) suits.granularity
        ∙ ap (λ (p : Pool). extended_stall_end (pool_processor g p line.cpu.0) (moment (t + line.span.0))) here.2
        ∙ until-is (pool_processor g pool line.cpu.0) (t + line.span.0)
        ∙ ap (λ (k : ℕ). moment (stall_end_in g line.cpu.0 (k + line.span.0) pool)) next.now
        ∙ ap moment (sym ((stall-steps w t line (Some i) next).end i pool next.home_is there.1))

    pub event-in : event.Stall line.cpu end ≡ event_of w.input (state_of w) (state_of w).now Stall
    event-in = event-is w t line (Some i) next end end-there

    module _ (event : Event) (ev : event ≡ event_of w.input (state_of w) (state_of w).now Stall) where
      pub acted-in : HasActedOn w i (told_event w t event) (one_stall_more (tool_of w.input (state_of w)))
      acted-in =
          let steps = stall-steps w t line (Some i) next in
          acted-on w (tool_of w.input (state_of w)) t Stall (begins w t line (Some i) next) event ev i _ (one_stall_more (tool_of w.input (state_of w))) (steps.own i next.home_is)
          (ap (λ (part : ToolPart). let x : Tool = record (tool_of w.input (state_of w)) { part = part } in x) (steps.tool i next.home_is))

      module _ (new : Option Seen) (left : new ≡ with_pool (λ seen. with_stall seen.granularity line.cpu.0 end seen.pool) slot) where
        abbrev f : Pool → Pool
        f = steps.with_stall w.input.config.granularity line.cpu.0 (end_of_stall w.input (state_of w) (state_of w).now line)

        made : (o : Option Seen) → ForSome o (SlotSuits w.input (state_of w).now) → pool_at (with_pool (λ seen. with_stall seen.granularity line.cpu.0 end seen.pool) o) ≡ option_map f (pool_at o)
        made None suits = refl
        made (Some seen) suits =
            ap (λ (k : ℕ). Some (with_stall k line.cpu.0 end seen.pool)) (suits seen refl).granularity
            ∙ ap (λ (e : Moment). Some (with_stall w.input.config.granularity line.cpu.0 e seen.pool)) end-there

        suits-made : (o : Option Seen) → ForSome o (SlotSuits w.input (state_of w).now) → ForSome (with_pool (λ seen. with_stall seen.granularity line.cpu.0 end seen.pool) o) (SlotSuits w.input (state_of w).now)
        suits-made None suits x at = absurd (cc)
        suits-made (Some seen) suits x at =
            let old = suits seen refl in
            let g : x.granularity ≡ seen.granularity = cc in
            let l : x.latest ≡ seen.latest = cc in
            record { granularity = g ∙ old.granularity; latest = (let late = old.latest in omega (arith, l, late)) }

        pub stands-in : StandsAt (told_event w t event) i new
        stands-in =
            let steps = stall-steps w t line (Some i) next in
            stands-changed w (tool_of w.input (state_of w)) t Stall (begins w t line (Some i) next) event ev i (option_map f) slot new (steps.own i next.home_is) stands
            (ap pool_at left ∙ made slot stands.suits)
            (subst (λ (o : Option Seen). ForSome o (SlotSuits w.input (state_of w).now)) (sym left) (suits-made slot stands.suits))

-- with the core of no pool
module _ (w : Told) (t : ℕ) (line : StallLine) (next : IsNextStall w t line None) (old : Tool) (counted : old ≡ one_stall_more (tool_of w.input (state_of w))) where
  abbrev r : ℕ
  r = line.cpu.0 / w.input.config.granularity

  in-no-pool : (i : ℕ) (o : Option Pool) → at_place (state_of w).pools i ≡ o → core_of o r ≡ true → ⊥
  in-no-pool i None at has = absurd (cc)
  in-no-pool i (Some pool) at has = clash (is_some (at_place pool.resources r)) has (none_found 0 i (λ p. is_some (at_place p.resources r)) (state_of w).pools pool next.home_is at)

  core-low : r < machine_core_count w.input.config
  core-low =
      let config = w.input.config in
      let low = (checked-line w t line None next).cpu in
      let checked = next.goes.checked.config in
      by_granularity (λ (n : ℕ). config.processors % n ≡ 0 → line.cpu.0 / n < config.processors / n) config.granularity checked.granularity (λ z. omega (arith, low, z)) (λ z. omega (arith, low, z)) (λ z. omega (arith, low, z)) checked.whole_cores

  core-free : is_some (at_place (state_of w).free r) ≡ true
  core-free = elim ((known-of w next.goes).housed.cores r core-low) [ inl free ↦ free | inr p ↦ absurd (in-no-pool p.0 (at_place (state_of w).pools p.0) refl p.1) ]

  -- the tool has the core
  pub free-there : IsSome (at_place old.part.free (line.cpu.0 / old.granularity))
  free-there = subst (λ (x : Tool). IsSome (at_place x.part.free (line.cpu.0 / x.granularity))) (sym counted) (ap is_some (at_place-map free_core_ends (state_of w).free r) ∙ mapped (at_place (state_of w).free r) core-free)
    where
      mapped : (o : Option FreeCore) → is_some o ≡ true → is_some (option_map free_core_ends o) ≡ true
      mapped None some = some
      mapped (Some c) some = refl

  pub counted-is : tool_of w.input (counted_state w) ≡ old
  counted-is = sym counted

  module _ (end : Moment) (is : end ≡ moment (later_stall_end w.input.config.granularity (counted_state w) line.cpu.0 (t + line.span.0))) where
    end-none : end ≡ moment (end_of_stall w.input (state_of w) (state_of w).now line)
    end-none = is ∙ ap (λ (k : ℕ). moment (later_stall_end w.input.config.granularity (state_of w) line.cpu.0 (k + line.span.0))) next.now

    pub event-none : event.Stall line.cpu end ≡ event_of w.input (state_of w) (state_of w).now Stall
    event-none = event-is w t line None next end end-none

    -- the state with the end of the stall at the core of no pool
    with_end : State → State
    with_end s = record s { free = change_at r (λ (c : FreeCore). record c { stall_ends = change_item (line.cpu.0 % w.input.config.granularity) (λ old. moment end.0) c.stall_ends }) s.free }

    stalled-none : (s : State) → home_pool_of_core s r ≡ None → state_with_stall w.input.config.granularity line.cpu.0 end.0 s ≡ with_end s
    unfolding with_end
    stalled-none s none = ap (λ (o : Option ℕ). elim o as (λ _. State) [ None ↦ with_end s | Some i ↦ change_pool i (change_processor w.input.config.granularity line.cpu.0 (λ q. record q { stall_end = moment end.0 })) s ]) none

    left-none : after w.input (state_of w) (state_of w).now Stall ≡ with_end (counted_state w)
    unfolding with_end
    left-none =
        let s : State = state_of w in
        ap (λ (o : Option StallLine). elim o as (λ _. State) [ None ↦ s | Some l ↦ after_stall w.input.config.granularity s.now l s ]) next.line_is
        ∙ ap (λ (e : Moment). let x : State = record (state_with_stall w.input.config.granularity line.cpu.0 e.0 s) { next_stall = suc s.next_stall } in x) (sym end-none)
        ∙ ap (λ (x : State). let y : State = record x { next_stall = suc s.next_stall } in y) (stalled-none s next.home_is)

    module _ (new : Tool) (left : new ≡ tool_of w.input (state_with_stall w.input.config.granularity line.cpu.0 end.0 (counted_state w))) where
      new-is : new ≡ tool_of w.input (with_end (counted_state w))
      new-is = left ∙ ap (tool_of w.input) (stalled-none (counted_state w) next.home_is)

      pub acted-none : (event : Event) → event ≡ event_of w.input (state_of w) (state_of w).now Stall → HasActedAlone w (told_event w t event) new
      acted-none event ev =
          acted-alone w (tool_of w.input (state_of w)) t Stall (begins w t line None next) event ev new ((stall-steps w t line None next).free next.home_is)
          (ap (tool_of w.input) left-none ∙ sym new-is)

      pub counts-none : KeepsCounts old.part new.part
      unfolding with_end
      counts-none = record {
        in_use = λ kind. ap (λ (x : Tool). in_use_of kind x.part.pools) new-is ∙ sym (ap (λ (x : Tool). in_use_of kind x.part.pools) counted);
        commands = ap (λ (x : Tool). x.part.next_command) new-is ∙ sym (ap (λ (x : Tool). x.part.next_command) counted);
      }

-- counts that two steps keep
keeps-both : (a b c : ToolPart) → KeepsCounts a b → KeepsCounts b c → KeepsCounts a c
keeps-both a b c first second = record { in_use = λ kind. second.in_use kind ∙ first.in_use kind; commands = second.commands ∙ first.commands }

-- over the places of all pools
module _ (w : Told) (slots : List (Option Seen)) (tool : Tool) (parts : AreParts w slots tool) (enabled : is_action_enabled w.input (state_of w) (state_of w).now Stall ≡ true) where
  pub line-left : tool.part.next_stall < length tool.stalls
  line-left =
      let s : State = state_of w in
      let inside : s.next_stall < length w.input.work.stalls = by_line (slice_get w.input.work.stalls s.next_stall) refl enabled in
      subst (λ (x : Tool). x.part.next_stall < length x.stalls) parts.known inside
    where
      by_line : (o : Option StallLine) → slice_get w.input.work.stalls (state_of w).next_stall ≡ o → elim o as (λ _. Bool) [ None ↦ false | Some line ↦ nat_le line.at.0 (state_of w).now ] ≡ true → (state_of w).next_stall < length w.input.work.stalls
      by_line None at on = absurd (cc)
      by_line (Some line) at on = slice_get_within w.input.work.stalls (state_of w).next_stall line at

  pub some-processor : 1 ≤ w.input.config.granularity
  some-processor = by_granularity (λ (n : ℕ). 1 ≤ n) w.input.config.granularity parts.goes.checked.config.granularity (omega arith) (omega arith) (omega arith)

  module _ (t g : ℕ) (now : t ≡ (state_of w).now) (same : g ≡ w.input.config.granularity) (line : StallLine) (is : slice_get tool.stalls tool.part.next_stall ≡ Some line) (taken : Tool) (counted : taken ≡ one_stall_more tool) where
    pub taken-is : taken ≡ one_stall_more (tool_of w.input (state_of w))
    taken-is = counted ∙ ap one_stall_more (sym parts.known)

    pub taken-known : tool_of w.input (counted_state w) ≡ taken
    taken-known = sym taken-is

    module _ (home : Option PoolId) (told : home ≡ option_map pool_number (home_pool_of_core (state_of w) (line.cpu.0 / g))) where
      next-of : (o : Option ℕ) → home_pool_of_core (state_of w) (line.cpu.0 / g) ≡ o → IsNextStall w t line o
      next-of o at = record {
        goes = parts.goes;
        now = now;
        enabled = enabled;
        line_is = ap (λ (x : Tool). slice_get x.stalls x.part.next_stall) parts.known ∙ is;
        home_is = ap (λ (n : ℕ). home_pool_of_core (state_of w) (line.cpu.0 / n)) (sym same) ∙ at;
      }

      pub next-none : home ≡ None → IsNextStall w t line None
      next-none none = next-of None (no-number _ (sym told ∙ none))

      pub next-in : (i : PoolId) → home ≡ Some i → IsNextStall w t line (Some i.0)
      next-in i at = next-of (Some i.0) (number-of _ i (sym told ∙ at))

      -- the pool is one of the places
      pub next-below : (i : PoolId) → home ≡ Some i → i.0 < length slots
      next-below i at = core_below w slots tool parts (line.cpu.0 / g) i.0 (number-of _ i (sym told ∙ at))

    pub stall-parts-in : (i : ℕ) (event : Event) (a : Option Seen) → HasActedOn w i (told_event w t event) (one_stall_more (tool_of w.input (state_of w))) → StandsAt (told_event w t event) i a → AreParts (told_event w t event) (slice_set slots i a) taken
    stall-parts-in i event a acted here = parts-on w slots parts.stand (told_event w t event) taken refl i a (subst (HasActedOn w i (told_event w t event)) (sym taken-is) acted) here

    pub stall-counts-in : KeepsCounts tool.part taken.part
    stall-counts-in = subst (λ (x : Tool). KeepsCounts tool.part x.part) (sym counted) (record { in_use = λ kind. refl; commands = refl })

    pub stall-counts-none : (new : Tool) → KeepsCounts taken.part new.part → KeepsCounts tool.part new.part
    stall-counts-none new keeps = keeps-both tool.part taken.part new.part stall-counts-in keeps
