-- The spare pools after the next command, and what the tool keeps.
use Rattle.std.proofs.Common.{◌≡◌, ◌∙◌, ◌≤◌, ◌<◌, ℕ, suc, Bool, true, false, List, length, refl, sym, ap, subst, arith}
use Rattle.std.specs.Prelude.{Option, Some, None, Ok, is_none, is_some, nat_le, option_map, slice_get, slice_index_or, slice_set, ◌&&◌}
use Rattle.std.specs.Option.{ForSome, IsSome}
use Rattle.std.proofs.lemmas.Option.{slice_get_within}
use Rattle.sched_model.specs.declared.action.Action.TheVariants.{Xl}
use Rattle.sched_model.specs.declared.config.SchedKind.{SchedKind}
use Rattle.sched_model.specs.declared.machine.Machine.{Machine}
use Rattle.sched_model.specs.declared.plan.Plan.{Plan}
use Rattle.sched_model.specs.declared.plan.Plan.TheVariants as plan
use Rattle.sched_base.specs.declared.PoolId.{PoolId}
use Rattle.sched_model.specs.declared.state.Pool.{Pool}
use Rattle.sched_model.specs.declared.state.State.{State}
use Rattle.sched_model.specs.declared.work.CommandLine.{CommandLine}
use Rattle.sched_model.specs.Commands.{plan_pool}
use Rattle.sched_model.specs.Machine.{after_command, is_action_enabled, line_verdict}
use Rattle.sched_model.specs.Opening.{most_pools}
use Rattle.sched_model.specs.Places.{at_place, clear_at, put_at}
use Rattle.sched_model.specs.Policy.{standard_pool_params, records_kind}
use Rattle.sched_model.proofs.PlaceLemmas.{at_place-map}
use Rattle.sched_base.proofs.Bools.{and_right}
use Rattle.sched_laws.proofs.Lists.{same_read}
use Rattle.sched_laws.proofs.EachPlace.{place_below}
use Rattle.sched_laws.proofs.Sound.{none_is}
use Rattle.journal_core.specs.Parts.{ToolPart, pool_outline, state_under_way, tool_of as part_of_tool}
use Rattle.cpupool.specs.ToolAdvance.{after_advance, fresh_outline}
use Rattle.cpupool.specs.Steps.{is_command_due}
use Rattle.cpupool.specs.Tool.{Tool, tool_of}
use Rattle.cpupool.proofs.AdvanceLemmas.{advanced-seen}
use Rattle.cpupool.proofs.SubjectLemmas.{length-map}
use Rattle.cpupool.proofs.WayLemmas.{command-seen}
use Rattle.pool_core.specs.Seen.{Seen, IsEmpty}
use Rattle.machine_parts.specs.Counts.{AreSpares, in_use_of, makes_at}
use Rattle.machine_parts.specs.Places.{SlotSuits, state_of}
use Rattle.machine_parts.specs.Spares.{Shelves, made_seen, shelf_of}
use Rattle.machine_parts.specs.Told.{Told}
use Rattle.machine_parts.proofs.Counting.{spare-there}
use Rattle.machine_parts.proofs.Going.{range-of}
use Rattle.machine_parts.proofs.Standing.{pool_at}
use Rattle.machine_parts.specs.Parts.{AreParts}
use Rattle.machine_parts.proofs.AtPlaces.{nothing-there, seen-there}
use Rattle.composition_laws.specs.Plans.{Finds, FindsPool, HasNothing}
use Rattle.composition_laws.specs.ToolSteps.{carried_at}
use Rattle.tool_actions.specs.CarriedPlans.{HasCarried, IsAccepted, KeepsPools, xl_told}
use Rattle.tool_actions.specs.MadePools.{DestroysPool, HasGone, HasMade, MakesPool, MayGo}
use Rattle.tool_actions.proofs.Carried.{parts-carried}
use Rattle.tool_actions.proofs.Created.{line-makes}
use Rattle.machine_parts.proofs.Keeping.{spares-created, spares-destroyed, spares-passed, spares-room}
use Rattle.tool_actions.proofs.Taking.{accepted-finds}

-- a command that comes is there, and nothing is on its way
record Comes (tool : Tool) : Type 0 where
  pub line : CommandLine
  pub next : slice_get tool.commands tool.part.next_command ≡ Some line
  pub idle : tool.part.under_way ≡ None

comes : (tool : Tool) (t : ℕ) → is_command_due tool t ≡ true → Comes tool
comes tool t may = by_line (slice_get tool.commands tool.part.next_command) refl may
  where
    by_line : (o : Option CommandLine) → slice_get tool.commands tool.part.next_command ≡ o → (elim o as (λ _. Bool) [ None ↦ false | Some line ↦ nat_le line.at.0 t && is_none tool.part.under_way ]) ≡ true → Comes tool
    by_line None is e = absurd (cc)
    by_line (Some line) is e = record { line = line; next = is; idle = none_is tool.part.under_way (and_right (nat_le line.at.0 t) (is_none tool.part.under_way) e) }

module _ (m : Machine) (s : State) (t : ℕ) (enabled : is_action_enabled m s t Xl ≡ true) where
  coming : Comes (tool_of m s)
  coming = comes (tool_of m s) t (command-seen m s t ∙ enabled)

  idle : state_under_way s ≡ None
  idle = coming.idle

  module _ (tool : Tool) (known : tool_of m s ≡ tool) where
    pub is-left : tool.part.next_command < length tool.commands
    is-left = subst (λ (x : Tool). x.part.next_command < length x.commands) known (slice_get_within m.work.commands s.next_command coming.line coming.next)

    pub is-idle : tool.part.under_way ≡ None
    is-idle = ap (λ (x : Tool). x.part.under_way) (sym known) ∙ idle

    -- what the tool keeps after an accepted command
    module _ (line : CommandLine) (p : Plan) (says : line_verdict m s line ≡ Ok p) (new : Tool) (told : new ≡ tool_of m (after_command m t line s)) where
      pub advanced-is : new ≡ after_advance tool p
      advanced-is = told ∙ sym (advanced-seen m s idle t line p says) ∙ ap (λ (x : Tool). after_advance x p) known

-- a plan that keeps the pools leaves the outlines
pub pools-kept : (tool : Tool) (p : Plan) → KeepsPools p → (after_advance tool p).part.pools ≡ tool.part.pools
pools-kept tool (plan.PoolCreate i name kind answer) keeps = absurd keeps
pools-kept tool (plan.PoolDestroy i answer) keeps = absurd keeps
pools-kept tool p keeps = refl

-- after a command that is refused, and after one that keeps the pools
module _ (m : Machine) (now : ℕ) (tool new : Tool) (shelves : Shelves) (are : AreSpares m now tool.part shelves) where
  pub spares-on : new.part.pools ≡ tool.part.pools → new.part.next_command ≡ suc tool.part.next_command → AreSpares m now new.part shelves
  spares-on pools over = spares-passed m now tool.part new.part shelves (λ kind. ap (in_use_of kind) pools) over are

-- the outline of what stands at a place of the pools
outline-at : (s : State) (i : ℕ) (o : Option Pool) → at_place s.pools i ≡ o → at_place (part_of_tool s).pools i ≡ option_map pool_outline o
outline-at s i o is = at_place-map pool_outline s.pools i ∙ ap (option_map pool_outline) is

-- a pool that a command makes, at its place
module _ (w : Told) (slots : List (Option Seen)) (tool : Tool) (parts : AreParts w slots tool) (enabled : is_action_enabled w.input (state_of w) (state_of w).now Xl ≡ true) (p : Plan) (accepted : IsAccepted w p) where
  abbrev m : Machine
  m = w.input

  abbrev s : State
  s = state_of w

  module _ (i : PoolId) (kind : SchedKind) (makes : MakesPool p i kind) where
    found : (i.0 < length s.pools) × (at_place s.pools i.0 ≡ None)
    found = subst (Finds m s) makes.is (accepted-finds w parts.goes p accepted)

    says : line_verdict m s accepted.line ≡ Ok (plan.PoolCreate i makes.name kind makes.answer)
    says = accepted.accepted ∙ ap (λ (q : Plan). Ok q) makes.is

    new-low : i.0 < 16
    new-low = (let inside = found.0 in let places = (range-of w parts.goes).pool_places in omega (arith, inside, places))

    pub new-below : i.0 < length slots
    new-below = (let low = new-low in let count = parts.stand.count in omega (arith, low, count))

    pub new-read : (default : Option Seen) → at_place slots i.0 ≡ slice_index_or slots i.0 default
    new-read default = same_read slots i.0 None default new-below

    pub new-empty : at_place slots i.0 ≡ None
    new-empty = nothing-there w slots tool parts i.0 found.1

    module _ (shelves : Shelves) (are : AreSpares m s.now tool.part shelves) where
      known-part : part_of_tool s ≡ tool.part
      known-part = ap (λ (x : Tool). x.part) parts.known

      are-here : AreSpares m s.now (part_of_tool s) shelves
      are-here = subst (λ (part : ToolPart). AreSpares m s.now part shelves) (sym known-part) are

      no-outline : at_place (part_of_tool s).pools i.0 ≡ None
      no-outline = outline-at s i.0 None found.1

      outlines-inside : i.0 < length (part_of_tool s).pools
      outlines-inside = (let inside = found.0 in let count = length-map (option_map pool_outline) s.pools in omega (arith, inside, count))

      all-places : length (part_of_tool s).pools ≡ most_pools
      all-places = length-map (option_map pool_outline) s.pools ∙ (range-of w parts.goes).pool_places

      asks : makes_at kind accepted.line ≡ true
      asks = line-makes m s accepted.line i makes.name kind makes.answer says

      pub new-spare : 0 < length (shelf_of kind shelves).pools
      new-spare = spare-there m kind (part_of_tool s) (shelf_of kind shelves) (are-here.counts kind) i.0 no-outline outlines-inside all-places accepted.line accepted.next asks

      module _ (left : Shelves) (slot : Option Seen) (made : HasMade m s.now kind shelves left slot) (new : Tool) (told : new ≡ tool_of m (after_command m s.now accepted.line s)) where
        new-suits : ForSome slot (SlotSuits m s.now)
        new-suits x at =
            let here : made_seen m.config (standard_pool_params kind) made.spare.latest ≡ x = (let was = made.made in cc) in
            subst (SlotSuits m s.now) here (record { granularity = refl; latest = made.suits.suits.latest })

        new-carried : HasCarried w s.now p i.0 slots (slice_set slots i.0 slot)
        new-carried = record {
          slot = slot;
          only = refl;
          made = ap pool_at made.made ∙ sym (ap (λ (q : Plan). carried_at m s.now q (pool_at (at_place slots i.0))) makes.is);
          suits = new-suits;
        }

        pub parts-new : AreParts (xl_told w) (slice_set slots i.0 slot) new
        parts-new = parts-carried w slots tool parts enabled accepted.line accepted.next p i.0 (slice_set slots i.0 slot) new new-low accepted.accepted (ap (plan_pool s) makes.is) new-carried told

        advanced-new : new ≡ after_advance tool (plan.PoolCreate i makes.name kind makes.answer)
        advanced-new = advanced-is m s s.now enabled tool parts.known accepted.line p accepted.accepted new told ∙ ap (after_advance tool) makes.is

        pub spares-new : AreSpares m s.now new.part left
        spares-new =
            spares-created m s.now kind (part_of_tool s) shelves left made.spare made.taken are-here new.part i.0 (fresh_outline tool kind) accepted.line no-outline outlines-inside refl
            (ap (λ (x : Tool). x.part.pools) advanced-new ∙ ap (λ (part : ToolPart). put_at i.0 (fresh_outline tool kind) part.pools) (sym known-part))
            accepted.next asks (ap (λ (x : Tool). x.part.next_command) advanced-new ∙ ap (λ (part : ToolPart). suc part.next_command) (sym known-part))

  -- a pool that a command destroys
  module _ (i : PoolId) (destroys : DestroysPool p i) where
    gone : FindsPool s i.0 HasNothing
    gone = subst (Finds m s) destroys.is (accepted-finds w parts.goes p accepted)

    gone-low : i.0 < 16
    gone-low = (let below = place_below s.pools i.0 gone.pool gone.at in let places = (range-of w parts.goes).pool_places in omega (arith, below, places))

    pub gone-below : i.0 < length slots
    gone-below = (let low = gone-low in let count = parts.stand.count in omega (arith, low, count))

    pub gone-read : (default : Option Seen) → at_place slots i.0 ≡ slice_index_or slots i.0 default
    gone-read default = same_read slots i.0 None default gone-below

    gone-seen : (seen : Seen) × (at_place slots i.0 ≡ Some seen) × (seen.pool ≡ gone.pool) × (seen.granularity ≡ m.config.granularity)
    gone-seen = seen-there w slots tool parts i.0 gone.pool gone.at

    pub gone-slot : IsSome (at_place slots i.0)
    gone-slot = ap (λ (o : Option Seen). is_some o) gone-seen.1

    module _ (kind : SchedKind) (kind_told : ForSome (at_place s.pools i.0) (λ (pool : Pool). kind ≡ records_kind pool.scheduler.records)) (shelves : Shelves) (are : AreSpares m s.now tool.part shelves) where
      gone-kind : records_kind gone.pool.scheduler.records ≡ kind
      gone-kind = sym (kind_told gone.pool gone.at)

      gone-part : part_of_tool s ≡ tool.part
      gone-part = ap (λ (x : Tool). x.part) parts.known

      gone-are : AreSpares m s.now (part_of_tool s) shelves
      gone-are = subst (λ (part : ToolPart). AreSpares m s.now part shelves) (sym gone-part) are

      gone-outline : at_place (part_of_tool s).pools i.0 ≡ Some (pool_outline gone.pool)
      gone-outline = outline-at s i.0 (Some gone.pool) gone.at

      pub gone-may : ForSome (at_place slots i.0) (MayGo kind shelves)
      gone-may x at =
          let here : gone-seen.0 ≡ x = (let was = gone-seen.1 in cc) in
          let empty : IsEmpty gone.pool = record { domains = λ n. (gone.meets n).1; cores = λ n. (gone.meets n).0 } in
          subst (MayGo kind shelves) here (record {
            empty = subst IsEmpty (sym gone-seen.2) empty;
            kind_is = ap (λ (pool : Pool). records_kind pool.scheduler.records) gone-seen.2 ∙ gone-kind;
            room = spares-room m s.now kind (part_of_tool s) shelves gone-are i.0 (pool_outline gone.pool) gone-outline gone-kind;
          })

      module _ (left : Shelves) (slot : Option Seen) (went : HasGone m s.now kind shelves left slot) (new : Tool) (told : new ≡ tool_of m (after_command m s.now accepted.line s)) where
        gone-carried : HasCarried w s.now p i.0 slots (slice_set slots i.0 slot)
        gone-carried = record {
          slot = slot;
          only = refl;
          made = ap pool_at went.gone ∙ sym (ap (λ (q : Plan). carried_at m s.now q (pool_at (at_place slots i.0))) destroys.is);
          suits = λ x at. absurd (let none = went.gone in cc);
        }

        pub parts-gone : AreParts (xl_told w) (slice_set slots i.0 slot) new
        parts-gone = parts-carried w slots tool parts enabled accepted.line accepted.next p i.0 (slice_set slots i.0 slot) new gone-low accepted.accepted (ap (plan_pool s) destroys.is) gone-carried told

        advanced-gone : new ≡ after_advance tool (plan.PoolDestroy i destroys.answer)
        advanced-gone = advanced-is m s s.now enabled tool parts.known accepted.line p accepted.accepted new told ∙ ap (after_advance tool) destroys.is

        pub spares-gone : AreSpares m s.now new.part left
        spares-gone =
            subst (λ (x : Shelves). AreSpares m s.now new.part x) (sym went.given)
            (spares-destroyed m s.now kind (part_of_tool s) shelves gone-are i.0 (pool_outline gone.pool) gone-outline gone-kind new.part went.spare went.suits
            (ap (λ (x : Tool). x.part.pools) advanced-gone ∙ ap (λ (part : ToolPart). clear_at i.0 part.pools) (sym gone-part))
            (ap (λ (x : Tool). x.part.next_command) advanced-gone ∙ ap (λ (part : ToolPart). suc part.next_command) (sym gone-part)))

-- there are few commands
pub few-commands : (w : Told) (slots : List (Option Seen)) (tool : Tool) → AreParts w slots tool → length tool.commands ≤ 4096
few-commands w slots tool parts = subst (λ (x : Tool). length x.commands ≤ 4096) parts.known parts.goes.checked.work.few_commands
