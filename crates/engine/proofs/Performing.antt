-- One event of a pool, or one act of the tool, and what the engine keeps after it.
use Rattle.std.proofs.Common.{◌≡◌, ◌≢◌, ◌<◌, ◌∙◌, ℕ, List, length, refl, sym, ap, subst, arith}
use Rattle.std.specs.Prelude.{Option, None}
use Rattle.sched_base.specs.Numbers.{moment}
use Rattle.sched_model.specs.declared.action.Action.{Action}
use Rattle.sched_model.specs.declared.event.Event.{Event}
use Rattle.sched_model.specs.declared.state.State.{State}
use Rattle.sched_model.specs.Places.{at_place}
use Rattle.journal_core.specs.Parts.{StatePart, ToolPart, tool_part, part_of, tool_lock, tool_of as part_of_tool}
use Rattle.cpupool.specs.Tool.{Tool, tool_of}
use Rattle.pool_core.specs.Seen.{Seen}
use Rattle.machine_parts.specs.Told.{Told}
use Rattle.machine_parts.specs.Places.{AllStand, HasStepped, state_of}
use Rattle.machine_parts.proofs.Going.{part_of-is}
use Rattle.sched_base.specs.declared.Moment.{Moment}
use Rattle.machine_parts.specs.Told.{told_more}
use Rattle.machine_parts.specs.Counts.{AreSpares}
use Rattle.machine_parts.specs.Spares.{Shelves}
use Rattle.machine_parts.specs.Parts.{AreParts, IsFirstOfPlace, IsNextOfPlace}
use Rattle.engine.specs.EngineState.{AreKept, IsRunning}
use Rattle.engine.proofs.Kept.{kept-one}

-- what the tool keeps of a state, out of its part
tool-in : (part other : ToolPart) → (let a : StatePart = tool_part part in a) ≡ tool_part other → part ≡ other
tool-in part other is = cc

part-tool : (s : State) → part_of s tool_lock ≡ tool_part (part_of_tool s)
part-tool s = refl

-- an event of a pool leaves what the tool knows
pub known-stepped : (w next : Told) (i : ℕ) (tool : Tool) → i < 16 → next.input ≡ w.input → HasStepped w i next → tool_of w.input (state_of w) ≡ tool → tool_of next.input (state_of next) ≡ tool
known-stepped w next i tool low input step known =
    let part : part_of (state_of next) tool_lock ≡ part_of (state_of w) tool_lock = sym (part_of-is next tool_lock) ∙ step.others tool_lock (λ is. omega (arith, is, low)) ∙ part_of-is w tool_lock in
    let same : part_of_tool (state_of next) ≡ part_of_tool (state_of w) = tool-in _ _ (sym (part-tool (state_of next)) ∙ part ∙ part-tool (state_of w)) in
    ap (λ m. tool_of m (state_of next)) input ∙ ap (λ (p : ToolPart). let x : Tool = record (tool_of w.input (state_of w)) { part = p } in x) same ∙ known

-- the parts after it
pub parts-stepped : (w next : Told) (i : ℕ) (slots : List (Option Seen)) (tool : Tool) → i < 16 → next.input ≡ w.input → HasStepped w i next → AllStand next slots → tool_of w.input (state_of w) ≡ tool → AreParts next slots tool
parts-stepped w next i slots tool low input step stand known = record { goes = step.goes; stand = stand; known = known-stepped w next i tool low input step known }

-- what the engine keeps goes on by an event of the pool i
module _ (w new : Told) (t horizon g i : ℕ) (slots left : List (Option Seen)) (tool : Tool) (shelves : Shelves) (firsts : List (Option Action)) (nexts : List (Option Moment)) (running : IsRunning w t horizon g slots tool shelves firsts nexts)
    (event : Event) (is : new ≡ told_more w (record { at = moment t; event = event })) (low : i < 16) (step : HasStepped w i (told_more w (record { at = moment t; event = event }))) (stand : AllStand (told_more w (record { at = moment t; event = event })) left)
    (others : (k : ℕ) → k ≢ i → at_place left k ≡ at_place slots k) where
  pub running-stepped : (now_firsts : List (Option Action)) (now_nexts : List (Option Moment)) → length now_firsts ≡ length firsts → length now_nexts ≡ length nexts
      → ((k : ℕ) → k ≢ i → at_place now_firsts k ≡ at_place firsts k) → ((k : ℕ) → k ≢ i → at_place now_nexts k ≡ at_place nexts k)
      → IsFirstOfPlace t (at_place left i) (at_place now_firsts i) → (at_place now_firsts i ≡ None → IsNextOfPlace (at_place left i) (at_place now_nexts i)) → IsRunning new t horizon g left tool shelves now_firsts now_nexts
  running-stepped now_firsts now_nexts count_firsts count_nexts same_firsts same_nexts first next = record {
    parts = subst (λ (x : Told). AreParts x left tool) (sym is) (parts-stepped w (told_more w (record { at = moment t; event = event })) i left tool low refl step stand running.parts.known);
    now_is = running.now_is ∙ sym step.now ∙ ap (λ (x : Told). (state_of x).now) (sym is);
    horizon_is = running.horizon_is ∙ ap (λ (x : Told). x.input.config.horizon.0) (sym is);
    granularity_is = running.granularity_is ∙ ap (λ (x : Told). x.input.config.granularity) (sym is);
    spares = subst (λ (x : Told). AreSpares x.input t tool.part shelves) (sym is) running.spares;
    kept = kept-one t i slots left firsts now_firsts nexts now_nexts running.kept (stand.count ∙ sym running.parts.stand.count) count_firsts count_nexts others same_firsts same_nexts first next;
  }

-- the parts after an act of the tool
module _ (w new : Told) (t horizon g : ℕ) (slots left : List (Option Seen)) (tool now_tool : Tool) (shelves now_shelves : Shelves) (firsts : List (Option Action)) (nexts : List (Option Moment)) (running : IsRunning w t horizon g slots tool shelves firsts nexts)
    (event : Event) (is : new ≡ told_more w (record { at = moment t; event = event })) (parts : AreParts (told_more w (record { at = moment t; event = event })) left now_tool) (now : (state_of (told_more w (record { at = moment t; event = event }))).now ≡ (state_of w).now)
    (spares : AreSpares w.input t now_tool.part now_shelves) where
  pub running-acted : (now_firsts : List (Option Action)) (now_nexts : List (Option Moment)) → AreKept t left now_firsts now_nexts → IsRunning new t horizon g left now_tool now_shelves now_firsts now_nexts
  running-acted now_firsts now_nexts kept = record {
    parts = subst (λ (x : Told). AreParts x left now_tool) (sym is) parts;
    now_is = running.now_is ∙ sym now ∙ ap (λ (x : Told). (state_of x).now) (sym is);
    horizon_is = running.horizon_is ∙ ap (λ (x : Told). x.input.config.horizon.0) (sym is);
    granularity_is = running.granularity_is ∙ ap (λ (x : Told). x.input.config.granularity) (sym is);
    spares = subst (λ (x : Told). AreSpares x.input t now_tool.part now_shelves) (sym is) spares;
    kept = kept;
  }

-- the same lists in other words
pub running-same : (w : Told) (t horizon g : ℕ) (tool : Tool) (shelves : Shelves) (slots left : List (Option Seen)) (firsts now_firsts : List (Option Action)) (nexts now_nexts : List (Option Moment))
    → slots ≡ left → firsts ≡ now_firsts → nexts ≡ now_nexts → IsRunning w t horizon g left tool shelves now_firsts now_nexts → IsRunning w t horizon g slots tool shelves firsts nexts
running-same w t horizon g tool shelves slots left firsts now_firsts nexts now_nexts same same_firsts same_nexts running =
    subst (λ (xs : List (Option Seen)). IsRunning w t horizon g xs tool shelves firsts nexts) (sym same)
    (subst (λ (xs : List (Option Action)). IsRunning w t horizon g left tool shelves xs nexts) (sym same_firsts)
    (subst (λ (xs : List (Option Moment)). IsRunning w t horizon g left tool shelves now_firsts xs) (sym same_nexts) running))
