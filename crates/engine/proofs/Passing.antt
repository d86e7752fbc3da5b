-- The end of a moment: nothing may come, and the run goes on at the next moment.
use Rattle.std.proofs.Common.{◌≡◌, ◌∙◌, ℕ, List, [], ◌∷◌, ◌++◌, length, refl, sym, ap, ap₂, subst, arith}
use Rattle.std.specs.Prelude.{Option, Some, None}
use Rattle.std.specs.Option.{ForSome}
use Rattle.sched_base.specs.Numbers.{moment}
use Rattle.sched_model.specs.declared.action.Action.{Action}
use Rattle.sched_model.specs.declared.event.Event.TheVariants as event
use Rattle.sched_model.specs.declared.event.Entry.{Entry}
use Rattle.sched_model.specs.declared.machine.Machine.{Machine}
use Rattle.sched_model.specs.declared.state.State.{State}
use Rattle.sched_model.specs.Machine.{first_enabled_action, next_in_horizon}
use Rattle.sched_model.specs.Places.{at_place}
use Rattle.sched_model.specs.Runs.{Reached, IsNext, run_start, after_entry, open_at}
use Rattle.sched_model.proofs.RunLemmas.{after_entries-append, IsRunFrom-append}
use Rattle.sched_laws.proofs.Ready.{next_later}
use Rattle.journal_core.specs.Histories.{reached_by, part_at}
use Rattle.journal_core.specs.Parts.{part_of}
use Rattle.cpupool.specs.Tool.{Tool, tool_of}
use Rattle.pool_core.specs.Seen.{Seen}
use Rattle.machine_parts.specs.Told.{Told, told_more}
use Rattle.machine_parts.specs.Places.{GoesOn, SlotSuits, StandsAt, state_of}
use Rattle.machine_parts.proofs.Going.{leads-to, part_of-is, state_of-is}
use Rattle.machine_parts.specs.Counts.{AreSpares}
use Rattle.machine_parts.specs.Spares.{Shelves}
use Rattle.machine_parts.specs.Parts.{AreFirsts, AreParts}
use Rattle.sched_base.specs.declared.Moment.{Moment}
use Rattle.engine.specs.EngineState.{standing_of, IsRunning}
use Rattle.sched_model.specs.Standing.{Standing}
use Rattle.machine_parts.proofs.Performing.{slot-later}
use Rattle.engine.proofs.Quiet.{quiet-firsts}
use Rattle.machine_parts.proofs.Keeping.{spares-later}

module _ (w : Told) (goes : GoesOn w) (next : ℕ) (quiet : first_enabled_action w.input (state_of w) (state_of w).now ≡ None) (comes : next_in_horizon w.input (state_of w) ≡ Some next) (e : Entry) (is : e ≡ record { at = moment (state_of w).now; event = event.End (moment next) }) where
  abbrev m : Machine
  m = w.input

  abbrev s : State
  s = state_of w

  abbrev later : State
  later = record s { now = next }

  comes-next : IsNext m (reached_by m w.history) e
  comes-next = subst (λ (r : Reached). IsNext m r e) (sym (leads-to w goes)) (subst (IsNext m (open_at s)) (sym is) (record { goes_on = refl; moment = refl; event = (quiet, comes) }))

  leads-on : reached_by m (w.history ++ e ∷ []) ≡ open_at later
  leads-on = after_entries-append m (run_start m) w.history e ∙ ap (λ (r : Reached). after_entry m r e) (leads-to w goes) ∙ ap (after_entry m (open_at s)) is

  pub goes-later : GoesOn (told_more w e)
  goes-later = record { checked = goes.checked; run = IsRunFrom-append m (run_start m) w.history e goes.run comes-next; goes = ap (λ (r : Reached). r.over) leads-on }

  pub state-later : state_of (told_more w e) ≡ later
  state-later = state_of-is (told_more w e) ∙ ap (λ (r : Reached). r.state) leads-on

  part-later : (k : ℕ) → part_at m (w.history ++ e ∷ []) k ≡ part_at m w.history k
  part-later k = part_of-is (told_more w e) k ∙ ap (λ (x : State). part_of x k) state-later ∙ sym (part_of-is w k)

  stands-later : (k : ℕ) (slot : Option Seen) → StandsAt w k slot → StandsAt (told_more w e) k slot
  stands-later k slot stands = record {
    place = stands.place;
    part = stands.part ∙ sym (part-later k);
    suits = subst (λ (n : ℕ). ForSome slot (SlotSuits m n)) (sym (ap (λ (y : State). y.now) state-later)) (slot-later m s.now next slot (next_later m s next comes) stands.suits);
  }

  pub parts-later : (slots : List (Option Seen)) (tool : Tool) → AreParts w slots tool → AreParts (told_more w e) slots tool
  parts-later slots tool parts = record {
    goes = goes-later;
    stand = record { count = parts.stand.count; each = λ k low. stands-later k (at_place slots k) (parts.stand.each k low) };
    known = ap (tool_of m) state-later ∙ parts.known;
  }

-- what the engine keeps goes on, and where it stands
module _ (w new : Told) (t next horizon g : ℕ) (slots : List (Option Seen)) (tool : Tool) (shelves : Shelves) (firsts : List (Option Action)) (nexts : List (Option Moment)) (running : IsRunning w t horizon g slots tool shelves firsts nexts)
    (quiet : first_enabled_action w.input (state_of w) (state_of w).now ≡ None) (comes : next_in_horizon w.input (state_of w) ≡ Some next)
    (is : new ≡ told_more w (record { at = moment t; event = event.End (moment next) })) where
  abbrev ending : Entry
  ending = record { at = moment t; event = event.End (moment next) }

  is-ending : ending ≡ record { at = moment (state_of w).now; event = event.End (moment next) }
  is-ending = ap (λ (n : ℕ). let x : Entry = record { at = moment n; event = event.End (moment next) } in x) running.now_is

  state-new : state_of new ≡ record (state_of w) { now = next }
  state-new = ap state_of is ∙ state-later w running.parts.goes next quiet comes ending is-ending

  pub running-later : (later_firsts : List (Option Action)) → length later_firsts ≡ length slots → AreFirsts next slots later_firsts → IsRunning new next horizon g slots tool shelves later_firsts nexts
  running-later later_firsts count are = record {
    parts = subst (λ (x : Told). AreParts x slots tool) (sym is) (parts-later w running.parts.goes next quiet comes ending is-ending slots tool running.parts);
    now_is = sym (ap (λ (s : State). s.now) state-new);
    horizon_is = running.horizon_is ∙ ap (λ (x : Told). x.input.config.horizon.0) (sym is);
    granularity_is = running.granularity_is ∙ ap (λ (x : Told). x.input.config.granularity) (sym is);
    spares = subst (λ (x : Told). AreSpares x.input next tool.part shelves) (sym is)
        (spares-later w.input t next tool.part shelves (let on = next_later w.input (state_of w) next comes in let now = running.now_is in omega (arith, on, now)) running.spares);
    kept = record {
      count_firsts = count;
      count_nexts = running.kept.count_nexts;
      firsts_are = are;
      nexts_are = λ k none. running.kept.nexts_are k (quiet-firsts w slots tool running.parts t running.now_is firsts running.kept.firsts_are quiet k);
    };
  }

  pub standing-later : standing_of new ≡ record { machine = w.input; state = record (state_of w) { now = next } }
  standing-later = ap₂ (λ m s. let x : Standing = record { machine = m; state = s } in x) (ap (λ (x : Told). x.input) is) state-new
