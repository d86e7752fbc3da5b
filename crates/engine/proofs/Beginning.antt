-- What the engine keeps where a machine is opened.
use Rattle.std.proofs.Common.{◌≡◌, ◌∙◌, List, refl, sym, ap, ap₂, subst}
use Rattle.std.specs.Prelude.{Option}
use Rattle.sched_base.specs.declared.Moment.{Moment}
use Rattle.sched_model.specs.declared.action.Action.{Action}
use Rattle.sched_model.specs.declared.machine.Machine.{Machine}
use Rattle.sched_model.specs.declared.state.State.{State}
use Rattle.sched_model.specs.CheckedMachine.{IsChecked}
use Rattle.sched_model.specs.Opening.{opening}
use Rattle.journal_core.specs.Parts.{tool_of as part_of_tool}
use Rattle.cpupool.specs.Tool.{Tool, tool_of}
use Rattle.pool_core.specs.Seen.{Seen}
use Rattle.machine_parts.specs.Counts.{AreSpares}
use Rattle.machine_parts.specs.Places.{AllStand, GoesOn, state_of}
use Rattle.machine_parts.specs.Spares.{Shelves}
use Rattle.machine_parts.specs.Told.{Told, told_new}
use Rattle.machine_opening.proofs.Placing.{state_new}
use Rattle.engine.specs.EngineState.{standing_of, AreKept, IsRunning}
use Rattle.sched_model.specs.Standing.{Standing}

module _ (m : Machine) (checked : IsChecked m) (w : Told) (is : w ≡ told_new m.config m.work) where
  state-opened : state_of w ≡ opening m
  state-opened = ap state_of is ∙ state_new m.config m.work

  pub standing-opened : standing_of w ≡ record { machine = m; state = opening m }
  standing-opened = ap₂ (λ (machine : Machine) (state : State). let x : Standing = record { machine = machine; state = state } in x) (ap (λ (x : Told). x.input) is) state-opened

  pub running-opened : (slots : List (Option Seen)) (tool : Tool) (shelves : Shelves) (firsts : List (Option Action)) (nexts : List (Option Moment)) → AllStand (told_new m.config m.work) slots → tool ≡ tool_of m (opening m)
      → AreSpares m 0 (part_of_tool (opening m)) shelves → AreKept 0 slots firsts nexts → IsRunning w 0 m.config.horizon.0 m.config.granularity slots tool shelves firsts nexts
  running-opened slots tool shelves firsts nexts stand known spares kept = record {
    parts = record {
      goes = subst GoesOn (sym is) (record { checked = checked; run = tt; goes = refl });
      stand = subst (λ (x : Told). AllStand x slots) (sym is) stand;
      known = ap₂ tool_of (ap (λ (x : Told). x.input) is) state-opened ∙ sym known;
    };
    now_is = sym (ap (λ (s : State). s.now) state-opened);
    horizon_is = sym (ap (λ (x : Told). x.input.config.horizon.0) is);
    granularity_is = sym (ap (λ (x : Told). x.input.config.granularity) is);
    spares = subst (λ (x : Told). AreSpares x.input 0 tool.part shelves) (sym is) (subst (λ (t : Tool). AreSpares m 0 t.part shelves) (sym known) spares);
    kept = kept;
  }
