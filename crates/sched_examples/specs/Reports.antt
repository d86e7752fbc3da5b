-- What is reported of runs.
use Rattle.sched_base.specs.Numbers.{core as core_number}
use Rattle.std.specs.Prelude.{◌≡◌, ℕ, List, [], ◌∷◌, ◌++◌, codes, flat_map}
use Rattle.sched_model.specs.declared.event.Entry.{Entry}
use Rattle.sched_model.specs.declared.machine.Machine.{Machine}
use Rattle.sched_report.specs.declared.line.UnitLine.{UnitLine}
use Rattle.sched_report.specs.declared.line.CoreLine.{CoreLine}
use Rattle.sched_print.specs.Line.{newline}
use Rattle.sched_report.specs.Reports.{Figures, report_of}
use Rattle.sched_report.specs.Lines.{text_of_report}
use Rattle.sched_examples.specs.Words.{unit}

-- the report of the entries on the machine has these figures
abbrev pub ReportsAs : Machine → List Entry → Figures → Type 0
ReportsAs m entries figures = report_of m.config entries ≡ figures

-- the text of the report has these lines
abbrev pub Reads : Figures → List (List ℕ) → Type 0
Reads figures lines = text_of_report figures ≡ flat_map (λ line. line ++ newline ∷ []) lines

-- the line of the unit n of the domain d, with its time, stays, replenishments and lateness
abbrev unit_line : ℕ → ℕ → ℕ → ℕ → ℕ → ℕ → UnitLine
unit_line d n run picks repl late = record { unit = unit d n; run = run; picks = picks; repl = repl; late = late }

-- the line of the core r, with its time, its idle time and its decisions
abbrev core_line : ℕ → ℕ → ℕ → ℕ → CoreLine
core_line r run idle decides = record { core = core_number r; run = run; idle = idle; decides = decides }

-- two units that use up their budgets, and are replenished
abbrev pub report_budgets_and_deadlines : Figures
report_budgets_and_deadlines = record {
  units = unit_line 0 0 8000000 3 2 0 ∷ unit_line 1 0 5000000 1 1 0 ∷ [];
  cores = core_line 0 13000000 7000000 6 ∷ [];
  entries = 33;
  end = 20000000;
}

-- its lines
abbrev pub lines_budgets_and_deadlines : List (List ℕ)
lines_budgets_and_deadlines =
    codes "unit d0u0 run 8000000 picks 3 repl 2 late 0" ∷
    codes "unit d1u0 run 5000000 picks 1 repl 1 late 0" ∷
    codes "core c0 run 13000000 idle 7000000 decides 6" ∷
    codes "entries 33 end 20000000" ∷
    []

-- a unit that a stall lets run on before it leaves
abbrev pub report_stall_past_the_due : Figures
report_stall_past_the_due = record {
  units = unit_line 0 0 5000000 1 0 1000000 ∷ unit_line 1 0 0 1 0 0 ∷ [];
  cores = core_line 0 5000000 0 2 ∷ [];
  entries = 12;
  end = 5000000;
}

-- a unit that is kept, late
abbrev pub report_reset_after_a_stall : Figures
report_reset_after_a_stall = record {
  units = unit_line 0 0 35000000 1 0 25000000 ∷ [];
  cores = core_line 0 35000000 0 2 ∷ [];
  entries = 11;
  end = 35000000;
}

-- a core of no pool
abbrev pub report_frames_by_command : Figures
report_frames_by_command = record {
  units = unit_line 0 0 1000000 1 0 0 ∷ unit_line 1 0 2000000 1 0 0 ∷ [];
  cores = core_line 0 3000000 0 3 ∷ core_line 1 0 3000000 0 ∷ [];
  entries = 20;
  end = 3000000;
}

-- two units of a domain of three vCPUs, on a core of two processors
abbrev pub report_siblings_meet : Figures
report_siblings_meet = record {
  units = unit_line 0 0 1000000 1 0 0 ∷ unit_line 0 1 0 1 0 0 ∷ [];
  cores = core_line 0 1000000 0 2 ∷ [];
  entries = 14;
  end = 1000000;
}
