-- The text of a report: one line for each unit, one for each core, and a last one.
use Rattle.std.specs.Prelude.{ℕ, List, [], ◌∷◌, ◌++◌, codes, decimal, map, flat_map}
use Rattle.sched_print.specs.Line.{newline}
use Rattle.sched_report.specs.declared.line.UnitLine.{UnitLine}
use Rattle.sched_report.specs.declared.line.CoreLine.{CoreLine}
use Rattle.sched_report.specs.Reports.{Figures}

-- the line of a unit, with its newline
abbrev pub text_of_unit : UnitLine → List ℕ
text_of_unit l =
    codes "unit d" ++ decimal l.unit.dom.0 ++ codes "u" ++ decimal l.unit.n ++ codes " run " ++ decimal l.run
    ++ codes " picks " ++ decimal l.picks ++ codes " repl " ++ decimal l.repl ++ codes " late " ++ decimal l.late ++ newline ∷ []

-- the line of a core, with its newline
abbrev pub text_of_core : CoreLine → List ℕ
text_of_core l =
    codes "core c" ++ decimal l.core.0 ++ codes " run " ++ decimal l.run ++ codes " idle " ++ decimal l.idle
    ++ codes " decides " ++ decimal l.decides ++ newline ∷ []

-- the last line, with its newline
abbrev pub text_of_end : ℕ → ℕ → List ℕ
text_of_end entries end = codes "entries " ++ decimal entries ++ codes " end " ++ decimal end ++ newline ∷ []

-- the lines of a report, in order
abbrev pub report_lines : Figures → List (List ℕ)
report_lines f = map text_of_unit f.units ++ map text_of_core f.cores ++ text_of_end f.entries f.end ∷ []

-- the text of a report: its lines
abbrev pub text_of_report : Figures → List ℕ
text_of_report f = flat_map (λ (line : List ℕ). line) (report_lines f)
