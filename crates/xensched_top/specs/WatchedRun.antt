-- What is written of a watched run.
use Rattle.std.specs.Prelude.{ℕ, suc, List, [], ◌∷◌, ◌++◌, codes, decimal, flat_map, length}
use Rattle.sched_model.specs.declared.event.Entry.{Entry}
use Rattle.sched_print.specs.Line.{newline}
use Rattle.sched_report.specs.Lines.{text_of_end}
use Rattle.sched_report.specs.Stays.{last_moment}
use Rattle.pcpu_watch.specs.declared.looks.Look.{Look}

-- the line of the look with this number, with its newline
abbrev pub text_of_look : ℕ → Look → List ℕ
text_of_look k look = codes "look " ++ decimal k ++ codes " entries " ++ decimal look.entries ++ codes " at " ++ decimal look.moment.0 ++ newline ∷ []

-- the lines of looks, numbered from k on
abbrev pub look_lines : ℕ → List Look → List (List ℕ)
look_lines k [] = []
look_lines k (look ∷ looks) = text_of_look k look ∷ look_lines (suc k) looks

-- the lines that are written of a watched run: one for each look, numbered from 1, and the last one of its report
abbrev pub watch_lines : List Look → List Entry → List (List ℕ)
watch_lines looks entries = look_lines 1 looks ++ text_of_end (length entries) (last_moment entries) ∷ []

-- their text
abbrev pub text_of_watch : List Look → List Entry → List ℕ
text_of_watch looks entries = flat_map (λ (line : List ℕ). line) (watch_lines looks entries)
