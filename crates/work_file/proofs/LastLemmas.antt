-- The last line of a text, which no newline ends.
use Rattle.std.proofs.Common.{◌≡◌, ℕ, List, [], ◌∷◌, refl, ap, length, eqb, false, arith, Ok, append-nil}
use Rattle.std.proofs.lemmas.Bool.{ne_eqb}
use Rattle.std.specs.Str.Lines.{lines_of_parts}
use Rattle.sched_model.specs.declared.config.Config.{Config}
use Rattle.work_file.specs.declared.reading.Reading.{Reading}
use Rattle.work_file.specs.Reading.{work_from}

-- an empty rest says what an empty line says
pub last_line : (config : Config) (r : Reading) (line : List ℕ) → work_from config r (lines_of_parts (line ∷ [])) ≡ work_from config r (line ∷ [])
last_line config r [] = refl
last_line config r (b ∷ bs) =
    let some : eqb (length (b ∷ bs)) 0 ≡ false = ne_eqb _ _ (λ e. omega arith) in
    let one : lines_of_parts ((b ∷ bs) ∷ []) ≡ (b ∷ bs) ∷ [] = rw some refl in
    ap (work_from config r) one

-- nothing more is read behind the last line
pub nothing_behind : (config : Config) (r : Reading) → work_from config r [] ≡ Ok (record { stalls = r.stalls; commands = r.commands })
nothing_behind config r = simp append-nil
