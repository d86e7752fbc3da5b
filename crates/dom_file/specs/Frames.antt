-- The frame of an ARINC 653 pool, as its table has it.
use Rattle.std.specs.Prelude.{ℕ, pos, nat_le, codes, List, [], ◌∷◌, length, Option, Some, None, Result, Ok, Err, if◌then◌else◌}
use Rattle.std.specs.List.{sum_by}
use Rattle.sched_base.specs.Numbers.{span}
use Rattle.sched_model.specs.CheckedMachine.{most_span}
use Rattle.toml.specs.Data.{Data, Members, get_member}
use Rattle.dom_file.specs.declared.draft.EntryDraft.{EntryDraft}
use Rattle.dom_file.specs.declared.draft.FrameDraft.{FrameDraft}
use Rattle.dom_file.specs.declared.fault.TableName.TheVariants.{Pool}
use Rattle.dom_file.specs.declared.fault.DomCause.{DomCause}
use Rattle.dom_file.specs.declared.fault.DomCause.TheVariants.{Missing, Range}
use Rattle.dom_file.specs.declared.fault.DomFault.{DomFault}
use Rattle.dom_file.specs.declared.fault.DomFault.TheVariants.{Bad}
use Rattle.dom_file.specs.Steps.{◌>>=◌, at, each}
use Rattle.dom_file.specs.Values.{required_value, integer_of, number_of, elements_of, array_of}

-- an entry is three numbers: a domain, a unit and a run; whether the first two are there is asked later
abbrev pub entry_in : List Data → Result EntryDraft DomCause
entry_in (dom ∷ unit ∷ run ∷ []) = do
  dom ← integer_of dom
  unit ← integer_of unit
  run ← number_of 1 most_span run
  Ok (record { dom = dom; unit = unit; run = span run })
entry_in ds = Err (Range (pos (length ds)))

-- the same of an array
abbrev pub entry_of : Data → Result EntryDraft DomCause
entry_of d = elements_of d >>= entry_in

-- 1 to 64 entries, whose runs fit the major span
abbrev pub entries_of : ℕ → Data → Result (List EntryDraft) DomCause
entries_of major d = do
  ds ← array_of 1 64 d
  entries ← each entry_of ds
  let sum = sum_by (λ (e : EntryDraft). e.run.0) entries in if nat_le sum major then Ok entries else Err (Range (pos sum))

-- the entries at the key `frame`, which has to be there
abbrev pub frame_entries_in : ℕ → Members → Result (List EntryDraft) DomCause
frame_entries_in major table = required_value table (codes "frame") >>= entries_of major

-- a frame with this major span
abbrev pub frame_with : ℕ → Data → Members → Result (Option FrameDraft) DomFault
frame_with index d table = do
  major ← at Pool index (codes "major_ns") (number_of 1 most_span d)
  entries ← at Pool index (codes "frame") (frame_entries_in major table)
  Ok (Some (record { major = span major; entries = entries }))

-- a frame has both keys, and a pool without a frame has neither
abbrev pub frame_in : ℕ → Members → Result (Option FrameDraft) DomFault
frame_in index table = elim (get_member (codes "major_ns") table) [
  | Some d ↦ frame_with index d table
  | None ↦ elim (get_member (codes "frame") table) [ None ↦ Ok None | Some d ↦ Err (Bad Pool index (codes "major_ns") Missing) ]
]
