-- What is put of runs whose entries are sound throughout: the laws of a run are said of the very entries whose text is written, or judged.
use Rattle.std.specs.Prelude.{ℕ, List, Option, IfSome, ⊤}
use Rattle.sched_check.specs.ScheduleVerdict.{IsTextOfRun}
use Rattle.sched_model.specs.declared.event.Entry.{Entry}
use Rattle.sched_model.specs.declared.machine.Machine.{Machine}
use Rattle.sound_laws.specs.Sound.{IsSoundThroughout}
use Rattle.xensched_top.specs.Answers.{BytesOf, IsFull, IsMade, OfMachine}
use Rattle.xensched_top.specs.Schedules.{PutsRun}
use Rattle.xensched_top.specs.Words.{Task, judges, of_files, runs, writes}

-- what is asked of a whole run was put, and its entries are sound throughout; the bytes of a schedule that is accepted are the text of such a run
abbrev pub PutsSound : BytesOf → Option (List ℕ) → Option (List ℕ) → Task → Type 0
PutsSound held before after (runs r) = OfMachine held (λ r m. (put : PutsRun r.ordered r.form r.limit m before after) × IsSoundThroughout m put.entries) r
PutsSound held before after (writes text) = ⊤
PutsSound held before after (judges ordered names schedule) =
    (m : Machine) × IsMade held (of_files names) m × IfSome (held schedule) (λ bytes. (entries : List Entry) × IsTextOfRun m ordered bytes entries × IsSoundThroughout m entries)

-- what is asked of the first n entries of a run that goes on was put, and these are sound throughout
abbrev pub PutsSoundFirst : ℕ → BytesOf → Option (List ℕ) → Option (List ℕ) → Task → Type 0
PutsSoundFirst n held before after (runs r) = OfMachine held (λ r m. (put : IsFull n r.ordered r.form r.limit m before after) × IsSoundThroughout m put.1.entries) r
PutsSoundFirst n held before after (writes text) = ⊥
PutsSoundFirst n held before after (judges ordered names schedule) = ⊥
