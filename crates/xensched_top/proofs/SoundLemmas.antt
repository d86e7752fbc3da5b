-- What was put of a run is sound, since each run is.
use Rattle.std.proofs.Common.{ℕ, Bool, List, Option, Some, None, IfSome}
use Rattle.sched_check.specs.ScheduleVerdict.{IsTextOfRun}
use Rattle.sched_check.specs.declared.verdict.Verdict.{Verdict}
use Rattle.sched_check.specs.declared.verdict.Verdict.TheVariants as verdict
use Rattle.sched_model.specs.CheckedMachine.{IsChecked}
use Rattle.sched_model.specs.Runs.{IsRun, IsWholeRun}
use Rattle.sched_model.specs.declared.event.Entry.{Entry}
use Rattle.sched_model.specs.declared.machine.Machine.{Machine}
use Rattle.sound_laws.specs.Sound.{IsSoundThroughout}
use Rattle.xensched_top.specs.Answers.{BytesOf, IsAccepted, Judges, PutsAll, PutsLimit}
use Rattle.xensched_top.specs.SoundTasks.{PutsSound, PutsSoundFirst}
use Rattle.xensched_top.specs.Words.{Task, judges, runs, writes}

module _ (whole : (m : Machine) → IsChecked m → (entries : List Entry) → IsWholeRun m entries → IsSoundThroughout m entries) where
  -- an accepted schedule is the text of a sound run
  accepted_sound : (m : Machine) → IsChecked m → (ordered : Bool) (bytes : List ℕ) (v : Verdict) → Judges m ordered bytes v → IsAccepted v → (entries : List Entry) × IsTextOfRun m ordered bytes entries × IsSoundThroughout m entries
  accepted_sound m checked ordered bytes (verdict.Yes n) judged accepted =
      let yes = judged.is in
      (yes.entries, yes.schedule.run, whole m checked yes.entries yes.schedule.run.whole)
  accepted_sound m checked ordered bytes (verdict.No k cause) judged accepted = absurd accepted

  told_sound : (m : Machine) → IsChecked m → (ordered : Bool) (told : Option (List ℕ)) (v : Verdict) → IfSome told (λ bytes. Judges m ordered bytes v) → IsAccepted v
      → IfSome told (λ bytes. (entries : List Entry) × IsTextOfRun m ordered bytes entries × IsSoundThroughout m entries)
  told_sound m checked ordered None v judged accepted = tt
  told_sound m checked ordered (Some bytes) v judged accepted = accepted_sound m checked ordered bytes v judged accepted

  pub sound_puts : (held : BytesOf) (before after : Option (List ℕ)) (task : Task) → PutsAll held before after task → PutsSound held before after task
  sound_puts held before after (runs r) (m, made, put) = (m, made, (put, whole m made.checked put.entries put.ends.whole))
  sound_puts held before after (writes text) put = tt
  sound_puts held before after (judges ordered names schedule) (m, v, made, judged, (accepted, put)) = (m, made, told_sound m made.checked ordered (held schedule) v judged accepted)

module _ (begun : (m : Machine) → IsChecked m → (entries : List Entry) → IsRun m entries → IsSoundThroughout m entries) where
  pub sound_first : (n : ℕ) (held : BytesOf) (before after : Option (List ℕ)) (task : Task) → PutsLimit n held before after task → PutsSoundFirst n held before after task
  sound_first n held before after (runs r) (m, made, full) = (m, made, (full, begun m made.checked full.1.entries full.1.fills.due.run))
  sound_first n held before after (writes text) put = absurd put
  sound_first n held before after (judges ordered names schedule) put = absurd put
