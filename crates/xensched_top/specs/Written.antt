-- What was written of a schedule while its run went on.
use Rattle.std.specs.Prelude.{◌≡◌, ◌≤◌, ℕ, Bool, true, false, List, Option, drop, take}
use Rattle.sched_io.specs.Faults.{Rose}
use Rattle.sched_io.specs.Puts.{Adds, AddsPart}
use Rattle.sched_model.specs.declared.event.Entry.{Entry}
use Rattle.sched_model.specs.declared.machine.Machine.{Machine}
use Rattle.pcpu_threads.specs.declared.ends.RunEnd.{RunEnd}
use Rattle.sched_print.specs.Line.{text}
use Rattle.xensched_top.specs.declared.writing.Writing.{Writing}
use Rattle.xensched_top.specs.Ends.{HasEnded}
use Rattle.xensched_top.specs.Entries.{Coming}

module _ {K : Type 0} (told : K → Option (List ℕ)) (faults : K → ℕ) where
  -- the lines of the entries were put, or, where a put has failed, a beginning of them
  pub record Puts (out : K) (entries : List Entry) (now : Writing) (sink : K) : Type 0 where
    pub counts : faults out ≤ faults sink
    pub whole : now.failed ≡ false → Adds (told out) (told sink) (text entries)
    pub part : now.failed ≡ true → AddsPart (told out) (told sink) (text entries)
    pub cause : now.failed ≡ true → Rose (faults out) (faults sink)

  -- the same from a time on at which none had failed
  abbrev pub HasPut : Writing → K → List Entry → Writing → K → Type 0
  HasPut first out entries now sink = first.failed ≡ false → Puts out entries now sink

  -- a run of the machine was made with at most so many entries, and its first ones were put while it went on; the others are still to come
  pub record HasRun (limit : ℕ) (m : Machine) (rest : Coming) (out : K) (now : Writing) (sink : K) : Type 0 where
    pub history : List Entry
    pub ended : HasEnded rest.end false limit m history
    pub count : ℕ
    pub rest_is : rest.entries ≡ drop count history
    pub puts : Puts out (take count history) now sink

  -- the lines of all entries of a run of the machine that ended so were put, or a beginning of them, and then the count of faults rose
  pub record HasWritten (limit : ℕ) (m : Machine) (whole : Bool) (end : RunEnd) (out sink : K) : Type 0 where
    pub entries : List Entry
    pub ended : HasEnded end false limit m entries
    pub counts : faults out ≤ faults sink
    pub all : whole ≡ true → Adds (told out) (told sink) (text entries)
    pub part : whole ≡ false → AddsPart (told out) (told sink) (text entries)
    pub cause : whole ≡ false → Rose (faults out) (faults sink)
