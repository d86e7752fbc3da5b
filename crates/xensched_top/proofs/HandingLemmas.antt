-- What a task's outcome is once what the sink keeps is handed on.
use Rattle.std.proofs.Common.{◌≡◌, ℕ, ◌≤◌, Bool, List, Option, sym, subst, inl, inr}
use Rattle.command_line.specs.declared.command.Form.{Form}
use Rattle.sched_io.specs.Faults.{Rose}
use Rattle.sched_io.proofs.FaultLemmas.{rose_after, rose_before}
use Rattle.sched_io.proofs.PutLemmas.{part_of_whole}
use Rattle.sched_model.specs.declared.machine.Machine.{Machine}
use Rattle.xensched_top.specs.declared.status.Status.{Status}
use Rattle.xensched_top.specs.declared.status.Status.TheVariants as status
use Rattle.xensched_top.specs.Answers.{Counts, BytesOf, IsHandedOn, Outcome, PutsAll, PutsLimit, PutsNothing, PutsRefusal, PutsSome, PutsWhole}
use Rattle.xensched_top.specs.Schedules.{PutsFirst, PutsPart, PutsRun}
use Rattle.xensched_top.specs.Words.{Task, runs, writes, judges}

-- all of it is a beginning of it
run_part : (ordered : Bool) (f : Form) (limit : ℕ) (m : Machine) (before after : Option (List ℕ)) → PutsRun ordered f limit m before after → PutsPart ordered f limit m before after
run_part ordered f limit m before after h =
    record { entries = h.entries; run = inl h.ends; output = h.output; is = h.is; written = part_of_whole before after h.output h.written }

first_part : (ordered : Bool) (f : Form) (limit : ℕ) (m : Machine) (before after : Option (List ℕ)) → PutsFirst ordered f limit m before after → PutsPart ordered f limit m before after
first_part ordered f limit m before after h =
    record { entries = h.entries; run = inr h.fills; output = h.output; is = h.is; written = part_of_whole before after h.output h.written }

all_some : (held : BytesOf) (before after : Option (List ℕ)) (task : Task) → PutsAll held before after task → PutsSome held before after task
all_some held before after (runs r) h = (h.0, h.1, run_part r.ordered r.form r.limit h.0 before after h.2)
all_some held before after (writes text) h = part_of_whole before after text h
all_some held before after (judges ordered names schedule) h = (h.0, h.1, h.2, h.3, part_of_whole before after _ h.4.1)

limit_some : (n : ℕ) (held : BytesOf) (before after : Option (List ℕ)) (task : Task) → PutsLimit n held before after task → PutsSome held before after task
limit_some n held before after (runs r) h = (h.0, h.1, first_part r.ordered r.form r.limit h.0 before after h.2.1)
limit_some n held before after (writes text) h = absurd h
limit_some n held before after (judges ordered names schedule) h = absurd h

refusal_some : (k : ℕ) (held : BytesOf) (before after : Option (List ℕ)) (task : Task) → PutsRefusal k held before after task → PutsSome held before after task
refusal_some k held before after (runs r) h = absurd h
refusal_some k held before after (writes text) h = absurd h
refusal_some k held before after (judges ordered names schedule) h = (h.0, h.1, h.2, h.3, part_of_whole before after _ h.4.1)

module _ (held : BytesOf) (old new : Counts) (before after : Option (List ℕ)) (sink_old sink_middle sink_new : ℕ) (task : Task) where
  -- with a count that rose no less
  goes_on : (answer : Status) → sink_middle ≤ sink_new → Outcome held old new before after sink_old sink_middle task answer → Outcome held old new before after sink_old sink_new task answer
  unfolding Outcome
  goes_on status.Ok le h = h
  goes_on (status.Full n) le h = h
  goes_on (status.NotRun k) le h = h
  goes_on status.WriteFault le h = (h.0, rose_before sink_old sink_middle sink_new h.1 le)
  goes_on status.NoMemory le h = h
  goes_on status.ReadFault le h = h
  goes_on status.BadToml le h = h
  goes_on (status.BadDomains fault) le h = h
  goes_on (status.BadWork fault) le h = h
  goes_on status.Usage le h = h

  -- the sink failed when it was to hand on the rest
  cut_off : (answer : Status) → PutsWhole answer → sink_old ≤ sink_middle → Rose sink_middle sink_new → Outcome held old new before after sink_old sink_middle task answer →
      Outcome held old new before after sink_old sink_new task status.WriteFault
  unfolding Outcome
  cut_off status.Ok whole le rose h = (all_some held before after task h, rose_after sink_old sink_middle sink_new le rose)
  cut_off (status.Full n) whole le rose h = (limit_some n held before after task h, rose_after sink_old sink_middle sink_new le rose)
  cut_off (status.NotRun k) whole le rose h = (refusal_some k held before after task h, rose_after sink_old sink_middle sink_new le rose)
  cut_off status.WriteFault whole le rose h = absurd whole
  cut_off status.NoMemory whole le rose h = absurd whole
  cut_off status.ReadFault whole le rose h = absurd whole
  cut_off status.BadToml whole le rose h = absurd whole
  cut_off (status.BadDomains fault) whole le rose h = absurd whole
  cut_off (status.BadWork fault) whole le rose h = absurd whole
  cut_off status.Usage whole le rose h = absurd whole

  pub handed_outcome : (middle : Option (List ℕ)) (answer result : Status) → after ≡ middle → sink_old ≤ sink_middle → sink_middle ≤ sink_new →
      Outcome held old new before middle sink_old sink_middle task answer → IsHandedOn answer sink_middle sink_new result → Outcome held old new before after sink_old sink_new task result
  handed_outcome middle answer result same low high h handed =
      let there : Outcome held old new before after sink_old sink_middle task answer = subst (λ (t : Option (List ℕ)). Outcome held old new before t sink_old sink_middle task answer) (sym same) h in
      elim handed [
        | inl is ↦ subst (λ (a : Status). Outcome held old new before after sink_old sink_new task a) (sym is) (goes_on answer high there)
        | inr cut ↦ subst (λ (a : Status). Outcome held old new before after sink_old sink_new task a) (sym cut.0) (cut_off answer cut.1 low cut.2 there)
      ]

-- where the answer is one with which nothing is put, so was the status before
pub handed_nothing : (answer : Status) (old new : ℕ) (result : Status) → IsHandedOn answer old new result → PutsNothing result → PutsNothing answer
handed_nothing answer old new result (inl is) none = subst PutsNothing is none
handed_nothing answer old new result (inr cut) none = absurd (subst PutsNothing cut.0 none)

-- a status with which all was put is the one before
pub handed_whole : (answer : Status) (old new : ℕ) (result : Status) → IsHandedOn answer old new result → PutsWhole result → PutsWhole answer
handed_whole answer old new result (inl is) whole = subst PutsWhole is whole
handed_whole answer old new result (inr cut) whole = absurd (subst PutsWhole cut.0 whole)
