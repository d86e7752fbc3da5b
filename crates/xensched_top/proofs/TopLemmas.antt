-- What the top call's answer says, from what its parts say.
use Rattle.std.specs.Prelude.{String, option_map, ⊤, ◌⊎◌}
use Rattle.std.specs.declared.alloc.Global.{Global}
use Rattle.std.proofs.Common.{◌≡◌, ℕ, ◌≤◌, Bool, true, false, List, Option, Some, None, Result, Ok, Err, IfSome, IsSomeAnd, IsOk, IsOkAnd, refl, sym, ap, subst, ◌∙◌, inl, inr, rules}
use Rattle.dom_file.specs.Configs.{spelled_table, domains_of}
use Rattle.dom_file.specs.declared.fault.DomFault.{DomFault}
use Rattle.dom_file.specs.declared.fault.DomFault.TheVariants as dom_fault
use Rattle.sched_model.specs.declared.config.Config.{Config}
use Rattle.sched_model.specs.declared.machine.Machine.{Machine}
use Rattle.xensched_top.specs.declared.status.Status.{Status}
use Rattle.xensched_top.specs.declared.status.Status.TheVariants as status
use Rattle.work_file.specs.declared.fault.WorkFault.{WorkFault}
use Rattle.command_line.specs.Commands.{asked_of as asked, asked_command}
use Rattle.command_line.specs.declared.command.ProgramCommand.{ProgramCommand}
use Rattle.sched_io.specs.Faults.{Rose}
use Rattle.sched_io.specs.Puts.{Adds, AddsPart}
use Rattle.sched_io.proofs.FaultLemmas.{rose_after}
use Rattle.sched_check.specs.declared.verdict.Verdict.{Verdict}
use Rattle.sched_check.specs.declared.verdict.Verdict.TheVariants as verdict
use Rattle.sched_check.specs.ScheduleVerdict.{IsTextOfRun, IsVerdict}
use Rattle.sched_model.specs.CheckedMachine.{IsChecked}
use Rattle.sched_check.specs.VerdictLaws.{NoIsNoRun}
use Rattle.sched_model.specs.declared.event.Entry.{Entry}
use Rattle.sched_check.specs.VerdictText.{text_of_verdict}
use Rattle.xensched_top.specs.Words.{Source, of_files, of_seed, Request, Task, runs, writes, judges, task_in, task_of}
use Rattle.xensched_top.proofs.FilesLemmas.{told}
use Rattle.xensched_top.specs.Answers.{BytesOf, Counts, Names, domain_bytes, work_bytes, IsMade, IsUnread, IsNotRead, IsNoToml, IsBadTable, IsBadWork, IsAccepted, IsRefusedAt, IsJudged, Judges, Refuses, RefusesName, Writes, WritesVerdict, Outcome, OfTexts, LeavesUnread, PutsAll, PutsLimit, PutsRefusal, PutsSome, Answers, ordered_answer, answer_to, SomethingFails, IsAnswer, IsAnswerOf, IsRunAnswer, IsOfTable}
use Rattle.xensched_top.specs.Files.{file_config, domains_refused, file_machine, with_work, file_work}
use Rattle.xensched_top.specs.Schedules.{EndsWithin, FillsLimit}
use Rattle.xensched_top.proofs.ScheduleLemmas.{is_whole-ends, is_whole-fills}

-- what holds of the task holds of the command's
pub of_task : (asked : Option Task) (task : Task) (P : Task → Type 0) → Some task ≡ asked → P task → IsSomeAnd asked P
of_task asked task P known h = subst (λ o. IsSomeAnd o P) known h

pub if_task : (asked : Option Task) (task : Task) (P : Task → Type 0) → Some task ≡ asked → P task → IfSome asked P
if_task asked task P known h = subst (λ o. IfSome o P) known h

pub if_any : (asked : Option Task) (P : Task → Type 0) → ((task : Task) → P task) → IfSome asked P
if_any None P f = tt
if_any (Some task) P f = f task

pub no_task : {P : Type 0} (asked : Option Task) (task : Task) → Some task ≡ asked → asked ≡ None → P
no_task asked task known none = absurd (cc (known, none))

-- the words that name a command have its task, and words that name none have none
pub known_task : (words : List (String Global)) (found : Option ProgramCommand) (command : ProgramCommand) → found ≡ Some command → option_map asked found ≡ asked_command words → Some (task_in (asked command)) ≡ task_of words
unfolding task_of
known_task words found command is known = ap (option_map task_in) (sym (ap (option_map asked) is) ∙ known)

pub unknown_task : (words : List (String Global)) (found : Option ProgramCommand) → found ≡ None → option_map asked found ≡ asked_command words → task_of words ≡ None
unfolding task_of
unknown_task words found is none = sym (ap (option_map task_in) (sym (ap (option_map asked) is) ∙ none))

-- the texts are refused
pub refused_outcome : (held : BytesOf) (old new : Counts) (before after : Option (List ℕ)) (sink_old sink_new : ℕ) (r : Request) (answer : Status) →
    Refuses held old new r.source answer → Outcome held old new before after sink_old sink_new (runs r) answer
unfolding Refuses Outcome
refused_outcome held old new before after sink_old sink_new r status.Ok h = absurd h
refused_outcome held old new before after sink_old sink_new r status.Usage h = absurd h
refused_outcome held old new before after sink_old sink_new r status.ReadFault h = h
refused_outcome held old new before after sink_old sink_new r status.BadToml h = h
refused_outcome held old new before after sink_old sink_new r (status.BadDomains fault) h = h
refused_outcome held old new before after sink_old sink_new r (status.BadWork fault) h = h
refused_outcome held old new before after sink_old sink_new r status.WriteFault h = absurd h
refused_outcome held old new before after sink_old sink_new r (status.Full n) h = absurd h
refused_outcome held old new before after sink_old sink_new r (status.NotRun k) h = absurd h
refused_outcome held old new before after sink_old sink_new r status.NoMemory h = tt

-- the run was to be written
pub wrote_outcome : (held : BytesOf) (old new : Counts) (before after : Option (List ℕ)) (sink_old sink_new : ℕ) (r : Request) (m : Machine) (answer : Status) →
    IsMade held r.source m → Writes r.ordered r.form r.limit m before after sink_old sink_new answer → Outcome held old new before after sink_old sink_new (runs r) answer
unfolding Writes Outcome
wrote_outcome held old new before after sink_old sink_new r m status.Ok made h = (m, made, h)
wrote_outcome held old new before after sink_old sink_new r m status.Usage made h = absurd h
wrote_outcome held old new before after sink_old sink_new r m status.ReadFault made h = absurd h
wrote_outcome held old new before after sink_old sink_new r m status.BadToml made h = absurd h
wrote_outcome held old new before after sink_old sink_new r m (status.BadDomains fault) made h = absurd h
wrote_outcome held old new before after sink_old sink_new r m (status.BadWork fault) made h = absurd h
wrote_outcome held old new before after sink_old sink_new r m status.WriteFault made h = ((m, made, h.0), h.1)
wrote_outcome held old new before after sink_old sink_new r m (status.Full n) made h = (m, made, h)
wrote_outcome held old new before after sink_old sink_new r m (status.NotRun k) made h = absurd h
wrote_outcome held old new before after sink_old sink_new r m status.NoMemory made h = tt

-- a text was to be written
pub text_outcome : (held : BytesOf) (old new : Counts) (before after : Option (List ℕ)) (sink_old sink_new : ℕ) (text : List ℕ) →
    Adds before after text → Outcome held old new before after sink_old sink_new (writes text) status.Ok
unfolding Outcome
text_outcome held old new before after sink_old sink_new text h = h

pub part_outcome : (held : BytesOf) (old new : Counts) (before after : Option (List ℕ)) (sink_old sink_new : ℕ) (text : List ℕ) →
    AddsPart before after text → Rose sink_old sink_new → Outcome held old new before after sink_old sink_new (writes text) status.WriteFault
unfolding Outcome
part_outcome held old new before after sink_old sink_new text h rose = (h, rose)

pub memory_outcome : (held : BytesOf) (old new : Counts) (before after : Option (List ℕ)) (sink_old sink_new : ℕ) (task : Task) (answer : Status) → answer ≡ status.NoMemory →
    Outcome held old new before after sink_old sink_new task answer
unfolding Outcome
memory_outcome held old new before after sink_old sink_new task answer is =
    subst (λ a. Outcome held old new before after sink_old sink_new task a) (sym is) tt

-- what is said of an answer, where it is this one
as_this : (held : BytesOf) (old new : Counts) (before after : Option (List ℕ)) (sink_old sink_new : ℕ) (task : Task) (answer this : Status) →
    Outcome held old new before after sink_old sink_new task answer → answer ≡ this → Outcome held old new before after sink_old sink_new task this
as_this held old new before after sink_old sink_new task answer this h is = subst (λ a. Outcome held old new before after sink_old sink_new task a) is h

module _ (held : BytesOf) (old new : Counts) (before after : Option (List ℕ)) (sink_old sink_new : ℕ) (task : Task) (answer : Status) (h : Outcome held old new before after sink_old sink_new task answer) where
  as_this_one : (this : Status) → answer ≡ this → Outcome held old new before after sink_old sink_new task this
  as_this_one this is = as_this held old new before after sink_old sink_new task answer this h is

  pub ends_ok : answer ≡ status.Ok → PutsAll held before after task
  unfolding Outcome
  ends_ok is = as_this_one status.Ok is

  pub ends_full : (n : ℕ) → answer ≡ status.Full n → PutsLimit n held before after task
  unfolding Outcome
  ends_full n is = as_this_one (status.Full n) is

  pub ends_refused : (k : ℕ) → answer ≡ status.NotRun k → PutsRefusal k held before after task
  unfolding Outcome
  ends_refused k is = as_this_one (status.NotRun k) is

  pub ends_part : answer ≡ status.WriteFault → PutsSome held before after task
  unfolding Outcome
  ends_part is = (as_this_one status.WriteFault is).0

  pub ends_faulty : answer ≡ status.WriteFault → Rose sink_old sink_new
  unfolding Outcome
  ends_faulty is = (as_this_one status.WriteFault is).1

  pub ends_unread : answer ≡ status.ReadFault → LeavesUnread held old new task
  unfolding Outcome
  ends_unread is = as_this_one status.ReadFault is

  pub ends_no_toml : answer ≡ status.BadToml → OfTexts (IsNoToml held) task
  unfolding Outcome
  ends_no_toml is = as_this_one status.BadToml is

  pub ends_bad_table : (fault : DomFault) → answer ≡ status.BadDomains fault → OfTexts (IsBadTable held fault) task
  unfolding Outcome
  ends_bad_table fault is = as_this_one (status.BadDomains fault) is

  pub ends_bad_work : (fault : WorkFault) → answer ≡ status.BadWork fault → OfTexts (IsBadWork held fault) task
  unfolding Outcome
  ends_bad_work fault is = as_this_one (status.BadWork fault) is

  pub never_usage : answer ≡ status.Usage → ⊥
  unfolding Outcome
  never_usage is = as_this_one status.Usage is

-- bytes that are no document describe no machine
no_domains : (bytes : List ℕ) → spelled_table bytes ≡ None → domains_of bytes ≡ Err dom_fault.BadToml
unfolding domains_of
no_domains bytes none = rw (domains_of, none) refl

no_toml : (bytes : List ℕ) → spelled_table bytes ≡ None → file_config bytes ≡ Err dom_fault.BadToml
no_toml bytes none =
    no_domains bytes none

-- a refused domain file makes no machine
refused_machine : (bytes lines : List ℕ) (fault : DomFault) → file_config bytes ≡ Err fault → file_machine bytes lines ≡ Err (domains_refused fault)
unfolding file_machine
refused_machine bytes lines fault e =
    ap (λ (read : Result Config DomFault). let made : Result Machine Status = elim read [ Err f ↦ Err (domains_refused f) | Ok c ↦ with_work c (file_work c lines) ] in made) e

-- nor does a refused work file
refused_lines : (bytes lines : List ℕ) (config : Config) (fault : WorkFault) → file_config bytes ≡ Ok config → file_work config lines ≡ Err fault → file_machine bytes lines ≡ Err (status.BadWork fault)
unfolding file_machine
refused_lines bytes lines config fault e refused =
    ap (λ (read : Result Config DomFault). let made : Result Machine Status = elim read [ Err f ↦ Err (domains_refused f) | Ok c ↦ with_work c (file_work c lines) ] in made) e ∙ ap (with_work config) refused

-- of what both texts hold, where it is told
both_told : (first second : Option (List ℕ)) (P Q : List ℕ → List ℕ → Type 0) → ((d w : List ℕ) → P d w → Q d w) →
    IfSome first (λ d. IfSome second (λ w. P d w)) → IfSome first (λ d. IfSome second (λ w. Q d w))
both_told None second P Q f h = tt
both_told (Some d) None P Q f h = tt
both_told (Some d) (Some w) P Q f h = f d w h

-- what holds whatever the work file holds
first_told : (first second : Option (List ℕ)) (P : List ℕ → Type 0) → IfSome first P → IfSome first (λ d. IfSome second (λ w. P d))
first_told None second P h = tt
first_told (Some d) None P h = tt
first_told (Some d) (Some w) P h = h

-- what holds whatever the two texts hold
always_told : (first second : Option (List ℕ)) (Q : List ℕ → List ℕ → Type 0) → ((d w : List ℕ) → Q d w) → IfSome first (λ d. IfSome second (λ w. Q d w))
always_told None second Q f = tt
always_told (Some d) None Q f = tt
always_told (Some d) (Some w) Q f = f d w

-- the texts make no machine, and this answer refuses them, unless memory was wanted
abbrev IsRefusal : Status → Result Machine Status → Type 0
IsRefusal answer made = (answer ≡ status.NoMemory) ⊎ (made ≡ Err answer)

table_refusal : (bytes lines : List ℕ) (fault : DomFault) → IsOfTable fault → file_config bytes ≡ Err fault → IsRefusal (status.BadDomains fault) (file_machine bytes lines)
table_refusal bytes lines dom_fault.NoMemory bad e = absurd bad
table_refusal bytes lines dom_fault.BadToml bad e = absurd bad
table_refusal bytes lines (dom_fault.Bad table index key cause) bad e = inr (refused_machine bytes lines (dom_fault.Bad table index key cause) e)

work_refusal : (bytes lines : List ℕ) (fault : WorkFault) (read : Result Config DomFault) → file_config bytes ≡ read → IsOkAnd read (λ config. file_work config lines ≡ Err fault) →
    IsRefusal (status.BadWork fault) (file_machine bytes lines)
work_refusal bytes lines fault (Ok config) e h = inr (refused_lines bytes lines config fault e h)
work_refusal bytes lines fault (Err other) e h = absurd h

-- a file that counts as not read was not read
not_read : (held : BytesOf) (old new : Counts) (source : Source) → IsUnread held old new source → IsNotRead old new source
not_read held old new (of_files names) h = elim h [ inl rose ↦ inl rose | inr rose ↦ inr rose.1 ]
not_read held old new (of_seed s processors domains) h = h

-- this holds of what the two texts make, where their bytes are told
abbrev OfMade : BytesOf → Source → (Result Machine Status → Type 0) → Type 0
OfMade held source P = IfSome (domain_bytes held source) (λ d. IfSome (work_bytes held source) (λ w. P (file_machine d w)))

-- the texts are refused, and nothing failed
refused_texts : (held : BytesOf) (old new : Counts) (source : Source) (answer : Status) → Refuses held old new source answer → ¬ IsNotRead old new source → OfMade held source (IsRefusal answer)
unfolding Refuses
refused_texts held old new source status.Ok h fine = absurd h
refused_texts held old new source status.Usage h fine = absurd h
refused_texts held old new source status.ReadFault h fine = absurd (fine (not_read held old new source h))
refused_texts held old new source status.BadToml h fine =
    both_told (domain_bytes held source) (work_bytes held source) (λ d w. spelled_table d ≡ None) (λ d w. IsRefusal status.BadToml (file_machine d w))
    (λ d w none. inr (refused_machine d w dom_fault.BadToml (no_toml d none)))
    (first_told (domain_bytes held source) (work_bytes held source) (λ d. spelled_table d ≡ None) h)
refused_texts held old new source (status.BadDomains fault) h fine =
    both_told (domain_bytes held source) (work_bytes held source) (λ d w. file_config d ≡ Err fault) (λ d w. IsRefusal (status.BadDomains fault) (file_machine d w))
    (λ d w e. table_refusal d w fault h.0 e)
    (first_told (domain_bytes held source) (work_bytes held source) (λ d. file_config d ≡ Err fault) h.1)
refused_texts held old new source (status.BadWork fault) h fine =
    both_told (domain_bytes held source) (work_bytes held source) (λ d w. IsOkAnd (file_config d) (λ config. file_work config w ≡ Err fault)) (λ d w. IsRefusal (status.BadWork fault) (file_machine d w))
    (λ d w bad. work_refusal d w fault (file_config d) refl bad) h
refused_texts held old new source status.WriteFault h fine = absurd h
refused_texts held old new source (status.Full n) h fine = absurd h
refused_texts held old new source (status.NotRun k) h fine = absurd h
refused_texts held old new source status.NoMemory h fine =
    always_told (domain_bytes held source) (work_bytes held source) (λ d w. IsRefusal status.NoMemory (file_machine d w)) (λ d w. inl refl)

-- want of memory is an answer of every run
memory_answers_run : (ordered : Bool) (limit : ℕ) (made : Result Machine Status) → IsRunAnswer ordered limit status.NoMemory made
memory_answers_run ordered limit (Err refusal) = inl refl
memory_answers_run true limit (Ok m) = inl refl
memory_answers_run false limit (Ok m) = inl (inl refl)

-- and so is what refuses the files
refusal_answers_run : (ordered : Bool) (limit : ℕ) (answer : Status) (made : Result Machine Status) → IsRefusal answer made → IsRunAnswer ordered limit answer made
refusal_answers_run ordered limit answer made (inl none) = subst (λ (a : Status). IsRunAnswer ordered limit a made) (sym none) (memory_answers_run ordered limit made)
refusal_answers_run ordered limit answer made (inr e) = subst (λ (r : Result Machine Status). IsRunAnswer ordered limit answer r) (sym e) (inr refl)

refused_answer : (ordered : Bool) (limit : ℕ) (held : BytesOf) (old new : Counts) (source : Source) (answer : Status) → Refuses held old new source answer →
    ¬ IsNotRead old new source → IsAnswer ordered limit held answer source
unfolding IsAnswer
refused_answer ordered limit held old new source answer h fine =
    both_told (domain_bytes held source) (work_bytes held source) (λ d w. IsRefusal answer (file_machine d w)) (λ d w. IsRunAnswer ordered limit answer (file_machine d w))
    (λ d w refusal. refusal_answers_run ordered limit answer (file_machine d w) refusal) (refused_texts held old new source answer h fine)

-- the answer of a machine whose run was written whole, and of one of which a further entry is due
answers_ok : (ordered : Bool) (limit : ℕ) (m : Machine) (entries : List Entry) → EndsWithin ordered limit m entries → IsAnswerOf limit m status.Ok ordered
unfolding ordered_answer
answers_ok true limit m entries h = rw (is_whole-ends limit m entries h) (inr refl)
answers_ok false limit m entries h = inl (inr refl)

answers_full : (ordered : Bool) (limit : ℕ) (m : Machine) (entries : List Entry) (n : ℕ) → n ≡ limit → FillsLimit ordered limit m entries → IsAnswerOf limit m (status.Full n) ordered
unfolding ordered_answer
answers_full true limit m entries n is h = rw (is_whole-fills limit m entries h) (inr (ap status.Full is))
answers_full false limit m entries n is h = inr (ap status.Full is)

-- the answer of a run of a machine that the two texts make
made_answer : (held : BytesOf) (r : Request) (m : Machine) (answer : Status) → IsMade held r.source m → IsAnswerOf r.limit m answer r.ordered → IsAnswer r.ordered r.limit held answer r.source
unfolding IsAnswer
made_answer held r m answer made h =
    both_told (domain_bytes held r.source) (work_bytes held r.source) (λ d w. file_machine d w ≡ Ok m) (λ d w. IsRunAnswer r.ordered r.limit answer (file_machine d w))
    (λ d w e. subst (λ (z : Result Machine Status). IsRunAnswer r.ordered r.limit answer z) (sym e) h) made.by_texts

-- of the bytes of three files, where they are told
three_told : (first second third : Option (List ℕ)) (P : List ℕ → List ℕ → Type 0) (R : List ℕ → Type 0) (Q : List ℕ → List ℕ → List ℕ → Type 0) → ((d w b : List ℕ) → P d w → R b → Q d w b) →
    IfSome first (λ d. IfSome second (λ w. P d w)) → IfSome third R → IfSome first (λ d. IfSome second (λ w. IfSome third (λ b. Q d w b)))
three_told None second third P R Q f h r = tt
three_told (Some d) None third P R Q f h r = tt
three_told (Some d) (Some w) None P R Q f h r = tt
three_told (Some d) (Some w) (Some b) P R Q f h r = f d w b h r

whatever : (third : Option (List ℕ)) → IfSome third (λ b. ⊤)
whatever None = tt
whatever (Some b) = tt

-- a verdict on the schedule is its answer
answers_verdict : (ordered : Bool) (bytes : List ℕ) (answer : Status) (m : Machine) (v : Verdict) (made : Result Machine Status) → made ≡ Ok m → Judges m ordered bytes v → answer ≡ answer_to v → IsJudged ordered bytes answer made
answers_verdict ordered bytes answer m v made e h is = subst (λ r. IsJudged ordered bytes answer r) (sym e) (inr (v, h, is))

accepts : (v : Verdict) → IsAccepted v → status.Ok ≡ answer_to v
accepts (verdict.Yes n) h = refl
accepts (verdict.No k cause) h = absurd h

refuses_at : (k : ℕ) (v : Verdict) → IsRefusedAt k v → status.NotRun k ≡ answer_to v
refuses_at k (verdict.Yes n) h = absurd h
refuses_at k (verdict.No line cause) h = sym (ap status.NotRun h)

memory_judged : (ordered : Bool) (bytes : List ℕ) (made : Result Machine Status) → IsJudged ordered bytes status.NoMemory made
memory_judged ordered bytes (Err refusal) = inl refl
memory_judged ordered bytes (Ok m) = inl refl

-- a refusal of the two files is the answer of any schedule
refusal_judged : (ordered : Bool) (bytes : List ℕ) (answer : Status) (made : Result Machine Status) → IsRefusal answer made → IsJudged ordered bytes answer made
refusal_judged ordered bytes answer made (inl none) = subst (λ (a : Status). IsJudged ordered bytes a made) (sym none) (memory_judged ordered bytes made)
refusal_judged ordered bytes answer made (inr e) = subst (λ (r : Result Machine Status). IsJudged ordered bytes answer r) (sym e) (inr refl)

refused_files : (held : BytesOf) (old new : Counts) (ordered : Bool) (names : Names) (schedule : List ℕ) (answer : Status) →
    Refuses held old new (of_files names) answer → ¬ IsNotRead old new (of_files names) → Answers held answer (judges ordered names schedule)
refused_files held old new ordered names schedule answer h fine =
    three_told (held names.0) (held names.1) (held schedule) (λ d w. IsRefusal answer (file_machine d w)) (λ b. ⊤) (λ d w b. IsJudged ordered b answer (file_machine d w))
    (λ d w b refusal r. refusal_judged ordered b answer (file_machine d w) refusal)
    (refused_texts held old new (of_files names) answer h fine) (whatever (held schedule))

judged : (held : BytesOf) (old new : Counts) (before after : Option (List ℕ)) (sink_old sink_new : ℕ) (ordered : Bool) (names : Names) (schedule : List ℕ) (answer : Status) →
    Outcome held old new before after sink_old sink_new (judges ordered names schedule) answer → ¬ SomethingFails old new sink_old sink_new (judges ordered names schedule) →
    Answers held answer (judges ordered names schedule)
unfolding Outcome Refuses
judged held old new before after sink_old sink_new ordered names schedule status.Ok h fine =
    three_told (held names.0) (held names.1) (held schedule) (λ d w. file_machine d w ≡ Ok h.0) (λ b. Judges h.0 ordered b h.1) (λ d w b. IsJudged ordered b status.Ok (file_machine d w))
    (λ d w b e v. answers_verdict ordered b status.Ok h.0 h.1 (file_machine d w) e v (accepts h.1 h.4.0)) (h.2).by_texts h.3
judged held old new before after sink_old sink_new ordered names schedule (status.NotRun k) h fine =
    three_told (held names.0) (held names.1) (held schedule) (λ d w. file_machine d w ≡ Ok h.0) (λ b. Judges h.0 ordered b h.1) (λ d w b. IsJudged ordered b (status.NotRun k) (file_machine d w))
    (λ d w b e v. answers_verdict ordered b (status.NotRun k) h.0 h.1 (file_machine d w) e v (refuses_at k h.1 h.4.0)) (h.2).by_texts h.3
judged held old new before after sink_old sink_new ordered names schedule (status.Full n) h fine = absurd h
judged held old new before after sink_old sink_new ordered names schedule status.WriteFault h fine = absurd (fine (inr (inr h.1)))
judged held old new before after sink_old sink_new ordered names schedule status.Usage h fine = absurd h
judged held old new before after sink_old sink_new ordered names schedule status.ReadFault h fine =
    absurd (elim h [ inl unread ↦ fine (inl (not_read held old new (of_files names) unread)) | inr unread ↦ fine (inr (inl unread.1)) ])
judged held old new before after sink_old sink_new ordered names schedule status.BadToml h fine =
    refused_files held old new ordered names schedule status.BadToml h (λ unread. fine (inl unread))
judged held old new before after sink_old sink_new ordered names schedule (status.BadDomains fault) h fine =
    refused_files held old new ordered names schedule (status.BadDomains fault) h (λ unread. fine (inl unread))
judged held old new before after sink_old sink_new ordered names schedule (status.BadWork fault) h fine =
    refused_files held old new ordered names schedule (status.BadWork fault) h (λ unread. fine (inl unread))
judged held old new before after sink_old sink_new ordered names schedule status.NoMemory h fine =
    three_told (held names.0) (held names.1) (held schedule) (λ d w. ⊤) (λ b. ⊤) (λ d w b. IsJudged ordered b status.NoMemory (file_machine d w))
    (λ d w b x y. memory_judged ordered b (file_machine d w)) (always_told (held names.0) (held names.1) (λ d w. ⊤) (λ d w. tt)) (whatever (held schedule))

-- the outcome of a task is its answer, where nothing failed
pub answers : (held : BytesOf) (old new : Counts) (before after : Option (List ℕ)) (sink_old sink_new : ℕ) (task : Task) (answer : Status) →
    Outcome held old new before after sink_old sink_new task answer → ¬ SomethingFails old new sink_old sink_new task → Answers held answer task
unfolding Outcome Refuses
answers held old new before after sink_old sink_new (runs r) status.Ok h fine =
    made_answer held r h.0 status.Ok h.1 (answers_ok r.ordered r.limit h.0 h.2.entries h.2.ends)
answers held old new before after sink_old sink_new (runs r) (status.Full n) h fine =
    made_answer held r h.0 (status.Full n) h.1 (answers_full r.ordered r.limit h.0 h.2.1.entries n h.2.0 h.2.1.fills)
answers held old new before after sink_old sink_new (runs r) status.WriteFault h fine = absurd (fine (inr h.1))
answers held old new before after sink_old sink_new (runs r) status.Usage h fine = absurd h
answers held old new before after sink_old sink_new (runs r) status.ReadFault h fine = refused_answer r.ordered r.limit held old new r.source status.ReadFault h (λ unread. fine (inl unread))
answers held old new before after sink_old sink_new (runs r) status.BadToml h fine = refused_answer r.ordered r.limit held old new r.source status.BadToml h (λ unread. fine (inl unread))
answers held old new before after sink_old sink_new (runs r) (status.BadDomains fault) h fine = refused_answer r.ordered r.limit held old new r.source (status.BadDomains fault) h (λ unread. fine (inl unread))
answers held old new before after sink_old sink_new (runs r) (status.BadWork fault) h fine = refused_answer r.ordered r.limit held old new r.source (status.BadWork fault) h (λ unread. fine (inl unread))
answers held old new before after sink_old sink_new (runs r) (status.NotRun k) h fine = absurd h
answers held old new before after sink_old sink_new (runs r) status.NoMemory h fine = refused_answer r.ordered r.limit held old new r.source status.NoMemory h (λ unread. fine (inl unread))
answers held old new before after sink_old sink_new (writes text) status.Ok h fine = inr refl
answers held old new before after sink_old sink_new (writes text) (status.Full n) h fine = absurd h
answers held old new before after sink_old sink_new (writes text) status.WriteFault h fine = absurd (fine h.1)
answers held old new before after sink_old sink_new (writes text) status.Usage h fine = absurd h
answers held old new before after sink_old sink_new (writes text) status.ReadFault h fine = absurd h
answers held old new before after sink_old sink_new (writes text) status.BadToml h fine = absurd h
answers held old new before after sink_old sink_new (writes text) (status.BadDomains fault) h fine = absurd h
answers held old new before after sink_old sink_new (writes text) (status.BadWork fault) h fine = absurd h
answers held old new before after sink_old sink_new (writes text) status.NoMemory h fine = inl refl
answers held old new before after sink_old sink_new (writes text) (status.NotRun k) h fine = absurd h
answers held old new before after sink_old sink_new (judges ordered names schedule) answer h fine = judged held old new before after sink_old sink_new ordered names schedule answer h fine

-- want of memory is an answer to every task
pub memory_answers : (held : BytesOf) (task : Task) → Answers held status.NoMemory task
unfolding IsAnswer
memory_answers held (runs r) =
    always_told (domain_bytes held r.source) (work_bytes held r.source) (λ d w. IsRunAnswer r.ordered r.limit status.NoMemory (file_machine d w))
    (λ d w. memory_answers_run r.ordered r.limit (file_machine d w))
memory_answers held (writes text) = inl refl
memory_answers held (judges ordered names schedule) =
    three_told (held names.0) (held names.1) (held schedule) (λ d w. ⊤) (λ b. ⊤) (λ d w b. IsJudged ordered b status.NoMemory (file_machine d w))
    (λ d w b x y. memory_judged ordered b (file_machine d w)) (always_told (held names.0) (held names.1) (λ d w. ⊤) (λ d w. tt)) (whatever (held schedule))

-- the files make a machine, and the schedule was to be judged
pub verdict_outcome : (held : BytesOf) (old new : Counts) (before after : Option (List ℕ)) (sink_old sink_new : ℕ) (ordered : Bool) (names : Names) (schedule bytes : List ℕ) (m : Machine) (answer : Status) →
    IsMade held (of_files names) m → IfSome (held schedule) (λ all. bytes ≡ all) → WritesVerdict ordered m bytes before after sink_old sink_new answer →
    Outcome held old new before after sink_old sink_new (judges ordered names schedule) answer
unfolding WritesVerdict Outcome
verdict_outcome held old new before after sink_old sink_new ordered names schedule bytes m status.Ok made is h =
    (m, h.0, made, told (held schedule) bytes (λ b. Judges m ordered b h.0) is h.1, (h.2, h.3))
verdict_outcome held old new before after sink_old sink_new ordered names schedule bytes m (status.NotRun k) made is h =
    (m, h.0, made, told (held schedule) bytes (λ b. Judges m ordered b h.0) is h.1, (h.2, h.3))
verdict_outcome held old new before after sink_old sink_new ordered names schedule bytes m status.WriteFault made is h =
    ((m, h.0.0, made, told (held schedule) bytes (λ b. Judges m ordered b h.0.0) is h.0.1, h.0.2), h.1)
verdict_outcome held old new before after sink_old sink_new ordered names schedule bytes m (status.Full n) made is h = absurd h
verdict_outcome held old new before after sink_old sink_new ordered names schedule bytes m status.Usage made is h = absurd h
verdict_outcome held old new before after sink_old sink_new ordered names schedule bytes m status.ReadFault made is h = absurd h
verdict_outcome held old new before after sink_old sink_new ordered names schedule bytes m status.BadToml made is h = absurd h
verdict_outcome held old new before after sink_old sink_new ordered names schedule bytes m (status.BadDomains fault) made is h = absurd h
verdict_outcome held old new before after sink_old sink_new ordered names schedule bytes m (status.BadWork fault) made is h = absurd h
verdict_outcome held old new before after sink_old sink_new ordered names schedule bytes m status.NoMemory made is h = tt

-- the files are refused
pub unjudged_outcome : (held : BytesOf) (old new : Counts) (before after : Option (List ℕ)) (sink_old sink_new : ℕ) (ordered : Bool) (names : Names) (schedule : List ℕ) (answer : Status) →
    Refuses held old new (of_files names) answer → Outcome held old new before after sink_old sink_new (judges ordered names schedule) answer
unfolding Refuses Outcome
unjudged_outcome held old new before after sink_old sink_new ordered names schedule status.Ok h = absurd h
unjudged_outcome held old new before after sink_old sink_new ordered names schedule (status.NotRun k) h = absurd h
unjudged_outcome held old new before after sink_old sink_new ordered names schedule (status.Full n) h = absurd h
unjudged_outcome held old new before after sink_old sink_new ordered names schedule status.WriteFault h = absurd h
unjudged_outcome held old new before after sink_old sink_new ordered names schedule status.Usage h = absurd h
unjudged_outcome held old new before after sink_old sink_new ordered names schedule status.ReadFault h = inl h
unjudged_outcome held old new before after sink_old sink_new ordered names schedule status.BadToml h = h
unjudged_outcome held old new before after sink_old sink_new ordered names schedule (status.BadDomains fault) h = h
unjudged_outcome held old new before after sink_old sink_new ordered names schedule (status.BadWork fault) h = h
unjudged_outcome held old new before after sink_old sink_new ordered names schedule status.NoMemory h = tt

makes_some : (made : Result Machine Status) (m : Machine) → made ≡ Ok m → IsOk made
makes_some made m e = search (rules, e)

-- the schedule was not read
pub unread_outcome : (held : BytesOf) (old middle new : Counts) (before after : Option (List ℕ)) (sink_old sink_new : ℕ) (ordered : Bool) (names : Names) (schedule : List ℕ) (m : Machine) (answer : Status) →
    IsMade held (of_files names) m → old schedule ≤ middle schedule → RefusesName (middle schedule) (new schedule) answer →
    Outcome held old new before after sink_old sink_new (judges ordered names schedule) answer
unfolding Outcome
unread_outcome held old middle new before after sink_old sink_new ordered names schedule m status.ReadFault made le h =
    inr (
      both_told (held names.0) (held names.1) (λ d w. file_machine d w ≡ Ok m) (λ d w. IsOk (file_machine d w)) (λ d w e. makes_some (file_machine d w) m e) made.by_texts,
      rose_after (old schedule) (middle schedule) (new schedule) le h,
    )
unread_outcome held old middle new before after sink_old sink_new ordered names schedule m status.Ok made le h = absurd h
unread_outcome held old middle new before after sink_old sink_new ordered names schedule m (status.NotRun k) made le h = absurd h
unread_outcome held old middle new before after sink_old sink_new ordered names schedule m (status.Full n) made le h = absurd h
unread_outcome held old middle new before after sink_old sink_new ordered names schedule m status.WriteFault made le h = absurd h
unread_outcome held old middle new before after sink_old sink_new ordered names schedule m status.Usage made le h = absurd h
unread_outcome held old middle new before after sink_old sink_new ordered names schedule m status.BadToml made le h = absurd h
unread_outcome held old middle new before after sink_old sink_new ordered names schedule m (status.BadDomains fault) made le h = absurd h
unread_outcome held old middle new before after sink_old sink_new ordered names schedule m (status.BadWork fault) made le h = absurd h
unread_outcome held old middle new before after sink_old sink_new ordered names schedule m status.NoMemory made le h = tt

-- a verdict that holds, by the law that a schedule that is refused is no run
judges-no_run : NoIsNoRun → (m : Machine) → IsChecked m → (ordered : Bool) (bytes : List ℕ) (v : Verdict) → IsVerdict m ordered bytes v →
    (k : ℕ) → IsRefusedAt k v → (entries : List Entry) → IsTextOfRun m ordered bytes entries → ⊥
judges-no_run law m checked ordered bytes (verdict.Yes n) h k refused entries schedule = absurd refused
judges-no_run law m checked ordered bytes (verdict.No line cause) h k refused entries schedule = law m checked ordered bytes line cause h entries schedule

pub judges_it : NoIsNoRun → (m : Machine) → IsChecked m → (ordered : Bool) (bytes : List ℕ) (v : Verdict) → IsVerdict m ordered bytes v → Judges m ordered bytes v
judges_it law m checked ordered bytes v h = record { is = h; no_run = judges-no_run law m checked ordered bytes v h }

-- what is written of a verdict
pub writes_verdict : (ordered : Bool) (m : Machine) (bytes : List ℕ) (before after : Option (List ℕ)) (old new : ℕ) (v : Verdict) (answer : Status) → answer ≡ answer_to v → Judges m ordered bytes v →
    Adds before after (text_of_verdict v) → WritesVerdict ordered m bytes before after old new answer
unfolding WritesVerdict
writes_verdict ordered m bytes before after old new (verdict.Yes n) answer is h put =
    subst (λ a. WritesVerdict ordered m bytes before after old new a) (sym is) (verdict.Yes n, h, tt, put)
writes_verdict ordered m bytes before after old new (verdict.No k cause) answer is h put =
    subst (λ a. WritesVerdict ordered m bytes before after old new a) (sym is) (verdict.No k cause, h, refl, put)

pub writes_part_of_verdict : (ordered : Bool) (m : Machine) (bytes : List ℕ) (before after : Option (List ℕ)) (old new : ℕ) (v : Verdict) → Judges m ordered bytes v →
    AddsPart before after (text_of_verdict v) → Rose old new → WritesVerdict ordered m bytes before after old new status.WriteFault
unfolding WritesVerdict
writes_part_of_verdict ordered m bytes before after old new v h put rose = ((v, h, put), rose)

pub writes_no_verdict : (ordered : Bool) (m : Machine) (bytes : List ℕ) (before after : Option (List ℕ)) (old new : ℕ) → WritesVerdict ordered m bytes before after old new status.NoMemory
unfolding WritesVerdict
writes_no_verdict ordered m bytes before after old new = tt
