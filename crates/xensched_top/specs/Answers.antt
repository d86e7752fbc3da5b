-- What each answer of the program says of the files, the store and the sink.
use Rattle.std.specs.Prelude.{◌≡◌, ℕ, List, Option, Some, None, Result, Ok, Err, Bool, true, false, IfSome, IsOk, IsOkAnd, ◌⊎◌, ⊤, if◌then◌else◌}
use Rattle.dom_file.specs.Configs.{spelled_table}
use Rattle.dom_file.specs.declared.fault.DomFault.{DomFault}
use Rattle.dom_file.specs.declared.fault.DomFault.TheVariants as dom_fault
use Rattle.sched_io.specs.Faults.{Rose}
use Rattle.sched_io.specs.Puts.{Adds, AddsPart}
use Rattle.sched_model.specs.declared.config.Config.{Config}
use Rattle.sched_model.specs.declared.event.Entry.{Entry}
use Rattle.sched_model.specs.declared.machine.Machine.{Machine}
use Rattle.sched_model.specs.CheckedMachine.{IsChecked}
use Rattle.xensched_top.specs.declared.status.Status.{Status}
use Rattle.xensched_top.specs.declared.status.Status.TheVariants as status
use Rattle.work_file.specs.declared.fault.WorkFault.{WorkFault}
use Rattle.xensched_top.specs.Files.{file_config, file_work, file_machine}
use Rattle.command_line.specs.declared.command.Form.{Form}
use Rattle.work_file.specs.Load.{load_domains, load_work}
use Rattle.sched_check.specs.declared.verdict.Verdict.{Verdict}
use Rattle.sched_check.specs.declared.verdict.Verdict.TheVariants as verdict
use Rattle.sched_check.specs.ScheduleVerdict.{IsTextOfRun, IsVerdict}
use Rattle.sched_check.specs.VerdictText.{text_of_verdict}
use Rattle.xensched_top.specs.Words.{Source, of_files, of_seed, Request, Task, runs, writes, judges}
use Rattle.xensched_top.specs.Schedules.{is_whole, PutsRun, PutsFirst, PutsPart}

-- the names of the domain file and of the work file
abbrev pub Names : Type 0
Names = List ℕ × List ℕ

-- what the store tells of each name
abbrev pub BytesOf : Type 0
BytesOf = List ℕ → Option (List ℕ)

-- how often each name could not be read
abbrev pub Counts : Type 0
Counts = List ℕ → ℕ

-- the bytes of the domain file, where they are told
abbrev pub domain_bytes : BytesOf → Source → Option (List ℕ)
domain_bytes held (of_files names) = held names.0
domain_bytes held (of_seed s processors domains) = Some (load_domains s processors domains)

-- the bytes of the work file, where they are told
abbrev pub work_bytes : BytesOf → Source → Option (List ℕ)
work_bytes held (of_files names) = held names.1
work_bytes held (of_seed s processors domains) = Some (load_work s processors domains)

-- the two texts make this machine, whose values have passed all checks; where the bytes of both are told, it is the one of these bytes
pub record IsMade (held : BytesOf) (source : Source) (m : Machine) : Type 0 where
  pub checked : IsChecked m
  pub by_texts : IfSome (domain_bytes held source) (λ domains. IfSome (work_bytes held source) (λ work. file_machine domains work ≡ Ok m))

-- the domain file could not be read; or it was accepted, and the work file could not; what is made is never unread
abbrev pub IsUnread : BytesOf → Counts → Counts → Source → Type 0
IsUnread held old new (of_files names) = Rose (old names.0) (new names.0) ⊎ (IfSome (held names.0) (λ domains. IsOk (file_config domains)) × Rose (old names.1) (new names.1))
IsUnread held old new (of_seed s processors domains) = ⊥

-- the domain file is no TOML document
abbrev pub IsNoToml : BytesOf → Source → Type 0
IsNoToml held source = IfSome (domain_bytes held source) (λ domains. spelled_table domains ≡ None)

-- the fault is one of a table
abbrev pub IsOfTable : DomFault → Type 0
IsOfTable (dom_fault.Bad table index key cause) = ⊤
IsOfTable fault = ⊥

-- the table of the domain file is refused with this fault
abbrev pub IsBadTable : BytesOf → DomFault → Source → Type 0
IsBadTable held fault source = IsOfTable fault × IfSome (domain_bytes held source) (λ domains. file_config domains ≡ Err fault)

-- the domain file is accepted, and the work file is refused with this fault
abbrev pub IsBadWork : BytesOf → WorkFault → Source → Type 0
IsBadWork held fault source =
    IfSome (domain_bytes held source) (λ domains. IfSome (work_bytes held source) (λ work. IsOkAnd (file_config domains) (λ config. file_work config work ≡ Err fault)))

-- why a file gives no bytes, by the status that is answered then: its count of faults before and after
abbrev pub RefusesName : ℕ → ℕ → Status → Type 0
RefusesName old new status.ReadFault = Rose old new
RefusesName old new status.NoMemory = ⊤
RefusesName old new answer = ⊥

-- why the bytes of a domain file give no machine, by the status that is answered then
abbrev pub RefusesTable : List ℕ → Status → Type 0
RefusesTable bytes status.BadToml = spelled_table bytes ≡ None
RefusesTable bytes (status.BadDomains fault) = IsOfTable fault × (file_config bytes ≡ Err fault)
RefusesTable bytes status.NoMemory = ⊤
RefusesTable bytes answer = ⊥

-- why the bytes of a work file give no workload, by the status that is answered then
abbrev pub RefusesWork : Config → List ℕ → Status → Type 0
RefusesWork config bytes (status.BadWork fault) = file_work config bytes ≡ Err fault
RefusesWork config bytes status.NoMemory = ⊤
RefusesWork config bytes answer = ⊥

-- why the texts give no machine, by the status that is answered then
unfoldable pub Refuses : BytesOf → Counts → Counts → Source → Status → Type 0
Refuses held old new source status.ReadFault = IsUnread held old new source
Refuses held old new source status.BadToml = IsNoToml held source
Refuses held old new source (status.BadDomains fault) = IsBadTable held fault source
Refuses held old new source (status.BadWork fault) = IsBadWork held fault source
Refuses held old new source status.NoMemory = ⊤
Refuses held old new source answer = ⊥

-- the limit is this many entries, and a machine's run goes on behind them
abbrev pub IsFull : ℕ → Bool → Form → ℕ → Machine → Option (List ℕ) → Option (List ℕ) → Type 0
IsFull n ordered f limit m before after = (n ≡ limit) × PutsFirst ordered f limit m before after

-- how the writing of a machine's run ends, by the status that is answered then: what was put, and whether the sink's count of faults rose
unfoldable pub Writes : Bool → Form → ℕ → Machine → Option (List ℕ) → Option (List ℕ) → ℕ → ℕ → Status → Type 0
Writes ordered f limit m before after old new status.Ok = PutsRun ordered f limit m before after
Writes ordered f limit m before after old new (status.Full n) = IsFull n ordered f limit m before after
Writes ordered f limit m before after old new status.WriteFault = PutsPart ordered f limit m before after × Rose old new
Writes ordered f limit m before after old new status.NoMemory = ⊤
Writes ordered f limit m before after old new answer = ⊥

-- the verdict accepts the schedule, or refuses it at line k
abbrev pub IsAccepted : Verdict → Type 0
IsAccepted (verdict.Yes n) = ⊤
IsAccepted (verdict.No k cause) = ⊥

abbrev pub IsRefusedAt : ℕ → Verdict → Type 0
IsRefusedAt k (verdict.Yes n) = ⊥
IsRefusedAt k (verdict.No line cause) = line ≡ k

-- the verdict holds of the schedule's bytes; where it is no, they are the text of no whole run, or of none that is ordered where that is asked
pub record Judges (m : Machine) (ordered : Bool) (bytes : List ℕ) (v : Verdict) : Type 0 where
  pub is : IsVerdict m ordered bytes v
  pub no_run : (k : ℕ) → IsRefusedAt k v → (entries : List Entry) → IsTextOfRun m ordered bytes entries → ⊥

-- how the writing of a verdict on a schedule ends, by the status that is answered then
unfoldable pub WritesVerdict : Bool → Machine → List ℕ → Option (List ℕ) → Option (List ℕ) → ℕ → ℕ → Status → Type 0
WritesVerdict ordered m bytes before after old new status.Ok = (v : Verdict) × Judges m ordered bytes v × IsAccepted v × Adds before after (text_of_verdict v)
WritesVerdict ordered m bytes before after old new (status.NotRun k) = (v : Verdict) × Judges m ordered bytes v × IsRefusedAt k v × Adds before after (text_of_verdict v)
WritesVerdict ordered m bytes before after old new status.WriteFault = ((v : Verdict) × Judges m ordered bytes v × AddsPart before after (text_of_verdict v)) × Rose old new
WritesVerdict ordered m bytes before after old new status.NoMemory = ⊤
WritesVerdict ordered m bytes before after old new answer = ⊥

-- nothing is put with this status
abbrev pub PutsNothing : Status → Type 0
PutsNothing status.Ok = ⊥
PutsNothing (status.Full n) = ⊥
PutsNothing status.WriteFault = ⊥
PutsNothing (status.NotRun k) = ⊥
PutsNothing answer = ⊤

-- all that is asked for is put with this status, or what is asked of the first entries, or a refusal
abbrev pub PutsWhole : Status → Type 0
PutsWhole status.Ok = ⊤
PutsWhole (status.Full n) = ⊤
PutsWhole (status.NotRun k) = ⊤
PutsWhole answer = ⊥

-- the answer to a task that ended with this status once what the sink keeps is handed on: the same, or a fault of the sink
abbrev pub IsHandedOn : Status → ℕ → ℕ → Status → Type 0
IsHandedOn answer old new result = (result ≡ answer) ⊎ ((result ≡ status.WriteFault) × PutsWhole answer × Rose old new)

-- this is answered, unless memory was wanted
abbrev pub UnlessNoMemory : Status → Status → Type 0
UnlessNoMemory expected answer = (answer ≡ status.NoMemory) ⊎ (answer ≡ expected)

-- the answer of the machine's ordered run where nothing fails: whether it is over within the limit
unfoldable pub ordered_answer : ℕ → Machine → Status
ordered_answer limit m = if is_whole limit m then status.Ok else status.Full limit

-- the answer of a run of the machine, where nothing fails: of another than the ordered one, that it is over or that it is full
abbrev pub IsAnswerOf : ℕ → Machine → Status → Bool → Type 0
IsAnswerOf limit m answer true = UnlessNoMemory (ordered_answer limit m) answer
IsAnswerOf limit m answer false = UnlessNoMemory status.Ok answer ⊎ (answer ≡ status.Full limit)

-- the answer of a run where nothing fails: the one that refuses the files, or one of the run of the machine
abbrev pub IsRunAnswer : Bool → ℕ → Status → Result Machine Status → Type 0
IsRunAnswer ordered limit answer (Err refusal) = UnlessNoMemory refusal answer
IsRunAnswer ordered limit answer (Ok m) = IsAnswerOf limit m answer ordered

-- one of the two files was not read
abbrev pub IsNotRead : Counts → Counts → Source → Type 0
IsNotRead old new (of_files names) = Rose (old names.0) (new names.0) ⊎ Rose (old names.1) (new names.1)
IsNotRead old new (of_seed s processors domains) = ⊥

-- the answer of a run of two texts whose bytes are told
unfoldable pub IsAnswer : Bool → ℕ → BytesOf → Status → Source → Type 0
IsAnswer ordered limit held answer source =
    IfSome (domain_bytes held source) (λ domains. IfSome (work_bytes held source) (λ work. IsRunAnswer ordered limit answer (file_machine domains work)))

-- the texts of the run's request make a machine, and of both this holds
abbrev pub OfMachine : BytesOf → (Request → Machine → Type 0) → Request → Type 0
OfMachine held P r = (m : Machine) × IsMade held r.source m × P r m

-- the two files make a machine, this is the verdict on the schedule, where its bytes are told, and of both this holds
abbrev pub OfVerdict : BytesOf → (Machine → Verdict → Type 0) → Bool → Names → List ℕ → Type 0
OfVerdict held P ordered names schedule = (m : Machine) × (verdict : Verdict) × IsMade held (of_files names) m × IfSome (held schedule) (λ bytes. Judges m ordered bytes verdict) × P m verdict

-- all that the task asks for was put
abbrev pub PutsAll : BytesOf → Option (List ℕ) → Option (List ℕ) → Task → Type 0
PutsAll held before after (runs r) = OfMachine held (λ r m. PutsRun r.ordered r.form r.limit m before after) r
PutsAll held before after (writes text) = Adds before after text
PutsAll held before after (judges ordered names schedule) = OfVerdict held (λ m verdict. IsAccepted verdict × Adds before after (text_of_verdict verdict)) ordered names schedule

-- a run has more entries than the limit, which is n, and what is asked of its first n was put
abbrev pub PutsLimit : ℕ → BytesOf → Option (List ℕ) → Option (List ℕ) → Task → Type 0
PutsLimit n held before after (runs r) = OfMachine held (λ r m. IsFull n r.ordered r.form r.limit m before after) r
PutsLimit n held before after (writes text) = ⊥
PutsLimit n held before after (judges ordered names schedule) = ⊥

-- the schedule is refused at line k, and that was put
abbrev pub PutsRefusal : ℕ → BytesOf → Option (List ℕ) → Option (List ℕ) → Task → Type 0
PutsRefusal k held before after (runs r) = ⊥
PutsRefusal k held before after (writes text) = ⊥
PutsRefusal k held before after (judges ordered names schedule) = OfVerdict held (λ m verdict. IsRefusedAt k verdict × Adds before after (text_of_verdict verdict)) ordered names schedule

-- a beginning was put of what is put where no put fails
abbrev pub PutsSome : BytesOf → Option (List ℕ) → Option (List ℕ) → Task → Type 0
PutsSome held before after (runs r) = OfMachine held (λ r m. PutsPart r.ordered r.form r.limit m before after) r
PutsSome held before after (writes text) = AddsPart before after text
PutsSome held before after (judges ordered names schedule) = OfVerdict held (λ m verdict. AddsPart before after (text_of_verdict verdict)) ordered names schedule

-- of the two texts that the task needs this holds
abbrev pub OfTexts : (Source → Type 0) → Task → Type 0
OfTexts P (runs r) = P r.source
OfTexts P (writes text) = ⊥
OfTexts P (judges ordered names schedule) = P (of_files names)

-- both files are accepted, and the schedule could not be read
abbrev pub IsUnreadSchedule : BytesOf → Counts → Counts → Names → List ℕ → Type 0
IsUnreadSchedule held old new names schedule = IfSome (held names.0) (λ domains. IfSome (held names.1) (λ work. IsOk (file_machine domains work))) × Rose (old schedule) (new schedule)

-- a file that the task needs could not be read, and those before it are accepted
abbrev pub LeavesUnread : BytesOf → Counts → Counts → Task → Type 0
LeavesUnread held old new (runs r) = IsUnread held old new r.source
LeavesUnread held old new (writes text) = ⊥
LeavesUnread held old new (judges ordered names schedule) = IsUnread held old new (of_files names) ⊎ IsUnreadSchedule held old new names schedule

-- a file that is needed was not read, or a put failed
abbrev pub SomethingFails : Counts → Counts → ℕ → ℕ → Task → Type 0
SomethingFails old new sink_old sink_new (runs r) = IsNotRead old new r.source ⊎ Rose sink_old sink_new
SomethingFails old new sink_old sink_new (writes text) = Rose sink_old sink_new
SomethingFails old new sink_old sink_new (judges ordered names schedule) = IsNotRead old new (of_files names) ⊎ Rose (old schedule) (new schedule) ⊎ Rose sink_old sink_new

-- the answer that tells a verdict
abbrev pub answer_to : Verdict → Status
answer_to (verdict.Yes n) = status.Ok
answer_to (verdict.No k cause) = status.NotRun k

-- the answer of the bytes of a schedule, where the files are refused or make this machine
abbrev pub IsJudged : Bool → List ℕ → Status → Result Machine Status → Type 0
IsJudged ordered bytes answer (Err refusal) = UnlessNoMemory refusal answer
IsJudged ordered bytes answer (Ok m) = (answer ≡ status.NoMemory) ⊎ ((verdict : Verdict) × Judges m ordered bytes verdict × (answer ≡ answer_to verdict))

-- the answer of a task where nothing fails
abbrev pub Answers : BytesOf → Status → Task → Type 0
Answers held answer (runs r) = IsAnswer r.ordered r.limit held answer r.source
Answers held answer (writes text) = UnlessNoMemory status.Ok answer
Answers held answer (judges ordered names schedule) =
    IfSome (held names.0) (λ domains. IfSome (held names.1) (λ work. IfSome (held schedule) (λ bytes. IsJudged ordered bytes answer (file_machine domains work))))

-- how a task ends, by the status that is answered then
unfoldable pub Outcome : BytesOf → Counts → Counts → Option (List ℕ) → Option (List ℕ) → ℕ → ℕ → Task → Status → Type 0
Outcome held old new before after sink_old sink_new task status.Ok = PutsAll held before after task
Outcome held old new before after sink_old sink_new task (status.Full n) = PutsLimit n held before after task
Outcome held old new before after sink_old sink_new task status.WriteFault = PutsSome held before after task × Rose sink_old sink_new
Outcome held old new before after sink_old sink_new task (status.NotRun k) = PutsRefusal k held before after task
Outcome held old new before after sink_old sink_new task status.NoMemory = ⊤
Outcome held old new before after sink_old sink_new task status.ReadFault = LeavesUnread held old new task
Outcome held old new before after sink_old sink_new task status.BadToml = OfTexts (IsNoToml held) task
Outcome held old new before after sink_old sink_new task (status.BadDomains fault) = OfTexts (IsBadTable held fault) task
Outcome held old new before after sink_old sink_new task (status.BadWork fault) = OfTexts (IsBadWork held fault) task
Outcome held old new before after sink_old sink_new task status.Usage = ⊥
