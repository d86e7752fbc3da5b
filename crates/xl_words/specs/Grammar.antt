-- The words of each command. A place counts the words from 0, and the name of the command is the first.
use Rattle.std.specs.Prelude.{ℕ, List, [], ◌∷◌, Option, Some, None, Result, Ok, Err, unwrap_or, max, bytes_eq, codes, if◌then◌else◌}
use Rattle.sched_model.specs.declared.command.Command.{Command}
use Rattle.sched_model.specs.declared.command.Command.TheVariants as command
use Rattle.sched_model.specs.declared.command.Syntax.{Syntax}
use Rattle.xl_words.specs.Parts.{words}
use Rattle.xl_words.specs.Values.{number_of, name_of, which_of, vcpu_of, entries_of, cpus_of}
use Rattle.xl_words.specs.Options.{at, options, new_pool_rules, credit2_domain_rules, credit2_pool_rules, rtds_rules}
pub use Rattle.sched_base.specs.Results.{◌>>=◌}

-- the value, or a fault at the place
abbrev pub needed_value : {X : Type 0} → ℕ → Option X → Result X Syntax
needed_value place None = at place
needed_value place (Some x) = Ok x

-- what the word at this place stands for, and the words behind it
abbrev pub field : {X : Type 0} → (List ℕ → Option X) → ℕ → List (List ℕ) → Result (X × List (List ℕ)) Syntax
field read place [] = at place
field read place (word ∷ words) = elim (read word) [ None ↦ at place | Some x ↦ Ok (x, words) ]

-- no word at this place
abbrev pub nothing_more : ℕ → List (List ℕ) → Result (Unit {0}) Syntax
nothing_more place [] = Ok tt
nothing_more place (word ∷ words) = at place

-- [POOL]
unfoldable pub pool_list : List (List ℕ) → Result Command Syntax
pool_list [] = Ok (command.PoolList None)
pool_list (word ∷ words) = do
  pool ← field which_of 1 (word ∷ words)
  end ← nothing_more 2 pool.1
  Ok (command.PoolList (Some pool.0))

-- name=NAME [sched=SCHED], in any order
unfoldable pub pool_create : List (List ℕ) → Result Command Syntax
pool_create words = do
  given ← options new_pool_rules 1 (record { name = None; sched = None }) words
  name ← needed_value given.1 given.0.name
  Ok (command.PoolCreate name given.0.sched)

-- POOL
unfoldable pub pool_destroy : List (List ℕ) → Result Command Syntax
pool_destroy words = do
  pool ← field which_of 1 words
  end ← nothing_more 2 pool.1
  Ok (command.PoolDestroy pool.0)

-- POOL NAME
unfoldable pub pool_rename : List (List ℕ) → Result Command Syntax
pool_rename words = do
  pool ← field which_of 1 words
  name ← field name_of 2 pool.1
  end ← nothing_more 3 name.1
  Ok (command.PoolRename pool.0 name.0)

-- POOL CPU
unfoldable pub cpu_add : List (List ℕ) → Result Command Syntax
cpu_add words = do
  pool ← field which_of 1 words
  cpu ← field number_of 2 pool.1
  end ← nothing_more 3 cpu.1
  Ok (command.CpuAdd pool.0 cpu.0)

-- POOL CPU
unfoldable pub cpu_remove : List (List ℕ) → Result Command Syntax
cpu_remove words = do
  pool ← field which_of 1 words
  cpu ← field number_of 2 pool.1
  end ← nothing_more 3 cpu.1
  Ok (command.CpuRemove pool.0 cpu.0)

-- DOM POOL
unfoldable pub migrate : List (List ℕ) → Result Command Syntax
migrate words = do
  dom ← field which_of 1 words
  pool ← field which_of 2 dom.1
  end ← nothing_more 3 pool.1
  Ok (command.Migrate dom.0 pool.0)

-- DOM
unfoldable pub pause : List (List ℕ) → Result Command Syntax
pause words = do
  dom ← field which_of 1 words
  end ← nothing_more 2 dom.1
  Ok (command.Pause dom.0)

-- DOM
unfoldable pub unpause : List (List ℕ) → Result Command Syntax
unpause words = do
  dom ← field which_of 1 words
  end ← nothing_more 2 dom.1
  Ok (command.Unpause dom.0)

-- -d DOM [-w W] [-c C], in any order
unfoldable pub credit2_domain : List (List ℕ) → Result Command Syntax
credit2_domain words = do
  given ← options credit2_domain_rules 1 (record { dom = None; weight = None; cap = None }) words
  dom ← needed_value given.1 given.0.dom
  Ok (command.Credit2Dom dom given.0.weight given.0.cap)

-- -s -p POOL [-r US], in any order
unfoldable pub credit2_pool : List (List ℕ) → Result Command Syntax
credit2_pool words = do
  given ← options credit2_pool_rules 1 (record { of_pool = None; pool = None; limit = None }) words
  of_pool ← needed_value given.1 given.0.of_pool
  pool ← needed_value given.1 given.0.pool
  Ok (command.Credit2Pool pool given.0.limit)

-- -d DOM [-v VCPU or all] [-p US] [-b US] [-e 0 or 1], in any order
unfoldable pub sched_rtds : List (List ℕ) → Result Command Syntax
sched_rtds words = do
  given ← options rtds_rules 1 (record { dom = None; vcpu = None; period = None; budget = None; extra = None }) words
  dom ← needed_value given.1 given.0.dom
  Ok (command.RtdsDom dom (unwrap_or given.0.vcpu None) given.0.period given.0.budget given.0.extra)

-- POOL MAJOR DOM:UNIT:RUN,..
unfoldable pub arinc_set : List (List ℕ) → Result Command Syntax
arinc_set words = do
  pool ← field which_of 1 words
  major ← field number_of 2 pool.1
  entries ← field entries_of 3 major.1
  end ← nothing_more 4 entries.1
  Ok (command.ArincSet pool.0 major.0 entries.0)

-- DOM VCPU CPUS
unfoldable pub vcpu_pin : List (List ℕ) → Result Command Syntax
vcpu_pin words = do
  dom ← field which_of 1 words
  vcpu ← field vcpu_of 2 dom.1
  cpus ← field cpus_of 3 vcpu.1
  end ← nothing_more 4 cpus.1
  Ok (command.Pin dom.0 vcpu.0 cpus.0)

-- the further of two faults
abbrev pub further_fault : Syntax → Syntax → Syntax
further_fault one two = record { place = max one.place two.place }

-- a command that has two forms: the reading by one of them, or the furthest place over both
abbrev pub either_form : Result Command Syntax → Result Command Syntax → Result Command Syntax
either_form (Ok c) other = Ok c
either_form (Err one) (Ok c) = Ok c
either_form (Err one) (Err two) = Err (further_fault one two)

-- the command that the words spell, or the place of the first word with which no command's words go on, or the count of words where they end too early
unfoldable pub reading : List (List ℕ) → Result Command Syntax
reading [] = at 0
reading (name ∷ words) =
    if bytes_eq name (codes "cpupool-list") then pool_list words
    else (if bytes_eq name (codes "cpupool-create") then pool_create words
    else (if bytes_eq name (codes "cpupool-destroy") then pool_destroy words
    else (if bytes_eq name (codes "cpupool-rename") then pool_rename words
    else (if bytes_eq name (codes "cpupool-cpu-add") then cpu_add words
    else (if bytes_eq name (codes "cpupool-cpu-remove") then cpu_remove words
    else (if bytes_eq name (codes "cpupool-migrate") then migrate words
    else (if bytes_eq name (codes "sched-credit2") then either_form (credit2_domain words) (credit2_pool words)
    else (if bytes_eq name (codes "sched-rtds") then sched_rtds words
    else (if bytes_eq name (codes "pause") then pause words
    else (if bytes_eq name (codes "unpause") then unpause words
    else (if bytes_eq name (codes "arinc-set") then arinc_set words
    else (if bytes_eq name (codes "vcpu-pin") then vcpu_pin words
    else at 0))))))))))))

-- the command that a text spells
abbrev pub command_of : List ℕ → Result Command Syntax
command_of text = reading (words text)
