-- What two files make.
use Rattle.std.specs.Prelude.{◌≡◌, ℕ, List, Ok}
use Rattle.dom_file.specs.Configs.{domains_of}
use Rattle.work_file.specs.Lines.{work_of}
use Rattle.sched_model.specs.declared.config.Config.{Config}
use Rattle.sched_model.specs.declared.machine.Machine.{Machine}
use Rattle.sched_model.specs.declared.work.Work.{Work}

-- the domain file with these bytes describes this
abbrev pub IsConfigOf : Config → List ℕ → Type 0
IsConfigOf config bytes = domains_of bytes ≡ Ok config

-- the work file with these bytes says this to a machine of this configuration
abbrev pub IsWorkOf : Config → Work → List ℕ → Type 0
IsWorkOf config work bytes = work_of config bytes ≡ Ok work

-- a domain file and a work file with these bytes make this machine
pub record IsMachineOf (machine : Machine) (domains : List ℕ) (lines : List ℕ) : Type 0 where
  pub config : IsConfigOf machine.config domains
  pub work : IsWorkOf machine.config machine.work lines
