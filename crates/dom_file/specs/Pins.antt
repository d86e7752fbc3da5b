-- The sets of cores that a domain's units are pinned to.
use Rattle.std.specs.Prelude.{ℕ, ◌+◌, ◌-◌, ◌/◌, ◌==◌, codes, List, [], Some, None, Result, Ok, if◌then◌else◌}
use Rattle.sched_base.specs.Numbers.{core_set}
use Rattle.sched_base.specs.declared.Cores.{Cores}
use Rattle.toml.specs.Data.{Data, Members, get_member}
use Rattle.dom_file.specs.declared.fault.DomCause.{DomCause}
use Rattle.dom_file.specs.declared.head.Head.{Head}
use Rattle.dom_file.specs.Steps.{◌>>=◌, each}
use Rattle.dom_file.specs.Values.{array_of}
use Rattle.dom_file.specs.Cores.{cores_of}

-- how many units a domain of so many vCPUs has, where a core has g processors
abbrev pub guest_unit_count : ℕ → ℕ → ℕ
guest_unit_count g guests = (guests + g - 1) / g

-- the cores of 1 to 64 processors
abbrev pub pin_of : Head → Data → Result Cores DomCause
pin_of head d = do
  ds ← array_of 1 64 d
  cores ← cores_of head [] ds
  Ok (core_set cores)

-- one set for each unit, or none at all; a file of format 1 has none
abbrev pub pins_in : Head → ℕ → Members → Result (List Cores) DomCause
pins_in head units table =
    if head.format == 1 then Ok []
    else elim (get_member (codes "pins") table) [ None ↦ Ok [] | Some d ↦ array_of units units d >>= each (pin_of head) ]
