-- A machine of two cores, of which the first is a Credit2 pool's and the second is added to it by a command, and the run that does this.
use Rattle.std.specs.Prelude.{ℕ, ◌&&◌, nat_lt, cond, eqb, List, [], ◌∷◌, Some, Ok, take}
use Rattle.sched_base.specs.Numbers.{moment, core, pool as pool_number}
use Rattle.sched_model.specs.declared.config.SchedKind.TheVariants as kinds
use Rattle.sched_model.specs.declared.config.PoolParams.TheVariants as pool_params
use Rattle.sched_model.specs.declared.command.Command.TheVariants as command
use Rattle.sched_model.specs.declared.command.Which.TheVariants as which
use Rattle.sched_model.specs.declared.event.Event.TheVariants as event
use Rattle.sched_model.specs.declared.event.Reply.TheVariants as reply
use Rattle.sched_model.specs.declared.event.Entry.{Entry}
use Rattle.sched_model.specs.declared.machine.Machine.{Machine}
use Rattle.journal_core.specs.Parts.{StatePart}
use Rattle.journal_core.specs.Histories.{part_at}
use Rattle.journal_core.specs.Books.{Chronicle}
use Rattle.lock_moves.specs.declared.names.Names.{Names}

-- "Pool-0"
abbrev pub pool_name : List ℕ
pool_name = 80 ∷ 111 ∷ 111 ∷ 108 ∷ 45 ∷ 48 ∷ []

-- two processors, of which Pool-0 has the first, and the command at 0 that adds the second to it
abbrev pub adding_machine : Machine
adding_machine =
    record {
      config = record {
        granularity = 1;
        processors = 2;
        horizon = moment 1000000;
        pools = record { name = pool_name; kind = kinds.Credit2; cores = 1; params = pool_params.Credit2 1000 } ∷ [];
        domains = [];
      };
      work = record { stalls = []; commands = record { at = moment 0; command = Ok (command.CpuAdd (which.Name pool_name) 1) } ∷ [] };
    }

-- the command is done, and the core has moved
abbrev pub is_added : Entry
is_added = record { at = moment 0; event = event.Xl 1 (Ok reply.Done) }

abbrev pub has_moved : Entry
has_moved = record { at = moment 0; event = event.Moved (core 1) (Some (pool_number 0)) }

-- the beginning of the run
abbrev pub two_entries : List Entry
two_entries = is_added ∷ has_moved ∷ []

-- the part of a lock after so many of the entries
abbrev pub part_after : ℕ → ℕ → StatePart
part_after lock count = part_at adding_machine (take count two_entries) lock

-- the names that the part of the lock lists then: core 0 is the pool's, and core 1 is the tool's until it has moved
abbrev pub names_after : ℕ → ℕ → Names
names_after lock count =
    cond (eqb lock 0) (cond (nat_lt count 2) (record { res = 1; dom = 0 }) (record { res = 3; dom = 0 }))
    (cond (eqb lock 16 && nat_lt count 2) (record { res = 2; dom = 0 }) (record { res = 0; dom = 0 }))

-- the book before the run
abbrev pub new_book : Chronicle
new_book = record { input = adding_machine; history = []; limit = 2 }
