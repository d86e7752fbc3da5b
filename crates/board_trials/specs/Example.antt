-- A small input: one core of no pool, no domain, and a stall of 2 nanoseconds at 3.
use Rattle.std.specs.Prelude.{[], ◌∷◌}
use Rattle.sched_base.specs.Numbers.{moment, span, processor}
use Rattle.sched_model.specs.declared.machine.Machine.{Machine}
use Rattle.journal_core.specs.Books.{Chronicle}

abbrev pub stalling_machine : Machine
stalling_machine =
    record {
      config = record { granularity = 1; processors = 1; horizon = moment 9; pools = []; domains = [] };
      work = record { stalls = record { at = moment 3; cpu = processor 0; span = span 2 } ∷ []; commands = [] };
    }

-- its book with no entry yet, and room for three
abbrev pub stalling_book : Chronicle
stalling_book = record { input = stalling_machine; history = []; limit = 3 }
