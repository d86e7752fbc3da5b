-- Decisions that free something: one of Credit2, of ARINC 653 and of the null scheduler. The pools have the cores 0 and 1, and core 0 decides at the moment 0.
use Rattle.std.specs.Prelude.{ℕ, Bool, List, [], ◌∷◌, Option, Some, None, pos}
use Rattle.sched_base.specs.Numbers.{core, core_set, domain, moment, span}
use Rattle.sched_base.specs.declared.Cores.{Cores}
use Rattle.sched_base.specs.declared.UnitId.{UnitId}
use Rattle.sched_base.specs.Units.{unit_id}
use Rattle.sched_model.specs.declared.ask.Ask.{Ask}
use Rattle.sched_model.specs.declared.state.Records.{Records}
use Rattle.sched_model.specs.declared.state.Records.TheVariants.{Credit2Pool, ArincPool, NullPool}
use Rattle.sched_model.specs.declared.state.Scheduler.{Scheduler}
use Rattle.sched_model.specs.Policy.{after_decision, has_better_waiting, decision_of}

abbrev pub both_cores : Cores
both_cores = core_set 3

abbrev pub asks : Option UnitId → Bool → Bool → Ask
asks cur runnable leaving = record { cur = cur; runnable = runnable; since = moment 0; leaving = leaving; at = moment 0; core = core 0; home = both_cores }

abbrev pub pool_of : List UnitId → List Cores → Records → Scheduler
pool_of queue sets records = record { queue = queue; affinity = Some sets ∷ []; records = records }

-- the answer to a core before core 0 asks, and after it decided
abbrev pub answer_before : Scheduler → Option UnitId → ℕ → Bool
answer_before s cur r = has_better_waiting cur 0 0 r 3 s

abbrev pub answer_after : Ask → Scheduler → Option UnitId → ℕ → Bool
answer_after ask s cur r = has_better_waiting cur 0 0 r 3 (after_decision (decision_of ask s) s)

-- a domain whose cap leaves it nothing but the 5 ns that its unit on core 0 holds; its other unit waits, and may have core 1 alone
abbrev pub capped : Scheduler
capped =
    pool_of (unit_id 0 1 ∷ []) (both_cores ∷ core_set 2 ∷ []) (Credit2Pool (record {
      limit = 0;
      last_reset = None;
      domains = Some (record {
        weight = 256;
        cap = 50;
        budget = pos 0;
        refill = None;
        units = record { credit = pos 100; residual = 0; held = pos 5; burned = Some 0 } ∷ record { credit = pos 100; residual = 0; held = pos 0; burned = None } ∷ [];
      }) ∷ [];
    }))

-- a unit in its window, which may have core 1 alone and is on core 0
abbrev pub framed : Scheduler
framed =
    pool_of [] (core_set 2 ∷ []) (ArincPool (record {
      frame = Some (record { major = span 10; entries = record { dom = domain 0; unit = 0; run = span 10 } ∷ [] });
      installed = 0;
    }))

-- a unit that waits for core 0, which it was given
abbrev pub given : Scheduler
given = pool_of (unit_id 0 0 ∷ []) (both_cores ∷ []) (NullPool (Some (unit_id 0 0) ∷ None ∷ []))
