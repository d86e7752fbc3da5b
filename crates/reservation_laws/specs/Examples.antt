-- Worked examples of reservations of one core: small machines, and what each unit has in its terms in the ordered run.
use Rattle.std.specs.Prelude.{ℕ, List, [], ◌∷◌, codes}
use Rattle.sched_base.specs.Numbers.{moment, span}
use Rattle.sched_base.specs.declared.Span.{Span}
use Rattle.sched_model.specs.declared.config.DomConfig.{DomConfig}
use Rattle.sched_model.specs.declared.machine.Machine.{Machine}
use Rattle.sched_examples.specs.Words.{endless_script, rtds_pool}
use Rattle.term_laws.specs.RtdsExamples.{domain_of}

-- an RTDS pool of one core with these domains, up to a moment
abbrev pub one_core : ℕ → List DomConfig → Machine
one_core horizon domains = record {
  config = record {
    granularity = 1;
    processors = 1;
    horizon = moment horizon;
    pools = rtds_pool (codes "Pool-0") 1 ∷ [];
    domains = domains;
  };
  work = record {
    stalls = [];
    commands = [];
  };
}

-- budgets of 4 of 10 and of 12 of 20 milliseconds, which take the whole core
unfoldable pub whole_core : Machine
whole_core = one_core 20000000 (domain_of (codes "a") 10000000 4000000 (endless_script ∷ []) ∷ domain_of (codes "b") 20000000 12000000 (endless_script ∷ []) ∷ [])

-- budgets of 4 of 10 and of 13 of 20 milliseconds, which take more
unfoldable pub overbooked : Machine
overbooked = one_core 20000000 (domain_of (codes "a") 10000000 4000000 (endless_script ∷ []) ∷ domain_of (codes "b") 20000000 13000000 (endless_script ∷ []) ∷ [])

-- budgets of 3 of 6 and of 2 of 4 milliseconds, which take the whole core; but the second guest sleeps up to 6 milliseconds
abbrev pub sleeping_guest : List Span
sleeping_guest = span 1 ∷ span 5999999 ∷ span 1000000000 ∷ span 1 ∷ []

unfoldable pub whole_core_with_sleeper : Machine
whole_core_with_sleeper = one_core 12000000 (domain_of (codes "steady") 6000000 3000000 (endless_script ∷ []) ∷ domain_of (codes "sleeper") 4000000 2000000 (sleeping_guest ∷ []) ∷ [])

-- budgets of 2 of 6 and of 2 of 4 milliseconds, and the same sleeping guest
unfoldable pub room_beside_sleeper : Machine
room_beside_sleeper = one_core 12000000 (domain_of (codes "steady") 6000000 2000000 (endless_script ∷ []) ∷ domain_of (codes "sleeper") 4000000 2000000 (sleeping_guest ∷ []) ∷ [])
