-- Worked examples of terms: small machines, and the terms and legs of a unit in the ordered run of each.
use Rattle.std.specs.Prelude.{ℕ, List, [], ◌∷◌, None, Some, Ok, false, map, codes}
use Rattle.sched_base.specs.Numbers.{moment, span}
use Rattle.sched_base.specs.declared.UnitId.{UnitId}
use Rattle.sched_base.specs.Units.{unit_id}
use Rattle.sched_base.specs.declared.Span.{Span}
use Rattle.sched_model.specs.declared.config.DomConfig.{DomConfig}
use Rattle.sched_model.specs.declared.command.Command.TheVariants as command
use Rattle.sched_model.specs.declared.command.Which.TheVariants as which
use Rattle.sched_model.specs.declared.machine.Machine.{Machine}
use Rattle.sched_examples.specs.Words.{endless_script, rtds_domain, rtds_pool, run_of, stall, xl}
use Rattle.sched_laws.specs.StateLaws.{state_after}
use Rattle.term_laws.specs.Term.{Leg, time_on, late_within}
use Rattle.term_laws.specs.RtdsTerm.{RtdsTerm, legs, terms}

-- the only unit of the domain d
abbrev pub unit : ℕ → UnitId
unit d = unit_id d 0

-- a term, the time for which the unit is on a core within it, and what was late
pub record TermSums : Type 0 where
  pub from : ℕ
  pub until : ℕ
  pub budget : ℕ
  pub delay : ℕ
  pub time_on : ℕ
  pub late : ℕ

abbrev pub term : ℕ → ℕ → ℕ → ℕ → ℕ → ℕ → TermSums
term from until budget delay time_on late = record { from = from; until = until; budget = budget; delay = delay; time_on = time_on; late = late }

abbrev pub leg : ℕ → ℕ → ℕ → Leg
leg from until late = record { from = from; until = until; late = late }

-- the unit's legs in the ordered run; its terms there, with their sums
abbrev pub legs_of : Machine → UnitId → List Leg
legs_of m u = legs (state_after m (run_of m)) u (run_of m)

abbrev pub terms_of : Machine → UnitId → List TermSums
terms_of m u = map (λ (t : RtdsTerm). term t.term.from t.term.until t.term.budget t.delay (time_on t.term (legs_of m u)) (late_within t.term (legs_of m u))) (terms m u (run_of m))

-- a domain of the first pool, an RTDS pool, without extra time
abbrev pub domain_of : List ℕ → ℕ → ℕ → List (List Span) → DomConfig
domain_of name period budget guests = rtds_domain name 0 period budget false guests

-- two units with budgets of 4 of 10 and 5 of 20 milliseconds
unfoldable pub two_units : Machine
two_units = record {
  config = record {
    granularity = 1;
    processors = 1;
    horizon = moment 20000000;
    pools = rtds_pool (codes "Pool-0") 1 ∷ [];
    domains =
        domain_of (codes "a") 10000000 4000000 (endless_script ∷ []) ∷
        domain_of (codes "b") 20000000 5000000 (endless_script ∷ []) ∷
        [];
  };
  work = record {
    stalls = [];
    commands = [];
  };
}

-- two units, and the processor stalls over the end of a budget
unfoldable pub stall_past_the_due : Machine
stall_past_the_due = record {
  config = record {
    granularity = 1;
    processors = 1;
    horizon = moment 5000000;
    pools = rtds_pool (codes "Pool-0") 1 ∷ [];
    domains =
        domain_of (codes "a") 10000000 4000000 (endless_script ∷ []) ∷
        domain_of (codes "b") 20000000 5000000 (endless_script ∷ []) ∷
        [];
  };
  work = record {
    stalls = stall 3000000 0 2000000 ∷ [];
    commands = [];
  };
}

-- a unit whose pool stalls for three periods
unfoldable pub late_replenishment : Machine
late_replenishment = record {
  config = record {
    granularity = 1;
    processors = 1;
    horizon = moment 35000000;
    pools = rtds_pool (codes "Pool-0") 1 ∷ [];
    domains = domain_of (codes "a") 10000000 4000000 (endless_script ∷ []) ∷ [];
  };
  work = record {
    stalls = stall 5000000 0 30000000 ∷ [];
    commands = [];
  };
}

-- a unit, and a command that sets its budget
unfoldable pub new_budget : Machine
new_budget = record {
  config = record {
    granularity = 1;
    processors = 1;
    horizon = moment 10000000;
    pools = rtds_pool (codes "Pool-0") 1 ∷ [];
    domains = domain_of (codes "a") 10000000 4000000 (endless_script ∷ []) ∷ [];
  };
  work = record {
    stalls = [];
    commands = xl 2000000 (Ok (command.RtdsDom (which.Name (codes "a")) None None (Some 1000) None)) ∷ [];
  };
}

-- a unit that runs over its deadline, and a command that sets its budget
unfoldable pub new_budget_while_running : Machine
new_budget_while_running = record {
  config = record {
    granularity = 1;
    processors = 1;
    horizon = moment 11000000;
    pools = rtds_pool (codes "Pool-0") 1 ∷ [];
    domains =
        domain_of (codes "a") 10000000 4000000 ((span 1000000 ∷ span 7000000 ∷ span 9000000 ∷ span 1000000 ∷ []) ∷ []) ∷
        [];
  };
  work = record {
    stalls = [];
    commands = xl 9000000 (Ok (command.RtdsDom (which.Name (codes "a")) None None (Some 500) None)) ∷ [];
  };
}
