-- Worked examples of terms of caps: small machines, and the terms and legs of a domain in the ordered run of each.
use Rattle.std.specs.Prelude.{ℕ, Bool, List, [], ◌∷◌, None, Some, Ok, codes, map}
use Rattle.sched_base.specs.Numbers.{moment, span, pool as pool_number}
use Rattle.sched_base.specs.declared.Span.{Span}
use Rattle.sched_model.specs.declared.config.PoolConfig.{PoolConfig}
use Rattle.sched_model.specs.declared.config.DomConfig.{DomConfig}
use Rattle.sched_model.specs.declared.config.SchedKind.TheVariants as kinds
use Rattle.sched_model.specs.declared.config.PoolParams.TheVariants as pool_params
use Rattle.sched_model.specs.declared.config.DomParams.TheVariants as dom_params
use Rattle.sched_model.specs.declared.command.Command.TheVariants as command
use Rattle.sched_model.specs.declared.command.Which.TheVariants as which
use Rattle.sched_model.specs.declared.machine.Machine.{Machine}
use Rattle.sched_laws.specs.StateLaws.{state_after}
use Rattle.term_laws.specs.Term.{Leg, time_on, late_within}
use Rattle.sched_examples.specs.Words.{endless_script, stall, xl, run_of}
use Rattle.term_laws.specs.CapTerm.{CapTerm, PlacedLeg, domain_legs, settings, cap_terms, spans, is_undisturbed}

-- a term, the time for which the domain's units are on cores within it, what was late, and whether the law speaks of the term
pub record CapSums : Type 0 where
  pub from : ℕ
  pub until : ℕ
  pub budget : ℕ
  pub time_on : ℕ
  pub late : ℕ
  pub spoken : Bool

abbrev pub term : ℕ → ℕ → ℕ → ℕ → ℕ → Bool → CapSums
term from until budget time_on late spoken = record { from = from; until = until; budget = budget; time_on = time_on; late = late; spoken = spoken }

-- the domain's legs in the ordered run
abbrev pub legs_of : Machine → ℕ → List PlacedLeg
legs_of m d = domain_legs (state_after m (run_of m)) d 0 (run_of m)

-- the spans of the legs, and what was late of each
abbrev pub spans_of : Machine → ℕ → List Leg
spans_of m d = spans (legs_of m d)

-- its terms there, with their sums
abbrev pub terms_of : Machine → ℕ → List CapSums
terms_of m d =
    let placed = legs_of m d in
    let set = settings m d 0 (run_of m) in
    map (λ (t : CapTerm). term t.term.from t.term.until t.term.budget (time_on t.term (spans placed)) (late_within t.term (spans placed)) (is_undisturbed set placed t)) (cap_terms m (state_after m (run_of m)) d (run_of m))

-- a Credit2 pool with a set of cores; a domain of it with a cap, which is 0 for none
abbrev pub credit2_pool : List ℕ → ℕ → PoolConfig
credit2_pool name cores = record { name = name; kind = kinds.Credit2; cores = cores; params = pool_params.Credit2 1000 }

abbrev pub credit2_domain : List ℕ → ℕ → List (List Span) → DomConfig
credit2_domain name limit guests = record { name = name; home = pool_number 0; guests = guests; params = dom_params.Credit2 256 limit; pins = [] }

-- two units that share a cap of a quarter of a processor
unfoldable pub shared_cap : Machine
shared_cap = record {
  config = record {
    granularity = 1;
    processors = 2;
    horizon = moment 10000000;
    pools = credit2_pool (codes "Pool-0") 3 ∷ [];
    domains = credit2_domain (codes "a") 25 (endless_script ∷ endless_script ∷ []) ∷ [];
  };
  work = record {
    stalls = [];
    commands = [];
  };
}

-- two units that sleep for a while; one of them runs, and holds a part of the budget, when that is refilled
unfoldable pub refill_while_running : Machine
refill_while_running = record {
  config = record {
    granularity = 1;
    processors = 2;
    horizon = moment 20000000;
    pools = credit2_pool (codes "Pool-0") 3 ∷ [];
    domains =
        credit2_domain (codes "a") 100 ((span 3000000 ∷ span 5000000 ∷ span 20000000 ∷ span 1000000 ∷ []) ∷ (span 1000000 ∷ span 7000000 ∷ span 20000000 ∷ span 1000000 ∷ []) ∷ []) ∷
        [];
  };
  work = record {
    stalls = [];
    commands = [];
  };
}

-- a unit with a cap, and the processor stalls over the end of its budget
unfoldable pub stall_past_the_budget : Machine
stall_past_the_budget = record {
  config = record {
    granularity = 1;
    processors = 1;
    horizon = moment 10000000;
    pools = credit2_pool (codes "Pool-0") 1 ∷ [];
    domains = credit2_domain (codes "a") 25 (endless_script ∷ []) ∷ [];
  };
  work = record {
    stalls = stall 1000000 0 3000000 ∷ [];
    commands = [];
  };
}

-- a unit that overruns its budget, and then its cap is set, before the processor that stalls decides
unfoldable pub set_after_overrun : Machine
set_after_overrun = record {
  config = record {
    granularity = 1;
    processors = 1;
    horizon = moment 10000000;
    pools = credit2_pool (codes "Pool-0") 1 ∷ [];
    domains = credit2_domain (codes "a") 33 (endless_script ∷ []) ∷ [];
  };
  work = record {
    stalls = stall 100000 0 9900000 ∷ [];
    commands = xl 10000000 (Ok (command.Credit2Dom (which.Name (codes "a")) None (Some 33))) ∷ [];
  };
}

-- the same on the second of two processors: there the budget is refilled before the cap is set
unfoldable pub set_after_refill : Machine
set_after_refill = record {
  config = record {
    granularity = 1;
    processors = 2;
    horizon = moment 20000000;
    pools = credit2_pool (codes "Pool-0") 3 ∷ [];
    domains =
        credit2_domain (codes "b") 0 (endless_script ∷ []) ∷
        credit2_domain (codes "a") 33 (endless_script ∷ []) ∷
        [];
  };
  work = record {
    stalls = stall 100000 1 19900000 ∷ [];
    commands = xl 20000000 (Ok (command.Credit2Dom (which.Name (codes "a")) None (Some 33))) ∷ [];
  };
}

-- a domain with a cap that moves to another pool, where it has none
unfoldable pub moved_domain : Machine
moved_domain = record {
  config = record {
    granularity = 1;
    processors = 2;
    horizon = moment 12000000;
    pools = credit2_pool (codes "Pool-0") 1 ∷ credit2_pool (codes "other") 2 ∷ [];
    domains = credit2_domain (codes "a") 25 (endless_script ∷ []) ∷ [];
  };
  work = record {
    stalls = [];
    commands = xl 1000000 (Ok (command.Migrate (which.Name (codes "a")) (which.Name (codes "other")))) ∷ [];
  };
}
