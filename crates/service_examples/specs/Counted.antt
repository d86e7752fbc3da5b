-- Two small machines, and what the laws of service count in their ordered runs.
use Rattle.std.specs.Prelude.{ℕ, Bool, List, [], ◌∷◌, Some, codes}
use Rattle.std.specs.List.{filter_map}
use Rattle.sched_base.specs.Numbers.{moment, span}
use Rattle.sched_base.specs.declared.UnitId.{UnitId}
use Rattle.sched_model.specs.declared.event.Entry.{Entry}
use Rattle.sched_model.specs.declared.machine.Machine.{Machine}
use Rattle.sched_model.specs.declared.state.State.{State}
use Rattle.sched_model.specs.Runs.{run_start}
use Rattle.sched_examples.specs.Words.{arinc_domain, arinc_pool, credit2_domain, credit2_pool, endless_script, frame, null_domain, null_pool, run_of, stall, window}
use Rattle.term_laws.specs.Term.{late_of}
use Rattle.service_laws.specs.Service.{fails, has_unit, is_given_in, is_window_of, may_be_used, may_run_in, time_of}

-- two windows of 4 and 2 of each 10 nanoseconds; the second guest runs 1 and sleeps 8; the processor stalls from 12 to 17
unfoldable pub two_windows : Machine
two_windows = record {
  config = record {
    granularity = 1;
    processors = 1;
    horizon = moment 30;
    pools = arinc_pool (codes "Pool-0") 1 (Some (frame 10 (window 0 0 4 ∷ window 1 0 2 ∷ []))) ∷ [];
    domains = arinc_domain (codes "a") 0 (endless_script ∷ []) ∷ arinc_domain (codes "b") 0 ((span 1 ∷ span 8 ∷ []) ∷ []) ∷ [];
  };
  work = record {
    stalls = stall 12 0 5 ∷ [];
    commands = [];
  };
}

-- one core for two guests; the first runs 2 and sleeps 3; the processor stalls from 6 to 9
unfoldable pub a_core_given : Machine
a_core_given = record {
  config = record {
    granularity = 1;
    processors = 1;
    horizon = moment 10;
    pools = null_pool (codes "Pool-0") 1 ∷ [];
    domains = null_domain (codes "a") 0 ((span 2 ∷ span 3 ∷ []) ∷ []) ∷ null_domain (codes "b") 0 (endless_script ∷ []) ∷ [];
  };
  work = record {
    stalls = stall 6 0 3 ∷ [];
    commands = [];
  };
}

-- one core for two equal guests that always run; what happens at 1 and at 20 nanoseconds is in another pool
unfoldable pub a_core_shared : Machine
a_core_shared = record {
  config = record {
    granularity = 1;
    processors = 2;
    horizon = moment 20;
    pools = credit2_pool (codes "Pool-0") 1 1000 ∷ null_pool (codes "other") 2 ∷ [];
    domains =
        credit2_domain (codes "a") 0 256 0 (endless_script ∷ []) ∷
        credit2_domain (codes "b") 0 256 0 (endless_script ∷ []) ∷
        null_domain (codes "c") 1 ((span 1 ∷ span 19 ∷ []) ∷ []) ∷
        [];
  };
  work = record {
    stalls = [];
    commands = [];
  };
}

-- for how many nanoseconds a unit had a claim to the core, had it, was not to run, and the core could not be used
pub record Service : Type 0 where
  pub claimed : ℕ
  pub had : ℕ
  pub not_to_run : ℕ
  pub not_usable : ℕ

abbrev pub service : ℕ → ℕ → ℕ → ℕ → Service
service claimed had not_to_run not_usable = record { claimed = claimed; had = had; not_to_run = not_to_run; not_usable = not_usable }

-- the same of the core 0 of the pool 0, in the ordered run
abbrev pub service_of : Machine → (State → Bool) → UnitId → Service
service_of m claim u =
    service (time_of m claim (run_start m) (run_of m)) (time_of m (has_unit 0 0 u) (run_start m) (run_of m)) (time_of m (fails (may_run_in m.config.granularity 0 u)) (run_start m) (run_of m))
    (time_of m (fails (may_be_used 0 0)) (run_start m) (run_of m))

-- where its windows are its claim, and where the core that it was given is
abbrev pub window_service : Machine → UnitId → Service
window_service m u = service_of m (is_window_of 0 u) u

abbrev pub given_service : Machine → UnitId → Service
given_service m u = service_of m (is_given_in 0 0 u) u

-- for how many nanoseconds the unit had the core
abbrev pub time_on_core : Machine → UnitId → ℕ
time_on_core m u = time_of m (has_unit 0 0 u) (run_start m) (run_of m)

-- the printed latenesses of the core 0, in the order of its decisions
abbrev pub lates : Machine → List ℕ
lates m = filter_map (λ (e : Entry). late_of 0 e.event) (run_of m)
