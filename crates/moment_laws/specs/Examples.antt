-- Worked examples of stretches and moments: small machines, and the stretches and moments of the ordered run of each.
use Rattle.std.specs.Prelude.{ℕ, suc, ◌==◌, true, false, List, [], ◌∷◌, None, Some, Ok, codes, filter, length, replicate}
use Rattle.sched_base.specs.Numbers.{moment, span, domain as domain_number, pool as pool_number}
use Rattle.sched_model.specs.declared.config.SchedKind.TheVariants as kinds
use Rattle.sched_model.specs.declared.config.PoolParams.TheVariants as pool_params
use Rattle.sched_model.specs.declared.config.DomParams.TheVariants as dom_params
use Rattle.sched_model.specs.declared.command.Command.TheVariants as command
use Rattle.sched_model.specs.declared.command.Which.TheVariants as which
use Rattle.sched_model.specs.declared.event.Entry.{Entry}
use Rattle.sched_model.specs.declared.machine.Machine.{Machine}
use Rattle.sched_examples.specs.Words.{endless_script, run_of, stall, xl}
use Rattle.moment_laws.specs.Stretches.{Legs, cores, legs_with, is_in_stretch}
use Rattle.moment_laws.specs.Moments.{causes, lines, whole_moments}

-- a number that is not 0, before others
abbrev pub with_count : ℕ → List ℕ → List ℕ
with_count n ns = elim (n == 0) [ true ↦ ns | false ↦ n ∷ ns ]

-- the lengths of the stretches in the entries, where these legs are open before them and the stretch that goes on has n entries
abbrev pub stretch_lengths : Legs → ℕ → List Entry → List ℕ
stretch_lengths legs n [] = with_count n []
stretch_lengths legs n (entry ∷ entries) =
    elim (is_in_stretch entry.at.0 legs entry.event) [
      | true ↦ stretch_lengths (legs_with entry.at.0 entry.event legs) (suc n) entries
      | false ↦ with_count n (stretch_lengths (legs_with entry.at.0 entry.event legs) 0 entries)
    ]

-- the lengths of the stretches of the ordered run
abbrev pub stretches_of : Machine → List ℕ
stretches_of m = stretch_lengths (replicate (cores m) None) 0 (run_of m)

-- the entries of the moment in the ordered run
abbrev pub moment_of : Machine → ℕ → List Entry
moment_of m t = filter (λ (e : Entry). e.at.0 == t) (run_of m)

-- a moment: how many entries it has, how many of them are causes, and how many are lines of the workload
pub record MomentSums : Type 0 where
  pub entries : ℕ
  pub causes : ℕ
  pub lines : ℕ

abbrev pub sums : ℕ → ℕ → ℕ → MomentSums
sums entries causes lines = record { entries = entries; causes = causes; lines = lines }

abbrev pub sums_at : Machine → ℕ → MomentSums
sums_at m t = sums (length (moment_of m t)) (causes (moment_of m t)) (lines (moment_of m t))

-- a whole run: how many entries it has, how many of them are causes, and how many moments it goes through
pub record RunSums : Type 0 where
  pub entries : ℕ
  pub causes : ℕ
  pub moments : ℕ

abbrev pub run_sums : ℕ → ℕ → ℕ → RunSums
run_sums entries causes moments = record { entries = entries; causes = causes; moments = moments }

abbrev pub sums_of : Machine → RunSums
sums_of m = run_sums (length (run_of m)) (causes (run_of m)) (whole_moments (run_of m))

-- a core with two windows
unfoldable pub two_windows : Machine
two_windows = record {
  config = record {
    granularity = 1;
    processors = 1;
    horizon = moment 20000000;
    pools =
        record {
          name = codes "Pool-0";
          kind = kinds.Arinc653;
          cores = 1;
          params = pool_params.Arinc653 (Some (record {
            major = span 10000000;
            entries = record { dom = domain_number 0; unit = 0; run = span 4000000 } ∷ record { dom = domain_number 1; unit = 0; run = span 3000000 } ∷ [];
          }));
        } ∷
        [];
    domains =
        record { name = codes "a"; home = pool_number 0; guests = endless_script ∷ []; params = dom_params.Arinc653; pins = [] } ∷
        record { name = codes "b"; home = pool_number 0; guests = endless_script ∷ []; params = dom_params.Arinc653; pins = [] } ∷
        [];
  };
  work = record {
    stalls = [];
    commands = [];
  };
}

-- two cores of two processors, a domain with a cap, and a command that sets it
unfoldable pub cap_set : Machine
cap_set = record {
  config = record {
    granularity = 2;
    processors = 4;
    horizon = moment 3000000;
    pools = record { name = codes "Pool-0"; kind = kinds.Credit2; cores = 3; params = pool_params.Credit2 1000 } ∷ [];
    domains =
        record { name = codes "a"; home = pool_number 0; guests = endless_script ∷ (span 1000000 ∷ span 1000000 ∷ []) ∷ []; params = dom_params.Credit2 256 0; pins = [] } ∷
        record { name = codes "b"; home = pool_number 0; guests = (span 1000000 ∷ span 2000000 ∷ []) ∷ []; params = dom_params.Credit2 256 50; pins = [] } ∷
        [];
  };
  work = record {
    stalls = [];
    commands = xl 1000000 (Ok (command.Credit2Dom (which.Name (codes "b")) None (Some 20))) ∷ [];
  };
}

-- two cores of an RTDS pool, and a stall
unfoldable pub budgets : Machine
budgets = record {
  config = record {
    granularity = 1;
    processors = 2;
    horizon = moment 5000000;
    pools = record { name = codes "Pool-0"; kind = kinds.Rtds; cores = 3; params = pool_params.Rtds } ∷ [];
    domains =
        record { name = codes "a"; home = pool_number 0; guests = endless_script ∷ []; params = dom_params.Rtds (span 10000000) (span 4000000) false; pins = [] } ∷
        record {
          name = codes "b";
          home = pool_number 0;
          guests = (span 1000000 ∷ span 1000000 ∷ []) ∷ (span 2000000 ∷ span 1000000 ∷ []) ∷ [];
          params = dom_params.Rtds (span 20000000) (span 5000000) false;
          pins = [];
        } ∷
        [];
  };
  work = record {
    stalls = stall 3000000 0 1000000 ∷ [];
    commands = [];
  };
}
