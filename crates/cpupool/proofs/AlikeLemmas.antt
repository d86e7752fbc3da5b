-- Pools that have the same scheduler, cores and domains.
use Rattle.sched_base.specs.Numbers.{domain as domain_number}
use Rattle.std.proofs.Common.{◌≡◌, ℕ, Bool, true, false, List, [], ◌∷◌, refl, ◌∙◌, cond}
use Rattle.std.specs.Prelude.{◌&&◌}
use Rattle.sched_model.specs.declared.state.Pool.{Pool}
use Rattle.sched_model.specs.State.{may_unit_run}
use Rattle.sched_model.specs.Policy.{records_kind}
use Rattle.sched_model.specs.Pool.{pool_with_queued_units, pool_with_queued_if_off, is_unit_off, queue_unit}

-- the pools have the same scheduler, cores and domains
pub record IsAlike (p q : Pool) : Type 0 where
  pub kind : records_kind p.scheduler.records ≡ records_kind q.scheduler.records
  pub resources : p.resources ≡ q.resources
  pub domains : p.domains ≡ q.domains

pub alike : (p : Pool) → IsAlike p p
alike p = record { kind = refl; resources = refl; domains = refl }

pub chained : (p q r : Pool) → IsAlike p q → IsAlike q r → IsAlike p r
chained p q r first next = record { kind = first.kind ∙ next.kind; resources = first.resources ∙ next.resources; domains = first.domains ∙ next.domains }

pub queued_alike : (g : ℕ) (d : ℕ) (ns : List ℕ) (pool : Pool) → IsAlike (pool_with_queued_units g d ns pool) pool
queued_alike g d [] pool = alike pool
queued_alike g d (n ∷ ns) pool =
    let next : Pool = pool_with_queued_if_off g (record { dom = domain_number d; n = n }) pool in
    chained (pool_with_queued_units g d ns next) next pool (queued_alike g d ns next) (one (may_unit_run g pool (record { dom = domain_number d; n = n })) (is_unit_off pool (record { dom = domain_number d; n = n })))
  where
    one : (runnable off : Bool) → IsAlike (cond (runnable && off) (queue_unit (record { dom = domain_number d; n = n }) pool) pool) pool
    one true true = record { kind = refl; resources = refl; domains = refl }
    one true false = alike pool
    one false off = alike pool
