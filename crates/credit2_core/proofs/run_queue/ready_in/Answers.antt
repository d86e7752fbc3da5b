use Rattle.std.proofs.Common.{◌≡◌, ◌∙◌, ap, ℕ}
use Rattle.std.specs.Prelude.{List, Option}
use Rattle.sched_model.specs.declared.state.Credit2Domain.{Credit2Domain}
use Rattle.arrival_queue.specs.Filters.{has_core_bit}
use Rattle.credit2_core.specs.Domains.{AreRunnable, set_of}
use Rattle.credit2_core.proofs.Tables.{set_has}
use Rattle.credit2_core.proofs.run_queue.ready_in.Goals as goal

runnable : (set : ℕ) (domains : List (Option Credit2Domain)) → set ≡ set_of domains → AreRunnable domains set
runnable set domains is = record { each = λ i. ap (λ (k : ℕ). has_core_bit k i) is ∙ set_has domains i }

pub first_ready-requires : goal.first_ready-requires
first_ready-requires c = runnable c.runnable_domains.result c.args.state.now.records.domains (c.runnable_domains.ensures.exact ∙ ap set_of c.as_slice.ensures)

pub returns : goal.returns
returns c = record {
  domains = runnable c.runnable_domains.result c.args.state.now.records.domains (c.runnable_domains.ensures.exact ∙ ap set_of c.as_slice.ensures);
  first = c.first_ready.ensures;
  most = c.max_weight.ensures;
}
