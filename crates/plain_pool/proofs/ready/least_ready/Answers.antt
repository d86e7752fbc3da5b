use Rattle.std.proofs.Common.{◌∙◌, ℕ, List, sym, ap, subst}
use Rattle.std.specs.Prelude.{Option}
use Rattle.sched_model.specs.declared.state.Domain.{Domain}
use Rattle.sched_model.specs.declared.state.Pool.{Pool}
use Rattle.sched_model.specs.declared.state.Resource.{Resource}
use Rattle.sched_model.specs.Places.{numbered_items}
use Rattle.plain_pool.specs.Ready.{IsLeastWith, IsReadyIn, least_of_cores, least_of_domains, least_of_scheduler}
use Rattle.plain_pool.proofs.ReadyLaw.{ready_least}
use Rattle.plain_pool.proofs.ready.least_ready.Goals as goal

pub returns : goal.returns
returns c g whole =
    let pool : Pool = c.args.pool.now in
    let cores = c.of_cores-cores.ensures ∙ ap (λ (xs : List (Option Resource)). least_of_cores pool c.args.best (numbered_items 0 xs)) c.as_slice.ensures in
    let domains = c.of_domains-domains.ensures ∙ ap (λ (xs : List (Option Domain)). least_of_domains pool c.of_cores-cores.result (numbered_items 0 xs)) c.as_slice-2.ensures
    ∙ ap (λ (n : ℕ). least_of_domains pool n (numbered_items 0 pool.domains)) cores in
    subst (λ (n : ℕ). IsLeastWith c.args.best (IsReadyIn g pool) n) (sym (c.of_scheduler.ensures ∙ ap (least_of_scheduler pool) domains)) (ready_least g pool c.args.best whole)
