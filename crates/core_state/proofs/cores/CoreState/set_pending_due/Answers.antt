use Rattle.std.proofs.Common.{◌∙◌, ap, refl}
use Rattle.core_state.specs.Seen.{changed_core, pending_by}
use Rattle.core_state.proofs.ChangeLemmas.{may_rearm, core_change, changed_kept, seen_is}
use Rattle.core_state.proofs.Counting.{same_counted}
use Rattle.core_state.proofs.cores.CoreState.set_pending_due.Goals as goal

pub rearm-requires : goal.rearm-requires
rearm-requires c = may_rearm c.self.invariant.0 (core_change c.args.r.0 (pending_by c.args.due) (λ x. refl) c.self.invariant.0) c.set_pending_by.ensures refl

pub invariant_of-self : goal.invariant_of-self
invariant_of-self c = (changed_kept c.args.r.0 (pending_by c.args.due) c.self.invariant.0 (core_change c.args.r.0 (pending_by c.args.due) (λ x. refl) c.self.invariant.0) c.set_pending_by.ensures refl c.rearm.ensures, same_counted c.args.r.0 (pending_by c.args.due) c.self.inside.cores _ c.self.inside.counts (λ u x. refl) c.set_pending_by.ensures c.self.invariant.1)

pub returns : goal.returns
returns c = seen_is c.set_pending_by.ensures refl ∙ ap (changed_core c.args.r.0 (pending_by c.args.due)) c.self.view_is
