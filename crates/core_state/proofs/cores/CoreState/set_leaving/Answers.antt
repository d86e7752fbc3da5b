use Rattle.std.proofs.Common.{◌∙◌, ap, refl}
use Rattle.core_state.specs.Seen.{changed_core, leaving_core}
use Rattle.core_state.proofs.ChangeLemmas.{may_rearm, core_change, changed_kept, seen_is}
use Rattle.core_state.proofs.Counting.{same_counted}
use Rattle.core_state.proofs.cores.CoreState.set_leaving.Goals as goal

pub rearm-requires : goal.rearm-requires
rearm-requires c = may_rearm c.self.invariant.0 (core_change c.args.r.0 leaving_core (λ x. refl) c.self.invariant.0) c.mark_leaving.ensures refl

pub invariant_of-self : goal.invariant_of-self
invariant_of-self c = (changed_kept c.args.r.0 leaving_core c.self.invariant.0 (core_change c.args.r.0 leaving_core (λ x. refl) c.self.invariant.0) c.mark_leaving.ensures refl c.rearm.ensures, same_counted c.args.r.0 leaving_core c.self.inside.cores _ c.self.inside.counts (λ u x. refl) c.mark_leaving.ensures c.self.invariant.1)

pub returns : goal.returns
returns c = seen_is c.mark_leaving.ensures refl ∙ ap (changed_core c.args.r.0 leaving_core) c.self.view_is
