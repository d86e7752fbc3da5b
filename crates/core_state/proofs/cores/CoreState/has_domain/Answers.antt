use Rattle.std.proofs.Common.{◌∙◌, ◌≤◌, ◌*◌, ℕ, List, ap, sym, subst, length, arith}
use Rattle.std.specs.Prelude.{Option, ◌||◌}
use Rattle.std.specs.List.{list_any}
use Rattle.sched_model.specs.declared.state.Resource.{Resource}
use Rattle.sched_model.specs.Places.{numbered_items}
use Rattle.sched_model.specs.Pool.{is_domain_unit}
use Rattle.core_state.specs.Seen.{Seen}
use Rattle.core_state.proofs.Arming.{few_places}
use Rattle.core_state.proofs.cores.CoreState.has_domain.Goals as goal

pub has_domain-requires : goal.has_domain-requires
has_domain-requires c =
    let few : length c.as_slice.result.now ≤ 64 = few_places c.self.inside.granularity (length c.as_slice.result.now) c.self.invariant.0.cores.granularity
    (subst (λ (xs : List (Option Resource)). length xs * c.self.inside.granularity ≤ 64) (sym c.as_slice.ensures) c.self.invariant.0.cores.places) in
    omega (arith, few)

pub returns : goal.returns
returns c =
    c.has_domain.ensures
    ∙ ap (λ (xs : List (Option Resource)). list_any (λ (e : ℕ × Resource). is_domain_unit c.args.d.0 e.1.cur || is_domain_unit c.args.d.0 e.1.saving) (numbered_items 0 xs)) c.as_slice.ensures
    ∙ ap (λ (seen : Seen). list_any (λ (e : ℕ × Resource). is_domain_unit c.args.d.0 e.1.cur || is_domain_unit c.args.d.0 e.1.saving) (numbered_items 0 seen.resources)) c.self.view_is
