use Rattle.std.proofs.Common.{◌∙◌, ◌≤◌, ◌*◌, ℕ, List, ap, sym, subst, length, arith}
use Rattle.std.specs.Prelude.{Option, ◌||◌}
use Rattle.std.specs.List.{list_any}
use Rattle.sched_model.specs.declared.state.Resource.{Resource}
use Rattle.sched_model.specs.Places.{is_unit, numbered_items}
use Rattle.core_state.specs.Seen.{Seen}
use Rattle.core_state.proofs.Arming.{few_places}
use Rattle.core_state.proofs.Counting.{on_by_count}
use Rattle.core_state.proofs.cores.CoreState.has_unit.Goals as goal

pub is_on_core-requires : goal.is_on_core-requires
is_on_core-requires c =
    let few : length c.as_slice.result.now ≤ 64 = few_places c.self.inside.granularity (length c.as_slice.result.now) c.self.invariant.0.cores.granularity
    (subst (λ (xs : List (Option Resource)). length xs * c.self.inside.granularity ≤ 64) (sym c.as_slice.ensures) c.self.invariant.0.cores.places) in
    omega (arith, few)

pub returns-in-None : goal.returns-in-None
returns-in-None c =
    c.is_on_core.ensures
    ∙ ap (λ (xs : List (Option Resource)). list_any (λ (e : ℕ × Resource). is_unit e.1.cur c.args.u || is_unit e.1.saving c.args.u) (numbered_items 0 xs)) c.as_slice.ensures
    ∙ ap (λ (seen : Seen). list_any (λ (e : ℕ × Resource). is_unit e.1.cur c.args.u || is_unit e.1.saving c.args.u) (numbered_items 0 seen.resources)) c.self.view_is

pub returns-in-Some : goal.returns-in-Some
returns-in-Some c =
    on_by_count c.self.inside.cores c.self.inside.counts c.args.u c.in-Some.count c.self.invariant.1 (sym c.of.ensures ∙ c.in-Some.is)
    ∙ ap (λ (seen : Seen). list_any (λ (e : ℕ × Resource). is_unit e.1.cur c.args.u || is_unit e.1.saving c.args.u) (numbered_items 0 seen.resources)) c.self.view_is
