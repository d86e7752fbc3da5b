use Rattle.std.proofs.Common.{◌≡◌, ◌∙◌, ◌≤◌, ◌*◌, List, ap, sym, subst, length}
use Rattle.std.specs.Prelude.{Option, Some}
use Rattle.sched_model.specs.declared.state.Resource.{Resource}
use Rattle.sched_model.specs.Places.{first_place, is_unit}
use Rattle.core_state.specs.Seen.{Seen}
use Rattle.core_state.proofs.Arming.{few_places}
use Rattle.core_state.proofs.Counting.{none_by_count}
use Rattle.core_state.proofs.cores.CoreState.core_with.Goals as goal

pub number_with-requires : goal.number_with-requires
number_with-requires c =
    few_places c.self.inside.granularity (length c.as_slice.result.now) c.self.invariant.0.cores.granularity
    (subst (λ (xs : List (Option Resource)). length xs * c.self.inside.granularity ≤ 64) (sym c.as_slice.ensures) c.self.invariant.0.cores.places)

pub returns-in_default : goal.returns-in_default
returns-in_default c =
    c.number_with.ensures
    ∙ ap (first_place 0 (λ (x : Resource). is_unit x.cur c.args.u)) c.as_slice.ensures
    ∙ ap (λ (seen : Seen). first_place 0 (λ (x : Resource). is_unit x.cur c.args.u) seen.resources) c.self.view_is

pub returns-in-Some-eq0 : goal.returns-in-Some-eq0
returns-in-Some-eq0 c =
    let none : c.in-Some-eq0.field-0 ≡ 0 = (let h = c.in-Some-eq0.field-0-is in cc) in
    sym (none_by_count c.self.inside.cores c.self.inside.counts c.args.u c.self.invariant.1 (sym c.of.ensures ∙ c.in-Some-eq0.is ∙ ap Some none))
    ∙ ap (λ (seen : Seen). first_place 0 (λ (x : Resource). is_unit x.cur c.args.u) seen.resources) c.self.view_is
