use Rattle.std.proofs.Common.{◌*◌, ◌∙◌, ap}
use Rattle.std.specs.Prelude.{None, true}
use Rattle.sched_model.specs.declared.state.Resource.{Resource}
use Rattle.sched_model.specs.Places.{at_place, clear_at, first_place}
use Rattle.sched_model.specs.Pool.{cores_from}
use Rattle.core_state.specs.Seen.{Seen, cleared_works}
use Rattle.core_state.proofs.ChangeLemmas.{few_after, may_rearm, none_has, placed_change, placed_kept, seen_is}
use Rattle.core_state.proofs.Counting.{taken_counted}
use Rattle.core_state.proofs.cores.CoreState.take.Goals as goal

pub count_out_at-requires : goal.count_out_at-requires
count_out_at-requires c = c.self.invariant.1

pub home_cores-self-inside-requires : goal.home_cores-self-inside-requires
home_cores-self-inside-requires c = few_after c.self.invariant.0 (placed_change c.args.r.0 None (none_has c.self.inside.granularity) c.self.invariant.0) (c.as_slice.ensures ∙ c.take_item-core.ensures.places)

pub first_number-self-inside-requires : goal.first_number-self-inside-requires
first_number-self-inside-requires c = few_after c.self.invariant.0 (placed_change c.args.r.0 None (none_has c.self.inside.granularity) c.self.invariant.0) (c.as_slice-2.ensures ∙ c.take_item-core.ensures.places)

pub rearm-requires : goal.rearm-requires
rearm-requires c = may_rearm c.self.invariant.0 (placed_change c.args.r.0 None (none_has c.self.inside.granularity) c.self.invariant.0) c.take_item-core.ensures.places c.clear_works.ensures

pub invariant_of-self : goal.invariant_of-self
invariant_of-self c = (
  placed_kept c.self.invariant.0 (placed_change c.args.r.0 None (none_has c.self.inside.granularity) c.self.invariant.0) c.take_item-core.ensures.places c.clear_works.ensures
      (c.home_cores-self-inside.ensures ∙ ap (cores_from 0) c.as_slice.ensures) (c.first_number-self-inside.ensures ∙ ap (first_place 0 (λ (x : Resource). true)) c.as_slice-2.ensures) c.rearm.ensures,
  taken_counted c.args.r.0 c.self.inside.cores c.take_item-core.new.places c.self.inside.counts c.count_out_at.new.counts c.take_item-core.ensures.places c.self.invariant.1 (λ u has. c.count_out_at.ensures u has),
)

pub returns-clause-core : goal.returns-clause-core
returns-clause-core c = c.take_item-core.ensures.item ∙ ap (λ (seen : Seen). at_place seen.resources c.args.r.0) c.self.view_is

pub returns-clause-after : goal.returns-clause-after
returns-clause-after c =
    seen_is c.take_item-core.ensures.places c.clear_works.ensures
    ∙ ap (λ (seen : Seen). record seen { resources = clear_at c.args.r.0 seen.resources; works = cleared_works (c.args.r.0 * seen.granularity) seen.granularity seen.works }) c.self.view_is
