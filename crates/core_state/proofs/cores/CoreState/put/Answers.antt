use Rattle.std.proofs.Common.{◌*◌, ◌∙◌, ◌<◌, ap, arith, length, subst, sym}
use Rattle.std.specs.Prelude.{Some, true}
use Rattle.sched_model.specs.declared.state.Resource.{Resource}
use Rattle.sched_model.specs.Places.{first_place, put_at}
use Rattle.sched_model.specs.Pool.{cores_from}
use Rattle.core_state.specs.Seen.{Seen, cleared_works}
use Rattle.core_state.proofs.Arming.{few_places}
use Rattle.core_state.proofs.ChangeLemmas.{few_after, may_rearm, some_has, placed_change, placed_kept, seen_is}
use Rattle.core_state.proofs.Counting.{put_counted, room_left}
use Rattle.core_state.proofs.cores.CoreState.put.Goals as goal

pub count_out_at-requires : goal.count_out_at-requires
count_out_at-requires c = c.self.invariant.1

pub count_core_in-requires : goal.count_core_in-requires
count_core_in-requires c = λ u has.
    let less = c.count_out_at.ensures u has in
    let room = room_left c.self.inside.cores c.self.inside.counts u (few_places c.self.inside.granularity (length c.self.inside.cores) c.self.invariant.0.cores.granularity c.self.invariant.0.cores.places) c.self.invariant.1 has in
    omega (arith, less, room)

pub home_cores-self-inside-requires : goal.home_cores-self-inside-requires
home_cores-self-inside-requires c = few_after c.self.invariant.0 (placed_change c.args.r.0 (Some c.args.core) (some_has c.self.inside.granularity c.args.core (c.requires.siblings ∙ sym (ap (λ (seen : Seen). seen.granularity) c.self.view_is))) c.self.invariant.0) (c.as_slice.ensures ∙ c.set_place.ensures)

pub first_number-self-inside-requires : goal.first_number-self-inside-requires
first_number-self-inside-requires c = few_after c.self.invariant.0 (placed_change c.args.r.0 (Some c.args.core) (some_has c.self.inside.granularity c.args.core (c.requires.siblings ∙ sym (ap (λ (seen : Seen). seen.granularity) c.self.view_is))) c.self.invariant.0) (c.as_slice-2.ensures ∙ c.set_place.ensures)

pub rearm-requires : goal.rearm-requires
rearm-requires c = may_rearm c.self.invariant.0 (placed_change c.args.r.0 (Some c.args.core) (some_has c.self.inside.granularity c.args.core (c.requires.siblings ∙ sym (ap (λ (seen : Seen). seen.granularity) c.self.view_is))) c.self.invariant.0) c.set_place.ensures c.clear_works.ensures

pub invariant_of-self : goal.invariant_of-self
invariant_of-self c = (
  placed_kept c.self.invariant.0 (placed_change c.args.r.0 (Some c.args.core) (some_has c.self.inside.granularity c.args.core (c.requires.siblings ∙ sym (ap (λ (seen : Seen). seen.granularity) c.self.view_is))) c.self.invariant.0) c.set_place.ensures c.clear_works.ensures
      (c.home_cores-self-inside.ensures ∙ ap (cores_from 0) c.as_slice.ensures) (c.first_number-self-inside.ensures ∙ ap (first_place 0 (λ (x : Resource). true)) c.as_slice-2.ensures) c.rearm.ensures,
  put_counted c.args.r.0 c.args.core c.self.inside.cores c.set_place.new.places c.self.inside.counts c.count_core_in.new.counts (subst (λ (seen : Seen). c.args.r.0 < length seen.resources) (sym c.self.view_is) c.requires.place) c.set_place.ensures c.self.invariant.1
      (λ u has.
      let less = c.count_out_at.ensures u has in
      let more = c.count_core_in.ensures u has in
      omega (arith, less, more)),
)

pub returns : goal.returns
returns c =
    seen_is c.set_place.ensures c.clear_works.ensures
    ∙ ap (λ (seen : Seen). record seen { resources = put_at c.args.r.0 c.args.core seen.resources; works = cleared_works (c.args.r.0 * seen.granularity) seen.granularity seen.works }) c.self.view_is
