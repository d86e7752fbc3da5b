use Rattle.std.proofs.Common.{◌∙◌, ◌≡◌, ◌+◌, ℕ, List, sym, ap, subst, true}
use Rattle.std.specs.Prelude.{Option}
use Rattle.std.specs.Option.{option_copied}
use Rattle.sched_base.specs.declared.UnitId.{UnitId}
use Rattle.sched_model.specs.declared.state.Resource.{Resource}
use Rattle.sched_model.specs.Places.{at_place}
use Rattle.sched_laws.specs.Counts.{over}
use Rattle.sched_laws.specs.PoolFacts.{core_places}
use Rattle.unit_places.specs.Places.{has_unit_place}
use Rattle.core_state.specs.Counts.{count_of}
use Rattle.core_state.proofs.Counting.{own_counted}
use Rattle.core_state.proofs.counts.count_out_at.Goals as goal

pub count_core_out-requires : goal.count_core_out-requires
count_core_out-requires c = λ u has.
    own_counted c.args.r.0 c.args.cores.now c.args.counts.now u (option_copied c.item_at.result) (c.item_at.ensures ∙ ap (λ (cores : List (Option Resource)). at_place cores c.args.r.0) c.as_slice.ensures) c.requires has

pub returns : goal.returns
returns c =
    subst (λ (o : Option Resource). (u : UnitId) → has_unit_place u ≡ true → count_of c.count_core_out.new.counts u + over (core_places u) o ≡ count_of c.args.counts.now u)
    (c.item_at.ensures ∙ ap (λ (cores : List (Option Resource)). at_place cores c.args.r.0) c.as_slice.ensures) c.count_core_out.ensures
