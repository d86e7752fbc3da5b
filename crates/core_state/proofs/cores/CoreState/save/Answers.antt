use Rattle.std.proofs.Common.{◌∙◌, ◌≡◌, ap, arith, refl}
use Rattle.sched_model.specs.Places.{at_place}
use Rattle.sched_laws.specs.Counts.{one_at}
use Rattle.sched_model.specs.Pool.{saved_core, saving_among}
use Rattle.core_state.specs.Seen.{Seen, changed_core}
use Rattle.core_state.proofs.ChangeLemmas.{may_rearm, core_change, changed_kept, seen_is}
use Rattle.core_state.proofs.Steps.{may_gather_after, pending_saved, saved_armed}
use Rattle.core_state.proofs.Counting.{changed_counted, own_counted, saving_of}
use Rattle.core_state.proofs.cores.CoreState.save.Goals as goal

pub count_out-requires : goal.count_out-requires
count_out-requires c = λ u has.
    let all = own_counted c.args.r.0 c.self.inside.cores c.self.inside.counts u (at_place c.self.inside.cores c.args.r.0) refl c.self.invariant.1 has in
    let own = saving_of u (at_place c.self.inside.cores c.args.r.0) in
    let unit : one_at u c.take_saved-unit.result ≡ one_at u (saving_among c.self.inside.cores c.args.r.0) = ap (one_at u) c.take_saved-unit.ensures.unit in
    omega (arith, all, own, unit)

pub rearm_saved-requires : goal.rearm_saved-requires
rearm_saved-requires c =
    let change = core_change c.args.r.0 saved_core (λ x. refl) c.self.invariant.0 in
    let may = may_rearm c.self.invariant.0 change c.take_saved-unit.ensures.cores refl in
    record { granularity = may.granularity; places = may.places; arrives = may_gather_after saved_core c.self.invariant.0 change c.take_saved-unit.ensures.cores pending_saved }

pub invariant_of-self : goal.invariant_of-self
invariant_of-self c =
    let change = core_change c.args.r.0 saved_core (λ x. refl) c.self.invariant.0 in (
      changed_kept c.args.r.0 saved_core c.self.invariant.0 change c.take_saved-unit.ensures.cores refl
          (saved_armed c.args.r.0 c.self.invariant.0 change c.take_saved-unit.ensures.cores c.rearm_saved.ensures.rest c.rearm_saved.ensures.arrives),
      changed_counted c.args.r.0 saved_core c.self.inside.cores c.take_saved-unit.new.cores c.self.inside.counts c.count_out.new.self c.take_saved-unit.ensures.cores c.self.invariant.1
          (λ u has.
          let sum = c.count_out.ensures u has in
          let own = saving_of u (at_place c.self.inside.cores c.args.r.0) in
          let unit : one_at u c.take_saved-unit.result ≡ one_at u (saving_among c.self.inside.cores c.args.r.0) = ap (one_at u) c.take_saved-unit.ensures.unit in
          omega (arith, sum, own, unit)),
    )

pub returns-clause-after : goal.returns-clause-after
returns-clause-after c = seen_is c.take_saved-unit.ensures.cores refl ∙ ap (changed_core c.args.r.0 saved_core) c.self.view_is

pub returns-clause-unit : goal.returns-clause-unit
returns-clause-unit c = c.take_saved-unit.ensures.unit ∙ ap (λ (seen : Seen). saving_among seen.resources c.args.r.0) c.self.view_is
