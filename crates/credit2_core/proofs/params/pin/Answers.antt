use Rattle.std.proofs.Common.{◌≡◌, ◌<◌, ◌-◌, ◌^◌, ◌∙◌, Bool, sym, ap, subst}
use Rattle.std.specs.Prelude.{List, Option, ◌==◌, ◌&&◌}
use Rattle.unit_places.specs.Masks.{mask_of}
use Rattle.sched_base.specs.declared.Cores.{Cores}
use Rattle.sched_base.specs.declared.UnitId.{UnitId}
use Rattle.sched_model.specs.Places.{change_at}
use Rattle.sched_model.specs.Policy.{pinned_cores}
use Rattle.credit2_core.specs.declared.state.Credit2State.{Credit2State}
use Rattle.credit2_core.specs.Domains.{refreshed_cores}
use Rattle.credit2_core.specs.Credit2State.{IsSound}
use Rattle.credit2_core.proofs.Keeping.{sound_pinned}
use Rattle.credit2_core.proofs.params.pin.Goals as goal

pub returns-clause-sound : goal.returns-clause-sound
returns-clause-sound c =
    let h : Credit2State = c.args.state.now in
    let next : List (Option (List Cores)) = change_at c.args.d.0 (pinned_cores c.args.unit c.args.cores) h.affinity in
    let written : (u : UnitId) → u.n < 256 → mask_of c.refresh.new.masks u ≡ refreshed_cores h.masks next c.args.d.0 u =
    λ u low. c.refresh.ensures u low ∙ ap (λ (a : List (Option (List Cores))). refreshed_cores h.masks a c.args.d.0 u) (c.as_slice.ensures ∙ c.pin.ensures)
    in
    subst (λ (free : Bool). IsSound (record h { affinity = c.pin.new.affinity; masks = c.refresh.new.masks; latest = c.args.t.0; unpinned = free })) (sym c.stay_unpinned-state.ensures)
    (subst (λ (a : List (Option (List Cores))). IsSound (record h { affinity = a; masks = c.refresh.new.masks; latest = c.args.t.0; unpinned = h.unpinned && c.args.cores.0 == 2 ^ 64 - 1 })) (sym c.pin.ensures)
    (sound_pinned h c.args.d.0 c.args.t.0 c.args.unit c.args.cores c.refresh.new.masks c.requires.sound c.requires.now.after written))
