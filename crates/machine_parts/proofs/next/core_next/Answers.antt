use Rattle.std.proofs.Common.{◌≡◌, ◌<◌, ℕ, length, subst, sym, ap, ◌∙◌}
use Rattle.std.proofs.lemmas.List.{get_or_default}
use Rattle.std.specs.Prelude.{Option, None, Some}
use Rattle.sched_model.specs.Actions.{home_pool_of_core}
use Rattle.sched_model.specs.Places.{at_place}
use Rattle.pool_core.specs.Seen.{Seen}
use Rattle.machine_parts.specs.Places.{state_of}
use Rattle.machine_parts.proofs.AtPlaces.{core_below, leaves-nowhere, leaves-there, no-number, number-of}
use Rattle.machine_parts.proofs.next.core_next.Goals as goal

-- the home is one of the places
pub bounds-slots-from : goal.bounds-slots-from
bounds-slots-from c =
    let w = c.args.trail.now in
    let home : home_pool_of_core (state_of w) c.args.r.0 ≡ Some c.in-Some.i.0 = number-of _ c.in-Some.i (sym (c.home_of_core.ensures w.input (state_of w) c.requires.parts.known) ∙ c.in-Some.is) in
    subst (λ (k : ℕ). k < length c.args.slots.now) (sym c.from.ensures) (core_below w c.args.slots.now c.args.tool.now c.requires.parts c.args.r.0 c.in-Some.i.0 home)

-- without a home it leaves none
pub returns-in-None : goal.returns-in-None
returns-in-None c =
    let w = c.args.trail.now in
    leaves-nowhere w.input.config.granularity (state_of w) c.args.r.0 (no-number _ (sym (c.home_of_core.ensures w.input (state_of w) c.requires.parts.known) ∙ c.in-None.is))

-- and else when its home lets it
pub returns-in-Some : goal.returns-in-Some
returns-in-Some c =
    let w = c.args.trail.now in
    let home : home_pool_of_core (state_of w) c.args.r.0 ≡ Some c.in-Some.i.0 = number-of _ c.in-Some.i (sym (c.home_of_core.ensures w.input (state_of w) c.requires.parts.known) ∙ c.in-Some.is) in
    let low : c.in-Some.i.0 < length c.args.slots.now = core_below w c.args.slots.now c.args.tool.now c.requires.parts c.args.r.0 c.in-Some.i.0 home in
    let low_read : c.from.result < length c.args.slots.now = subst (λ (k : ℕ). k < length c.args.slots.now) (sym c.from.ensures) low in
    let read : at_place c.args.slots.now c.in-Some.i.0 ≡ c.index-slots-from.result =
    ap (at_place c.args.slots.now) (sym c.from.ensures) ∙ get_or_default c.args.slots.now c.from.result None c.index-slots-from.result low_read ∙ sym c.index-slots-from.is in
    let here : (o : Option Seen) → at_place c.args.slots.now c.in-Some.i.0 ≡ o → c.index-slots-from.result ≡ o = λ o is. sym read ∙ is in
    leaves-there w c.args.slots.now c.args.tool.now c.requires.parts c.args.r.0 c.in-Some.i.0 low c.moved_next.result home
    (λ seen is. c.moved_next.ensures.pool seen (here (Some seen) is)) (λ is. c.moved_next.ensures.empty (here None is))
