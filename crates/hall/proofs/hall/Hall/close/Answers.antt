use Rattle.std.proofs.Common.{◌≡◌, ◌∙◌, List, length, replicate, sym, ap, subst, arith}
use Rattle.std.specs.Prelude.{Option, None, Some}
use Rattle.sched_model.specs.declared.action.Action.{Action}
use Rattle.sched_model.specs.Machine.{first_enabled_action, next_in_horizon}
use Rattle.pool_core.specs.Seen.{Seen as PoolSeen}
use Rattle.machine_parts.specs.Places.{state_of}
use Rattle.machine_parts.specs.Told.{Told, told_of}
use Rattle.journal_core.specs.Books.{Chronicle}
use Rattle.machine_parts.specs.Parts.{AreNexts, AreParts}
use Rattle.hall.specs.declared.value.ToolKept.{ToolKept}
use Rattle.hall.proofs.Parting.{held-all, knows-later, now-held, parts-held}
use Rattle.hall.proofs.Turning.{close-turn, finish-turn, knows-next, nexts-read, nothing-in, told-last, told-next}
use Rattle.hall.proofs.hall.Hall.close.Goals as goal

pub whole_next-next-requires-clause-parts : goal.whole_next-next-requires-clause-parts
whole_next-next-requires-clause-parts c =
    let b = c.args.book in
    let told : c.of-trail.result ≡ told_of b = c.of-trail.ensures ∙ ap told_of c.get-2.ensures in
    let parts = parts-held c.args.self.now b c.args.seat.now c.requires.begins.has c.requires.begins.current c.args.all.now c.requires.goes c.requires.knows in
    subst (λ (w : Told). AreParts w c.as_slice-2.result.now c.deref.result.now.tool) (sym told)
    (subst (λ (xs : List (Option PoolSeen)). AreParts (told_of b) xs c.deref.result.now.tool) (sym c.as_slice-2.ensures.value)
    (subst (λ (x : ToolKept). AreParts (told_of b) c.args.all.now.slots.items x.tool) (sym c.deref.ensures) parts))

pub whole_next-next-requires-clause-now : goal.whole_next-next-requires-clause-now
whole_next-next-requires-clause-now c =
    let b = c.args.book in
    let told : c.of-trail.result ≡ told_of b = c.of-trail.ensures ∙ ap told_of c.get-2.ensures in
    c.requires.now ∙ now-held c.args.self.now b c.args.seat.now c.requires.begins.has c.requires.begins.current ∙ ap (λ (w : Told). (state_of w).now) (sym told)

pub whole_next-next-requires-clause-nexts : goal.whole_next-next-requires-clause-nexts
whole_next-next-requires-clause-nexts c =
    let same : c.as_slice-2.result.now ≡ c.as_slice.result.now = c.as_slice-2.ensures.value ∙ sym c.as_slice.ensures.value in
    subst (λ (xs : List (Option PoolSeen)). AreNexts xs c.read_nexts.new.nexts) (sym same)
    (nexts-read c.as_slice.result.now (replicate 16 (let x : Option Action = None in x)) c.read_nexts.new.nexts (nothing-in 16) c.read_nexts.ensures.nexts)

pub whole_next-next-requires-clause-quiet : goal.whole_next-next-requires-clause-quiet
whole_next-next-requires-clause-quiet c =
    let b = c.args.book in
    let told : c.of-trail.result ≡ told_of b = c.of-trail.ensures ∙ ap told_of c.get-2.ensures in
    let now = c.requires.now ∙ now-held c.args.self.now b c.args.seat.now c.requires.begins.has c.requires.begins.current in
    subst (λ (w : Told). first_enabled_action w.input (state_of w) c.args.t.0 ≡ None) (sym told) (ap (first_enabled_action b.input (state_of (told_of b))) now ∙ c.requires.quiet)

pub end_moment-requires-clause-all : goal.end_moment-requires-clause-all
end_moment-requires-clause-all c = held-all c.args.all.now c.args.seat.now.view c.requires.knows

pub returns-in-Some-clause-knows : goal.returns-in-Some-clause-knows
returns-in-Some-clause-knows c =
    let b = c.args.book in
    let told : c.of-trail.result ≡ told_of b = c.of-trail.ensures ∙ ap told_of c.get-2.ensures in
    let w = c.of-trail.result in
    let comes : next_in_horizon b.input (state_of (told_of b)) ≡ Some c.in-Some.next.0 = ap (λ (x : Told). next_in_horizon x.input (state_of x)) (sym told) ∙ told-next (next_in_horizon w.input (state_of w)) c.in-Some.next (sym c.whole_next-next.ensures ∙ c.in-Some.is) in
    knows-next c.args.self.now b c.args.seat.now c.requires.begins.has c.requires.begins.current c.args.t c.requires.now c.in-Some.next c.args.all.now c.end_moment.new.seat comes c.end_moment.ensures.entered.input c.end_moment.ensures.locks c.requires.knows

pub returns-in-Some-clause-turn : goal.returns-in-Some-clause-turn
returns-in-Some-clause-turn c =
    let b = c.args.book in
    let told : c.of-trail.result ≡ told_of b = c.of-trail.ensures ∙ ap told_of c.get-2.ensures in
    let w = c.of-trail.result in
    let comes : next_in_horizon b.input (state_of (told_of b)) ≡ Some c.in-Some.next.0 = ap (λ (x : Told). next_in_horizon x.input (state_of x)) (sym told) ∙ told-next (next_in_horizon w.input (state_of w)) c.in-Some.next (sym c.whole_next-next.ensures ∙ c.in-Some.is) in
    close-turn c.args.self.now b c.args.seat.now c.requires.begins.has c.requires.begins.current c.args.t c.requires.now c.requires.goes c.requires.quiet c.len-place.result c.in-Some.next c.end_moment.new.seat comes
    (c.len-place.ensures ∙ ap (λ (x : Chronicle). length x.history) c.get.ensures) c.end_moment.ensures.entered

pub returns-clause-knows : goal.returns-clause-knows
returns-clause-knows c = knows-later c.args.seat.now.view.now c.args.seat.now.view c.finish.new.seat.view c.finish.ensures.entered.input c.finish.ensures.locks.moment (omega arith) c.finish.ensures.locks c.args.all.now c.requires.knows

pub returns-clause-turn : goal.returns-clause-turn
returns-clause-turn c =
    let b = c.args.book in
    let told : c.of-trail.result ≡ told_of b = c.of-trail.ensures ∙ ap told_of c.get-2.ensures in
    let w = c.of-trail.result in
    let last : next_in_horizon b.input (state_of (told_of b)) ≡ None = ap (λ (x : Told). next_in_horizon x.input (state_of x)) (sym told) ∙ told-last (next_in_horizon w.input (state_of w)) (sym c.whole_next-next.ensures ∙ c.in-None.is) in
    finish-turn c.args.self.now b c.args.seat.now c.requires.begins.has c.requires.begins.current c.args.t c.requires.now c.requires.goes c.requires.quiet c.len-place.result c.finish.new.seat last
    (c.len-place.ensures ∙ ap (λ (x : Chronicle). length x.history) c.get.ensures) c.finish.ensures.entered
