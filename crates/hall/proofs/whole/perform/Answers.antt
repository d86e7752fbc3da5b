use Rattle.std.proofs.Common.{◌≡◌, ◌∙◌, ◌<◌, ℕ, List, length, length-set, refl, sym, ap, subst, arith, rules}
use Rattle.std.specs.Prelude.{None, Option, slice_index_or, slice_set}
use Rattle.arrayvec.proofs.ArrayVecLemmas.{items-with_items}
use Rattle.sched_model.specs.Machine.{event_of}
use Rattle.cpupool.specs.Tool.{tool_of}
use Rattle.pool_core.specs.Seen.{Seen as PoolSeen}
use Rattle.machine_parts.specs.Counts.{AreSpares}
use Rattle.machine_parts.specs.Places.{state_of}
use Rattle.machine_parts.specs.Told.{Told, told_of}
use Rattle.machine_parts.specs.Parts.{AreParts, event_pool}
use Rattle.machine_parts.proofs.Stepping.{few-pools}
use Rattle.tool_actions.specs.Acts.{told_event}
use Rattle.hall.specs.declared.value.ToolKept.{ToolKept}
use Rattle.hall.specs.Moves.{HandsName}
use Rattle.hall.specs.SeatKnowledge.{KnowsPool}
use Rattle.hall.proofs.Performing.{has-done, kept-done, knows-changed, knows-done, may-done, next-done, of-none, of-pool, place-read, placed-done}
use Rattle.hall.proofs.Parting.{now-held, parts-held, tool-held}
use Rattle.hall.proofs.whole.perform.Goals as goal

pub bounds-as_mut_slice-from : goal.bounds-as_mut_slice-from
bounds-as_mut_slice-from c =
    let set = c.args.set.now in
    let b = c.args.book in
    let s = c.args.seat.now in
    let all = c.args.all.now in
    let state = state_of (told_of b) in
    let known : tool_of b.input state ≡ c.deref.result.now.tool = tool-held set b s c.requires.may.has c.requires.may.current all.tool.value.tool all.tool.value.spares c.requires.knows.tool ∙ ap (λ (x : ToolKept). x.tool) (sym c.deref.ensures) in
    let of = of-pool b.input state c.args.action c.args.granularity c.requires.granularity c.pool_of_event.result (c.pool_of_event.ensures b.input state known) c.in-Some.i c.in-Some.is in
    let low : c.in-Some.i.0 < 16 = few-pools (told_of b) c.requires.may.goes state.now refl c.args.action of.0 c.requires.may.enabled c.in-Some.i.0 of.1 in
    let from = c.from.ensures in
    let count = ap (λ (xs : List (Option PoolSeen)). length xs) c.as_mut_slice.ensures.value ∙ c.requires.knows.count in
    omega (arith, low, from, count)

pub perform_at-requires-clause-number : goal.perform_at-requires-clause-number
perform_at-requires-clause-number c =
    let set = c.args.set.now in
    let b = c.args.book in
    let s = c.args.seat.now in
    let all = c.args.all.now in
    let state = state_of (told_of b) in
    let known : tool_of b.input state ≡ c.deref.result.now.tool = tool-held set b s c.requires.may.has c.requires.may.current all.tool.value.tool all.tool.value.spares c.requires.knows.tool ∙ ap (λ (x : ToolKept). x.tool) (sym c.deref.ensures) in
    let of = of-pool b.input state c.args.action c.args.granularity c.requires.granularity c.pool_of_event.result (c.pool_of_event.ensures b.input state known) c.in-Some.i c.in-Some.is in
    let low : c.in-Some.i.0 < 16 = few-pools (told_of b) c.requires.may.goes state.now refl c.args.action of.0 c.requires.may.enabled c.in-Some.i.0 of.1 in
    low

pub perform_at-requires-clause-knows : goal.perform_at-requires-clause-knows
perform_at-requires-clause-knows c =
    let set = c.args.set.now in
    let b = c.args.book in
    let s = c.args.seat.now in
    let all = c.args.all.now in
    let state = state_of (told_of b) in
    let known : tool_of b.input state ≡ c.deref.result.now.tool = tool-held set b s c.requires.may.has c.requires.may.current all.tool.value.tool all.tool.value.spares c.requires.knows.tool ∙ ap (λ (x : ToolKept). x.tool) (sym c.deref.ensures) in
    let of = of-pool b.input state c.args.action c.args.granularity c.requires.granularity c.pool_of_event.result (c.pool_of_event.ensures b.input state known) c.in-Some.i c.in-Some.is in
    let low : c.in-Some.i.0 < 16 = few-pools (told_of b) c.requires.may.goes state.now refl c.args.action of.0 c.requires.may.enabled c.in-Some.i.0 of.1 in
    let low_all : c.in-Some.i.0 < length all.slots.items = (let count = c.requires.knows.count in omega (arith, low, count)) in
    subst (λ (xs : List (Option PoolSeen)). KnowsPool c.in-Some.i.0 (slice_index_or xs c.from.result c.index-as_mut_slice-from.result) s.view) (sym c.as_mut_slice.ensures.value)
    (place-read all.slots.items c.from.result c.in-Some.i.0 c.index-as_mut_slice-from.result s.view c.from.ensures low_all (c.requires.knows.pools c.in-Some.i.0 low_all))

pub perform_at-requires-clause-own : goal.perform_at-requires-clause-own
perform_at-requires-clause-own c =
    let set = c.args.set.now in
    let b = c.args.book in
    let s = c.args.seat.now in
    let all = c.args.all.now in
    let state = state_of (told_of b) in
    let known : tool_of b.input state ≡ c.deref.result.now.tool = tool-held set b s c.requires.may.has c.requires.may.current all.tool.value.tool all.tool.value.spares c.requires.knows.tool ∙ ap (λ (x : ToolKept). x.tool) (sym c.deref.ensures) in
    let of = of-pool b.input state c.args.action c.args.granularity c.requires.granularity c.pool_of_event.result (c.pool_of_event.ensures b.input state known) c.in-Some.i c.in-Some.is in
    of.0

pub perform_at-requires-clause-home : goal.perform_at-requires-clause-home
perform_at-requires-clause-home c =
    let set = c.args.set.now in
    let b = c.args.book in
    let s = c.args.seat.now in
    let all = c.args.all.now in
    let state = state_of (told_of b) in
    let known : tool_of b.input state ≡ c.deref.result.now.tool = tool-held set b s c.requires.may.has c.requires.may.current all.tool.value.tool all.tool.value.spares c.requires.knows.tool ∙ ap (λ (x : ToolKept). x.tool) (sym c.deref.ensures) in
    let of = of-pool b.input state c.args.action c.args.granularity c.requires.granularity c.pool_of_event.result (c.pool_of_event.ensures b.input state known) c.in-Some.i c.in-Some.is in
    of.1

pub returns-in-Some-clause-knows : goal.returns-in-Some-clause-knows
returns-in-Some-clause-knows c =
    let set = c.args.set.now in
    let b = c.args.book in
    let s = c.args.seat.now in
    let all = c.args.all.now in
    let state = state_of (told_of b) in
    let known : tool_of b.input state ≡ c.deref.result.now.tool = tool-held set b s c.requires.may.has c.requires.may.current all.tool.value.tool all.tool.value.spares c.requires.knows.tool ∙ ap (λ (x : ToolKept). x.tool) (sym c.deref.ensures) in
    let of = of-pool b.input state c.args.action c.args.granularity c.requires.granularity c.pool_of_event.result (c.pool_of_event.ensures b.input state known) c.in-Some.i c.in-Some.is in
    let low : c.in-Some.i.0 < 16 = few-pools (told_of b) c.requires.may.goes state.now refl c.args.action of.0 c.requires.may.enabled c.in-Some.i.0 of.1 in
    let new = c.perform_at.new.slot in
    let did = c.perform_at.ensures in
    let items = items-with_items all.slots (slice_set c.as_mut_slice.result.now c.from.result new) (length-set c.as_mut_slice.result.now c.from.result new ∙ ap (λ (xs : List (Option PoolSeen)). length xs) c.as_mut_slice.ensures.value) in
    knows-changed all _ s.view c.perform_at.new.seat.view c.requires.knows did.acted.entered.input c.in-Some.i.0 low new did.knows did.others
    (items ∙ ap (λ (xs : List (Option PoolSeen)). slice_set xs c.from.result new) c.as_mut_slice.ensures.value ∙ ap (λ (n : ℕ). slice_set all.slots.items n new) c.from.ensures) refl

pub name_move-moved-requires-clause-known : goal.name_move-moved-requires-clause-known
name_move-moved-requires-clause-known c =
    let set = c.args.set.now in
    let b = c.args.book in
    let s = c.args.seat.now in
    let all = c.args.all.now in
    let told : c.of-trail.result ≡ told_of b = c.of-trail.ensures ∙ ap told_of c.get.ensures in
    let parts = parts-held set b s c.requires.may.has c.requires.may.current all c.requires.may.goes c.requires.knows in
    subst (λ (w : Told). tool_of w.input (state_of w) ≡ c.deref-in-None.result.now.tool) (sym told) (parts.known ∙ ap (λ (x : ToolKept). x.tool) (sym c.deref-in-None.ensures))

pub act_of_tool-event-requires-clause-parts : goal.act_of_tool-event-requires-clause-parts
act_of_tool-event-requires-clause-parts c =
    let set = c.args.set.now in
    let b = c.args.book in
    let s = c.args.seat.now in
    let all = c.args.all.now in
    let told : c.of-trail.result ≡ told_of b = c.of-trail.ensures ∙ ap told_of c.get.ensures in
    let parts = parts-held set b s c.requires.may.has c.requires.may.current all c.requires.may.goes c.requires.knows in
    subst (λ (w : Told). AreParts w c.as_mut_slice-in-None.result.now c.deref_mut-kept.result.now.tool) (sym told)
    (subst (λ (xs : List (Option PoolSeen)). AreParts (told_of b) xs c.deref_mut-kept.result.now.tool) (sym c.as_mut_slice-in-None.ensures.value)
    (subst (λ (x : ToolKept). AreParts (told_of b) all.slots.items x.tool) (sym c.deref_mut-kept.ensures.value) parts))

pub act_of_tool-event-requires-clause-now : goal.act_of_tool-event-requires-clause-now
act_of_tool-event-requires-clause-now c =
    let set = c.args.set.now in
    let b = c.args.book in
    let s = c.args.seat.now in
    let all = c.args.all.now in
    let told : c.of-trail.result ≡ told_of b = c.of-trail.ensures ∙ ap told_of c.get.ensures in
    c.requires.may.now ∙ now-held set b s c.requires.may.has c.requires.may.current ∙ ap (λ (w : Told). (state_of w).now) (sym told)

pub act_of_tool-event-requires-clause-no_pool : goal.act_of_tool-event-requires-clause-no_pool
act_of_tool-event-requires-clause-no_pool c =
    let set = c.args.set.now in
    let b = c.args.book in
    let s = c.args.seat.now in
    let all = c.args.all.now in
    let state = state_of (told_of b) in
    let told : c.of-trail.result ≡ told_of b = c.of-trail.ensures ∙ ap told_of c.get.ensures in
    let known : tool_of b.input state ≡ c.deref.result.now.tool = tool-held set b s c.requires.may.has c.requires.may.current all.tool.value.tool all.tool.value.spares c.requires.knows.tool ∙ ap (λ (x : ToolKept). x.tool) (sym c.deref.ensures) in
    subst (λ (w : Told). event_pool w.input.config.granularity (state_of w) c.args.action ≡ None) (sym told)
    (of-none b.input state c.args.action c.args.granularity c.requires.granularity c.pool_of_event.result (c.pool_of_event.ensures b.input state known) c.in-None.is)

pub hand_over-requires-clause-may : goal.hand_over-requires-clause-may
hand_over-requires-clause-may c =
    let set = c.args.set.now in
    let b = c.args.book in
    let s = c.args.seat.now in
    let all = c.args.all.now in
    let told : c.of-trail.result ≡ told_of b = c.of-trail.ensures ∙ ap told_of c.get.ensures in
    let event = c.act_of_tool-event.result in
    let ev : event ≡ event_of b.input (state_of (told_of b)) (state_of (told_of b)).now c.args.action = c.act_of_tool-event.ensures.event ∙ ap (λ (w : Told). event_of w.input (state_of w) (state_of w).now c.args.action) told in
    let hands : HandsName (told_of b) c.args.action c.name_move-moved.result = subst (λ (w : Told). HandsName w c.args.action c.name_move-moved.result) told c.name_move-moved.ensures in
    may-done set b s c.requires.may.has c.requires.may.current c.requires.may.goes all c.requires.knows c.args.action c.requires.may.enabled c.args.t.0 c.requires.may.now event ev c.name_move-moved.result hands

pub add_and_put_back-requires-clause-has : goal.add_and_put_back-requires-clause-has
add_and_put_back-requires-clause-has c =
    let set = c.args.set.now in
    let b = c.args.book in
    let s = c.args.seat.now in
    let all = c.args.all.now in
    let told : c.of-trail.result ≡ told_of b = c.of-trail.ensures ∙ ap told_of c.get.ensures in
    let event = c.act_of_tool-event.result in
    let ev : event ≡ event_of b.input (state_of (told_of b)) (state_of (told_of b)).now c.args.action = c.act_of_tool-event.ensures.event ∙ ap (λ (w : Told). event_of w.input (state_of w) (state_of w).now c.args.action) told in
    let hands : HandsName (told_of b) c.args.action c.name_move-moved.result = subst (λ (w : Told). HandsName w c.args.action c.name_move-moved.result) told c.name_move-moved.ensures in
    has-done set b s c.requires.may.has c.requires.may.current c.requires.may.goes all c.requires.knows c.args.action c.requires.may.enabled c.args.t.0 c.requires.may.now event ev c.name_move-moved.result hands c.hand_over.new.seat c.hand_over.ensures

pub add_and_put_back-requires-clause-next : goal.add_and_put_back-requires-clause-next
add_and_put_back-requires-clause-next c =
    let set = c.args.set.now in
    let b = c.args.book in
    let s = c.args.seat.now in
    let all = c.args.all.now in
    let told : c.of-trail.result ≡ told_of b = c.of-trail.ensures ∙ ap told_of c.get.ensures in
    let event = c.act_of_tool-event.result in
    let ev : event ≡ event_of b.input (state_of (told_of b)) (state_of (told_of b)).now c.args.action = c.act_of_tool-event.ensures.event ∙ ap (λ (w : Told). event_of w.input (state_of w) (state_of w).now c.args.action) told in
    let hands : HandsName (told_of b) c.args.action c.name_move-moved.result = subst (λ (w : Told). HandsName w c.args.action c.name_move-moved.result) told c.name_move-moved.ensures in
    next-done set b s c.requires.may.has c.requires.may.current c.requires.may.goes all c.requires.knows c.args.action c.requires.may.enabled c.args.t.0 c.requires.may.now event ev

pub add_and_put_back-requires-clause-kept : goal.add_and_put_back-requires-clause-kept
add_and_put_back-requires-clause-kept c =
    let set = c.args.set.now in
    let b = c.args.book in
    let s = c.args.seat.now in
    let all = c.args.all.now in
    let told : c.of-trail.result ≡ told_of b = c.of-trail.ensures ∙ ap told_of c.get.ensures in
    let event = c.act_of_tool-event.result in
    let ev : event ≡ event_of b.input (state_of (told_of b)) (state_of (told_of b)).now c.args.action = c.act_of_tool-event.ensures.event ∙ ap (λ (w : Told). event_of w.input (state_of w) (state_of w).now c.args.action) told in
    let hands : HandsName (told_of b) c.args.action c.name_move-moved.result = subst (λ (w : Told). HandsName w c.args.action c.name_move-moved.result) told c.name_move-moved.ensures in
    kept-done set b s c.requires.may.has c.requires.may.current c.requires.may.goes all c.requires.knows c.args.action c.requires.may.enabled c.args.t.0 c.requires.may.now event ev c.name_move-moved.result hands c.hand_over.new.seat c.hand_over.ensures

pub add_and_put_back-requires-clause-placed : goal.add_and_put_back-requires-clause-placed
add_and_put_back-requires-clause-placed c =
    let set = c.args.set.now in
    let b = c.args.book in
    let s = c.args.seat.now in
    let all = c.args.all.now in
    let told : c.of-trail.result ≡ told_of b = c.of-trail.ensures ∙ ap told_of c.get.ensures in
    let event = c.act_of_tool-event.result in
    let ev : event ≡ event_of b.input (state_of (told_of b)) (state_of (told_of b)).now c.args.action = c.act_of_tool-event.ensures.event ∙ ap (λ (w : Told). event_of w.input (state_of w) (state_of w).now c.args.action) told in
    let hands : HandsName (told_of b) c.args.action c.name_move-moved.result = subst (λ (w : Told). HandsName w c.args.action c.name_move-moved.result) told c.name_move-moved.ensures in
    placed-done set b s c.requires.may.has c.requires.may.current c.requires.may.goes all c.requires.knows c.args.action c.requires.may.enabled c.args.t.0 c.requires.may.now event ev c.name_move-moved.result hands c.hand_over.new.seat c.hand_over.ensures

pub add_and_put_back-requires-clause-core : goal.add_and_put_back-requires-clause-core
add_and_put_back-requires-clause-core c =
    let set = c.args.set.now in
    let b = c.args.book in
    let s = c.args.seat.now in
    let all = c.args.all.now in
    let state = state_of (told_of b) in
    let known : tool_of b.input state ≡ c.deref.result.now.tool = tool-held set b s c.requires.may.has c.requires.may.current all.tool.value.tool all.tool.value.spares c.requires.knows.tool ∙ ap (λ (x : ToolKept). x.tool) (sym c.deref.ensures) in
    let none : event_pool b.input.config.granularity state c.args.action ≡ None = of-none b.input state c.args.action c.args.granularity c.requires.granularity c.pool_of_event.result (c.pool_of_event.ensures b.input state known) c.in-None.is in
    search rules

pub returns-in-None-clause-knows : goal.returns-in-None-clause-knows
returns-in-None-clause-knows c =
    let set = c.args.set.now in
    let b = c.args.book in
    let s = c.args.seat.now in
    let all = c.args.all.now in
    let told : c.of-trail.result ≡ told_of b = c.of-trail.ensures ∙ ap told_of c.get.ensures in
    let event = c.act_of_tool-event.result in
    let ev : event ≡ event_of b.input (state_of (told_of b)) (state_of (told_of b)).now c.args.action = c.act_of_tool-event.ensures.event ∙ ap (λ (w : Told). event_of w.input (state_of w) (state_of w).now c.args.action) told in
    let hands : HandsName (told_of b) c.args.action c.name_move-moved.result = subst (λ (w : Told). HandsName w c.args.action c.name_move-moved.result) told c.name_move-moved.ensures in
    let act = c.act_of_tool-event in
    let parts : AreParts (told_event (told_of b) c.args.t.0 event) act.new.slots act.new.tool = subst (λ (w : Told). AreParts (told_event w c.args.t.0 event) act.new.slots act.new.tool) told act.ensures.parts in
    let spares : AreSpares b.input c.args.t.0 act.new.tool.part act.new.spares = subst (λ (w : Told). AreSpares w.input c.args.t.0 act.new.tool.part act.new.spares) told act.ensures.spares in
    let items = items-with_items all.slots act.new.slots (parts.stand.count ∙ sym c.requires.knows.count) in
    knows-done set b s c.requires.may.has c.requires.may.current c.requires.may.goes all c.requires.knows c.args.action c.requires.may.enabled c.args.t.0 c.requires.may.now event ev c.name_move-moved.result hands c.hand_over.new.seat c.hand_over.ensures c.add_and_put_back.new.seat _ c.add_and_put_back.ensures.entered c.add_and_put_back.ensures.knows
    (subst (λ (xs : List (Option PoolSeen)). AreParts (told_event (told_of b) c.args.t.0 event) xs act.new.tool) (sym items) parts) spares
