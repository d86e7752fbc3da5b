use Rattle.std.proofs.Common.{◌≡◌, ◌∙◌, ◌<◌, ◌≤◌, true, false, List, length, sym, ap, refl, subst}
use Rattle.std.specs.Prelude.{Option, Some}
use Rattle.sched_model.specs.declared.action.Action.{Action}
use Rattle.sched_model.specs.declared.action.Actor.TheVariants.{Tool}
use Rattle.sched_model.specs.CheckedMachine.{IsChecked}
use Rattle.journal_core.specs.Books.{Chronicle}
use Rattle.journal_core.specs.Histories.{now_at, reached_by}
use Rattle.pool_core.specs.Seen.{Seen as PoolSeen}
use Rattle.machine_parts.specs.Told.{Told, told_of}
use Rattle.machine_parts.proofs.Going.{now_of-is}
use Rattle.machine_parts.specs.Parts.{AreParts}
use Rattle.lock_moves.specs.Sets.{LockTable}
use Rattle.hall.specs.declared.value.ToolKept.{ToolKept}
use Rattle.hall.specs.Steps.{HasBook}
use Rattle.hall.specs.BookTurns.{state_in}
use Rattle.hall.proofs.Calls.{actor-comes, finds-full, settles-event, settles-full}
use Rattle.hall.proofs.Parting.{goes-held, knows-put, parts-held}
use Rattle.hall.proofs.UnderAll.{command-first, first-is, none-else, over-none, time-held, tool-found}
use Rattle.hall.proofs.hall.Hall.settle_tool.Goals as goal

pub returns-then-is_over-clause-knows : goal.returns-then-is_over-clause-knows
returns-then-is_over-clause-knows c = knows-put c.args.seat.now c.put_book.new.seat c.put_book.ensures.keeps c.put_book.ensures.locks c.args.all.now c.requires.knows

pub returns-then-is_over-clause-done : goal.returns-then-is_over-clause-done
returns-then-is_over-clause-done c =
    let b = c.args.book in
    let checked : IsChecked b.input = subst IsChecked (ap (λ (x : LockTable). x.opened.input) c.self.view_is ∙ sym c.requires.begins.input) c.self.invariant.checked in
    let over : (reached_by b.input b.history).over ≡ true = ap (λ (x : Chronicle). (reached_by x.input x.history).over) (sym c.get.ensures) ∙ sym c.if-is_over.ensures in
    record { keeps = c.put_book.ensures.keeps; none = over-none c.args.self.now b c.args.seat.now c.requires.begins.has c.requires.begins.current checked over Tool }

pub tool_first-requires : goal.tool_first-requires
tool_first-requires c =
    let b = c.args.book in
    let checked : IsChecked b.input = subst IsChecked (ap (λ (x : LockTable). x.opened.input) c.self.view_is ∙ sym c.requires.begins.input) c.self.invariant.checked in
    let over : (reached_by b.input b.history).over ≡ false = ap (λ (x : Chronicle). (reached_by x.input x.history).over) (sym c.get.ensures) ∙ sym c.if-is_over.ensures in
    let told : c.of-trail.result ≡ told_of b = c.of-trail.ensures ∙ ap told_of c.get-3.ensures in
    let goes = goes-held c.args.self.now b c.args.seat.now c.requires.begins.has c.requires.begins.current checked over in
    let parts = parts-held c.args.self.now b c.args.seat.now c.requires.begins.has c.requires.begins.current c.args.all.now goes c.requires.knows in
    record {
      parts = subst (λ (w : Told). AreParts w c.as_slice.result.now c.deref.result.now.tool) (sym told)
          (subst (λ (xs : List (Option PoolSeen)). AreParts (told_of b) xs c.deref.result.now.tool) (sym c.as_slice.ensures.value)
          (subst (λ (x : ToolKept). AreParts (told_of b) c.args.all.now.slots.items x.tool) (sym c.deref.ensures) parts));
    }

pub returns-in_default-clause-knows : goal.returns-in_default-clause-knows
returns-in_default-clause-knows c = knows-put c.args.seat.now c.put_book-in_default.new.seat c.put_book-in_default.ensures.keeps c.put_book-in_default.ensures.locks c.args.all.now c.requires.knows

pub returns-in_default-clause-done : goal.returns-in_default-clause-done
returns-in_default-clause-done c =
    let b = c.args.book in
    let checked : IsChecked b.input = subst IsChecked (ap (λ (x : LockTable). x.opened.input) c.self.view_is ∙ sym c.requires.begins.input) c.self.invariant.checked in
    let now : c.now-t.result.0 ≡ now_at b.input b.history = c.now-t.ensures ∙ ap (λ (x : Chronicle). now_at x.input x.history) c.get-2.ensures in
    let found = tool-found b c.tool_first.result c.of-trail.result c.now-t.result.0 (c.of-trail.ensures ∙ ap told_of c.get-3.ensures) now c.tool_first.ensures in
    record {
      keeps = c.put_book-in_default.ensures.keeps;
      none = first-is c.args.self.now b c.args.seat.now c.requires.begins.has c.requires.begins.current checked ∙ found ∙ none-else c.tool_first.result (λ a is. c.in_default.not-Some a is);
    }

pub returns-then-not-room_left-clause-knows : goal.returns-then-not-room_left-clause-knows
returns-then-not-room_left-clause-knows c =
    (let put = c.put_book-then-not-room_left in knows-put c.args.seat.now put.new.seat put.ensures.keeps put.ensures.locks c.args.all.now c.requires.knows)

pub returns-then-not-room_left-clause-full : goal.returns-then-not-room_left-clause-full
returns-then-not-room_left-clause-full c =
    let b = c.args.book in
    let s = c.args.seat.now in
    let checked : IsChecked b.input = subst IsChecked (ap (λ (x : LockTable). x.opened.input) c.self.view_is ∙ sym c.requires.begins.input) c.self.invariant.checked in
    let now : c.now-t.result.0 ≡ now_at b.input b.history = c.now-t.ensures ∙ ap (λ (x : Chronicle). now_at x.input x.history) c.get-2.ensures in
    let found = tool-found b c.tool_first.result c.of-trail.result c.now-t.result.0 (c.of-trail.ensures ∙ ap told_of c.get-3.ensures) now c.tool_first.ensures ∙ c.in-Some.is in
    let put = c.put_book-then-not-room_left in
    settles-full b s put.new.seat Tool c.in-Some.action (first-is c.args.self.now b s c.requires.begins.has c.requires.begins.current checked ∙ found) (record { events = c.limit-events.result })
    (finds-full b s put.new.seat (record { events = c.limit-events.result }) put.ensures.keeps (c.limit-events.ensures ∙ ap (λ (x : Chronicle). x.limit) c.get-then-not-room_left.ensures)
    (subst (λ (x : Chronicle). length x.history ≤ x.limit) c.get-4.ensures c.tell.ensures.fits)
    (subst (λ (x : Chronicle). length x.history < x.limit → ⊥) c.get-5.ensures (λ less. (let room = c.if-not-room_left.ensures.1 less in absurd (cc)))))

pub perform-event-requires-clause-may : goal.perform-event-requires-clause-may
perform-event-requires-clause-may c =
    let b = c.args.book in
    let s = c.args.seat.now in
    let checked : IsChecked b.input = subst IsChecked (ap (λ (x : LockTable). x.opened.input) c.self.view_is ∙ sym c.requires.begins.input) c.self.invariant.checked in
    let over : (reached_by b.input b.history).over ≡ false = ap (λ (x : Chronicle). (reached_by x.input x.history).over) (sym c.get.ensures) ∙ sym c.if-is_over.ensures in
    let now : c.now-t.result.0 ≡ now_at b.input b.history = c.now-t.ensures ∙ ap (λ (x : Chronicle). now_at x.input x.history) c.get-2.ensures in
    let found = tool-found b c.tool_first.result c.of-trail.result c.now-t.result.0 (c.of-trail.ensures ∙ ap told_of c.get-3.ensures) now c.tool_first.ensures ∙ c.in-Some.is in
    record {
      has = subst (λ (x : LockTable). HasBook x b s) (sym c.self.view_is) c.requires.begins.has;
      current = c.requires.begins.current;
      goes = goes-held c.args.self.now b s c.requires.begins.has c.requires.begins.current checked over;
      room = subst (λ (x : Chronicle). length x.history < x.limit) c.get-5.ensures (c.if-not-room_left.ensures.0 refl);
      now = time-held c.args.self.now b s c.requires.begins.has c.requires.begins.current c.now-t.result.0 now;
      enabled = actor-comes b.input (state_in b) Tool c.in-Some.action (first-is c.args.self.now b s c.requires.begins.has c.requires.begins.current checked ∙ found);
    }

pub perform-event-requires-clause-first : goal.perform-event-requires-clause-first
perform-event-requires-clause-first c =
    let b = c.args.book in
    let now : c.now-t.result.0 ≡ now_at b.input b.history = c.now-t.ensures ∙ ap (λ (x : Chronicle). now_at x.input x.history) c.get-2.ensures in
    let found = tool-found b c.tool_first.result c.of-trail.result c.now-t.result.0 (c.of-trail.ensures ∙ ap told_of c.get-3.ensures) now c.tool_first.ensures ∙ c.in-Some.is in
    λ is. command-first b.input (state_in b) (state_in b).now (found ∙ ap (λ (a : Action). Some a) is)

pub returns-clause-done : goal.returns-clause-done
returns-clause-done c =
    let b = c.args.book in
    let s = c.args.seat.now in
    let checked : IsChecked b.input = subst IsChecked (ap (λ (x : LockTable). x.opened.input) c.self.view_is ∙ sym c.requires.begins.input) c.self.invariant.checked in
    let now : c.now-t.result.0 ≡ now_at b.input b.history = c.now-t.ensures ∙ ap (λ (x : Chronicle). now_at x.input x.history) c.get-2.ensures in
    let found = tool-found b c.tool_first.result c.of-trail.result c.now-t.result.0 (c.of-trail.ensures ∙ ap told_of c.get-3.ensures) now c.tool_first.ensures ∙ c.in-Some.is in
    settles-event b s c.perform-event.new.seat Tool c.in-Some.action (first-is c.args.self.now b s c.requires.begins.has c.requires.begins.current checked ∙ found) c.now-t.result c.len-place.result c.perform-event.result
    (now ∙ now_of-is (told_of b)) (c.len-place.ensures ∙ ap (λ (x : Chronicle). length x.history) c.get-6.ensures) c.perform-event.ensures.acted.event c.perform-event.ensures.acted.entered
