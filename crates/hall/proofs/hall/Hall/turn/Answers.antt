use Rattle.std.proofs.Common.{◌≡◌, ◌∙◌, ◌<◌, ◌≤◌, true, false, List, length, sym, ap, subst}
use Rattle.std.specs.Prelude.{Option}
use Rattle.sched_model.specs.CheckedMachine.{IsChecked}
use Rattle.sched_model.specs.Machine.{first_enabled_action}
use Rattle.journal_core.specs.Books.{Chronicle}
use Rattle.journal_core.specs.Histories.{now_at, reached_by}
use Rattle.pool_core.specs.Seen.{Seen as PoolSeen}
use Rattle.machine_parts.specs.Places.{state_of}
use Rattle.machine_parts.specs.Told.{Told, told_of}
use Rattle.machine_parts.proofs.Going.{now_of-is}
use Rattle.machine_parts.specs.Parts.{AreParts}
use Rattle.lock_moves.specs.Sets.{LockTable}
use Rattle.hall.specs.declared.value.ToolKept.{ToolKept}
use Rattle.hall.proofs.Calls.{finds-full}
use Rattle.hall.proofs.Parting.{goes-held, knows-put, parts-held}
use Rattle.hall.proofs.Turning.{over-turn, some-next}
use Rattle.hall.proofs.hall.Hall.turn.Goals as goal

pub returns-then-is_over-clause-knows : goal.returns-then-is_over-clause-knows
returns-then-is_over-clause-knows c = knows-put c.args.seat.now c.put_book.new.seat c.put_book.ensures.keeps c.put_book.ensures.locks c.args.all.now c.requires.knows

pub returns-then-is_over-clause-turn : goal.returns-then-is_over-clause-turn
returns-then-is_over-clause-turn c =
    let b = c.args.book in
    let over : (reached_by b.input b.history).over ≡ true = ap (λ (x : Chronicle). (reached_by x.input x.history).over) (sym c.get.ensures) ∙ sym c.if-is_over.ensures in
    over-turn c.args.self.now b c.args.seat.now c.requires.begins.has c.requires.begins.current c.len-place.result c.put_book.new.seat c.put_book.ensures.keeps over (c.len-place.ensures ∙ ap (λ (x : Chronicle). length x.history) c.get-then-is_over.ensures)

pub returns-then-not-room_left-clause-knows : goal.returns-then-not-room_left-clause-knows
returns-then-not-room_left-clause-knows c =
    (let put = c.put_book-then-not-room_left in knows-put c.args.seat.now put.new.seat put.ensures.keeps put.ensures.locks c.args.all.now c.requires.knows)

pub returns-then-not-room_left-clause-full : goal.returns-then-not-room_left-clause-full
returns-then-not-room_left-clause-full c =
    let b = c.args.book in
    let s = c.args.seat.now in
    let put = c.put_book-then-not-room_left in
    let checked : IsChecked b.input = subst IsChecked (ap (λ (x : LockTable). x.opened.input) c.self.view_is ∙ sym c.requires.begins.input) c.self.invariant.checked in
    let over : (reached_by b.input b.history).over ≡ false = ap (λ (x : Chronicle). (reached_by x.input x.history).over) (sym c.get.ensures) ∙ sym c.if-is_over.ensures in
    record {
      finds = finds-full b s put.new.seat (record { events = c.limit-events.result }) put.ensures.keeps (c.limit-events.ensures ∙ ap (λ (x : Chronicle). x.limit) c.get-then-not-room_left.ensures)
          (subst (λ (x : Chronicle). length x.history ≤ x.limit) c.get-2.ensures c.tell.ensures.fits)
          (subst (λ (x : Chronicle). length x.history < x.limit → ⊥) c.get-3.ensures (λ less. (let room = c.if-not-room_left.ensures.1 less in absurd (cc))));
      due = some-next (told_of b) (goes-held c.args.self.now b s c.requires.begins.has c.requires.begins.current checked over);
    }

pub whole_first-requires-clause-parts : goal.whole_first-requires-clause-parts
whole_first-requires-clause-parts c =
    let b = c.args.book in
    let told : c.of-trail.result ≡ told_of b = c.of-trail.ensures ∙ ap told_of c.get-5.ensures in
    let checked : IsChecked b.input = subst IsChecked (ap (λ (x : LockTable). x.opened.input) c.self.view_is ∙ sym c.requires.begins.input) c.self.invariant.checked in
    let over : (reached_by b.input b.history).over ≡ false = ap (λ (x : Chronicle). (reached_by x.input x.history).over) (sym c.get.ensures) ∙ sym c.if-is_over.ensures in
    let goes = goes-held c.args.self.now b c.args.seat.now c.requires.begins.has c.requires.begins.current checked over in
    let parts = parts-held c.args.self.now b c.args.seat.now c.requires.begins.has c.requires.begins.current c.args.all.now goes c.requires.knows in
    subst (λ (w : Told). AreParts w c.as_slice-2.result.now c.deref.result.now.tool) (sym told)
    (subst (λ (xs : List (Option PoolSeen)). AreParts (told_of b) xs c.deref.result.now.tool) (sym c.as_slice-2.ensures.value)
    (subst (λ (x : ToolKept). AreParts (told_of b) c.args.all.now.slots.items x.tool) (sym c.deref.ensures) parts))

pub step-requires-clause-first : goal.step-requires-clause-first
step-requires-clause-first c =
    let b = c.args.book in
    let told : c.of-trail.result ≡ told_of b = c.of-trail.ensures ∙ ap told_of c.get-5.ensures in
    let time : c.now-t.result.0 ≡ (state_of (told_of b)).now = c.now-t.ensures ∙ ap (λ (x : Chronicle). now_at x.input x.history) c.get-4.ensures ∙ now_of-is (told_of b) in
    let found : c.whole_first.result ≡ first_enabled_action b.input (state_of (told_of b)) (state_of (told_of b)).now =
    c.whole_first.ensures ∙ ap (λ (w : Told). first_enabled_action w.input (state_of w) c.now-t.result.0) told ∙ ap (first_enabled_action b.input (state_of (told_of b))) time in
    sym found ∙ c.in-Some.is

pub close-requires-clause-quiet : goal.close-requires-clause-quiet
close-requires-clause-quiet c =
    let b = c.args.book in
    let told : c.of-trail.result ≡ told_of b = c.of-trail.ensures ∙ ap told_of c.get-5.ensures in
    let time : c.now-t.result.0 ≡ (state_of (told_of b)).now = c.now-t.ensures ∙ ap (λ (x : Chronicle). now_at x.input x.history) c.get-4.ensures ∙ now_of-is (told_of b) in
    let found : c.whole_first.result ≡ first_enabled_action b.input (state_of (told_of b)) (state_of (told_of b)).now =
    c.whole_first.ensures ∙ ap (λ (w : Told). first_enabled_action w.input (state_of w) c.now-t.result.0) told ∙ ap (first_enabled_action b.input (state_of (told_of b))) time in
    sym found ∙ c.in-None.is
