use Rattle.std.proofs.Common.{◌≡◌, ◌≢◌, ◌∙◌, ◌<◌, List, ℕ, true, refl, sym, subst, arith}
use Rattle.std.specs.Prelude.{Ok, Option}
use Rattle.std.specs.Option.{ForSome}
use Rattle.sched_model.specs.declared.event.Entry.{Entry}
use Rattle.sched_model.specs.declared.machine.Machine.{Machine}
use Rattle.sched_model.specs.CheckedMachine.{IsChecked}
use Rattle.journal_core.specs.Histories.{state_at}
use Rattle.journal_core.specs.Parts.{lists, tool_lock, tool_part}
use Rattle.machine_parts.specs.Places.{SlotSuits}
use Rattle.lock_moves.specs.Plays.{IsPartOfSome}
use Rattle.lock_moves.specs.Sets.{IsAsKnown, LockTable, sitting_with}
use Rattle.lock_moves.specs.SeatSight.{Sitting, after_give}
use Rattle.lock_moves.specs.Words.{name_number}
use Rattle.hall.specs.declared.seat.Arrival.{Arrival}
use Rattle.hall.specs.declared.turns.Done.TheVariants as done
use Rattle.hall.specs.declared.value.PartState.{PartState}
use Rattle.hall.specs.declared.value.PartState.TheVariants.{Pool, Tool}
use Rattle.hall.specs.Holds.{InHold, IsArrivalOf, seated}
use Rattle.hall.specs.Seats.{IsCounted}
use Rattle.hall.specs.Serving.{AreTogether}
use Rattle.hall.specs.Steps.{KeepsSight}
use Rattle.hall.specs.Values.{part_of_value, suits_value}
use Rattle.hall.proofs.Calls.{call-stays, done-held, kept-stays}
use Rattle.hall.proofs.Holds.{of-hall}
use Rattle.hall.proofs.Locking.{gave_keeps}
use Rattle.hall.proofs.Parting.{as-known}
use Rattle.hall.proofs.UnderOne.{free-alone, free-settles, keeps-all, lock-of-pool, lock-of-tool, only-gone, sought-keeps, sought-known, sought-only}
use Rattle.hall.proofs.hall.Hall.begin_hold.Goals as goal

pub returns-in-Tool-clause-none : goal.returns-in-Tool-clause-none
returns-in-Tool-clause-none g c =
    let hall = c.args.self.now in
    let actor = c.args.holder.actor in
    let k : ℕ = c.lock_of-held.result.lock in
    let t = c.lock_of-held.ensures.taken in
    let s0 = c.args.seat.now in
    let s1 = c.lock_of-held.new.seat in
    let s2 = c.take_book-book.new.seat in
    let s3 = c.put_book.new.seat in
    let s4 = c.unlock.new.seat in
    let part = c.in-Tool.kept.value.tool.part in
    let is : c.lock_of-held.result.value ≡ Tool c.in-Tool.kept = sym c.into_value.ensures ∙ c.in-Tool.is in
    let last : k ≡ 16 = lock-of-tool k part s0.view c.lock_of-held.ensures.number (subst (λ (x : PartState). IsPartOfSome k (part_of_value x) s0.view) is c.lock_of-held.ensures.state) in
    let took = sought-keeps k (part_of_value c.lock_of-held.result.value) t.0 t.1 s0 s1 t.2 in
    let known : IsAsKnown 16 (tool_part part) s1.view = subst (λ (n : ℕ). IsAsKnown n (tool_part part) s1.view) last
    (subst (λ (x : PartState). IsAsKnown k (part_of_value x) s1.view) is (sought-known k (part_of_value c.lock_of-held.result.value) t.0 t.1 s0 s1 t.2)) in
    let book = c.take_book-book.ensures in
    let checked = (subst (λ (x : LockTable). IsChecked x.opened.input) c.self.view_is c.self.invariant.checked) in
    let apart : 16 ≢ 17 = λ e. omega (arith, e) in
    let gave = gave_keeps c.new.result.lock s3 s4 c.unlock.ensures in
    let to_front : s4.view.front ≡ c.take_book-book.result.history = gave.front ∙ c.put_book.ensures.keeps.front ∙ book.sees.front in
    let input : c.take_book-book.result.input ≡ s0.view.input = book.has.input ∙ book.sees.input ∙ took.input in
    let listed = subst (λ (x : PartState). lists (part_of_value x) (name_number c.args.holder.name) ≡ true) is c.lock_of-held.ensures.lists in
    let later = as-known tool_lock (tool_part part) s1.view s2.view (book.locks 16 apart) known in
    record {
      stays = call-stays c.take_book-book.result s0 s1 s2 s3 s4 took book.sees (kept-stays s2 s3 c.put_book.ensures.keeps) gave;
      free = only-gone k s1 s2 s3 s4 (sought-only k (part_of_value c.lock_of-held.result.value) t.0 t.1 s0 s1 t.2) book.locks (keeps-all k s2.view s3.view c.put_book.ensures.locks)
          (subst (λ (j : ℕ). s4 ≡ sitting_with s3 (after_give j s3.view)) (c.new.ensures.lock ∙ c.lock-lock.ensures) c.unlock.ensures);
      nothing = done-held _ hall c.take_book-book.result s0 s1 s2 s3 s4 took book.sees book.has book.current gave c.requires.of.input checked actor (Ok done.Nothing)
          (free-settles _ hall c.take_book-book.result s2 book.has book.current checked (input ∙ c.requires.of.input) part later actor c.args.holder.name c.requires.holder.named listed s3 c.put_book.ensures.keeps);
      alone = λ other both.
          let there : AreTogether c.take_book-book.result.input.config.granularity (state_at c.take_book-book.result.input c.take_book-book.result.history) actor other =
          subst (λ (m : Machine). AreTogether m.config.granularity (state_at m c.take_book-book.result.history) actor other) (sym input)
          (subst (λ (h : List Entry). AreTogether s0.view.input.config.granularity (state_at s0.view.input h) actor other) to_front both) in
          free-alone _ hall c.take_book-book.result s2 book.has book.current checked (input ∙ c.requires.of.input) part later hall.opened.input (sym (input ∙ c.requires.of.input)) actor c.args.holder.name c.requires.holder.named
          listed there.place there.pool there.at there.has;
    }

pub returns-in-Pool-clause-some : goal.returns-in-Pool-clause-some
returns-in-Pool-clause-some g c =
    let hall = c.args.self.now in
    let k : ℕ = c.lock_of-held.result.lock in
    let t = c.lock_of-held.ensures.taken in
    let s0 = c.args.seat.now in
    let s1 = c.lock_of-held.new.seat in
    let slot = c.in-Pool.slot in
    let is : c.lock_of-held.result.value ≡ Pool slot = sym c.into_value.ensures ∙ c.in-Pool.is in
    let low : k < 16 = lock-of-pool k slot s0.view c.lock_of-held.ensures.number (subst (λ (x : PartState). IsPartOfSome k (part_of_value x) s0.view) is c.lock_of-held.ensures.state) in
    let took : KeepsSight s0 s1 = sought-keeps k (part_of_value c.lock_of-held.result.value) t.0 t.1 s0 s1 t.2 in
    let known = sought-known k (part_of_value c.lock_of-held.result.value) t.0 t.1 s0 s1 t.2 in
    let n : ℕ = name_number c.args.holder.name in
    let now : ℕ = c.read_word.result in
    let held : (arrived : Option Arrival) → IsArrivalOf hall (seated s0 arrived) → InHold hall k n now slot (seated s1 arrived) = λ arrived inside. record {
      of = of-hall hall s0 s1 c.requires.of (kept-stays s0 s1 took);
      only = sought-only k (part_of_value c.lock_of-held.result.value) t.0 t.1 s0 s1 t.2;
      knows = record {
        known = subst (λ (x : PartState). IsAsKnown k (part_of_value x) s1.view) is known;
        suits = subst (λ (m : Machine). ForSome slot (SlotSuits m s1.view.now)) (sym took.input) (subst (λ (x : PartState). suits_value s0.view.input s1.view.now x) is c.lock_of-held.ensures.suits);
      };
      has = c.lock_of-held.ensures.has;
      now = sym (c.read_word.ensures.tells.2 k known.0 refl known.1);
      inside = record { processor = inside.processor; counted = subst (λ (h : List Entry). ForSome arrived (IsCounted hall.opened.input.config.granularity h)) (sym took.front) inside.counted };
    } in
    record {
      low = subst (λ (j : ℕ). j < 16) (sym c.lock-lock.ensures) low;
      sight = subst (KeepsSight s0) (sym c.read_word.ensures.same) took;
      held = λ arrived inside. subst (λ (s : Sitting). InHold hall c.lock-lock.result.0 n now slot (seated s arrived)) (sym c.read_word.ensures.same)
          (subst (λ (j : ℕ). InHold hall j n now slot (seated s1 arrived)) (sym c.lock-lock.ensures) (held arrived inside));
    }
