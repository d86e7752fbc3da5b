-- What a whole call of the hall has seen and done, from its steps: locks are taken, the book is taken, something is settled with it, and the locks go back.
use mathlib.Core.List.{IsPrefix}
use Rattle.std.proofs.Common.{◌≡◌, ◌∙◌, ◌++◌, ◌&&◌, ℕ, true, false, List, [], ◌∷◌, length, refl, sym, ap, subst, arith, ◌≤◌, ◌<◌, inl, inr}
use Rattle.std.specs.Prelude.{Some, None, Option, Result, Ok, Err, IfOk, IfErr}
use Rattle.sched_base.specs.Numbers.{moment}
use Rattle.sched_base.specs.declared.Moment.{Moment}
use Rattle.sched_model.specs.declared.action.Action.{Action}
use Rattle.sched_model.specs.declared.action.Actor.{Actor}
use Rattle.sched_model.specs.declared.event.Entry.{Entry}
use Rattle.sched_model.specs.declared.event.Event.{Event}
use Rattle.sched_model.specs.declared.event.Event.TheVariants as event
use Rattle.sched_model.specs.declared.machine.Machine.{Machine}
use Rattle.sched_model.specs.declared.state.State.{State}
use Rattle.sched_model.specs.Actions.{candidates}
use Rattle.sched_model.specs.CheckedMachine.{IsChecked}
use Rattle.sched_model.specs.Machine.{event_of, first_enabled_action, is_action_enabled, next_in_horizon}
use Rattle.sched_model.specs.Runs.{IsNext, IsRun, IsWholeRun, event_action}
use Rattle.sched_model.proofs.RunLemmas.{find_passes, action_of-event_of}
use Rattle.sched_base.proofs.Bools.{and_right}
use Rattle.composition_laws.proofs.Entries.{rest_when_over}
use Rattle.composition_laws.specs.Actors.{first_by, is_by_actor}
use Rattle.composition_laws.proofs.WholeLemmas.{none_comes}
use Rattle.journal_core.specs.Books.{Chronicle}
use Rattle.journal_core.specs.Histories.{reached_by, state_at}
use Rattle.machine_parts.proofs.Performing.{first-comes}
use Rattle.machine_parts.specs.Places.{GoesOn}
use Rattle.machine_parts.specs.Told.{told_of}
use Rattle.machine_parts.proofs.Going.{entry-is, goes-on, state_of-is}
use Rattle.lock_moves.specs.SeatSight.{Sitting}
use Rattle.hall.specs.declared.turns.Done.{Done}
use Rattle.hall.specs.declared.turns.Done.TheVariants as done
use Rattle.hall.specs.declared.turns.Full.{Full}
use Rattle.hall.specs.declared.turns.Turn.{Turn}
use Rattle.hall.specs.declared.turns.Turn.TheVariants as turn
use Rattle.hall.specs.Seats.{IsCountBefore, SeatStays}
use Rattle.hall.specs.BookTurns.{DoneIn, FindsFull, FullWhole, Settles, SettlesEvent, SettlesFull, SettlesNothing, TurnIn, Turns, TurnsClose, TurnsFinish, TurnsOver, TurnsStep, state_in, AddsEvent}
use Rattle.hall.specs.Steps.{HasEntered, KeepsSight, SeesBook, HasBook}
use Rattle.hall.specs.Turns.{ActsFull, Added, HasActed, HasClosed, HasFinished, HasNothing, HasStepped, IsFull, IsOverAt, Looked, TurnsFull}
use Rattle.lock_moves.specs.Plays.{Current}
use Rattle.lock_moves.specs.Sets.{LockTable}
use Rattle.hall.proofs.Parting.{run-held}
use Rattle.std.proofs.lemmas.Bool.{cases_Bool}

-- the first action of an actor may come
pub actor-comes : (m : Machine) (s : State) (actor : Actor) (action : Action) → first_by m s actor ≡ Some action → is_action_enabled m s s.now action ≡ true
actor-comes m s actor action found =
    and_right (is_by_actor m s actor action) (is_action_enabled m s s.now action)
    (find_passes (λ a. is_by_actor m s actor a && is_action_enabled m s s.now a) (candidates m.config) action found)

-- where an action may come, the run is not over
pub goes-where : (b : Chronicle) → IsChecked b.input → IsRun b.input b.history → (action : Action) → is_action_enabled b.input (state_in b) (state_in b).now action ≡ true → GoesOn (told_of b)
goes-where b checked run action on =
    let s : State = state_at b.input b.history in
    let comes : is_action_enabled b.input s s.now action ≡ true = subst (λ (x : State). is_action_enabled b.input x x.now action ≡ true) (state_of-is (told_of b)) on in
    let goes : (reached_by b.input b.history).over ≡ false = elim (cases_Bool (reached_by b.input b.history).over) [
      | inl ended ↦ absurd (none_comes b.input checked b.history run s.now (rest_when_over b.input b.history run ended).now action comes)
      | inr goes ↦ goes
    ] in
    record { checked = checked; run = run; goes = goes }

-- the history with the event of an action that may come is a run's beginning
pub run-with : (b : Chronicle) → IsChecked b.input → IsRun b.input b.history → (action : Action) → is_action_enabled b.input (state_in b) (state_in b).now action ≡ true → (e : Event) → e ≡ event_of b.input (state_in b) (state_in b).now action
    → IsRun b.input (b.history ++ record { at = moment (state_in b).now; event = e } ∷ [])
run-with b checked run action on e is =
    let entry : Entry = record { at = moment (state_in b).now; event = e } in
    (goes-on (told_of b) (goes-where b checked run action on) action on entry (entry-is (told_of b) action entry refl is)).run

-- the event of an action that may come was added to the book
pub adds-event : (b : Chronicle) (s new : Sitting) (action : Action) (t : Moment) (place : ℕ) (e : Event) (decides : ℕ) (m : Machine) → b.input ≡ m → t.0 ≡ (state_in b).now → place ≡ length b.history → e ≡ event_of b.input (state_in b) (state_in b).now action
    → HasEntered b (record { at = t; event = e }) s new → ((x : Event) → event_action x ≡ Some action → IsCountBefore m.config.granularity b.history x decides) → AddsEvent place e decides b s new
adds-event b s new action t place e decides m input now place_is is entered count = record {
  place_is = place_is;
  entered = subst (λ (a : Moment). HasEntered b (record { at = a; event = e }) s new) (ap moment now) entered;
  counted = subst (λ (x : Machine). IsCountBefore x.config.granularity b.history e decides) (sym input) (count e (ap event_action is ∙ action_of-event_of b.input (state_in b) (state_in b).now action));
}

-- the book went back as it was, since it had no room
pub finds-full : (b : Chronicle) (s new : Sitting) (full : Full) → KeepsSight s new → full.events ≡ b.limit → length b.history ≤ b.limit → (length b.history < b.limit → ⊥) → FindsFull full b s new
finds-full b s new full keeps events fits no_room = record { keeps = keeps; events = events; length_is = omega (arith, fits, no_room) }

-- the action is the first one of the actor
module _ (b : Chronicle) (s new : Sitting) (actor : Actor) (action : Action) (found : first_by b.input (state_in b) actor ≡ Some action) where
  pub settles-event : (t : Moment) (place : ℕ) (e : Event) → t.0 ≡ (state_in b).now → place ≡ length b.history → e ≡ event_of b.input (state_in b) (state_in b).now action → HasEntered b (record { at = t; event = e }) s new → SettlesEvent actor place e b s new
  settles-event t place e now place_is is entered = record {
    action = action;
    first = found;
    is_event = is;
    place_is = place_is;
    entered = subst (λ (a : Moment). HasEntered b (record { at = a; event = e }) s new) (ap moment now) entered;
  }

  pub settles-full : (full : Full) → FindsFull full b s new → SettlesFull actor full b s new
  settles-full full finds = record { finds = finds; due = λ none. (let clash : (let o : Option Action = Some action in o) ≡ None = sym found ∙ none in cc) }

-- what keeps the sight, or adds an entry, leaves the seat's hall and its parts
pub kept-stays : (old new : Sitting) → KeepsSight old new → SeatStays old new
kept-stays old new keeps = record { table = keeps.table; input = keeps.input; limit = keeps.limit; shares = keeps.shares }

pub entered-stays : (b : Chronicle) (e : Entry) (old new : Sitting) → HasEntered b e old new → SeatStays old new
entered-stays b e old new entered = record { table = entered.table; input = entered.input; limit = entered.limit; shares = entered.shares }

-- so does a call that takes locks and the book, does the like, and gives the locks back
pub call-stays : (b : Chronicle) (s0 s1 s2 s3 s4 : Sitting) → KeepsSight s0 s1 → SeesBook b s1 s2 → SeatStays s2 s3 → KeepsSight s3 s4 → SeatStays s0 s4
call-stays b s0 s1 s2 s3 s4 took sees stays gave = record {
  table = gave.table ∙ stays.table ∙ sees.table ∙ took.table;
  input = gave.input ∙ stays.input ∙ sees.input ∙ took.input;
  limit = gave.limit ∙ stays.limit ∙ sees.limit ∙ took.limit;
  shares = gave.shares ∙ stays.shares ∙ sees.shares ∙ took.shares;
}

module _ (b : Chronicle) (s0 s1 s2 s3 s4 : Sitting) (took : KeepsSight s0 s1) (sees : SeesBook b s1 s2) (gave : KeepsSight s3 s4) (input : b.input ≡ s0.view.input) (checked : IsChecked b.input) (run : IsRun b.input b.history) where
  state-is : state_in b ≡ state_at s0.view.input b.history
  state-is = state_of-is (told_of b) ∙ ap (λ (m : Machine). state_at m b.history) input

  -- what holds of the machine and the state of the book, holds of the seat's input and that history
  at-seat : (P : Machine → State → Type 0) → P b.input (state_in b) → P s0.view.input (state_at s0.view.input b.history)
  at-seat P p = subst (λ (m : Machine). P m (state_at s0.view.input b.history)) input (subst (P b.input) state-is p)

  begins-in : IsPrefix s0.view.front b.history
  begins-in = subst (λ (f : List Entry). IsPrefix f b.history) took.front sees.begins

  pub looked-in : KeepsSight s2 s3 → Looked s0.view s4.view
  looked-in keeps =
      let front : s4.view.front ≡ b.history = gave.front ∙ keeps.front ∙ sees.front in
      record {
        begins = subst (IsPrefix s0.view.front) (sym front) begins-in;
        run = subst (IsRun s0.view.input) (sym front) (subst (λ (m : Machine). IsRun m b.history) input run);
        own = gave.own ∙ keeps.own ∙ sees.own ∙ took.own;
        took = (let a = took.takes in let c = sees.takes in let d = keeps.takes in let e = gave.takes in omega (arith, a, c, d, e));
        alone = λ whole. front ∙ sees.alone (took.shares ∙ whole) ∙ took.front;
      }

  front-in : KeepsSight s2 s3 → s4.view.front ≡ b.history
  front-in keeps = gave.front ∙ keeps.front ∙ sees.front

  pub added-in : (place : ℕ) (e : Event) → place ≡ length b.history → HasEntered b (record { at = moment (state_in b).now; event = e }) s2 s3
      → IsRun b.input (b.history ++ record { at = moment (state_in b).now; event = e } ∷ []) → Added place e b.history s0.view s4.view
  added-in place e place_is entered grown =
      let entry : State → Entry = λ (s : State). record { at = moment s.now; event = e } in
      let front : s4.view.front ≡ b.history ++ entry (state_in b) ∷ [] = gave.front ∙ entered.front in
      record {
        begins = begins-in;
        place_is = place_is;
        front = front ∙ ap (λ (s : State). b.history ++ entry s ∷ []) state-is;
        run = subst (IsRun s0.view.input) (sym front) (subst (λ (m : Machine). IsRun m (b.history ++ entry (state_in b) ∷ [])) input grown);
        own = gave.own ∙ entered.own ∙ ap (λ (xs : List ℕ). xs ++ length b.history ∷ []) (sees.own ∙ took.own) ∙ ap (λ (n : ℕ). s0.view.own ++ n ∷ []) (sym place_is);
        took = (let a = took.takes in let c = sees.takes in let d = entered.takes in let f = gave.takes in omega (arith, a, c, d, f));
        alone = λ whole. sees.alone (took.shares ∙ whole) ∙ took.front;
      }

  count-in : (e : Event) (decides : ℕ) → IsCountBefore b.input.config.granularity b.history e decides → IsCountBefore s0.view.input.config.granularity b.history e decides
  count-in e decides counted = subst (λ (m : Machine). IsCountBefore m.config.granularity b.history e decides) input counted

  acted-in : (actor : Actor) (place : ℕ) (e : Event) → SettlesEvent actor place e b s2 s3 → HasActed actor place e b.history s0.view s4.view
  acted-in actor place e settled =
      let on = actor-comes b.input (state_in b) actor settled.action settled.first in
      record {
        action = settled.action;
        first = at-seat (λ m s. first_by m s actor ≡ Some settled.action) settled.first;
        is_event = at-seat (λ m s. e ≡ event_of m s s.now settled.action) settled.is_event;
        added = added-in place e settled.place_is settled.entered (run-with b checked run settled.action on e settled.is_event);
      }

  nothing-in : (actor : Actor) → SettlesNothing actor b s2 s3 → HasNothing actor s0.view s4.view
  nothing-in actor settled = record {
    looked = looked-in settled.keeps;
    none = subst (λ (h : List Entry). first_by s0.view.input (state_at s0.view.input h) actor ≡ None) (sym (front-in settled.keeps)) (at-seat (λ m s. first_by m s actor ≡ None) settled.none);
  }

  done-in : (actor : Actor) (d : Done) → Settles actor d b s2 s3 → DoneIn actor d s0.view s4.view
  done-in actor (done.Event place e) settled = (b.history, acted-in actor place e settled)
  done-in actor done.Nothing settled = nothing-in actor settled

  full-is : (full : Full) → b.limit ≡ s2.view.limit → FindsFull full b s2 s3 → IsFull full s4.view
  full-is full limit finds =
      let last : b.limit ≡ s4.view.limit = limit ∙ sym finds.keeps.limit ∙ sym gave.limit in
      record { events = finds.events ∙ last; length_is = ap length (front-in finds.keeps) ∙ finds.length_is ∙ last }

  acts-full : (actor : Actor) (full : Full) → b.limit ≡ s2.view.limit → SettlesFull actor full b s2 s3 → ActsFull actor full s0.view s4.view
  acts-full actor full limit settled = record {
    looked = looked-in settled.finds.keeps;
    full_is = full-is full limit settled.finds;
    due = λ none. settled.due (
        let there : first_by s0.view.input (state_at s0.view.input b.history) actor ≡ None = subst (λ (h : List Entry). first_by s0.view.input (state_at s0.view.input h) actor ≡ None) (front-in settled.finds.keeps) none in
        subst (λ (s : State). first_by b.input s actor ≡ None) (sym state-is) (subst (λ (m : Machine). first_by m (state_at s0.view.input b.history) actor ≡ None) (sym input) there)
        );
  }

  step-in : (place : ℕ) (e : Event) (decides : ℕ) → TurnsStep place e decides b s2 s3 → TurnIn (turn.Stepped place e) decides s0.view s4.view
  step-in place e decides settled =
      let on = first-comes b.input (state_in b) settled.action settled.first in
      let stepped : HasStepped place e b.history s0.view s4.view = record {
        action = settled.action;
        first = at-seat (λ m s. first_enabled_action m s s.now ≡ Some settled.action) settled.first;
        is_event = at-seat (λ m s. e ≡ event_of m s s.now settled.action) settled.is_event;
        added = added-in place e settled.adds.place_is settled.adds.entered (run-with b checked run settled.action on e settled.is_event);
      } in
      (b.history, stepped, count-in e decides settled.adds.counted)

  close-in : (place : ℕ) (next : Moment) → TurnsClose place next b s2 s3 → HasClosed place next b.history s0.view s4.view
  close-in place next settled = record {
    quiet = at-seat (λ m s. first_enabled_action m s s.now ≡ None) settled.quiet;
    next_is = at-seat (λ m s. next_in_horizon m s ≡ Some next.0) settled.next_is;
    added = added-in place (event.End next) settled.place_is settled.entered settled.grown;
  }

  finish-in : (place : ℕ) → TurnsFinish place b s2 s3 → HasFinished place b.history s0.view s4.view
  finish-in place settled = record {
    quiet = at-seat (λ m s. first_enabled_action m s s.now ≡ None) settled.quiet;
    last = at-seat (λ m s. next_in_horizon m s ≡ None) settled.last;
    added = added-in place event.Finish settled.place_is settled.entered settled.grown;
  }

  over-in : (place : ℕ) → TurnsOver place b s2 s3 → IsOverAt place s0.view s4.view
  over-in place settled = record {
    looked = looked-in settled.keeps;
    before = settled.before;
    last = settled.last;
    front = front-in settled.keeps ∙ settled.history_is;
    is_finish = settled.is_finish;
    place_is = settled.place_is;
    whole = subst (IsWholeRun s0.view.input) (sym (front-in settled.keeps)) (subst (λ (m : Machine). IsWholeRun m b.history) input settled.whole);
  }

  turn-in : (t : Turn) (decides : ℕ) → Turns t decides b s2 s3 → TurnIn t decides s0.view s4.view
  turn-in (turn.Stepped place e) decides settled = step-in place e decides settled
  turn-in (turn.Closed place next) decides settled = (b.history, close-in place next settled)
  turn-in (turn.Finished place) decides settled = (b.history, finish-in place settled)
  turn-in (turn.Over place) decides settled = over-in place settled

  turns-full : (full : Full) → b.limit ≡ s2.view.limit → FullWhole full b s2 s3 → TurnsFull full s0.view s4.view
  turns-full full limit settled = record {
    looked = looked-in settled.finds.keeps;
    full_is = full-is full limit settled.finds;
    due = (
      settled.due.0,
      subst (λ (h : List Entry). IsNext s0.view.input (reached_by s0.view.input h) settled.due.0) (sym (front-in settled.finds.keeps)) (subst (λ (m : Machine). IsNext m (reached_by m b.history) settled.due.0) input settled.due.1),
    );
  }

-- the same of a seat of a hall
module _ (set hall : LockTable) (b : Chronicle) (s0 s1 s2 s3 s4 : Sitting) (took : KeepsSight s0 s1) (sees : SeesBook b s1 s2) (has : HasBook set b s2) (current : Current s2.view) (gave : KeepsSight s3 s4) (of : s0.view.input ≡ hall.opened.input) (of_hall : IsChecked hall.opened.input) where
  input-held : b.input ≡ s0.view.input
  input-held = has.input ∙ sees.input ∙ took.input

  checked-held : IsChecked b.input
  checked-held = subst IsChecked (sym (input-held ∙ of)) of_hall

  pub done-held : (actor : Actor) (r : Result Done Full) → IfOk r (λ d. Settles actor d b s2 s3) → IfOk r (λ d. DoneIn actor d s0.view s4.view)
  done-held actor (Ok d) settled = done-in b s0 s1 s2 s3 s4 took sees gave input-held checked-held (run-held set b s2 has current) actor d settled
  done-held actor (Err full) settled = tt

  -- and the entry of an event stands behind the book's history
  pub acted-held : (actor : Actor) (place : ℕ) (e : Event) → SettlesEvent actor place e b s2 s3 → HasActed actor place e b.history s0.view s4.view
  acted-held = acted-in b s0 s1 s2 s3 s4 took sees gave input-held checked-held (run-held set b s2 has current)

  pub fills-held : (actor : Actor) (r : Result Done Full) → IfErr r (λ full. SettlesFull actor full b s2 s3) → IfErr r (λ full. ActsFull actor full s0.view s4.view)
  fills-held actor (Ok d) settled = tt
  fills-held actor (Err full) settled = acts-full b s0 s1 s2 s3 s4 took sees gave input-held checked-held (run-held set b s2 has current) actor full has.limit settled

  pub turned-held : (t : Turn) (decides : ℕ) → Turns t decides b s2 s3 → TurnIn t decides s0.view s4.view
  turned-held = turn-in b s0 s1 s2 s3 s4 took sees gave input-held checked-held (run-held set b s2 has current)

  pub filled-held : (full : Full) → FullWhole full b s2 s3 → TurnsFull full s0.view s4.view
  filled-held full = turns-full b s0 s1 s2 s3 s4 took sees gave input-held checked-held (run-held set b s2 has current) full has.limit
