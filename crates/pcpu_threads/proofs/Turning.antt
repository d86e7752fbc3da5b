-- What turns of the whole machine make of the history that a seat has seen, and how they end the run.
use mathlib.Core.List.{IsPrefix}
use Rattle.std.proofs.Common.{◌≡◌, ◌∙◌, ◌++◌, true, List, [], ◌∷◌, refl, sym, ap, subst, append_assoc}
use Rattle.std.specs.Prelude.{Some, Result, Ok, Err, IfOk, IfErr, IfSome}
use Rattle.sched_base.specs.Numbers.{moment}
use Rattle.sched_base.specs.declared.Moment.{Moment}
use Rattle.sched_model.specs.declared.action.Action.{Action}
use Rattle.sched_model.specs.declared.event.Entry.{Entry}
use Rattle.sched_model.specs.declared.event.Event.{Event}
use Rattle.sched_model.specs.declared.event.Event.TheVariants as event
use Rattle.sched_model.specs.declared.machine.Machine.{Machine}
use Rattle.sched_model.specs.declared.state.State.{State}
use Rattle.sched_model.specs.Machine.{event_of, first_enabled_action}
use Rattle.sched_model.specs.Runs.{IsNext, IsRun, IsWholeRun, Reached, event_action, run_start}
use Rattle.sched_model.proofs.RunLemmas.{action_of-event_of, after_entries-append}
use Rattle.run_laws.specs.RunLaws.{IsOrderedFrom, IsOrderedRun, TakesFirst}
use Rattle.journal_core.specs.Books.{Chronicle}
use Rattle.journal_core.specs.Histories.{reached_by, state_at}
use Rattle.lock_moves.proofs.Prefix.{prefix_more, prefix_refl}
use Rattle.hall.specs.declared.turns.Full.{Full}
use Rattle.hall.specs.declared.turns.Turn.{Turn}
use Rattle.hall.specs.declared.turns.Turn.TheVariants as turn
use Rattle.hall.specs.Seats.{Seated, Stays}
use Rattle.hall.specs.Turns.{Added, HasFinished, IsTurn, Looked, TurnsFull}
use Rattle.pcpu_threads.specs.declared.ends.RunEnd.TheVariants as run_end
use Rattle.pcpu_threads.specs.Ends.{Closes, IsEnded, book_seen, run_end_after}
use Rattle.run_laws.proofs.Ordered.{IsOrderedFrom-append}

-- a beginning of a beginning
pub prefix_trans : {A : Type 0} (xs ys zs : List A) → IsPrefix xs ys → IsPrefix ys zs → IsPrefix xs zs
prefix_trans {A} xs ys zs p q = (p.0 ++ q.0, sym (append_assoc xs p.0 q.0) ∙ ap (λ (z : List A). z ++ q.0) p.1 ∙ q.1)

pub stays_refl : (s : Seated) → Stays s s
stays_refl s = record { table = refl; input = refl; limit = refl; shares = refl }

pub stays_trans : (a b c : Seated) → Stays a b → Stays b c → Stays a c
stays_trans a b c u v = record { table = v.table ∙ u.table; input = v.input ∙ u.input; limit = v.limit ∙ u.limit; shares = v.shares ∙ u.shares }

ordered-more : (m : Machine) (h longer : List Entry) (e : Entry) → IsOrderedRun m h → IsRun m longer → longer ≡ h ++ e ∷ [] → TakesFirst m (state_at m h) (event_action e.event) → IsOrderedRun m longer
ordered-more m h longer e ordered run is first = record { run = run; ordered = subst (IsOrderedFrom m (run_start m)) (sym is) (IsOrderedFrom-append m (run_start m) h e ordered.ordered first) }

-- the event of the first action takes it
takes-first : (m : Machine) (s : State) (action : Action) (e : Event) → first_enabled_action m s s.now ≡ Some action → e ≡ event_of m s s.now action → TakesFirst m s (event_action e)
takes-first m s action e first is = subst (TakesFirst m s) (sym (ap event_action is ∙ action_of-event_of m s s.now action)) first

module _ (old new : Seated) (stays : Stays old new) where
  abbrev m : Machine
  m = old.sitting.view.input

  closes-added : (place : _) (e : Event) (before : List Entry) → Added place e before old.sitting.view new.sitting.view → TakesFirst m (state_at m before) (event_action e) → Closes old new
  closes-added place e before added first =
      let entry : Entry = record { at = moment (state_at m before).now; event = e } in
      record {
        stays = stays;
        begins = subst (IsPrefix old.sitting.view.front) (sym added.front) (prefix_more old.sitting.view.front before entry added.begins);
        ordered = λ whole ordered. subst (λ (q : Machine). IsOrderedRun q new.sitting.view.front) (sym stays.input)
            (ordered-more m before new.sitting.view.front entry (subst (IsOrderedRun m) (sym (added.alone whole)) ordered) added.run added.front first);
      }

  closes-looked : Looked old.sitting.view new.sitting.view → Closes old new
  closes-looked looked = record {
    stays = stays;
    begins = looked.begins;
    ordered = λ whole ordered. subst (λ (q : Machine). IsOrderedRun q new.sitting.view.front) (sym stays.input) (subst (IsOrderedRun m) (sym (looked.alone whole)) ordered);
  }

  closes-turn : (t : Turn) → IsTurn t old new → Closes old new
  closes-turn (turn.Stepped place e) told = closes-added place e told.0 told.1.added (takes-first m (state_at m told.0) told.1.action e told.1.first told.1.is_event)
  closes-turn (turn.Closed place next) told = closes-added place (event.End next) told.0 told.1.added tt
  closes-turn (turn.Finished place) told = closes-added place event.Finish told.0 told.1.added tt
  closes-turn (turn.Over place) told = closes-looked told.0.looked

  pub closes-said : (r : Result Turn Full) → IfOk r (λ t. IsTurn t old new) → IfErr r (λ full. TurnsFull full old.sitting.view new.sitting.view) → Closes old new
  closes-said (Ok t) turns full = closes-turn t turns
  closes-said (Err f) turns full = closes-looked full.looked

  run-seen : IsRun m new.sitting.view.front → IsRun new.sitting.view.input new.sitting.view.front
  run-seen run = subst (λ (q : Machine). IsRun q new.sitting.view.front) (sym stays.input) run

  -- a Finish ends the run
  over-finish : (before : List Entry) (t : Moment) → (reached_by m (before ++ record { at = t; event = event.Finish } ∷ [])).over ≡ true
  over-finish before t = ap (λ (r : Reached). r.over) (after_entries-append m (run_start m) before (record { at = t; event = event.Finish }))

  ended-whole : IsWholeRun m new.sitting.view.front → IsEnded run_end.Finished (book_seen new.sitting.view)
  ended-whole whole = record {
    run = run-seen whole.0;
    finished = λ is. subst (λ (q : Machine). IsWholeRun q new.sitting.view.front) (sym stays.input) whole;
    full = λ is. absurd (cc);
  }

  ended-finished : (place : _) (before : List Entry) → HasFinished place before old.sitting.view new.sitting.view → IsEnded run_end.Finished (book_seen new.sitting.view)
  ended-finished place before told =
      let over = over-finish before (moment (state_at m before).now) in
      ended-whole (told.added.run, subst (λ (h : List Entry). (reached_by m h).over ≡ true) (sym told.added.front) over)

  ended-full : (f : Full) → TurnsFull f old.sitting.view new.sitting.view → IsEnded run_end.Full (book_seen new.sitting.view)
  ended-full f told = record {
    run = run-seen told.looked.run;
    finished = λ is. absurd (cc);
    full = λ is. record {
      full = told.full_is.length_is;
      due = (told.due.0, subst (λ (q : Machine). IsNext q (reached_by q new.sitting.view.front) told.due.0) (sym stays.input) told.due.1);
    };
  }

  ended-turn : (t : Turn) → IsTurn t old new → IfSome (run_end_after (Ok t)) (λ end. IsEnded end (book_seen new.sitting.view))
  ended-turn (turn.Stepped place e) told = tt
  ended-turn (turn.Closed place next) told = tt
  ended-turn (turn.Finished place) told = ended-finished place told.0 told.1
  ended-turn (turn.Over place) told = ended-whole told.0.whole

  pub ended-said : (r : Result Turn Full) → IfOk r (λ t. IsTurn t old new) → IfErr r (λ full. TurnsFull full old.sitting.view new.sitting.view) → IfSome (run_end_after r) (λ end. IsEnded end (book_seen new.sitting.view))
  ended-said (Ok t) turns full = ended-turn t turns
  ended-said (Err f) turns full = ended-full f full

-- a seat that has done nothing, and one turn after others
pub closes_refl : (s : Seated) → Closes s s
closes_refl s = record { stays = stays_refl s; begins = prefix_refl s.sitting.view.front; ordered = λ whole ordered. ordered }

pub closes_trans : (a b c : Seated) → Closes a b → Closes b c → Closes a c
closes_trans a b c u v = record {
  stays = stays_trans a b c u.stays v.stays;
  begins = prefix_trans a.sitting.view.front b.sitting.view.front c.sitting.view.front u.begins v.begins;
  ordered = λ whole ordered. v.ordered (u.stays.shares ∙ whole) (u.ordered whole ordered);
}

-- the book with which a hall ends is what its last seat has seen
pub book-is : (b c : Chronicle) → b.input ≡ c.input → b.limit ≡ c.limit → b.history ≡ c.history → b ≡ c
book-is b c input limit history = λ i. record { input = input i; history = history i; limit = limit i }
