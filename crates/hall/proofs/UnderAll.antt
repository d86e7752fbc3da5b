-- What the tool's call does under all locks, and whether a run is over.
use Rattle.std.proofs.Common.{◌≡◌, ◌∙◌, ℕ, zero, suc, Bool, true, false, List, [], ◌∷◌, ◌++◌, length, refl, sym, ap, subst, arith, inl, inr, true≢false}
use Rattle.std.specs.Prelude.{◌&&◌, ◌↔◌, Option, Some, None, Result, Ok, Err, IfOk, IfErr, slice_get, if◌then◌else◌}
use Rattle.std.proofs.lemmas.Bool.{cases_Bool}
use Rattle.sched_model.specs.declared.action.Action.{Action}
use Rattle.sched_model.specs.declared.action.Action.TheVariants.{Arrive, Leave, Stall, Xl}
use Rattle.sched_model.specs.declared.action.Actor.{Actor}
use Rattle.sched_model.specs.declared.action.Actor.TheVariants.{Tool}
use Rattle.sched_model.specs.declared.event.Entry.{Entry}
use Rattle.sched_model.specs.declared.event.Event.{Event}
use Rattle.sched_model.specs.declared.event.Event.TheVariants as event
use Rattle.sched_model.specs.declared.machine.Machine.{Machine}
use Rattle.sched_model.specs.declared.state.State.{State}
use Rattle.sched_model.specs.Actions.{candidates, home_pool_of_action}
use Rattle.sched_model.specs.CheckedMachine.{IsChecked}
use Rattle.sched_model.specs.Machine.{event_of, is_action_enabled}
use Rattle.sched_model.specs.Places.{test_at}
use Rattle.sched_model.specs.Runs.{IsRun}
use Rattle.sched_model.proofs.RunLemmas.{find_passes}
use Rattle.sched_base.proofs.Bools.{and_left}
use Rattle.sched_laws.proofs.Lists.{some-test_at}
use Rattle.pool_laws.specs.Actors.{is_by}
use Rattle.run_laws.specs.RunLaws.{IsOver}
use Rattle.composition_laws.proofs.Entries.{over_at_finish}
use Rattle.composition_laws.specs.Actors.{first_by, is_by_actor, is_by_at_home}
use Rattle.composition_laws.specs.WholeFirst.{first_tool_move, first_tool_action}
use Rattle.composition_laws.proofs.Actors.{tool_is_first}
use Rattle.journal_core.specs.Books.{Chronicle}
use Rattle.journal_core.specs.Histories.{now_at, reached_by, state_at}
use Rattle.journal_core.specs.Parts.{state_under_way}
use Rattle.machine_parts.specs.Places.{state_of}
use Rattle.machine_parts.specs.Told.{Told, told_of}
use Rattle.machine_parts.proofs.Going.{now_of-is, state_of-is}
use Rattle.lock_moves.specs.Plays.{Current}
use Rattle.lock_moves.specs.Sets.{LockTable}
use Rattle.lock_moves.specs.SeatSight.{AllBelow, Seen, Sitting, find_lock}
use Rattle.lock_moves.proofs.Holding.{all_below}
use Rattle.hall.specs.declared.all.AllParts.{AllParts}
use Rattle.hall.specs.declared.seat.Arrival.{Arrival}
use Rattle.hall.specs.declared.turns.Done.{Done}
use Rattle.hall.specs.declared.turns.Done.TheVariants as done
use Rattle.hall.specs.declared.turns.Full.{Full}
use Rattle.hall.specs.SeatKnowledge.{KnowsAll}
use Rattle.hall.specs.Seats.{SeatStays, kept_arrival}
use Rattle.hall.specs.BookTurns.{DoneIn, Settles, SettlesFull, state_in}
use Rattle.hall.specs.Holds.{seated}
use Rattle.hall.specs.Steps.{HasBook}
use Rattle.hall.specs.Turns.{IsDone}
use Rattle.hall.proofs.Calls.{actor-comes, entered-stays, kept-stays, goes-where}
use Rattle.hall.proofs.Locking.{all_held}
use Rattle.hall.proofs.Parting.{now-held, run-held}

-- a list whose last element is x
ends-in : {X : Type 0} (xs : List X) (n : ℕ) (x : X) → slice_get xs n ≡ Some x → length xs ≡ suc n → (before : List X) × (xs ≡ before ++ x ∷ [])
ends-in [] n x is count = absurd (cc)
ends-in (y ∷ []) zero x is count = (let same : y ≡ x = cc in ([], ap (λ z. z ∷ []) same))
ends-in (y ∷ []) (suc n) x is count = absurd (omega (arith, count))
ends-in (y ∷ z ∷ ys) zero x is count = absurd (omega (arith, count))
ends-in {X} (y ∷ z ∷ ys) (suc n) x is count = (let r = ends-in (z ∷ ys) n x is (omega (arith, count)) in (y ∷ r.0, ap (λ (l : List X). y ∷ l) r.1))

-- the run is over exactly where its last entry is a Finish
pub over-there : (m : Machine) (h : List Entry) (n : ℕ) (last : Entry) → IsRun m h → slice_get h n ≡ Some last → length h ≡ suc n → IsOver m h ↔ (last.event ≡ event.Finish)
over-there m h n last run is count =
    let r = ends-in h n last is count in
    subst (λ (xs : List Entry). IsOver m xs ↔ (last.event ≡ event.Finish)) (sym r.1) (over_at_finish m r.0 last (subst (IsRun m) r.1 run))

pub over-not : (m : Machine) (h : List Entry) (n : ℕ) (last : Entry) → IsRun m h → slice_get h n ≡ Some last → length h ≡ suc n → (last.event ≡ event.Finish → ⊥) → false ≡ (reached_by m h).over
over-not m h n last run is count other = elim (cases_Bool (reached_by m h).over) [ inl over ↦ absurd (other ((over-there m h n last run is count).0 over)) | inr goes ↦ sym goes ]

-- the tool's first action is a command only where no stall may come
stall-or : (b : Bool) (rest : Option Action) → (if b then Some Stall else rest) ≡ Some Xl → b ≡ false
stall-or true rest is = absurd (cc)
stall-or false rest is = refl

pub command-first : (m : Machine) (s : State) (t : ℕ) → first_tool_action m s t ≡ Some Xl → is_action_enabled m s t Stall ≡ false
command-first m s t is = stall-or (is_action_enabled m s t Stall) (if is_action_enabled m s t Xl then Some Xl else first_tool_move m s t (state_under_way s)) is

pub none-else : (o : Option Action) → ((a : Action) → o ≡ Some a → ⊥) → o ≡ None
none-else None other = refl
none-else (Some a) other = absurd (other a refl)

-- the tool's first action that was found is that of the book's state
pub tool-found : (b : Chronicle) (found : Option Action) (w : Told) (t : ℕ) → w ≡ told_of b → t ≡ now_at b.input b.history → found ≡ first_tool_action w.input (state_of w) t → first_tool_action b.input (state_in b) (state_in b).now ≡ found
tool-found b found w t told now is = sym (is ∙ (λ i. first_tool_action (told i).input (state_of (told i)) ((now ∙ now_of-is (told_of b)) i)))

-- with the book in hand
module _ (set : LockTable) (b : Chronicle) (s : Sitting) (has : HasBook set b s) (current : Current s.view) where
  pub time-held : (t : ℕ) → t ≡ now_at b.input b.history → t ≡ s.view.now
  time-held t is = is ∙ now_of-is (told_of b) ∙ sym (now-held set b s has current)

  module _ (checked : IsChecked b.input) where
    run : IsRun b.input b.history
    run = run-held set b s has current

    -- nothing comes where the run is over
    pub over-none : (reached_by b.input b.history).over ≡ true → (actor : Actor) → first_by b.input (state_in b) actor ≡ None
    over-none ended actor = none-else (first_by b.input (state_in b) actor) (λ a found. true≢false (sym ended ∙ (goes-where b checked run a (actor-comes b.input (state_in b) actor a found)).goes))

    pub first-is : first_by b.input (state_in b) Tool ≡ first_tool_action b.input (state_in b) (state_in b).now
    first-is = subst (λ (x : State). first_by b.input x Tool ≡ first_tool_action b.input x x.now) (sym (state_of-is (told_of b))) (tool_is_first b.input checked b.history run)

-- what was settled with the book leaves the seat's hall and its parts
done-stays : (actor : Actor) (b : Chronicle) (s new : Sitting) (d : Done) → Settles actor d b s new → SeatStays s new
done-stays actor b s new (done.Event place e) settled = entered-stays b _ s new settled.entered
done-stays actor b s new done.Nothing settled = kept-stays s new settled.keeps

pub stays-settled : (actor : Actor) (b : Chronicle) (s new : Sitting) (r : Result Done Full) → IfOk r (λ d. Settles actor d b s new) → IfErr r (λ e. SettlesFull actor e b s new) → SeatStays s new
stays-settled actor b s new (Ok d) settled full = done-stays actor b s new d settled
stays-settled actor b s new (Err e) settled full = kept-stays s new full.finds.keeps

-- no event of a pool is the tool's, so what the tool does changes no arrival that a seat keeps
no-tool : (m : Machine) (s : State) (action : Action) → is_by_at_home m s Tool action ≡ true → ⊥
no-tool m s action = by_home (home_pool_of_action m.config.granularity s action)
  where
    by_home : (o : Option ℕ) → elim o as (λ _. Bool) [ None ↦ false | Some i ↦ test_at s.pools i (λ pool. is_by m.config.granularity pool Tool action) ] ≡ true → ⊥
    by_home None is = absurd (cc)
    by_home (Some i) is = (let x = some-test_at s.pools i (λ pool. is_by m.config.granularity pool Tool action) is in let by = x.2 in absurd (cc))

tool-keeps : (m : Machine) (s : State) (before : List Entry) (kept : Option Arrival) (action : Action) → is_by_actor m s Tool action ≡ true → kept_arrival m.config.granularity before (event_of m s s.now action) kept ≡ kept
tool-keeps m s before kept (Arrive p) by = absurd (no-tool m s (Arrive p) by)
tool-keeps m s before kept (Leave p) by = absurd (no-tool m s (Leave p) by)
tool-keeps m s before kept action by = refl

tool-done : (old new : Sitting) (kept : Option Arrival) (d : Done) → DoneIn Tool d old.view new.view → IsDone Tool d (seated old kept) (seated new kept)
tool-done old new kept (done.Event place e) told =
    let m = old.view.input in
    let s : State = state_at m told.0 in
    let acted = told.1 in
    let by : is_by_actor m s Tool acted.action ≡ true =
    and_left (is_by_actor m s Tool acted.action) (is_action_enabled m s s.now acted.action)
    (find_passes (λ a. is_by_actor m s Tool a && is_action_enabled m s s.now a) (candidates m.config) acted.action acted.first) in
    (told.0, acted, sym (ap (λ (x : Event). kept_arrival m.config.granularity told.0 x kept) acted.is_event ∙ tool-keeps m s told.0 kept acted.action by))
tool-done old new kept done.Nothing told = (told, refl)

pub tool-answer : (old new : Sitting) (kept : Option Arrival) (r : Result Done Full) → IfOk r (λ d. DoneIn Tool d old.view new.view) → IfOk r (λ d. IsDone Tool d (seated old kept) (seated new kept))
tool-answer old new kept (Ok d) told = tool-done old new kept d told
tool-answer old new kept (Err full) told = tt

-- all parts stay known where the book was taken
pub below-book : (all : AllParts) (v : Seen) → KnowsAll all v → find_lock 17 v.held ≡ None → AllBelow 17 v.held
below-book all v knows book = all_below 17 v (all_held all v knows book).others
