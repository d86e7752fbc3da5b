-- A turn of the whole machine, from what its steps tell.
use Rattle.std.proofs.Common.{◌≡◌, ◌∙◌, zero, suc, ℕ, true, List, [], ◌∷◌, ◌++◌, length, replicate, refl, sym, ap, subst, arith, ◌-◌}
use Rattle.std.specs.Prelude.{Option, Some, None, option_map}
use Rattle.std.proofs.lemmas.List.{length_push}
use Rattle.sched_base.specs.Numbers.{moment}
use Rattle.sched_base.specs.declared.Moment.{Moment}
use Rattle.sched_model.specs.declared.action.Action.{Action}
use Rattle.sched_model.specs.declared.event.Entry.{Entry}
use Rattle.sched_model.specs.declared.event.Event.{Event}
use Rattle.sched_model.specs.declared.event.Event.TheVariants as event
use Rattle.sched_model.specs.declared.machine.Machine.{Machine}
use Rattle.sched_model.specs.Machine.{event_of, first_enabled_action, next_in_horizon}
use Rattle.sched_model.specs.Places.{at_place}
use Rattle.sched_model.specs.Runs.{IsNext, IsRun, Reached, run_start}
use Rattle.sched_model.proofs.RunLemmas.{IsRunFrom-append}
use Rattle.sched_laws.proofs.Ready.{next_later}
use Rattle.composition_laws.proofs.Entries.{over_at_finish}
use Rattle.journal_core.specs.Books.{Chronicle}
use Rattle.journal_core.specs.Histories.{reached_by}
use Rattle.pool_core.specs.Seen.{Seen as PoolSeen}
use Rattle.machine_parts.specs.Places.{GoesOn, state_of}
use Rattle.machine_parts.specs.Told.{Told, told_of}
use Rattle.machine_parts.proofs.Going.{comes-next, leads-to}
use Rattle.machine_parts.specs.Parts.{AreNexts, IsNextOfPlace}
use Rattle.machine_parts.proofs.Performing.{first-comes}
use Rattle.lock_moves.specs.Plays.{Current}
use Rattle.lock_moves.specs.Sets.{LockTable}
use Rattle.lock_moves.specs.SeatSight.{Sitting}
use Rattle.hall.specs.declared.all.AllParts.{AllParts}
use Rattle.hall.specs.declared.turns.Turn.{Turn}
use Rattle.hall.specs.declared.turns.Turn.TheVariants as turn
use Rattle.hall.specs.SeatKnowledge.{KnowsAll}
use Rattle.hall.specs.Seats.{IsCountBefore, SeatStays, Seated}
use Rattle.hall.specs.BookTurns.{TurnIn, Turns, TurnsClose, TurnsFinish, TurnsOver, state_in}
use Rattle.hall.specs.Steps.{HasBook, HasEntered, KeepsLocksAt, KeepsSight}
use Rattle.hall.specs.Turns.{IsTurn, KeepsArrival}
use Rattle.hall.proofs.Calls.{entered-stays, kept-stays}
use Rattle.hall.proofs.Parting.{knows-later, now-held, run-held}
use Rattle.hall.proofs.Resting.{end-next, finish-next}

-- a history with a last entry
record HasLast (h : List Entry) : Type 0 where
  before : List Entry
  last : Entry
  is : h ≡ before ++ last ∷ []

last-of : (first : Entry) (rest : List Entry) → HasLast (first ∷ rest)
last-of first [] = record { before = []; last = first; is = refl }
last-of first (next ∷ rest) = (let e = last-of next rest in record { before = first ∷ e.before; last = e.last; is = ap (λ (xs : List Entry). first ∷ xs) e.is })

over-last : (m : Machine) (h : List Entry) → (reached_by m h).over ≡ true → HasLast h
over-last m [] over = absurd (cc)
over-last m (first ∷ rest) over = last-of first rest

-- where the run goes on, some entry may come next
pub some-next : (w : Told) → GoesOn w → (e : Entry) × IsNext w.input (reached_by w.input w.history) e
some-next w goes = by_first (first_enabled_action w.input (state_of w) (state_of w).now) refl
  where
    by_next : (o : Option ℕ) → next_in_horizon w.input (state_of w) ≡ o → first_enabled_action w.input (state_of w) (state_of w).now ≡ None → (e : Entry) × IsNext w.input (reached_by w.input w.history) e
    by_next None last quiet =
        let e : Entry = record { at = moment (state_of w).now; event = event.Finish } in
        (e, subst (λ (r : Reached). IsNext w.input r e) (sym (leads-to w goes)) (record { goes_on = refl; moment = refl; event = (quiet, last) }))
    by_next (Some n) comes quiet =
        let e : Entry = record { at = moment (state_of w).now; event = event.End (moment n) } in
        (e, subst (λ (r : Reached). IsNext w.input r e) (sym (leads-to w goes)) (record { goes_on = refl; moment = refl; event = (quiet, comes) }))

    by_first : (o : Option Action) → first_enabled_action w.input (state_of w) (state_of w).now ≡ o → (e : Entry) × IsNext w.input (reached_by w.input w.history) e
    by_first None quiet = by_next (next_in_horizon w.input (state_of w)) refl quiet
    by_first (Some action) first =
        let e : Entry = record { at = moment (state_of w).now; event = event_of w.input (state_of w) (state_of w).now action } in
        (e, comes-next w goes action (first-comes w.input (state_of w) action first) e refl)

-- the next moments of all pools were read, as no first event is kept
pub nexts-read : (slots : List (Option PoolSeen)) (firsts : List (Option Action)) (nexts : List (Option Moment)) → ((k : ℕ) → at_place firsts k ≡ None) → ((k : ℕ) → at_place firsts k ≡ None → IsNextOfPlace (at_place slots k) (at_place nexts k)) → AreNexts slots nexts
nexts-read slots firsts nexts none kept = record {
  pool = λ k seen is. subst (λ (o : Option PoolSeen). IsNextOfPlace o (at_place nexts k)) is (kept k (none k));
  nothing = λ k is. subst (λ (o : Option PoolSeen). IsNextOfPlace o (at_place nexts k)) is (kept k (none k));
}

-- nothing stands in a row of nothing
pub nothing-in : {X : Type 0} (n k : ℕ) → at_place (replicate n (let x : Option X = None in x)) k ≡ None
nothing-in zero k = refl
nothing-in (suc n) zero = refl
nothing-in (suc n) (suc k) = nothing-in n k

-- a moment that is told
pub told-next : (o : Option ℕ) (next : Moment) → option_map moment o ≡ Some next → o ≡ Some next.0
told-next None next is = absurd (cc)
told-next (Some n) next is = (let same : moment n ≡ next = cc in ap (λ (x : Moment). Some x.0) same)

pub told-last : (o : Option ℕ) → option_map moment o ≡ None → o ≡ None
told-last None is = refl
told-last (Some n) is = absurd (cc)

module _ (set : LockTable) (b : Chronicle) (s : Sitting) (has : HasBook set b s) (current : Current s.view) where
  -- a run that is over ends with a Finish
  pub over-turn : (count : ℕ) (new : Sitting) → KeepsSight s new → (reached_by b.input b.history).over ≡ true → count ≡ length b.history → TurnsOver (count - 1) b s new
  over-turn count new keeps over is =
      let e = over-last b.input b.history over in
      let run : IsRun b.input (e.before ++ e.last ∷ []) = subst (IsRun b.input) e.is (run-held set b s has current) in
      let ended : (reached_by b.input (e.before ++ e.last ∷ [])).over ≡ true = subst (λ (h : List Entry). (reached_by b.input h).over ≡ true) e.is over in
      let more = ap length e.is ∙ length_push e.before e.last in
      record {
        keeps = keeps;
        before = e.before;
        last = e.last;
        history_is = e.is;
        is_finish = (over_at_finish b.input e.before e.last run).0 ended;
        place_is = omega (arith, more, is);
        whole = (run-held set b s has current, over);
      }

  module _ (t : Moment) (now : t.0 ≡ s.view.now) where
    at-now : t ≡ moment (state_in b).now
    at-now = ap moment (now ∙ now-held set b s has current)

    entered-at : (e : Event) (new : Sitting) → HasEntered b (record { at = t; event = e }) s new → HasEntered b (record { at = moment (state_in b).now; event = e }) s new
    entered-at e new entered = subst (λ (a : Moment). HasEntered b (record { at = a; event = e }) s new) at-now entered

    module _ (goes : GoesOn (told_of b)) (quiet : first_enabled_action b.input (state_in b) (state_in b).now ≡ None) where
      grown-with : (e : Event) → IsNext b.input (reached_by b.input b.history) (record { at = t; event = e }) → IsRun b.input (b.history ++ record { at = moment (state_in b).now; event = e } ∷ [])
      grown-with e next = subst (λ (a : Moment). IsRun b.input (b.history ++ record { at = a; event = e } ∷ [])) at-now (IsRunFrom-append b.input (run_start b.input) b.history (record { at = t; event = e }) (run-held set b s has current) next)

      pub close-turn : (place : ℕ) (next : Moment) (new : Sitting) → next_in_horizon b.input (state_in b) ≡ Some next.0 → place ≡ length b.history → HasEntered b (record { at = t; event = event.End next }) s new → TurnsClose place next b s new
      close-turn place next new comes place_is entered = record {
        quiet = quiet;
        next_is = comes;
        place_is = place_is;
        entered = entered-at (event.End next) new entered;
        grown = grown-with (event.End next) (end-next set b s has current t now goes quiet next comes);
      }

      pub finish-turn : (place : ℕ) (new : Sitting) → next_in_horizon b.input (state_in b) ≡ None → place ≡ length b.history → HasEntered b (record { at = t; event = event.Finish }) s new → TurnsFinish place b s new
      finish-turn place new last place_is entered = record {
        quiet = quiet;
        last = last;
        place_is = place_is;
        entered = entered-at event.Finish new entered;
        grown = grown-with event.Finish (finish-next set b s has current t now goes quiet last);
      }

    -- all parts stay known at the next moment
    pub knows-next : (next : Moment) (all : AllParts) (new : Sitting) → next_in_horizon b.input (state_in b) ≡ Some next.0 → new.view.input ≡ s.view.input → KeepsLocksAt next.0 s.view new.view → KnowsAll all s.view → KnowsAll all new.view
    knows-next next all new comes same locks knows =
        let here = now-held set b s has current in
        let later = next_later b.input (state_in b) next.0 comes in
        knows-later next.0 s.view new.view same locks.moment (omega (arith, here, later)) locks all knows

-- the answer of a turn that is no event says what the whole call says
pub is-turn : (t : Turn) (decides : ℕ) (old new : Seated) → TurnIn t decides old.sitting.view new.sitting.view → ((place : ℕ) (e : Event) → t ≡ turn.Stepped place e → ⊥) → new.arrived ≡ old.arrived → IsTurn t old new
is-turn (turn.Stepped place e) decides old new told other same = absurd (other place e refl)
is-turn (turn.Closed place next) decides old new told other same = (told.0, told.1, same)
is-turn (turn.Finished place) decides old new told other same = (told.0, told.1, same)
is-turn (turn.Over place) decides old new told other same = (told, same)

-- and so does that of an event, with the arrival that is kept after it
pub is-step : (place : ℕ) (e : Event) (decides : ℕ) (old new : Seated) → TurnIn (turn.Stepped place e) decides old.sitting.view new.sitting.view → ((before : List Entry) → IsCountBefore old.sitting.view.input.config.granularity before e decides → KeepsArrival before e old new) → IsTurn (turn.Stepped place e) old new
is-step place e decides old new told kept = (told.0, told.1, kept told.0 told.2)

-- a turn leaves the seat's hall and its parts
pub stays-turned : (t : Turn) (decides : ℕ) (b : Chronicle) (old new : Sitting) → Turns t decides b old new → SeatStays old new
stays-turned (turn.Stepped place e) decides b old new settled = entered-stays b _ old new settled.adds.entered
stays-turned (turn.Closed place next) decides b old new settled = entered-stays b _ old new settled.entered
stays-turned (turn.Finished place) decides b old new settled = entered-stays b _ old new settled.entered
stays-turned (turn.Over place) decides b old new settled = kept-stays old new settled.keeps
