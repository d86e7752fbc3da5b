-- The number of decisions that a seat keeps with an arrival is at most that of its front.
use Rattle.std.proofs.Common.{◌≡◌, ℕ, ◌≤◌, ◌<◌, ◌/◌, ◌==◌, Bool, true, false, List, [], ◌∷◌, sym, ap, subst, arith}
use Rattle.std.specs.Prelude.{Option, Some, None, Result, Ok, Err, IfOk, IfErr, if◌then◌else◌}
use Rattle.std.specs.Option.{ForSome}
use Rattle.std.proofs.lemmas.Option.{none-some}
use mathlib.Core.List.{IsPrefix}
use Rattle.sched_base.specs.Numbers.{moment}
use Rattle.sched_model.specs.declared.action.Actor.{Actor}
use Rattle.sched_model.specs.declared.event.Event.{Event}
use Rattle.sched_model.specs.declared.event.Event.TheVariants as event
use Rattle.sched_model.specs.declared.event.Entry.{Entry}
use Rattle.sched_model.specs.declared.machine.Machine.{Machine}
use Rattle.journal_core.specs.Histories.{decides_at, state_at}
use Rattle.lock_moves.specs.SeatSight.{Seen, Sitting}
use Rattle.lock_moves.proofs.Deciding.{prefix_grows}
use Rattle.lock_moves.proofs.Prefix.{prefix_trans}
use Rattle.hall.specs.declared.seat.Arrival.{Arrival}
use Rattle.hall.specs.declared.turns.Done.{Done}
use Rattle.hall.specs.declared.turns.Done.TheVariants as done
use Rattle.hall.specs.declared.turns.Full.{Full}
use Rattle.hall.specs.declared.turns.Turn.{Turn}
use Rattle.hall.specs.declared.turns.Turn.TheVariants as turn
use Rattle.hall.specs.BookTurns.{DoneIn, TurnIn}
use Rattle.hall.specs.Seats.{IsCounted, SitsFree, kept_arrival}
use Rattle.hall.specs.Turns.{ActsFull, Added}

pub counted-later : (g : ℕ) (front longer : List Entry) (kept : Option Arrival) → IsPrefix front longer → ForSome kept (IsCounted g front) → ForSome kept (IsCounted g longer)
counted-later g front longer kept p some = λ a is. let more = prefix_grows front longer p (a.p.0 / g) in let had = some a is in omega (arith, more, had)

left : (g : ℕ) (front : List Entry) (a : Arrival) (b : Bool) → ForSome (Some a) (IsCounted g front) → ForSome (if b then None else Some a) (IsCounted g front)
left g front a true some = λ b is. absurd (none-some b is)
left g front a false some = λ b is. some b is

abbrev kept_in : Arrival → Option Arrival → Arrival
kept_in d None = d
kept_in d (Some a) = a

after : (g : ℕ) (before front : List Entry) (e : Event) (kept : Option Arrival) → IsPrefix before front → ForSome kept (IsCounted g front) → ForSome (kept_arrival g before e kept) (IsCounted g front)
after g before front (event.Arrive p) kept begins some = λ a is. subst (IsCounted g front) (ap (kept_in a) is) (prefix_grows before front begins (p.0 / g))
after g before front (event.Leave p v) None begins some = some
after g before front (event.Leave p v) (Some a) begins some = left g front a (a.p.0 == p.0) some
after g before front (event.Stall p until) kept begins some = some
after g before front (event.Xl k answer) kept begins some = some
after g before front (event.Moved r to) kept begins some = some
after g before front (event.DomMoved d to) kept begins some = some
after g before front (event.Wake v) kept begins some = some
after g before front (event.Block p v) kept begins some = some
after g before front (event.Slice r) kept begins some = some
after g before front (event.Repl u start deadline budget extra) kept begins some = some
after g before front (event.Refill d periods budget) kept begins some = some
after g before front (event.Decide r unit due late reset) kept begins some = some
after g before front (event.Save r u queued) kept begins some = some
after g before front (event.End next) kept begins some = some
after g before front event.Finish kept begins some = some

-- the seat looked at the book: the front goes on
pub counted-seen : (old new : Seen) (kept : Option Arrival) → IsPrefix old.front new.front → new.input ≡ old.input → ForSome kept (IsCounted old.input.config.granularity old.front) → ForSome kept (IsCounted new.input.config.granularity new.front)
counted-seen old new kept begins input some = subst (λ (m : Machine). ForSome kept (IsCounted m.config.granularity new.front)) (sym input) (counted-later old.input.config.granularity old.front new.front kept begins some)

-- what was seen before an entry that the seat added begins the front after it
pub begins-added : (place : ℕ) (e : Event) (before : List Entry) (old new : Seen) → Added place e before old new → IsPrefix before new.front
begins-added place e before old new added = (record { at = moment (state_at old.input before).now; event = e } ∷ [], sym added.front)

pub counted-acted : (place : ℕ) (e : Event) (before : List Entry) (old new : Seen) (kept result : Option Arrival) → Added place e before old new → new.input ≡ old.input → result ≡ kept_arrival old.input.config.granularity before e kept
    → ForSome kept (IsCounted old.input.config.granularity old.front) → ForSome result (IsCounted new.input.config.granularity new.front)
counted-acted place e before old new kept result added input is some =
    let g = old.input.config.granularity in
    let begins = begins-added place e before old new added in
    let had = counted-later g before new.front kept begins (counted-later g old.front before kept added.begins some) in
    subst (λ (m : Machine). ForSome result (IsCounted m.config.granularity new.front)) (sym input)
    (subst (λ (o : Option Arrival). ForSome o (IsCounted g new.front)) (sym is) (after g before new.front e kept begins had))

-- a number that was loaded and is at most the kept one is the kept one
pub exact : (g : ℕ) (front history : List Entry) (a : Arrival) (n : ℕ) → IsCounted g front a → IsPrefix front history → decides_at history (a.p.0 / g) ≤ n → n ≤ a.decides → n ≡ a.decides
exact g front history a n counted begins loaded most = let more = prefix_grows front history begins (a.p.0 / g) in omega (arith, counted, more, loaded, most)

-- a seat that was free is free, where nothing is held and the front goes on
pub free-seen : (old new : Sitting) (kept : Option Arrival) → SitsFree old kept → new.view.held ≡ [] → new.view.input ≡ old.view.input → IsPrefix old.view.front new.view.front → SitsFree new kept
free-seen old new kept free nothing input begins = record {
  nothing = nothing;
  processor = subst (λ (m : Machine). ForSome kept (λ (a : Arrival). a.p.0 < m.config.processors)) (sym input) free.processor;
  counted = counted-seen old.view new.view kept begins input free.counted;
}

begins-on : (place : ℕ) (e : Event) (before : List Entry) (old new : Seen) → Added place e before old new → IsPrefix old.front new.front
begins-on place e before old new added = prefix_trans old.front before new.front added.begins (begins-added place e before old new added)

-- each answer leaves a front that goes on from the one before
seen-begins : (actor : Actor) (d : Done) (old new : Seen) → DoneIn actor d old new → IsPrefix old.front new.front
seen-begins actor (done.Event place e) old new told = begins-on place e told.0 old new told.1.added
seen-begins actor done.Nothing old new told = told.looked.begins

pub answer-begins : (actor : Actor) (old new : Seen) (r : Result Done Full) → IfOk r (λ d. DoneIn actor d old new) → IfErr r (λ full. ActsFull actor full old new) → IsPrefix old.front new.front
answer-begins actor old new (Ok d) told full = seen-begins actor d old new told
answer-begins actor old new (Err e) told full = full.looked.begins

pub turn-begins : (t : Turn) (decides : ℕ) (old new : Seen) → TurnIn t decides old new → IsPrefix old.front new.front
turn-begins (turn.Stepped place e) decides old new told = begins-on place e told.0 old new told.1.added
turn-begins (turn.Closed place next) decides old new told = begins-on place (event.End next) told.0 old new told.1.added
turn-begins (turn.Finished place) decides old new told = begins-on place event.Finish told.0 old new told.1.added
turn-begins (turn.Over place) decides old new told = told.looked.begins
