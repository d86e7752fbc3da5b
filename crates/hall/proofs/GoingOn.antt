-- A hold that keeps the book in hand: what a seat knows then, one act more, and the two ends.
use mathlib.Core.List.{IsPrefix}
use Rattle.std.proofs.Common.{◌≡◌, ◌≢◌, ◌∙◌, ◌<◌, ◌≤◌, ◌/◌, ℕ, true, List, length, refl, sym, ap, subst, arith}
use Rattle.std.specs.Prelude.{Err, None, Ok, Option, Some}
use Rattle.std.specs.Option.{ForSome, IsSome}
use Rattle.sched_base.specs.declared.Moment.{Moment}
use Rattle.sched_base.specs.Numbers.{processor}
use Rattle.sched_model.specs.declared.action.Action.{Action}
use Rattle.sched_model.specs.declared.action.Action.TheVariants.{Arrive}
use Rattle.sched_model.specs.declared.action.Actor.{Actor}
use Rattle.sched_model.specs.declared.event.Entry.{Entry}
use Rattle.sched_model.specs.declared.event.Event.{Event}
use Rattle.sched_model.specs.declared.machine.Machine.{Machine}
use Rattle.sched_model.specs.Actions.{IsOfPool, home_pool_of_action}
use Rattle.sched_model.specs.CheckedMachine.{IsChecked}
use Rattle.sched_model.specs.Runs.{event_action}
use Rattle.sched_model.proofs.RunLemmas.{action_of-event_of}
use Rattle.sched_laws.proofs.Lists.{some_is}
use Rattle.composition_laws.specs.Actors.{has_actor}
use Rattle.pool_laws.specs.Actors.{IsFirstBy}
use Rattle.pool_core.specs.Seen.{Seen as PoolSeen}
use Rattle.journal_core.specs.Books.{Chronicle}
use Rattle.journal_core.specs.Histories.{state_at}
use Rattle.machine_parts.specs.Places.{state_of}
use Rattle.machine_parts.specs.Told.{told_of}
use Rattle.lock_moves.specs.SeatSight.{Known, Sitting, find_lock}
use Rattle.lock_moves.specs.Sets.{LockTable}
use Rattle.lock_moves.specs.Words.{name_number}
use Rattle.hall.specs.declared.hold.Holder.{Holder}
use Rattle.hall.specs.declared.seat.Arrival.{Arrival}
use Rattle.hall.specs.declared.turns.Done.TheVariants as done
use Rattle.hall.specs.declared.turns.Full.{Full}
use Rattle.hall.specs.BookTurns.{SettlesEvent}
use Rattle.hall.specs.Holds.{InHold, InHoldOn, IsHolder, StaysAtPool, seated}
use Rattle.hall.specs.SeatKnowledge.{KnowsPool}
use Rattle.hall.specs.Seats.{IsCountBefore, IsCounted, SeatStays, kept_arrival}
use Rattle.hall.specs.Serving.{AreTogether, HasServedOn, IsDoerOf, IsServed}
use Rattle.hall.specs.Steps.{HasActed, HasBook, HasTakenBook, KeepsLocks, KeepsSight, MayAct, SeesBook}
use Rattle.hall.specs.Turns as turns
use Rattle.hall.specs.Turns.{ActsFull, HasNothing, is_actor}
use Rattle.lock_moves.specs.Plays.{Current}
use Rattle.hall.proofs.Arriving.{arrival-few}
use Rattle.hall.proofs.Calls.{acted-held, call-stays, done-held, fills-held, finds-full, kept-stays}
use Rattle.hall.proofs.Counting.{counted-acted}
use Rattle.hall.proofs.Holds.{hold-actor, hold-on, hold-some, named-same, of-hall, only-still}
use Rattle.hall.proofs.Locking.{keeps_same}
use Rattle.hall.proofs.Parting.{pool-later}
use Rattle.hall.proofs.Processors.{kept-inside}
use Rattle.hall.proofs.Together.{inside-held, some-held, together-held}
use Rattle.hall.proofs.UnderOne.{enabled-held, event-held, few-held, full-held, goes-held, home-held, keeps-all, nothing-held}

-- the book was taken in a hold
pub takes-on : (hall : LockTable) (k n t : ℕ) (slot : Option PoolSeen) (b : Chronicle) (old new : Sitting) (arrived : Option Arrival) → InHold hall k n t slot (seated old arrived) → HasBook hall b new → Current new.view → SeesBook b old new
    → ((j : ℕ) → j ≢ 17 → find_lock j new.view.held ≡ find_lock j old.view.held) → ((j : ℕ) (x : Known) → find_lock j old.view.held ≡ Some x → new.view.now ≡ old.view.now) → InHoldOn hall k n t slot b old (seated new arrived)
takes-on hall k n t slot b old new arrived hold has current sees locks still = record {
  hold = hold;
  took = record { has = has; current = current; sees = sees; locks = locks; now = (let known = hold.knows.known in still k known.0 known.1) };
}

module _ (hall : LockTable) (k : ℕ) (low : k < 16) (t : Moment) (slot : Option PoolSeen) (b : Chronicle) (mid s : Sitting) (arrived : Option Arrival) (holder : Holder) (is_holder : IsHolder hall.opened.input holder) (checked : IsChecked hall.opened.input)
    (on : InHoldOn hall k (name_number holder.name) t.0 slot b mid (seated s arrived)) where
  abbrev n : ℕ
  n = name_number holder.name

  abbrev took : HasTakenBook hall b mid s
  took = on.took

  apart : k ≢ 17
  apart e = omega (arith, e, low)

  pub knows-on : KnowsPool k slot s.view
  knows-on = pool-later mid.view.now mid.view s.view took.sees.input took.now (omega arith) k slot (took.locks k apart) on.hold.knows

  pub now-on : t.0 ≡ s.view.now
  now-on = on.hold.now ∙ sym took.now

  pub input-on : b.input ≡ hall.opened.input
  input-on = took.has.input ∙ took.sees.input ∙ on.hold.of.input

  input-seen : b.input ≡ mid.view.input
  input-seen = took.has.input ∙ took.sees.input

  pub some-on : IsSome slot
  some-on = hold-some hall k t.0 slot (seated mid arrived) holder.actor holder.name is_holder.named on.hold

  pub actor-on : ForSome slot (λ seen. has_actor seen.granularity seen.pool holder.actor ≡ true)
  actor-on = hold-actor hall k t.0 slot (seated mid arrived) holder.actor holder.name is_holder.named on.hold

  -- what comes first of the holder itself
  pub itself : (found : Option Action) (action : Action) → found ≡ Some action → ForSome slot (λ seen. IsFirstBy seen.granularity t.0 seen.pool holder.actor found) → IsDoerOf slot t.0 action holder.actor
  itself found action is first = record { has = actor-on; first = subst (λ (o : Option Action). ForSome slot (λ seen. IsFirstBy seen.granularity t.0 seen.pool holder.actor o)) is first }

  -- where the book went back as it was, the hold goes on
  module _ (new : Sitting) (keeps : KeepsSight s new) (same : KeepsLocks s.view new.view) where
    pub stays-end : SeatStays mid new
    stays-end = call-stays b mid mid s new new (keeps_same mid) took.sees (kept-stays s new keeps) (keeps_same new)

    pub hold-end : InHold hall k n t.0 slot (seated new arrived)
    hold-end = hold-on hall k n t.0 slot slot mid new arrived on.hold stays-end
        (only-still k mid.view s.view new.view on.hold.only took.locks (keeps-all k s.view new.view same))
        (pool-later s.view.now s.view new.view keeps.input same.moment (omega arith) k slot (same.locks k (omega (arith, low))) knows-on)
        (named-same k n s.view new.view (same.locks k (omega (arith, low))) (named-same k n mid.view s.view (took.locks k apart) on.hold.has))
        (same.moment ∙ took.now)
        (subst (IsPrefix mid.view.front) (sym (keeps.front ∙ took.sees.front)) took.sees.begins)

  -- an actor that the pool has, and what was found of it
  module _ (actor : Actor) (mine : ForSome slot (λ seen. has_actor seen.granularity seen.pool actor ≡ true)) (found : Option Action) (first : ForSome slot (λ seen. IsFirstBy seen.granularity t.0 seen.pool actor found)) where
    -- nothing of the actor may come
    pub nothing-on : found ≡ None → (new : Sitting) → KeepsSight s new → HasNothing actor mid.view new.view
    nothing-on none new keeps =
        done-held hall hall b mid mid s new new (keeps_same mid) took.sees took.has took.current (keeps_same new) on.hold.of.input checked actor (Ok done.Nothing)
        (nothing-held hall b s took.has took.current checked input-on k low slot knows-on some-on t.0 now-on actor mine found first new none keeps)

    module _ (action : Action) (is : found ≡ Some action) where
      -- something may, and the book is full
      pub full-on : (full : Full) (new : Sitting) → KeepsSight s new → full.events ≡ b.limit → length b.history ≤ b.limit → (length b.history < b.limit → ⊥) → ActsFull actor full mid.view new.view
      full-on full new keeps events fits no_room =
          fills-held hall hall b mid mid s new new (keeps_same mid) took.sees took.has took.current (keeps_same new) on.hold.of.input checked actor (Err full)
          (full-held hall b s took.has took.current checked input-on k low slot knows-on some-on t.0 now-on actor mine found first action is full new (finds-full b s new full keeps events fits no_room))

      pub own-on : IsOfPool action
      own-on = let seen = some_is slot some-on in (subst (λ (o : Option Action). IsFirstBy seen.0.granularity t.0 seen.0.pool actor o) is (first seen.0 seen.1)).of_pool

      pub few-on : (p : ℕ) → action ≡ Arrive (processor p) → p / hall.opened.input.config.granularity < 64
      few-on = few-held hall b s took.has took.current checked input-on k low slot knows-on some-on t.0 now-on actor mine found first action is

      pub may-on : length b.history < b.limit → MayAct hall b s action t
      may-on room = record {
        has = took.has;
        current = took.current;
        goes = goes-held hall b s took.has took.current checked input-on k low slot knows-on some-on t.0 now-on actor mine found first action is;
        room = room;
        now = now-on;
        enabled = enabled-held hall b s took.has took.current checked input-on k low slot knows-on some-on t.0 now-on actor mine found first action is;
      }

      pub home-on : home_pool_of_action b.input.config.granularity (state_of (told_of b)) action ≡ Some k
      home-on = home-held hall b s took.has took.current checked input-on k low slot knows-on some-on t.0 now-on actor mine found first action is

      -- its event was done, and is in the book
      module _ (place : ℕ) (e : Event) (decides : ℕ) (slot' : Option PoolSeen) (b' : Chronicle) (next s' : Sitting) (arrived' : Option Arrival) (place_is : place ≡ length b.history) (acted : HasActed b action t e s next) (stays : StaysAtPool k slot' s next)
          (again : HasTakenBook hall b' next s') (count : (x : Event) → event_action x ≡ Some action → IsCountBefore hall.opened.input.config.granularity b.history x decides)
          (kept : (g : ℕ) (before : List Entry) → IsCountBefore g before e decides → arrived' ≡ kept_arrival g before e arrived) where
        settled : SettlesEvent actor place e b s next
        settled = event-held hall b s took.has took.current checked input-on k low slot knows-on some-on t.0 now-on actor mine found first action is place e next place_is acted.event acted.entered

        told : turns.HasActed actor place e b.history mid.view next.view
        told = acted-held hall hall b mid mid s next next (keeps_same mid) took.sees took.has took.current (keeps_same next) on.hold.of.input checked actor place e settled

        counted : IsCountBefore mid.view.input.config.granularity b.history e decides
        counted = subst (λ (m : Machine). IsCountBefore m.config.granularity b.history e decides) (sym on.hold.of.input)
            (count e (ap event_action acted.event ∙ action_of-event_of b.input (state_of (told_of b)) (state_of (told_of b)).now action))

        stays-once : SeatStays mid next
        stays-once = record {
          table = acted.entered.table ∙ took.sees.table;
          input = acted.entered.input ∙ took.sees.input;
          limit = acted.entered.limit ∙ took.sees.limit;
          shares = acted.entered.shares ∙ took.sees.shares;
        }

        arrived-is : arrived' ≡ kept_arrival mid.view.input.config.granularity b.history e arrived
        arrived-is = kept mid.view.input.config.granularity b.history counted

        inside-once : is_actor mid.view.input.config actor ≡ true
        inside-once = subst (λ (x : Machine). is_actor x.config actor ≡ true) input-seen (inside-held hall b s took.has took.current hall.opened.input checked input-on k low slot knows-on some-on actor mine)

        served-once : IsServed holder.actor actor place (seated mid arrived) (seated next arrived')
        served-once = record {
          is = inside-once;
          some = some-held hall b s took.has took.current hall.opened.input checked input-on k low slot knows-on some-on actor mine;
          once = record { stays = stays-once; event = e; done = (b.history, told, arrived-is) };
          together = subst (λ (x : Machine). AreTogether x.config.granularity (state_at x b.history) holder.actor actor) input-seen
              (together-held hall b s took.has took.current hall.opened.input checked input-on k low slot knows-on some-on holder.actor actor actor-on mine);
        }

        pub served-on : next.view.front ≡ b'.history → HasServedOn holder.actor actor place e b' (seated mid arrived) (seated next arrived')
        unfolding served-once
        served-on front = record { served = served-once; event_is = refl; front = front }

        few-processors : ForSome arrived' (λ (a : Arrival). a.p.0 < hall.opened.input.config.processors)
        few-processors =
            let m : Machine = hall.opened.input in
            subst (λ (o : Option Arrival). ForSome o (λ (a : Arrival). a.p.0 < m.config.processors)) (sym arrived-is)
            (kept-inside m.config.processors mid.view.input.config.granularity b.history e arrived
            (λ p is. subst (λ (x : Machine). p.0 < x.config.processors) on.hold.of.input (arrival-few actor place e b.history mid.view next.view told inside-once p is)) on.hold.inside.processor)

        few-decisions : ForSome arrived' (IsCounted hall.opened.input.config.granularity next.view.front)
        few-decisions =
            subst (λ (x : Machine). ForSome arrived' (IsCounted x.config.granularity next.view.front)) (stays-once.input ∙ on.hold.of.input)
            (counted-acted place e b.history mid.view next.view arrived arrived' told.added stays-once.input arrived-is
            (subst (λ (x : Machine). ForSome arrived (IsCounted x.config.granularity mid.view.front)) (sym on.hold.of.input) on.hold.inside.counted))

        pub hold-acted : InHoldOn hall k n t.0 slot' b' next (seated s' arrived')
        hold-acted = record {
          hold = record {
            of = of-hall hall mid next on.hold.of stays-once;
            only = only-still k mid.view s.view next.view on.hold.only took.locks stays.others;
            knows = stays.knows;
            has = stays.names n (named-same k n mid.view s.view (took.locks k apart) on.hold.has);
            now = now-on ∙ sym stays.others.moment;
            inside = record { processor = few-processors; counted = few-decisions };
          };
          took = again;
        }
