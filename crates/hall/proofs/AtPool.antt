-- An event of one pool, whose lock a seat holds beside the book.
use Rattle.std.proofs.Common.{◌≡◌, ◌≢◌, ◌<◌, ◌&&◌, ◌++◌, ◌∷◌, [], ℕ, true, List, Option, Some, None, refl, sym, ap, ◌∙◌, subst, arith, ap₂}
use Rattle.std.specs.Prelude.{is_some}
use mathlib.Core.Logic.{dite}
use native.Mathlib.Decide.{ℕ_discrete}
use Rattle.sched_base.specs.Numbers.{moment, core as core_number}
use Rattle.sched_model.specs.declared.action.Action.{Action}
use Rattle.sched_model.specs.declared.action.Action.TheVariants.{Decide}
use Rattle.sched_model.specs.declared.event.Entry.{Entry}
use Rattle.sched_model.specs.declared.event.Event.{Event}
use Rattle.sched_model.specs.declared.machine.Machine.{Machine}
use Rattle.sched_model.specs.declared.state.Pool.{Pool}
use Rattle.sched_model.specs.declared.state.State.{State}
use Rattle.sched_model.specs.Actions.{IsOfPool, home_pool_of_action, home_pool_of_core}
use Rattle.sched_model.specs.Machine.{is_action_enabled, event_of}
use Rattle.sched_model.specs.Places.{at_place}
use Rattle.sched_model.specs.Runs.{IsNext, event_action}
use Rattle.sched_model.proofs.RunLemmas.{action_of-event_of}
use Rattle.sched_laws.proofs.EachPlace.{found_at}
use Rattle.journal_core.specs.Books.{Chronicle}
use Rattle.journal_core.specs.Histories.{home_at, part_at, reached_by}
use Rattle.journal_core.specs.Parts.{StatePart, home_in, lists, pool_part, part_of}
use Rattle.composition_laws.proofs.PoolSteps.{pool_step}
use Rattle.pool_core.specs.Seen.{Seen as PoolSeen}
use Rattle.machine_parts.specs.Told.{Told, told_more, told_of}
use Rattle.machine_parts.specs.Places.{GoesOn, HasStepped, StandsAt, state_of}
use Rattle.machine_parts.proofs.Going.{comes-next, entry-is, now_of-is, state-on}
use Rattle.machine_parts.proofs.Standing.{part_below, stepped}
use Rattle.lock_moves.specs.Plays.{Current, Kept, Placed}
use Rattle.lock_moves.specs.SeatSight.{Holds, Known, Seen, find_lock, known_part as known, Sitting}
use Rattle.lock_moves.specs.Words.{has_core}
use Rattle.lock_moves.proofs.Finding.{never}
use Rattle.lock_moves.proofs.Holding.{name_at_home, placed_at}
use Rattle.hall.specs.SeatKnowledge.{KnowsPool}
use Rattle.hall.specs.Steps.{HasCore, KeepsOthers, KnowsAfter, HasBook}
use Rattle.lock_moves.specs.Sets.{LockTable}
use Rattle.hall.proofs.Processors.{core-inside, core-small, is_low}
use Rattle.composition_laws.proofs.ListedNames.{core_name}
use Rattle.hall.proofs.Handing.{home-of-name, name-there}
use Rattle.hall.proofs.Parting.{knows-pool-after, now-held, part-here, stands-held}

-- the folded word, opened
home_of-is : (w : Told) (n : ℕ) → home_at w.input w.history n ≡ home_in w.input.config (state_of w) n
unfolding state_of home_at
home_of-is w n = refl

same-core : (action : Action) (r : ℕ) → (let a : Option Action = Some action in a) ≡ Some (Decide (core_number r)) → action ≡ Decide (core_number r)
same-core action r is = cc

-- what the seat knows is of the book's state
module _ (set : LockTable) (b : Chronicle) (s : Sitting) (has : HasBook set b s) (current : Current s.view) (goes : GoesOn (told_of b)) where
  abbrev w : Told
  w = told_of b

  abbrev v : Seen
  v = s.view

  pub time-here : (t : ℕ) → t ≡ v.now → (trail : Told) → trail ≡ w → t ≡ (state_of trail).now
  time-here t is trail told = is ∙ now-held set b s has current ∙ ap (λ (x : Told). (state_of x).now) (sym told)

  -- the place of a pool stands where the book leads
  pub stands-here : (i : ℕ) (slot : Option PoolSeen) → i < 16 → KnowsPool i slot v → (trail : Told) → trail ≡ w → StandsAt trail i slot
  stands-here i slot low knows trail told = subst (λ (x : Told). StandsAt x i slot) (sym told) (stands-held set b s has current i slot low knows)

  -- the core of a pool whose lock is held
  core-here : (i r : ℕ) → i < 16 → Holds i v → home_pool_of_core (state_of w) r ≡ Some i → HasCore r v
  core-here i r low held home =
      let f = found_at i (λ (pool : Pool). is_some (at_place pool.resources r)) (state_of w).pools home in
      let small : r < 64 = core-small w goes r (core-inside w goes i r home) in
      let listed : lists (part_of (state_of w) i) r ≡ true = ap (λ (p : StatePart). lists p r) (part_below (state_of w) i low ∙ ap pool_part f.1) ∙ core_name r f.0 (is_low r 64 small) ∙ f.2 in
      record {
        core = ap (λ (m : Machine). has_core m r) (sym has.input) ∙ ap₂ (λ p q. p && q) (is_low r 64 small) (name-there w goes i r (omega (arith, low)) (omega (arith, small)) listed);
        lock = i;
        name = name_at_home b.input b.history i r v (sym has.input) has.front (omega (arith, low)) (omega (arith, small)) (home-of-name w goes i r (omega (arith, low)) (omega (arith, small)) listed) held current;
      }

  -- the pool does an event that may come
  module _ (action : Action) (own : IsOfPool action) (on : is_action_enabled b.input (state_of w) (state_of w).now action ≡ true) (i : ℕ) (home : home_pool_of_action b.input.config.granularity (state_of w) action ≡ Some i) (low : i < 16) (held : Holds i v)
      (t : ℕ) (time : t ≡ v.now) (event : Event) (trail : Told) (told : trail ≡ w) (ev : event ≡ event_of trail.input (state_of trail) (state_of trail).now action) where
    abbrev e : Entry
    e = record { at = moment t; event = event }

    is : e ≡ record { at = moment (state_of w).now; event = event_of b.input (state_of w) (state_of w).now action }
    is = entry-is w action e (ap moment (time ∙ now-held set b s has current)) (ev ∙ ap (λ (x : Told). event_of x.input (state_of x) (state_of x).now action) told)

    abbrev h : List Entry
    h = b.history ++ e ∷ []

    abbrev next : Told
    next = told_more w e

    step : HasStepped w i next
    step = stepped w goes action own on i home e is

    homes-on : (n : ℕ) → home_at b.input h n ≡ home_at b.input b.history n
    homes-on n =
        home_of-is next n ∙ ap (λ (s : State). home_in b.input.config s n) (state-on w goes action on e is)
        ∙ (pool_step b.input (state_of w) (state_of w).now action i own home).homes n ∙ sym (home_of-is w n)

    pub next-here : IsNext b.input (reached_by b.input b.history) e
    next-here = comes-next w goes action on e is

    pub kept-here : Kept v h
    kept-here k inside none = dite (ℕ_discrete k i)
        (λ same. absurd (never held.0 (sym (subst (λ (j : ℕ). find_lock j v.held ≡ None) same none) ∙ held.1)))
        (λ ne. ap (λ (m : Machine). part_at m h k) (sym has.input) ∙ step.others k ne ∙ (λ j. part_at (has.input j) (sym has.front j) k))

    pub placed-here : Placed v h
    placed-here = placed_at b.input b.history h v (sym has.input) has.front current (λ n small. sym (homes-on n)) (now_of-is w ∙ sym step.now ∙ sym (now_of-is next))

    pub decider-here : (r : ℕ) → event_action e.event ≡ Some (Decide (core_number r)) → HasCore r v
    decider-here r decides =
        let of : event_action e.event ≡ Some action = ap (λ (x : Entry). event_action x.event) is ∙ action_of-event_of b.input (state_of w) (state_of w).now action in
        let core : action ≡ Decide (core_number r) = same-core action r (sym of ∙ decides) in
        core-here i r low held (sym (ap (home_pool_of_action b.input.config.granularity (state_of w)) core) ∙ home)

    -- the seat after it
    module _ (u : Seen) (same : u.input ≡ v.input) (after : KnowsAfter h v u) where
      pub pool-after : (slot : Option PoolSeen) → StandsAt (told_more trail e) i slot → KnowsPool i slot u
      pool-after slot there = knows-pool-after next v u has.input same placed-here after step.goes i slot held (subst (λ (x : Told). StandsAt (told_more x e) i slot) told there)

      pub others-after : KeepsOthers i v u
      others-after = record {
        locks = λ k inside ne. kept k inside ne (find_lock k v.held) refl;
        others = λ k high none. after.none k none;
        book = after.book;
        moment = after.now;
      }
        where
          kept : (k : ℕ) → k < 17 → k ≢ i → (o : Option Known) → find_lock k v.held ≡ o → find_lock k u.held ≡ find_lock k v.held
          kept k inside ne None found = after.none k found ∙ sym found
          kept k inside ne (Some x) found =
              let part : part_at v.input h k ≡ x.part = ap (λ (m : Machine). part_at m h k) (sym has.input) ∙ step.others k ne ∙ sym (part-here set b s has current k x inside found) in
              after.some k x inside found ∙ ap (λ p. Some (known p x.names)) part ∙ sym found
