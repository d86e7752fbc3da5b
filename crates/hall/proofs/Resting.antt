-- An entry without an action: no part changes, and no name moves.
use Rattle.std.proofs.Common.{◌≡◌, ◌∙◌, ◌<◌, ℕ, List, [], ◌∷◌, ◌++◌, refl, sym, ap, subst, eqb}
use Rattle.std.specs.Prelude.{Option, Some, None}
use Rattle.sched_base.specs.declared.Moment.{Moment}
use Rattle.sched_model.specs.declared.event.Entry.{Entry}
use Rattle.sched_model.specs.declared.event.Event.TheVariants as event
use Rattle.sched_model.specs.Machine.{first_enabled_action, next_in_horizon}
use Rattle.sched_model.specs.Runs.{IsNext, Reached, event_action}
use Rattle.journal_core.specs.Books.{Chronicle}
use Rattle.journal_core.specs.Histories.{home_at, now_at, part_at, reached_by}
use Rattle.journal_core.proofs.Grows.{now_at-append}
use Rattle.composition_laws.specs.EntryLaws.{LeadsAsBefore}
use Rattle.composition_laws.proofs.Entries.{quiet_leads}
use Rattle.machine_parts.specs.Places.{GoesOn, state_of}
use Rattle.machine_parts.specs.Told.{told_of}
use Rattle.machine_parts.proofs.Going.{leads-to}
use Rattle.lock_moves.specs.Plays.{Current, Kept, Placed}
use Rattle.lock_moves.specs.Sets.{LockTable}
use Rattle.lock_moves.specs.SeatSight.{Known, Seen, Sitting, find_lock, known_part, with_now}
use Rattle.hall.specs.Steps.{HasBook, KeepsLocksAt, KnowsAfter}
use Rattle.hall.proofs.Parting.{now-held}

module _ (set : LockTable) (b : Chronicle) (s : Sitting) (has : HasBook set b s) (current : Current s.view) (t : Moment) (now : t.0 ≡ s.view.now) where
  -- the end of the moment may come next, and so may that of the run
  module _ (goes : GoesOn (told_of b)) (nothing : first_enabled_action b.input (state_of (told_of b)) (state_of (told_of b)).now ≡ None) where
    pub end-next : (next : Moment) → next_in_horizon b.input (state_of (told_of b)) ≡ Some next.0 → IsNext b.input (reached_by b.input b.history) (record { at = t; event = event.End next })
    end-next next comes = subst (λ (r : Reached). IsNext b.input r (record { at = t; event = event.End next })) (sym (leads-to (told_of b) goes)) (record { goes_on = refl; moment = now ∙ now-held set b s has current; event = (nothing, comes) })

    pub finish-next : next_in_horizon b.input (state_of (told_of b)) ≡ None → IsNext b.input (reached_by b.input b.history) (record { at = t; event = event.Finish })
    finish-next last = subst (λ (r : Reached). IsNext b.input r (record { at = t; event = event.Finish })) (sym (leads-to (told_of b) goes)) (record { goes_on = refl; moment = now ∙ now-held set b s has current; event = (nothing, last) })

  module _ (e : Entry) (quiet : event_action e.event ≡ None) where
    abbrev v : Seen
    v = s.view

    abbrev h : List Entry
    h = b.history ++ e ∷ []

    leads : LeadsAsBefore v.input h b.history
    leads = quiet_leads v.input b.history e quiet

    part-front : (k : ℕ) → part_at v.input h k ≡ part_at v.input v.front k
    part-front k = leads.parts k ∙ ap (λ (f : List Entry). part_at v.input f k) (sym has.front)

    pub kept-quiet : Kept v h
    kept-quiet k low none = part-front k

    -- at the moment n
    module _ (n : ℕ) (later : n ≡ now_at v.input h) where
      pub placed-quiet : Placed (with_now n v) h
      placed-quiet = (
        λ k x p low found small. (current.0 k x low found).1 p small ∙ ap (λ (f : List Entry). eqb (home_at v.input f p) k) has.front ∙ ap (λ (j : ℕ). eqb j k) (sym (leads.homes p)),
        later,
      )

    same-known : (x : Known) (k : ℕ) → k < 17 → find_lock k v.held ≡ Some x → (let y : Known = known_part (part_at v.input h k) x.names in y) ≡ x
    same-known x k low found = (let is : part_at v.input h k ≡ x.part = part-front k ∙ sym (current.0 k x low found).0 in λ i. known_part (is i) x.names)

    pub locks-quiet : (n : ℕ) (new : Seen) → KnowsAfter h (with_now n v) new → KeepsLocksAt n v new
    locks-quiet n new after = record {
      locks = λ k low. by_lock k low (find_lock k v.held) refl;
      others = λ k high none. after.none k none;
      book = after.book;
      moment = after.now;
    }
      where
        by_lock : (k : ℕ) → k < 17 → (o : Option Known) → find_lock k v.held ≡ o → find_lock k new.held ≡ find_lock k v.held
        by_lock k low None is = after.none k is ∙ sym is
        by_lock k low (Some x) is = after.some k x low is ∙ ap (λ (y : Known). Some y) (same-known x k low is) ∙ sym is

  pub end-now : (next : Moment) → next.0 ≡ now_at s.view.input (b.history ++ record { at = t; event = event.End next } ∷ [])
  end-now next = sym (now_at-append s.view.input b.history (record { at = t; event = event.End next }))

  pub finish-now : s.view.now ≡ now_at s.view.input (b.history ++ record { at = t; event = event.Finish } ∷ [])
  finish-now = current.1 ∙ ap (λ (f : List Entry). now_at s.view.input f) has.front ∙ sym (now_at-append s.view.input b.history (record { at = t; event = event.Finish }))
