-- What a worker does, call by call.
use mathlib.Core.List.{IsPrefix}
use mathlib.Core.Logic.{dite}
use native.Mathlib.Decide.{ℕ_discrete}
use Rattle.std.proofs.Common.{◌≡◌, ◌∙◌, ◌++◌, ◌+◌, ◌≤◌, ◌<◌, ◌%◌, ◌⊎◌, inl, inr, ℕ, List, [], ◌∷◌, get_or, refl, sym, ap, subst, append_assoc, append-nil, arith}
use Rattle.std.specs.Prelude.{None, Result, Ok, Err, IfOk, IfErr}
use Rattle.std.specs.List.{All}
use Rattle.std.proofs.lemmas.List.Elements.{All-append, All-nil, All-push}
use Rattle.sched_base.specs.Numbers.{domain, moment, processor}
use Rattle.sched_base.specs.declared.ProcId.{ProcId}
use Rattle.sched_model.specs.declared.action.Actor.{Actor}
use Rattle.sched_model.specs.declared.action.Actor.TheVariants.{Dom, Proc}
use Rattle.sched_model.specs.declared.event.Entry.{Entry}
use Rattle.sched_model.specs.declared.event.Event.{Event}
use Rattle.sched_model.specs.declared.machine.Machine.{Machine}
use Rattle.journal_core.specs.Histories.{state_at}
use Rattle.composition_laws.specs.Actors.{first_by}
use Rattle.lock_moves.specs.Sets.{LockTable}
use Rattle.lock_moves.proofs.Prefix.{prefix_more, prefix_refl}
use Rattle.hall.specs.declared.turns.Done.{Done}
use Rattle.hall.specs.declared.turns.Done.TheVariants as done
use Rattle.hall.specs.declared.turns.Full.{Full}
use Rattle.hall.specs.Seats.{Seated, Stays}
use Rattle.hall.specs.Turns.{ActsFull, HasActed, HasNothing, IsDone, Looked}
use Rattle.pcpu_threads.specs.Workers.{ActsAs, HasWaited, HasWorked, IsEventOf, IsFor, Rested, SeesSame, Works}
use Rattle.sched_model.specs.Runs.{action_entry}
use Rattle.pcpu_threads.proofs.Turning.{prefix_trans, stays_refl, stays_trans}

-- one of the actors has the entry at the place
abbrev IsOne : (Actor → Type 0) → Machine → List Entry → ℕ → Type 0
IsOne mine m h place = (actor : Actor) × mine actor × IsEventOf m actor h place

-- an entry keeps its place in a longer history
longer : (m : Machine) (actor : Actor) (h more : List Entry) (place : ℕ) → IsPrefix h more → IsEventOf m actor h place → IsEventOf m actor more place
longer m actor h more place begins e = record {
  before = e.before;
  action = e.action;
  place_is = e.place_is;
  first = e.first;
  begins = prefix_trans (e.before ++ action_entry m (state_at m e.before) e.action ∷ []) h more e.begins begins;
}

module _ (mine : Actor → Type 0) where
  -- a call that added nothing
  works-nothing : (old new : Seated) → Stays old new → IsPrefix old.sitting.view.front new.sitting.view.front → new.sitting.view.own ≡ old.sitting.view.own → old.sitting.view.takes ≤ new.sitting.view.takes → Works mine old new
  works-nothing old new stays begins own takes = record {
    stays = stays;
    begins = begins;
    added = [];
    own = own ∙ sym (append-nil old.sitting.view.own);
    entries = All-nil (IsOne mine old.sitting.view.input new.sitting.view.front);
    takes = takes;
  }

  pub works-same : (old new : Seated) → Stays old new → SeesSame old new → Works mine old new
  works-same old new stays same = works-nothing old new stays (subst (IsPrefix old.sitting.view.front) (sym same.front) (prefix_refl old.sitting.view.front)) same.own same.takes

  pub works_refl : (s : Seated) → Works mine s s
  works_refl s = works-nothing s s (stays_refl s) (prefix_refl s.sitting.view.front) refl (omega arith)

  -- one call after others
  pub works_trans : (a b c : Seated) → Works mine a b → Works mine b c → Works mine a c
  works_trans a b c u v =
      let P : ℕ → Type 0 = IsOne mine a.sitting.view.input c.sitting.view.front in
      let first : All P u.added = λ k d low. (let e = u.entries k d low in (e.0, e.1, longer a.sitting.view.input e.0 b.sitting.view.front c.sitting.view.front (get_or u.added k d) v.begins e.2)) in
      let second : All P v.added = λ k d low. (let e = v.entries k d low in (e.0, e.1, subst (λ (q : Machine). IsEventOf q e.0 c.sitting.view.front (get_or v.added k d)) u.stays.input e.2)) in
      record {
        stays = stays_trans a b c u.stays v.stays;
        begins = prefix_trans a.sitting.view.front b.sitting.view.front c.sitting.view.front u.begins v.begins;
        added = u.added ++ v.added;
        own = v.own ∙ ap (λ (xs : List ℕ). xs ++ v.added) u.own ∙ append_assoc a.sitting.view.own u.added v.added;
        entries = All-append P u.added v.added first second;
        takes = (let more = u.takes in let yet = v.takes in omega (arith, more, yet));
      }

  -- what was done for some actors was done for more
  pub works-wider : (other : Actor → Type 0) → ((actor : Actor) → mine actor → other actor) → (old new : Seated) → Works mine old new → Works other old new
  works-wider other wider old new w = record {
    stays = w.stays;
    begins = w.begins;
    added = w.added;
    own = w.own;
    entries = λ k d low. (let e = w.entries k d low in (e.0, wider e.0 e.1, e.2));
    takes = w.takes;
  }

-- what was done for one actor
pub works-for : (mine : Actor → Type 0) (actor : Actor) → mine actor → (old new : Seated) → ActsAs actor old new → Works mine old new
works-for mine actor is old new w = works-wider (λ a. a ≡ actor) mine (λ a same. subst mine (sym same) is) old new w

-- what a call of `act` has done
module _ (actor : Actor) (old new : Seated) (stays : Stays old new) where
  acts-event : (place : ℕ) (e : Event) (before : List Entry) → HasActed actor place e before old.sitting.view new.sitting.view → ActsAs actor old new
  acts-event place e before acted =
      let m = old.sitting.view.input in
      let s = state_at m before in
      let entry_at : Event → Entry = λ x. record { at = moment s.now; event = x } in
      let front : new.sitting.view.front ≡ before ++ action_entry m s acted.action ∷ [] = acted.added.front ∙ ap (λ (x : Event). before ++ entry_at x ∷ []) acted.is_event in
      let is : IsEventOf m actor new.sitting.view.front place = record {
        before = before;
        action = acted.action;
        place_is = acted.added.place_is;
        first = acted.first;
        begins = subst (IsPrefix (before ++ action_entry m s acted.action ∷ [])) (sym front) (prefix_refl (before ++ action_entry m s acted.action ∷ []));
      } in
      let P : ℕ → Type 0 = IsOne (λ a. a ≡ actor) m new.sitting.view.front in
      record {
        stays = stays;
        begins = subst (IsPrefix old.sitting.view.front) (sym acted.added.front) (prefix_more old.sitting.view.front before (entry_at e) acted.added.begins);
        added = place ∷ [];
        own = acted.added.own;
        entries = All-push P [] place (All-nil P) (actor, refl, is);
        takes = (let took = acted.added.took in omega (arith, took));
      }

  acts-looked : Looked old.sitting.view new.sitting.view → ActsAs actor old new
  acts-looked looked = works-nothing (λ a. a ≡ actor) old new stays looked.begins looked.own (let took = looked.took in omega (arith, took))

  acts-done : (d : Done) → IsDone actor d old new → ActsAs actor old new
  acts-done (done.Event place e) told = acts-event place e told.0 told.1
  acts-done done.Nothing told = acts-looked told.0.looked

  pub acts-said : (r : Result Done Full) → IfOk r (λ d. IsDone actor d old new) → IfErr r (λ full. ActsFull actor full old.sitting.view new.sitting.view) → ActsAs actor old new
  acts-said (Ok d) said full = acts-done d said
  acts-said (Err f) said full = acts-looked full.looked

-- and it took the book
took-done : (actor : Actor) (d : Done) (old new : Seated) → IsDone actor d old new → old.sitting.view.takes < new.sitting.view.takes
took-done actor (done.Event place e) old new told = told.1.added.took
took-done actor done.Nothing old new told = told.0.looked.took

pub took-said : (actor : Actor) (r : Result Done Full) (old new : Seated) → IfOk r (λ d. IsDone actor d old new) → IfErr r (λ full. ActsFull actor full old.sitting.view new.sitting.view) → old.sitting.view.takes < new.sitting.view.takes
took-said actor (Ok d) old new said full = took-done actor d old new said
took-said actor (Err f) old new said full = full.looked.took

-- an actor that rested in a part of the time
module _ (a b c : Seated) (stays : Stays a b) (first : IsPrefix a.sitting.view.front b.sitting.view.front) (second : IsPrefix b.sitting.view.front c.sitting.view.front) where
  pub rested-on : (actor : Actor) → Rested actor a b → Rested actor a c
  rested-on actor r = record { between = r.between; begins = r.begins; goes_on = prefix_trans r.between b.sitting.view.front c.sitting.view.front r.goes_on second; rests = r.rests }

  pub rested-since : (actor : Actor) → Rested actor b c → Rested actor a c
  rested-since actor r = record {
    between = r.between;
    begins = prefix_trans a.sitting.view.front b.sitting.view.front r.between first r.begins;
    goes_on = r.goes_on;
    rests = elim r.rests [
      | inl none ↦ inl (subst (λ (q : Machine). first_by q (state_at q r.between) actor ≡ None) stays.input none)
      | inr full ↦ inr (full ∙ stays.limit)
    ];
  }

-- a call of `act` that did nothing
pub nothing-rests : (actor : Actor) (old new : Seated) → HasNothing actor old.sitting.view new.sitting.view → Rested actor old new
nothing-rests actor old new told = record { between = new.sitting.view.front; begins = told.looked.begins; goes_on = prefix_refl new.sitting.view.front; rests = inl told.none }

pub full-rests : (actor : Actor) (old new : Seated) → Stays old new → (f : Full) → ActsFull actor f old.sitting.view new.sitting.view → Rested actor old new
full-rests actor old new stays f told = record { between = new.sitting.view.front; begins = told.looked.begins; goes_on = prefix_refl new.sitting.view.front; rests = inr (told.full_is.length_is ∙ stays.limit) }

-- the same where the processor rested, or waited for its siblings
pub rests-or-waits-on : (hall : LockTable) (p : ProcId) (old mid new : Seated) → Stays old mid → IsPrefix old.sitting.view.front mid.sitting.view.front → IsPrefix mid.sitting.view.front new.sitting.view.front
    → Rested (Proc p) old mid ⊎ HasWaited hall p old mid → Rested (Proc p) old new ⊎ HasWaited hall p old new
rests-or-waits-on hall p old mid new stays first second either = elim either [
  | inl r ↦ inl (rested-on old mid new stays first second (Proc p) r)
  | inr h ↦ inr (record { before = h.before; after = h.after; acts = h.acts; still = h.still; goes_on = prefix_trans h.after.sitting.view.front mid.sitting.view.front new.sitting.view.front h.goes_on second })
]

-- the worker p of n, domain by domain
module _ (hall : LockTable) (n p : ℕ) (old : Seated) where
  pub worked-first : (new : Seated) → ActsAs (Proc (processor p)) old new → old.sitting.view.takes < new.sitting.view.takes → Rested (Proc (processor p)) old new ⊎ HasWaited hall (processor p) old new → HasWorked hall n 0 p old new
  worked-first new acts took rests = record {
    took = took;
    works = works-for (IsFor n p) (Proc (processor p)) refl old new acts;
    for_processor = rests;
    for_domains = λ d low is. absurd (omega (arith, low));
  }

  pub worked-more : (d : ℕ) (mid new : Seated) → d % n ≡ p → HasWorked hall n d p old mid → ActsAs (Dom (domain d)) mid new → Rested (Dom (domain d)) mid new → HasWorked hall n (d + 1) p old new
  worked-more d mid new mine w acts rests = record {
    works = works_trans (IsFor n p) old mid new w.works (works-for (IsFor n p) (Dom (domain d)) mine mid new acts);
    took = (let had = w.took in let more = acts.takes in omega (arith, had, more));
    for_processor = rests-or-waits-on hall (processor p) old mid new w.works.stays w.works.begins acts.begins w.for_processor;
    for_domains = λ k low is. dite (ℕ_discrete k d)
        (λ same. subst (λ (j : ℕ). Rested (Dom (domain j)) old new) (sym same) (rested-since old mid new w.works.stays w.works.begins acts.begins (Dom (domain d)) rests))
        (λ other. rested-on old mid new w.works.stays w.works.begins acts.begins (Dom (domain k)) (w.for_domains k (omega (arith, low, other)) is));
  }

  pub worked-other : (d : ℕ) (new : Seated) → (d % n ≡ p → ⊥) → HasWorked hall n d p old new → HasWorked hall n (d + 1) p old new
  worked-other d new other w = record {
    works = w.works;
    took = w.took;
    for_processor = w.for_processor;
    for_domains = λ k low is. dite (ℕ_discrete k d)
        (λ same. absurd (other (subst (λ (j : ℕ). j % n ≡ p) same is)))
        (λ apart. w.for_domains k (omega (arith, low, apart)) is);
  }

  pub worked-all : (d domains : ℕ) (new : Seated) → domains ≤ d → HasWorked hall n d p old new → HasWorked hall n domains p old new
  worked-all d domains new all w = record { works = w.works; took = w.took; for_processor = w.for_processor; for_domains = λ k low is. w.for_domains k (omega (arith, low, all)) is }
