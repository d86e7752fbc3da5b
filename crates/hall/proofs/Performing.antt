-- An act of the tool, or an event of one pool, under all locks and the book.
use Rattle.std.proofs.Common.{◌≡◌, ◌∙◌, ◌<◌, ℕ, true, List, [], ◌∷◌, ◌++◌, length, refl, sym, ap, subst, arith, length-set, get_or-set_other}
use Rattle.std.proofs.lemmas.Grind.{get_or-set_at}
use Rattle.std.specs.Prelude.{Option, Some, None, option_map, slice_index_or, slice_set}
use Rattle.std.specs.Option.{ForSome}
use mathlib.Core.Logic.{dite}
use native.Mathlib.Decide.{ℕ_discrete}
use Rattle.sched_base.specs.Numbers.{moment, pool as pool_number}
use Rattle.sched_base.specs.declared.PoolId.{PoolId}
use Rattle.sched_model.specs.declared.action.Action.{Action}
use Rattle.sched_model.specs.declared.event.Entry.{Entry}
use Rattle.sched_model.specs.declared.event.Event.{Event}
use Rattle.sched_model.specs.declared.machine.Machine.{Machine}
use Rattle.sched_model.specs.declared.state.State.{State}
use Rattle.sched_model.specs.Actions.{IsOfPool, home_pool_of_action}
use Rattle.sched_model.specs.Machine.{event_of, is_action_enabled}
use Rattle.sched_model.specs.Places.{at_place}
use Rattle.sched_model.specs.Runs.{IsNext}
use Rattle.journal_core.specs.Books.{Chronicle}
use Rattle.journal_core.specs.Histories.{reached_by}
use Rattle.journal_core.specs.Parts.{tool_lock}
use Rattle.pool_core.specs.Seen.{Seen as PoolSeen}
use Rattle.machine_parts.specs.Counts.{AreSpares}
use Rattle.machine_parts.specs.Places.{GoesOn, state_of}
use Rattle.machine_parts.specs.Told.{Told, told_of}
use Rattle.machine_parts.proofs.Going.{comes-next, entry-is, goes-on}
use Rattle.machine_parts.proofs.AtPlaces.{number-of, no-number}
use Rattle.tool_actions.specs.Acts.{told_event}
use Rattle.machine_parts.specs.Parts.{AreParts, event_pool}
use Rattle.machine_parts.proofs.Performing.{own-event}
use Rattle.lock_moves.specs.Plays.{Current, Kept, Placed}
use Rattle.lock_moves.specs.Sets.{LockTable, sitting_with}
use Rattle.lock_moves.specs.SeatSight.{HoldsBelow, Seen, Sitting}
use Rattle.lock_moves.proofs.Holding.{kept_all}
use Rattle.hall.specs.declared.all.AllParts.{AllParts}
use Rattle.hall.specs.declared.value.ToolKept.{ToolKept}
use Rattle.hall.specs.declared.whole.NameMove.{NameMove}
use Rattle.hall.specs.SeatKnowledge.{KnowsAll, KnowsPool, KnowsTool}
use Rattle.hall.specs.Moves.{HandsName, MayHand, after_handing}
use Rattle.hall.specs.Steps.{HasBook, HasEntered, KeepsOthers, KnowsAfter}
use Rattle.hall.proofs.Handing.{handed-holds, may-hand-over, placed-handed}
use Rattle.hall.proofs.Parting.{holds-all, knows-after, now-held, pool-later, tool-later}
use Rattle.sched_laws.proofs.Lists.{same_read}

-- a move of a name keeps the moment, and the book in the seat's hands
handed-now : (moved : Option NameMove) (v : Seen) → (after_handing moved v).now ≡ v.now
handed-now None v = refl
handed-now (Some moved) v = refl

handed-book : (set : LockTable) (b : Chronicle) (s : Sitting) (moved : Option NameMove) → HasBook set b s → HoldsBelow 18 s.view → HasBook set b (sitting_with s (after_handing moved s.view))
handed-book set b s None has held = has
handed-book set b s (Some moved) has held = record {
  table = has.table;
  holds = (handed-holds (Some moved) 18 s.view held).holds 17 (omega arith);
  input = has.input;
  limit = has.limit;
  front = has.front;
  nobody = has.nobody;
}

-- the event is of the pool that the tool tells, or of none
pub of-pool : (m : Machine) (s : State) (action : Action) (g : ℕ) → g ≡ m.config.granularity → (o : Option PoolId) → o ≡ option_map pool_number (event_pool g s action) → (i : PoolId) → o ≡ Some i → IsOfPool action × (home_pool_of_action m.config.granularity s action ≡ Some i.0)
of-pool m s action g is o told i found = own-event m.config.granularity s action i.0 (ap (λ (n : ℕ). event_pool n s action) (sym is) ∙ number-of (event_pool g s action) i (sym told ∙ found))

pub of-none : (m : Machine) (s : State) (action : Action) (g : ℕ) → g ≡ m.config.granularity → (o : Option PoolId) → o ≡ option_map pool_number (event_pool g s action) → o ≡ None → event_pool m.config.granularity s action ≡ None
of-none m s action g is o told found = ap (λ (n : ℕ). event_pool n s action) (sym is) ∙ no-number (event_pool g s action) (sym told ∙ found)

module _ (set : LockTable) (b : Chronicle) (s : Sitting) (has : HasBook set b s) (current : Current s.view) (goes : GoesOn (told_of b)) (all : AllParts) (knows : KnowsAll all s.view) where
  abbrev w : Told
  w = told_of b

  held : HoldsBelow 18 s.view
  held = holds-all all s.view knows has.holds

  module _ (action : Action) (on : is_action_enabled b.input (state_of w) (state_of w).now action ≡ true) (t : ℕ) (now : t ≡ s.view.now) (event : Event) (ev : event ≡ event_of b.input (state_of w) (state_of w).now action) where
    abbrev pub done : Entry
    done = record { at = moment t; event = event }

    is-done : done ≡ record { at = moment (state_of w).now; event = event_of b.input (state_of w) (state_of w).now action }
    is-done = entry-is w action done (ap moment (now ∙ now-held set b s has current)) ev

    pub next-done : IsNext b.input (reached_by b.input b.history) done
    next-done = comes-next w goes action on done is-done

    goes-done : GoesOn (told_event w t event)
    goes-done = goes-on w goes action on done is-done

    module _ (moved : Option NameMove) (hands : HandsName w action moved) where
      abbrev v : Seen
      v = after_handing moved s.view

      pub may-done : ForSome moved (MayHand s.view)
      may-done = may-hand-over w goes action on done is-done goes-done s.view has.input has.front current held moved hands

      module _ (mid : Sitting) (is : mid ≡ sitting_with s v) where
        pub has-done : HasBook set b mid
        has-done = subst (HasBook set b) (sym is) (handed-book set b s moved has held)

        pub kept-done : Kept mid.view (b.history ++ done ∷ [])
        kept-done = subst (λ (x : Sitting). Kept x.view (b.history ++ done ∷ [])) (sym is) (kept_all (b.history ++ done ∷ []) v (handed-holds moved 18 s.view held))

        pub placed-done : Placed mid.view (b.history ++ done ∷ [])
        placed-done = subst (λ (x : Sitting). Placed x.view (b.history ++ done ∷ [])) (sym is) (placed-handed w goes action on done is-done goes-done s.view has.input has.front current held moved hands)

        pub knows-done : (new : Sitting) (left : AllParts) → HasEntered b done mid new → KnowsAfter (b.history ++ done ∷ []) mid.view new.view → AreParts (told_event w t event) left.slots.items left.tool.value.tool → AreSpares b.input t left.tool.value.tool.part left.tool.value.spares → KnowsAll left new.view
        knows-done new left entered after parts spares =
            let input : b.input ≡ mid.view.input = has-done.input in
            let time : t ≡ new.view.now = now ∙ sym (after.now ∙ ap (λ (x : Sitting). x.view.now) is ∙ handed-now moved s.view) in
            knows-after (told_event w t event) mid.view new.view input entered.input placed-done after goes-done left
            (subst (λ (x : Sitting). HoldsBelow 18 x.view) (sym is) (handed-holds moved 18 s.view held)) parts
            (subst (λ (n : ℕ). AreSpares b.input n left.tool.value.tool.part left.tool.value.spares) time spares)

-- one pool's place and its lock were changed, and of every other the seat knows what it knew
module _ (all left : AllParts) (old new : Seen) (knows : KnowsAll all old) (same : new.input ≡ old.input) (i : ℕ) (low : i < 16) (slot : Option PoolSeen) (here : KnowsPool i slot new) (keeps : KeepsOthers i old new) where
  pool-changed : (slots : List (Option PoolSeen)) → slots ≡ slice_set all.slots.items i slot → (k : ℕ) → k < 16 → KnowsPool k (at_place slots k) new
  pool-changed slots is k few = subst (λ (xs : List (Option PoolSeen)). KnowsPool k (at_place xs k) new) (sym is) (dite (ℕ_discrete k i)
      (λ (at : k ≡ i).
      let inside : i < length all.slots.items = (let count = knows.count in omega (arith, low, count)) in
      subst (λ (x : Option PoolSeen). KnowsPool k x new) (sym (get_or-set_at all.slots.items i k slot None at inside)) (subst (λ (n : ℕ). KnowsPool n slot new) (sym at) here))
      (λ other.
      let was = knows.pools k (let count = knows.count in omega (arith, few, count)) in
      subst (λ (x : Option PoolSeen). KnowsPool k x new) (sym (get_or-set_other all.slots.items i k slot None other))
      (pool-later old.now old new same keeps.moment (omega arith) k (at_place all.slots.items k) (keeps.locks k (omega (arith, few)) other) was)))

  pub knows-changed : left.slots.items ≡ slice_set all.slots.items i slot → left.tool.value ≡ all.tool.value → KnowsAll left new
  knows-changed slots tool = record {
    count = ap length slots ∙ length-set all.slots.items i slot ∙ knows.count;
    pools = λ k few. pool-changed left.slots.items slots k (let count = ap length slots ∙ length-set all.slots.items i slot ∙ knows.count in omega (arith, few, count));
    tool = subst (λ (x : ToolKept). KnowsTool x.tool x.spares new) (sym tool)
        (tool-later old.now old new same keeps.moment (omega arith) all.tool.value.tool all.tool.value.spares (keeps.locks tool_lock (omega arith) (λ is. omega (arith, is, low))) knows.tool);
    others = λ k high. keeps.others k (omega (arith, high)) (knows.others k high);
  }

-- what is read at a place of the list is what stands there
pub place-read : (slots : List (Option PoolSeen)) (n i : ℕ) (default : Option PoolSeen) (v : Seen) → n ≡ i → i < length slots → KnowsPool i (at_place slots i) v → KnowsPool i (slice_index_or slots n default) v
place-read slots n i default v is low knows = subst (λ (x : Option PoolSeen). KnowsPool i x v) (same_read slots i None default low ∙ ap (λ (k : ℕ). slice_index_or slots k default) (sym is)) knows
