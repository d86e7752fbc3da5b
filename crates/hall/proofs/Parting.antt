-- From what a seat knows of all parts to the parts of the state where the book's history leads, and back.
use Rattle.std.proofs.Common.{◌≡◌, ◌≢◌, ◌∙◌, ◌≤◌, ◌<◌, ℕ, false, sym, ap, subst, eqb, arith}
use Rattle.std.specs.Prelude.{Option, None, Some}
use Rattle.std.specs.Option.{ForSome}
use mathlib.Core.Logic.{dite}
use native.Mathlib.Decide.{dec_lt}
use Rattle.sched_model.specs.declared.machine.Machine.{Machine}
use Rattle.sched_model.specs.declared.state.State.{State}
use Rattle.sched_model.specs.CheckedMachine.{IsChecked}
use Rattle.sched_model.specs.Places.{at_place}
use Rattle.sched_model.specs.Runs.{IsRun}
use Rattle.journal_core.specs.Books.{Chronicle}
use Rattle.journal_core.specs.Histories.{NamesStandOnce, home_at, now_at, part_at, reached_by}
use Rattle.journal_core.specs.Parts.{StatePart, ToolPart, lists, part_of, tool_lock, tool_part, tool_of as part_of_tool}
use Rattle.composition_laws.proofs.NamesLaw.{names_stand_once}
use Rattle.cpupool.specs.Tool.{Tool, tool_of}
use Rattle.pool_core.specs.Seen.{Seen as PoolSeen}
use Rattle.machine_parts.specs.Counts.{AreSpares}
use Rattle.machine_parts.specs.Places.{GoesOn, SlotSuits, StandsAt, slot_part, state_of}
use Rattle.machine_parts.specs.Spares.{Shelves}
use Rattle.machine_parts.specs.Told.{Told, told_of}
use Rattle.machine_parts.proofs.Going.{now_of-is, part_of-is}
use Rattle.machine_parts.proofs.Keeping.{spares-later}
use Rattle.machine_parts.specs.Parts.{AreParts}
use Rattle.machine_parts.proofs.Performing.{slot-later}
use Rattle.lock_moves.specs.Plays.{Current, Placed}
use Rattle.lock_moves.specs.Sets.{IsAsKnown, LockTable}
use Rattle.lock_moves.specs.SeatSight.{Holds, HoldsBelow, Known, Seen, Sitting, find_lock, known_part as known}
use Rattle.hall.specs.declared.all.AllParts.{AllParts}
use Rattle.hall.specs.SeatKnowledge.{KnowsAll, KnowsPool, KnowsTool}
use Rattle.hall.specs.Steps.{HasBook, KeepsLocks, KeepsLocksAt, KeepsSight, KnowsAfter}
use Rattle.hall.specs.Values.{ToolSuits}

-- under the book, what the seat knows is of the state where the book's history leads
module _ (set : LockTable) (b : Chronicle) (s : Sitting) (has : HasBook set b s) (current : Current s.view) where
  pub now-held : s.view.now ≡ (state_of (told_of b)).now
  now-held = current.1 ∙ (λ i. now_at (sym has.input i) (has.front i)) ∙ now_of-is (told_of b)

  pub run-held : IsRun b.input b.history
  run-held = subst (λ (m : Machine). IsRun m b.history) (sym has.input) (subst (IsRun s.view.input) has.front current.3.run)

  pub goes-held : IsChecked b.input → (reached_by b.input b.history).over ≡ false → GoesOn (told_of b)
  goes-held checked over = record { checked = checked; run = run-held; goes = over }

  pub part-here : (k : ℕ) (x : Known) → k < 17 → find_lock k s.view.held ≡ Some x → x.part ≡ part_at b.input b.history k
  part-here k x low found = (current.0 k x low found).0 ∙ (λ i. part_at (sym has.input i) (has.front i) k)

  pub part-held : (k : ℕ) (part : StatePart) → k < 17 → IsAsKnown k part s.view → part ≡ part_at b.input b.history k
  part-held k part low as_known = as_known.2 ∙ part-here k as_known.0 low as_known.1

  pub stands-held : (k : ℕ) (slot : Option PoolSeen) → k < 16 → KnowsPool k slot s.view → StandsAt (told_of b) k slot
  stands-held k slot low knows = record {
    place = low;
    part = part-held k (slot_part slot) (omega (arith, low)) knows.known;
    suits = subst (λ (m : Machine). ForSome slot (SlotSuits m (state_of (told_of b)).now)) (sym has.input) (subst (λ (n : ℕ). ForSome slot (SlotSuits s.view.input n)) now-held knows.suits);
  }

  pub tool-held : (tool : Tool) (shelves : Shelves) → KnowsTool tool shelves s.view → tool_of b.input (state_of (told_of b)) ≡ tool
  tool-held tool shelves knows =
      let at : State = state_of (told_of b) in
      let is : (let p : StatePart = tool_part tool.part in p) ≡ part_of at tool_lock = part-held tool_lock (tool_part tool.part) (omega arith) knows.known ∙ part_of-is (told_of b) tool_lock in
      let same : tool.part ≡ part_of_tool at = cc in
      sym (subst (λ (m : Machine). (let x : Tool = record tool { part = part_of_tool at } in x) ≡ tool_of m at) (sym has.input) (knows.suits.knows at)) ∙ ap (λ (p : ToolPart). let x : Tool = record tool { part = p } in x) (sym same)

  pub parts-held : (all : AllParts) → GoesOn (told_of b) → KnowsAll all s.view → AreParts (told_of b) all.slots.items all.tool.value.tool
  parts-held all goes knows = record {
    goes = goes;
    stand = record { count = knows.count; each = λ k low. stands-held k (at_place all.slots.items k) low (knows.pools k (let count = knows.count in omega (arith, low, count))) };
    known = tool-held all.tool.value.tool all.tool.value.spares knows.tool;
  }

-- a seat that knows all parts holds their locks
pub held-all : (all : AllParts) (v : Seen) → KnowsAll all v → (k : ℕ) → k < 17 → Holds k v
held-all all v knows k low = dite (dec_lt k 16)
    (λ pool. let as_known = (knows.pools k (let count = knows.count in omega (arith, pool, count))).known in (as_known.0, as_known.1))
    (λ tool. let as_known = knows.tool.known in subst (λ (j : ℕ). Holds j v) (omega (arith, low, tool)) (as_known.0, as_known.1))

-- with the book's lock
pub holds-all : (all : AllParts) (v : Seen) → KnowsAll all v → Holds 17 v → HoldsBelow 18 v
holds-all all v knows book = record {
  holds = λ k low. dite (dec_lt k 17)
      (λ part. held-all all v knows k part)
      (λ last. subst (λ (j : ℕ). Holds j v) (omega (arith, low, last)) book);
  others = knows.others;
}

-- what the seat knows once the book went back with the history of another trail, whose names it had
module _ (next : Told) (old new : Seen) (input : next.input ≡ old.input) (same : new.input ≡ old.input) (placed : Placed old next.history) (after : KnowsAfter next.history old new) (goes : GoesOn next) where
  pub now-after : (state_of next).now ≡ new.now
  now-after = sym (after.now ∙ placed.1 ∙ ap (λ (m : Machine). now_at m next.history) (sym input) ∙ now_of-is next)

  pub known-after : (k : ℕ) (part : StatePart) → k < 17 → Holds k old → part ≡ part_at next.input next.history k → IsAsKnown k part new
  known-after k part low held is =
      let here : part_at next.input next.history k ≡ part_at old.input next.history k = ap (λ (m : Machine). part_at m next.history k) input in
      let once : NamesStandOnce next.input next.history = names_stand_once next.input goes.checked next.history goes.run in (
        known (part_at old.input next.history k) held.0.names,
        after.some k held.0 low held.1,
        is ∙ here,
        λ n small. ap (λ (p : StatePart). lists p n) (sym here) ∙ once k n low small ∙ ap (λ (m : Machine). eqb (home_at m next.history n) k) input ∙ sym (placed.0 k held.0 n low held.1 small),
      )

  pub knows-pool-after : (k : ℕ) (slot : Option PoolSeen) → Holds k old → StandsAt next k slot → KnowsPool k slot new
  knows-pool-after k slot held stands = record {
    known = known-after k (slot_part slot) (let low = stands.place in omega (arith, low)) held stands.part;
    suits = subst (λ (m : Machine). ForSome slot (SlotSuits m new.now)) (input ∙ sym same) (subst (λ (n : ℕ). ForSome slot (SlotSuits next.input n)) now-after stands.suits);
  }

  pub knows-tool-after : (tool : Tool) (shelves : Shelves) → Holds tool_lock old → tool_of next.input (state_of next) ≡ tool → AreSpares next.input new.now tool.part shelves → KnowsTool tool shelves new
  knows-tool-after tool shelves held is spares = record {
    known = known-after tool_lock (tool_part tool.part) (omega arith) held (ap (λ (x : Tool). let p : StatePart = tool_part x.part in p) (sym is) ∙ sym (part_of-is next tool_lock));
    suits = record {
      knows = λ at. subst (λ (x : Tool). (let y : Tool = record x { part = part_of_tool at } in y) ≡ tool_of new.input at) is (ap (λ (m : Machine). tool_of m at) (input ∙ sym same));
      spares = subst (λ (m : Machine). AreSpares m new.now tool.part shelves) (input ∙ sym same) spares;
    };
  }

  pub knows-after : (all : AllParts) → HoldsBelow 18 old → AreParts next all.slots.items all.tool.value.tool → AreSpares next.input new.now all.tool.value.tool.part all.tool.value.spares → KnowsAll all new
  knows-after all held parts spares = record {
    count = parts.stand.count;
    pools = λ k low. knows-pool-after k (at_place all.slots.items k) (held.holds k (let count = parts.stand.count in omega (arith, low, count))) (parts.stand.each k (let count = parts.stand.count in omega (arith, low, count)));
    tool = knows-tool-after all.tool.value.tool all.tool.value.spares (held.holds tool_lock (omega arith)) parts.known spares;
    others = λ k high. after.none k (held.others k high);
  }

-- what is known of a lock stays known where the seat has the same of it
pub as-known : (k : ℕ) (part : StatePart) (old new : Seen) → find_lock k new.held ≡ find_lock k old.held → IsAsKnown k part old → IsAsKnown k part new
as-known k part old new same is = (is.0, same ∙ is.1, is.2, is.3)

-- and so does a value, at the same moment or a later one
module _ (now : ℕ) (old new : Seen) (same : new.input ≡ old.input) (moment : new.now ≡ now) (past : old.now ≤ now) where
  pub pool-later : (k : ℕ) (slot : Option PoolSeen) → find_lock k new.held ≡ find_lock k old.held → KnowsPool k slot old → KnowsPool k slot new
  pool-later k slot lock knows = record {
    known = as-known k _ old new lock knows.known;
    suits = subst (λ (p : Machine × ℕ). ForSome slot (SlotSuits p.0 p.1)) (λ i. (sym same i, sym moment i)) (slot-later old.input old.now now slot past knows.suits);
  }

  pub tool-later : (tool : Tool) (shelves : Shelves) → find_lock tool_lock new.held ≡ find_lock tool_lock old.held → KnowsTool tool shelves old → KnowsTool tool shelves new
  tool-later tool shelves lock knows = record {
    known = as-known tool_lock _ old new lock knows.known;
    suits = subst (λ (p : Machine × ℕ). ToolSuits p.0 p.1 tool shelves) (λ i. (sym same i, sym moment i))
        (record { knows = knows.suits.knows; spares = spares-later old.input old.now now tool.part shelves past knows.suits.spares });
  }

  -- all parts stay known where the seat has the same of their locks
  pub knows-same : ((k : ℕ) → k < 17 → find_lock k new.held ≡ find_lock k old.held) → ((k : ℕ) → 17 < k → find_lock k old.held ≡ None → find_lock k new.held ≡ None) → (all : AllParts) → KnowsAll all old → KnowsAll all new
  knows-same locks others all knows = record {
    count = knows.count;
    pools = λ k low. pool-later k (at_place all.slots.items k) (locks k (let count = knows.count in omega (arith, low, count))) (knows.pools k low);
    tool = tool-later all.tool.value.tool all.tool.value.spares (locks tool_lock (omega arith)) knows.tool;
    others = λ k high. others k (omega (arith, high)) (knows.others k high);
  }

  -- so they do where the book went back with the same parts
  pub knows-later : KeepsLocksAt now old new → (all : AllParts) → KnowsAll all old → KnowsAll all new
  knows-later keeps = knows-same keeps.locks keeps.others

-- where it went back as it was
pub knows-put : (old new : Sitting) → KeepsSight old new → KeepsLocks old.view new.view → (all : AllParts) → KnowsAll all old.view → KnowsAll all new.view
knows-put old new keeps locks = knows-later old.view.now old.view new.view keeps.input locks.moment (omega arith) locks

-- and where it was taken
pub knows-taken : (all : AllParts) (old new : Seen) → new.input ≡ old.input → ((k : ℕ) → k ≢ 17 → find_lock k new.held ≡ find_lock k old.held) → ((k : ℕ) (x : Known) → find_lock k old.held ≡ Some x → new.now ≡ old.now) → KnowsAll all old → KnowsAll all new
knows-taken all old new input locks still knows =
    let tool = knows.tool.known in
    knows-same old.now old new input (still tool_lock tool.0 tool.1) (omega arith) (λ k low. locks k (λ is. omega (arith, low, is))) (λ k high none. locks k (λ is. omega (arith, high, is)) ∙ none) all knows
