-- What a seat knows of the values that it holds, when it takes a lock more or puts the last one back.
use Rattle.std.proofs.Common.{◌≡◌, ◌∙◌, ℕ, ◌+◌, ◌<◌, ◌≤◌, [], List, ◌∷◌, ◌++◌, length, Some, None, refl, sym, ap, subst, arith}
use Rattle.std.specs.Prelude.{Option}
use Rattle.std.proofs.lemmas.List.{get_or_append_left, get_or_push, length_push}
use mathlib.Core.Logic.{dite}
use native.Mathlib.Decide.{ℕ_discrete}
use Rattle.sched_model.specs.declared.machine.Machine.{Machine}
use Rattle.sched_model.specs.declared.event.Entry.{Entry}
use Rattle.sched_model.specs.Places.{at_place}
use Rattle.journal_core.specs.Parts.{StatePart, ToolPart, pool_part, tool_part}
use Rattle.journal_core.specs.Histories.{part_at, state_at}
use Rattle.pool_core.specs.Seen.{Seen as PoolSeen}
use Rattle.machine_parts.specs.Places.{slot_part}
use Rattle.machine_parts.proofs.Standing.{part_below, slot_part-is}
use Rattle.lock_moves.specs.SeatSight.{Known, Seen, Sitting, HoldsBelow, find_lock, after_give, known_part as known, tried_again}
use Rattle.lock_moves.specs.Sets.{HasTaken, IsAsKnown, sitting_with}
use Rattle.lock_moves.specs.Plays.{IsPartOfSome}
use Rattle.lock_moves.proofs.Finding.{find-head, find-without-other, none_held}
use Rattle.lock_moves.proofs.Holding.{holds_less}
use Rattle.hall.specs.declared.all.AllParts.{AllParts}
use Rattle.hall.specs.SeatKnowledge.{KnowsAll, KnowsPool, KnowsPools, KnowsStill}
use Rattle.hall.specs.Steps.{KeepsSight}
use Rattle.hall.proofs.Parting.{held-all, pool-later}

-- the part of a lock that is not the tool's is a place for a pool; the tool's part is the other
abbrev IsPlace : StatePart → Type 0
IsPlace (pool_part pool) = Unit {0}
IsPlace (tool_part tool) = ⊥

abbrev IsTool : StatePart → Type 0
IsTool (pool_part pool) = ⊥
IsTool (tool_part tool) = Unit {0}

place_at : (m : Machine) (h : List Entry) (k : ℕ) → k < 16 → IsPlace (part_at m h k)
unfolding part_at
place_at m h k low = subst IsPlace (sym (part_below (state_at m h) k low)) tt

tool_at : (m : Machine) (h : List Entry) → IsTool (part_at m h 16)
unfolding part_at
tool_at m h = tt

pub no_tool : (k : ℕ) (v : Seen) (tool : ToolPart) → k < 16 → IsPartOfSome k (tool_part tool) v → ⊥
no_tool k v tool low some = subst IsPlace (sym some.2) (place_at v.input some.0 k low)

pub no_place : (v : Seen) (slot : Option PoolSeen) → IsPartOfSome 16 (slot_part slot) v → ⊥
no_place v slot some = subst IsTool (sym some.2 ∙ slot_part-is slot) (tool_at v.input some.0)

-- one step that keeps the sight after another
-- nothing was seen and done, and then no more
pub keeps_same : (s : Sitting) → KeepsSight s s
keeps_same s = record { table = refl; input = refl; limit = refl; shares = refl; front = refl; own = refl; takes = refl }

pub keeps_on : (a b c : Sitting) → KeepsSight a b → KeepsSight b c → KeepsSight a c
keeps_on a b c f g = record {
  table = g.table ∙ f.table;
  input = g.input ∙ f.input;
  limit = g.limit ∙ f.limit;
  shares = g.shares ∙ f.shares;
  front = g.front ∙ f.front;
  own = g.own ∙ f.own;
  takes = g.takes ∙ f.takes;
}

-- what is known of the first pools stays, where each of their locks is found as before, at the same moment
still_of : (n : ℕ) (old new : Seen) → new.input ≡ old.input → ((k : ℕ) (x : Known) → k < n → find_lock k old.held ≡ Some x → (find_lock k new.held ≡ Some x) × (new.now ≡ old.now)) → KnowsStill n old new
still_of n old new input found k slot low knows = (let z = knows.known in let e = found k z.0 low z.1 in pool-later old.now old new input e.1 (omega arith) k slot (e.0 ∙ sym z.1) knows)

-- a lock was taken
module _ (n k : ℕ) (part : StatePart) (old new : Sitting) (t : HasTaken k part (tried_again n k old.view) old new) where
  pub taken_keeps : KeepsSight old new
  taken_keeps = subst (KeepsSight old) (sym t.2) (record { table = refl; input = refl; limit = refl; shares = refl; front = refl; own = refl; takes = refl })

  pub taken_input : new.view.input ≡ old.view.input
  taken_input = taken_keeps.input

  pub taken_known : IsAsKnown k part new.view
  taken_known = (known part t.0, ap (λ (s : Sitting). find_lock k s.view.held) t.2 ∙ find-head k (known part t.0) old.view.held, refl, t.3)

-- the last lock was put back
module _ (k : ℕ) (old new : Sitting) (is : new ≡ sitting_with old (after_give k old.view)) where
  pub gave_keeps : KeepsSight old new
  gave_keeps = subst (KeepsSight old) (sym is) (record { table = refl; input = refl; limit = refl; shares = refl; front = refl; own = refl; takes = refl })

  pub gave_below : HoldsBelow (k + 1) old.view → HoldsBelow k new.view
  gave_below below = subst (λ (s : Sitting). HoldsBelow k s.view) (sym is) (holds_less k old.view below)

  pub gave_still : KnowsStill k old.view new.view
  gave_still = still_of k old.view new.view gave_keeps.input (λ j x low found. (
    ap (λ (s : Sitting). find_lock j s.view.held) is ∙ (find-without-other k j old.view.held (λ e. absurd (omega (arith, e, low))) ∙ found),
    ap (λ (s : Sitting). s.view.now) is,
  ))

-- the places of the first pools are still known
pub pools_still : (n : ℕ) (slots : List (Option PoolSeen)) (old new : Seen) → length slots ≤ n → KnowsStill n old new → KnowsPools slots old → KnowsPools slots new
pools_still n slots old new few still knows k low = still k (at_place slots k) (omega (arith, low, few)) (knows k low)

-- one place more
pub pools_more : (n : ℕ) (slots all : List (Option PoolSeen)) (slot : Option PoolSeen) (v : Seen) → all ≡ slots ++ slot ∷ [] → length slots ≡ n → KnowsPools slots v → KnowsPool n slot v → KnowsPools all v
pools_more n slots all slot v more count knows last k low = dite (ℕ_discrete k n)
    (λ is.
    let at : at_place all k ≡ slot = ap (λ (xs : List (Option PoolSeen)). at_place xs k) more ∙ get_or_push slots slot None k (count ∙ sym is) in
    subst (λ (x : Option PoolSeen). KnowsPool k x v) (sym at) (subst (λ (j : ℕ). KnowsPool j slot v) (sym is) last))
    (λ ne.
    let total = ap (λ (xs : List (Option PoolSeen)). length xs) more ∙ length_push slots slot in
    let before : k < length slots = omega (arith, low, ne, count, total) in
    let at : at_place all k ≡ at_place slots k = ap (λ (xs : List (Option PoolSeen)). at_place xs k) more ∙ get_or_append_left slots (slot ∷ []) None k before in
    subst (λ (x : Option PoolSeen). KnowsPool k x v) (sym at) (knows k before))

-- one place fewer: the last one is known too
pub pools_fewer : (slots all : List (Option PoolSeen)) (slot : Option PoolSeen) (v : Seen) → all ≡ slots ++ slot ∷ [] → KnowsPools all v → KnowsPools slots v × KnowsPool (length slots) slot v
pools_fewer slots all slot v more knows =
    let total = ap (λ (xs : List (Option PoolSeen)). length xs) more ∙ length_push slots slot in (
      λ k low.
          let at : at_place all k ≡ at_place slots k = ap (λ (xs : List (Option PoolSeen)). at_place xs k) more ∙ get_or_append_left slots (slot ∷ []) None k low in
          subst (λ (x : Option PoolSeen). KnowsPool k x v) at (knows k (omega (arith, low, total))),
      (let at : at_place all (length slots) ≡ slot = ap (λ (xs : List (Option PoolSeen)). at_place xs (length slots)) more ∙ get_or_push slots slot None (length slots) refl in
          subst (λ (x : Option PoolSeen). KnowsPool (length slots) x v) at (knows (length slots) (omega (arith, total)))),
    )

-- all values are known, so their locks are held, and no other where the book's is not
pub all_held : (all : AllParts) (v : Seen) → KnowsAll all v → find_lock 17 v.held ≡ None → HoldsBelow 17 v
all_held all v knows book = record {
  holds = held-all all v knows;
  others = λ k high. dite (ℕ_discrete k 17)
      (λ is. ap (λ (j : ℕ). find_lock j v.held) is ∙ book)
      (λ ne. knows.others k (omega (arith, high, ne)));
}

-- no lock is held, so nothing is
pub held_none : (n : ℕ) (v : Seen) → n ≡ 0 → HoldsBelow n v → v.held ≡ []
held_none n v none below = none_held v.held (λ k. below.others k (omega (arith, none)))
