-- What a seat has under the first locks, and how the calls change it.
use Rattle.std.proofs.Common.{◌≡◌, ◌≢◌, ℕ, suc, ◌+◌, ◌<◌, ◌≤◌, cond, eqb, List, ◌∷◌, Some, None, sym, ap, ◌∙◌, subst, eq-eqb, ne_eqb, arith}
use mathlib.Core.Logic.{dite}
use native.Mathlib.Decide.{ℕ_discrete, dec_lt}
use Rattle.sched_model.specs.declared.event.Entry.{Entry}
use Rattle.sched_model.specs.declared.machine.Machine.{Machine}
use Rattle.journal_core.specs.Parts.{StatePart, lists}
use Rattle.journal_core.specs.Histories.{part_at, home_at, now_at, decides_at, NamesStandOnce}
use Rattle.lock_moves.specs.SeatSight.{Known, Seen, Sitting, known_part, find_lock, has_place, locks_without, Holds, HoldsBelow, IsCurrent, KnowsBelow, AllBelow, took_book, book_known, after_give, moved_name, committed_view, tried_again, raise}
use Rattle.lock_moves.specs.Plays.{Current, Kept, Placed, Decided}
use Rattle.lock_moves.specs.Sets.{sitting_with, HasTaken, IsAsKnown, HasName}
use Rattle.lock_moves.proofs.Finding.{some_same, never, find-tail, find-without-same, find-without-other, find-refreshed-is, find-refreshed-none}
use Rattle.lock_moves.proofs.Naming.{names_after, after_here, after_else, find-renamed-is, find-renamed-none}

-- a lock that is found among others is below n, where those from n on are not
pub all_below : (n : ℕ) (v : Seen) → ((k : ℕ) → n ≤ k → find_lock k v.held ≡ None) → AllBelow n v.held
all_below n v others j x found = dite (dec_lt j n) (λ low. low) (λ high. absurd (never x (sym (others j (omega (arith, high))) ∙ found)))

pub holds_known : (m : Machine) (n : ℕ) (h : List Entry) (v : Seen) → KnowsBelow m n h v → HoldsBelow n v
holds_known m n h v k = record { holds = λ j low. ((k.knows j low).0, (k.knows j low).1); others = k.others }

-- one lock more
pub holds_more : (n : ℕ) (x : Known) (v w : Seen) → w.held ≡ (n, x) ∷ v.held → HoldsBelow n v → HoldsBelow (n + 1) w
holds_more n x v w is h = record {
  holds = λ k low. dite (ℕ_discrete k n)
      (λ e. (x, ap (find_lock k) is ∙ (ap (λ b. cond b (Some x) (find_lock k v.held)) (eq-eqb k n e))))
      (λ ne. let z = h.holds k (omega (arith, low, ne)) in (z.0, ap (find_lock k) is ∙ (find-tail k n x v.held ne ∙ z.1)));
  others = λ k high. ap (find_lock k) is ∙ (find-tail k n x v.held (λ e. absurd (omega (arith, e, high))) ∙ h.others k (omega (arith, high)));
}

-- the last lock is put back
pub holds_less : (n : ℕ) (v : Seen) → HoldsBelow (n + 1) v → HoldsBelow n (after_give n v)
holds_less n v h = record {
  holds = λ j low. let z = h.holds j (omega (arith, low)) in (z.0, find-without-other n j v.held (λ e. absurd (omega (arith, e, low))) ∙ z.1);
  others = λ j high. dite (ℕ_discrete j n)
      (λ e. subst (λ (i : ℕ). find_lock i (locks_without n v.held) ≡ None) (sym e) (find-without-same n v.held))
      (λ ne. find-without-other n j v.held ne ∙ h.others j (omega (arith, high, ne)));
}

pub knows_less : (m : Machine) (n : ℕ) (h : List Entry) (v : Seen) → KnowsBelow m (n + 1) h v → KnowsBelow m n h (after_give n v)
knows_less m n h v k = record {
  knows = λ j low. let z = k.knows j (omega (arith, low)) in (z.0, find-without-other n j v.held (λ e. absurd (omega (arith, e, low))) ∙ z.1, z.2);
  others = (holds_less n v (holds_known m (n + 1) h v k)).others;
}

-- a lock more was taken
pub taken_below : (n k : ℕ) (part : StatePart) (old new : Sitting) → HasTaken k part (tried_again n k old.view) old new → HoldsBelow k old.view → HoldsBelow (k + 1) new.view
taken_below n k part old new t h = holds_more k (known_part part t.0) (tried_again n k old.view) new.view (ap (λ (s : Sitting). s.view.held) t.2) (record { holds = h.holds; others = h.others })

-- the book was taken
pub book_below : (n now : ℕ) (h : List Entry) (old new : Sitting) → new ≡ sitting_with old (took_book h now (tried_again n 17 old.view)) → HoldsBelow 17 old.view → HoldsBelow 18 new.view
book_below n now h old new is below = holds_more 17 book_known (tried_again n 17 old.view) new.view (ap (λ (s : Sitting). s.view.held) is) (record { holds = below.holds; others = below.others })

-- what is known of a lock, of which the value's part is that of the state
pub known_current : (m : Machine) (h : List Entry) (k : ℕ) (part : StatePart) (v : Seen) → NamesStandOnce m h → k < 17 → part ≡ part_at m h k → (x : Known) × (find_lock k v.held ≡ Some x) × IsCurrent m h k x → IsAsKnown k part v
known_current m h k part v once low is z = (
  z.0,
  z.1,
  is ∙ sym z.2.part,
  λ n small. ap (λ (p : StatePart). lists p n) z.2.part ∙ (once k n low small ∙ sym (z.2.names n small)),
)

-- the book is put back
pub committed_holds : (h : List Entry) (v : Seen) → HoldsBelow 18 v → HoldsBelow 17 (committed_view h v)
committed_holds h v all = let less = holds_less 17 v all in record {
  holds = λ k low. let z = less.holds k low in (known_part (part_at v.input h k) z.0.names, find-refreshed-is v.input h k (locks_without 17 v.held) z.0 z.1);
  others = λ k high. find-refreshed-none v.input h k (locks_without 17 v.held) (less.others k high);
}

-- the book is put back with the history h, to which the names of the view belong
pub committed_knows : (m : Machine) (h : List Entry) (v : Seen) → v.input ≡ m → HoldsBelow 18 v → Placed v h → KnowsBelow m 17 h (committed_view h v)
committed_knows m h v input all placed = record {
  knows = λ k low. let z = all.holds k (omega (arith, low)) in (
    known_part (part_at v.input h k) z.0.names,
    find-refreshed-is v.input h k (locks_without 17 v.held) z.0 (find-without-other 17 k v.held (λ e. absurd (omega (arith, e, low))) ∙ z.1),
    record {
      part = ap (λ (q : Machine). part_at q h k) input;
      names = λ n small. placed.0 k z.0 n low z.1 small ∙ ap (λ (q : Machine). eqb (home_at q h n) k) input;
    },
  );
  others = (committed_holds h v all).others;
}

pub knows_of : (m : Machine) (h f : List Entry) (old new : Sitting) → new ≡ sitting_with old (committed_view h old.view) → h ≡ f → old.view.input ≡ m → HoldsBelow 18 old.view → Placed old.view f → KnowsBelow m 17 f new.view
knows_of m h f old new is same input all placed =
    subst (λ (s : Sitting). KnowsBelow m 17 f s.view) (sym is) (subst (λ (l : List Entry). KnowsBelow m 17 f (committed_view l old.view)) (sym same) (committed_knows m f old.view input all placed))

-- nothing is kept that is not held
pub kept_all : (h : List Entry) (v : Seen) → HoldsBelow 18 v → Kept v h
kept_all h v all k low none = let z = all.holds k (omega (arith, low)) in absurd (never z.0 (sym none ∙ z.1))

-- what is current has its names placed at each history that has the same homes and the same moment
pub placed_at : (m : Machine) (f h : List Entry) (v : Seen) → v.input ≡ m → v.front ≡ f → Current v → ((n : ℕ) → n < 128 → home_at m f n ≡ home_at m h n) → now_at m f ≡ now_at m h → Placed v h
placed_at m f h v input front current homes now = (
  λ k x n low found small. let here = (current.0 k x low found).1 n small in
      here ∙ (ap (λ (j : ℕ). eqb j k) ((λ i. home_at (input i) (front i) n) ∙ homes n small ∙ ap (λ (q : Machine). home_at q h n) (sym input))),
  current.1 ∙ ((λ i. now_at (input i) (front i)) ∙ now ∙ ap (λ (q : Machine). now_at q h) (sym input)),
)

-- nobody is named, so no core decided
pub decided_none : (f h : List Entry) (v : Seen) → v.front ≡ f → v.named ≡ 0 → ((r : ℕ) → r < 64 → decides_at h r ≡ decides_at f r) → Decided v h
decided_none f h v front nobody same r low =
    let none : raise r v ≡ 0 = ap (λ b. cond b 1 0) (ne_eqb (suc r) v.named (λ e. absurd (omega (arith, e, nobody)))) in
    same r low ∙ (ap (λ (l : List Entry). decides_at l r) (sym front) ∙ omega (arith, none))

-- a name was moved
pub moved_holds : (n to b : ℕ) (v : Seen) → HoldsBelow b v → HoldsBelow b (moved_name n to v)
moved_holds n to b v all = record {
  holds = λ k low. let z = all.holds k low in (known_part z.0.part (names_after n to k z.0), find-renamed-is n to k v.held z.0 z.1);
  others = λ k high. find-renamed-none n to k v.held (all.others k high);
}

-- the names are placed once the name n was moved, where its home alone differs, and is the lock `to`
pub moved_placed : (m : Machine) (n to : ℕ) (f h : List Entry) (v : Seen) → v.input ≡ m → v.front ≡ f → HoldsBelow 18 v → Current v → ((p : ℕ) → p < 128 → p ≢ n → home_at m f p ≡ home_at m h p) → home_at m h n ≡ to
    → now_at m f ≡ now_at m h → Placed (moved_name n to v) h
moved_placed m n to f h v input front all current homes home now = (
  λ k x p low found small. let z = all.holds k (omega (arith, low)) in
      let is : known_part z.0.part (names_after n to k z.0) ≡ x = some_same (known_part z.0.part (names_after n to k z.0)) x (sym (find-renamed-is n to k v.held z.0 z.1) ∙ found) in
      ap (λ (y : Known). has_place p y.names) (sym is) ∙ dite (ℕ_discrete p n)
      (λ e. subst (λ (q : ℕ). has_place q (names_after n to k z.0) ≡ eqb (home_at v.input h q) k) (sym e) (after_here n to k z.0 ∙ (ap (λ (j : ℕ). eqb j k) (sym home) ∙ ap (λ (q : Machine). eqb (home_at q h n) k) (sym input))))
      (λ ne. after_else n to k p z.0 ne ∙ ((current.0 k z.0 low z.1).1 p small ∙ ap (λ (j : ℕ). eqb j k) ((λ i. home_at (input i) (front i) p) ∙ homes p small ne ∙ ap (λ (q : Machine). home_at q h p) (sym input)))),
  current.1 ∙ ((λ i. now_at (input i) (front i)) ∙ now ∙ ap (λ (q : Machine). now_at q h) (sym input)),
)

-- what is current has each name for the held lock that is its home
pub name_at_home : (m : Machine) (f : List Entry) (k n : ℕ) (v : Seen) → v.input ≡ m → v.front ≡ f → k < 17 → n < 128 → home_at m f n ≡ k → Holds k v → Current v → HasName k n v
name_at_home m f k n v input front low small home x current = (
  x.0,
  x.1,
  (current.0 k x.0 low x.1).1 n small ∙ eq-eqb (home_at v.input v.front n) k ((λ i. home_at (input i) (front i) n) ∙ home),
)

-- where names stand once, they do so of an equal input and an equal history
pub once_of : (m q : Machine) (h f : List Entry) → m ≡ q → h ≡ f → NamesStandOnce q f → NamesStandOnce m h
once_of m q h f input same once = subst (λ (n : Machine). NamesStandOnce n h) (sym input) (subst (λ (l : List Entry). NamesStandOnce q l) (sym same) once)

pub placed_of : (v : Seen) (h f : List Entry) → h ≡ f → Placed v f → Placed v h
placed_of v h f same placed = subst (λ (l : List Entry). Placed v l) (sym same) placed

pub decided_of : (v : Seen) (h f : List Entry) → h ≡ f → Decided v f → Decided v h
decided_of v h f same decided = subst (λ (l : List Entry). Decided v l) (sym same) decided
