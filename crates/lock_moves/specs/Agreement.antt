-- The rule of the table: the words, the free values and the views of the seats agree with one history.
use Rattle.std.specs.Prelude.{◌≡◌, ◌≢◌, ℕ, suc, ◌+◌, ◌<◌, ◌≤◌, true, eqb, List, [], ◌∷◌, length, slice_index, Some, None}
use mathlib.Core.Option.{some}
use mathlib.Core.Option as maybe
use lib.ListN.{get_elem?}
use mathlib.Core.List.{IsPrefix}
use Rattle.atomic_table.specs.Table.{State}
use Rattle.sched_model.specs.declared.event.Entry.{Entry}
use Rattle.sched_model.specs.declared.machine.Machine.{Machine}
use Rattle.journal_core.specs.Parts.{StatePart, lists}
use Rattle.journal_core.specs.Histories.{part_at, home_at, now_at, decides_at, IsSound}
use Rattle.lock_moves.specs.declared.content.Content.{Content}
use Rattle.lock_moves.specs.declared.content.Content.TheVariants.{Out, Value, Ledger, Told}
use Rattle.lock_moves.specs.SeatSight.{Known, View, find_lock, Holds, has_place, Rising, raise}
use Rattle.lock_moves.specs.Words.{lock_count, word_count, name_word, moment_word, stage_word, book_lock}

abbrev pub shares_of : List View → ℕ
shares_of [] = 0
shares_of (v ∷ vs) = v.seen.shares + shares_of vs

-- what the seats have seen of the history h: each front begins it, each added place is an own place of the seat `keeper p` alone, and the front of the seat `latest` is h
pub record Fronts (m : Machine) (limit base : ℕ) (views : List View) (h : List Entry) (keeper : ℕ → ℕ) (latest : ℕ) : Type 0 where
  pub same : (id : ℕ) (v : View) → get_elem? views id ≡ some v → 0 < v.seen.shares → v.seen.input ≡ m
  pub limits : (id : ℕ) (v : View) → get_elem? views id ≡ some v → 0 < v.seen.shares → v.seen.limit ≡ limit
  pub begins : (id : ℕ) (v : View) → get_elem? views id ≡ some v → IsPrefix v.seen.front h
  pub own : (id : ℕ) (v : View) (p : ℕ) → get_elem? views id ≡ some v → has_place p v.seen.own ≡ true → (keeper p ≡ id) × (p < length v.seen.front)
  pub rising : (id : ℕ) (v : View) → get_elem? views id ≡ some v → Rising v.seen.own
  pub covers : (p : ℕ) → base ≤ p → p < length h → (v : View) × (get_elem? views (keeper p) ≡ some v) × (has_place p v.seen.own ≡ true)
  pub newest : (v : View) × (get_elem? views latest ≡ some v) × (v.seen.front ≡ h) × (0 < v.seen.shares)
  pub spent : (id : ℕ) (v : View) → get_elem? views id ≡ some v → v.seen.shares ≡ 0 → (v.seen.own ≡ []) × (v.seen.held ≡ [])

-- each free value suits the machine at the moment that the moment word has
abbrev pub Suited : {V : Type 0} → (Machine → ℕ → V → Type 0) → Machine → List ℕ → List (maybe.Option (Content V)) → Type 0
Suited suits m words homes = (k : ℕ) (y : _) → k < book_lock → slice_index words k ≡ 0 → get_elem? homes k ≡ some (some (Value y)) → suits m (slice_index words moment_word) y

module _ {V : Type 0} (part : V → StatePart) (m : Machine) where
  -- what is true of a lock k that the seat id holds, with the view v
  pub record Has (words : List ℕ) (homes : List (maybe.Option (Content V))) (h : List Entry) (owner : ℕ → ℕ) (id : ℕ) (v : View) (k : ℕ) (x : Known) : Type 0 where
    pub below : k < lock_count
    pub owned : owner k ≡ id
    pub shut : slice_index words k ≡ 1
    pub agrees : k < book_lock → x.part ≡ part_at m h k
    pub book : k ≡ book_lock → v.seen.front ≡ h
    pub slot : v.out ≢ suc k → get_elem? homes k ≡ some (some Out)

  -- the names: a lock's names, in the value or in the holder's view, are those whose word is the lock; where the book is free each word is the name's home;
  -- a seat that holds a lock has the moment.
  pub record Names (words : List ℕ) (homes : List (maybe.Option (Content V))) (views : List View) (h : List Entry) : Type 0 where
    pub free : (k : ℕ) (y : V) (n : ℕ) → k < book_lock → slice_index words k ≡ 0 → get_elem? homes k ≡ some (some (Value y)) → n < 128 → lists (part y) n ≡ eqb (slice_index words (name_word n)) k
    pub held : (id : ℕ) (v : View) (k : ℕ) (x : Known) (n : ℕ) → get_elem? views id ≡ some v → find_lock k v.seen.held ≡ Some x → n < 128 → has_place n x.names ≡ eqb (slice_index words (name_word n)) k
    pub moment : (id : ℕ) (v : View) (k : ℕ) (x : Known) → get_elem? views id ≡ some v → find_lock k v.seen.held ≡ Some x → v.seen.now ≡ slice_index words moment_word
    pub settled : slice_index words book_lock ≡ 0 → ((n : ℕ) → n < 128 → slice_index words (name_word n) ≡ home_at m h n) × (slice_index words moment_word ≡ now_at m h)
    pub apart : (n : ℕ) → n < 128 → slice_index words (name_word n) ≢ book_lock
    -- the holder of the book has moved no name of a lock that it does not hold
    pub moving : (id : ℕ) (v : View) (x : Known) (j n : ℕ) → get_elem? views id ≡ some v → find_lock book_lock v.seen.held ≡ Some x → find_lock j v.seen.held ≡ None → n < 128 → eqb (slice_index words (name_word n)) j ≡ eqb (home_at m h n) j

module _ {V : Type 0} (part : V → StatePart) (m : Machine) (limit : ℕ) where
  -- what lies in the slot of the free lock k
  abbrev pub Fits : List Entry → ℕ → Content V → Type 0
  Fits h k Out = ⊥
  Fits h k (Value x) = (k < book_lock) × (part x ≡ part_at m h k)
  Fits h k (Ledger b) = (k ≡ book_lock) × (b.input ≡ m) × (b.history ≡ h) × (b.limit ≡ limit)
  Fits h k (Told b) = ⊥

  -- the locks: a lock's word is taken exactly where some seat holds the lock, a free lock's value is its part of the state, and so is what the holder knows
  pub record Locks (words : List ℕ) (homes : List (maybe.Option (Content V))) (views : List View) (h : List Entry) (owner : ℕ → ℕ) : Type 0 where
    pub free : (k : ℕ) → k < lock_count → slice_index words k ≡ 0 → (y : Content V) × (get_elem? homes k ≡ some (some y)) × Fits h k y
    pub taken : (k : ℕ) → k < lock_count → slice_index words k ≢ 0 → (v : View) × (get_elem? views (owner k) ≡ some v) × Holds k v.seen
    pub held : (id : ℕ) (v : View) (k : ℕ) (x : Known) → get_elem? views id ≡ some v → find_lock k v.seen.held ≡ Some x → Has part m words homes h owner id v k x

-- the stage words: each counts the decisions of its core in the history, and one more where the holder of the book names the core.
pub record Stages (words : List ℕ) (views : List View) (h : List Entry) : Type 0 where
  pub settled : slice_index words book_lock ≡ 0 → (r : ℕ) → r < 64 → slice_index words (stage_word r) ≡ decides_at h r
  pub raised : (id : ℕ) (v : View) (x : Known) (r : ℕ) → get_elem? views id ≡ some v → find_lock book_lock v.seen.held ≡ Some x → r < 64 → slice_index words (stage_word r) ≡ decides_at h r + raise r v.seen
  pub nobody : (id : ℕ) (v : View) → get_elem? views id ≡ some v → find_lock book_lock v.seen.held ≡ None → v.seen.named ≡ 0

-- the rule: there is one history, a sound one, with which all of this agrees
pub record Agrees {V : Type 0} (part : V → StatePart) (suits : Machine → ℕ → V → Type 0) (m : Machine) (limit base : ℕ) (s : State (Content V) View) : Type 0 where
  pub history : List Entry
  pub owner : ℕ → ℕ
  pub keeper : ℕ → ℕ
  pub latest : ℕ
  pub sound : IsSound m history
  pub wide : length s.words ≡ word_count
  pub deep : length s.homes ≡ lock_count
  pub locks : Locks part m limit s.words s.homes s.views history owner
  pub names : Names part m s.words s.homes s.views history
  pub suited : Suited suits m s.words s.homes
  pub stages : Stages s.words s.views history
  pub fronts : Fronts m limit base s.views history keeper latest
  pub beside : (id : ℕ) (v : View) → get_elem? s.views id ≡ some v → IsPrefix v.beside v.seen.front
  pub all_shares : shares_of s.views ≡ 1024
