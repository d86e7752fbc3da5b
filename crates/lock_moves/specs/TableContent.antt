-- What a set is made of, and what is in it at its end.
use Rattle.std.specs.Prelude.{◌≡◌, ℕ, ◌<◌, List, Bool, true, false, length, slice_index, slice_index_or}
use mathlib.Core.Option.{some}
use lib.ListN.{get_elem?}
use Rattle.journal_core.specs.Parts.{StatePart}
use Rattle.sched_model.specs.declared.event.Entry.{Entry}
use Rattle.sched_model.specs.declared.machine.Machine.{Machine}
use Rattle.journal_core.specs.Histories.{part_at, home_at, now_at, decides_at}
use Rattle.journal_core.specs.Books.{Chronicle}
use Rattle.lock_moves.specs.declared.content.Content.{Content}
use Rattle.lock_moves.specs.declared.content.Content.TheVariants.{Value}
use Rattle.lock_moves.specs.Words.{lock_count, word_count, name_word, moment_word, stage_word, book_lock}

-- the values are the 17 parts of the book's state, in the order of their locks
pub record AreParts {V : Type 0} (part : V → StatePart) (suits : Machine → ℕ → V → Type 0) (b : Chronicle) (values : List V) : Type 0 where
  pub all : length values ≡ 17
  pub each : (k : ℕ) (x : V) → get_elem? values k ≡ some x → part x ≡ part_at b.input b.history k
  pub suited : (k : ℕ) (x : V) → get_elem? values k ≡ some x → suits b.input (now_at b.input b.history) x

-- the words at the opening: the locks are free, and the names, the moment and the stages are those of the book's state
pub record IsOpening (b : Chronicle) (words : List ℕ) : Type 0 where
  pub wide : length words ≡ word_count
  pub free : (k : ℕ) → k < lock_count → slice_index words k ≡ 0
  pub names : (n : ℕ) → n < 128 → slice_index words (name_word n) ≡ home_at b.input b.history n
  pub moment : slice_index words moment_word ≡ now_at b.input b.history
  pub stages : (r : ℕ) → r < 64 → slice_index words (stage_word r) ≡ decides_at b.history r

-- at the end the slots of the locks but the book's have the parts of the state of the history h, in the order of the locks
abbrev pub HaveParts : {V : Type 0} → (V → StatePart) → (Machine → ℕ → V → Type 0) → Machine → List Entry → List (Content V) → Type 0
HaveParts {V} part suits m h contents = (k : ℕ) → k < book_lock → (x : V) × (get_elem? contents k ≡ some (Value x)) × (part x ≡ part_at m h k) × suits m (now_at m h) x

-- the first 17 slots have a value each
abbrev pub HaveValues : {V : Type 0} → List (Content V) → Type 0
HaveValues {V} contents = (k : ℕ) → k < book_lock → (x : V) × (get_elem? contents k ≡ some (Value x))

-- the values are those of the first n slots, in their order
abbrev pub AreFirst : {V : Type 0} → ℕ → List (Content V) → List V → Type 0
AreFirst {V} n contents values = (length values ≡ n) × ((k : ℕ) (x : V) → get_elem? values k ≡ some x → get_elem? contents k ≡ some (Value x))

-- the slots but the book's are full
abbrev pub HasFirst : List Bool → Type 0
HasFirst filled = ((k : ℕ) → k < book_lock → slice_index_or filled k false ≡ true) × (slice_index_or filled 17 false ≡ false)
