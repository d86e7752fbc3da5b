-- What each step of a seat tells: of the step, the seat before, the number found and the seat after.
use Rattle.std.specs.Prelude.{◌≡◌, ◌≢◌, ◌⊎◌, ℕ, suc, ◌+◌, eqb, ◌≤◌, ◌<◌, List, [], ◌∷◌, ◌++◌, Some, None}
use mathlib.Core.List.{IsPrefix}
use mathlib.Core.Option.{some}
use Rattle.atomic_table.specs.Table.{Me, Step}
use Rattle.sched_model.specs.declared.event.Entry.{Entry}
use Rattle.sched_model.specs.declared.machine.Machine.{Machine}
use Rattle.journal_core.specs.Parts.{StatePart, lists}
use Rattle.journal_core.specs.Histories.{part_at, home_at, now_at, decides_at, IsSound}
use Rattle.std.specs.declared.snapshot.Snapshot.{Snapshot}
use Rattle.journal_core.specs.Books.{Chronicle}
use Rattle.lock_moves.specs.declared.content.Content.{Content}
use Rattle.lock_moves.specs.declared.content.Content.TheVariants.{Out, Value, Ledger, Told}
use Rattle.lock_moves.specs.SeatSight.{Known, Seen, View, find_lock, has_place, view_took, view_took_book, view_turned_away, with_out, view_gave, view_committed, view_committed_on, view_moved_name, view_with_now, raise, view_naming, view_has_loaded}
use Rattle.lock_moves.specs.Words.{name_word, moment_word, stage_word, book_lock}

-- the parts, the names and the moment that the view knows are those of the state to which its front leads
abbrev pub Current : Seen → Type 0
Current v = ((k : ℕ) (x : Known) → k < book_lock → find_lock k v.held ≡ Some x → (x.part ≡ part_at v.input v.front k) × ((n : ℕ) → n < 128 → has_place n x.names ≡ eqb (home_at v.input v.front n) k))
    × (v.now ≡ now_at v.input v.front) × (v.named ≡ 0) × IsSound v.input v.front

-- the part is that of the lock k in the state to which some history leads that begins with the front and is a run's beginning
abbrev pub IsPartOfSome : ℕ → StatePart → Seen → Type 0
IsPartOfSome k part v = (h : List Entry) × IsPrefix v.front h × (part ≡ part_at v.input h k) × IsSound v.input h

-- the names and the moment of the view are those of the state to which h leads
abbrev pub Placed : Seen → List Entry → Type 0
Placed v h = ((k : ℕ) (x : Known) (n : ℕ) → k < book_lock → find_lock k v.held ≡ Some x → n < 128 → has_place n x.names ≡ eqb (home_at v.input h n) k) × (v.now ≡ now_at v.input h)

-- the entry is a decision of the core that the view names, or of none where the view names none
abbrev pub Decided : Seen → List Entry → Type 0
Decided v h = (r : ℕ) → r < 64 → decides_at h r ≡ decides_at v.front r + raise r v

-- the names of a part, as the view has them
abbrev pub Lists : StatePart → List ℕ → Type 0
Lists p names = (n : ℕ) → n < 128 → lists p n ≡ has_place n names

-- the history h is the front f, or has one entry more
abbrev pub Next : List Entry → List Entry → Type 0
Next f h = (h ≡ f) ⊎ ((e : Entry) × (h ≡ f ++ e ∷ []))

-- the parts whose locks the seat does not hold are as before
abbrev pub Kept : Seen → List Entry → Type 0
Kept v h = (k : ℕ) → k < book_lock → find_lock k v.held ≡ None → part_at v.input h k ≡ part_at v.input v.front k

-- what the word i, which was found to be r, tells a seat under the locks that it holds: a held lock's word is 1, a name's word is the held lock that has it
-- and no other held lock, the moment is the seat's, and under the book a stage word is the number of decisions, and one more for the core that is named
abbrev pub Tells : ℕ → ℕ → Seen → Type 0
Tells i r v = ((k : ℕ) (x : Known) → i ≡ k → find_lock k v.held ≡ Some x → r ≡ 1)
    × ((k : ℕ) (x : Known) (n : ℕ) → i ≡ name_word n → find_lock k v.held ≡ Some x → n < 128 → has_place n x.names ≡ eqb r k)
    × ((k : ℕ) (x : Known) → i ≡ moment_word → find_lock k v.held ≡ Some x → v.now ≡ r)
    × ((q : ℕ) (x : Known) → i ≡ stage_word q → find_lock book_lock v.held ≡ Some x → q < 64 → r ≡ decides_at v.front q + raise q v)

-- a seat in the midst of a call: what the table keeps of it, and the slots that are out with it
abbrev Sat : Type 0 → Type 0
Sat V = Me (Content V) View

module _ {V : Type 0} where
  -- the lock's word was free, and the value is out with the seat; or it was taken
  abbrev pub tried : (V → StatePart) → (Machine → ℕ → V → Type 0) → Step (Content V) → Sat V → ℕ → Sat V → Type 0
  tried part suits st m r m' = (r ≡ 0 → (x : V) × (names : List ℕ) × (t : ℕ) × (m' ≡ (view_took st.word (part x) names t m.0, (st.word, Value x) ∷ m.1)) × Lists (part x) names × suits m.0.seen.input t x × ((j : ℕ) (y : Known) → find_lock j m.0.seen.held ≡ Some y → t ≡ m.0.seen.now) × IsPartOfSome st.word (part x) m.0.seen) × (r ≢ 0 → m' ≡ (view_turned_away st.word m.0, m.1))

  -- the same of the book, whose history begins with the front
  abbrev pub tried_book : Step (Content V) → Sat V → ℕ → Sat V → Type 0
  tried_book st m r m' = (r ≡ 0 → (b : Chronicle) × (t : ℕ) × (m' ≡ (view_took_book b.history t m.0, (book_lock, Ledger b) ∷ m.1)) × (b.input ≡ m.0.seen.input) × (b.limit ≡ m.0.seen.limit) × IsPrefix m.0.seen.front b.history × Current m'.0.seen
      × ((k : ℕ) (x : Known) → find_lock k m.0.seen.held ≡ Some x → t ≡ m.0.seen.now) × (m.0.seen.shares ≡ 1024 → b.history ≡ m.0.seen.front))
      × (r ≢ 0 → m' ≡ (view_turned_away book_lock m.0, m.1))

  -- the slot goes home empty
  abbrev pub settled : Step (Content V) → Sat V → ℕ → Sat V → Type 0
  settled st m r m' = m' ≡ (with_out 0 m.0, [])

  -- the empty slot comes out again
  abbrev pub fetched : Step (Content V) → Sat V → ℕ → Sat V → Type 0
  fetched st m r m' = m' ≡ (with_out (suc st.word) m.0, (st.word, Out) ∷ [])

  -- the value went home, and the lock is free
  abbrev pub put_back : Step (Content V) → Sat V → ℕ → Sat V → Type 0
  put_back st m r m' = m' ≡ (view_gave st.word m.0, [])

  -- the book went home, and its lock is free
  abbrev pub committed : Step (Content V) → Sat V → ℕ → Sat V → Type 0
  committed st m r m' = (b : Chronicle) → m.1 ≡ (book_lock, Ledger b) ∷ [] → m' ≡ (view_committed b.history m.0, [])

  -- the book stays with the seat, as the step says that it is
  abbrev pub went_on : Step (Content V) → Sat V → ℕ → Sat V → Type 0
  went_on st m r m' = (b : Snapshot Chronicle) → st.said ≡ some (Told b) → (m' ≡ (view_committed_on b.value.history m.0, m.1)) × Current m'.0.seen

  -- the word was read
  abbrev pub looked : Step (Content V) → Sat V → ℕ → Sat V → Type 0
  looked st m r m' = (m' ≡ m) × Tells st.word r m.0.seen

  -- the front of the seat that was taken in begins the seat's own
  abbrev pub found_beside : Step (Content V) → Sat V → ℕ → Sat V → Type 0
  found_beside st m r m' = (m' ≡ m) × IsPrefix m.0.beside m.0.seen.front

  -- the name of the word moves to the lock that was stored
  abbrev pub named : Step (Content V) → Sat V → ℕ → Sat V → Type 0
  named st m r m' = (n : ℕ) → st.word ≡ name_word n → m' ≡ (view_moved_name n st.first m.0, m.1)

  -- the moment was stored
  abbrev pub timed : Step (Content V) → Sat V → ℕ → Sat V → Type 0
  timed st m r m' = m' ≡ (view_with_now st.first m.0, m.1)

  -- the number found is at least that of the decisions in some history that begins with the front: the book's at that moment
  abbrev pub loaded : Step (Content V) → Sat V → ℕ → Sat V → Type 0
  loaded st m n m' = (r : ℕ) → st.word ≡ stage_word r → r < 64 → (m' ≡ (view_has_loaded r n m.0, m.1)) × ((h : List Entry) × IsPrefix m.0.seen.front h × (decides_at h r ≤ n))

  -- the stage word was raised by one
  abbrev pub raised : Step (Content V) → Sat V → ℕ → Sat V → Type 0
  raised st m n m' = (r : ℕ) → st.word ≡ stage_word r → m' ≡ (view_naming r m.0, m.1)
