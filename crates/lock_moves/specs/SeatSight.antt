-- What a seat knows, and how a step changes it.
use Rattle.std.specs.Prelude.{◌≡◌, ℕ, zero, suc, ◌+◌, ◌-◌, ◌<◌, ◌≤◌, Bool, false, cond, ◌||◌, eqb, List, [], ◌∷◌, ◌++◌, drop, length, replicate, Option, Some, None, ⊤}
use Rattle.atomic_table.specs.Seated.{TableId}
use Rattle.sched_base.specs.Numbers.{moment}
use Rattle.sched_model.specs.declared.event.Entry.{Entry}
use Rattle.sched_model.specs.declared.machine.Machine.{Machine}
use Rattle.journal_core.specs.Parts.{StatePart, no_part}
use Rattle.journal_core.specs.Histories.{part_at, home_at}
use Rattle.journal_core.specs.Books.{Chronicle}
use Rattle.lock_moves.specs.Words.{book_lock}

-- what is known of a lock that is held: the part that it guards, and the names whose word is this lock
pub record Known : Type 0 where
  pub part : StatePart
  pub names : List ℕ

-- What a seat knows and holds:
-- the input; the most entries that the book may have; the front, a beginning of the book's history; its own places, at which it added an entry; its parts of the 1024;
-- how often it took the book; the locks at which it was turned away, one for each time; the locks that it holds;
-- the moment, where it holds a lock; 0, or 1 more than the core whose stage word it has raised under the book;
-- and the core and the number of its last load of a stage word, and how many such loads it made
pub record Seen : Type 0 where
  pub input : Machine
  pub limit : ℕ
  pub front : List Entry
  pub own : List ℕ
  pub shares : ℕ
  pub takes : ℕ
  pub refused : List ℕ
  pub held : List (ℕ × Known)
  pub now : ℕ
  pub named : ℕ
  pub loaded : ℕ × ℕ
  pub loads : ℕ

-- A seat as contracts see it: the table, its number, and what it knows and holds
pub record Sitting : Type 0 where
  pub table : TableId
  pub id : ℕ
  pub view : Seen

abbrev pub known_part : StatePart → List ℕ → Known
known_part part names = record { part = part; names = names }

-- the book's lock guards no part and no name
abbrev pub book_known : Known
book_known = known_part no_part []

-- what is known of the lock k, if it is held
abbrev pub find_lock : ℕ → List (ℕ × Known) → Option Known
find_lock k [] = None
find_lock k (x ∷ xs) = cond (eqb k x.0) (Some x.1) (find_lock k xs)

-- the locks but k
abbrev pub locks_without : ℕ → List (ℕ × Known) → List (ℕ × Known)
locks_without k [] = []
locks_without k (x ∷ xs) = cond (eqb k x.0) (locks_without k xs) (x ∷ locks_without k xs)

-- the same locks, with the parts of the state to which the history h leads
abbrev pub refreshed_locks : Machine → List Entry → List (ℕ × Known) → List (ℕ × Known)
refreshed_locks m h [] = []
refreshed_locks m h (x ∷ xs) = (x.0, known_part (part_at m h x.0) x.1.names) ∷ refreshed_locks m h xs

-- the lock k is held
abbrev pub Holds : ℕ → Seen → Type 0
Holds k v = (x : Known) × (find_lock k v.held ≡ Some x)

-- the seat holds the locks below n, and no other
pub record HoldsBelow (n : ℕ) (v : Seen) : Type 0 where
  pub holds : (k : ℕ) → k < n → Holds k v
  pub others : (k : ℕ) → n ≤ k → find_lock k v.held ≡ None

-- each lock that is held has a smaller number
abbrev pub AllBelow : ℕ → List (ℕ × Known) → Type 0
AllBelow k xs = (j : ℕ) (x : Known) → find_lock j xs ≡ Some x → j < k

-- whether the number is in the list
abbrev pub has_place : ℕ → List ℕ → Bool
has_place p [] = false
has_place p (q ∷ qs) = eqb p q || has_place p qs

-- what is known of the lock k is what the state has to which h leads
pub record IsCurrent (m : Machine) (h : List Entry) (k : ℕ) (x : Known) : Type 0 where
  pub part : x.part ≡ part_at m h k
  pub names : (n : ℕ) → n < 128 → has_place n x.names ≡ eqb (home_at m h n) k

-- the seat holds the locks below n, and no other, and what it has for them is the state to which h leads
pub record KnowsBelow (m : Machine) (n : ℕ) (h : List Entry) (v : Seen) : Type 0 where
  pub knows : (k : ℕ) → k < n → (x : Known) × (find_lock k v.held ≡ Some x) × IsCurrent m h k x
  pub others : (k : ℕ) → n ≤ k → find_lock k v.held ≡ None

-- each number of the list is greater than p
abbrev pub AllAbove : ℕ → List ℕ → Type 0
AllAbove p [] = ⊤
AllAbove p (q ∷ qs) = (p < q) × AllAbove p qs

-- the list rises strictly
abbrev pub Rising : List ℕ → Type 0
Rising [] = ⊤
Rising (q ∷ qs) = AllAbove q qs × Rising qs

-- the longer of two beginnings of one history: the first, and what the second has behind it
abbrev pub longer_history : List Entry → List Entry → List Entry
longer_history xs ys = xs ++ drop (length xs) ys

-- the numbers below n that stand in one of the lists, in order
abbrev pub both_places : List ℕ → List ℕ → ℕ → List ℕ
both_places xs ys zero = []
both_places xs ys (suc n) = both_places xs ys n ++ cond (has_place n xs || has_place n ys) (n ∷ []) []

-- the lock k was taken, whose value is the part and lists the names, at the moment t
abbrev pub after_take : ℕ → StatePart → List ℕ → ℕ → Seen → Seen
after_take k part names t v = record v { held = (k, known_part part names) ∷ v.held; now = t }

-- the book was taken, whose history is h
abbrev pub took_book : List Entry → ℕ → Seen → Seen
took_book h t v = record v { front = h; takes = suc v.takes; held = (book_lock, book_known) ∷ v.held; now = t }

-- the names without n
abbrev pub without_name : ℕ → List ℕ → List ℕ
without_name n [] = []
without_name n (x ∷ xs) = cond (eqb n x) (without_name n xs) (x ∷ without_name n xs)

-- the same locks, with the name n in the lock `to` alone
abbrev pub renamed_locks : ℕ → ℕ → List (ℕ × Known) → List (ℕ × Known)
renamed_locks n to [] = []
renamed_locks n to (x ∷ xs) = (x.0, known_part x.1.part (cond (eqb to x.0) (n ∷ x.1.names) (without_name n x.1.names))) ∷ renamed_locks n to xs

-- the name n was moved to the lock `to`
abbrev pub moved_name : ℕ → ℕ → Seen → Seen
moved_name n to v = record v { held = renamed_locks n to v.held }

-- 1 where the view names the core r
abbrev pub raise : ℕ → Seen → ℕ
raise r v = cond (eqb (suc r) v.named) 1 0

-- the stage word of the core r was raised
abbrev pub after_naming : ℕ → Seen → Seen
after_naming r v = record v { named = suc r }

-- the stage word of the core r was loaded, and was n
abbrev pub has_loaded : ℕ → ℕ → Seen → Seen
has_loaded r n v = record v { loaded = (r, n); loads = suc v.loads }

-- the moment word was stored
abbrev pub with_now : ℕ → Seen → Seen
with_now t v = record v { now = t }

-- the lock k was found taken
abbrev pub turned_away : ℕ → Seen → Seen
turned_away k v = record v { refused = k ∷ v.refused }

-- the lock k was found taken n times
abbrev pub tried_again : ℕ → ℕ → Seen → Seen
tried_again n k v = record v { refused = replicate n k ++ v.refused }

-- what a seat that holds nothing may have changed by tries alone
abbrev pub after_search : List ℕ → ℕ → Seen → Seen
after_search refused t v = record v { refused = refused; held = []; now = t }

-- the lock k was put back
abbrev pub after_give : ℕ → Seen → Seen
after_give k v = record v { held = locks_without k v.held }

-- the own places with that of the entry by which the history h is longer than the front, if it is
abbrev pub places_after : Seen → List Entry → List ℕ
places_after v h = cond (eqb (length h) (length v.front)) v.own (v.own ++ length v.front ∷ [])

-- the book was put back, with the history h
abbrev pub committed_view : List Entry → Seen → Seen
committed_view h v = record v { front = h; own = places_after v h; held = refreshed_locks v.input h (locks_without book_lock v.held); named = 0 }

-- the book was put back so, and taken again at once
abbrev pub committed_on : List Entry → Seen → Seen
committed_on h v = took_book h v.now (committed_view h v)

-- a seat that has done nothing yet
abbrev pub fresh_view : Machine → ℕ → List Entry → ℕ → Seen
fresh_view m limit h shares = record { input = m; limit = limit; front = h; own = []; shares = shares; takes = 0; refused = []; held = []; now = 0; named = 0; loaded = (0, 0); loads = 0 }

-- the first seat of a set
abbrev pub opening_view : Chronicle → Seen
opening_view b = fresh_view b.input b.limit b.history 1024

-- one part was given to a new seat; the new seat
abbrev pub after_sharing : Seen → Seen
after_sharing v = record v { shares = v.shares - 1 }

abbrev pub newcomer : Seen → Seen
newcomer v = fresh_view v.input v.limit v.front 1

-- another seat was taken in
abbrev pub after_join : Seen → Seen → Seen
after_join v w = record v { front = longer_history v.front w.front; own = both_places v.own w.own (length (longer_history v.front w.front)); shares = v.shares + w.shares }

-- What the table keeps of a seat: what the seat knows; 0, or 1 more than the lock whose slot is out with the seat in the midst of a call; and the
-- front of a seat that was taken in, until the next step
pub record View : Type 0 where
  pub seen : Seen
  pub out : ℕ
  pub beside : List Entry

-- no slot is out
abbrev pub at_rest : Seen → View
at_rest v = record { seen = v; out = 0; beside = [] }

-- what the seat knows becomes this, and the slot stays where it is
abbrev pub with_seen : Seen → View → View
with_seen w v = record v { seen = w; beside = [] }

-- the slot of the lock is out, or home
abbrev pub with_out : ℕ → View → View
with_out n v = record v { out = n; beside = [] }

-- no input
abbrev pub no_machine : Machine
no_machine = record { config = record { granularity = 0; processors = 0; horizon = moment 0; pools = []; domains = [] }; work = record { stalls = []; commands = [] } }

-- a seat that was joined away
abbrev pub spent_view : View
spent_view = at_rest (fresh_view no_machine 0 [] 0)

-- how the steps change what the table keeps
abbrev pub view_took : ℕ → StatePart → List ℕ → ℕ → View → View
view_took k part names t v = record { seen = after_take k part names t v.seen; out = suc k; beside = [] }

abbrev pub view_took_book : List Entry → ℕ → View → View
view_took_book h t v = record { seen = took_book h t v.seen; out = 18; beside = [] }

abbrev pub view_gave : ℕ → View → View
view_gave k v = at_rest (after_give k v.seen)

abbrev pub view_committed : List Entry → View → View
view_committed h v = at_rest (committed_view h v.seen)

abbrev pub view_committed_on : List Entry → View → View
view_committed_on h v = at_rest (committed_on h v.seen)

abbrev pub view_turned_away : ℕ → View → View
view_turned_away k v = with_seen (turned_away k v.seen) v

abbrev pub view_moved_name : ℕ → ℕ → View → View
view_moved_name n to v = with_seen (moved_name n to v.seen) v

abbrev pub view_with_now : ℕ → View → View
view_with_now t v = with_seen (with_now t v.seen) v

abbrev pub view_naming : ℕ → View → View
view_naming r v = with_seen (after_naming r v.seen) v

abbrev pub view_has_loaded : ℕ → ℕ → View → View
view_has_loaded r n v = with_seen (has_loaded r n v.seen) v

abbrev pub view_lessened : View → View
view_lessened v = with_seen (after_sharing v.seen) v

abbrev pub view_newcomer : View → View
view_newcomer v = at_rest (newcomer v.seen)

abbrev pub view_joined : View → View → View
view_joined v w = record v { seen = after_join v.seen w.seen; beside = w.seen.front }

abbrev pub view_opening : Chronicle → View
view_opening b = at_rest (opening_view b)
