-- What is computed of the example.
use Rattle.std.proofs.Common.{◌≡◌, ℕ, zero, suc, ◌<◌, ◌≢◌, Bool, true, false, true≢false, eqb, List, [], ◌∷◌, take, ◌++◌, ◌≤◌, length, sym, refl, ap, ◌∙◌, arith, ne_eqb, eqb-true}
use Rattle.std.specs.Prelude.{◌&&◌, ◌||◌, if◌then◌else◌}
use Rattle.sched_base.proofs.Bools.{and_left, and_right}
use Rattle.sched_model.specs.Places.{at_place}
use mathlib.Core.Logic.{dite}
use mathlib.Core.Option.{some, some-injective, some-ne-none}
use native.Mathlib.Decide.{ℕ_discrete, dec_lt}
use lib.ListN.{get_elem?}
use Rattle.sched_model.specs.declared.config.Config.{Config}
use Rattle.sched_model.specs.declared.state.State.{State}
use Rattle.sched_model.specs.declared.event.Entry.{Entry}
use Rattle.journal_core.specs.Parts.{StatePart, pool_part, tool_part, tool_of, part_of, lists, home_in}
use Rattle.journal_core.specs.Histories.{part_at, home_at, now_at, decides_at, state_at, NamesStandOnce}
use Rattle.lock_moves.specs.declared.names.Names.{Names}
use Rattle.lock_moves.specs.NameSets.{in_names, AreNamesOf}
use Rattle.lock_example.specs.Example.{adding_machine, two_entries, part_after, names_after, new_book}
use Rattle.lock_example.specs.declared.counter.Counter.{Counter}
use Rattle.lock_example.specs.Counters.{AreNew}
use Rattle.lock_moves.specs.TableContent.{AreParts}

-- whether the test holds of each number below k
abbrev all_below : (ℕ → Bool) → ℕ → Bool
all_below f zero = true
all_below f (suc k) = f k && all_below f k

at_each : (f : ℕ → Bool) (k n : ℕ) → all_below f k ≡ true → n < k → f n ≡ true
at_each f zero n all low = absurd (omega (arith, low))
at_each f (suc k) n all low = dite (ℕ_discrete n k)
    (λ is. ap f is ∙ and_left (f k) (all_below f k) all)
    (λ ne. at_each f k n (and_right (f k) (all_below f k) all) (omega (arith, low, ne)))

abbrev same : Bool → Bool → Bool
same true b = b
same false true = false
same false false = true

same_is : (a b : Bool) → same a b ≡ true → a ≡ b
same_is true b e = sym e
same_is false true e = absurd (true≢false (sym e))
same_is false false e = refl

-- whether the sets have the names that the part lists
abbrev names_agree : Names → StatePart → Bool
names_agree names part = all_below (λ n. same (in_names names n) (lists part n)) 128

abbrev counters_agree : ℕ → ℕ → Bool
counters_agree lock count = names_agree (names_after lock count) (part_after lock count)

all_agree : all_below (λ lock. all_below (counters_agree lock) 3) 17 ≡ true
unfolding part_at
all_agree = refl

pub names-part : (lock count : ℕ) → lock < 17 → count < 3 → AreNamesOf (part_after lock count) (names_after lock count)
names-part lock count low few n small =
    same_is _ _ (at_each (λ n. same (in_names (names_after lock count) n) (lists (part_after lock count) n)) 128 n (at_each (counters_agree lock) 3 count (at_each (λ lock. all_below (counters_agree lock) 3) 17 lock all_agree low) few) small)

-- whether each name is listed by the part of its home alone
abbrev stand_once : Config → State → Bool
stand_once config s = all_below (λ k. all_below (λ n. same (lists (part_of s k) n) (eqb (home_in config s n) k)) 128) 17

once-by : (h : List Entry) → stand_once adding_machine.config (state_at adding_machine h) ≡ true → NamesStandOnce adding_machine h
unfolding part_at home_at
once-by h all k n low small = let s = state_at adding_machine h in
    same_is _ _ (at_each (λ n. same (lists (part_of s k) n) (eqb (home_in adding_machine.config s n) k)) 128 n (at_each (λ k. all_below (λ n. same (lists (part_of s k) n) (eqb (home_in adding_machine.config s n) k)) 128) 17 k all low) small)

pub once-first : NamesStandOnce adding_machine []
once-first = once-by [] refl

pub once-second : NamesStandOnce adding_machine (take 1 two_entries)
once-second = once-by (take 1 two_entries) refl

pub once-third : NamesStandOnce adding_machine two_entries
once-third = once-by two_entries refl

-- what stands in a list with one more
pub at_front : {X : Type 0} (x : X) (xs : List X) (j : ℕ) → j < length xs → get_elem? (xs ++ x ∷ []) j ≡ get_elem? xs j
at_front x [] j low = absurd (omega (arith, low))
at_front x (z ∷ zs) zero low = refl
at_front x (z ∷ zs) (suc j) low = at_front x zs j (omega (arith, low))

pub at_back : {X : Type 0} (x : X) (xs : List X) (j : ℕ) (y : X) → length xs ≤ j → get_elem? (xs ++ x ∷ []) j ≡ some y → (j ≡ length xs) × (y ≡ x)
at_back x [] zero y high e = (refl, sym (some-injective x y e))
at_back x [] (suc j) y high e = absurd (some-ne-none y (sym e))
at_back x (z ∷ zs) zero y high e = absurd (omega (arith, high))
at_back x (z ∷ zs) (suc j) y high e = let t = at_back x zs j y (omega (arith, high)) e in (ap suc t.0, t.1)

-- one counter more
pub new-snoc : (counters : List Counter) (x : Counter) → length counters ≡ x.lock → x.count ≡ 0 → AreNew counters → AreNew (counters ++ x ∷ [])
new-snoc counters x len none new k y at = dite (dec_lt k (length counters))
    (λ low. new k y (sym (at_front x counters k low) ∙ at))
    (λ high. let is = at_back x counters k y (omega (arith, high)) at in (ap (λ (z : Counter). z.lock) is.1 ∙ (sym len ∙ sym is.0), ap (λ (z : Counter). z.count) is.1 ∙ none))

-- the new counters are the parts of the book before the run
pub new-parts : (counters : List Counter) → length counters ≡ 17 → AreNew counters → AreParts (λ (c : Counter). part_after c.lock c.count) (λ m now c. Unit {0}) new_book counters
new-parts counters len new = record { all = len; each = λ k x at. let is = new k x at in λ i. part_after (is.0 i) (is.1 i); suited = λ k x at. tt }

-- the first entry leaves all homes as they are, and the second all but that of core 1
same_homes : State → State → ℕ → Bool
same_homes s next n = eqb (home_in adding_machine.config s n) (home_in adding_machine.config next n)

pub homes_first : (n : ℕ) → n < 128 → home_at adding_machine [] n ≡ home_at adding_machine (take 1 two_entries) n
unfolding home_at same_homes
homes_first n small = let test : ℕ → Bool = same_homes (state_at adding_machine []) (state_at adding_machine (take 1 two_entries)) in
    let all : all_below test 128 ≡ true = refl in
    eqb-true (home_in adding_machine.config (state_at adding_machine []) n) (home_in adding_machine.config (state_at adding_machine (take 1 two_entries)) n) (at_each test 128 n all small)

pub homes_second : (n : ℕ) → n < 128 → n ≢ 1 → home_at adding_machine (take 1 two_entries) n ≡ home_at adding_machine two_entries n
unfolding home_at same_homes
homes_second n small other = let test : ℕ → Bool = λ k. eqb k 1 || same_homes (state_at adding_machine (take 1 two_entries)) (state_at adding_machine two_entries) k in
    let all : all_below test 128 ≡ true = refl in
    eqb-true (home_in adding_machine.config (state_at adding_machine (take 1 two_entries)) n) (home_in adding_machine.config (state_at adding_machine two_entries) n)
    (sym (ap (λ b. b || same_homes (state_at adding_machine (take 1 two_entries)) (state_at adding_machine two_entries) n) (ne_eqb n 1 other)) ∙ at_each test 128 n all small)

-- the first entry changes the tool's part alone
pub parts_first : (k : ℕ) → k ≢ 16 → part_at adding_machine (take 1 two_entries) k ≡ part_at adding_machine [] k
unfolding part_at
parts_first k other = let old = state_at adding_machine [] in let new = state_at adding_machine (take 1 two_entries) in
    ap (λ b. if b then tool_part (tool_of new) else pool_part (at_place new.pools k)) (ne_eqb k 16 other)
    ∙ sym (ap (λ b. if b then tool_part (tool_of old) else pool_part (at_place old.pools k)) (ne_eqb k 16 other))

pub home_before : home_at adding_machine (take 1 two_entries) 1 ≡ 16
unfolding home_at
home_before = refl

pub home_after : home_at adding_machine two_entries 1 ≡ 0
unfolding home_at
home_after = refl

pub now_first : now_at adding_machine [] ≡ now_at adding_machine (take 1 two_entries)
unfolding now_at
now_first = refl

pub now_second : now_at adding_machine (take 1 two_entries) ≡ now_at adding_machine two_entries
unfolding now_at
now_second = refl

-- neither is a decision
pub decides_first : (r : ℕ) → r < 64 → decides_at (take 1 two_entries) r ≡ decides_at [] r
unfolding decides_at
decides_first r small = refl

pub decides_second : (r : ℕ) → r < 64 → decides_at two_entries r ≡ decides_at (take 1 two_entries) r
unfolding decides_at
decides_second r small = refl
