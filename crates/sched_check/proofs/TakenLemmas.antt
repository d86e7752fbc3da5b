-- The entries that are taken one after another.
use Rattle.std.proofs.Common.{◌++◌, [], ◌∷◌, Bool, true, false, List, refl}
use Rattle.sched_model.specs.declared.event.Entry.{Entry}
use Rattle.sched_model.specs.declared.machine.Machine.{Machine}
use Rattle.sched_model.specs.Runs.{Reached, IsRunFrom, after_entry, after_entries}
use Rattle.run_laws.specs.RunLaws.{IsOrderedFrom}
use Rattle.sched_check.specs.Checking.{AreTaken, IsTaken}

-- what is taken is a run
pub taken-run : (m : Machine) (ordered : Bool) (from : Reached) (entries : List Entry) → AreTaken m ordered from entries → IsRunFrom m from entries
taken-run m ordered from [] taken = tt
taken-run m ordered from (entry ∷ entries) taken = (taken.0.next, taken-run m ordered (after_entry m from entry) entries taken.1)

-- a run is taken, where any action may come
pub run-taken : (m : Machine) (from : Reached) (entries : List Entry) → IsRunFrom m from entries → AreTaken m false from entries
run-taken m from [] run = tt
run-taken m from (entry ∷ entries) run = (record { next = run.0; first = λ is. absurd (cc) }, run-taken m (after_entry m from entry) entries run.1)

-- what is taken is ordered, where the first action is asked for
pub taken-ordered : (m : Machine) (from : Reached) (entries : List Entry) → AreTaken m true from entries → IsOrderedFrom m from entries
taken-ordered m from [] taken = tt
taken-ordered m from (entry ∷ entries) taken = (taken.0.first refl, taken-ordered m (after_entry m from entry) entries taken.1)

-- an ordered run is taken then
pub ordered-taken : (m : Machine) (from : Reached) (entries : List Entry) → IsRunFrom m from entries → IsOrderedFrom m from entries → AreTaken m true from entries
ordered-taken m from [] run ordered = tt
ordered-taken m from (entry ∷ entries) run ordered = (record { next = run.0; first = λ is. ordered.0 }, ordered-taken m (after_entry m from entry) entries run.1 ordered.1)

-- an entry more
pub taken-before : (m : Machine) (ordered : Bool) (from : Reached) (entries : List Entry) (entry : Entry) → AreTaken m ordered from (entries ++ entry ∷ []) → AreTaken m ordered from entries
taken-before m ordered from [] entry taken = tt
taken-before m ordered from (first ∷ entries) entry taken = (taken.0, taken-before m ordered (after_entry m from first) entries entry taken.1)

pub taken-last : (m : Machine) (ordered : Bool) (from : Reached) (entries : List Entry) (entry : Entry) → AreTaken m ordered from (entries ++ entry ∷ []) → IsTaken m ordered (after_entries m from entries) entry
taken-last m ordered from [] entry taken = taken.0
taken-last m ordered from (first ∷ entries) entry taken = taken-last m ordered (after_entry m from first) entries entry taken.1

pub taken-more : (m : Machine) (ordered : Bool) (from : Reached) (entries : List Entry) (entry : Entry) → AreTaken m ordered from entries → IsTaken m ordered (after_entries m from entries) entry → AreTaken m ordered from (entries ++ entry ∷ [])
taken-more m ordered from [] entry before last = (last, tt)
taken-more m ordered from (first ∷ entries) entry before last = (before.0, taken-more m ordered (after_entry m from first) entries entry before.1 last)
