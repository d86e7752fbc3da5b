-- Checks one after another, the place of a fault, and what a call answers.
use Rattle.std.specs.Prelude.{◌≡◌, ℕ, List, [], ◌∷◌, Result, Ok, Err}
use Rattle.dom_file.specs.declared.fault.TableName.{TableName}
use Rattle.dom_file.specs.declared.fault.DomCause.{DomCause}
use Rattle.dom_file.specs.declared.fault.DomFault.{DomFault}
use Rattle.dom_file.specs.declared.fault.DomFault.TheVariants.{NoMemory, BadToml, Bad}
use Rattle.dom_file.specs.declared.stop.CheckStop.{CheckStop}
use Rattle.dom_file.specs.declared.stop.CheckStop.TheVariants as stops
pub use Rattle.sched_base.specs.Results.{◌>>=◌}

-- a refusal for this cause is the fault of this key of the table with this number
abbrev pub at : {A : Type 0} → TableName → ℕ → List ℕ → Result A DomCause → Result A DomFault
at table index key (Ok x) = Ok x
at table index key (Err cause) = Err (Bad table index key cause)

-- what the check gives of each element; else the refusal of the first that does not pass
abbrev pub each : {A B E : Type 0} → (A → Result B E) → List A → Result (List B) E
each check [] = Ok []
each check (x ∷ xs) = check x >>= λ y. each check xs >>= λ ys. Ok (y ∷ ys)

-- the call's fault is that of the checks, unless memory was wanted; the checks of a table never say that there is none
abbrev pub Fails : {A : Type 0} → DomFault → Result A DomFault → Type 0
Fails NoMemory checked = Unit {0}
Fails BadToml checked = ⊥
Fails (Bad table index key cause) checked = checked ≡ Err (Bad table index key cause)

-- the call's answer is that of the checks, unless memory was wanted
abbrev pub Gives : {A : Type 0} → Result A DomFault → Result A DomFault → Type 0
Gives (Ok x) checked = checked ≡ Ok x
Gives (Err fault) checked = Fails fault checked

-- the fault of this key of the table with this number, unless memory was wanted
abbrev pub IsFaultAt : TableName → ℕ → List ℕ → DomCause → DomFault → Type 0
IsFaultAt table index key cause NoMemory = Unit {0}
IsFaultAt table index key cause fault = fault ≡ Bad table index key cause

-- the call's answer, seen by view, is that of the checks
abbrev pub Sees : {A B : Type 0} → (A → B) → Result A DomCause → Result B DomCause → Type 0
Sees view (Ok x) checked = checked ≡ Ok (view x)
Sees view (Err cause) checked = checked ≡ Err cause

-- the call's answer, seen by view, is that of the checks, unless memory was wanted
abbrev pub Stops : {A B : Type 0} → (A → B) → Result A CheckStop → Result B DomCause → Type 0
Stops view (Ok x) checked = checked ≡ Ok (view x)
Stops view (Err stops.NoMemory) checked = Unit {0}
Stops view (Err (stops.Cause cause)) checked = checked ≡ Err cause

-- the call's answer, seen by view, is that of the checks, unless memory was wanted
abbrev pub GivesBy : {A B : Type 0} → (A → B) → Result A DomFault → Result B DomFault → Type 0
GivesBy view (Ok x) checked = checked ≡ Ok (view x)
GivesBy view (Err fault) checked = Fails fault checked

-- a value that stands, and a cause that became the fault of this key of the table with this number
abbrev pub IsPlaced : {A : Type 0} → TableName → ℕ → List ℕ → Result A CheckStop → Result A DomFault → Type 0
IsPlaced table index key (Ok x) answer = answer ≡ Ok x
IsPlaced table index key (Err stops.NoMemory) answer = answer ≡ Err NoMemory
IsPlaced table index key (Err (stops.Cause cause)) (Ok x) = ⊥
IsPlaced table index key (Err (stops.Cause cause)) (Err fault) = IsFaultAt table index key cause fault
