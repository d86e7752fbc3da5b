-- What the budgets of a Credit2 pool keep, and which of its units run.
use Rattle.std.proofs.Common.{◌≡◌, ◌≤◌, ◌+◌, ℕ, List, [], ◌∷◌, ◌⊎◌, length}
use Rattle.std.specs.Prelude.{Some, None, unwrap_or, slice_get, ℤ, pos, neg_ℤ, ◌+ℤ◌, ◌≤ℤ◌}
use Rattle.sched_model.specs.declared.state.Credit2Unit.{Credit2Unit}
use Rattle.sched_model.specs.declared.state.Credit2Domain.{Credit2Domain}
use Rattle.sched_model.specs.declared.state.Credit2Records.{Credit2Records}
use Rattle.sched_laws.specs.EachPlace.{EachAt}

-- the moments of the units' last charges, added up, and what they hold
abbrev pub lasts : ℕ → List Credit2Unit → ℕ
lasts t [] = 0
lasts t (y ∷ ys) = unwrap_or y.burned t + lasts t ys

abbrev pub helds : List Credit2Unit → ℤ
helds [] = pos 0
helds (y ∷ ys) = y.held +ℤ helds ys

-- a unit of a domain with this cap: one that does not run holds nothing, but for one that is about to run; one whose budget was given back holds nothing
pub record HeldFits (t cap : ℕ) (Ex Zr : Type 0) (y : Credit2Unit) : Type 0 where
  pub last : unwrap_or y.burned t ≤ t
  pub idle : y.burned ≡ None → (y.held ≡ pos 0) ⊎ Ex
  pub free : cap ≡ 0 → y.held ≡ pos 0
  pub zero : Zr → (y.held ≡ pos 0) × (unwrap_or y.burned t ≡ t)
  pub most : y.held ≤ℤ pos 640000000
  pub least : neg_ℤ (pos (unwrap_or y.burned t)) ≤ℤ y.held

pub record BudgetFits (t : ℕ) (IsCount Ex Zr : ℕ → Type 0) (x : Credit2Domain) : Type 0 where
  pub cap : x.cap ≤ 6400
  pub count : IsCount (length x.units)
  pub units : (n : ℕ) (y : Credit2Unit) → slice_get x.units n ≡ Some y → HeldFits t x.cap (Ex n) (Zr n) y
  pub low : neg_ℤ (pos (lasts t x.units)) ≤ℤ (x.budget +ℤ helds x.units)
  pub high : (x.budget +ℤ helds x.units) ≤ℤ pos 640000000

abbrev pub Nobody : ℕ → Type 0
Nobody n = ⊥

abbrev pub None2 : ℕ → ℕ → Type 0
None2 d n = ⊥

-- budgets of all domains
abbrev pub Budgets : ℕ → (ℕ → ℕ → Type 0) → (ℕ → ℕ → Type 0) → (ℕ → ℕ → Type 0) → Credit2Records → Type 0
Budgets t C Ex Zr records = EachAt (λ d. BudgetFits t (C d) (Ex d) (Zr d)) records.domains

-- the units that run are those for which On says so
abbrev pub RunsOnly : (ℕ → Type 0) → List Credit2Unit → Type 0
RunsOnly On ys = (n : ℕ) (y : Credit2Unit) → slice_get ys n ≡ Some y → (y.burned ≡ None) ⊎ On n

abbrev pub AllRunOnly : (ℕ → ℕ → Type 0) → Credit2Records → Type 0
AllRunOnly On records = EachAt (λ d (x : Credit2Domain). RunsOnly (On d) x.units) records.domains
