-- The ranges of what RTDS and Credit2 keep of their units and domains.
use Rattle.std.proofs.Common.{◌≡◌, ◌≤◌, ◌+◌, ◌-◌, ◌*◌, ℕ, List, length, ◌<◌}
use Rattle.std.specs.Prelude.{Option, Some, unwrap_or, pos, neg_ℤ, ◌≤ℤ◌}
use Rattle.std.specs.List.{AllByRecursion}
use Rattle.sched_model.specs.declared.state.RtdsUnit.{RtdsUnit}
use Rattle.sched_model.specs.CheckedMachine.{IsWithin}
use Rattle.sched_laws.specs.EachPlace.{EachPlace}
use Rattle.sched_model.specs.declared.state.Credit2Unit.{Credit2Unit}
use Rattle.sched_model.specs.declared.state.Credit2Domain.{Credit2Domain}
use Rattle.sched_model.specs.declared.state.Credit2Records.{Credit2Records}

-- what a unit used since its budget was last filled, or since its level was 0
abbrev pub used_budget : RtdsUnit → ℕ
used_budget x = x.level * x.budget + (x.budget - x.left)

-- the moment up to which it was charged
abbrev pub last_of : ℕ → RtdsUnit → ℕ
last_of t x = unwrap_or x.burned t

pub record RtdsFits (t : ℕ) (x : RtdsUnit) : Type 0 where
  pub period : IsWithin 10000 1000000000000 x.period
  pub budget : IsWithin 10000 1000000000000 x.budget
  pub next_period : IsWithin 10000 1000000000000 x.next_period
  pub next_budget : IsWithin 10000 1000000000000 x.next_budget
  pub left : x.left ≤ x.budget
  pub spent : used_budget x ≤ last_of t x
  pub last : last_of t x ≤ t
  pub deadline : x.deadline ≤ t + 1000000000000

-- the records of all domains of a pool
abbrev pub RtdsFit : ℕ → List (Option (List RtdsUnit)) → Type 0
RtdsFit t domains = EachPlace (AllByRecursion (RtdsFits t)) domains

-- a unit of a domain of this weight
pub record UnitFits (t weight : ℕ) (x : Credit2Unit) : Type 0 where
  pub residual : x.residual < weight
  pub last : unwrap_or x.burned t ≤ t
  pub most : x.credit ≤ℤ pos 10500000
  pub least : neg_ℤ (pos (65536 * unwrap_or x.burned t)) ≤ℤ x.credit

pub record Credit2DomainFits (t : ℕ) (d : Credit2Domain) : Type 0 where
  pub weight : IsWithin 1 65535 d.weight
  pub cap : d.cap ≤ 6400
  pub refill : (r : ℕ) → d.refill ≡ Some r → r ≤ t + 10000000
  pub units : AllByRecursion (UnitFits t d.weight) d.units

pub record Credit2Fits (count t : ℕ) (records : Credit2Records) : Type 0 where
  pub places : length records.domains ≡ count
  pub limit : records.limit ≤ 500000
  pub domains : EachPlace (Credit2DomainFits t) records.domains
