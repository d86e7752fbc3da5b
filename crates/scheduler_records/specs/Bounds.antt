-- The numbers that Credit2 reckons with are in range.
use Rattle.std.specs.Prelude.{◌≤◌, ◌<◌, ◌%◌, ◌==◌, ℕ, ℤ, pos, neg_ℤ, ◌≤ℤ◌, map, slice_get, Some, None, is_some, if◌then◌else◌}
use Rattle.std.specs.List.{All}
use Rattle.std.specs.Option.{IfSome}
use Rattle.sched_model.specs.declared.state.Credit2Unit.{Credit2Unit}
use Rattle.sched_model.specs.declared.state.Credit2Domain.{Credit2Domain}
use Rattle.sched_model.specs.declared.state.Credit2Records.{Credit2Records}
use Rattle.sched_model.specs.Places.{change_item}
use Rattle.sched_model.specs.Credit2.{most_weight, burned_unit, burned_domain, domain_after_return}
use Rattle.sched_base.specs.Credit2Numbers.{positive_part, raised_credit}
use Rattle.sched_laws.specs.EachPlace.{EachPlace}

-- a unit that may be charged at t: it is in range, or was charged once since it was
pub record UnitFits (t : ℕ) (x : Credit2Unit) : Type 0 where
  pub residual : x.residual < 65536
  pub burned : IfSome x.burned (λ (b : ℕ). b ≤ t)
  pub credit_most : x.credit ≤ℤ pos 10500000
  pub credit_least : neg_ℤ (pos 1400000000000000000) ≤ℤ x.credit
  pub held_most : x.held ≤ℤ pos 640000000
  pub held_least : neg_ℤ (pos 20000000000000) ≤ℤ x.held

-- a domain's weight, where the greatest of the pool is most, and its cap
pub record ParamsFit (most : ℕ) (d : Credit2Domain) : Type 0 where
  pub some_weight : 1 ≤ d.weight
  pub no_more : d.weight ≤ most
  pub small : most ≤ 65535
  pub cap : d.cap ≤ 6400

-- a domain whose units may be charged at t
pub record DomainFits (most t : ℕ) (d : Credit2Domain) : Type 0 where
  pub params : ParamsFit most d
  pub units : All (UnitFits t) d.units

-- a pool whose units may be charged at t
abbrev pub PoolFits : ℕ → Credit2Records → Type 0
PoolFits t records = EachPlace (DomainFits (most_weight records) t) records.domains

-- the weights and caps of a pool
abbrev pub PoolParamsFit : Credit2Records → Type 0
PoolParamsFit records = EachPlace (ParamsFit (most_weight records)) records.domains

-- the unit with this index charged up to t, and the budget that it holds given back under a cap
abbrev pub own_charged : ℕ → ℕ → ℕ → Credit2Domain → Credit2Domain
own_charged most t n d =
    let charged : Credit2Domain = record d { units = change_item n (burned_unit most t d) d.units } in
    (if charged.cap == 0 then charged else domain_after_return n charged)

-- what a unit holds while it runs
abbrev pub amount_held : Credit2Unit → ℕ
amount_held x = (if is_some x.burned then positive_part x.held else 0)

-- the domain after m resets at t: its running units are charged, and then each unit's credit is raised
abbrev pub reset_by : ℕ → ℕ → ℕ → Credit2Domain → Credit2Domain
reset_by most t m d =
    let burned : Credit2Domain = burned_domain most t d in
    record burned { units = map (λ (x : Credit2Unit). record x { credit = raised_credit x.credit m }) burned.units }

-- the credit of the unit with this index of the domain, and 0 where there is none
abbrev pub credit_at : Credit2Domain → ℕ → ℤ
credit_at d n = elim (slice_get d.units n) [ None ↦ pos 0 | Some x ↦ x.credit ]

-- what is left of the unit's charge, cut to a new weight
abbrev pub unit_cut_to : ℕ → Credit2Unit → Credit2Unit
unit_cut_to weight x = record x { residual = x.residual % weight }

-- a unit that holds nothing where it runs
abbrev pub unit_without_held : Credit2Unit → Credit2Unit
unit_without_held x = record x { held = (if is_some x.burned then pos 0 else x.held) }
