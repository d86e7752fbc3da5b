-- What one decision does to the record of each domain of a Credit2 pool, and to the record of each unit of an RTDS pool.
use Rattle.std.specs.Prelude.{ℕ, zero, suc, ◌==◌, Bool, Option, Some, None, map, if◌then◌else◌}
use Rattle.sched_base.specs.declared.UnitId.{UnitId}
use Rattle.sched_base.specs.Credit2Numbers.{raised_credit}
use Rattle.sched_model.specs.Places.{change_item}
use Rattle.sched_model.specs.declared.state.Credit2Records.{Credit2Records}
use Rattle.sched_model.specs.declared.state.Credit2Domain.{Credit2Domain}
use Rattle.sched_model.specs.declared.state.Credit2Unit.{Credit2Unit}
use Rattle.sched_model.specs.declared.state.RtdsUnit.{RtdsUnit}
use Rattle.sched_model.specs.declared.ask.Ask.{Ask}
use Rattle.sched_model.specs.Credit2.{most_weight, burned_unit, burned_domain, domain_after_return, domain_after_take, own_burned_records, reset_count}
use Rattle.sched_model.specs.Rtds.{unit_burned_to}

-- the unit's number, where it is one of the domain
abbrev pub number_in : ℕ → Option UnitId → Option ℕ
number_in d None = None
number_in d (Some u) = (if u.dom.0 == d then Some u.n else None)

-- the core's own unit is charged and gives back
abbrev pub own_charged : ℕ → ℕ → Option ℕ → Credit2Domain → Credit2Domain
own_charged most t None x = x
own_charged most t (Some i) x =
    let burned : Credit2Domain = record x { units = change_item i (burned_unit most t x) x.units } in
    (if burned.cap == 0 then burned else domain_after_return i burned)

-- the resets
abbrev pub was_reset : ℕ → ℕ → ℕ → Credit2Domain → Credit2Domain
was_reset most t zero x = x
was_reset most t (suc k) x = (let burned : Credit2Domain = burned_domain most t x in record burned { units = map (λ (y : Credit2Unit). record y { credit = raised_credit y.credit (suc k) }) burned.units })

-- the chosen unit takes a part
abbrev pub has_taken : Option ℕ → Credit2Domain → Credit2Domain
has_taken None x = x
has_taken (Some j) x = domain_after_take j x

-- a unit runs from a moment on, or no more
abbrev pub now_from : Option ℕ → Option ℕ → Credit2Domain → Credit2Domain
now_from from None x = x
now_from from (Some i) x = record x { units = change_item i (λ (y : Credit2Unit). record y { burned = from }) x.units }

-- up to what the chosen unit takes: by then its slice is known
abbrev pub taken_domain : ℕ → ℕ → ℕ → ℕ → Option ℕ → Option ℕ → Credit2Domain → Credit2Domain
taken_domain most most2 t k had has x = has_taken has (was_reset most2 t k (own_charged most t had x))

-- all of it
abbrev pub chosen_domain : ℕ → ℕ → ℕ → ℕ → Option ℕ → Option ℕ → Credit2Domain → Credit2Domain
chosen_domain most most2 t k had has x = now_from (Some t) has (now_from None had (taken_domain most most2 t k had has x))

-- how many resets there are for the chosen unit
abbrev pub resets_for : ℕ → Credit2Records → Option UnitId → ℕ
resets_for t burned None = 0
resets_for t burned (Some u) = reset_count t u burned

-- what the decision for a choice does to the domain d
abbrev pub decided_domain : Ask → Credit2Records → Option UnitId → ℕ → Credit2Domain → Credit2Domain
decided_domain ask records chosen d =
    let burned : Credit2Records = own_burned_records ask.cur ask.at.0 records in
    chosen_domain (most_weight records) (most_weight burned) ask.at.0 (resets_for ask.at.0 burned chosen) (number_in d ask.cur) (number_in d chosen)

-- an RTDS unit is charged where the core had it
abbrev pub charged_if : Bool → ℕ → RtdsUnit → RtdsUnit
charged_if had t x = (if had then unit_burned_to t x else x)

-- it runs no more where the core had it
abbrev pub off_if : Bool → RtdsUnit → RtdsUnit
off_if had x = (if had then record x { burned = None } else x)

-- it runs from t where the core has it now
abbrev pub on_if : Bool → ℕ → RtdsUnit → RtdsUnit
on_if has t x = (if has then record x { burned = Some t } else x)

-- a record after a decision at t
abbrev pub after_decision : ℕ → Bool → Bool → RtdsUnit → RtdsUnit
after_decision t had has x = on_if has t (off_if had (charged_if had t x))
