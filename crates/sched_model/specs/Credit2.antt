-- Credit2: the unit with the greatest credit runs.
use Rattle.sched_base.specs.Numbers.{moment}
use Rattle.std.specs.Prelude.{ℕ, zero, suc, ◌+◌, ◌-◌, ◌*◌, ◌/◌, ◌%◌, ◌==◌, ◌&&◌, ◌||◌, Bool, false, not, List, [], ◌∷◌, Option, Some, None, is_some, min, max, map, fold, slice_get, sum_by, replicate, length, ℤ, pos, ◌+ℤ◌, ◌-ℤ◌, int_lt, nat_lt, if◌then◌else◌}
use Rattle.sched_base.specs.declared.UnitId.{UnitId}
use Rattle.sched_model.specs.Places.{at_place, change_at, change_each, change_item, numbered_items, without_unit}
use Rattle.sched_model.specs.State.{Scheduler, Credit2Records, Credit2Domain, Credit2Unit}
use Rattle.sched_model.specs.declared.state.Records.TheVariants.{Credit2Pool}
use Rattle.sched_base.specs.Credit2Numbers.{positive_part, burned_credit, burned_residual, start_credit, called_resets, raised_credit, slice_length, refill_span, cap_budget, budget_quota, taken_budget, budget_after_refill}
use Rattle.sched_model.specs.EligibleUnits.{Ask, Decision, is_unit_allowed, has_cap_budget, eligible_units as eligible}

-- the greatest weight of the pool's domains
abbrev pub most_weight : Credit2Records → ℕ
most_weight records = fold max 0 (map (λ e. e.1.weight) (numbered_items 0 records.domains))

-- a running unit of the domain charged up to t
abbrev pub burned_unit : ℕ → ℕ → Credit2Domain → Credit2Unit → Credit2Unit
burned_unit most t d u =
    elim u.burned [
      | None ↦ u
      | Some from ↦ record u {
        credit = burned_credit u.credit u.residual d.weight most (t - from);
        residual = burned_residual u.residual d.weight most (t - from);
        held = (if d.cap == 0 then u.held else u.held -ℤ pos (t - from));
        burned = Some t;
      }
    ]

-- the domain d changed by f
abbrev pub change_domain : ℕ → (Credit2Domain → Credit2Domain) → Credit2Records → Credit2Records
change_domain d f records = record records { domains = change_at d f records.domains }

-- the unit changed by f, which is told its domain
abbrev pub change_unit : UnitId → (Credit2Domain → Credit2Unit → Credit2Unit) → Credit2Records → Credit2Records
change_unit u f records = change_domain u.dom.0 (λ d. record d { units = change_item u.n (f d) d.units }) records

-- the running units of one domain charged up to t
abbrev pub burned_domain : ℕ → ℕ → Credit2Domain → Credit2Domain
burned_domain most t d = record d { units = map (burned_unit most t d) d.units }

-- the running units of the whole pool charged up to t
abbrev pub burn_all : ℕ → Credit2Records → Credit2Records
burn_all t records = record records { domains = change_each 0 (λ n d. burned_domain (most_weight records) t d) records.domains }

-- the unit's budget given back to its domain
abbrev pub domain_after_return : ℕ → Credit2Domain → Credit2Domain
domain_after_return n d =
    elim (slice_get d.units n) [
      | None ↦ d
      | Some u ↦ record d { budget = d.budget +ℤ u.held; units = change_item n (λ x. record x { held = pos 0 }) d.units }
    ]

-- the core's own unit charged, and its budget given back
abbrev pub own_burned_records : Option UnitId → ℕ → Credit2Records → Credit2Records
own_burned_records None t records = records
own_burned_records (Some u) t records =
    change_domain u.dom.0 (λ d. (if d.cap == 0 then d else domain_after_return u.n d)) (change_unit u (burned_unit (most_weight records) t) records)

-- the unit's credit
abbrev pub unit_credit : Credit2Records → UnitId → ℤ
unit_credit records u = elim (at_place records.domains u.dom.0) [ None ↦ pos 0 | Some d ↦ elim (slice_get d.units u.n) [ None ↦ pos 0 | Some x ↦ x.credit ] ]

-- the unit of greatest credit: the best so far, or one of those that follow; among equals the earlier
abbrev pub richest_unit : Credit2Records → Option UnitId → List UnitId → Option UnitId
richest_unit records best [] = best
richest_unit records None (u ∷ units) = richest_unit records (Some u) units
richest_unit records (Some best) (u ∷ units) = richest_unit records (Some (if int_lt (unit_credit records best) (unit_credit records u) then u else best)) units

-- whether the unit has run for less than the rate limit
abbrev pub is_rate_limited : Credit2Records → ℕ → ℕ → Bool
is_rate_limited records since t = nat_lt (t - since) (records.limit * 1000)

-- whether the cap lets the unit's domain run
abbrev pub has_domain_budget : Credit2Records → UnitId → Bool
has_domain_budget records u = elim (at_place records.domains u.dom.0) [ None ↦ false | Some d ↦ has_cap_budget d ]

-- the core's own unit, where it may go on
abbrev pub credit2_candidate : Ask → Scheduler → Credit2Records → Option UnitId
credit2_candidate ask scheduler records =
    elim ask.cur [
      | None ↦ None
      | Some u ↦ (if ask.runnable && is_unit_allowed scheduler ask.home.0 ask.core.0 u && has_domain_budget records u then Some u else None)
    ]

-- the choice, after the core's own unit was charged
abbrev pub credit2_choice : Ask → Scheduler → Credit2Records → Option UnitId
credit2_choice ask scheduler records =
    let own = credit2_candidate ask scheduler records in
    (if ask.leaving then None else (if is_some own && is_rate_limited records ask.since.0 ask.at.0 then own else richest_unit records own (eligible (record scheduler { records = Credit2Pool records }) ask.home.0 ask.core.0 ask.at.0)))

-- how many resets the choice calls for: none where its credit is above 0, or the pool had a reset at this moment
abbrev pub reset_count : ℕ → UnitId → Credit2Records → ℕ
reset_count t u records =
    (if int_lt (pos 0) (unit_credit records u) || elim records.last_reset [ None ↦ false | Some at ↦ at == t ] then 0 else called_resets (unit_credit records u))

-- the pool after m resets at once
abbrev pub reset_records : ℕ → ℕ → Credit2Records → Credit2Records
reset_records t zero records = records
reset_records t (suc m) records =
    let burned : Credit2Records = burn_all t records in
    record burned {
      last_reset = Some t;
      domains = change_each 0 (λ n d. record d { units = map (λ (x : Credit2Unit). record x { credit = raised_credit x.credit (suc m) }) d.units }) burned.domains;
    }

-- the chosen unit takes its budget from a capped domain
abbrev pub domain_after_take : ℕ → Credit2Domain → Credit2Domain
domain_after_take n d =
    let taken = taken_budget d.budget (budget_quota (cap_budget d.cap) (length d.units)) in
    (if d.cap == 0 then d else record d { budget = d.budget -ℤ taken; units = change_item n (λ x. record x { held = taken }) d.units })

-- the greatest credit of the others that are eligible, or 0
abbrev pub best_other_credit : Ask → Scheduler → Credit2Records → UnitId → ℤ
best_other_credit ask scheduler records u =
    elim (richest_unit records None (without_unit u (eligible (record scheduler { records = Credit2Pool records }) ask.home.0 ask.core.0 ask.at.0))) [ None ↦ pos 0 | Some w ↦ unit_credit records w ]

-- how long the chosen unit runs; a capped domain's for no longer than the budget that it holds
abbrev pub chosen_slice : Ask → Scheduler → Credit2Records → UnitId → ℕ
chosen_slice ask scheduler records u =
    elim (at_place records.domains u.dom.0) [
      | None ↦ 0
      | Some d ↦ elim (slice_get d.units u.n) [
        | None ↦ 0
        | Some x ↦
            let long = slice_length x.credit (best_other_credit ask scheduler records u) d.weight (most_weight records) (records.limit * 1000) in
            (if d.cap == 0 then long else min long (positive_part x.held))
      ]
    ]

-- the unit runs from t, or runs no more
abbrev pub running_records : Option ℕ → UnitId → Credit2Records → Credit2Records
running_records from u records = change_unit u (λ d x. record x { burned = from }) records

-- the core's own unit runs no more
abbrev pub off_records : Option UnitId → Credit2Records → Credit2Records
off_records None records = records
off_records (Some u) records = running_records None u records

-- the decision for a choice
abbrev pub credit2_decision_for : Ask → Scheduler → Credit2Records → Option UnitId → Decision
credit2_decision_for ask scheduler records None = record { unit = None; due = None; reset = 0; records = Credit2Pool (off_records ask.cur records) }
credit2_decision_for ask scheduler records (Some u) =
    let m = reset_count ask.at.0 u records in
    let taken : Credit2Records = change_domain u.dom.0 (domain_after_take u.n) (reset_records ask.at.0 m records) in
    record {
      unit = Some u;
      due = Some (moment (ask.at.0 + chosen_slice ask scheduler taken u));
      reset = m;
      records = Credit2Pool (running_records (Some ask.at.0) u (off_records ask.cur taken));
    }

-- the decision: the core's own unit is charged first, and then the choice is made
abbrev pub credit2_decision : Ask → Scheduler → Credit2Records → Decision
credit2_decision ask scheduler records =
    let burned : Credit2Records = own_burned_records ask.cur ask.at.0 records in
    credit2_decision_for ask scheduler burned (credit2_choice ask scheduler burned)

-- whether a unit has more credit than the core's own has now, and that has run for the rate limit
abbrev pub has_more_credit : Credit2Records → UnitId → ℕ → ℕ → UnitId → Bool
has_more_credit records cur since t u =
    not (is_rate_limited records since t)
    && int_lt (unit_credit (change_unit cur (burned_unit (most_weight records) t) records) cur) (unit_credit records u)

-- the periods that have come at t since the refill was due
abbrev pub passed_periods : Credit2Domain → ℕ → ℕ
passed_periods d t = elim d.refill [ None ↦ 0 | Some due ↦ (t - due) / refill_span + 1 ]

-- what the domain's running units hold
abbrev pub running_budget : Credit2Domain → ℕ
running_budget d = sum_by (λ x. (if is_some x.burned then positive_part x.held else 0)) d.units

-- the domain after a refill at t
abbrev pub domain_after_refill : ℕ → ℕ → Credit2Domain → Credit2Domain
domain_after_refill most t d =
    let burned : Credit2Domain = burned_domain most t d in
    let n = passed_periods d t in
    record burned {
      budget = budget_after_refill d.budget (running_budget burned) (cap_budget d.cap) n;
      refill = elim d.refill [ None ↦ None | Some due ↦ Some (due + n * refill_span) ];
    }

-- the pool after a refill of the domain
abbrev pub refilled_pool : ℕ → ℕ → Credit2Records → Credit2Records
refilled_pool t d records = change_domain d (domain_after_refill (most_weight records) t) records

-- the first refill after t, where the domain is capped
abbrev pub first_refill_moment : ℕ → ℕ → Option ℕ
first_refill_moment cap t = (if cap == 0 then None else Some (t + refill_span))

-- a domain with so many units that joins at t
abbrev pub fresh_credit2_domain : ℕ → ℕ → ℕ → ℕ → Credit2Domain
fresh_credit2_domain weight cap count t =
    record {
      weight = weight;
      cap = cap;
      budget = pos (cap_budget cap);
      refill = first_refill_moment cap t;
      units = replicate count (record { credit = pos start_credit; residual = 0; held = pos 0; burned = None });
    }

-- the domain with a new weight, if one is given; what is left of each charge is cut to it
abbrev pub domain_with_weight : Option ℕ → Credit2Domain → Credit2Domain
domain_with_weight None d = d
domain_with_weight (Some weight) d = record d { weight = weight; units = map (λ (x : Credit2Unit). record x { residual = x.residual % weight }) d.units }

-- the domain with a new cap, if one is given: its running units are charged and hold nothing, and its budget is that of the cap
abbrev pub domain_with_cap : ℕ → ℕ → Option ℕ → Credit2Domain → Credit2Domain
domain_with_cap most t None d = d
domain_with_cap most t (Some percent) d =
    let burned : Credit2Domain = burned_domain most t d in
    record burned {
      cap = percent;
      budget = pos (cap_budget percent);
      refill = first_refill_moment percent t;
      units = map (λ (x : Credit2Unit). record x { held = (if is_some x.burned then pos 0 else x.held) }) burned.units;
    }

-- the pool after the domain's weight is set, and then its cap
abbrev pub records_with_terms : ℕ → ℕ → Option ℕ → Option ℕ → Credit2Records → Credit2Records
records_with_terms t d weight cap records =
    let weighted : Credit2Records = change_domain d (domain_with_weight weight) records in
    change_domain d (domain_with_cap (most_weight weighted) t cap) weighted
