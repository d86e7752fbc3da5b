-- What a null pool decides, where its core is given to a unit.
use Rattle.std.proofs.Common.{◌≡◌, ℕ, Bool, true, false, ◌||◌, ◌&&◌, List, [], ◌∷◌, refl, sym, ◌∙◌, ap, cond, length}
use Rattle.std.specs.Prelude.{Option, Some, None, not, is_some, filter, replicate}
use Rattle.std.specs.List.{list_any}
use Rattle.sched_base.specs.declared.UnitId.{UnitId}
use Rattle.sched_base.specs.declared.Cores.{Cores}
use Rattle.sched_base.proofs.Bools.{and_left, and_right, and_true, and_false}
use Rattle.sched_model.specs.declared.config.PoolParams.{PoolParams}
use Rattle.sched_model.specs.declared.config.PoolParams.TheVariants as pool_params
use Rattle.sched_model.specs.declared.config.SchedKind.TheVariants as kinds
use Rattle.sched_model.specs.declared.state.Records.{Records}
use Rattle.sched_model.specs.declared.state.Records.TheVariants.{NullPool}
use Rattle.sched_model.specs.State.{has_core_bit}
use Rattle.sched_model.specs.Places.{at_place, has_listed_unit, is_unit, same_unit}
use Rattle.sched_model.specs.EligibleUnits.{is_allowed_by, is_unit_placed, is_core_given, has_given_core, is_unit_eligible, eligible_units}
use Rattle.sched_model.specs.NullScheduler.{earliest_unit}
use Rattle.sched_model.specs.Policy.{empty_records}
use Rattle.sched_laws.proofs.Choices.{same_unit_same}
use Rattle.sched_laws.proofs.Counts.{same_unit_refl}
use Rattle.sched_ops.specs.Conditions.{ArePoolParams, is_vacant}
use Rattle.sched_ops.specs.Seen.{restarted_scheduler}
use Rattle.scheduler_records.specs.Parts.{scheduler_of}
use Rattle.pool_units.specs.Units.{Units}
use Rattle.sched_ops.specs.Affinity.{is_member_among}
use Rattle.pool_units.proofs.Waiting.{first_of_one, any_of_none}
use Rattle.pool_units.proofs.Whole.{affinity_of_vacant, queue_of_vacant}

or_false : (b : Bool) → (b || false) ≡ b
or_false true = refl
or_false false = refl

-- the null scheduler's own rule
abbrev own_rule : Units → List (Option UnitId) → ℕ → ℕ → UnitId → Bool
own_rule units kept home core u =
    is_unit_placed (scheduler_of units.queue units.affinity (NullPool kept)) kept home core u
    || (not (has_given_core (scheduler_of units.queue units.affinity (NullPool kept)) kept home u) && not (is_core_given (scheduler_of units.queue units.affinity (NullPool kept)) kept home core))

-- a unit that may have the core that is kept for it is given the core
pub given_to_kept : (units : Units) (kept : List (Option UnitId)) (home core : ℕ) (w : UnitId) → at_place kept core ≡ Some w → (has_core_bit home core && is_allowed_by units.affinity home core w) ≡ true
    → is_unit_placed (scheduler_of units.queue units.affinity (NullPool kept)) kept home core w ≡ true
given_to_kept units kept home core w at may =
    let own : is_unit (at_place kept core) w ≡ true = ap (λ (o : Option UnitId). is_unit o w) at ∙ same_unit_refl w in
    let here : has_core_bit home core ≡ true = and_left (has_core_bit home core) (is_allowed_by units.affinity home core w) may in
    let allowed : is_allowed_by units.affinity home core w ≡ true = and_right (has_core_bit home core) (is_allowed_by units.affinity home core w) may in
    rw (own, here, allowed) refl

-- where the core is given to a unit, that one alone is eligible for it
pub first_of_placed : (units : Units) (kept : List (Option UnitId)) (home core : ℕ) (w : UnitId) → at_place kept core ≡ Some w → is_unit_placed (scheduler_of units.queue units.affinity (NullPool kept)) kept home core w ≡ true
    → earliest_unit (eligible_units (scheduler_of units.queue units.affinity (NullPool kept)) home core 0) ≡ cond (has_listed_unit units.queue w) (Some w) None
first_of_placed units kept home core w at placed =
    first_of_one w (is_unit_eligible (scheduler_of units.queue units.affinity (NullPool kept)) home core 0) units.queue only
    ∙ ap (λ b. cond (has_listed_unit units.queue w && b) (Some w) None) passes
    ∙ ap (λ b. cond b (Some w) None) (and_true (has_listed_unit units.queue w))
  where
    allowed : is_allowed_by units.affinity home core w ≡ true
    allowed = and_right (is_unit (at_place kept core) w && has_core_bit home core) (is_allowed_by units.affinity home core w) placed

    taken : is_core_given (scheduler_of units.queue units.affinity (NullPool kept)) kept home core ≡ true
    taken = ap (λ (o : Option UnitId). elim o as (λ _. Bool) [ None ↦ false | Some u ↦ is_unit_placed (scheduler_of units.queue units.affinity (NullPool kept)) kept home core u ]) at ∙ placed

    passes : is_unit_eligible (scheduler_of units.queue units.affinity (NullPool kept)) home core 0 w ≡ true
    passes = ap (λ b. b && own_rule units kept home core w) allowed ∙ ap (λ b. b || (not (has_given_core (scheduler_of units.queue units.affinity (NullPool kept)) kept home w) && not (is_core_given (scheduler_of units.queue units.affinity (NullPool kept)) kept home core))) placed

    only : (u : UnitId) → is_unit_eligible (scheduler_of units.queue units.affinity (NullPool kept)) home core 0 u ≡ true → u ≡ w
    only u is =
        let given : Bool = is_unit_placed (scheduler_of units.queue units.affinity (NullPool kept)) kept home core u in
        let nowhere : Bool = not (has_given_core (scheduler_of units.queue units.affinity (NullPool kept)) kept home u) in
        let passes_rule : (given || (nowhere && not (is_core_given (scheduler_of units.queue units.affinity (NullPool kept)) kept home core))) ≡ true = and_right (is_allowed_by units.affinity home core u) _ is in
        let own : given ≡ true = sym (or_false given) ∙ ap (λ b. given || b) (sym (and_false nowhere)) ∙ ap (λ b. given || (nowhere && not b)) (sym taken) ∙ passes_rule in
        let there : is_unit (at_place kept core) u ≡ true = and_left (is_unit (at_place kept core) u) (has_core_bit home core) (and_left (is_unit (at_place kept core) u && has_core_bit home core) (is_allowed_by units.affinity home core u) own) in
        let same : same_unit w u ≡ true = ap (λ o. is_unit o u) (sym at) ∙ there in
        sym (same_unit_same w u same)

-- some unit passes a test where there is a first that does
pub any_is_first : (test : UnitId → Bool) (units : List UnitId) → list_any test units ≡ is_some (earliest_unit (filter test units))
any_is_first test [] = refl
any_is_first test (u ∷ units) =
    elim (test u) as (λ b. (b || list_any test units) ≡ is_some (earliest_unit (cond b (u ∷ filter test units) (filter test units)))) [
      | true ↦ refl
      | false ↦ any_is_first test units
    ]

-- no unit is better than a core's own
none_better : (test : UnitId → Bool) (units : List UnitId) → list_any (λ u. test u && false) units ≡ false
none_better test units = any_of_none (λ u. test u && false) units (λ u. and_false (test u))

-- so a core with a unit of its own decides anew only where that is not allowed
pub only_where_barred : (allowed : Bool) (test : UnitId → Bool) (units : List UnitId) → not allowed ≡ (not allowed || list_any (λ u. test u && false) units)
only_where_barred allowed test units = sym (or_false (not allowed)) ∙ ap (λ b. not allowed || b) (sym (none_better test units))

fresh_null : (params : PoolParams) (domains cores : ℕ) → ArePoolParams kinds.Null params → empty_records params domains cores ≡ NullPool (replicate cores None)
fresh_null (pool_params.Credit2 limit) domains cores are = absurd are
fresh_null pool_params.Rtds domains cores are = absurd are
fresh_null (pool_params.Arinc653 frame) domains cores are = absurd are
fresh_null pool_params.Null domains cores are = refl

-- a pool without domains, whose cores are kept for no unit
pub begun_anew : (queue : List UnitId) (affinity : List (Option (List Cores))) (kept : List (Option UnitId)) (params : PoolParams)
    → ((u : UnitId) → has_listed_unit queue u ≡ true → is_member_among affinity u ≡ true) → is_vacant (scheduler_of queue affinity (NullPool kept)) ≡ true → ArePoolParams kinds.Null params
    → scheduler_of queue affinity (NullPool (replicate (length kept) None)) ≡ restarted_scheduler params (scheduler_of queue affinity (NullPool kept))
begun_anew queue affinity kept params members vacant are =
    ap (λ (q : List UnitId). scheduler_of q affinity (NullPool (replicate (length kept) None))) (queue_of_vacant queue affinity members vacant)
    ∙ ap (λ (a : List (Option (List Cores))). scheduler_of [] a (NullPool (replicate (length kept) None))) (affinity_of_vacant affinity vacant)
    ∙ ap (λ (r : Records). scheduler_of [] (replicate (length affinity) None) r) (sym (fresh_null params (length affinity) (length kept) are))
