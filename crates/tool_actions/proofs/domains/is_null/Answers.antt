use Rattle.std.proofs.Common.{◌≡◌, ◌<◌, ◌∙◌, List, ◌∷◌, get_or, length, sym, ap, subst, arith}
use Rattle.std.specs.Prelude.{Some}
use Rattle.sched_model.specs.declared.facts.Stored.{Stored}
use Rattle.sched_model.specs.declared.facts.Stored.TheVariants as stored
use Rattle.sched_model.specs.Places.{at_place}
use Rattle.unit_state.specs.Seen.{units_at}
use Rattle.sched_base.specs.Units.{unit_id}
use Rattle.sched_laws.proofs.Lists.{some_is}
use Rattle.tool_actions.proofs.DomainMoves.{first-told, told-null, told-other}
use Rattle.tool_actions.proofs.domains.is_null.Goals as goal

pub bounds-0 : goal.bounds-0
bounds-0 c =
    let seen = some_is c.args.slot.now c.requires.some in
    let f = first-told seen.0.pool.scheduler.records c.args.d.0 (units_at seen.0.granularity (at_place seen.0.pool.domains c.args.d.0)) c.facts-facts.result.units (c.requires.units seen.0 seen.1) (c.facts-facts.ensures.units seen.0 seen.1) in
    let items : c.as_slice.result.now ≡ f.0 ∷ f.1 = c.as_slice.ensures.items ∙ f.2 in
    subst (λ (xs : List Stored). 0 < length xs) (sym items) (omega arith)

pub returns-in-Null : goal.returns-in-Null
returns-in-Null c seen is =
    let f = first-told seen.pool.scheduler.records c.args.d.0 (units_at seen.granularity (at_place seen.pool.domains c.args.d.0)) c.facts-facts.result.units (c.requires.units seen is) (c.facts-facts.ensures.units seen is) in
    let head : f.0 ≡ stored.Null = ap (λ (xs : List Stored). get_or xs 0 (stored.Credit2 0 0)) (sym (c.as_slice.ensures.items ∙ f.2)) ∙ c.in-Null.is in
    told-null seen.pool.scheduler.records (unit_id c.args.d.0 0) (f.3 ∙ ap (λ (x : Stored). Some x) head)

pub returns-in_default : goal.returns-in_default
returns-in_default c seen is =
    let f = first-told seen.pool.scheduler.records c.args.d.0 (units_at seen.granularity (at_place seen.pool.domains c.args.d.0)) c.facts-facts.result.units (c.requires.units seen is) (c.facts-facts.ensures.units seen is) in
    told-other seen.pool.scheduler.records (unit_id c.args.d.0 0) f.0 f.3
    (λ null. c.in_default.not-Null (ap (λ (xs : List Stored). get_or xs 0 (stored.Credit2 0 0)) (c.as_slice.ensures.items ∙ f.2) ∙ null))
