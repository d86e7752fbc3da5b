use Rattle.std.proofs.Common.{◌≡◌, ◌∙◌, sym}
use Rattle.std.proofs.lemmas.List.{get_or_default}
use Rattle.std.proofs.Math.ListN.{get_or-eq_default}
use Rattle.std.specs.Prelude.{Option, None, Some}
use Rattle.sched_model.specs.Places.{at_place}
use Rattle.pool_core.specs.Seen.{Seen}
use Rattle.tool_actions.proofs.Judgement.{rate-told, units-told}
use Rattle.tool_actions.proofs.verdicts.facts_of.Goals as goal

-- a place of the pools
pub returns-then-i-slots-clause-rate : goal.returns-then-i-slots-clause-rate
returns-then-i-slots-clause-rate c =
    let slots = c.args.slots.now in
    let read : at_place slots c.in-Some.pool.0 ≡ c.index-slots-i.result = get_or_default slots c.in-Some.pool.0 None c.index-slots-i.result c.if-i-slots.true ∙ sym c.index-slots-i.is in
    let here : (o : Option Seen) → at_place slots c.in-Some.pool.0 ≡ o → c.index-slots-i.result ≡ o = λ o is. sym read ∙ is in
    rate-told c.args.trail.now slots c.requires.goes c.requires.stand c.args.subject c.in-Some.pool c.in-Some.is c.facts.result.rate
    (λ seen is. c.facts.ensures.rate seen (here (Some seen) is)) (λ is. (c.facts.ensures.empty (here None is)).0)

pub returns-then-i-slots-clause-units : goal.returns-then-i-slots-clause-units
returns-then-i-slots-clause-units c =
    let slots = c.args.slots.now in
    let read : at_place slots c.in-Some.pool.0 ≡ c.index-slots-i.result = get_or_default slots c.in-Some.pool.0 None c.index-slots-i.result c.if-i-slots.true ∙ sym c.index-slots-i.is in
    let here : (o : Option Seen) → at_place slots c.in-Some.pool.0 ≡ o → c.index-slots-i.result ≡ o = λ o is. sym read ∙ is in
    units-told c.args.trail.now slots c.requires.goes c.requires.stand c.args.subject c.in-Some.pool c.in-Some.is c.facts.result.units
    (λ seen is. c.facts.ensures.units seen (here (Some seen) is)) (λ is. (c.facts.ensures.empty (here None is)).1)

-- a number past the last place
pub returns-else-i-slots-clause-rate : goal.returns-else-i-slots-clause-rate
returns-else-i-slots-clause-rate c =
    let slots = c.args.slots.now in
    let past : at_place slots c.in-Some.pool.0 ≡ None = get_or-eq_default slots None c.if-i-slots.false in
    rate-told c.args.trail.now slots c.requires.goes c.requires.stand c.args.subject c.in-Some.pool c.in-Some.is c.no_facts-else-i-slots.result.rate
    (λ seen is. absurd (cc)) (λ is. c.no_facts-else-i-slots.ensures.rate)

pub returns-else-i-slots-clause-units : goal.returns-else-i-slots-clause-units
returns-else-i-slots-clause-units c =
    let slots = c.args.slots.now in
    let past : at_place slots c.in-Some.pool.0 ≡ None = get_or-eq_default slots None c.if-i-slots.false in
    units-told c.args.trail.now slots c.requires.goes c.requires.stand c.args.subject c.in-Some.pool c.in-Some.is c.no_facts-else-i-slots.result.units
    (λ seen is. absurd (cc)) (λ is. c.no_facts-else-i-slots.ensures.units)
