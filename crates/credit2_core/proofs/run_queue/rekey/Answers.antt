use Rattle.std.proofs.Common.{◌≡◌, ◌∙◌, true, sym, ap, subst, refl, rules, arith, length, ◌+◌, FitsSigned, neg_ℤ}
use Rattle.std.specs.Int.{w128}
use Rattle.std.proofs.lemmas.Int.{to_z-of_z}
use Rattle.std.specs.Prelude.{ℤ, List}
use Rattle.sched_model.specs.Credit2.{unit_credit}
use Rattle.runq.specs.Queue.{Queue, after_rekey}
use Rattle.arrival_queue.specs.Queues.{Queued, has_unit, rank_in}
use Rattle.credit2_core.specs.Keys.{KeysWhere, is_passed, key_in}
use Rattle.credit2_core.specs.Credit2State.{IsSameLine}
use Rattle.credit2_core.proofs.Waiting.{moved_arrivals}
use Rattle.credit2_core.proofs.Rekeying.{keys_moved, keys_absent}
use Rattle.credit2_core.proofs.run_queue.rekey.Goals as goal
use Rattle.queue_laws.proofs.Arrivals.{length-arrivals}

rekeyed_is : (c : goal.After-rekey) → c.rekey.new.self ≡ after_rekey c.args.queue.now c.args.u (neg_ℤ (unit_credit c.args.records.now c.args.u))
rekeyed_is c =
    let fits : FitsSigned w128 c.key_of.result = search rules in
    c.rekey.ensures ∙ ap (λ (k : ℤ). after_rekey c.args.queue.now c.args.u k) (to_z-of_z w128 c.key_of.result fits ∙ c.key_of.ensures)

pub returns-then-has-clause-keys : goal.returns-then-has-clause-keys
returns-then-has-clause-keys c =
    let es : List Queued = c.args.queue.now.units in
    subst (λ (q : Queue). KeysWhere (is_passed c.args.u.dom.0 (c.args.u.n + 1)) c.args.records.now q.units) (sym (rekeyed_is c)) (keys_moved c.args.records.now c.args.u (rank_in c.args.u es) es c.requires.keys)

pub returns-then-has-clause-same : goal.returns-then-has-clause-same
returns-then-has-clause-same c =
    let es : List Queued = c.args.queue.now.units in
    let there : has_unit c.args.u es ≡ true = sym c.has.ensures ∙ c.if-has.true in
    let order = moved_arrivals c.args.u (key_in c.args.records.now c.args.u) es (record { order = c.law_order.ensures.order; ranks = c.law_order.ensures.ranks; units = c.law_order.ensures.units }) (omega arith) c.requires.indices there in
    subst (λ (q : Queue). IsSameLine c.args.queue.now q) (sym (rekeyed_is c)) (record { order = order; count = sym (length-arrivals _) ∙ ap length order ∙ length-arrivals es; spare = refl })

pub returns-else-has-clause-keys : goal.returns-else-has-clause-keys
returns-else-has-clause-keys c = keys_absent c.args.records.now c.args.u c.args.queue.now.units (sym c.has.ensures ∙ c.if-has.false) c.requires.keys
