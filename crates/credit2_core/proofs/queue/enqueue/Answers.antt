use Rattle.std.proofs.Common.{◌≡◌, ◌∙◌, ◌++◌, ◌∷◌, [], Bool, sym, ap, subst, rules, arith, FitsSigned, neg_ℤ}
use Rattle.std.specs.Int.{w128}
use Rattle.std.specs.Prelude.{ℤ, List, Option, None, filter}
use Rattle.std.proofs.lemmas.Int.{to_z-of_z}
use Rattle.sched_base.specs.declared.UnitId.{UnitId}
use Rattle.sched_model.specs.declared.state.Credit2Records.{Credit2Records}
use Rattle.sched_model.specs.Credit2.{unit_credit, has_domain_budget, richest_unit}
use Rattle.sched_ops.specs.Seen.{Seen}
use Rattle.scheduler_records.specs.Parts.{credit2_scheduler}
use Rattle.runq.specs.Queue.{Queue, after_insert, single_key}
use Rattle.arrival_queue.specs.Queues.{Queued}
use Rattle.queue_laws.specs.Arrivals.{arrivals}
use Rattle.credit2_core.specs.Choice.{first_with_unit}
use Rattle.credit2_core.specs.declared.state.Credit2State.{Credit2State}
use Rattle.credit2_core.specs.Credit2State.{IsSound}
use Rattle.credit2_core.proofs.Keeping.{sound_pushed}
use Rattle.credit2_core.proofs.Members.{joined_place, joined_small}
use Rattle.credit2_core.proofs.Kept.{greatest_more}
use Rattle.credit2_core.proofs.Waiting.{IsOrdered, first_greatest, has_arrived, placed_arrivals}
use Rattle.credit2_core.proofs.queue.enqueue.Goals as goal

inserted_is : (c : goal.After-ready-1) → c.insert.new.self ≡ after_insert c.args.state.now.queue c.args.u (neg_ℤ (unit_credit c.args.state.now.records c.args.u))
inserted_is c =
    let fits : FitsSigned w128 c.key_of-key.result = search rules in
    c.insert.ensures ∙ ap (λ (k : ℤ). after_insert c.args.state.now.queue c.args.u k) (to_z-of_z w128 c.key_of-key.result fits ∙ c.key_of-key.ensures)

pub insert-requires-clause-place : goal.insert-requires-clause-place
insert-requires-clause-place c =
    joined_place c.args.state.now.latest c.args.state.now.records c.args.state.now.affinity c.args.u c.requires.sound.range c.requires.sound.counts c.requires.away.member

pub insert-requires-clause-absent : goal.insert-requires-clause-absent
insert-requires-clause-absent c =
    let small = joined_small c.args.state.now.latest c.args.state.now.records c.args.state.now.affinity c.args.u c.requires.sound.range c.requires.sound.counts c.requires.away.member in
    has_arrived c.args.u c.args.state.now.queue.units (omega (arith, small)) c.requires.sound.line.indices ∙ c.requires.away.waits_not

pub insert-requires-clause-room : goal.insert-requires-clause-room
insert-requires-clause-room c =
    (sound_pushed c.args.state.now c.args.u c.requires.sound c.requires.away (record { order = c.law_order.ensures.order; ranks = c.law_order.ensures.ranks; units = c.law_order.ensures.units })).1

ordered : (c : goal.After-ready-1) → IsOrdered c.args.state.now.queue.units
ordered c = record { order = c.law_order.ensures.order; ranks = c.law_order.ensures.ranks; units = c.law_order.ensures.units }

-- the unit arrived behind all others
order_is : (c : goal.After-ready-1) → arrivals c.insert.new.self.units ≡ arrivals c.args.state.now.queue.units ++ c.args.u ∷ []
order_is c = ap (λ (q : Queue). arrivals q.units) (inserted_is c) ∙ placed_arrivals c.args.u (single_key (neg_ℤ (unit_credit c.args.state.now.records c.args.u))) c.args.state.now.queue.units (ordered c)

sound_is : (c : goal.After-ready-1) → IsSound (record c.args.state.now { queue = c.insert.new.self })
sound_is c =
    subst (λ (q : Queue). IsSound (record c.args.state.now { queue = q })) (sym (inserted_is c)) (sound_pushed c.args.state.now c.args.u c.requires.sound c.requires.away (ordered c)).0

pub returns-clause-seen : goal.returns-clause-seen
returns-clause-seen c =
    let h : Credit2State = c.args.state.now in
    ap (λ (units : List UnitId). let seen : Seen = record { scheduler = credit2_scheduler units h.affinity h.records; spare = h.spare; latest = h.latest } in seen) (order_is c)

pub returns-clause-sound : goal.returns-clause-sound
returns-clause-sound c = sound_is c

pub returns-clause-ready : goal.returns-clause-ready
returns-clause-ready c =
    let h : Credit2State = c.args.state.now in
    let records : Credit2Records = h.records in
    let p : UnitId → Bool = has_domain_budget records in
    let es : List Queued = h.queue.units in
    let ds : List Queued = c.insert.new.self.units in
    let after : IsOrdered ds = record { order = c.law_order-2.ensures.order; ranks = c.law_order-2.ensures.ranks; units = c.law_order-2.ensures.units } in
    let before : c.args.ready.now.first ≡ richest_unit records None (filter p (arrivals es)) = c.requires.ready.first ∙ first_greatest records p es (ordered c) c.requires.sound.line.keys in
    record {
      domains = c.requires.ready.domains;
      first = c.first_with-ready.ensures
          ∙ ap (λ (b : Bool). first_with_unit records b c.args.ready.now.first c.args.u) (c.requires.ready.domains.each c.args.u.dom.0)
          ∙ ap (λ (o : Option UnitId). first_with_unit records (p c.args.u) o c.args.u) before
          ∙ sym (greatest_more records p c.args.u None (arrivals es))
          ∙ ap (λ (units : List UnitId). richest_unit records None (filter p units)) (sym (order_is c))
          ∙ sym (first_greatest records p ds after (sound_is c).line.keys);
      most = c.requires.ready.most;
    }
