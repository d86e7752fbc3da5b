use Rattle.std.proofs.Common.{◌≡◌, ◌∙◌, true, sym, subst, length, ℕ, arith}
use Rattle.std.specs.Prelude.{List}
use Rattle.std.specs.List.{AllByRecursion}
use Rattle.sched_base.specs.declared.UnitId.{UnitId}
use Rattle.queue_laws.specs.Arrivals.{arrivals}
use Rattle.credit2_core.specs.Keys.{KeysWhere, is_passed}
use Rattle.sched_ops.specs.Affinity.{joined_unit_count, is_member_among}
use Rattle.credit2_core.proofs.Rekeying.{keys_next, keys_all}
use Rattle.credit2_core.proofs.run_queue.rekey_all.Goals as goal

pub loop-d-preserved : goal.loop-d-preserved
loop-d-preserved c =
    let same = c.loop-d.invariant.same in
    let more = c.rekey_domain.ensures.same in
    let order : arrivals c.rekey_domain.new.queue.units ≡ arrivals c.args.queue.now.units = more.order ∙ same.order in
    let joined : AllByRecursion (λ (u : UnitId). is_member_among c.args.affinity.now u ≡ true) (arrivals c.rekey_domain.new.queue.units) = subst (λ (units : List UnitId). AllByRecursion (λ (u : UnitId). is_member_among c.args.affinity.now u ≡ true) units) (sym order) c.requires.joined in
    let keys : KeysWhere (is_passed c.loop-d.d (joined_unit_count c.args.affinity.now c.loop-d.d)) c.args.records.now c.rekey_domain.new.queue.units = subst (λ (k : ℕ). KeysWhere (is_passed c.loop-d.d k) c.args.records.now c.rekey_domain.new.queue.units) c.count_at-count.ensures.exact c.rekey_domain.ensures.keys in
    record {
      keys = keys_next c.args.records.now c.args.affinity.now c.loop-d.d c.rekey_domain.new.queue.units joined keys;
      same = record { order = order; count = more.count ∙ same.count; spare = more.spare ∙ same.spare };
    }

pub returns-clause-keys : goal.returns-clause-keys
returns-clause-keys c =
    let joined : AllByRecursion (λ (u : UnitId). is_member_among c.args.affinity.now u ≡ true) (arrivals c.loop-d.queue.units) = subst (λ (units : List UnitId). AllByRecursion (λ (u : UnitId). is_member_among c.args.affinity.now u ≡ true) units) (sym c.loop-d.invariant.same.order) c.requires.joined in
    let end : c.loop-d.d ≡ length c.args.affinity.now = omega arith in
    keys_all c.args.records.now c.args.affinity.now c.loop-d.queue.units joined (subst (λ (k : ℕ). KeysWhere (is_passed k 0) c.args.records.now c.loop-d.queue.units) end c.loop-d.invariant.keys)
