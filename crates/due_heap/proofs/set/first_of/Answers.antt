use Rattle.std.proofs.Common.{ℕ, Bool, Option, subst, sym}
use Rattle.std.specs.Prelude.{◌&&◌, not}
use Rattle.sched_base.specs.declared.Moment.{Moment}
use Rattle.due_heap.specs.Words.{IsFirstAmong, has_core_bit}
use Rattle.due_heap.proofs.Told.{all_looked_at, among_fewer, among_more, looked_before}
use Rattle.due_heap.proofs.set.first_of.Goals as goal

pub loop-id-preserved : goal.loop-id-preserved
loop-id-preserved c =
    let fewer : ℕ → Bool = λ id. has_core_bit c.args.set id && not (has_core_bit c.loop-id.rest id) in
    let more : ℕ → Bool = λ id. has_core_bit c.args.set id && not (has_core_bit c.without-rest.result id) in
    subst (λ (first : Option (Moment × ℕ)). IsFirstAmong c.args.moments.now more first) (sym c.first_with-first.ensures)
    (among_more c.args.moments.now fewer more c.in-Some.id (looked_before c.args.set c.in-Some.id c.loop-id.rest c.without-rest.result c.without-rest.ensures.change) c.loop-id.first c.due_of.result
    (sym c.due_of.ensures) c.loop-id.invariant)

pub returns : goal.returns
returns c =
    among_fewer c.args.moments.now (λ (id : ℕ). has_core_bit c.args.set id && not (has_core_bit c.loop-id.rest id)) (has_core_bit c.args.set) c.loop-id.first
    (λ id at armed has. all_looked_at c.args.set c.loop-id.rest c.in_default.ensures.none id has) c.loop-id.invariant
