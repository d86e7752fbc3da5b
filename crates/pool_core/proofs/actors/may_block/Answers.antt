use Rattle.std.proofs.Common.{◌≡◌, ◌∙◌, true, ℕ, Bool, sym, ap}
use Rattle.std.specs.Prelude.{false, Some, None}
use Rattle.sched_model.specs.declared.state.Pool.{Pool}
use Rattle.sched_model.specs.Pool.{running_guest}
use Rattle.sched_model.specs.State.{is_not_stalled}
use Rattle.sched_base.specs.Numbers.{has_moment_come}
use Rattle.core_state.specs.Seen.{processor_among}
use Rattle.pool_core.specs.Seen.{guest_among, pool_of}
use Rattle.pool_core.proofs.ByActor.{and_stop, and_then, done_is, done_test}
use Rattle.pool_core.proofs.actors.may_block.Goals as goal

pub returns-in-None : goal.returns-in-None
returns-in-None c s =
    let pool : Pool = pool_of c.args.guests.now c.args.cores.now s in
    let guest : running_guest c.args.guests.now.granularity pool c.args.p.0 ≡ None = ap (λ (k : ℕ). guest_among k c.args.cores.now.resources c.args.p.0) (sym c.requires.same) ∙ sym c.in-None.ensures in
    and_stop (done_test c.args.t.0 pool (running_guest c.args.guests.now.granularity pool c.args.p.0)) _ (ap (done_test c.args.t.0 pool) guest)

pub returns-then-has_come : goal.returns-then-has_come
returns-then-has_come c s =
    let pool : Pool = pool_of c.args.guests.now c.args.cores.now s in
    let guest : running_guest c.args.guests.now.granularity pool c.args.p.0 ≡ Some c.in-Some.v = ap (λ (k : ℕ). guest_among k c.args.cores.now.resources c.args.p.0) (sym c.requires.same) ∙ sym c.in-Some.ensures in
    let done : done_test c.args.t.0 pool (Some c.in-Some.v) ≡ true = sym (done_is c.args.t.0 pool.domains c.in-Some.v) ∙ ap (has_moment_come c.args.t.0) (sym c.done_at.ensures) ∙ sym c.has_come.ensures ∙ c.if-has_come.true in
    and_then (done_test c.args.t.0 pool (running_guest c.args.guests.now.granularity pool c.args.p.0)) _ c.is_up_at.result (ap (done_test c.args.t.0 pool) guest ∙ done)
    (c.is_up_at.ensures ∙ ap (λ (k : ℕ). elim (processor_among k c.args.cores.now.resources c.args.p.0) as (λ _. Bool) [ None ↦ false | Some q ↦ is_not_stalled c.args.t.0 q ]) c.requires.same)

pub returns-else-has_come : goal.returns-else-has_come
returns-else-has_come c s =
    let pool : Pool = pool_of c.args.guests.now c.args.cores.now s in
    let guest : running_guest c.args.guests.now.granularity pool c.args.p.0 ≡ Some c.in-Some.v = ap (λ (k : ℕ). guest_among k c.args.cores.now.resources c.args.p.0) (sym c.requires.same) ∙ sym c.in-Some.ensures in
    let late : done_test c.args.t.0 pool (Some c.in-Some.v) ≡ false = sym (done_is c.args.t.0 pool.domains c.in-Some.v) ∙ ap (has_moment_come c.args.t.0) (sym c.done_at.ensures) ∙ sym c.has_come.ensures ∙ c.if-has_come.false in
    c.if-has_come.false ∙ and_stop (done_test c.args.t.0 pool (running_guest c.args.guests.now.granularity pool c.args.p.0)) _ (ap (done_test c.args.t.0 pool) guest ∙ late)
