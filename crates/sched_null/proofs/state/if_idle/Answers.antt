use Rattle.std.proofs.Common.{◌≡◌, ℕ, true, false, sym, ◌∙◌, ap}
use Rattle.std.specs.Prelude.{◌==◌}
use Rattle.std.proofs.lemmas.Nat.{one_shl}
use Rattle.sched_base.proofs.Bools.{and_false, and_true}
use Rattle.sched_model.specs.Places.{at_place}
use Rattle.sched_model.specs.State.{has_core_bit}
use Rattle.sched_null.specs.Coming.{is_idle}
use Rattle.sched_null.proofs.Coming.{at_one, no_core, one_core}
use Rattle.sched_null.proofs.state.if_idle.Goals as goal

pub returns-then-idles : goal.returns-then-idles
returns-then-idles c r =
    let core : ℕ = c.args.core.0 in
    let idle : is_idle (at_place c.args.cores.now core) ≡ true = sym c.idles.ensures ∙ c.if-idles.true in
    ap (λ (set : ℕ). has_core_bit set r) (one_shl core 64 c.requires)
    ∙ one_core core r
    ∙ sym (and_true (r == core))
    ∙ at_one core r (λ k. is_idle (at_place c.args.cores.now k)) true idle

pub returns-else-idles : goal.returns-else-idles
returns-else-idles c r =
    let core : ℕ = c.args.core.0 in
    let busy : is_idle (at_place c.args.cores.now core) ≡ false = sym c.idles.ensures ∙ c.if-idles.false in
    no_core r
    ∙ sym (and_false (r == core))
    ∙ at_one core r (λ k. is_idle (at_place c.args.cores.now k)) false busy
