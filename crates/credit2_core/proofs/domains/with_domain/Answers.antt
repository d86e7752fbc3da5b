use Rattle.std.proofs.Common.{◌∙◌, ℕ, Bool, sym, ap, arith}
use Rattle.std.specs.Prelude.{◌==◌, ◌&&◌}
use Rattle.std.proofs.lemmas.Bool.{lt-ltb, le-ltb}
use Rattle.std.proofs.lemmas.Nat.Bits.{bit_at_above}
use Rattle.std.proofs.Math.Bool.{and-false, and-true}
use Rattle.credit2_core.proofs.domains.with_domain.Goals as goal

pub returns-then-d-lt64-clause-there : goal.returns-then-d-lt64-clause-there
returns-then-d-lt64-clause-there c =
    c.put_id.ensures.here ∙ sym (ap (λ (b : Bool). c.args.is_in && b) (lt-ltb c.args.d.0 64 c.if-d-lt64.true) ∙ and-true c.args.is_in)

pub returns-else-d-lt64-clause-there : goal.returns-else-d-lt64-clause-there
returns-else-d-lt64-clause-there c =
    ap (λ (k : ℕ). k == 1) (bit_at_above c.args.set 64 c.args.d.0 (omega arith) c.if-d-lt64.false)
    ∙ sym (ap (λ (b : Bool). c.args.is_in && b) (le-ltb c.args.d.0 64 c.if-d-lt64.false) ∙ and-false c.args.is_in)
