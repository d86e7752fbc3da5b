use Rattle.std.proofs.Common.{◌∙◌, ap, sym}
use Rattle.std.specs.Prelude.{◌==◌}
use Rattle.std.proofs.lemmas.Nat.Bits.{bit_at-zero}
use Rattle.credit2_core.proofs.Coming.{IsLater, none_comes}
use Rattle.credit2_core.proofs.wanted.wanted_for.Goals as goal

pub returns-then-not-is_there : goal.returns-then-not-is_there
returns-then-not-is_there c r =
    let later : IsLater c.args.state.now c.args.ready.now c.args.u = record {
      sound = c.requires.sound;
      kept = c.requires.ready;
      ordered = record { order = c.law_order.ensures.order; ranks = c.law_order.ensures.ranks; units = c.law_order.ensures.units };
      free = c.if-state.true;
      other = sym c.is_there.ensures ∙ c.if-not-is_there.true;
    } in
    ap (λ k. k == 1) (bit_at-zero r) ∙ sym (none_comes c.args.state.now c.args.ready.now c.args.u later c.args.cores.now c.args.t.0 c.args.home.0 r c.requires.few (c.requires.before r))
