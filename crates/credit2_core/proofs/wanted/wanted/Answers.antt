use Rattle.std.proofs.Common.{◌∙◌, ap, sym, subst, rules, w64, FitsSigned}
use Rattle.std.specs.Prelude.{◌==◌}
use Rattle.std.proofs.lemmas.Int.{to_z-of_z}
use Rattle.std.proofs.lemmas.Nat.Bits.{bit_at-zero}
use Rattle.credit2_core.proofs.Looking.{IsQuiet, none_wanted}
use Rattle.queue_laws.specs.Arrivals.{arrivals}
use Rattle.credit2_core.specs.Choice.{HasBest}
use Rattle.credit2_core.proofs.Best.{has_best}
use Rattle.credit2_core.proofs.Waiting.{IsOrdered}
use Rattle.credit2_core.proofs.wanted.wanted.Goals as goal

pub returns-in-None : goal.returns-in-None
returns-in-None c r =
    let quiet : IsQuiet c.args.state.now c.args.ready.now = record {
      sound = c.requires.sound;
      kept = c.requires.ready;
      ordered = record { order = c.law_order.ensures.order; ranks = c.law_order.ensures.ranks; units = c.law_order.ensures.units };
      none = c.in-None.is;
      free = c.if-not-state.false;
    } in
    ap (λ k. k == 1) (bit_at-zero r) ∙ sym (none_wanted c.args.state.now c.args.ready.now quiet c.args.cores.now c.args.t.0 c.args.home.0 r c.requires.few c.requires.asks)

pub wanted_by_first-requires-clause-rival : goal.wanted_by_first-requires-clause-rival
wanted_by_first-requires-clause-rival c =
    let h = c.args.state.now in
    let ordered : IsOrdered h.queue.units = record { order = c.law_order.ensures.order; ranks = c.law_order.ensures.ranks; units = c.law_order.ensures.units } in
    let fits : FitsSigned w64 c.credit_of.result = search rules in
    record {
      free = c.if-not-state.false;
      most = c.requires.ready.most;
      started = c.saturating_sub.ensures;
      best = subst (HasBest (arrivals h.queue.units) h.affinity h.records) (sym c.credit_of.ensures ∙ sym (to_z-of_z w64 c.credit_of.result fits)) (has_best h c.args.ready.now c.in-Some.first c.requires.sound c.requires.ready ordered c.if-not-state.false c.in-Some.is);
    }
