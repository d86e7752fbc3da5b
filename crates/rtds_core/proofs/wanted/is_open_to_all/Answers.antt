use Rattle.std.proofs.Common.{sym, ◌∙◌, ap}
use Rattle.std.specs.Prelude.{◌||◌, ◌==◌, bit_and}
use Rattle.std.proofs.lemmas.Bool.{eqb-true}
use Rattle.std.proofs.Math.Bool.{or-true}
use Rattle.sched_base.proofs.Bools.{or_more}
use Rattle.sched_base.specs.CoreSets.{has_core_bit}
use Rattle.rtds_core.proofs.Ahead.{every_core}
use Rattle.rtds_core.proofs.wanted.is_open_to_all.Goals as goal

pub returns-then-set-home-eq0 : goal.returns-then-set-home-eq0
returns-then-set-home-eq0 c is r low = sym (ap (λ n. has_core_bit c.args.set.0 r || n == 0) (sym c.if-set-home-eq0.true)) ∙ or-true (has_core_bit c.args.set.0 r)

pub returns : goal.returns
returns c is r low = or_more (has_core_bit c.args.set.0 r) (bit_and c.args.set.0 c.args.home.0 == 0) (ap (λ n. has_core_bit n r) (eqb-true _ _ is) ∙ every_core r low)
