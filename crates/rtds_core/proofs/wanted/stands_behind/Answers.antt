use Rattle.std.proofs.Common.{sym, ◌∙◌, ap}
use Rattle.sched_base.specs.CoreSets.{is_core_allowed}
use Rattle.sched_base.specs.declared.Cores.{Cores}
use Rattle.rtds_core.proofs.wanted.stands_behind.Goals as goal

pub returns-else-is_same : goal.returns-else-is_same
returns-else-is_same c is =
    record {
      first = c.in-Some.first;
      unit = sym c.first.ensures ∙ c.in-Some.is;
      other = sym c.is_same.ensures ∙ c.if-is_same.false;
      open_to = λ r low. ap (λ (set : Cores). is_core_allowed set.0 r c.args.home.0) (sym c.get.ensures) ∙ c.is_open_to_all.ensures is r low;
    }
