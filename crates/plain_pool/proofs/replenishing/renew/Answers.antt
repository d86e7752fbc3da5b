use Rattle.std.proofs.Common.{sym, ap, ◌∙◌}
use Rattle.std.specs.Option.{option_copied}
use Rattle.sched_model.specs.Policy.{unit_rtds_record}
use Rattle.pool_records.proofs.Replenished.{replenished-there}
use Rattle.plain_pool.proofs.replenishing.renew.Goals as goal

pub unreachable-requires : goal.unreachable-requires
unreachable-requires c =
    replenished-there c.args.records.now c.args.t.0 c.args.u c.requires.due
    (ap (λ r. unit_rtds_record r c.args.u) (sym c.replenish.ensures) ∙ sym c.rtds_record.ensures ∙ ap option_copied c.in-None.is)
