use Rattle.std.proofs.Common.{◌≡◌, false, refl, sym, subst}
use Rattle.sched_model.specs.declared.config.SchedKind.TheVariants as kinds
use Rattle.sched_model.specs.declared.state.Records.{Records}
use Rattle.sched_model.specs.declared.state.Records.TheVariants.{Credit2Pool, RtdsPool, ArincPool, NullPool}
use Rattle.sched_model.specs.Policy.{records_kind}
use Rattle.sched_ops.specs.Seen.{Seen}
use Rattle.settle_laws.specs.Wanted.{reads_moment}
use Rattle.rtds_core.proofs.rtds.RtdsPolicy.asks_moment.Goals as goal

never_read : (records : Records) → records_kind records ≡ kinds.Rtds → reads_moment records ≡ false
never_read (RtdsPool domains) kind = refl
never_read (Credit2Pool records) kind = absurd (cc)
never_read (ArincPool records) kind = absurd (cc)
never_read (NullPool kept) kind = absurd (cc)

pub returns : goal.returns
returns c = sym (never_read c.args.self.now.scheduler.records (subst (λ (s : Seen). records_kind s.scheduler.records ≡ kinds.Rtds) c.self.view_is c.law_kind.ensures))
