use Rattle.std.proofs.Common.{◌≡◌, Bool, false, refl, sym, subst}
use Rattle.std.specs.Prelude.{Option}
use Rattle.sched_base.specs.declared.UnitId.{UnitId}
use Rattle.sched_model.specs.declared.config.SchedKind.TheVariants as kinds
use Rattle.sched_model.specs.declared.state.Records.{Records}
use Rattle.sched_model.specs.declared.state.Records.TheVariants.{Credit2Pool, RtdsPool, ArincPool, NullPool}
use Rattle.sched_model.specs.Policy.{records_kind}
use Rattle.sched_ops.specs.Seen.{Seen}
use Rattle.settle_laws.specs.Frees.{may_free}
use Rattle.rtds_core.proofs.rtds.RtdsPolicy.frees.Goals as goal

never_frees : (cur : Option UnitId) (leaving : Bool) (records : Records) → records_kind records ≡ kinds.Rtds → may_free cur leaving records ≡ false
never_frees cur leaving (RtdsPool domains) kind = refl
never_frees cur leaving (Credit2Pool records) kind = absurd (cc)
never_frees cur leaving (ArincPool records) kind = absurd (cc)
never_frees cur leaving (NullPool kept) kind = absurd (cc)

pub returns : goal.returns
returns c = sym (never_frees c.args._cur c.args._leaving c.args.self.now.scheduler.records (subst (λ (s : Seen). records_kind s.scheduler.records ≡ kinds.Rtds) c.self.view_is c.law_kind.ensures))
