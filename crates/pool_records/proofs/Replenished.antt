-- A unit whose replenishment is due has a record afterwards too.
use Rattle.std.proofs.Common.{◌≡◌, ℕ, refl}
use Rattle.std.specs.Prelude.{Bool, Some, None, true, false, nat_le}
use Rattle.sched_base.specs.declared.UnitId.{UnitId}
use Rattle.sched_model.specs.declared.state.Records.{Records}
use Rattle.sched_model.specs.declared.state.Records.TheVariants.{Credit2Pool, RtdsPool, ArincPool, NullPool}
use Rattle.sched_model.specs.EligibleUnits.{rtds_unit_at}
use Rattle.sched_model.specs.Rtds as rtds
use Rattle.sched_model.specs.Policy.{is_replenish_due, records_after_replenish, unit_rtds_record}
use Rattle.sched_laws.proofs.RtdsUnits.{rtds_unit-same}

-- a unit whose deadline has come has a record after its replenishment
pub replenished-there : (records : Records) (t : ℕ) (u : UnitId) → is_replenish_due records t u ≡ true → unit_rtds_record (records_after_replenish records t u) u ≡ None → ⊥
replenished-there (Credit2Pool records) t u due none = absurd cc
replenished-there (RtdsPool domains) t u due none =
    elim (rtds_unit_at domains u) as (λ o. rtds_unit_at domains u ≡ o → (elim o as (λ _. Bool) [ None ↦ false | Some x ↦ nat_le x.deadline t ]) ≡ true → ⊥) [
      | None ↦ λ is late. absurd cc
      | Some x ↦ λ is late. let there = rtds_unit-same u (rtds.unit_after_replenish t) domains x is in absurd cc
    ] refl due
replenished-there (ArincPool records) t u due none = absurd cc
replenished-there (NullPool kept) t u due none = absurd cc
