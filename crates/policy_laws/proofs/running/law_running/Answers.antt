use Rattle.policy_laws.proofs.RunningLaw as law
use Rattle.policy_laws.proofs.running.law_running.Goals as goal

pub returns : goal.returns
returns c =
    record {
      decides = law.decides;
      decides_records = law.decides_records;
      replenishes = law.replenishes;
      refills = law.refills;
      changes = law.changes;
      joins = law.joins;
      joins_off = law.joins_off;
      parts = law.parts;
      parts_off = law.parts_off;
      recorded = law.recorded;
      decides_kind = law.decides_kind;
      replenishes_kind = law.replenishes_kind;
      refills_kind = law.refills_kind;
      changes_kind = law.changes_kind;
      joins_kind = law.joins_kind;
      parts_kind = law.parts_kind;
    }
