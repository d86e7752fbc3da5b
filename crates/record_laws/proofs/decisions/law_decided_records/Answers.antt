use Rattle.record_laws.proofs.Charges.{most_decided}
use Rattle.record_laws.proofs.Credit2Seen.{decided_domains, decided_limit, decided_records, records_decided}
use Rattle.record_laws.proofs.RtdsSeen.{decided_units, unit_decided, units_decided}
use Rattle.record_laws.proofs.decisions.law_decided_records.Goals as goal

pub returns-clause-credit2 : goal.returns-clause-credit2
returns-clause-credit2 c ask scheduler own chosen = record {
  next = decided_records ask own chosen;
  is = records_decided ask own scheduler chosen;
  domains = decided_domains ask own chosen;
  limit = decided_limit ask own chosen;
  most = most_decided ask own chosen;
}

pub returns-clause-rtds : goal.returns-clause-rtds
returns-clause-rtds c ask domains chosen = record { next = decided_units ask domains chosen; is = units_decided ask domains chosen; units = unit_decided ask domains chosen }
