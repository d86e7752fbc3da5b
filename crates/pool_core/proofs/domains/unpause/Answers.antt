use Rattle.std.proofs.Common.{◌<◌, ℕ, sym, subst}
use Rattle.pool_core.specs.Seen.{pool_of}
use Rattle.pool_core.proofs.Goers.{paused_may}
use Rattle.pool_core.proofs.domains.unpause.Goals as goal

pub queue_units-requires : goal.queue_units-requires
queue_units-requires g c = record {
  may = λ n below.
      let may =
      paused_may c.args.guests.now.granularity c.args.d.0 (pool_of c.args.guests.now c.args.cores.now (g.P.Policy.seen c.args.policy.now)) c.requires.one c.requires.members c.requires.on (sym c.if-is_paused.ensures) n
      (subst (λ (k : ℕ). n < k) c.unit_count-count.ensures below) in
      record { member = may.member; waits_not = may.waits_not; off = may.off };
}
