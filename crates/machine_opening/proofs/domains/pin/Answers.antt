use Rattle.std.proofs.Common.{◌≡◌, ◌∙◌, subst, sym, true}
use Rattle.sched_ops.specs.Conditions.{has_joined_domain}
use Rattle.sched_ops.specs.Seen.{units_of}
use Rattle.pool_core.specs.Seen.{Seen}
use Rattle.machine_opening.specs.OpeningPool.{IsStill}
use Rattle.machine_opening.proofs.Joining.{pinned_still}
use Rattle.machine_opening.proofs.Pinning.{still_joined, still_units}
use Rattle.machine_opening.proofs.domains.pin.Goals as goal

pub returns-clause-after : goal.returns-clause-after
returns-clause-after g c = c.set_params.ensures ∙ pinned_still c.args.d.0 c.args.index c.args.cores c.args.pool.now c.requires.still

pub returns-clause-still : goal.returns-clause-still
returns-clause-still g c = subst IsStill (sym (returns-clause-after g c)) (record { used = c.requires.still.used; early = c.requires.still.early; pending = c.requires.still.pending })

pub returns-clause-joined : goal.returns-clause-joined
returns-clause-joined g c =
    subst (λ (s : Seen). has_joined_domain s.pool.scheduler c.args.d.0 ≡ true) (sym (returns-clause-after g c)) (still_joined c.args.d.0 c.args.index c.args.cores c.args.pool.now.pool ∙ c.requires.joined)

pub returns-clause-units : goal.returns-clause-units
returns-clause-units g c =
    subst (λ (s : Seen). units_of s.pool.scheduler c.args.d.0 ≡ units_of c.args.pool.now.pool.scheduler c.args.d.0) (sym (returns-clause-after g c)) (still_units c.args.d.0 c.args.index c.args.cores c.args.pool.now.pool)
