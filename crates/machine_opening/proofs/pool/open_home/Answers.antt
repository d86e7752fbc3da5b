use Rattle.std.proofs.Common.{◌≡◌, ◌≤◌, ◌∙◌, ap, sym, subst, arith}
use Rattle.sched_model.specs.Policy.{records_kind}
use Rattle.pool_core.specs.Seen.{Seen}
use Rattle.machine_opening.proofs.Joining.{few_at_home}
use Rattle.machine_opening.proofs.Parameters.{pool_fits}
use Rattle.machine_opening.proofs.Restart.{begins, begun, opens, stands_at}
use Rattle.machine_opening.specs.OpeningPool.{IsOpening, units_at_home, with_all}
use Rattle.machine_opening.proofs.pool.open_home.Goals as goal
use Rattle.sched_laws.proofs.Records.{kind_default}

pub open-requires-clause-params : goal.open-requires-clause-params
open-requires-clause-params g c =
    let kind : records_kind c.in_ok-pool.pool.pool.scheduler.records ≡ c.args.home.now.kind = ap (λ (s : Seen). records_kind s.pool.scheduler.records) c.in_ok-pool.ensures ∙ kind_default _ _ _ ∙ c.requires.kind in
    rw kind (pool_fits c.args.config.now c.args.home.now c.args.place c.requires.home c.requires.config)

pub join_all-requires-clause-opening : goal.join_all-requires-clause-opening
join_all-requires-clause-opening g c =
    let fits = pool_fits c.args.config.now c.args.home.now c.args.place c.requires.home c.requires.config in
    let began : c.attach_all.new.pool ≡ begun c.args.config.now c.args.home.now =
    begins c.args.config.now c.args.home.now _ _ _ c.in_ok-pool.pool c.open.new.self c.attach_all.new.pool c.requires.kind fits c.places_of-places.ensures.domains c.places_of-places.ensures.cores c.in_ok-pool.ensures c.open.ensures c.attach_all.ensures in
    subst (IsOpening c.args.config.now c.args.home.now 0) (sym began) (opens c.args.config.now c.args.home.now fits)

pub join_all-requires-clause-room : goal.join_all-requires-clause-room
join_all-requires-clause-room g c =
    let fits = pool_fits c.args.config.now c.args.home.now c.args.place c.requires.home c.requires.config in
    let few = few_at_home c.args.config.now.granularity c.args.place 0 c.args.config.now.domains in
    let all = c.requires.config.few_units in
    let began : c.attach_all.new.pool ≡ begun c.args.config.now c.args.home.now =
    begins c.args.config.now c.args.home.now _ _ _ c.in_ok-pool.pool c.open.new.self c.attach_all.new.pool c.requires.kind fits c.places_of-places.ensures.domains c.places_of-places.ensures.cores c.in_ok-pool.ensures c.open.ensures c.attach_all.ensures in
    subst (λ (s : Seen). units_at_home c.args.config.now.granularity c.args.place c.args.config.now.domains ≤ s.spare) (sym began) (omega (arith, few, all))

pub returns-in-Ok-clause-seen : goal.returns-in-Ok-clause-seen
returns-in-Ok-clause-seen g c =
    let fits = pool_fits c.args.config.now c.args.home.now c.args.place c.requires.home c.requires.config in
    let all : Seen → Seen = λ s. with_all c.args.config.now.granularity c.args.place 0 c.args.config.now.domains s in
    let began : c.attach_all.new.pool ≡ begun c.args.config.now c.args.home.now =
    begins c.args.config.now c.args.home.now _ _ _ c.in_ok-pool.pool c.open.new.self c.attach_all.new.pool c.requires.kind fits c.places_of-places.ensures.domains c.places_of-places.ensures.cores c.in_ok-pool.ensures c.open.ensures c.attach_all.ensures in
    ◌∙◌ {b = all c.attach_all.new.pool} c.in-Ok.ensures.after (ap all began)

pub returns-in-Ok-clause-room : goal.returns-in-Ok-clause-room
returns-in-Ok-clause-room g c = c.in-Ok.ensures.opening.room

pub returns-in-Ok-clause-pool : goal.returns-in-Ok-clause-pool
returns-in-Ok-clause-pool g c = λ work. stands_at c.args.config.now c.args.place c.args.home.now work c.join_all.new.pool c.requires.home (returns-in-Ok-clause-seen g c)
