use Rattle.std.proofs.Common.{◌≡◌, ◌/◌, ◌%◌, ℕ, sym, ap, ◌∙◌}
use Rattle.std.specs.Prelude.{None, Some}
use Rattle.sched_model.specs.declared.state.Doing.TheVariants.{Held}
use Rattle.sched_model.specs.declared.state.Pool.{Pool}
use Rattle.sched_model.specs.Places.{change_at}
use Rattle.sched_model.specs.Pool.{with_doing, running_guest, stopped_vcpu, change_among}
use Rattle.unit_state.specs.Seen.{Seen as GuestsSeen}
use Rattle.core_state.specs.Seen.{Seen as CoresSeen, changed_processor, with_sibling, with_work}
use Rattle.pool_core.specs.Seen.{guest_among, pool_of}
use Rattle.pool_core.proofs.Acting.{arrived_alone, arrived_with}
use Rattle.pool_core.proofs.doing.arrive.Goals as goal

pub returns-in-None-clause-pool : goal.returns-in-None-clause-pool
returns-in-None-clause-pool c s =
    let pool : Pool = pool_of c.args.guests.now c.args.cores.now s in
    let guest : running_guest c.args.guests.now.granularity pool c.args.p.0 ≡ None = ap (λ (k : ℕ). guest_among k c.args.cores.now.resources c.args.p.0) (sym c.requires.same) ∙ sym c.in-None.ensures in
    ap (λ (x : CoresSeen). pool_of c.args.guests.now x s) c.hold.ensures
    ∙ ap (λ (k : ℕ). record pool { resources = change_at (c.args.p.0 / k) (with_sibling (c.args.p.0 % k) (with_doing Held)) c.args.cores.now.resources }) c.requires.same
    ∙ arrived_alone c.args.guests.now.granularity c.args.t.0 c.args.p.0 pool guest

pub returns-in-Some-clause-pool : goal.returns-in-Some-clause-pool
returns-in-Some-clause-pool c s =
    let pool : Pool = pool_of c.args.guests.now c.args.cores.now s in
    let guest : running_guest c.args.guests.now.granularity pool c.args.p.0 ≡ Some c.in-Some.v = ap (λ (k : ℕ). guest_among k c.args.cores.now.resources c.args.p.0) (sym c.requires.same) ∙ sym c.in-Some.ensures in
    ap (λ (x : CoresSeen). pool_of c.stop.new.self x s) c.hold-in-Some.ensures
    ∙ ap (λ (x : GuestsSeen). pool_of x (with_work c.args.p.0 None (changed_processor c.args.p.0 (with_doing Held) c.args.cores.now)) s) c.stop.ensures
    ∙ ap (λ (k : ℕ). record pool { domains = change_among c.in-Some.v (stopped_vcpu c.args.t.0) c.args.guests.now.domains; resources = change_at (c.args.p.0 / k) (with_sibling (c.args.p.0 % k) (with_doing Held)) c.args.cores.now.resources }) c.requires.same
    ∙ arrived_with c.args.guests.now.granularity c.args.t.0 c.args.p.0 c.in-Some.v pool guest
