use Rattle.std.proofs.Common.{◌≡◌, ◌∙◌, ◌+◌, List, ap, subst, sym, true, arith, length}
use Rattle.std.specs.Prelude.{map}
use Rattle.sched_base.specs.declared.Cores.{Cores}
use Rattle.sched_model.specs.Actions.{configured_units}
use Rattle.sched_model.specs.Opening.{pool_with_pins, vcpu_at_opening}
use Rattle.sched_ops.specs.Conditions.{has_joined_domain}
use Rattle.sched_ops.specs.Seen.{units_of}
use Rattle.pool_core.specs.Seen.{Seen}
use Rattle.machine_opening.specs.OpeningPool.{IsOpening, IsStill, with_pool}
use Rattle.machine_opening.proofs.Joining.{given, goes_on, joined_came, part_fits, pins_fit, still_joined_in, units_came}
use Rattle.machine_opening.proofs.Parameters.{domain_fits}
use Rattle.machine_opening.proofs.domains.join.Goals as goal

pub give_domain-requires-clause-part : goal.give_domain-requires-clause-part
give_domain-requires-clause-part g c =
    part_fits c.args.config.now c.args.d.0 c.args.joining.now c.in_ok-fresh_vcpus.field-0 (c.in_ok-fresh_vcpus.ensures ∙ ap (map vcpu_at_opening) c.as_slice.ensures) c.requires.place c.requires.checked c.requires.domain

pub give_domain-requires-clause-params : goal.give_domain-requires-clause-params
give_domain-requires-clause-params g c = rw c.requires.opening.kind (domain_fits c.args.config.now c.args.home.now c.args.joining.now c.requires.home c.requires.domain)

pub pin_all-requires-clause-still : goal.pin_all-requires-clause-still
pin_all-requires-clause-still g c =
    let came = c.give_domain.ensures ∙ given c.args.config.now c.args.home.now c.args.d.0 c.args.joining.now c.args.pool.now c.in_ok-fresh_vcpus.field-0 c.requires.opening (c.in_ok-fresh_vcpus.ensures ∙ ap (map vcpu_at_opening) c.as_slice.ensures) in
    subst IsStill (sym came) (still_joined_in c.args.config.now c.args.home.now c.args.d.0 c.args.joining.now c.args.pool.now c.requires.opening)

pub pin_all-requires-clause-joined : goal.pin_all-requires-clause-joined
pin_all-requires-clause-joined g c =
    let came = c.give_domain.ensures ∙ given c.args.config.now c.args.home.now c.args.d.0 c.args.joining.now c.args.pool.now c.in_ok-fresh_vcpus.field-0 c.requires.opening (c.in_ok-fresh_vcpus.ensures ∙ ap (map vcpu_at_opening) c.as_slice.ensures) in
    subst (λ (s : Seen). has_joined_domain s.pool.scheduler c.args.d.0 ≡ true) (sym came) (joined_came c.args.config.now c.args.home.now c.args.d.0 c.args.joining.now c.args.pool.now c.requires.opening c.requires.place)

pub pin_all-requires-clause-units : goal.pin_all-requires-clause-units
pin_all-requires-clause-units g c =
    let came = c.give_domain.ensures ∙ given c.args.config.now c.args.home.now c.args.d.0 c.args.joining.now c.args.pool.now c.in_ok-fresh_vcpus.field-0 c.requires.opening (c.in_ok-fresh_vcpus.ensures ∙ ap (map vcpu_at_opening) c.as_slice.ensures) in
    let fit = pins_fit c.args.config.now c.args.joining.now c.requires.domain in
    let units : units_of c.give_domain.new.self.pool.scheduler c.args.d.0 ≡ configured_units c.args.config.now.granularity c.args.joining.now = subst (λ (s : Seen). units_of s.pool.scheduler c.args.d.0 ≡ configured_units c.args.config.now.granularity c.args.joining.now) (sym came) (units_came c.args.config.now c.args.home.now c.args.d.0 c.args.joining.now c.args.pool.now c.requires.opening c.requires.place) in
    let same = ap (λ (pins : List Cores). length pins) c.as_slice-2.ensures.items in
    omega (arith, fit, units, same)

pub returns-clause-after : goal.returns-clause-after
returns-clause-after g c =
    c.pin_all.ensures ∙ ap (λ (pins : List Cores). with_pool (pool_with_pins c.args.d.0 0 pins c.give_domain.new.self.pool) c.give_domain.new.self) c.as_slice-2.ensures.items
    ∙ ap (λ (s : Seen). with_pool (pool_with_pins c.args.d.0 0 c.args.joining.now.pins s.pool) s) (c.give_domain.ensures ∙ given c.args.config.now c.args.home.now c.args.d.0 c.args.joining.now c.args.pool.now c.in_ok-fresh_vcpus.field-0 c.requires.opening (c.in_ok-fresh_vcpus.ensures ∙ ap (map vcpu_at_opening) c.as_slice.ensures))

pub returns-clause-opening : goal.returns-clause-opening
returns-clause-opening g c =
    subst (IsOpening c.args.config.now c.args.home.now (c.args.d.0 + 1)) (sym (returns-clause-after g c)) (goes_on c.args.config.now c.args.home.now c.args.d.0 c.args.joining.now c.args.pool.now c.requires.opening c.requires.place c.requires.room)
