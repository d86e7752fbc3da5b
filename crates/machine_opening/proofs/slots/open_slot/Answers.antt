use Rattle.std.proofs.Common.{◌≤◌, length, sym, subst, arith}
use Rattle.std.specs.Prelude.{Option}
use Rattle.std.proofs.lemmas.Bool.Decides.{nat_tests}
use Rattle.pool_core.specs.Seen.{Seen}
use Rattle.machine_parts.specs.Told.{told_new}
use Rattle.machine_parts.specs.Places.{StandsAt}
use Rattle.machine_opening.proofs.Placing.{none_stands, some_stands}
use Rattle.machine_opening.proofs.slots.open_slot.Goals as goal

pub returns-in-None : goal.returns-in-None
returns-in-None c =
    let test = c.in-None.ensures.lookup.0 in
    let place = c.from.ensures in
    let list = c.as_slice.ensures in
    let past : length c.args.config.now.pools ≤ c.args.place = grind (arith, nat_tests) in
    λ work. subst (λ (slot : Option Seen). StandsAt (told_new c.args.config.now work) c.args.place slot) (sym c.default.ensures) (none_stands c.args.config.now work c.args.place c.requires.place past)

pub returns-in_ok-open_pool-in-Some : goal.returns-in_ok-open_pool-in-Some
returns-in_ok-open_pool-in-Some c =
    λ work.
    subst (λ (slot : Option Seen). StandsAt (told_new c.args.config.now work) c.args.place slot) (sym c.of.ensures)
    (some_stands c.args.config.now work c.args.place c.in_ok-open_pool-in-Some.field-0.value c.requires.place c.in_ok-open_pool-in-Some.ensures)
