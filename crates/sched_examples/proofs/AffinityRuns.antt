-- Sets of cores of units, computed.
use Rattle.std.proofs.Common.{refl}
use Rattle.sched_examples.specs.Words.{RunsAs, IsSoundFor}
use Rattle.sched_examples.specs.Affinity.{machine_pins_of_the_file, entries_pins_of_the_file, machine_pin_by_command, entries_pin_by_command, machine_pins_are_refused, entries_pins_are_refused, machine_pin_and_refusals, entries_pin_and_refusals}

pub pins_of_the_file-run : RunsAs machine_pins_of_the_file entries_pins_of_the_file
unfolding machine_pins_of_the_file entries_pins_of_the_file
pins_of_the_file-run = refl

pub pins_of_the_file-sound : IsSoundFor 14 machine_pins_of_the_file
unfolding machine_pins_of_the_file
pins_of_the_file-sound = refl

pub pin_by_command-run : RunsAs machine_pin_by_command entries_pin_by_command
unfolding machine_pin_by_command entries_pin_by_command
pin_by_command-run = refl

pub pin_by_command-sound : IsSoundFor 23 machine_pin_by_command
unfolding machine_pin_by_command
pin_by_command-sound = refl

pub pins_are_refused-run : RunsAs machine_pins_are_refused entries_pins_are_refused
unfolding machine_pins_are_refused entries_pins_are_refused
pins_are_refused-run = refl

pub pins_are_refused-sound : IsSoundFor 19 machine_pins_are_refused
unfolding machine_pins_are_refused
pins_are_refused-sound = refl

pub pin_and_refusals-run : RunsAs machine_pin_and_refusals entries_pin_and_refusals
unfolding machine_pin_and_refusals entries_pin_and_refusals
pin_and_refusals-run = refl

pub pin_and_refusals-sound : IsSoundFor 28 machine_pin_and_refusals
unfolding machine_pin_and_refusals
pin_and_refusals-sound = refl
