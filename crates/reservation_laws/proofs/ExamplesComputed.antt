-- The worked examples of reservations, computed.
use Rattle.std.proofs.Common.{◌≡◌, [], ◌∷◌, refl, arith}
use Rattle.service_laws.specs.Demand.{FitOneProcessor}
use Rattle.term_laws.specs.RtdsExamples.{terms_of, term, unit}
use Rattle.reservation_laws.specs.Reservations.{reservations}
use Rattle.reservation_laws.specs.Sleepers.{claims}
use Rattle.reservation_laws.specs.Examples.{whole_core, overbooked, room_beside_sleeper, whole_core_with_sleeper}

pub whole_core_fits : FitOneProcessor (reservations 1 0 whole_core.config.domains)
unfolding whole_core
whole_core_fits = omega arith

pub first_of_whole_core : terms_of whole_core (unit 0) ≡ (term 0 10000000 4000000 0 4000000 0 ∷ term 10000000 20000000 4000000 0 4000000 0 ∷ term 20000000 30000000 4000000 0 0 0 ∷ [])
unfolding whole_core
first_of_whole_core = refl

pub second_of_whole_core : terms_of whole_core (unit 1) ≡ (term 0 20000000 12000000 0 12000000 0 ∷ term 20000000 40000000 12000000 0 0 0 ∷ [])
unfolding whole_core
second_of_whole_core = refl

pub first_of_overbooked : terms_of overbooked (unit 0) ≡ (term 0 10000000 4000000 0 4000000 0 ∷ term 10000000 20000000 4000000 0 3000000 0 ∷ term 20000000 30000000 4000000 0 0 0 ∷ [])
unfolding overbooked
first_of_overbooked = refl

pub sleeper_fits : FitOneProcessor (reservations 1 0 whole_core_with_sleeper.config.domains)
unfolding whole_core_with_sleeper
sleeper_fits = omega arith

pub beside_sleeper : terms_of whole_core_with_sleeper (unit 0) ≡ (term 0 6000000 3000000 0 3000000 0 ∷ term 6000000 12000000 3000000 0 2000000 0 ∷ term 12000000 18000000 3000000 0 0 0 ∷ [])
unfolding whole_core_with_sleeper
beside_sleeper = refl

pub claimed_with_sleeper : claims 1 0 whole_core_with_sleeper.config.domains 6000000 ≡ 7000000
unfolding whole_core_with_sleeper
claimed_with_sleeper = refl

pub claimed_with_room : claims 1 0 room_beside_sleeper.config.domains 6000000 ≡ 6000000
unfolding room_beside_sleeper
claimed_with_room = refl

pub with_room : terms_of room_beside_sleeper (unit 0) ≡ (term 0 6000000 2000000 0 2000000 0 ∷ term 6000000 12000000 2000000 0 2000000 0 ∷ term 12000000 18000000 2000000 0 0 0 ∷ [])
unfolding room_beside_sleeper
with_room = refl
