-- What the laws of service count, computed.
use Rattle.std.proofs.Common.{◌≡◌, [], ◌∷◌, refl}
use Rattle.std.specs.Prelude.{take, length}
use Rattle.sched_examples.specs.Words.{run_of, unit}
use Rattle.service_laws.specs.Ends.{most_entries}
use Rattle.service_laws.specs.Late.{hindered_for}
use Rattle.share_laws.specs.Shares.{longest_slice, pool_units, total_weight}
use Rattle.service_examples.specs.Counted.{a_core_given, a_core_shared, given_service, lates, service, time_on_core, two_windows, window_service}

pub first_window : window_service two_windows (unit 0 0) ≡ service 12 15 0 5
unfolding two_windows
first_window = refl

pub second_window : window_service two_windows (unit 1 0) ≡ service 6 2 13 5
unfolding two_windows
second_window = refl

pub printed : lates two_windows ≡ (0 ∷ 0 ∷ 0 ∷ 0 ∷ 0 ∷ 3 ∷ 0 ∷ 0 ∷ 0 ∷ 0 ∷ 0 ∷ [])
unfolding two_windows
printed = refl

pub hindered : hindered_for two_windows 0 (take 32 (run_of two_windows)) ≡ 5
unfolding two_windows
hindered = refl

pub first_given : given_service a_core_given (unit 0 0) ≡ service 9 6 3 3
unfolding a_core_given
first_given = refl

pub second_given : given_service a_core_given (unit 1 0) ≡ service 0 0 0 3
unfolding a_core_given
second_given = refl

pub first_shared : time_on_core a_core_shared (unit 0 0) ≡ 20
unfolding a_core_shared
first_shared = refl

pub second_shared : time_on_core a_core_shared (unit 1 0) ≡ 0
unfolding a_core_shared
second_shared = refl

pub whole_weight : total_weight (pool_units a_core_shared 0) ≡ 512
unfolding a_core_shared
whole_weight = refl

pub one_slice : longest_slice 1000 ≡ 10000000
one_slice = refl

pub bound : most_entries two_windows ≡ 29761
unfolding two_windows
bound = refl

pub entries : length (run_of two_windows) ≡ 63
unfolding two_windows
entries = refl
