-- The worked examples of stretches and moments, computed.
use Rattle.std.proofs.Common.{◌≡◌, ◌*◌, [], ◌∷◌, refl}
use Rattle.moment_laws.specs.Stretches.{most_in_stretch}
use Rattle.moment_laws.specs.Moments.{most_in_moment, most_in_moments}
use Rattle.moment_laws.specs.Examples.{stretches_of, sums_at, sums, sums_of, run_sums, two_windows, cap_set, budgets}

pub windows_stretches : stretches_of two_windows ≡ (3 ∷ 1 ∷ 2 ∷ 1 ∷ 2 ∷ 3 ∷ 1 ∷ 2 ∷ 1 ∷ 2 ∷ 3 ∷ [])
unfolding two_windows
windows_stretches = refl

pub windows_sums : sums_at two_windows 4000000 ≡ sums 6 1 0
unfolding two_windows
windows_sums = refl

pub windows_most : most_in_stretch two_windows ≡ 36
unfolding two_windows
windows_most = refl

pub windows_moment : most_in_moment two_windows 1 ≡ 240
unfolding two_windows
windows_moment = refl

pub windows_run : sums_of two_windows ≡ run_sums 38 6 7
unfolding two_windows
windows_run = refl

pub windows_limit : 7 * most_in_moment two_windows 1 ≡ 1680
unfolding two_windows
windows_limit = refl

pub windows_by_causes : most_in_moments two_windows 6 7 ≡ 1600
unfolding two_windows
windows_by_causes = refl

pub caps_stretches : stretches_of cap_set ≡ (10 ∷ 4 ∷ 5 ∷ 4 ∷ 11 ∷ [])
unfolding cap_set
caps_stretches = refl

pub caps_line : sums_at cap_set 1000000 ≡ sums 16 4 1
unfolding cap_set
caps_line = refl

pub caps_last : sums_at cap_set 3000000 ≡ sums 19 2 0
unfolding cap_set
caps_last = refl

pub budgets_stretches : stretches_of budgets ≡ (6 ∷ 1 ∷ 2 ∷ 1 ∷ 2 ∷ 2 ∷ 4 ∷ 3 ∷ [])
unfolding budgets
budgets_stretches = refl

pub budgets_busy : sums_at budgets 4000000 ≡ sums 12 3 0
unfolding budgets
budgets_busy = refl
