-- Keys compare as an order.
use Rattle.std.proofs.Common.{◌≡◌, ℕ, Bool, true, false, arith}
use Rattle.std.specs.Prelude.{◌||◌, ◌&&◌, nat_lt, int_lt, not, ℤ}
use Rattle.std.proofs.lemmas.Bool.Decides.{nat_tests}
use Rattle.std.proofs.lemmas.Int.{ints}
use Rattle.arrival_queue.specs.declared.key.Key.{Key}
use Rattle.arrival_queue.specs.Queues.{is_lesser_key}

abbrev less : ℤ → ℕ → ℤ → ℕ → Bool
less x m y n = int_lt x y || not (int_lt y x) && nat_lt m n

asym : (x y : ℤ) (m n : ℕ) → less x m y n ≡ true → less y n x m ≡ false
asym x y m n e = grind (arith, ints, nat_tests, e)

trans : (x y z : ℤ) (m n k : ℕ) → less x m y n ≡ true → less y n z k ≡ true → less x m z k ≡ true
trans x y z m n k e f = grind (arith, ints, nat_tests, e, f)

back : (x y z : ℤ) (m n k : ℕ) → less x m y n ≡ false → less y n z k ≡ false → less x m z k ≡ false
back x y z m n k e f = grind (arith, ints, nat_tests, e, f)

pub less_asym : (a b : Key) → is_lesser_key a b ≡ true → is_lesser_key b a ≡ false
less_asym a b e = asym a.first b.first a.second b.second e

pub less_trans : (a b c : Key) → is_lesser_key a b ≡ true → is_lesser_key b c ≡ true → is_lesser_key a c ≡ true
less_trans a b c e f = trans a.first b.first c.first a.second b.second c.second e f

pub less_back : (a b c : Key) → is_lesser_key a b ≡ false → is_lesser_key b c ≡ false → is_lesser_key a c ≡ false
less_back a b c e f = back a.first b.first c.first a.second b.second c.second e f
