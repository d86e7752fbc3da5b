-- What is known of a test from its parts, beside what `sched_base` has.
use Rattle.std.proofs.Common.{◌≡◌, Bool, true, false, not, refl}
use Rattle.std.specs.Prelude.{◌||◌}

pub false_if : (b : Bool) → (b ≡ true → ⊥) → b ≡ false
false_if true to = absurd (to refl)
false_if false to = refl

pub or_last : (a b : Bool) → b ≡ true → (a || b) ≡ true
or_last true b is = refl
or_last false b is = is

pub not_true : (b : Bool) → not b ≡ true → b ≡ false
not_true true is = absurd (cc)
not_true false is = refl
