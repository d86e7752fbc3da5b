-- What tests say of one another.
use Rattle.std.proofs.Common.{◌≡◌, Bool, true, false, refl}
use Rattle.std.specs.Prelude.{◌||◌}

pub or_later : {b : Bool} (a : Bool) → b ≡ true → (a || b) ≡ true
or_later true e = refl
or_later false e = e
