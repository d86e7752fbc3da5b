-- What stands at a place after a change of one.
use Rattle.std.proofs.Common.{◌≡◌, ◌≢◌, ℕ, List}
use Rattle.std.specs.Prelude.{Option, Some, option_map}
use Rattle.sched_model.specs.Places.{at_place, put_at, change_at}
pub use Rattle.sched_laws.proofs.EachPlace.{at_place-change_at, at_place-set_other}
use Rattle.sched_laws.proofs.EachPlace.{at_place-put_at as put_within, place_below}

pub at_place-change_at_other : {X : Type 0} (i j : ℕ) (f : X → X) (places : List (Option X)) → i ≢ j → at_place (change_at i f places) j ≡ at_place places j
at_place-change_at_other i j f places other = at_place-set_other i j (option_map f (at_place places i)) places other

-- at a place that was not empty
pub at_place-put_at : {X : Type 0} (r : ℕ) (x y : X) (places : List (Option X)) → at_place places r ≡ Some y → at_place (put_at r x places) r ≡ Some x
at_place-put_at r x y places at = put_within r x places (place_below places r y at)
