-- What stands at a place that was read.
use Rattle.std.proofs.Common.{◌≡◌, ◌<◌, ◌∙◌, ℕ, List, length, ap}
use Rattle.std.specs.Prelude.{Option, Some, option_map, slice_index_or}
use Rattle.sched_model.specs.Places.{change_at}
use Rattle.sched_model.proofs.PlaceLemmas.{at_place-change_at}
use Rattle.sched_laws.specs.EachPlace.{EachPlace}
use Rattle.pool_records.proofs.FitsLemmas.{at_place-item}

-- what is changed at a place has what holds at each place
pub changed-item : {X : Type 0} (P : X → Type 0) (f : X → X) (places : List (Option X)) (i : ℕ) (o : Option X) (x : X) → EachPlace P (change_at i f places) → i < length places → o ≡ slice_index_or places i o → o ≡ Some x → P (f x)
changed-item P f places i o x each inside read is = each i (f x) (at_place-change_at i f places inside ∙ ap (option_map f) (at_place-item places i o inside read ∙ is))
