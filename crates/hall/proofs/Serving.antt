-- What a hold of a whole pool does, act by act: from the seat before it took the pool's lock, to the seat that gave the lock back.
use Rattle.std.proofs.Common.{◌≡◌, ◌∙◌, ◌≤◌, ℕ, List, [], ◌∷◌, length, refl, sym, subst, arith}
use Rattle.std.specs.Prelude.{Err, IfErr, IfOk, None, Ok, Option, Result}
use Rattle.sched_model.specs.declared.action.Actor.{Actor}
use Rattle.sched_model.specs.declared.event.Entry.{Entry}
use Rattle.journal_core.specs.Histories.{state_at}
use Rattle.lock_moves.specs.SeatSight.{Sitting}
use Rattle.hall.specs.declared.seat.Arrival.{Arrival}
use Rattle.hall.specs.declared.turns.Acted.{Acted}
use Rattle.hall.specs.declared.turns.Full.{Full}
use Rattle.hall.specs.Holds.{IsAsBefore, seated}
use Rattle.hall.specs.Seats.{Seated, Stays}
use Rattle.hall.specs.Serving.{AreTogether, FindsNoPool, HasServed, HasServedFull, HasServedOnce, Serves}
use Rattle.hall.proofs.Calls.{kept-stays}
use Rattle.hall.proofs.Holds.{as-before-on, full-held, nothing-held, once-longer, sight-same, stays-on}
use Rattle.hall.proofs.Locking.{keeps_same}

-- the seat took the lock before its acts
serves-from : (actor : Actor) (places : List ℕ) (first old new : Seated) → IsAsBefore first old → Serves actor places old new → Serves actor places first new
serves-from actor [] first old new same serves = as-before-on first old new same serves
serves-from actor (place ∷ places) first old new same serves = (serves.0, serves-from actor places first old serves.0 same serves.1, serves.2)

pub serves-stay : (actor : Actor) (places : List ℕ) (old new : Seated) → Serves actor places old new → Stays old new
serves-stay actor [] old new serves = kept-stays old.sitting new.sitting serves.sight
serves-stay actor (place ∷ places) old new serves = stays-on old.sitting serves.0.sitting new.sitting (serves-stay actor places old serves.0 serves.1) serves.2.1.once.stays

-- as many acts as the history has entries, so as many before a further one as its place allows
serves-few : (actor : Actor) (places : List ℕ) (old new : Seated) → Serves actor places old new → length places ≤ length new.sitting.view.front
serves-few actor [] old new serves = omega arith
serves-few actor (place ∷ places) old new serves =
    let few = serves-few actor places old serves.0 serves.1 in
    let more = once-longer serves.2.0 place serves.0 new serves.2.1.once in
    omega (arith, few, more.0, more.1)

pub serves-below : (actor : Actor) (places : List ℕ) (old mid new : Seated) (place : ℕ) → Serves actor places old mid → HasServedOnce actor place mid new → length places ≤ place
serves-below actor places old mid new place serves once =
    let few = serves-few actor places old mid serves in
    let more = once-longer once.0 place mid new once.1.once in
    omega (arith, few, more.0)

-- with the lock taken before and given back after
served-held : (actor : Actor) (acted : Acted) (first old mid new : Seated) → IsAsBefore first old → IsAsBefore mid new → HasServed actor acted old mid → HasServed actor acted first new
served-held actor acted first old mid new took gave all =
    let input = all.mid.sitting.view.input in
    let same = sight-same mid.sitting new.sitting gave.sight in
    record {
      places = all.places;
      mid = all.mid;
      serves = serves-from actor all.places first old all.mid took all.serves;
      stays = stays-on all.mid.sitting mid.sitting new.sitting all.stays (kept-stays mid.sitting new.sitting gave.sight);
      nothing = nothing-held all.mid.sitting all.mid.sitting mid.sitting new.sitting (keeps_same all.mid.sitting) same actor all.nothing;
      others = λ other both. nothing-held all.mid.sitting all.mid.sitting mid.sitting new.sitting (keeps_same all.mid.sitting) same other
          (all.others other (subst (λ (h : List Entry). AreTogether input.config.granularity (state_at input h) actor other) gave.sight.front both));
      arrived = gave.arrived ∙ all.arrived;
      count = all.count;
      first = all.first;
    }

served-full : (actor : Actor) (full : Full) (first old mid new : Seated) → IsAsBefore first old → IsAsBefore mid new → HasServedFull actor full old mid → HasServedFull actor full first new
served-full actor full first old mid new took gave all =
    let input = all.mid.sitting.view.input in
    record {
      places = all.places;
      mid = all.mid;
      serves = serves-from actor all.places first old all.mid took all.serves;
      stays = stays-on all.mid.sitting mid.sitting new.sitting all.stays (kept-stays mid.sitting new.sitting gave.sight);
      doer = all.doer;
      is = all.is;
      some = all.some;
      together = subst (λ (h : List Entry). AreTogether input.config.granularity (state_at input h) actor all.doer) (sym gave.sight.front) all.together;
      full_is = full-held all.mid.sitting all.mid.sitting mid.sitting new.sitting (keeps_same all.mid.sitting) (sight-same mid.sitting new.sitting gave.sight) all.doer full all.full_is;
      arrived = gave.arrived ∙ all.arrived;
    }

-- the same of an answer
module _ (actor : Actor) (first old mid new : Seated) (took : IsAsBefore first old) (gave : IsAsBefore mid new) where
  pub held-served : (r : Result Acted Full) → IfOk r (λ acted. HasServed actor acted old mid) → IfOk r (λ acted. HasServed actor acted first new)
  held-served (Ok acted) all = served-held actor acted first old mid new took gave all
  held-served (Err full) all = tt

  pub held-full : (r : Result Acted Full) → IfErr r (λ full. HasServedFull actor full old mid) → IfErr r (λ full. HasServedFull actor full first new)
  held-full (Ok acted) all = tt
  held-full (Err full) all = served-full actor full first old mid new took gave all

-- nothing may come of an actor that no pool has
pub idle-served : (actor : Actor) (acted : Acted) (old new : Sitting) (arrived : Option Arrival) → FindsNoPool actor old new → acted.count ≡ 0 → acted.first ≡ None → HasServed actor acted (seated old arrived) (seated new arrived)
idle-served actor acted old new arrived idle count first = record {
  places = [];
  mid = seated old arrived;
  serves = record { sight = keeps_same old; arrived = refl };
  stays = idle.stays;
  nothing = idle.nothing;
  others = λ other both. absurd (idle.alone other both);
  arrived = refl;
  count = count;
  first = first;
}
