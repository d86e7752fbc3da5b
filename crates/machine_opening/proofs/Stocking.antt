-- The shelves of the spare pools as these come in.
use Rattle.std.proofs.Common.{◌≡◌, ◌≤◌, ◌<◌, ◌∙◌, ℕ, zero, suc, ◌+◌, ◌-◌, List, [], length, refl, sym, ap, subst, arith}
use Rattle.std.specs.Prelude.{None, replicate}
use Rattle.std.specs.List.{All}
use Rattle.std.proofs.lemmas.List.{length-replicate, length_push}
use Rattle.std.proofs.lemmas.List.Elements.{All-nil, All-push, All-same}
use Rattle.sched_model.specs.declared.config.Config.{Config}
use Rattle.sched_model.specs.declared.config.SchedKind.{SchedKind}
use Rattle.sched_model.specs.declared.config.SchedKind.TheVariants as kinds
use Rattle.sched_model.specs.declared.machine.Machine.{Machine}
use Rattle.sched_model.specs.declared.state.Domain.{Domain}
use Rattle.sched_model.specs.declared.state.Resource.{Resource}
use Rattle.sched_model.specs.CheckedMachine.{IsChecked}
use Rattle.sched_model.specs.Opening.{machine_core_count, opening}
use Rattle.sched_model.specs.Places.{at_place}
use Rattle.sched_model.specs.Policy.{standard_pool_params, empty_records}
use Rattle.sched_laws.proofs.EachPlace.{EachPlace-empty, is_empty}
use Rattle.sched_laws.proofs.Records.{kind_default}
use Rattle.journal_core.specs.Parts.{tool_of}
use Rattle.pool_core.specs.Seen.{Seen}
use Rattle.machine_parts.specs.declared.counts.KindCounts.{KindCounts}
use Rattle.machine_parts.specs.Counts.{AreSpares, HasSpares, configured_of, most_at_once}
use Rattle.machine_parts.specs.Kinds.{count_of}
use Rattle.machine_parts.specs.Spares.{HasCorePlaces, IsIdle, IsSpare, Shelf, Shelves, shelf_of, shelf_with}
use Rattle.machine_parts.proofs.Keeping.{IsOther, shelf-filled}
use Rattle.machine_opening.specs.OpeningShelves.{CanFill, filled_shelves, filled_for, filled_up, spare_seen}
use Rattle.machine_opening.proofs.Tallying.{few_configured, in_use_new}

-- a pool that is not in use is one that a command of the machine may make
places_empty : (X : Type 0) (n k : ℕ) → at_place {X = X} (replicate n None) k ≡ None
places_empty X n k = is_empty (at_place {X = X} (replicate n None) k) (λ x at. EachPlace-empty {X = X} (λ y. ⊥) n k x at)

core_places : (kind : SchedKind) (domains cores : ℕ) → HasCorePlaces cores (empty_records (standard_pool_params kind) domains cores)
core_places kinds.Null domains cores = length-replicate cores None
core_places a domains cores = tt

pub idle_spare : (config : Config) (kind : SchedKind) → IsIdle kind (spare_seen config kind)
idle_spare config kind = record {
  unused = refl;
  empty = record { domains = places_empty Domain (length config.domains); cores = places_empty Resource (machine_core_count config) };
  kind_is = kind_default kind (length config.domains) (machine_core_count config);
  room = refl;
}

spare_suits : (m : Machine) (kind : SchedKind) → IsSpare m 0 kind (spare_seen m.config kind)
spare_suits m kind = record {
  idle = idle_spare m.config kind;
  suits = record {
    domains = length-replicate (length m.config.domains) None;
    affinity = length-replicate (length m.config.domains) None;
    cores = length-replicate (machine_core_count m.config) None;
    records = core_places kind (length m.config.domains) (machine_core_count m.config);
    granularity = refl;
    latest = omega arith;
  };
}

-- a shelf to which so many spare pools came
abbrev stocked : Config → SchedKind → ℕ → Shelf → Shelf
stocked config kind zero shelf = shelf
stocked config kind (suc n) shelf = shelf_with (spare_seen config kind) (stocked config kind n shelf)

stocked_here : (config : Config) (kind : SchedKind) (n : ℕ) (shelves : Shelves) → shelf_of kind (filled_shelves config kind n shelves) ≡ stocked config kind n (shelf_of kind shelves)
stocked_here config kind zero shelves = refl
stocked_here config kind (suc n) shelves = shelf-filled kind (spare_seen config kind) (filled_shelves config kind n shelves) ∙ ap (shelf_with (spare_seen config kind)) (stocked_here config kind n shelves)

stocked_count : (config : Config) (kind : SchedKind) (n : ℕ) (shelf : Shelf) → length (stocked config kind n shelf).pools ≡ length shelf.pools + n
stocked_count config kind zero shelf = omega arith
stocked_count config kind (suc n) shelf =
    let rest = stocked_count config kind n shelf in
    let more = length_push (stocked config kind n shelf).pools (spare_seen config kind) in
    omega (arith, rest, more)

stocked_room : (config : Config) (kind : SchedKind) (n : ℕ) (shelf : Shelf) → (stocked config kind n shelf).capacity ≡ shelf.capacity
stocked_room config kind zero shelf = refl
stocked_room config kind (suc n) shelf = stocked_room config kind n shelf

stocked_suits : (m : Machine) (kind : SchedKind) (n : ℕ) (shelf : Shelf) → shelf.pools ≡ [] → All (IsSpare m 0 kind) (stocked m.config kind n shelf).pools
stocked_suits m kind zero shelf none = All-same (IsSpare m 0 kind) shelf.pools [] none (All-nil (IsSpare m 0 kind))
stocked_suits m kind (suc n) shelf none = All-push (IsSpare m 0 kind) (stocked m.config kind n shelf).pools (spare_seen m.config kind) (stocked_suits m kind n shelf none) (spare_suits m kind)

-- while there is room, a spare pool more has room
pub room_left : (config : Config) (kind : SchedKind) (count n : ℕ) (shelves now : Shelves) → now ≡ filled_shelves config kind n shelves → n < count → length (shelf_of kind shelves).pools + count ≤ (shelf_of kind shelves).capacity
    → length (shelf_of kind now).pools < (shelf_of kind now).capacity
room_left config kind count n shelves now is low room =
    let shelf = shelf_of kind shelves in
    let counted = ap (λ (s : Shelf). length s.pools) (stocked_here config kind n shelves) ∙ stocked_count config kind n shelf in
    let capacity = ap (λ (s : Shelf). s.capacity) (stocked_here config kind n shelves) ∙ stocked_room config kind n shelf in
    subst (λ (x : Shelves). length (shelf_of kind x).pools < (shelf_of kind x).capacity) (sym is) (omega (arith, counted, capacity, low, room))

-- the shelves of other schedulers stay
pub others_stay : (config : Config) (other kind : SchedKind) → IsOther other kind → (n : ℕ) (shelves : Shelves) → shelf_of other (filled_shelves config kind n shelves) ≡ shelf_of other shelves
others_stay config other kind differs zero shelves = refl
others_stay config other kind differs (suc n) shelves = differs.stays (spare_seen config kind) (filled_shelves config kind n shelves) ∙ others_stay config other kind differs n shelves

pub still_fits : (config : Config) (most : KindCounts) (other kind : SchedKind) (shelves next : Shelves) → IsOther other kind → next ≡ filled_for config most kind shelves → CanFill config most other (shelf_of other shelves) → CanFill config most other (shelf_of other next)
still_fits config most other kind shelves next differs is fits =
    subst (CanFill config most other) (sym (ap (shelf_of other) is ∙ others_stay config other kind differs (count_of kind most - configured_of kind config.pools) shelves)) fits

-- each shelf when all came
module _ (config : Config) (most : KindCounts) (shelves : Shelves) where
  abbrev count : SchedKind → ℕ
  count k = count_of k most - configured_of k config.pools

  abbrev first : Shelves
  first = filled_for config most kinds.Credit2 shelves

  abbrev second : Shelves
  second = filled_for config most kinds.Rtds first

  abbrev third : Shelves
  third = filled_for config most kinds.Arinc653 second

  stocked_up : (k : SchedKind) → shelf_of k (filled_up config most shelves) ≡ stocked config k (count k) (shelf_of k shelves)
  stocked_up kinds.Credit2 =
      others_stay config kinds.Credit2 kinds.Null (record { differs = refl; stays = λ s x. refl }) (count kinds.Null) third
      ∙ others_stay config kinds.Credit2 kinds.Arinc653 (record { differs = refl; stays = λ s x. refl }) (count kinds.Arinc653) second
      ∙ others_stay config kinds.Credit2 kinds.Rtds (record { differs = refl; stays = λ s x. refl }) (count kinds.Rtds) first
      ∙ stocked_here config kinds.Credit2 (count kinds.Credit2) shelves
  stocked_up kinds.Rtds =
      others_stay config kinds.Rtds kinds.Null (record { differs = refl; stays = λ s x. refl }) (count kinds.Null) third
      ∙ others_stay config kinds.Rtds kinds.Arinc653 (record { differs = refl; stays = λ s x. refl }) (count kinds.Arinc653) second
      ∙ stocked_here config kinds.Rtds (count kinds.Rtds) first
      ∙ ap (stocked config kinds.Rtds (count kinds.Rtds)) (others_stay config kinds.Rtds kinds.Credit2 (record { differs = refl; stays = λ s x. refl }) (count kinds.Credit2) shelves)
  stocked_up kinds.Arinc653 =
      others_stay config kinds.Arinc653 kinds.Null (record { differs = refl; stays = λ s x. refl }) (count kinds.Null) third
      ∙ stocked_here config kinds.Arinc653 (count kinds.Arinc653) second
      ∙ ap (stocked config kinds.Arinc653 (count kinds.Arinc653))
      (others_stay config kinds.Arinc653 kinds.Rtds (record { differs = refl; stays = λ s x. refl }) (count kinds.Rtds) first
      ∙ others_stay config kinds.Arinc653 kinds.Credit2 (record { differs = refl; stays = λ s x. refl }) (count kinds.Credit2) shelves)
  stocked_up kinds.Null =
      stocked_here config kinds.Null (count kinds.Null) third
      ∙ ap (stocked config kinds.Null (count kinds.Null))
      (others_stay config kinds.Null kinds.Arinc653 (record { differs = refl; stays = λ s x. refl }) (count kinds.Arinc653) second
      ∙ others_stay config kinds.Null kinds.Rtds (record { differs = refl; stays = λ s x. refl }) (count kinds.Rtds) first
      ∙ others_stay config kinds.Null kinds.Credit2 (record { differs = refl; stays = λ s x. refl }) (count kinds.Credit2) shelves)

-- the file has no more pools of a scheduler than the machine has at once at most
pub enough : (m : Machine) → IsChecked m → (kind : SchedKind) → configured_of kind m.config.pools ≤ most_at_once m kind
enough m checked kind =
    let few = few_configured kind m.config.pools in
    let places = checked.config.few_pools in
    omega (arith, few, places)

-- the empty shelves can be filled
pub can_fill : (m : Machine) → IsChecked m → (most : KindCounts) (shelves : Shelves) → ((kind : SchedKind) → count_of kind most ≡ most_at_once m kind) → ((kind : SchedKind) → (shelf_of kind shelves).pools ≡ [])
    → ((kind : SchedKind) → count_of kind most ≤ (shelf_of kind shelves).capacity) → (kind : SchedKind) → CanFill m.config most kind (shelf_of kind shelves)
can_fill m checked most shelves counts none room kind = record {
  none = none kind;
  room = room kind;
  enough = (let here = enough m checked kind in let count = counts kind in omega (arith, here, count));
}

-- when all came, the spare pools are those of the opening
pub spares_new : (m : Machine) → IsChecked m → (most : KindCounts) (shelves next : Shelves) → ((kind : SchedKind) → count_of kind most ≡ most_at_once m kind) → ((kind : SchedKind) → CanFill m.config most kind (shelf_of kind shelves))
    → next ≡ filled_up m.config most shelves → AreSpares m 0 (tool_of (opening m)) next
spares_new m checked most shelves next counts fits is =
    subst (AreSpares m 0 (tool_of (opening m))) (sym is) (record {
      counts = λ kind. (
          let shelf = shelf_of kind shelves in
          let fit = fits kind in
          let n : ℕ = count_of kind most - configured_of kind m.config.pools in
          let none = ap (λ (xs : List Seen). length xs) fit.none in
          let here = in_use_new m checked kind in
          let count = counts kind in
          let length_is = stocked_count m.config kind n shelf in
          let room_is = stocked_room m.config kind n shelf in
          let room = fit.room in
          let enough_of = fit.enough in
          subst (HasSpares m kind (tool_of (opening m))) (sym (stocked_up m.config most shelves kind)) (record {
            sum = omega (arith, here, count, none, length_is, enough_of);
            made = omega (arith, here);
            capacity = omega (arith, count, room, room_is);
          }));
      suit = λ kind.
          subst (λ (s : Shelf). All (IsSpare m 0 kind) s.pools) (sym (stocked_up m.config most shelves kind))
          (stocked_suits m kind (count_of kind most - configured_of kind m.config.pools) (shelf_of kind shelves) (fits kind).none);
    })
