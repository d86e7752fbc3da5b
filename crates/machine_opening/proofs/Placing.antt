-- The places of a machine's pools at its opening.
use mathlib.Core.Logic.{dite}
use native.Mathlib.Decide.{ℕ_discrete}
use Rattle.std.proofs.Common.{◌≡◌, ◌≤◌, ◌<◌, ◌∙◌, ℕ, ◌+◌, ◌-◌, List, [], ◌∷◌, ◌++◌, length, sym, ap, subst, arith}
use Rattle.std.specs.Prelude.{Option, Some, None}
use Rattle.std.specs.Option.{ForSome}
use Rattle.std.proofs.lemmas.Option.{slice_get_within}
use Rattle.std.proofs.lemmas.List.{get_or_append_left, get_or_push, length_push}
use Rattle.sched_model.specs.declared.config.Config.{Config}
use Rattle.sched_model.specs.declared.machine.Machine.{Machine}
use Rattle.sched_model.specs.declared.state.State.{State}
use Rattle.sched_model.specs.declared.work.Work.{Work}
use Rattle.sched_model.specs.Opening.{most_pools, opening}
use Rattle.sched_model.specs.Places.{at_place}
use Rattle.sched_laws.proofs.EachPlace.{is_empty}
use Rattle.sched_laws.proofs.Opened.{read_pools}
use Rattle.journal_core.specs.Parts.{pool_part}
use Rattle.pool_core.specs.Seen.{Seen}
use Rattle.machine_parts.specs.Told.{Told, told_new}
use Rattle.machine_parts.specs.Places.{SlotSuits, StandsAt, state_of}
use Rattle.machine_parts.proofs.Going.{part_of-is, state_of-is}
use Rattle.machine_parts.proofs.Rooming.{some-out}
use Rattle.machine_parts.proofs.Standing.{part_below, pool_at, slot_part-is}
use Rattle.machine_opening.specs.OpenedPool.{IsOpened}

abbrev pub machine_of : Config → Work → Machine
machine_of config work = record { config = config; work = work }

-- where a trail begins
pub state_new : (config : Config) (work : Work) → state_of (told_new config work) ≡ opening (machine_of config work)
state_new config work = state_of-is (told_new config work)

-- what is the machine's place at its opening stands where a trail begins
stands_new : (config : Config) (work : Work) (i : ℕ) (slot : Option Seen) → i < 16 → at_place (opening (machine_of config work)).pools i ≡ pool_at slot → ForSome slot (SlotSuits (machine_of config work) 0)
    → StandsAt (told_new config work) i slot
stands_new config work i slot low at suits =
    let w : Told = told_new config work in
    record {
      place = low;
      part =
          slot_part-is slot ∙ ap pool_part (sym at) ∙ ap (λ (s : State). pool_part (at_place s.pools i)) (sym (state_new config work)) ∙ sym (part_below (state_of w) i low)
          ∙ sym (part_of-is w i);
      suits = subst (λ (s : State). ForSome slot (SlotSuits (machine_of config work) s.now)) (sym (state_new config work)) suits;
    }

-- a place past those of the file's pools is empty
pub none_stands : (config : Config) (work : Work) (i : ℕ) → i < 16 → length config.pools ≤ i → StandsAt (told_new config work) i None
none_stands config work i low past =
    stands_new config work i None low
    (is_empty (at_place (opening (machine_of config work)).pools i) (λ x at. let r = read_pools config 0 (most_pools - length config.pools) config.pools i x at in let inside = slice_get_within config.pools i r.0 r.1 in absurd (omega (arith, inside, past))))
    (λ x e. absurd (cc))

-- the pool of the file stands at its place
pub some_stands : (config : Config) (work : Work) (i : ℕ) (seen : Seen) → i < 16 → IsOpened config i seen → StandsAt (told_new config work) i (Some seen)
some_stands config work i seen low is =
    stands_new config work i (Some seen) low (is.pool work)
    (λ x e. some-out (SlotSuits (machine_of config work) 0) seen x e (record { granularity = is.granularity; latest = (let latest = is.latest in omega (arith, latest)) }))

-- the first places, n in all
pub record AreFirst (config : Config) (n : ℕ) (slots : List (Option Seen)) : Type 0 where
  pub count : length slots ≡ n
  pub each : (work : Work) (k : ℕ) → k < n → StandsAt (told_new config work) k (at_place slots k)

pub place_more : (config : Config) (n : ℕ) (slots : List (Option Seen)) (slot : Option Seen) → AreFirst config n slots → ((work : Work) → StandsAt (told_new config work) n slot) → AreFirst config (n + 1) (slots ++ slot ∷ [])
place_more config n slots slot first stands = record {
  count = length_push slots slot ∙ ap (λ k. k + 1) first.count;
  each = λ work k low. dite (ℕ_discrete k n)
      (λ (is : k ≡ n).
      let at : at_place (slots ++ slot ∷ []) k ≡ slot = get_or_push slots slot None k (first.count ∙ sym is) in
      subst (λ (x : Option Seen). StandsAt (told_new config work) k x) (sym at) (subst (λ (j : ℕ). StandsAt (told_new config work) j slot) (sym is) (stands work)))
      (λ ne.
      let count = first.count in
      let before : k < n = omega (arith, low, ne) in
      let same : at_place (slots ++ slot ∷ []) k ≡ at_place slots k = get_or_append_left slots (slot ∷ []) None k (omega (arith, before, count)) in
      subst (λ (x : Option Seen). StandsAt (told_new config work) k x) (sym same) (first.each work k before));
}
