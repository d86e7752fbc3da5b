-- What a pool's cores keep.
use Rattle.sched_base.specs.Numbers.{core as core_number, processor as processor_number}
use Rattle.std.specs.Prelude.{ℕ, ◌≡◌, ◌≤◌, ◌<◌, ◌*◌, ◌/◌, true, false, List, Option, None, length, replicate, slice_set, not, ◌+◌}
use Rattle.sched_base.specs.declared.Moment.{Moment}
use Rattle.sched_model.specs.declared.action.Action.TheVariants.{Block, Slice, Arrive, Decide, Leave, Save}
use Rattle.sched_model.specs.declared.state.Resource.{Resource}
use Rattle.sched_model.specs.CheckedMachine.{IsGranularity}
use Rattle.sched_model.specs.Places.{at_place, first_place}
use Rattle.sched_model.specs.Pool.{cores_from, is_held_back}
use Rattle.sched_laws.specs.EachPlace.{EachPlace}
use Rattle.pool_laws.specs.ReadyMoments.{end_of, end_where, may_gather, later_of, slice_moment}
use Rattle.due_heap.specs.Dues.{armed_moment}
use Rattle.core_state.specs.declared.dues.Dues.{Dues}
use Rattle.core_state.specs.Seen.{Seen, core_sibling, processor_among}
use Rattle.core_state.specs.Ends.{arrival_among, is_core_pending, leaving_among, may_core_decide, may_core_save, may_core_part, ready_among, sibling_end}

-- each core has 1, 2 or 4 processors, and there are places for at most 64 processors
pub record KeepsCores (seen : Seen) : Type 0 where
  pub granularity : IsGranularity seen.granularity
  pub places : length seen.resources * seen.granularity ≤ 64
  pub works : length seen.works ≡ 64
  pub cores : EachPlace (λ (c : Resource). length c.processors ≡ seen.granularity) seen.resources

-- a set of 64 has for each number its moment, but for those numbers that are not below `from` and below `to`
pub record AgreesBut (from to : ℕ) (dues : List (Option Moment)) (ends : ℕ → Option Moment) : Type 0 where
  pub ids : length dues ≡ 64
  pub below : (i : ℕ) → i < from → armed_moment dues i ≡ ends i
  pub above : (i : ℕ) → to ≤ i → armed_moment dues i ≡ ends i

-- each set has its moments, but for those of such cores and of such processors
pub record AreArmedBut (core core_end processor processor_end : ℕ) (seen : Seen) (dues : Dues) : Type 0 where
  pub slices : AgreesBut core core_end dues.slices (λ r. ready_among seen (Slice (core_number r)))
  pub decides : AgreesBut core core_end dues.decides (λ r. ready_among seen (Decide (core_number r)))
  pub saves : AgreesBut core core_end dues.saves (λ r. ready_among seen (Save (core_number r)))
  pub blocks : AgreesBut processor processor_end dues.blocks (λ p. ready_among seen (Block (processor_number p)))
  pub arrives : AgreesBut processor processor_end dues.arrives (λ p. ready_among seen (Arrive (processor_number p)))
  pub leaves : AgreesBut processor processor_end dues.leaves (λ p. ready_among seen (Leave (processor_number p)))

-- each set has its moments
abbrev pub AreArmed : Seen → Dues → Type 0
AreArmed seen dues = AreArmedBut 0 0 0 0 seen dues

-- the core r and its processors may be armed anew: each set has the moments of all others
pub record MayRearm (r : ℕ) (seen : Seen) (dues : Dues) : Type 0 where
  pub granularity : IsGranularity seen.granularity
  pub places : length seen.resources * seen.granularity ≤ 64
  pub others : AreArmedBut r (r + 1) (r * seen.granularity) (r * seen.granularity + seen.granularity) seen dues

-- each set has 64 numbers
pub record HaveIds (dues : Dues) : Type 0 where
  pub slices : length dues.slices ≡ 64
  pub decides : length dues.decides ≡ 64
  pub saves : length dues.saves ≡ 64
  pub blocks : length dues.blocks ≡ 64
  pub arrives : length dues.arrives ≡ 64
  pub leaves : length dues.leaves ≡ 64

-- the processors of the core r may be armed anew with their arrivals, which are right already where the core is not to decide
pub record MayGather (g r : ℕ) (cores : List (Option Resource)) (arrives : List (Option Moment)) : Type 0 where
  pub others : AgreesBut (r * g) (r * g + g) arrives (arrival_among g cores)
  pub still : is_core_pending (at_place cores r) ≡ false → AgreesBut 0 0 arrives (arrival_among g cores)

-- beside that: the set of the cores, the first of them, and the sets of moments
pub record IsKept (seen : Seen) (home : ℕ) (first : Option ℕ) (dues : Dues) : Type 0 where
  pub cores : KeepsCores seen
  pub is_home : home ≡ cores_from 0 seen.resources
  pub is_first : first ≡ first_place 0 (λ (c : Resource). true) seen.resources
  pub armed : AreArmed seen dues

-- sets of 64 without a moment
pub record AreEmpty (dues : Dues) : Type 0 where
  pub slices : dues.slices ≡ replicate 64 None
  pub decides : dues.decides ≡ replicate 64 None
  pub saves : dues.saves ≡ replicate 64 None
  pub blocks : dues.blocks ≡ replicate 64 None
  pub arrives : dues.arrives ≡ replicate 64 None
  pub leaves : dues.leaves ≡ replicate 64 None

-- the sets with the core's own moments
abbrev pub with_core_ends : ℕ → Option Resource → Dues → Dues
with_core_ends r core dues =
    record dues {
      slices = slice_set dues.slices r (slice_moment core);
      decides = slice_set dues.decides r (end_where may_core_decide core);
      saves = slice_set dues.saves r (end_where may_core_save core);
    }

-- the sets with the own moments of the processor p, which is the i-th of the core, and whose work is done then
abbrev pub with_processor_ends : ℕ → Option Resource → ℕ → Option Moment → Dues → Dues
with_processor_ends p core i work dues =
    record dues {
      blocks = slice_set dues.blocks p (later_of work (end_of (core_sibling core i)));
      arrives = slice_set dues.arrives p (sibling_end may_gather (λ q. not (is_held_back q)) core (core_sibling core i));
      leaves = slice_set dues.leaves p (sibling_end may_core_part is_held_back core (core_sibling core i));
    }

-- the sets with the moments that depend on what the processor p does and on its work, but for arrivals
abbrev pub with_work_ends : ℕ → ℕ → List (Option Resource) → List (Option Moment) → Dues → Dues
with_work_ends g p cores works dues =
    record dues {
      decides = slice_set dues.decides (p / g) (end_where may_core_decide (at_place cores (p / g)));
      saves = slice_set dues.saves (p / g) (end_where may_core_save (at_place cores (p / g)));
      blocks = slice_set dues.blocks p (later_of (at_place works p) (end_of (processor_among g cores p)));
      leaves = slice_set dues.leaves p (leaving_among g cores p);
    }

-- the same with its arrival
abbrev pub with_step_ends : ℕ → ℕ → List (Option Resource) → List (Option Moment) → Dues → Dues
with_step_ends g p cores works dues = record (with_work_ends g p cores works dues) { arrives = slice_set dues.arrives p (arrival_among g cores p) }
