-- Dues of moments: one number armed anew, and what a change of one core leaves as it was.
use Rattle.sched_base.specs.Numbers.{core as core_number, processor}
use Rattle.std.proofs.Common.{◌≡◌, ◌≢◌, ◌≤◌, ◌<◌, ◌+◌, ◌*◌, ◌/◌, ◌%◌, ◌⊎◌, ℕ, List, ◌∙◌, refl, sym, ap, subst, arith, length, inl, inr}
use Rattle.std.specs.Prelude.{Bool, not, Option, Some, None, slice_set, slice_get}
use Rattle.std.proofs.Math.Decide.{ℕ_discrete}
use Rattle.std.proofs.lemmas.Bool.{cases_lt}
use Rattle.std.proofs.lemmas.List.{get_or-set_same, get_or-set_other, get_or_past, length-set}
use Rattle.sched_base.specs.declared.Moment.{Moment}
use Rattle.sched_model.specs.declared.action.Action.TheVariants.{Block, Slice, Arrive, Decide, Leave, Save}
use Rattle.sched_model.specs.declared.state.Resource.{Resource}
use Rattle.sched_model.specs.declared.state.Processor.{Processor}
use Rattle.sched_model.specs.CheckedMachine.{IsGranularity}
use Rattle.sched_model.specs.Places.{at_place}
use Rattle.sched_model.specs.Pool.{is_held_back}
use Rattle.due_heap.specs.Dues.{armed_moment}
use Rattle.pool_laws.specs.ReadyMoments.{guarded_moment, later_of, end_of, end_where, slice_moment, may_gather}
use Rattle.core_state.specs.declared.dues.Dues.{Dues}
use Rattle.core_state.specs.Seen.{Seen, core_sibling, processor_among}
use Rattle.core_state.specs.Ends.{may_core_decide, may_core_save, may_core_part, arrival_among, leaving_among, ready_among, sibling_among, sibling_end}
use Rattle.core_state.specs.CoreState.{AgreesBut, AreArmedBut, AreArmed, with_core_ends, with_processor_ends}

-- a number armed with its moment has it, and each other number has what it had
armed_at : (from i : ℕ) (dues : List (Option Moment)) (ends : ℕ → Option Moment) → length dues ≡ 64 → (64 ≤ from → ends from ≡ None)
    → (i ≢ from → armed_moment dues i ≡ ends i) → armed_moment (slice_set dues from (ends from)) i ≡ ends i
armed_at from i dues ends ids past others =
    elim (ℕ_discrete i from) [
      | no ne ↦ get_or-set_other dues from i (ends from) None ne ∙ others ne
      | yes e ↦ subst (λ (k : ℕ). armed_moment (slice_set dues from (ends from)) k ≡ ends k) (sym e) here
    ]
  where
    here : armed_moment (slice_set dues from (ends from)) from ≡ ends from
    here = elim (cases_lt from 64) [
      | inl inside ↦ get_or-set_same dues from (ends from) None (omega (arith, ids, inside))
      | inr out ↦ get_or_past (slice_set dues from (ends from)) from None (omega (arith, ids, out, length-set dues from (ends from))) ∙ sym (past out)
    ]

-- one number more has its moment
pub next : (from to : ℕ) (dues : List (Option Moment)) (ends : ℕ → Option Moment) → (64 ≤ from → ends from ≡ None)
    → AgreesBut from to dues ends → AgreesBut (from + 1) to (slice_set dues from (ends from)) ends
next from to dues ends past are = record {
  ids = length-set dues from (ends from) ∙ are.ids;
  below = λ i h. armed_at from i dues ends are.ids past (λ ne. are.below i (omega (arith, h, ne)));
  above = λ i h. armed_at from i dues ends are.ids past (λ ne. are.above i h);
}

-- where no number is left, each has its moment
pub all : (n m : ℕ) (dues : List (Option Moment)) (ends : ℕ → Option Moment) → m ≤ n → AgreesBut n m dues ends → AgreesBut 0 0 dues ends
all n m dues ends few are = record {
  ids = are.ids;
  below = λ i h. absurd (omega (arith, h));
  above = λ i h. elim (cases_lt i n) [ inl lt ↦ are.below i lt | inr ge ↦ are.above i (omega (arith, ge, few)) ];
}

-- where the moments of other numbers stay, each of these has its moment still
pub but : (from to : ℕ) (dues : List (Option Moment)) (old new : ℕ → Option Moment) → ((i : ℕ) → (i < from) ⊎ (to ≤ i) → new i ≡ old i)
    → AgreesBut 0 0 dues old → AgreesBut from to dues new
but from to dues old new same are = record {
  ids = are.ids;
  below = λ i h. are.above i (omega arith) ∙ sym (same i (inl h));
  above = λ i h. are.above i (omega arith) ∙ sym (same i (inr h));
}

-- past the places there is nothing
pub core_past : (cores : List (Option Resource)) (r : ℕ) → length cores ≤ 64 → 64 ≤ r → at_place cores r ≡ None
core_past cores r few past = get_or_past cores r None (omega (arith, few, past))

pub few_places : (g n : ℕ) → IsGranularity g → n * g ≤ 64 → n ≤ 64
few_places g n (inl e) few = let h = rw e at few in omega (arith, h)
few_places g n (inr (inl e)) few = let h = rw e at few in omega (arith, h)
few_places g n (inr (inr e)) few = let h = rw e at few in omega (arith, h)

quotient_past : (g n p : ℕ) → IsGranularity g → n * g ≤ 64 → 64 ≤ p → n ≤ p / g
quotient_past g n p (inl e) few past = subst (λ (k : ℕ). n ≤ p / k) (sym e) (let h = rw e at few in omega (arith, h, past))
quotient_past g n p (inr (inl e)) few past = subst (λ (k : ℕ). n ≤ p / k) (sym e) (let h = rw e at few in omega (arith, h, past))
quotient_past g n p (inr (inr e)) few past = subst (λ (k : ℕ). n ≤ p / k) (sym e) (let h = rw e at few in omega (arith, h, past))

pub core_of_past : (g : ℕ) (cores : List (Option Resource)) (p : ℕ) → IsGranularity g → length cores * g ≤ 64 → 64 ≤ p → at_place cores (p / g) ≡ None
core_of_past g cores p granularity few past = get_or_past cores (p / g) None (quotient_past g (length cores) p granularity few past)

-- the processors of other cores
pub other_core : (g r p : ℕ) → IsGranularity g → (p < r * g) ⊎ (r * g + g ≤ p) → p / g ≢ r
other_core g r p (inl e) (inl h) = subst (λ (k : ℕ). p / k ≢ r) (sym e) (let k = rw e at h in λ same. omega (arith, k, same))
other_core g r p (inl e) (inr h) = subst (λ (k : ℕ). p / k ≢ r) (sym e) (let k = rw e at h in λ same. omega (arith, k, same))
other_core g r p (inr (inl e)) (inl h) = subst (λ (k : ℕ). p / k ≢ r) (sym e) (let k = rw e at h in λ same. omega (arith, k, same))
other_core g r p (inr (inl e)) (inr h) = subst (λ (k : ℕ). p / k ≢ r) (sym e) (let k = rw e at h in λ same. omega (arith, k, same))
other_core g r p (inr (inr e)) (inl h) = subst (λ (k : ℕ). p / k ≢ r) (sym e) (let k = rw e at h in λ same. omega (arith, k, same))
other_core g r p (inr (inr e)) (inr h) = subst (λ (k : ℕ). p / k ≢ r) (sym e) (let k = rw e at h in λ same. omega (arith, k, same))

-- the processor of a core that may be there, and the end of its stall under tests
abbrev pub sibling_in : ℕ → Option Resource → Option Processor
sibling_in i o = elim o as (λ _. Option Processor) [ None ↦ None | Some c ↦ slice_get c.processors i ]

abbrev pub end_in : ℕ → (Resource → Bool) → (Processor → Bool) → Option Resource → Option Moment
end_in i a b o = elim o as (λ _. Option Moment) [ None ↦ None | Some c ↦ guarded_moment (a c) (elim (sibling_in i o) as (λ _. Option Moment) [ None ↦ None | Some q ↦ guarded_moment (b q) (Some q.stall_end) ]) ]

pub sibling_same : (g p : ℕ) (a : Resource → Bool) (b : Processor → Bool) (cores next : List (Option Resource)) → at_place next (p / g) ≡ at_place cores (p / g)
    → sibling_among g next p a b ≡ sibling_among g cores p a b
sibling_same g p a b cores next same = ap (end_in (p % g) a b) same

pub processor_same : (g p : ℕ) (cores next : List (Option Resource)) → at_place next (p / g) ≡ at_place cores (p / g) → processor_among g next p ≡ processor_among g cores p
processor_same g p cores next same = ap (sibling_in (p % g)) same

pub sibling_past : (g p : ℕ) (a : Resource → Bool) (b : Processor → Bool) (cores : List (Option Resource)) → at_place cores (p / g) ≡ None → sibling_among g cores p a b ≡ None
sibling_past g p a b cores none = ap (end_in (p % g) a b) none

later_none : (a : Option Moment) → later_of a None ≡ None
later_none None = refl
later_none (Some a) = refl

pub block_past : (seen : Seen) (p : ℕ) → at_place seen.resources (p / seen.granularity) ≡ None → ready_among seen (Block (processor p)) ≡ None
block_past seen p none =
    ap (λ (o : Option Resource). later_of (at_place seen.works p) (end_of (sibling_in (p % seen.granularity) o))) none ∙ later_none (at_place seen.works p)

-- the core armed anew
pub core_armed : (r q q' : ℕ) (seen : Seen) (dues : Dues) → length seen.resources ≤ 64 → AreArmedBut r (r + 1) q q' seen dues
    → AreArmedBut (r + 1) (r + 1) q q' seen (with_core_ends r (at_place seen.resources r) dues)
core_armed r q q' seen dues few are =
    let none : 64 ≤ r → at_place seen.resources r ≡ None = core_past seen.resources r few in
    record {
      slices = next r (r + 1) dues.slices (λ i. ready_among seen (Slice (core_number i))) (λ past. ap slice_moment (none past)) are.slices;
      decides = next r (r + 1) dues.decides (λ i. ready_among seen (Decide (core_number i))) (λ past. ap (λ (o : Option Resource). end_where may_core_decide o) (none past)) are.decides;
      saves = next r (r + 1) dues.saves (λ i. ready_among seen (Save (core_number i))) (λ past. ap (λ (o : Option Resource). end_where may_core_save o) (none past)) are.saves;
      blocks = are.blocks;
      arrives = are.arrives;
      leaves = are.leaves;
    }

-- one processor more armed anew
processor_armed : (r r' p q : ℕ) (seen : Seen) (dues : Dues) → IsGranularity seen.granularity → length seen.resources * seen.granularity ≤ 64
    → AreArmedBut r r' p q seen dues → AreArmedBut r r' (p + 1) q seen (with_processor_ends p (at_place seen.resources (p / seen.granularity)) (p % seen.granularity) (at_place seen.works p) dues)
processor_armed r r' p q seen dues granularity few are =
    let none : 64 ≤ p → at_place seen.resources (p / seen.granularity) ≡ None = core_of_past seen.granularity seen.resources p granularity few in
    record {
      slices = are.slices;
      decides = are.decides;
      saves = are.saves;
      blocks = next p q dues.blocks (λ i. ready_among seen (Block (processor i))) (λ past. block_past seen p (none past)) are.blocks;
      arrives = next p q dues.arrives (λ i. ready_among seen (Arrive (processor i))) (λ past. sibling_past seen.granularity p may_gather (λ q. not (is_held_back q)) seen.resources (none past)) are.arrives;
      leaves = next p q dues.leaves (λ i. ready_among seen (Leave (processor i))) (λ past. sibling_past seen.granularity p may_core_part is_held_back seen.resources (none past)) are.leaves;
    }

-- the i-th processor of the core r is of that core, and the i-th there
place_of : (g r i : ℕ) → IsGranularity g → i < g → ((r * g + i) / g ≡ r) × ((r * g + i) % g ≡ i)
place_of g r i (inl e) lt = subst (λ (k : ℕ). ((r * k + i) / k ≡ r) × ((r * k + i) % k ≡ i)) (sym e) (let h = rw e at lt in (omega (arith, h), omega (arith, h)))
place_of g r i (inr (inl e)) lt = subst (λ (k : ℕ). ((r * k + i) / k ≡ r) × ((r * k + i) % k ≡ i)) (sym e) (let h = rw e at lt in (omega (arith, h), omega (arith, h)))
place_of g r i (inr (inr e)) lt = subst (λ (k : ℕ). ((r * k + i) / k ≡ r) × ((r * k + i) % k ≡ i)) (sym e) (let h = rw e at lt in (omega (arith, h), omega (arith, h)))

-- past the 64 processors there is no core
pub core_of_sibling_past : (g r i : ℕ) (cores : List (Option Resource)) → IsGranularity g → length cores * g ≤ 64 → i < g → 64 ≤ r * g + i → at_place cores r ≡ None
core_of_sibling_past g r i cores granularity few lt past =
    ap (at_place cores) (sym (place_of g r i granularity lt).0) ∙ core_of_past g cores (r * g + i) granularity few past

-- the i-th processor of the core armed anew
pub sibling_armed : (r r' i q : ℕ) (seen : Seen) (dues : Dues) (core : Option Resource) (work : Option Moment) → IsGranularity seen.granularity
    → length seen.resources * seen.granularity ≤ 64 → i < seen.granularity → core ≡ at_place seen.resources r → work ≡ at_place seen.works (r * seen.granularity + i)
    → AreArmedBut r' r' (r * seen.granularity + i) q seen dues
    → AreArmedBut r' r' (r * seen.granularity + (i + 1)) q seen (with_processor_ends (r * seen.granularity + i) core i work dues)
sibling_armed r r' i q seen dues core work granularity few lt core_is work_is are =
    let p : ℕ = r * seen.granularity + i in
    let place = place_of seen.granularity r i granularity lt in
    let more : p + 1 ≡ r * seen.granularity + (i + 1) = omega arith in
    let ends : with_processor_ends p (at_place seen.resources (p / seen.granularity)) (p % seen.granularity) (at_place seen.works p) dues ≡ with_processor_ends p core i work dues =
    ap (λ (k : ℕ). with_processor_ends p (at_place seen.resources k) (p % seen.granularity) (at_place seen.works p) dues) place.0
    ∙ ap (λ (k : ℕ). with_processor_ends p (at_place seen.resources r) k (at_place seen.works p) dues) place.1
    ∙ ap (λ (o : Option Resource). with_processor_ends p o i (at_place seen.works p) dues) (sym core_is)
    ∙ ap (λ (o : Option Moment). with_processor_ends p core i o dues) (sym work_is) in
    subst (λ (k : ℕ). AreArmedBut r' r' k q seen (with_processor_ends p core i work dues)) more
    (subst (λ (new : Dues). AreArmedBut r' r' (p + 1) q seen new) ends (processor_armed r' r' p q seen dues granularity few are))

-- the i-th processor of the core, if it is there, armed anew with the moment from which on it may arrive
pub arrival_armed : (g r i to : ℕ) (cores : List (Option Resource)) (arrives : List (Option Moment)) (core : Option Resource) → IsGranularity g → length cores * g ≤ 64 → i < g → core ≡ at_place cores r
    → AgreesBut (r * g + i) to arrives (arrival_among g cores)
    → AgreesBut (r * g + (i + 1)) to (slice_set arrives (r * g + i) (sibling_end may_gather (λ q. not (is_held_back q)) core (core_sibling core i))) (arrival_among g cores)
arrival_armed g r i to cores arrives core granularity few lt core_is are =
    let p : ℕ = r * g + i in
    let place = place_of g r i granularity lt in
    let more : p + 1 ≡ r * g + (i + 1) = omega arith in
    let end_is : arrival_among g cores p ≡ sibling_end may_gather (λ q. not (is_held_back q)) core (core_sibling core i) =
    ap (λ (k : ℕ). sibling_end may_gather (λ q. not (is_held_back q)) (at_place cores k) (core_sibling (at_place cores k) (p % g))) place.0
    ∙ ap (λ (k : ℕ). sibling_end may_gather (λ q. not (is_held_back q)) (at_place cores r) (core_sibling (at_place cores r) k)) place.1
    ∙ ap (λ (o : Option Resource). sibling_end may_gather (λ q. not (is_held_back q)) o (core_sibling o i)) (sym core_is) in
    subst (λ (k : ℕ). AgreesBut k to (slice_set arrives p (sibling_end may_gather (λ q. not (is_held_back q)) core (core_sibling core i))) (arrival_among g cores)) more
    (subst (λ (end : Option Moment). AgreesBut (p + 1) to (slice_set arrives p end) (arrival_among g cores)) end_is
    (next p to arrives (arrival_among g cores) (λ past. sibling_past g p may_gather (λ q. not (is_held_back q)) cores (core_of_past g cores p granularity few past)) are))

-- the same with the moment from which on it may leave
pub leaving_armed : (g r i to : ℕ) (cores : List (Option Resource)) (leaves : List (Option Moment)) (core : Option Resource) → IsGranularity g → length cores * g ≤ 64 → i < g → core ≡ at_place cores r
    → AgreesBut (r * g + i) to leaves (leaving_among g cores)
    → AgreesBut (r * g + (i + 1)) to (slice_set leaves (r * g + i) (sibling_end may_core_part is_held_back core (core_sibling core i))) (leaving_among g cores)
leaving_armed g r i to cores leaves core granularity few lt core_is are =
    let p : ℕ = r * g + i in
    let place = place_of g r i granularity lt in
    let more : p + 1 ≡ r * g + (i + 1) = omega arith in
    let end_is : leaving_among g cores p ≡ sibling_end may_core_part is_held_back core (core_sibling core i) =
    ap (λ (k : ℕ). sibling_end may_core_part is_held_back (at_place cores k) (core_sibling (at_place cores k) (p % g))) place.0
    ∙ ap (λ (k : ℕ). sibling_end may_core_part is_held_back (at_place cores r) (core_sibling (at_place cores r) k)) place.1
    ∙ ap (λ (o : Option Resource). sibling_end may_core_part is_held_back o (core_sibling o i)) (sym core_is) in
    subst (λ (k : ℕ). AgreesBut k to (slice_set leaves p (sibling_end may_core_part is_held_back core (core_sibling core i))) (leaving_among g cores)) more
    (subst (λ (end : Option Moment). AgreesBut (p + 1) to (slice_set leaves p end) (leaving_among g cores)) end_is
    (next p to leaves (leaving_among g cores) (λ past. sibling_past g p may_core_part is_held_back cores (core_of_past g cores p granularity few past)) are))

-- where none is left, all are armed
pub all_armed : (r p q : ℕ) (seen : Seen) (dues : Dues) → q ≤ p → AreArmedBut r r p q seen dues → AreArmed seen dues
all_armed r p q seen dues few are = record {
  slices = all r r dues.slices (λ i. ready_among seen (Slice (core_number i))) (omega arith) are.slices;
  decides = all r r dues.decides (λ i. ready_among seen (Decide (core_number i))) (omega arith) are.decides;
  saves = all r r dues.saves (λ i. ready_among seen (Save (core_number i))) (omega arith) are.saves;
  blocks = all p q dues.blocks (λ i. ready_among seen (Block (processor i))) few are.blocks;
  arrives = all p q dues.arrives (λ i. ready_among seen (Arrive (processor i))) few are.arrives;
  leaves = all p q dues.leaves (λ i. ready_among seen (Leave (processor i))) few are.leaves;
}
