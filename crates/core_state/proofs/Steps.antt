-- What a step of one processor, a decision and a save of one core leave as they were.
use Rattle.sched_base.specs.Numbers.{core as core_number, moment, processor}
use Rattle.std.proofs.Common.{◌≡◌, ◌≢◌, ◌+◌, ◌*◌, ◌/◌, ◌%◌, ◌<◌, ◌≤◌, ◌⊎◌, ℕ, zero, suc, List, [], ◌∷◌, ◌∙◌, refl, sym, ap, subst, arith, inl, inr, length}
use Rattle.std.specs.Prelude.{Bool, true, false, not, Option, Some, None, option_map, slice_set, slice_get, if◌then◌else◌}
use Rattle.std.specs.List.{list_any}
use Rattle.std.proofs.Math.Decide.{ℕ_discrete}
use Rattle.std.proofs.lemmas.List.{get_or-set_other}
use Rattle.sched_base.specs.declared.Moment.{Moment}
use Rattle.sched_base.specs.declared.UnitId.{UnitId}
use Rattle.sched_model.specs.declared.action.Action.TheVariants.{Block, Slice, Arrive, Decide, Leave, Save}
use Rattle.sched_model.specs.declared.state.Doing.{Doing}
use Rattle.sched_model.specs.declared.state.Processor.{Processor}
use Rattle.sched_model.specs.declared.state.Resource.{Resource}
use Rattle.sched_model.specs.declared.state.Stage.TheVariants.{Open, Decided}
use Rattle.sched_model.specs.CheckedMachine.{IsGranularity}
use Rattle.sched_model.specs.Places.{at_place, change_at, change_item}
use Rattle.sched_model.specs.Pool.{is_held_back, reopened_core, same_choice, saved_core, with_doing}
use Rattle.sched_model.proofs.PlaceLemmas.{at_place-change_at_other}
use Rattle.sched_laws.proofs.EachPlace.{at_place-change_at}
use Rattle.sched_laws.proofs.Lists.{slice_get-change_item_other}
use Rattle.sched_laws.proofs.Sound.{list_any_get}
use Rattle.pool_laws.specs.ReadyMoments.{guarded_moment, later_of, end_of, end_where, may_gather, slice_moment}
use Rattle.core_state.specs.declared.dues.Dues.{Dues}
use Rattle.core_state.specs.Seen.{Seen, chosen_core, core_sibling, processor_among, with_sibling}
use Rattle.core_state.specs.Ends.{arrival_among, is_core_pending, leaving_among, may_core_decide, may_core_save, may_core_part, ready_among, sibling_among, sibling_end}
use Rattle.core_state.specs.CoreState.{AgreesBut, AreArmed, AreArmedBut, HaveIds, IsKept, MayGather, with_core_ends, with_step_ends, with_work_ends}
use Rattle.core_state.proofs.Arming.{all, block_past, but, core_armed, core_of_past, core_past, end_in, few_places, next, sibling_in, sibling_past, sibling_same}
use Rattle.core_state.proofs.ChangeLemmas.{IsChange, armed_but, few_after, seen_of}

-- one number armed with its moment, where all others have theirs
armed_one : (n : ℕ) (dues : List (Option Moment)) (ends : ℕ → Option Moment) → (64 ≤ n → ends n ≡ None) → AgreesBut n (n + 1) dues ends → AgreesBut 0 0 (slice_set dues n (ends n)) ends
armed_one n dues ends past are = all (n + 1) (n + 1) (slice_set dues n (ends n)) ends (omega arith) (next n (n + 1) dues ends past are)

-- each set has 64 numbers
pub have_ids : (seen : Seen) (dues : Dues) → AreArmed seen dues → HaveIds dues
have_ids seen dues are = record { slices = are.slices.ids; decides = are.decides.ids; saves = are.saves.ids; blocks = are.blocks.ids; arrives = are.arrives.ids; leaves = are.leaves.ids }

-- what does not see the change of a core is as it was at each
as_before : {X : Type 0} (r : ℕ) (f : Resource → Resource) (cores : List (Option Resource)) (h : Option Resource → X) → h (option_map f (at_place cores r)) ≡ h (at_place cores r) → (i : ℕ) → h (at_place (change_at r f cores) i) ≡ h (at_place cores i)
as_before r f cores h unseen i = elim (ℕ_discrete i r) [
  | yes e ↦ subst (λ (k : ℕ). h (at_place (change_at r f cores) k) ≡ h (at_place cores k)) (sym e) (ap h (at_place-change_at r f cores) ∙ unseen)
  | no ne ↦ ap h (at_place-change_at_other r i f cores ne)
]

-- two processors of one core have places apart
same_place : (g p q : ℕ) → IsGranularity g → q / g ≡ p / g → q % g ≡ p % g → q ≡ p
same_place g p q (inl e) a b = let c = rw e at a in let d = rw e at b in omega (arith, c, d)
same_place g p q (inr (inl e)) a b = let c = rw e at a in let d = rw e at b in omega (arith, c, d)
same_place g p q (inr (inr e)) a b = let c = rw e at a in let d = rw e at b in omega (arith, c, d)

apart_from : (p q : ℕ) → (q < p) ⊎ (p + 1 ≤ q) → q ≢ p
apart_from p q (inl lt) = λ e. omega (arith, lt, e)
apart_from p q (inr ge) = λ e. omega (arith, ge, e)

none_guarded : (b : Bool) → guarded_moment b None ≡ None
none_guarded true = refl
none_guarded false = refl

-- the end of the first processor's stall does not see what a processor does
abbrev first_end : List Processor → Option Moment
first_end ps = elim ps as (λ _. Option Moment) [ [] ↦ None | p ∷ rest ↦ Some p.stall_end ]

first_end_same : (i : ℕ) (d : Doing) (ps : List Processor) → first_end (change_item i (with_doing d) ps) ≡ first_end ps
first_end_same i d [] = refl
first_end_same zero d (p ∷ ps) = refl
first_end_same (suc i) d (p ∷ ps) = refl

slice_step : (i : ℕ) (d : Doing) (o : Option Resource) → slice_moment (option_map (with_sibling i (with_doing d)) o) ≡ slice_moment o
slice_step i d None = refl
slice_step i d (Some c) = ap (λ (e : Option Moment). guarded_moment (not c.pending) (later_of c.due e)) (first_end_same i d c.processors)

-- nor do the core's other processors
abbrev end_of_in : ℕ → Option Resource → Option Moment
end_of_in j o = end_of (sibling_in j o)

abbrev held_or_none : (Processor → Bool) → Option Processor → Option Moment
held_or_none b o = elim o as (λ _. Option Moment) [ None ↦ None | Some q ↦ guarded_moment (b q) (Some q.stall_end) ]

block_step : (i j : ℕ) (d : Doing) (o : Option Resource) → i ≢ j → end_of_in j (option_map (with_sibling i (with_doing d)) o) ≡ end_of_in j o
block_step i j d None ne = refl
block_step i j d (Some c) ne = ap end_of (slice_get-change_item_other i j (with_doing d) c.processors ne)

arrive_step : (i j : ℕ) (d : Doing) (o : Option Resource) → i ≢ j → end_in j may_gather (λ q. not (is_held_back q)) (option_map (with_sibling i (with_doing d)) o) ≡ end_in j may_gather (λ q. not (is_held_back q)) o
arrive_step i j d None ne = refl
arrive_step i j d (Some c) ne = ap (λ (q : Option Processor). guarded_moment (may_gather c) (held_or_none (λ x. not (is_held_back x)) q)) (slice_get-change_item_other i j (with_doing d) c.processors ne)

leave_step : (i j : ℕ) (d : Doing) (o : Option Resource) → i ≢ j → end_in j may_core_part is_held_back (option_map (with_sibling i (with_doing d)) o) ≡ end_in j may_core_part is_held_back o
leave_step i j d None ne = refl
leave_step i j d (Some c) ne = ap (λ (q : Option Processor). guarded_moment (may_core_part c) (held_or_none is_held_back q)) (slice_get-change_item_other i j (with_doing d) c.processors ne)

-- a stage that opens again is seen by no slice and no block, and by no leave either, since no processor is held
slice_open : (c : Resource) → slice_moment (Some (reopened_core c)) ≡ slice_moment (Some c)
slice_open c = elim (list_any is_held_back c.processors) as (λ b. slice_moment (Some (if b then c else record c { stage = Open })) ≡ slice_moment (Some c)) [ true ↦ refl | false ↦ refl ]

block_open : (j : ℕ) (c : Resource) → end_of_in j (Some (reopened_core c)) ≡ end_of_in j (Some c)
block_open j c = elim (list_any is_held_back c.processors) as (λ b. end_of_in j (Some (if b then c else record c { stage = Open })) ≡ end_of_in j (Some c)) [ true ↦ refl | false ↦ refl ]

free_ends : (b : Bool) (q : Processor) → is_held_back q ≡ false → guarded_moment b (guarded_moment (is_held_back q) (Some q.stall_end)) ≡ None
free_ends b q free = rw free (none_guarded b)

nobody_leaves : (j : ℕ) (c : Resource) → list_any is_held_back c.processors ≡ false → end_in j may_core_part is_held_back (Some c) ≡ None
nobody_leaves j c none =
    elim (slice_get c.processors j) as (λ o. slice_get c.processors j ≡ o → guarded_moment (may_core_part c) (held_or_none is_held_back o) ≡ None) [
      | None ↦ λ at. none_guarded (may_core_part c)
      | Some q ↦ λ at. free_ends (may_core_part c) q (elim (is_held_back q) as (λ b. is_held_back q ≡ b → is_held_back q ≡ false) [
        | true ↦ λ held. let some = list_any_get is_held_back c.processors j q at held in absurd (cc)
        | false ↦ λ free. free
      ] refl)
    ] refl

leave_open : (j : ℕ) (c : Resource) → end_in j may_core_part is_held_back (Some (reopened_core c)) ≡ end_in j may_core_part is_held_back (Some c)
leave_open j c =
    elim (list_any is_held_back c.processors) as (λ b. list_any is_held_back c.processors ≡ b → end_in j may_core_part is_held_back (Some (if b then c else record c { stage = Open })) ≡ end_in j may_core_part is_held_back (Some c)) [
      | true ↦ λ some. refl
      | false ↦ λ none. sym (nobody_leaves j c none)
    ] refl

-- the processor leaves, and its core's stage opens where none is held any more
abbrev pub left_core : ℕ → Doing → Resource → Resource
left_core i d c = reopened_core (with_sibling i (with_doing d) c)

slice_left : (i : ℕ) (d : Doing) (o : Option Resource) → slice_moment (option_map (left_core i d) o) ≡ slice_moment o
slice_left i d None = refl
slice_left i d (Some c) = slice_open (with_sibling i (with_doing d) c) ∙ slice_step i d (Some c)

block_left : (i j : ℕ) (d : Doing) (o : Option Resource) → i ≢ j → end_of_in j (option_map (left_core i d) o) ≡ end_of_in j o
block_left i j d None ne = refl
block_left i j d (Some c) ne = block_open j (with_sibling i (with_doing d) c) ∙ block_step i j d (Some c) ne

leave_left : (i j : ℕ) (d : Doing) (o : Option Resource) → i ≢ j → end_in j may_core_part is_held_back (option_map (left_core i d) o) ≡ end_in j may_core_part is_held_back o
leave_left i j d None ne = refl
leave_left i j d (Some c) ne = leave_open j (with_sibling i (with_doing d) c) ∙ leave_step i j d (Some c) ne

-- a core that is not to decide has nobody arrive
none_arrives : (j : ℕ) (o : Option Resource) → is_core_pending o ≡ false → end_in j may_gather (λ q. not (is_held_back q)) o ≡ None
none_arrives j None still = refl
none_arrives j (Some c) still = rw still refl

pub pending_left : (i : ℕ) (d : Doing) (o : Option Resource) → is_core_pending (option_map (left_core i d) o) ≡ is_core_pending o
pending_left i d None = refl
pending_left i d (Some c) = elim (list_any is_held_back (change_item i (with_doing d) c.processors)) as (λ b. (if b then with_sibling i (with_doing d) c else record (with_sibling i (with_doing d) c) { stage = Open }).pending ≡ c.pending) [ true ↦ refl | false ↦ refl ]

pub pending_saved : (o : Option Resource) → is_core_pending (option_map saved_core o) ≡ is_core_pending o
pending_saved None = refl
pending_saved (Some c) = refl

-- a save is seen by no slice, decision, block or leave
slice_saved : (o : Option Resource) → slice_moment (option_map saved_core o) ≡ slice_moment o
slice_saved None = refl
slice_saved (Some c) = refl

decide_saved : (o : Option Resource) → end_where may_core_decide (option_map saved_core o) ≡ end_where may_core_decide o
decide_saved None = refl
decide_saved (Some c) = refl

save_saved : (o : Option Resource) → end_where may_core_save (option_map saved_core o) ≡ None
save_saved None = refl
save_saved (Some c) = refl

block_saved : (j : ℕ) (o : Option Resource) → end_of_in j (option_map saved_core o) ≡ end_of_in j o
block_saved j None = refl
block_saved j (Some c) = refl

leave_saved : (j : ℕ) (o : Option Resource) → end_in j may_core_part is_held_back (option_map saved_core o) ≡ end_in j may_core_part is_held_back o
leave_saved j None = refl
leave_saved j (Some c) = refl

-- a decision is seen by no block
block_chosen : (j t : ℕ) (unit : Option UnitId) (due : Option Moment) (o : Option Resource) → end_of_in j (option_map (chosen_core t unit due) o) ≡ end_of_in j o
block_chosen j t unit due None = refl
block_chosen j t unit due (Some c) =
    elim (same_choice unit c.cur) as (λ b. end_of_in j (Some (elim b as (λ _. Resource) [
      | true ↦ record c { due = due; pending = false; stage = Decided }
      | false ↦ record c { saving = c.cur; cur = unit; since = moment t; due = due; pending = false; stage = Decided }
    ])) ≡ end_of_in j (Some c)) [ true ↦ refl | false ↦ refl ]

-- the processors of the core may be armed anew with their arrivals
pub may_gather_after : {g r home : ℕ} {first : Option ℕ} {cores now : List (Option Resource)} {works after : List (Option Moment)} {dues : Dues} (f : Resource → Resource)
    → IsKept (seen_of g cores works) home first dues → IsChange g r cores (change_at r f cores) works after → now ≡ change_at r f cores
    → ((o : Option Resource) → is_core_pending (option_map f o) ≡ is_core_pending o) → MayGather g r now dues.arrives
may_gather_after {g} {r} {home} {first} {cores} {now} {works} {after} {dues} f kept change is same =
    subst (λ (xs : List (Option Resource)). MayGather g r xs dues.arrives) (sym is) (record {
      others = (armed_but g r cores (change_at r f cores) works after dues kept.cores.granularity change kept.armed).arrives;
      still = λ none.
          let told : is_core_pending (option_map f (at_place cores r)) ≡ false = ap is_core_pending (sym (at_place-change_at r f cores)) ∙ none in
          let was : is_core_pending (at_place cores r) ≡ false = sym (same (at_place cores r)) ∙ told in
          but 0 0 dues.arrives (arrival_among g cores) (arrival_among g (change_at r f cores))
          (λ q h. as_before r f cores (end_in (q % g) may_gather (λ x. not (is_held_back x))) (none_arrives (q % g) (option_map f (at_place cores r)) told ∙ sym (none_arrives (q % g) (at_place cores r) was)) (q / g))
          kept.armed.arrives;
    })

-- a change of the core of p that is seen by no slice, and by no block and leave of its other processors
module _ (g p : ℕ) (f : Resource → Resource) (cores : List (Option Resource)) (works : List (Option Moment)) (work : Option Moment) (dues : Dues) (granularity : IsGranularity g) (few : length cores * g ≤ 64)
    (change : IsChange g (p / g) cores (change_at (p / g) f cores) works (slice_set works p work)) (are : AreArmed (seen_of g cores works) dues) where
  abbrev told : List (Option Resource)
  told = change_at (p / g) f cores

  abbrev after : List (Option Moment)
  after = slice_set works p work

  few_told : length told * g ≤ 64
  few_told = subst (λ (n : ℕ). n * g ≤ 64) (sym change.places) few

  abbrev rest : AreArmedBut (p / g) (p / g + 1) (p / g * g) (p / g * g + g) (seen_of g told after) dues
  rest = armed_but g (p / g) cores told works after dues granularity change are

  -- what of other processors of the core does not see the change
  of_others : (h : ℕ → Option Resource → Option Moment) → ((j : ℕ) → p % g ≢ j → h j (option_map f (at_place cores (p / g))) ≡ h j (at_place cores (p / g))) → (q : ℕ) → q ≢ p → h (q % g) (at_place told (q / g)) ≡ h (q % g) (at_place cores (q / g))
  of_others h unseen q ne = elim (ℕ_discrete (q / g) (p / g)) [
    | no other ↦ ap (h (q % g)) (at_place-change_at_other (p / g) (q / g) f cores other)
    | yes e ↦ as_before (p / g) f cores (h (q % g)) (unseen (q % g) (λ i. ne (same_place g p q granularity e (sym i)))) (q / g)
  ]

  past_core : 64 ≤ p / g → at_place told (p / g) ≡ None
  past_core past = core_past told (p / g) (few_places g (length told) granularity few_told) past

  past_processor : 64 ≤ p → at_place told (p / g) ≡ None
  past_processor past = core_of_past g told p granularity few_told past

  module _ (slices : slice_moment (option_map f (at_place cores (p / g))) ≡ slice_moment (at_place cores (p / g)))
      (blocks : (j : ℕ) → p % g ≢ j → end_of_in j (option_map f (at_place cores (p / g))) ≡ end_of_in j (at_place cores (p / g)))
      (leaves : (j : ℕ) → p % g ≢ j → end_in j may_core_part is_held_back (option_map f (at_place cores (p / g))) ≡ end_in j may_core_part is_held_back (at_place cores (p / g))) where
    pub work_armed : (arrives : List (Option Moment)) → AgreesBut 0 0 arrives (arrival_among g told) → AreArmed (seen_of g told after) (record (with_work_ends g p told after dues) { arrives = arrives })
    work_armed arrives arrivals =
        let before = seen_of g cores works in
        let now = seen_of g told after in
        record {
          slices = but 0 0 dues.slices (λ i. ready_among before (Slice (core_number i))) (λ i. ready_among now (Slice (core_number i))) (λ i h. as_before (p / g) f cores slice_moment slices i) are.slices;
          decides = armed_one (p / g) dues.decides (λ i. ready_among now (Decide (core_number i))) (λ past. ap (λ (o : Option Resource). end_where may_core_decide o) (past_core past)) rest.decides;
          saves = armed_one (p / g) dues.saves (λ i. ready_among now (Save (core_number i))) (λ past. ap (λ (o : Option Resource). end_where may_core_save o) (past_core past)) rest.saves;
          blocks = armed_one p dues.blocks (λ i. ready_among now (Block (processor i))) (λ past. block_past now p (past_processor past))
              (but p (p + 1) dues.blocks (λ i. ready_among before (Block (processor i))) (λ i. ready_among now (Block (processor i)))
              (λ q h.
              ap (λ (w : Option Moment). later_of w (end_of (processor_among g told q))) (get_or-set_other works p q work None (apart_from p q h))
              ∙ ap (later_of (at_place works q)) (of_others end_of_in blocks q (apart_from p q h))) are.blocks);
          arrives = arrivals;
          leaves = armed_one p dues.leaves (λ i. ready_among now (Leave (processor i))) (λ past. sibling_past g p may_core_part is_held_back told (past_processor past))
              (but p (p + 1) dues.leaves (λ i. ready_among before (Leave (processor i))) (λ i. ready_among now (Leave (processor i)))
              (λ q h. of_others (λ j. end_in j may_core_part is_held_back) leaves q (apart_from p q h)) are.leaves);
        }

    pub arrives_armed : ((j : ℕ) → p % g ≢ j → end_in j may_gather (λ q. not (is_held_back q)) (option_map f (at_place cores (p / g))) ≡ end_in j may_gather (λ q. not (is_held_back q)) (at_place cores (p / g)))
        → AreArmed (seen_of g told after) (with_step_ends g p told after dues)
    arrives_armed arrives =
        work_armed (slice_set dues.arrives p (arrival_among g told p))
        (armed_one p dues.arrives (arrival_among g told) (λ past. sibling_past g p may_gather (λ q. not (is_held_back q)) told (past_processor past))
        (but p (p + 1) dues.arrives (arrival_among g cores) (arrival_among g told)
        (λ q h. of_others (λ j. end_in j may_gather (λ x. not (is_held_back x))) arrives q (apart_from p q h)) are.arrives))

-- the sets in hand are right after a step
pub step_armed : (p : ℕ) (work : Option Moment) (d : Doing) {g home : ℕ} {first : Option ℕ} {cores now : List (Option Resource)} {works so : List (Option Moment)} {dues dues' : Dues}
    → IsKept (seen_of g cores works) home first dues → IsChange g (p / g) cores (change_at (p / g) (with_sibling (p % g) (with_doing d)) cores) works (slice_set works p work)
    → now ≡ change_at (p / g) (with_sibling (p % g) (with_doing d)) cores → so ≡ slice_set works p work → dues' ≡ with_step_ends g p now so dues → AreArmed (seen_of g now so) dues'
step_armed p work d {g} {home} {first} {cores} {now} {works} {so} {dues} {dues'} kept change is is_so ends =
    let f : Resource → Resource = with_sibling (p % g) (with_doing d) in
    let o : Option Resource = at_place cores (p / g) in
    subst (λ (end : Dues). AreArmed (seen_of g now so) end) (sym ends)
    (subst (λ (xs : List (Option Resource)). AreArmed (seen_of g xs so) (with_step_ends g p xs so dues)) (sym is)
    (subst (λ (ws : List (Option Moment)). AreArmed (seen_of g (change_at (p / g) f cores) ws) (with_step_ends g p (change_at (p / g) f cores) ws dues)) (sym is_so)
    (arrives_armed g p f cores works work dues kept.cores.granularity kept.cores.places change kept.armed (slice_step (p % g) d o) (λ j ne. block_step (p % g) j d o ne) (λ j ne. leave_step (p % g) j d o ne) (λ j ne. arrive_step (p % g) j d o ne))))

-- and after a processor left
pub left_armed : (p : ℕ) (work : Option Moment) (d : Doing) {g home : ℕ} {first : Option ℕ} {cores now : List (Option Resource)} {works so : List (Option Moment)} {dues dues' : Dues}
    → IsKept (seen_of g cores works) home first dues → IsChange g (p / g) cores (change_at (p / g) (left_core (p % g) d) cores) works (slice_set works p work)
    → now ≡ change_at (p / g) (left_core (p % g) d) cores → so ≡ slice_set works p work → dues' ≡ record (with_work_ends g p now so dues) { arrives = dues'.arrives } → AgreesBut 0 0 dues'.arrives (arrival_among g now) → AreArmed (seen_of g now so) dues'
left_armed p work d {g} {home} {first} {cores} {now} {works} {so} {dues} {dues'} kept change is is_so ends arrivals =
    let f : Resource → Resource = left_core (p % g) d in
    let o : Option Resource = at_place cores (p / g) in
    subst (λ (end : Dues). AreArmed (seen_of g now so) end) (sym ends)
    (subst (λ (xs : List (Option Resource)). AgreesBut 0 0 dues'.arrives (arrival_among g xs) → AreArmed (seen_of g xs so) (record (with_work_ends g p xs so dues) { arrives = dues'.arrives })) (sym is)
    (subst (λ (ws : List (Option Moment)). AgreesBut 0 0 dues'.arrives (arrival_among g (change_at (p / g) f cores)) → AreArmed (seen_of g (change_at (p / g) f cores) ws) (record (with_work_ends g p (change_at (p / g) f cores) ws dues) { arrives = dues'.arrives })) (sym is_so)
    (work_armed g p f cores works work dues kept.cores.granularity kept.cores.places change kept.armed (slice_left (p % g) d o) (λ j ne. block_left (p % g) j d o ne) (λ j ne. leave_left (p % g) j d o ne) dues'.arrives)) arrivals)

-- and after a save
pub saved_armed : (r : ℕ) {g home : ℕ} {first : Option ℕ} {cores now : List (Option Resource)} {works : List (Option Moment)} {dues dues' : Dues}
    → IsKept (seen_of g cores works) home first dues → IsChange g r cores (change_at r saved_core cores) works works
    → now ≡ change_at r saved_core cores → dues' ≡ record dues { saves = slice_set dues.saves r None; arrives = dues'.arrives } → AgreesBut 0 0 dues'.arrives (arrival_among g now) → AreArmed (seen_of g now works) dues'
saved_armed r {g} {home} {first} {cores} {now} {works} {dues} {dues'} kept change is ends arrivals =
    subst (λ (end : Dues). AreArmed (seen_of g now works) end) (sym ends)
    (subst (λ (xs : List (Option Resource)). AgreesBut 0 0 dues'.arrives (arrival_among g xs) → AreArmed (seen_of g xs works) (record dues { saves = slice_set dues.saves r None; arrives = dues'.arrives })) (sym is) told_armed arrivals)
  where
    here : end_where may_core_save (at_place (change_at r saved_core cores) r) ≡ None
    here = ap (λ (o : Option Resource). end_where may_core_save o) (at_place-change_at r saved_core cores) ∙ save_saved (at_place cores r)

    told_armed : AgreesBut 0 0 dues'.arrives (arrival_among g (change_at r saved_core cores)) → AreArmed (seen_of g (change_at r saved_core cores) works) (record dues { saves = slice_set dues.saves r None; arrives = dues'.arrives })
    told_armed arrivals =
        let before = seen_of g cores works in
        let after = seen_of g (change_at r saved_core cores) works in
        let are = kept.armed in
        record {
          slices = but 0 0 dues.slices (λ i. ready_among before (Slice (core_number i))) (λ i. ready_among after (Slice (core_number i))) (λ i h. as_before r saved_core cores slice_moment (slice_saved (at_place cores r)) i) are.slices;
          decides = but 0 0 dues.decides (λ i. ready_among before (Decide (core_number i))) (λ i. ready_among after (Decide (core_number i))) (λ i h. as_before r saved_core cores (λ o. end_where may_core_decide o) (decide_saved (at_place cores r)) i) are.decides;
          saves = subst (λ (end : Option Moment). AgreesBut 0 0 (slice_set dues.saves r end) (λ i. ready_among after (Save (core_number i)))) here
              (armed_one r dues.saves (λ i. ready_among after (Save (core_number i))) (λ past. here) (armed_but g r cores (change_at r saved_core cores) works works dues kept.cores.granularity change are).saves);
          blocks = but 0 0 dues.blocks (λ i. ready_among before (Block (processor i))) (λ i. ready_among after (Block (processor i)))
              (λ q h. ap (later_of (at_place works q)) (as_before r saved_core cores (end_of_in (q % g)) (block_saved (q % g) (at_place cores r)) (q / g))) are.blocks;
          arrives = arrivals;
          leaves = but 0 0 dues.leaves (λ i. ready_among before (Leave (processor i))) (λ i. ready_among after (Leave (processor i)))
              (λ q h. as_before r saved_core cores (end_in (q % g) may_core_part is_held_back) (leave_saved (q % g) (at_place cores r)) (q / g)) are.leaves;
        }

-- and after a decision
pub decided_armed : (r t : ℕ) (unit : Option UnitId) (due : Option Moment) {g home : ℕ} {first : Option ℕ} {cores now : List (Option Resource)} {works : List (Option Moment)} {dues dues' : Dues}
    → IsKept (seen_of g cores works) home first dues → IsChange g r cores (change_at r (chosen_core t unit due) cores) works works
    → now ≡ change_at r (chosen_core t unit due) cores → dues' ≡ record (with_core_ends r (at_place now r) dues) { arrives = dues'.arrives; leaves = dues'.leaves }
    → AgreesBut 0 0 dues'.arrives (arrival_among g now) → AgreesBut 0 0 dues'.leaves (leaving_among g now) → AreArmed (seen_of g now works) dues'
decided_armed r t unit due {g} {home} {first} {cores} {now} {works} {dues} {dues'} kept change is ends arrivals leavings =
    subst (λ (end : Dues). AreArmed (seen_of g now works) end) (sym ends)
    (subst (λ (xs : List (Option Resource)). AgreesBut 0 0 dues'.arrives (arrival_among g xs) → AgreesBut 0 0 dues'.leaves (leaving_among g xs) → AreArmed (seen_of g xs works) (record (with_core_ends r (at_place xs r) dues) { arrives = dues'.arrives; leaves = dues'.leaves })) (sym is) told_armed arrivals leavings)
  where
    few_told : length (change_at r (chosen_core t unit due) cores) ≤ 64
    few_told = few_after kept change refl

    told_armed : AgreesBut 0 0 dues'.arrives (arrival_among g (change_at r (chosen_core t unit due) cores)) → AgreesBut 0 0 dues'.leaves (leaving_among g (change_at r (chosen_core t unit due) cores)) → AreArmed (seen_of g (change_at r (chosen_core t unit due) cores) works) (record (with_core_ends r (at_place (change_at r (chosen_core t unit due) cores) r) dues) { arrives = dues'.arrives; leaves = dues'.leaves })
    told_armed arrivals leavings =
        let before = seen_of g cores works in
        let after = seen_of g (change_at r (chosen_core t unit due) cores) works in
        let are = kept.armed in
        let rest = armed_but g r cores (change_at r (chosen_core t unit due) cores) works works dues kept.cores.granularity change are in
        record {
          slices = armed_one r dues.slices (λ i. ready_among after (Slice (core_number i))) (λ past. ap slice_moment (core_past (change_at r (chosen_core t unit due) cores) r few_told past)) rest.slices;
          decides = armed_one r dues.decides (λ i. ready_among after (Decide (core_number i))) (λ past. ap (λ (o : Option Resource). end_where may_core_decide o) (core_past (change_at r (chosen_core t unit due) cores) r few_told past)) rest.decides;
          saves = armed_one r dues.saves (λ i. ready_among after (Save (core_number i))) (λ past. ap (λ (o : Option Resource). end_where may_core_save o) (core_past (change_at r (chosen_core t unit due) cores) r few_told past)) rest.saves;
          blocks = but 0 0 dues.blocks (λ i. ready_among before (Block (processor i))) (λ i. ready_among after (Block (processor i)))
              (λ q h. ap (later_of (at_place works q)) (as_before r (chosen_core t unit due) cores (end_of_in (q % g)) (block_chosen (q % g) t unit due (at_place cores r)) (q / g))) are.blocks;
          arrives = arrivals;
          leaves = leavings;
        }
