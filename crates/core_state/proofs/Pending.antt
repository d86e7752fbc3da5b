-- What a core that is to decide anew leaves as it was: all moments but its own slice and the arrivals of its processors.
use Rattle.sched_base.specs.Numbers.{core as core_number, processor}
use Rattle.std.proofs.Common.{◌≡◌, ◌+◌, ◌*◌, ◌/◌, ◌%◌, ◌≤◌, ℕ, List, ◌∙◌, refl, sym, ap, subst, arith, inl, inr, length}
use Rattle.std.specs.Prelude.{not, Option, Some, None, option_map, slice_set}
use Rattle.std.proofs.Math.Decide.{ℕ_discrete}
use Rattle.sched_base.specs.declared.Moment.{Moment}
use Rattle.sched_model.specs.declared.action.Action.TheVariants.{Block, Decide, Leave, Save}
use Rattle.sched_model.specs.declared.state.Resource.{Resource}
use Rattle.sched_model.specs.CheckedMachine.{IsGranularity}
use Rattle.sched_model.specs.Places.{at_place, change_at}
use Rattle.sched_model.specs.Pool.{is_held_back, pending_core}
use Rattle.sched_model.proofs.PlaceLemmas.{at_place-change_at_other}
use Rattle.sched_laws.proofs.EachPlace.{at_place-change_at}
use Rattle.pool_laws.specs.ReadyMoments.{later_of, end_of, end_where, may_gather, slice_moment}
use Rattle.core_state.specs.declared.dues.Dues.{Dues}
use Rattle.core_state.specs.Seen.{core_sibling}
use Rattle.core_state.specs.Ends.{arrival_among, may_core_decide, may_core_save, may_core_part, ready_among, sibling_end}
use Rattle.core_state.specs.CoreState.{AgreesBut, AreArmed}
use Rattle.core_state.proofs.Arming.{all, but, next, other_core, sibling_same}
use Rattle.core_state.proofs.ChangeLemmas.{seen_of}

decide_unseen : (o : Option Resource) → end_where may_core_decide (option_map pending_core o) ≡ end_where may_core_decide o
decide_unseen None = refl
decide_unseen (Some c) = refl

save_unseen : (o : Option Resource) → end_where may_core_save (option_map pending_core o) ≡ end_where may_core_save o
save_unseen None = refl
save_unseen (Some c) = refl

block_unseen : (work : Option Moment) (i : ℕ) (o : Option Resource) → later_of work (end_of (core_sibling (option_map pending_core o) i)) ≡ later_of work (end_of (core_sibling o i))
block_unseen work i None = refl
block_unseen work i (Some c) = refl

leave_unseen : (i : ℕ) (o : Option Resource)
    → sibling_end may_core_part is_held_back (option_map pending_core o) (core_sibling (option_map pending_core o) i) ≡ sibling_end may_core_part is_held_back o (core_sibling o i)
leave_unseen i None = refl
leave_unseen i (Some c) = refl

no_slice : (o : Option Resource) → slice_moment (option_map pending_core o) ≡ None
no_slice None = refl
no_slice (Some c) = refl

module _ (g r : ℕ) (cores : List (Option Resource)) (works : List (Option Moment)) (dues : Dues) (granularity : IsGranularity g) (few : length cores * g ≤ 64) (are : AreArmed (seen_of g cores works) dues) where
  abbrev told : List (Option Resource)
  told = change_at r pending_core cores

  -- what does not see that a core is to decide is as it was
  as_before : {X : Type 0} (h : Option Resource → X) → ((o : Option Resource) → h (option_map pending_core o) ≡ h o) → (i : ℕ) → h (at_place told i) ≡ h (at_place cores i)
  as_before {X} h unseen i = elim (ℕ_discrete i r) [
    | yes e ↦ subst (λ (k : ℕ). h (at_place told k) ≡ h (at_place cores k)) (sym e) (ap h (at_place-change_at r pending_core cores) ∙ unseen (at_place cores r))
    | no ne ↦ ap h (at_place-change_at_other r i pending_core cores ne)
  ]

  pub arrivals_but : AgreesBut (r * g) (r * g + g) dues.arrives (arrival_among g told)
  arrivals_but = but (r * g) (r * g + g) dues.arrives (arrival_among g cores) (arrival_among g told)
      (λ p h. sibling_same g p may_gather (λ q. not (is_held_back q)) cores told (at_place-change_at_other r (p / g) pending_core cores (other_core g r p granularity h))) are.arrives

  slices_told : AgreesBut 0 0 (slice_set dues.slices r None) (λ i. slice_moment (at_place told i))
  slices_told =
      let here : slice_moment (at_place told r) ≡ None = ap slice_moment (at_place-change_at r pending_core cores) ∙ no_slice (at_place cores r) in
      let others : AgreesBut r (r + 1) dues.slices (λ i. slice_moment (at_place told i)) =
      but r (r + 1) dues.slices (λ i. slice_moment (at_place cores i)) (λ i. slice_moment (at_place told i))
      (λ i h. ap slice_moment (at_place-change_at_other r i pending_core cores (elim h [ inl lt ↦ λ e. omega (arith, lt, e) | inr ge ↦ λ e. omega (arith, ge, e) ]))) are.slices in
      all (r + 1) (r + 1) (slice_set dues.slices r None) (λ i. slice_moment (at_place told i)) (omega arith)
      (subst (λ (end : Option Moment). AgreesBut (r + 1) (r + 1) (slice_set dues.slices r end) (λ i. slice_moment (at_place told i))) here
      (next r (r + 1) dues.slices (λ i. slice_moment (at_place told i)) (λ past. here) others))

  pub pending_armed : (arrives : List (Option Moment)) → AgreesBut 0 0 arrives (arrival_among g told)
      → AreArmed (seen_of g told works) (record dues { slices = slice_set dues.slices r None; arrives = arrives })
  pending_armed arrives arrivals =
      let before = seen_of g cores works in
      let now = seen_of g told works in
      record {
        slices = slices_told;
        decides = but 0 0 dues.decides (λ i. ready_among before (Decide (core_number i))) (λ i. ready_among now (Decide (core_number i))) (λ i h. as_before (λ o. end_where may_core_decide o) decide_unseen i) are.decides;
        saves = but 0 0 dues.saves (λ i. ready_among before (Save (core_number i))) (λ i. ready_among now (Save (core_number i))) (λ i h. as_before (λ o. end_where may_core_save o) save_unseen i) are.saves;
        blocks = but 0 0 dues.blocks (λ i. ready_among before (Block (processor i))) (λ i. ready_among now (Block (processor i)))
            (λ p h. as_before (λ o. later_of (at_place works p) (end_of (core_sibling o (p % g)))) (block_unseen (at_place works p) (p % g)) (p / g)) are.blocks;
        arrives = arrivals;
        leaves = but 0 0 dues.leaves (λ i. ready_among before (Leave (processor i))) (λ i. ready_among now (Leave (processor i)))
            (λ p h. as_before (λ o. sibling_end may_core_part is_held_back o (core_sibling o (p % g))) (leave_unseen (p % g)) (p / g)) are.leaves;
      }
