-- A stall of a core that no pool has.
use Rattle.sched_base.specs.Numbers.{moment}
use Rattle.std.proofs.Common.{◌≡◌, ◌/◌, ◌%◌, ℕ, zero, suc, List, [], ◌∷◌, Option, Some, None, map, refl, sym, ◌∙◌, ap}
use Rattle.std.specs.Prelude.{option_map, slice_get, max}
use Rattle.sched_base.specs.declared.Moment.{Moment}
use Rattle.sched_model.specs.declared.machine.Machine.{Machine}
use Rattle.sched_model.specs.declared.state.FreeCore.{FreeCore}
use Rattle.sched_model.specs.declared.state.State.{State}
use Rattle.sched_model.specs.Places.{at_place, change_at, change_item}
use Rattle.sched_model.specs.Actions.{home_pool_of_core, change_pool}
use Rattle.sched_model.specs.Pool.{change_processor}
use Rattle.sched_model.specs.Machine.{later_stall_end, state_with_stall}
use Rattle.sched_model.proofs.PlaceLemmas.{at_place-map}
use Rattle.journal_core.specs.Parts.{UnderWay, ToolPart, first_answer, core_to_join, pool_under_way, tool_of as part_of_tool}
use Rattle.cpupool.specs.Tool.{free_core_ends}
use Rattle.cpupool.specs.Dues.{free_stall_end, free_stalled}
use Rattle.cpupool.proofs.AnswerLemmas.{answer_change}

-- a place changed, seen through g
pub map_changed : {X Y : Type 0} (g : X → Y) (f : X → X) (h : Y → Y) → ((x : X) → g (f x) ≡ h (g x)) → (i : ℕ) (places : List (Option X)) → map (option_map g) (change_at i f places) ≡ change_at i h (map (option_map g) places)
map_changed g f h same i [] = refl
map_changed g f h same zero (None ∷ places) = refl
map_changed g f h same zero (Some x ∷ places) = ap (λ y. Some y ∷ map (option_map g) places) (same x)
map_changed g f h same (suc i) (x ∷ places) = ap (λ rest. option_map g x ∷ rest) (map_changed g f h same i places)

module _ (m : Machine) (s : State) (p : ℕ) (free : home_pool_of_core s (p / m.config.granularity) ≡ None) where
  abbrev r : ℕ
  r = p / m.config.granularity

  abbrev i : ℕ
  i = p % m.config.granularity

  pub end-seen : (end : ℕ) → free_stall_end (part_of_tool s) r i end ≡ later_stall_end m.config.granularity s p end
  end-seen end =
      let by_ends : Option (List Moment) → ℕ = λ o. elim o [ None ↦ end | Some ends ↦ elim (slice_get ends i) [ None ↦ end | Some old ↦ max old.0 end ] ] in
      let at_home : ℕ → ℕ = λ k. elim (at_place s.pools k) [
        | None ↦ end
        | Some pool ↦ elim (at_place pool.resources r) [ None ↦ end | Some c ↦ elim (slice_get c.processors i) [ None ↦ end | Some q ↦ max q.stall_end.0 end ] ]
      ] in
      let by_core : Option FreeCore → ℕ = λ o. elim o [ None ↦ end | Some c ↦ elim (slice_get c.stall_ends i) [ None ↦ end | Some old ↦ max old.0 end ] ] in
      let by_home : Option ℕ → ℕ = λ o. elim o [ None ↦ by_core (at_place s.free r) | Some k ↦ at_home k ] in
      ap by_ends (at_place-map free_core_ends s.free r)
      ∙ elim (at_place s.free r) as (λ o. by_ends (option_map free_core_ends o) ≡ by_core o) [ None ↦ refl | Some c ↦ refl ]
      ∙ ap by_home (sym free)

  pub stalled-seen : (end : ℕ) → free_stalled (part_of_tool s) r i end ≡ part_of_tool (state_with_stall m.config.granularity p end s)
  stalled-seen end =
      let f : FreeCore → FreeCore = λ c. record c { stall_ends = change_item i (λ old. moment end) c.stall_ends } in
      let stays : State = record s { free = change_at r f s.free } in
      let by_home : Option ℕ → State = λ o. elim o [ None ↦ stays | Some k ↦ change_pool k (change_processor m.config.granularity p (λ q. record q { stall_end = moment end })) s ] in
      let kept : List (Option (List Moment)) → Option UnderWay → ToolPart = λ ends way. record (part_of_tool s) { free = ends; under_way = way } in
      let answer : Option UnderWay → Option UnderWay = λ rest. elim (first_answer pool_under_way 0 s.pools) [ Some way ↦ Some way | None ↦ rest ] in
      ap (λ ends. kept ends (answer (first_answer core_to_join 0 s.free))) (sym (map_changed free_core_ends f (change_item i (λ old. moment end)) (λ c. refl) r s.free))
      ∙ ap (λ rest. kept (map (option_map free_core_ends) (change_at r f s.free)) (answer rest)) (sym (answer_change core_to_join f (λ n c. refl) r 0 s.free))
      ∙ ap (λ o. part_of_tool (by_home o)) (sym free)
