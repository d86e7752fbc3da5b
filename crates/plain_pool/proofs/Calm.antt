-- Of a calm core nothing may come but its due and the blocks of its processors.
use Rattle.std.proofs.Common.{◌≡◌, ◌∙◌, ℕ, List, [], ◌∷◌, Bool, true, false, refl, sym, ap}
use Rattle.std.specs.Prelude.{◌&&◌, ◌||◌, not, Option, Some, None, is_none, is_some, if◌then◌else◌}
use Rattle.std.specs.List.{list_all, list_any}
use Rattle.std.proofs.lemmas.Bool.{not-true}
use Rattle.sched_base.specs.declared.Moment.{Moment}
use Rattle.sched_base.specs.declared.UnitId.{UnitId}
use Rattle.sched_base.proofs.Bools.{and_left, and_right, or_left, or_right}
use Rattle.sched_model.specs.declared.state.Pool.{Pool}
use Rattle.sched_model.specs.declared.state.Processor.{Processor}
use Rattle.sched_model.specs.declared.state.Resource.{Resource}
use Rattle.sched_model.specs.Pool.{is_gathering, is_held_back}
use Rattle.pool_laws.specs.ReadyMoments.{first_stall_end, guarded_moment, may_core_move, may_gather}
use Rattle.plain_pool.specs.Ready.{block_moment, decide_moment, due_moment, is_core_calm, is_to_decide, least_each, least_of_blocks, least_of_core, least_of_processor, lesser_moment, move_moment, moved_moment, save_moment}

none_guarded : (b : Bool) → guarded_moment b None ≡ None
none_guarded true = refl
none_guarded false = refl

-- no processor that is not held moves
not_moved : (c : Resource) (q : Processor) → c.pending ≡ false → is_held_back q ≡ false → move_moment c q ≡ None
unfolding move_moment
not_moved c q still free =
    ap (λ (held : Bool). if held then guarded_moment (not (is_gathering c)) (Some q.stall_end) else guarded_moment (may_gather c) (Some q.stall_end)) free
    ∙ ap (λ (pending : Bool). guarded_moment (pending && is_gathering c && is_none c.saving) (Some q.stall_end)) still

blocks_alone : (pool : Pool) (c : Resource) (best : ℕ) (qs : List Processor) → c.pending ≡ false → list_any is_held_back qs ≡ false → least_of_blocks pool best qs ≡ least_each (least_of_processor pool c) best qs
blocks_alone pool c best [] still free = refl
blocks_alone pool c best (q ∷ qs) still free =
    let none : move_moment c q ≡ None = not_moved c q still (or_left (is_held_back q) (list_any is_held_back qs) free) in
    let step : lesser_moment best (block_moment pool q) ≡ least_of_processor pool c best q = ap (λ (o : Option Moment). lesser_moment (lesser_moment best o) (block_moment pool q)) (sym none) in
    blocks_alone pool c (lesser_moment best (block_moment pool q)) qs still (or_right (is_held_back q) (list_any is_held_back qs) free)
    ∙ ap (λ (n : ℕ). least_each (least_of_processor pool c) n qs) step

-- nor does the core decide, save or leave the pool
abbrev end_first : List Processor → Option Moment
end_first qs = elim qs as (λ _. Option Moment) [ [] ↦ None | q ∷ rest ↦ Some q.stall_end ]

undecided : (b : Bool) (qs : List Processor) → list_any is_held_back qs ≡ false → guarded_moment (list_all is_held_back qs && b) (end_first qs) ≡ None
undecided b [] free = none_guarded b
undecided b (q ∷ qs) free = ap (λ (held : Bool). guarded_moment ((held && list_all is_held_back qs) && b) (Some q.stall_end)) (or_left (is_held_back q) (list_any is_held_back qs) free)

not_decided : (c : Resource) → list_any is_held_back c.processors ≡ false → decide_moment c ≡ None
unfolding decide_moment
not_decided c free = undecided (is_gathering c) c.processors free

saves_none : (o : Option UnitId) (b : Bool) (end : Option Moment) → is_none o ≡ true → guarded_moment (is_some o && b) end ≡ None
saves_none None b end none = refl
saves_none (Some u) b end none = absurd (cc)

not_saved : (c : Resource) → is_none c.saving ≡ true → save_moment c ≡ None
unfolding save_moment
not_saved c none = saves_none c.saving (not (list_any is_held_back c.processors)) (first_stall_end c) none

not_leaving : (c : Resource) → c.leaving ≡ false → moved_moment c ≡ None
unfolding moved_moment
not_leaving c stays = ap (λ (leaving : Bool). guarded_moment (leaving && is_none c.cur && is_none c.saving && not c.pending && is_gathering c) (first_stall_end c)) stays

pub calm_least : (pool : Pool) (c : Resource) (best : ℕ) → is_core_calm c ≡ true → lesser_moment (least_of_blocks pool best c.processors) (due_moment c) ≡ least_of_core pool best c
unfolding least_of_core
calm_least pool c best calm =
    let rest : (not c.leaving && (is_none c.saving && not (list_any is_held_back c.processors))) ≡ true = and_right (not c.pending) _ calm in
    let last : (is_none c.saving && not (list_any is_held_back c.processors)) ≡ true = and_right (not c.leaving) _ rest in
    let still : c.pending ≡ false = not-true c.pending (and_left (not c.pending) _ calm) in
    let stays : c.leaving ≡ false = not-true c.leaving (and_left (not c.leaving) _ rest) in
    let none : is_none c.saving ≡ true = and_left (is_none c.saving) _ last in
    let free : list_any is_held_back c.processors ≡ false = not-true (list_any is_held_back c.processors) (and_right (is_none c.saving) _ last) in
    let due : ℕ = lesser_moment (least_each (least_of_processor pool c) best c.processors) (due_moment c) in
    ap (λ (n : ℕ). lesser_moment n (due_moment c)) (blocks_alone pool c best c.processors still free)
    ∙ ap (lesser_moment due) (sym (not_decided c free))
    ∙ ap (lesser_moment (lesser_moment due (decide_moment c))) (sym (not_saved c none))
    ∙ ap (lesser_moment (lesser_moment (lesser_moment due (decide_moment c)) (save_moment c))) (sym (not_leaving c stays))
