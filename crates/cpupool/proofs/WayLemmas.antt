-- Whether anything is on its way, and what may come next.
use Rattle.std.proofs.Common.{◌≡◌, ℕ, suc, Bool, true, false, not, ◌&&◌, List, [], ◌∷◌, Option, Some, None, refl, ◌∙◌, ap, cond}
use Rattle.std.specs.Prelude.{◌||◌, is_some, is_none, option_map, slice_get, nat_le}
use Rattle.std.specs.List.{list_any}
use Rattle.sched_model.specs.declared.machine.Machine.{Machine}
use Rattle.sched_model.specs.declared.work.CommandLine.{CommandLine}
use Rattle.sched_model.specs.declared.state.Domain.{Domain}
use Rattle.sched_model.specs.declared.state.FreeCore.{FreeCore}
use Rattle.sched_model.specs.declared.state.Pool.{Pool}
use Rattle.sched_model.specs.declared.state.Resource.{Resource}
use Rattle.sched_model.specs.declared.state.State.{State}
use Rattle.sched_model.specs.declared.action.Action.TheVariants.{Xl}
use Rattle.sched_model.specs.Places.{numbered_items}
use Rattle.sched_model.specs.Machine.{has_move_under_way, is_action_enabled}
use Rattle.sched_model.proofs.PlaceLemmas.{is_some-option_map}
use Rattle.journal_core.specs.Parts.{UnderWay, core_to, first_answer, core_to_leave, domain_to_move, core_to_join, pool_under_way, state_under_way}
use Rattle.cpupool.specs.Tool.{tool_of}
use Rattle.cpupool.specs.declared.steps.ToolEvent.TheVariants as tool_event
use Rattle.cpupool.specs.Steps.{is_stall_due, is_command_due, next_tool_event, enabled_event, move_of}

-- some place answers
any_answers : {X Y : Type 0} (f : ℕ → X → Option Y) (test : X → Bool) → ((n : ℕ) (x : X) → is_some (f n x) ≡ test x) → (n : ℕ) (places : List (Option X)) → is_some (first_answer f n places) ≡ list_any (λ e. test e.1) (numbered_items n places)
any_answers f test same n [] = refl
any_answers f test same n (None ∷ places) = any_answers f test same (suc n) places
any_answers {X} {Y} f test same n (Some x ∷ places) =
    let rest : Option Y = first_answer f (suc n) places in
    let answer : Option Y → Option Y = λ o. elim o [ Some y ↦ Some y | None ↦ rest ] in
    let found : (o : Option Y) → is_some (answer o) ≡ is_some o || is_some rest = λ o. elim o as (λ o. is_some (answer o) ≡ is_some o || is_some rest) [ Some y ↦ refl | None ↦ refl ] in
    found (f n x) ∙ ap (λ b. b || is_some rest) (same n x) ∙ ap (λ b. test x || b) (any_answers f test same (suc n) places)

leaves : (r : ℕ) (c : Resource) → is_some (core_to_leave r c) ≡ c.leaving
leaves r c = elim c.leaving as (λ b. is_some (cond b (Some (core_to r None)) None) ≡ b) [ true ↦ refl | false ↦ refl ]

moves : (d : ℕ) (domain : Domain) → is_some (domain_to_move d domain) ≡ is_some domain.moving
moves d domain = is_some-option_map _ domain.moving

joins : (r : ℕ) (c : FreeCore) → is_some (core_to_join r c) ≡ is_some c.target
joins r c = is_some-option_map _ c.target

-- one answer or the other
either : (a b : Option UnderWay) → is_some (elim a [ Some way ↦ Some way | None ↦ b ]) ≡ is_some a || is_some b
either (Some way) b = refl
either None b = refl

in_pool : (i : ℕ) (pool : Pool) → is_some (pool_under_way i pool) ≡ list_any (λ c. c.1.leaving) (numbered_items 0 pool.resources) || list_any (λ d. is_some d.1.moving) (numbered_items 0 pool.domains)
in_pool i pool =
    either (first_answer core_to_leave 0 pool.resources) (first_answer domain_to_move 0 pool.domains)
    ∙ ap (λ b. b || is_some (first_answer domain_to_move 0 pool.domains)) (any_answers core_to_leave (λ c. c.leaving) leaves 0 pool.resources)
    ∙ ap (λ b. list_any (λ c. c.1.leaving) (numbered_items 0 pool.resources) || b) (any_answers domain_to_move (λ d. is_some d.moving) moves 0 pool.domains)

pub under_way-seen : (s : State) → is_some (state_under_way s) ≡ has_move_under_way s
under_way-seen s =
    either (first_answer pool_under_way 0 s.pools) (first_answer core_to_join 0 s.free)
    ∙ ap (λ b. b || is_some (first_answer core_to_join 0 s.free)) (any_answers pool_under_way (λ pool. list_any (λ c. c.1.leaving) (numbered_items 0 pool.resources) || list_any (λ d. is_some d.1.moving) (numbered_items 0 pool.domains)) in_pool 0 s.pools)
    ∙ ap (λ b. list_any (λ e. list_any (λ c. c.1.leaving) (numbered_items 0 e.1.resources) || list_any (λ d. is_some d.1.moving) (numbered_items 0 e.1.domains)) (numbered_items 0 s.pools) || b) (any_answers core_to_join (λ c. is_some c.target) joins 0 s.free)

-- what is told of a move is there where something is on its way
pub way_seen : (m : Machine) (s : State) → is_some (option_map (move_of (tool_of m s).part) (tool_of m s).part.under_way) ≡ has_move_under_way s
way_seen m s = is_some-option_map (move_of (tool_of m s).part) (state_under_way s) ∙ under_way-seen s

not_some : {X : Type 0} (x : Option X) → is_none x ≡ not (is_some x)
not_some None = refl
not_some (Some x) = refl

idle : (s : State) → is_none (state_under_way s) ≡ not (has_move_under_way s)
idle s = not_some (state_under_way s) ∙ ap not (under_way-seen s)

pub command-seen : (m : Machine) (s : State) (t : ℕ) → is_command_due (tool_of m s) t ≡ is_action_enabled m s t Xl
command-seen m s t =
    let comes : Bool → Option CommandLine → Bool = λ b o. elim o [ None ↦ false | Some line ↦ nat_le line.at.0 t && b ] in
    ap (λ b. comes b (slice_get m.work.commands s.next_command)) (idle s)

-- what may come at t
pub event_seen : (m : Machine) (s : State) (t : ℕ) → next_tool_event (tool_of m s) t ≡ enabled_event m s t
event_seen m s t =
    ap (λ b. cond (is_stall_due (tool_of m s) t) (Some (tool_event.Stall s.next_stall)) (cond b (Some (tool_event.Command s.next_command)) None)) (command-seen m s t)
