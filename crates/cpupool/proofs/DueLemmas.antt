-- The least later moment.
use Rattle.std.proofs.Common.{◌≡◌, ℕ, Bool, true, false, ◌&&◌, List, [], ◌∷◌, Option, Some, None, refl, sym, ◌∙◌, ap, cond, arith}
use Rattle.std.specs.Prelude.{◌||◌, option_map, slice_get, is_none, nat_le}
use Rattle.std.proofs.lemmas.Bool.Decides.{nat_tests}
use Rattle.sched_base.specs.declared.Moment.{Moment}
use Rattle.sched_model.specs.declared.work.StallLine.{StallLine}
use Rattle.sched_model.specs.declared.work.CommandLine.{CommandLine}
use Rattle.sched_model.specs.Places.{at_place}
use Rattle.journal_core.specs.Parts.{ToolPart, UnderWay, core_to, domain_to}
use Rattle.cpupool.specs.Tool.{Tool}
use Rattle.cpupool.specs.Steps.{is_stall_due, is_command_due, joining_ready, first_end_up}
use Rattle.cpupool.specs.Dues.{is_anything_due, has_come, sooner_of, moment_past, stall_moment, command_moment, joining_moment, first_free_end, soonest_moment}
use Rattle.journal_core.specs.ToolActions.{IsLeastLater}

-- a moment after which something is due
later_least : (t : ℕ) (at : Option Moment) → IsLeastLater t (has_come at) (moment_past t at)
later_least t None = λ later after. refl
later_least t (Some at) = (omega arith, grind (arith, nat_tests), λ later after before. grind (arith, nat_tests))

either_come : (a b : Option Moment) (t : ℕ) → has_come (sooner_of a b) t ≡ has_come a t || has_come b t
either_come None b t = refl
either_come (Some a) None t = elim (nat_le a.0 t) as (λ x. x ≡ x || false) [ true ↦ refl | false ↦ refl ]
either_come (Some a) (Some b) t = grind (arith, nat_tests)

stall_come : (tool : Tool) (t : ℕ) → has_come (stall_moment tool) t ≡ is_stall_due tool t
stall_come tool t = elim (slice_get tool.stalls tool.part.next_stall) as (λ o. has_come (option_map (λ (line : StallLine). line.at) o) t ≡ (elim o [ None ↦ false | Some line ↦ nat_le line.at.0 t ])) [ None ↦ refl | Some line ↦ refl ]

command_come : (tool : Tool) (t : ℕ) → has_come (command_moment tool) t ≡ is_command_due tool t
command_come tool t = by_idle (is_none tool.part.under_way) (slice_get tool.commands tool.part.next_command)
  where
    by_idle : (idle : Bool) (o : Option CommandLine) → has_come (cond idle (option_map (λ (line : CommandLine). line.at) o) None) t ≡ (elim o [ None ↦ false | Some line ↦ nat_le line.at.0 t && idle ])
    by_idle true None = refl
    by_idle true (Some line) = elim (nat_le line.at.0 t) as (λ b. b ≡ b && true) [ true ↦ refl | false ↦ refl ]
    by_idle false None = refl
    by_idle false (Some line) = elim (nat_le line.at.0 t) as (λ b. false ≡ b && false) [ true ↦ refl | false ↦ refl ]

end_come : (t : ℕ) (ends : Option (List Moment)) → has_come (first_free_end ends) t ≡ first_end_up t ends
end_come t None = refl
end_come t (Some []) = refl
end_come t (Some (end ∷ ends)) = refl

joining_come : (part : ToolPart) (t : ℕ) (way : Option UnderWay) → has_come (joining_moment part way) t ≡ joining_ready part t way
joining_come part t None = refl
joining_come part t (Some (core_to r None)) = refl
joining_come part t (Some (core_to r (Some i))) = end_come t (at_place part.free r)
joining_come part t (Some (domain_to d i)) = refl

or_assoc : (a b c : Bool) → a || (b || c) ≡ a || b || c
or_assoc true b c = refl
or_assoc false b c = refl

soonest_come : (tool : Tool) (t : ℕ) → has_come (soonest_moment tool) t ≡ is_anything_due tool t
soonest_come tool t =
    let way : Option UnderWay = tool.part.under_way in
    either_come (stall_moment tool) (sooner_of (command_moment tool) (joining_moment tool.part way)) t
    ∙ ap (λ b. has_come (stall_moment tool) t || b) (either_come (command_moment tool) (joining_moment tool.part way) t)
    ∙ ap (λ a. a || (has_come (command_moment tool) t || has_come (joining_moment tool.part way) t)) (stall_come tool t)
    ∙ ap (λ b. is_stall_due tool t || (b || has_come (joining_moment tool.part way) t)) (command_come tool t)
    ∙ ap (λ c. is_stall_due tool t || (is_command_due tool t || c)) (joining_come tool.part t way)
    ∙ or_assoc (is_stall_due tool t) (is_command_due tool t) (joining_ready tool.part t way)

pub same_least : (t : ℕ) (p q : ℕ → Bool) → ((later : ℕ) → p later ≡ q later) → (o : Option Moment) → IsLeastLater t p o → IsLeastLater t q o
same_least t p q same None none = λ later after. sym (same later) ∙ none later after
same_least t p q same (Some least) found = (found.0, sym (same least.0) ∙ found.1, λ later after before. sym (same later) ∙ found.2 later after before)

-- the least later moment at which the tool has something to do
pub soonest_least : (tool : Tool) (t : ℕ) → IsLeastLater t (is_anything_due tool) (moment_past t (soonest_moment tool))
soonest_least tool t = same_least t (has_come (soonest_moment tool)) (is_anything_due tool) (soonest_come tool) (moment_past t (soonest_moment tool)) (later_least t (soonest_moment tool))
