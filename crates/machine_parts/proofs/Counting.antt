-- Where a command makes a pool there is a spare one.
use Rattle.std.proofs.Common.{◌≡◌, ◌≤◌, ◌<◌, ◌∙◌, ℕ, zero, suc, Bool, true, false, List, [], ◌∷◌, length, ap, arith}
use Rattle.std.specs.Prelude.{Option, Some, None, filter, slice_get, take, cond}
use Rattle.sched_model.specs.declared.config.SchedKind.{SchedKind}
use Rattle.sched_model.specs.declared.machine.Machine.{Machine}
use Rattle.sched_model.specs.declared.work.CommandLine.{CommandLine}
use Rattle.sched_model.specs.Commands.{is_same_kind}
use Rattle.sched_model.specs.Opening.{most_pools}
use Rattle.sched_model.specs.Places.{at_place}
use Rattle.sched_laws.proofs.EachPlace.{by_cond}
use Rattle.journal_core.specs.Parts.{Outline, ToolPart}
use Rattle.machine_parts.specs.Spares.{Shelf}
use Rattle.machine_parts.specs.Counts.{HasSpares, in_use_of, made_by, makes_at}

-- no more are in use than there are places, and fewer where one is empty
in_use-low : (kind : SchedKind) (places : List (Option Outline)) → in_use_of kind places ≤ length places
in_use-low kind [] = omega arith
in_use-low kind (None ∷ places) = (let rest = in_use-low kind places in omega (arith, rest))
in_use-low kind (Some outline ∷ places) =
    let rest = in_use-low kind places in
    by_cond (λ (n : ℕ). n ≤ length (Some outline ∷ places)) (is_same_kind kind outline.kind) _ _ (λ same. omega (arith, rest)) (λ other. omega (arith, rest))

in_use-fewer : (kind : SchedKind) (places : List (Option Outline)) (i : ℕ) → at_place places i ≡ None → i < length places → in_use_of kind places < length places
in_use-fewer kind [] i at inside = absurd (omega (arith, inside))
in_use-fewer kind (None ∷ places) zero at inside = (let rest = in_use-low kind places in omega (arith, rest))
in_use-fewer kind (Some outline ∷ places) zero at inside = absurd (cc)
in_use-fewer kind (None ∷ places) (suc i) at inside = (let rest = in_use-fewer kind places i at (omega (arith, inside)) in omega (arith, rest))
in_use-fewer kind (Some outline ∷ places) (suc i) at inside =
    let rest = in_use-fewer kind places i at (omega (arith, inside)) in
    by_cond (λ (n : ℕ). n < length (Some outline ∷ places)) (is_same_kind kind outline.kind) _ _ (λ same. omega (arith, rest)) (λ other. omega (arith, rest))

-- the command at n is one more than those before it
made-more : (kind : SchedKind) (lines : List CommandLine) (n : ℕ) (line : CommandLine) → slice_get lines n ≡ Some line → makes_at kind line ≡ true → made_by kind (take n lines) < made_by kind lines
made-more kind [] n line at makes = absurd (cc)
made-more kind (l ∷ lines) zero line at makes = (let here : makes_at kind l ≡ true = (let same : l ≡ line = cc in ap (makes_at kind) same ∙ makes) in by_cond (λ (xs : List CommandLine). 0 < length xs) (makes_at kind l) _ _ (λ is. omega arith) (λ is. absurd (cc)))
made-more kind (l ∷ lines) (suc n) line at makes = both (makes_at kind l) (made-more kind lines n line at makes)
  where
    both : (b : Bool) → made_by kind (take n lines) < made_by kind lines
        → length (cond b (l ∷ filter (makes_at kind) (take n lines)) (filter (makes_at kind) (take n lines))) < length (cond b (l ∷ filter (makes_at kind) lines) (filter (makes_at kind) lines))
    both true rest = omega (arith, rest)
    both false rest = rest

-- a spare pool is there for the command that makes one, where a place is empty
pub spare-there : (m : Machine) (kind : SchedKind) (part : ToolPart) (shelf : Shelf) → HasSpares m kind part shelf → (i : ℕ) → at_place part.pools i ≡ None → i < length part.pools → length part.pools ≡ most_pools
    → (line : CommandLine) → slice_get m.work.commands part.next_command ≡ Some line → makes_at kind line ≡ true → 0 < length shelf.pools
spare-there m kind part shelf has i empty inside places line at makes =
    let fewer = in_use-fewer kind part.pools i empty inside in
    let more = made-more kind m.work.commands part.next_command line at makes in
    let sum = has.sum in
    let made = has.made in
    omega (arith, fewer, more, sum, made, places)
