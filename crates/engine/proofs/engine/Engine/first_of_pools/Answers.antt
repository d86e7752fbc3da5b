use Rattle.std.proofs.Common.{◌≡◌, ◌∙◌, ℕ, List, sym, ap, subst}
use Rattle.std.proofs.lemmas.Option.{IfSome_then}
use Rattle.std.specs.Prelude.{Option, None, take}
use Rattle.sched_model.specs.declared.action.Action.{Action}
use Rattle.sched_model.specs.Machine.{first_enabled_action}
use Rattle.sched_model.specs.Standing.{Standing}
use Rattle.composition_laws.specs.WholeFirst.{first_tool_action}
use Rattle.pool_core.specs.Seen.{Seen}
use Rattle.cpupool.specs.Tool.{Tool}
use Rattle.machine_parts.specs.Parts.{AreFirsts, AreParts, IsFirstOfPool, event_pool}
use Rattle.machine_parts.specs.Places.{state_of}
use Rattle.machine_parts.specs.Told.{Told}
use Rattle.engine.proofs.Kept.{firsts-taken}
use Rattle.engine.proofs.Quiet.{none-of}
use Rattle.engine.proofs.engine.Engine.first_of_pools.Goals as goal

-- the first events that are handed in are those of the pools
firsts-are : (c : goal.After-pools_first) → AreFirsts c.self.inside.moment.0 c.self.inside.slots.items (take c.self.inside.busy c.deref.result.now)
firsts-are c =
    let in_self = c.self.inside in
    subst (λ (firsts : List (Option Action)). AreFirsts in_self.moment.0 in_self.slots.items (take in_self.busy firsts)) (sym c.deref.ensures.value)
    (firsts-taken in_self.moment.0 in_self.busy in_self.slots.items in_self.firsts.items c.self.invariant.1 c.self.invariant.0.kept.firsts_are)

nothing-of-tool : (c : goal.After-pools_first) → first_tool_action c.self.inside.trail.input (state_of c.self.inside.trail) c.self.inside.moment.0 ≡ None
nothing-of-tool c =
    let w = c.self.inside.trail in
    ap (first_tool_action w.input (state_of w)) c.self.invariant.0.now_is ∙ ap (λ (x : Standing). first_tool_action x.machine x.state x.state.now) c.self.view_is ∙ c.requires

first-is : (c : goal.After-pools_first) → first_enabled_action c.self.inside.trail.input (state_of c.self.inside.trail) c.self.inside.moment.0 ≡ first_enabled_action c.args.self.now.machine c.args.self.now.state c.args.self.now.state.now
first-is c =
    let w = c.self.inside.trail in
    ap (first_enabled_action w.input (state_of w)) c.self.invariant.0.now_is ∙ ap (λ (x : Standing). first_enabled_action x.machine x.state x.state.now) c.self.view_is

abbrev Asked : goal.After-pools_first → (Told → ℕ → Type 0) → Type 0
Asked c P = (w : Told) (slots : List (Option Seen)) (tool : Tool) (t : ℕ) → AreParts w slots tool → AreFirsts t slots (take c.self.inside.busy c.deref.result.now) → first_tool_action w.input (state_of w) t ≡ None → P w t

-- what is said of all machines is so of this one
here : (c : goal.After-pools_first) (P : Told → ℕ → Type 0) → Asked c P → P c.self.inside.trail c.self.inside.moment.0
here c P all =
    let in_self = c.self.inside in
    all in_self.trail in_self.slots.items in_self.tool in_self.moment.0 c.self.invariant.0.parts (firsts-are c) (nothing-of-tool c)

pub returns-clause-none : goal.returns-clause-none
returns-clause-none c =
    let nothing : Told → ℕ → Type 0 = λ w t. first_enabled_action w.input (state_of w) t ≡ None in
    none-of c.pools_first.result (Asked c nothing) _ (λ all. sym (first-is c) ∙ here c nothing all) c.pools_first.ensures.none

pub returns-clause-first : goal.returns-clause-first
returns-clause-first c =
    IfSome_then c.pools_first.result c.pools_first.ensures.some
    (λ found all. sym (first-is c) ∙ (here c (λ w t. IsFirstOfPool w t found.0 found.1) all).first)

pub returns-clause-home : goal.returns-clause-home
returns-clause-home c =
    IfSome_then c.pools_first.result c.pools_first.ensures.some
    (λ found all. sym (ap (λ (x : Standing). event_pool x.machine.config.granularity x.state found.1) c.self.view_is) ∙ (here c (λ w t. IsFirstOfPool w t found.0 found.1) all).of_pool)
