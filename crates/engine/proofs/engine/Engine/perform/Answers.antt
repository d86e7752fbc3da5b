use Rattle.std.proofs.Common.{◌≡◌, ◌∙◌, ℕ, sym, ap}
use Rattle.std.specs.Prelude.{None, Some, option_map}
use Rattle.sched_base.specs.Numbers.{pool as pool_number}
use Rattle.machine_parts.specs.Places.{state_of}
use Rattle.machine_parts.specs.Parts.{event_pool}
use Rattle.sched_model.specs.Standing.{Standing}
use Rattle.machine_parts.proofs.Performing.{first-comes}
use Rattle.engine.proofs.engine.Engine.perform.Goals as goal
use Rattle.machine_parts.proofs.AtPlaces.{number-of, no-number}

pub perform_in_pool-requires-clause-enabled : goal.perform_in_pool-requires-clause-enabled
perform_in_pool-requires-clause-enabled c = first-comes c.args.self.now.machine c.args.self.now.state c.args.action c.requires

pub perform_in_pool-requires-clause-home : goal.perform_in_pool-requires-clause-home
perform_in_pool-requires-clause-home c =
    let in_self = c.self.inside in
    let w = in_self.trail in
    let told : option_map pool_number (event_pool in_self.granularity (state_of w) c.args.action) ≡ Some c.in-Some.i = sym (c.pool_of_event.ensures w.input (state_of w) c.self.invariant.0.parts.known) ∙ c.in-Some.is in
    sym (ap (λ (x : Standing). event_pool x.machine.config.granularity x.state c.args.action) c.self.view_is)
    ∙ ap (λ (g : ℕ). event_pool g (state_of w) c.args.action) (sym c.self.invariant.0.granularity_is) ∙ number-of _ c.in-Some.i told

pub perform_by_tool-requires-clause-enabled : goal.perform_by_tool-requires-clause-enabled
perform_by_tool-requires-clause-enabled c = first-comes c.args.self.now.machine c.args.self.now.state c.args.action c.requires

pub perform_by_tool-requires-clause-no_pool : goal.perform_by_tool-requires-clause-no_pool
perform_by_tool-requires-clause-no_pool c =
    let in_self = c.self.inside in
    let w = in_self.trail in
    let told : option_map pool_number (event_pool in_self.granularity (state_of w) c.args.action) ≡ None = sym (c.pool_of_event.ensures w.input (state_of w) c.self.invariant.0.parts.known) ∙ c.in-None.is in
    sym (ap (λ (x : Standing). event_pool x.machine.config.granularity x.state c.args.action) c.self.view_is)
    ∙ ap (λ (g : ℕ). event_pool g (state_of w) c.args.action) (sym c.self.invariant.0.granularity_is) ∙ no-number _ told
