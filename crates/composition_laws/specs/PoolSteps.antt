-- What an event of one pool leaves as it was.
use Rattle.std.specs.Prelude.{ℕ, ◌≡◌, ◌≢◌, option_map}
use Rattle.sched_model.specs.declared.action.Action.{Action}
use Rattle.sched_model.specs.declared.machine.Machine.{Machine}
use Rattle.sched_model.specs.declared.state.State.{State}
use Rattle.sched_model.specs.Places.{at_place}
use Rattle.sched_model.specs.Pool.{settled_pool, after_in}
use Rattle.sched_model.specs.Machine.{after}
use Rattle.journal_core.specs.Parts.{part_of, home_in}

-- the state after an action of the pool i at t: the pool has done it and its cores were looked at; every other part, the tool's too, each home and
-- the moment are as before
pub record ChangesPool (m : Machine) (s : State) (t : ℕ) (action : Action) (i : ℕ) : Type 0 where
  pub own : at_place (after m s t action).pools i ≡ option_map (λ pool. settled_pool t (after_in m.config.granularity t pool action)) (at_place s.pools i)
  pub others : (k : ℕ) → k ≢ i → part_of (after m s t action) k ≡ part_of s k
  pub homes : (n : ℕ) → home_in m.config (after m s t action) n ≡ home_in m.config s n
  pub now : (after m s t action).now ≡ s.now
